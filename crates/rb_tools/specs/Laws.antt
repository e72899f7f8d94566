-- What the answers of a check mean for those who rest on it.
use Rattle.std.specs.Prelude.{◌≡◌, ◌⊎◌, ℕ, Bool, List, Option, Some, None}
use Rattle.rb_causes.specs.Outside.{bytes_at}
use Rattle.rb_causes.specs.Sinks.{SinkState, Wrote}
use Rattle.rb_causes.specs.declared.shelf.File.{File}
use Rattle.rb_command.specs.Forms.{command_of}
use Rattle.rb_command.specs.declared.command.Command.TheVariants.{CheckNodes}
use Rattle.rb_node.specs.declared.node.Node.{Node}
use Rattle.rb_tools.specs.Nodes.{FileHolds, count_text}

-- the shelf has a file of this name that holds these nodes
abbrev pub HasNodes : List File → List ℕ → List Node → Type 0
HasNodes held file nodes =
    (bytes : List ℕ) × (bytes_at held file ≡ Some bytes) × FileHolds bytes nodes

-- Where nothing outside fails and no filter is given: the nodes of a file are counted, or memory is
-- wanting.
abbrev pub CountsNodes : Option (List File) → List (List ℕ) → ℕ → SinkState → SinkState → Type 0
CountsNodes files words status before after =
    (held : List File) (file : List ℕ) (exclude_first : Bool) (nodes : List Node)
    → files ≡ Some held → command_of words ≡ Some (CheckNodes file None exclude_first)
    → HasNodes held file nodes
    → ((status ≡ 0) × Wrote (count_text nodes) before after) ⊎ (status ≡ 7)
