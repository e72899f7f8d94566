-- Which of a document's flaws is told.
use Rattle.std.specs.Prelude.{ℕ, List, [], ◌∷◌, Option, Some, None, nat_le, if◌then◌else◌}
use Rattle.rb_acl_doc.specs.declared.fault.AclKind.{AclKind}
use Rattle.rb_acl_doc.specs.declared.fault.AclKind.TheVariants.{MissingContext, MissingBy, MissingFor, UnknownKey, BadPattern, NoAction, BadShape}

-- the place of a kind in the order of kinds
abbrev pub kind_rank : AclKind → ℕ
kind_rank (UnknownKey key) = 0
kind_rank MissingContext = 1
kind_rank MissingBy = 2
kind_rank MissingFor = 3
kind_rank (BadShape key) = 4
kind_rank (BadPattern e) = 5
kind_rank NoAction = 6

-- of two flaws the one whose kind comes first; of one kind the first as written
abbrev pub sooner : Option AclKind → Option AclKind → Option AclKind
sooner None b = b
sooner (Some a) None = Some a
sooner (Some a) (Some b) = if nat_le (kind_rank a) (kind_rank b) then Some a else Some b

-- so of all flaws, as they are written
abbrev pub foremost_kind : List AclKind → Option AclKind
foremost_kind [] = None
foremost_kind (flaw ∷ flaws) = sooner (Some flaw) (foremost_kind flaws)
