-- What `check nodes` prints of a file's bytes, and why it is refused.
use Rattle.std.specs.Prelude.{◌≡◌, ◌≢◌, ◌≤◌, ◌<◌, ℕ, Bool, true, false, ◌&&◌, nat_eq, List, [], ◌∷◌, length, filter, codes, decimal, Option, Some, None, Result, Ok, Err}
use Rattle.std.specs.List.{flat_map}
use Rattle.rb_command.specs.Lines.{line_of}
use Rattle.rb_yaml.specs.Documents.{docs_of}
use Rattle.rb_yaml.specs.Tree.{YamlTree}
use Rattle.rb_yaml.specs.declared.fault.YamlFault.{YamlFault}
use Rattle.rb_inventory.specs.Inventories.{inventory_of}
use Rattle.rb_inventory.specs.declared.fault.NodeFault.{NodeFault}
use Rattle.rb_inventory.specs.declared.fault.NodeKind.{NodeKind}
use Rattle.rb_inventory.specs.declared.fault.NodeKind.TheVariants as nodes
use Rattle.rb_inventory.specs.declared.inventory.Inventory.{Inventory}
use Rattle.rb_node.specs.Filters.{selects, IsFirstFaultIn, IsReadFilter}
use Rattle.rb_node.specs.declared.filter_err.FilterErr.{FilterErr}
use Rattle.rb_node.specs.declared.filter_err.FilterErr.TheVariants as filters
use Rattle.rb_node.specs.declared.node.Node.{Node}
use Rattle.rb_tools.specs.declared.nodes.NodeChoice.{NodeChoice}
use Rattle.rb_tools.specs.declared.refusal.ToolRefusal.{ToolRefusal}
use Rattle.rb_tools.specs.declared.refusal.ToolRefusal.TheVariants.{Yaml, Node as OfNode, Policy, Job, Filter, Crontab, Zone, NoMemory}

-- ---- the nodes of a file

abbrev pub by_inventory : Result Inventory NodeFault → Result Inventory ToolRefusal
by_inventory (Ok inventory) = Ok inventory
by_inventory (Err fault) = Err (OfNode fault)

-- the inventory of documents, or the fault of the first faulty node
abbrev pub nodes_in : List YamlTree → Result Inventory ToolRefusal
nodes_in docs = by_inventory (inventory_of docs)

abbrev pub by_docs : Result (List YamlTree) YamlFault → Result Inventory ToolRefusal
by_docs (Ok docs) = nodes_in docs
by_docs (Err fault) = Err (Yaml fault)

-- the inventory of a file's bytes, or the first rule of YAML that they break, or the fault of the
-- first faulty node
abbrev pub file_nodes : List ℕ → Result Inventory ToolRefusal
file_nodes bytes = by_docs (docs_of bytes)

-- the fault is that of the reading; want of memory says nothing
abbrev pub IsFaultOfNodes : Result Inventory ToolRefusal → ToolRefusal → Type 0
IsFaultOfNodes read NoMemory = Unit {0}
IsFaultOfNodes read (Yaml fault) = read ≡ Err (Yaml fault)
IsFaultOfNodes read (OfNode fault) = read ≡ Err (OfNode fault)
IsFaultOfNodes read (Policy fault) = ⊥
IsFaultOfNodes read (Job fault) = ⊥
IsFaultOfNodes read (Filter error) = ⊥
IsFaultOfNodes read (Crontab error) = ⊥
IsFaultOfNodes read Zone = ⊥

abbrev pub wants_map : NodeKind → Bool
wants_map nodes.NotMap = true
wants_map nodes.BadTags = false
wants_map nodes.TooMany = false
wants_map nodes.BadValue = false
wants_map nodes.BadExec = false
wants_map nodes.Twice = false

-- the fault of no map, told of no name: of a document, or of the node of the empty name
abbrev pub is_no_map : Result Inventory ToolRefusal → Bool
is_no_map (Ok inventory) = false
is_no_map (Err (Yaml fault)) = false
is_no_map (Err (OfNode fault)) = nat_eq (length fault.node) 0 && wants_map fault.kind
is_no_map (Err (Policy fault)) = false
is_no_map (Err (Job fault)) = false
is_no_map (Err (Filter error)) = false
is_no_map (Err (Crontab error)) = false
is_no_map (Err Zone) = false
is_no_map (Err NoMemory) = false

-- ---- what is printed

-- the nodes that a filter selects, in their order
abbrev pub filtered_nodes : List ℕ → Bool → List Node → List Node
filtered_nodes text exclude_first nodes = filter (λ node. selects text exclude_first node) nodes

-- a name with a line end
abbrev pub name_line : Node → List ℕ
name_line node = line_of (node.name ∷ [])

-- how many nodes there are
abbrev pub count_text : List Node → List ℕ
count_text nodes = line_of (decimal (length nodes) ∷ codes " nodes" ∷ [])

abbrev pub nodes_text : Option (List ℕ) → Bool → List Node → List ℕ
nodes_text None exclude_first nodes = count_text nodes
nodes_text (Some text) exclude_first nodes =
    flat_map name_line (filtered_nodes text exclude_first nodes)

-- what is printed of these nodes
abbrev pub choice_text : NodeChoice → List Node → List ℕ
choice_text choice nodes = nodes_text choice.filter choice.exclude_first nodes

-- ---- the filter

-- A filter that is refused: with the first fault of its text, and TooLong where it is too long.
pub record IsFilterRefused (text : List ℕ) (error : FilterErr) : Type 0 where
  pub known : error ≢ filters.NoMemory
  pub long : 1024 < length text → error ≡ filters.TooLong
  pub first : length text ≤ 1024 → IsFirstFaultIn text error

-- why a filter stops the tool
abbrev pub IsFilterFault : Option (List ℕ) → ToolRefusal → Type 0
IsFilterFault asked NoMemory = Unit {0}
IsFilterFault asked (Yaml fault) = ⊥
IsFilterFault asked (OfNode fault) = ⊥
IsFilterFault asked (Policy fault) = ⊥
IsFilterFault asked (Job fault) = ⊥
IsFilterFault asked (Crontab error) = ⊥
IsFilterFault asked Zone = ⊥
IsFilterFault asked (Filter error) =
    (text : List ℕ) × (asked ≡ Some text) × IsFilterRefused text error

-- ---- what is read of a file

-- the file holds these nodes
abbrev pub FileHolds : List ℕ → List Node → Type 0
FileHolds bytes nodes = file_nodes bytes ≡ Ok (record { nodes = nodes })

-- Why nothing is printed of a file's bytes: they give no nodes; or they do, and the filter is
-- refused.
abbrev pub RefusesNodes : List ℕ → Option (List ℕ) → ToolRefusal → Type 0
RefusesNodes bytes asked NoMemory = Unit {0}
RefusesNodes bytes asked (Yaml fault) = file_nodes bytes ≡ Err (Yaml fault)
RefusesNodes bytes asked (OfNode fault) = file_nodes bytes ≡ Err (OfNode fault)
RefusesNodes bytes asked (Policy fault) = ⊥
RefusesNodes bytes asked (Job fault) = ⊥
RefusesNodes bytes asked (Crontab error) = ⊥
RefusesNodes bytes asked Zone = ⊥
RefusesNodes bytes asked (Filter error) =
    (nodes : List Node) × FileHolds bytes nodes × (text : List ℕ) × (asked ≡ Some text)
    × IsFilterRefused text error

-- What is read of a file's bytes: its nodes, in the text that the choice asks for, where the filter
-- is read too; or why there is none.
abbrev pub ReadsNodes : NodeChoice → List ℕ → Result (List ℕ) ToolRefusal → Type 0
ReadsNodes choice bytes (Ok text) =
    (nodes : List Node) × FileHolds bytes nodes × IsReadFilter choice.filter
    × (text ≡ choice_text choice nodes)
ReadsNodes choice bytes (Err refusal) = RefusesNodes bytes choice.filter refusal
