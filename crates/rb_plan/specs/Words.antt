-- The words of a leaf: what is run for a command on a node.
use Rattle.std.specs.Prelude.{ℕ, List, [], ◌∷◌, ◌++◌, map, codes, find, bytes_eq, slice_get, Option, option_map, unwrap_or}
use Rattle.std.specs.Option.{option_and_then}
use Rattle.std.specs.Fmt.{decimal}
use Rattle.rb_causes.specs.Signs.{comma}
use Rattle.rb_causes.specs.Texts.{joined}
use Rattle.rb_causes.specs.Words.{words_of}
use Rattle.rb_causes.specs.declared.items.Prop.{Prop}
use Rattle.rb_expand.specs.Expanded.{words_expanded, script_expanded}
use Rattle.rb_job.specs.declared.job.JobAct.{JobAct}
use Rattle.rb_job.specs.declared.job.JobAct.TheVariants.{Exec, Script, Refer}
use Rattle.rb_marks.specs.declared.mark.Leaf.{Leaf}
use Rattle.rb_node.specs.declared.node.Node.{Node}
use Rattle.rb_plan.specs.Acceptance.{Acceptance}
use Rattle.rb_plan.specs.Access.{property}
use Rattle.rb_plan.specs.Inlined.{option_name, own_names}
use Rattle.rb_plan.specs.declared.accepted.Command.{Command}

-- an attribute under its whole name
abbrev pub node_name_prop : Prop → Prop
node_name_prop p = property (codes "node." ++ p.key) p.text

-- what is told of a node: its attributes, its name under both its names, and its tags
abbrev pub node_names : Node → List Prop
node_names node =
    map node_name_prop node.attrs
    ++ property (codes "node.name") node.name ∷ property (codes "node.nodename") node.name
    ∷ property (codes "node.tags") (joined comma node.tags) ∷ []

-- what is told of the job in which a command stands, and of the execution
abbrev pub job_names : Command → List ℕ → ℕ → List ℕ → List Prop
job_names command project execution user =
    own_names command.job_name command.job_group command.job_id
    ++ property (codes "job.project") project
    ∷ property (codes "job.execid") (decimal execution)
    ∷ property (codes "job.username") user
    ∷ []

-- all names of a command on a node
abbrev pub leaf_names : Command → Node → List ℕ → ℕ → List ℕ → List Prop
leaf_names command node project execution user =
    map option_name command.values ++ (node_names node ++ job_names command project execution user)

-- the prefix words by which a node is reached
abbrev pub prefix_words : Node → List (List ℕ)
prefix_words node =
    unwrap_or
    (option_and_then (λ p. words_of p.text)
    (find (λ p. bytes_eq p.key (codes "desk-exec")) node.attrs)) []

-- the words that hand a script and its arguments to a shell
abbrev pub script_words : List Prop → List ℕ → List (List ℕ) → List (List ℕ)
script_words names text args =
    codes "sh" ∷ codes "-c" ∷ script_expanded names text ∷ codes "script"
    ∷ words_expanded names args

-- the words of an act: those of a command, or of a script
abbrev pub act_words : List Prop → JobAct → List (List ℕ)
act_words names (Exec words) = words_expanded names words
act_words names (Script text args) = script_words names text args
act_words names (Refer group name args) = []

-- the words of a command on a node
abbrev pub command_words : List ℕ → Node → Command → ℕ → List ℕ → List (List ℕ)
command_words project node command execution user =
    let names : List Prop = leaf_names command node project execution user in
    words_expanded names (prefix_words node) ++ act_words names command.act

-- the words of a leaf, where there is one
abbrev pub words_at : Acceptance → Leaf → ℕ → List ℕ → Option (List (List ℕ))
words_at a leaf execution user =
    option_and_then
    (λ node. option_map (λ command. command_words a.project node command execution user)
    (slice_get a.commands leaf.slot))
    (slice_get a.nodes leaf.node)
