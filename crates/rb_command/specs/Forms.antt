-- What the words of the command line ask for.
use Rattle.std.specs.Prelude.{ℕ, true, List, [], ◌∷◌, Option, Some, None, option_map, bytes_eq, codes, if◌then◌else◌}
use Rattle.rb_causes.specs.Texts.{truth_of}
use Rattle.rb_command.specs.declared.command.Command.{Command}
use Rattle.rb_command.specs.declared.command.Command.TheVariants.{Drill, CheckNodes, CheckJobs, CheckPolicy}
use Rattle.rb_command.specs.ExplainWords.{explain_of}
use Rattle.rb_command.specs.NextWords.{next_command}
use Rattle.rb_command.specs.DemoWords.{demo_of}

-- FILE alone, for this command
abbrev pub file_alone : (List ℕ → Command) → List (List ℕ) → Option Command
file_alone command [] = None
file_alone command (file ∷ []) = Some (command file)
file_alone command (file ∷ more ∷ words) = None

-- FILE FILTER PRECEDENCE
abbrev pub selection_of : List ℕ → List ℕ → List ℕ → Option Command
selection_of file filter precedence =
    option_map (λ first. CheckNodes file (Some filter) first) (truth_of precedence)

-- check nodes: FILE, or FILE FILTER PRECEDENCE
abbrev pub check_nodes_of : List (List ℕ) → Option Command
check_nodes_of [] = None
check_nodes_of (file ∷ []) = Some (CheckNodes file None true)
check_nodes_of (file ∷ filter ∷ []) = None
check_nodes_of (file ∷ filter ∷ precedence ∷ []) = selection_of file filter precedence
check_nodes_of (file ∷ filter ∷ precedence ∷ more ∷ words) = None

-- check: the kind of documents, and then its words
abbrev pub check_of : List (List ℕ) → Option Command
check_of [] = None
check_of (kind ∷ words) =
    if bytes_eq kind (codes "nodes") then check_nodes_of words
    else if bytes_eq kind (codes "jobs") then file_alone CheckJobs words
    else if bytes_eq kind (codes "policy") then file_alone CheckPolicy words
    else None

-- the forms that ask a question
abbrev pub question_form : List ℕ → List (List ℕ) → Option Command
question_form form words =
    if bytes_eq form (codes "explain") then explain_of words
    else if bytes_eq form (codes "next") then next_command words
    else None

-- the words of this form; all other forms are none
abbrev pub by_form : List ℕ → List (List ℕ) → Option Command
by_form form words =
    if bytes_eq form (codes "drill") then file_alone Drill words
    else if bytes_eq form (codes "check") then check_of words
    else if bytes_eq form (codes "demo") then demo_of words
    else question_form form words

-- the command of the words: their form, and then its words
abbrev pub command_of : List (List ℕ) → Option Command
command_of [] = None
command_of (form ∷ words) = by_form form words
