-- What the top call of the tools does.
use Rattle.std.specs.Prelude.{◌≡◌, ℕ, Bool, List, Option, Some, None}
use Rattle.rb_causes.specs.Sinks.{SinkState}
use Rattle.rb_causes.specs.declared.shelf.File.{File}
use Rattle.rb_command.specs.Forms.{command_of}
use Rattle.rb_command.specs.Lines.{usage_line}
use Rattle.rb_command.specs.Told.{Tells, ToldNoForm}
use Rattle.rb_command.specs.declared.command.Command.{Command}
use Rattle.rb_command.specs.declared.command.Command.TheVariants.{Drill, CheckNodes, CheckJobs, CheckPolicy, Explain, Next, Demo}
use Rattle.rb_acl.specs.Applying.{question_of}
use Rattle.rb_tools.specs.Demo.{PrintsDemo}
use Rattle.rb_tools.specs.Instants.{ReadsInstants}
use Rattle.rb_tools.specs.Jobs.{ReadsJobs}
use Rattle.rb_tools.specs.Nodes.{ReadsNodes}
use Rattle.rb_tools.specs.Policies.{ReadsDocuments, ReadsDecision}
use Rattle.rb_tools.specs.Printing.{Checks, Answered}
use Rattle.rb_tools.specs.declared.nodes.NodeChoice.{NodeChoice}

abbrev pub choice_of : Option (List ℕ) → Bool → NodeChoice
choice_of filter exclude_first = record { filter = filter; exclude_first = exclude_first }

-- What a command did, by its form. Words of no form are told as such, and so is a drill, which is
-- no tool's.
abbrev pub ToolAnswersTo : Option (List File) → Option Command → (faults faults' : ℕ) → ℕ
    → SinkState → SinkState → Type 0
ToolAnswersTo files None faults faults' status before after =
    (status ≡ 2) × Tells usage_line before after
ToolAnswersTo files
    (Some (CheckNodes file filter exclude_first)) faults faults' status before after =
    Checks (ReadsNodes (choice_of filter exclude_first)) files file
    faults faults' status before after
ToolAnswersTo files (Some (CheckJobs file)) faults faults' status before after =
    Checks ReadsJobs files file faults faults' status before after
ToolAnswersTo files (Some (CheckPolicy file)) faults faults' status before after =
    Checks ReadsDocuments files file faults faults' status before after
ToolAnswersTo files (Some (Explain file caller here resource action)) faults faults' status before
    after =
    let question = question_of caller here resource action in
    Checks (ReadsDecision file question) files file faults faults' status before after
ToolAnswersTo files (Some (Next crontab zone earlier count)) faults faults' status before after =
    (faults' ≡ faults) × Answered (ReadsInstants crontab zone earlier count) status before after
ToolAnswersTo files (Some (Demo nodes)) faults faults' status before after =
    (faults' ≡ faults) × PrintsDemo nodes status before after
ToolAnswersTo files (Some (Drill file)) faults faults' status before after =
    ToldNoForm status before after

-- What these words did.
abbrev pub ToolAnswers : Option (List File) → List (List ℕ) → (faults faults' : ℕ) → ℕ
    → SinkState → SinkState → Type 0
ToolAnswers files words faults faults' status before after =
    ToolAnswersTo files (command_of words) faults faults' status before after
