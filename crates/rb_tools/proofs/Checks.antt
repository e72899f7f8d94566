-- From what was written and told to what a check did.
use Rattle.std.proofs.Common.{◌≡◌, ◌≢◌, ◌⊎◌, ℕ, Bool, List, [], refl, ap, sym, ◌∙◌, subst, Option, Some, None, Result, Ok, Err, IfOk, IfErr, MatchResult, inl, inr, arith}
use Rattle.rb_causes.specs.Causes.{Rose}
use Rattle.rb_causes.specs.Outside.{Fetched, bytes_at}
use Rattle.rb_causes.specs.Sinks.{SinkState, Wrote, Cut, StopsAtFault}
use Rattle.rb_causes.specs.declared.shelf.File.{File}
use Rattle.rb_causes.specs.declared.trouble.NoMemory.{NoMemory}
use Rattle.rb_causes.specs.declared.trouble.Trouble.TheVariants as trouble
use Rattle.rb_command.proofs.FaultLines.{stops_told}
use Rattle.rb_command.specs.Forms.{command_of}
use Rattle.rb_command.specs.Lines.{memory_line}
use Rattle.rb_command.specs.Told.{Tells}
use Rattle.rb_command.specs.declared.command.Command.{Command}
use Rattle.rb_command.specs.declared.command.Command.TheVariants.{Drill, CheckNodes, CheckJobs, CheckPolicy, Explain, Next, Demo}
use Rattle.rb_inventory.specs.declared.inventory.Inventory.{Inventory}
use Rattle.rb_node.specs.declared.node.Node.{Node}
use Rattle.rb_tools.specs.Answers.{ToolAnswers, ToolAnswersTo, choice_of}
use Rattle.rb_tools.specs.Demo.{wanting}
use Rattle.rb_tools.specs.Kinds.{refusal_status}
use Rattle.rb_tools.specs.Nodes.{count_text, file_nodes, FileHolds, RefusesNodes, ReadsNodes}
use Rattle.rb_tools.specs.Printing.{Checks, Answered, Prints, GivesText, wanted, unread, not_fetched, read, whole, cut}
use Rattle.rb_tools.specs.Laws.{CountsNodes}
use Rattle.rb_tools.specs.declared.refusal.ToolRefusal.{ToolRefusal}
use Rattle.rb_tools.specs.declared.refusal.ToolRefusal.TheVariants as refusals

-- behind a want of memory that is told, nothing is taken behind the first failed write
pub stops_wanted : {text : List ℕ} {s0 s1 s2 : SinkState} → Cut trouble.NoMemory text s0 s1 → Tells memory_line s1 s2 → StopsAtFault s0 s2
stops_wanted part told =
    let behind = stops_told told in
    record {
      faults = omega (arith, part.stopped.faults, behind.faults);
      wants = omega (arith, part.stopped.wants, behind.wants);
      stops = λ none. behind.stops (part.stopped.at_fault ∙ none);
    }

-- what was read of a file that was fetched, and was given
pub checks_read : {T : Type 0} (bytes_of : T → List ℕ) {Reads : List ℕ → Result (List ℕ) ToolRefusal → Type 0} {files : Option (List File)} {file : List ℕ} (f f' : ℕ) {status : ℕ} {s0 s1 s2 : SinkState}
    (bytes : List ℕ) (reading : Result T ToolRefusal) → Fetched files file (Some bytes) → f' ≡ f
    → IfOk reading (λ text. Reads bytes (Ok (bytes_of text))) → IfErr reading (λ refusal. Reads bytes (Err refusal))
    → MatchResult reading (λ text. GivesText file (Ok (bytes_of text)) status s1 s2) (λ refusal. GivesText file (Err refusal) status s1 s2) → s1 ≡ s0
    → Checks Reads files file f f' status s0 s2
checks_read bytes_of {Reads} {files} {file} f f' {status} {s2 = s2} bytes (Ok text) fetched same good refused gives silent =
    read bytes (Ok (bytes_of text)) fetched same good (subst (λ s. GivesText file (Ok (bytes_of text)) status s s2) silent gives)
checks_read bytes_of {Reads} {files} {file} f f' {status} {s2 = s2} bytes (Err refusal) fetched same good refused gives silent =
    read bytes (Err refusal) fetched same refused (subst (λ s. GivesText file (Err refusal) status s s2) silent gives)

-- what was read of the words, and was given
pub answered_read : {T : Type 0} (bytes_of : T → List ℕ) {Reads : Result (List ℕ) ToolRefusal → Type 0} {status : ℕ} {s s' : SinkState} (reading : Result T ToolRefusal)
    → IfOk reading (λ text. Reads (Ok (bytes_of text))) → IfErr reading (λ refusal. Reads (Err refusal))
    → MatchResult reading (λ text. GivesText [] (Ok (bytes_of text)) status s s') (λ refusal. GivesText [] (Err refusal) status s s')
    → Answered Reads status s s'
answered_read bytes_of (Ok text) good refused gives = (Ok (bytes_of text), good, gives)
answered_read bytes_of (Err refusal) good refused gives = (Err refusal, refused, gives)

-- Memory was wanting before the command was known: so there is one.
starves : (files : Option (List File)) (command : Option Command) (f f' : ℕ) {s s' : SinkState} → f' ≡ f → command ≢ None → Tells memory_line s s' → ToolAnswersTo files command f f' 7 s s'
starves files None f f' same some told = absurd (some refl)
starves files (Some (Drill file)) f f' same some told = inr (refl, told)
starves files (Some (CheckJobs file)) f f' same some told = unread refl told
starves files (Some (CheckPolicy file)) f f' same some told = unread refl told
starves files (Some (Explain file caller here resource action)) f f' same some told = unread refl told
starves files (Some (Next crontab zone after count)) f f' same some told = (same, (Err refusals.NoMemory, inl (record {}), (refl, told)))
starves files (Some (Demo nodes)) f f' same some told = (same, wanting refl told)
starves files (Some (CheckNodes file filter exclude_first)) f f' same some told = unread refl told

pub starved : (files : Option (List File)) (words : List (List ℕ)) (e : NoMemory) (f f' : ℕ) {s s' : SinkState} → f' ≡ f →
    (command_of words ≡ None → ◌≡◌ {A = Result (Option Command) NoMemory} (Err e) (Ok None)) → Tells memory_line s s' → ToolAnswers files words f f' 7 s s'
starved files words e f f' same none told = starves files (command_of words) f f' same (λ is_none. err_is_not_ok (none is_none)) told
  where
    fails : Result (Option Command) NoMemory → Type 0
    fails (Ok x) = ⊥
    fails (Err x) = Unit {0}

    err_is_not_ok : ◌≡◌ {A = Result (Option Command) NoMemory} (Err e) (Ok None) → ⊥
    err_is_not_ok p = subst fails p (record {})

-- ---- where nothing outside fails

none_rose : (f f' : ℕ) → f' ≡ 0 → Rose f f' → ⊥
none_rose f f' none rose = omega arith

abbrev nodes_or : Result Inventory ToolRefusal → List Node
nodes_or (Ok inventory) = inventory.nodes
nodes_or (Err refusal) = []

module _ (held : List File) (file bytes : List ℕ) (nodes : List Node) (exclude_first : Bool) (there : bytes_at held file ≡ Some bytes) (held_nodes : FileHolds bytes nodes) where
  absent_not_there : Fetched (Some held) file None → ⊥
  absent_not_there absent = cc

  same_bytes : (b : List ℕ) → Fetched (Some held) file (Some b) → bytes ≡ b
  same_bytes b fetched = let both : Some bytes ≡ Some b = sym there ∙ sym fetched in cc

  same_nodes : (b : List ℕ) (others : List Node) → Fetched (Some held) file (Some b) → FileHolds b others → others ≡ nodes
  same_nodes b others fetched holds =
      let both : ◌≡◌ {A = Result Inventory ToolRefusal} (Ok (record { nodes = nodes })) (Ok (record { nodes = others })) = sym held_nodes ∙ ap file_nodes (same_bytes b fetched) ∙ holds in
      sym (ap nodes_or both)

  never_refused : (b : List ℕ) (refusal : ToolRefusal) → Fetched (Some held) file (Some b) → file_nodes b ≡ Err refusal → ⊥
  never_refused b refusal fetched faulty =
      let both : ◌≡◌ {A = Result Inventory ToolRefusal} (Ok (record { nodes = nodes })) (Err refusal) = sym held_nodes ∙ ap file_nodes (same_bytes b fetched) ∙ faulty in cc

  refused_is_wanting : (refusal : ToolRefusal) (b : List ℕ) {status : ℕ} → Fetched (Some held) file (Some b) → RefusesNodes b None refusal → status ≡ refusal_status refusal → status ≡ 7
  refused_is_wanting (refusals.Yaml fault) b fetched reason told = absurd (never_refused b (refusals.Yaml fault) fetched reason)
  refused_is_wanting (refusals.Node fault) b fetched reason told = absurd (never_refused b (refusals.Node fault) fetched reason)
  refused_is_wanting (refusals.Policy fault) b fetched reason told = elim reason [ ]
  refused_is_wanting (refusals.Job fault) b fetched reason told = elim reason [ ]
  refused_is_wanting (refusals.Crontab error) b fetched reason told = elim reason [ ]
  refused_is_wanting refusals.Zone b fetched reason told = elim reason [ ]
  refused_is_wanting (refusals.Filter error) b fetched (others, holds, text, asked, unfit) told = let never : ⊥ = cc in absurd never
  refused_is_wanting refusals.NoMemory b fetched reason told = told

  abbrev Counted : ℕ → SinkState → SinkState → Type 0
  Counted status s s' = ((status ≡ 0) × Wrote (count_text nodes) s s') ⊎ (status ≡ 7)

  prints_steadily : {status : ℕ} {s s' : SinkState} → s'.faults ≡ 0 → Prints (count_text nodes) status s s' → Counted status s s'
  prints_steadily steady (whole e wrote) = inl (e, wrote)
  prints_steadily {s = s} {s' = s'} steady (cut e part) = absurd (none_rose s.faults s'.faults steady part.stopped.failed)
  prints_steadily steady (wanted e part told) = inr e

  given : (status : ℕ) {s s' : SinkState} (b : List ℕ) (reading : Result (List ℕ) ToolRefusal) → s'.faults ≡ 0 → Fetched (Some held) file (Some b)
      → ReadsNodes (choice_of None exclude_first) b reading → GivesText file reading status s s' → Counted status s s'
  given status {s} {s'} b (Ok text) steady fetched (others, holds, asked, is) prints =
      prints_steadily steady (subst (λ t. Prints t status s s') (is ∙ ap count_text (same_nodes b others fetched holds)) prints)
  given status b (Err refusal) steady fetched reason (e, told) = inr (refused_is_wanting refusal b fetched reason e)

  counted : (f f' status : ℕ) {s s' : SinkState} → f' ≡ 0 → s'.faults ≡ 0 → Checks (ReadsNodes (choice_of None exclude_first)) (Some held) file f f' status s s' → Counted status s s'
  counted f f' status calm steady (unread e told) = inr e
  counted f f' status calm steady (not_fetched (inl absent)) = absurd (absent_not_there absent.1)
  counted f f' status calm steady (not_fetched (inr (inl failed))) = absurd (none_rose f f' calm failed.1)
  counted f f' status calm steady (not_fetched (inr (inr memory))) = inr memory.0
  counted f f' status calm steady (read b reading fetched same reads gives) = given status b reading steady fetched reads gives

  answers_steadily : (command : Option Command) (f f' status : ℕ) {s s' : SinkState} → f' ≡ 0 → s'.faults ≡ 0 → command ≡ Some (CheckNodes file None exclude_first)
      → ToolAnswersTo (Some held) command f f' status s s' → Counted status s s'
  answers_steadily command f f' status {s} {s'} calm steady asked answers =
      counted f f' status calm steady (subst (λ c. ToolAnswersTo (Some held) c f f' status s s') asked answers)

pub counts_nodes : (files : Option (List File)) (words : List (List ℕ)) (f f' status : ℕ) (s s' : SinkState) → f' ≡ 0 → s'.faults ≡ 0 → ToolAnswers files words f f' status s s'
    → CountsNodes files words status s s'
counts_nodes files words f f' status s s' calm steady answers held file exclude_first nodes are asked (bytes, there, holds) =
    answers_steadily held file bytes nodes exclude_first there holds (command_of words) f f' status calm steady asked
    (subst (λ fs. ToolAnswers fs words f f' status s s') are answers)
