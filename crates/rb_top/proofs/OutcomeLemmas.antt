-- From what was played to what a drill answers.
use Rattle.std.proofs.Common.{◌≡◌, ◌≢◌, ◌⊎◌, ℕ, List, Option, Some, None, Ok, Err, refl, ap, sym, ◌∙◌, inl, inr, arith, subst, Result}
use Rattle.rb_causes.specs.Causes.{Rose}
use Rattle.rb_causes.specs.Outside.{Fetched, bytes_at}
use Rattle.rb_causes.specs.Sinks.{SinkState, StopsAtFault}
use Rattle.rb_causes.specs.Spawners.{ShownRuns}
use Rattle.rb_causes.specs.declared.shelf.File.{File}
use Rattle.rb_causes.specs.declared.trouble.NoMemory.{NoMemory}
use Rattle.rb_causes.specs.declared.trouble.Trouble.{Trouble}
use Rattle.rb_causes.specs.declared.trouble.Trouble.TheVariants as trouble
use Rattle.rb_causes.specs.declared.spawner.SpawnRun.{SpawnRun}
use Rattle.rb_causes.proofs.Written.{stops_stopped, stops_then}
use Rattle.rb_command.proofs.FaultLines.{stops_told}
use Rattle.rb_command.specs.Forms.{command_of}
use Rattle.rb_command.specs.Lines.{memory_line}
use Rattle.rb_command.specs.Told.{Tells}
use Rattle.rb_command.specs.declared.command.Command.{Command}
use Rattle.rb_command.specs.declared.command.Command.TheVariants.{Drill, CheckNodes, CheckJobs, CheckPolicy, Explain, Next, Demo}
use Rattle.rb_top.specs.Access.{script_policies}
use Rattle.rb_top.specs.Drill.{play_of, all_runs}
use Rattle.rb_top.specs.Outcome.{Completes, Stops, IsInOrder, DrillsScript, Drills, Answers, AnswersTo, drilled_file, whole, cut, wanted, unread, not_fetched, refused, drilled}
use Rattle.rb_top.specs.Play.{Play, Over}
use Rattle.rb_top.specs.Laws.{CompletesOrWants}
use Rattle.rb_top.specs.Played.{Breaks, Played, BrokenOff}
use Rattle.rb_top.specs.Reading.{script_of}
use Rattle.rb_top.specs.declared.script.Script.{Script}
use Rattle.rb_top.specs.declared.script.ScriptFault.{ScriptFault}
use Rattle.rb_top.proofs.PlayLemmas.{plays_started, plays_text, plays_enough, breaks_started, breaks_front, breaks_ordered}
use Rattle.rb_causes.proofs.Written.{wrote_as}

in_order : (s : Script) (gain : List SpawnRun) (text : List ℕ) → Breaks (play_of s) gain text → IsInOrder s gain text
in_order s gain text b = record { text = breaks_front b; ordered = breaks_ordered b }

-- the runs of a script
abbrev runs_of : Script → Play → Play
runs_of s = all_runs (script_policies s) s.jobs 1 s.runs

module _ (s : Script) {r r' : ShownRuns} {t t' : SinkState} where
  completes : Played (runs_of s) (λ next. next) r r' t t' → Completes s r r' t t'
  completes p = record {
    gain = p.gain;
    ran = p.ran;
    started = plays_started (p.plays Over);
    enough = plays_enough (p.plays Over);
    wrote = wrote_as (plays_text (p.plays Over)) p.wrote;
  }

  stops : (trouble : Trouble) → BrokenOff trouble (runs_of s) r r' t t' → Stops s trouble r r' t t'
  stops trouble b = record {
    gain = b.gain;
    printed = b.text;
    ran = b.ran;
    started = breaks_started (b.breaks Over);
    order = in_order s b.gain b.text (b.breaks Over);
    ended = b.ended;
  }

  pub drills_whole : Played (runs_of s) (λ next. next) r r' t t' → DrillsScript s 0 r r' t t'
  drills_whole p = whole refl (completes p)

  pub drills_cut : BrokenOff trouble.Failed (runs_of s) r r' t t' → DrillsScript s 9 r r' t t'
  drills_cut b = cut refl (stops trouble.Failed b)

  pub drills_wanted : {t'' : SinkState} → BrokenOff trouble.NoMemory (runs_of s) r r' t t' → Tells memory_line t' t'' → DrillsScript s 7 r r' t t''
  drills_wanted b told = wanted refl (stops trouble.NoMemory b) told

  -- nothing is written behind the first write that failed
  pub stops_cut : BrokenOff trouble.Failed (runs_of s) r r' t t' → StopsAtFault t t'
  stops_cut b = stops_stopped trouble.Failed b.text t t' b.ended

  pub stops_wanted : {t'' : SinkState} → BrokenOff trouble.NoMemory (runs_of s) r r' t t' → Tells memory_line t' t'' → StopsAtFault t t''
  stops_wanted b told = stops_then b.ended (stops_told told)

-- Memory was wanting before the command was known: so there is one.
starves : (files : Option (List File)) (command : Option Command) (f f' : ℕ) (r : ShownRuns) {s s' : SinkState} → command ≢ None → Tells memory_line s s' → AnswersTo files command f f' 7 r r s s'
starves files None f f' r some told = absurd (some refl)
starves files (Some (Drill name)) f f' r some told = unread refl refl told
starves files (Some (CheckNodes file filter exclude_first)) f f' r some told = (refl, inr (refl, told))
starves files (Some (CheckJobs file)) f f' r some told = (refl, inr (refl, told))
starves files (Some (CheckPolicy file)) f f' r some told = (refl, inr (refl, told))
starves files (Some (Explain file caller here resource action)) f f' r some told = (refl, inr (refl, told))
starves files (Some (Next crontab zone after count)) f f' r some told = (refl, inr (refl, told))
starves files (Some (Demo nodes)) f f' r some told = (refl, inr (refl, told))

pub starved : (files : Option (List File)) (words : List (List ℕ)) (e : NoMemory) (f f' : ℕ) (r : ShownRuns) {s s' : SinkState} →
    (command_of words ≡ None → ◌≡◌ {A = Result (Option Command) NoMemory} (Err e) (Ok None)) → Tells memory_line s s' → Answers files words f f' 7 r r s s'
starved files words e f f' r none told = starves files (command_of words) f f' r (λ is_none. err_is_not_ok (none is_none)) told
  where
    fails : Result (Option Command) NoMemory → Type 0
    fails (Ok x) = ⊥
    fails (Err x) = Unit {0}

    err_is_not_ok : ◌≡◌ {A = Result (Option Command) NoMemory} (Err e) (Ok None) → ⊥
    err_is_not_ok p = subst fails p (record {})

-- ---- where nothing outside fails

none_rose : (f f' : ℕ) → f' ≡ 0 → Rose f f' → ⊥
none_rose f f' none rose = omega arith

module _ (held : List File) (name bytes : List ℕ) (s : Script) (there : bytes_at held name ≡ Some bytes) (read : script_of bytes ≡ Ok s) where
  absent_not_there : Fetched (Some held) name None → ⊥
  absent_not_there absent = cc

  same_bytes : (b : List ℕ) → Fetched (Some held) name (Some b) → bytes ≡ b
  same_bytes b fetched = let both : Some bytes ≡ Some b = sym there ∙ sym fetched in cc

  read_not_refused : (b : List ℕ) (fault : ScriptFault) → Fetched (Some held) name (Some b) → script_of b ≡ Err fault → ⊥
  read_not_refused b fault fetched faulty = let both : Ok s ≡ Err fault = sym read ∙ ap script_of (same_bytes b fetched) ∙ faulty in cc

  same_script : (b : List ℕ) (other : Script) → Fetched (Some held) name (Some b) → script_of b ≡ Ok other → other ≡ s
  same_script b other fetched other_read = let both : Ok s ≡ Ok other = sym read ∙ ap script_of (same_bytes b fetched) ∙ other_read in cc

  script_steadily : {status : ℕ} {r r' : ShownRuns} {t t' : SinkState} → t'.faults ≡ 0 → DrillsScript s status r r' t t' → ((status ≡ 0) × Completes s r r' t t') ⊎ (status ≡ 7)
  script_steadily steady (whole e completes) = inl (e, completes)
  script_steadily {t = t} {t' = t'} steady (cut e stops) = absurd (none_rose t.faults t'.faults steady stops.ended.failed)
  script_steadily steady (wanted e stops told) = inr e

  drills_steadily : {f f' status : ℕ} {r r' : ShownRuns} {t t' : SinkState} → f' ≡ 0 → t'.faults ≡ 0 → Drills (Some held) name f f' status r r' t t' → ((status ≡ 0) × Completes s r r' t t') ⊎ (status ≡ 7)
  drills_steadily calm steady (unread e same told) = inr e
  drills_steadily calm steady (not_fetched same (inl absent)) = absurd (absent_not_there absent.1)
  drills_steadily {f} {f'} calm steady (not_fetched same (inr (inl failed))) = absurd (none_rose f f' calm failed.1)
  drills_steadily calm steady (not_fetched same (inr (inr memory))) = inr memory.0
  drills_steadily calm steady (refused fault refuses calm' e same told) = absurd (read_not_refused refuses.bytes fault refuses.fetched refuses.refused)
  drills_steadily {status = status} {r = r} {r' = r'} {t = t} {t' = t'} calm steady (drilled other reads calm' ran) =
      script_steadily steady (subst (λ script. DrillsScript script status r r' t t') (same_script reads.bytes other reads.fetched reads.read) ran)

  answers_steadily : (command : Option Command) (f f' : ℕ) {status : ℕ} {r r' : ShownRuns} {t t' : SinkState} → f' ≡ 0 → t'.faults ≡ 0 → drilled_file command ≡ Some name
      → AnswersTo (Some held) command f f' status r r' t t' → ((status ≡ 0) × Completes s r r' t t') ⊎ (status ≡ 7)
  answers_steadily None f f' calm steady named answers = let never : ⊥ = cc in absurd never
  answers_steadily (Some (CheckNodes file filter exclude_first)) f f' calm steady named answers = let never : ⊥ = cc in absurd never
  answers_steadily (Some (CheckJobs file)) f f' calm steady named answers = let never : ⊥ = cc in absurd never
  answers_steadily (Some (CheckPolicy file)) f f' calm steady named answers = let never : ⊥ = cc in absurd never
  answers_steadily (Some (Explain file caller here resource action)) f f' calm steady named answers = let never : ⊥ = cc in absurd never
  answers_steadily (Some (Next crontab zone after count)) f f' calm steady named answers = let never : ⊥ = cc in absurd never
  answers_steadily (Some (Demo nodes)) f f' calm steady named answers = let never : ⊥ = cc in absurd never
  answers_steadily (Some (Drill file)) f f' {status} {r} {r'} {t} {t'} calm steady named answers =
      let same : file ≡ name = cc in
      drills_steadily calm steady (subst (λ n. Drills (Some held) n f f' status r r' t t') same answers)

pub completes_or_wants : (files : Option (List File)) (words : List (List ℕ)) (f f' status : ℕ) (r r' : ShownRuns) (t t' : SinkState) → f' ≡ 0 → t'.faults ≡ 0 → Answers files words f f' status r r' t t'
    → CompletesOrWants files words status r r' t t'
completes_or_wants files words f f' status r r' t t' calm steady answers held name bytes s are named there read =
    answers_steadily held name bytes s there read (command_of words) f f' calm steady named (subst (λ fs. Answers fs words f f' status r r' t t') are answers)
