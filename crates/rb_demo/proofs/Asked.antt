-- What is heard of the calls of the demo.
use Rattle.std.proofs.Common.{◌≡◌, ◌∙◌, ◌||◌, ℕ, ℤ, List, [], ◌∷◌, ◌++◌, reverse, Bool, true, false, None, Result, Ok, Err, option_to_list, ap, sym, subst, refl, inl, inr}
use Rattle.std.proofs.lemmas.List.{reverse-append}
use Rattle.rb_causes.specs.declared.row.Row.{Row}
use Rattle.rb_acl.specs.declared.policy.Caller.{Caller}
use Rattle.rb_plan.specs.Acceptance.{Acceptance}
use Rattle.rb_plan.specs.declared.refusal.Refusal.{Refusal}
use Rattle.rb_plan.specs.declared.world.RunAsk.{RunAsk}
use Rattle.rb_log.specs.Readings.{Reading}
use Rattle.rb_log.specs.LogState.{LogState, log_state, moment as moment_of}
use Rattle.rb_log.specs.Moves.{Moved, limited, full_unless}
use Rattle.rb_log.specs.Runs.{run_by, verdict_at}
use Rattle.rb_log.specs.Records.{without_kept}
use Rattle.rb_log.specs.Told.{Told, Acts}
use Rattle.rb_log.specs.declared.answer.Answer.{Answer}
use Rattle.rb_log.specs.declared.answer.Answer.TheVariants as answer
use Rattle.rb_log.specs.declared.call.Call.{Call}
use Rattle.rb_demo.specs.declared.hearing.HeardAnswer.{HeardAnswer}
use Rattle.rb_demo.specs.declared.hearing.HeardAnswer.TheVariants as heard
use Rattle.rb_demo.specs.Going.{IsNotFull}
use Rattle.rb_demo.specs.Hearing.{heard_answer, turn_on, Always, HasSaid, IsRuled}
use Rattle.rb_demo.specs.Asking.{Imports}
use Rattle.rb_demo.specs.Verdicts.{user_in}
use Rattle.rb_demo.specs.Rounds.{demo_moment as at, HasImported, HasRun, run_call, is_imported, is_accepted, is_refused}

-- ---- imports

same_heard : (a : Answer) → heard_answer a ≡ heard_answer (without_kept a)
same_heard (answer.Reported kept) = refl
same_heard (answer.DoorClosed kept) = refl
same_heard other = refl

same_imported : (a : Answer) → is_imported a ≡ is_imported (without_kept a)
same_imported (answer.Reported kept) = refl
same_imported (answer.DoorClosed kept) = refl
same_imported other = refl

-- what may be heard of an import
abbrev pub IsImportHeard : Told → Told → Call → Row → HeardAnswer → Type 0
IsImportHeard old new call row heard.NoMemory = Unit {0}
IsImportHeard old new call row heard.Imported =
    HasImported old new call (row ∷ reverse old.log)
IsImportHeard old new call row heard.Accepted = ⊥
IsImportHeard old new call row heard.Refused = ⊥
IsImportHeard old new call row heard.Full = ⊥
IsImportHeard old new call row heard.Other = ⊥

pub import_heard : (old new : Told) (call : Call) (row : Row) (said : HeardAnswer)
    → HasSaid old new call said → Always old call (Imports row)
    → IsImportHeard old new call row said
import_heard old new call row said h imports = by h.ruled
  where
    by : IsRuled old new call h.answer → IsImportHeard old new call row said
    by (inl none) =
        subst (λ s. IsImportHeard old new call row s) (sym (h.hears ∙ ap heard_answer none.0)) tt
    by (inr r) =
        let is = imports r.reading r.may_read in
        let turn : without_kept h.answer ≡ answer.Imported is.0 is.1 =
        r.says ∙ ap (λ (m : Moved). m.answer) is.2 in
        subst (λ s. IsImportHeard old new call row s)
        (sym (h.hears ∙ same_heard h.answer ∙ ap heard_answer turn)) (record {
          answer = h.answer;
          acts = h.acts;
          imported = same_imported h.answer ∙ ap is_imported turn;
          log = ap reverse r.rows
              ∙ ap (λ (m : Moved). reverse (old.log ++ option_to_list m.row)) is.2
              ∙ reverse-append old.log (row ∷ []);
        })

-- ---- runs

pub accepted_heard : (a : Answer) → heard.Accepted ≡ heard_answer a
    → (is_accepted a ≡ true) × (is_refused a ≡ false)
accepted_heard (answer.Accepted view) h = (refl, refl)
accepted_heard other h = absurd (cc)

pub refused_heard : (a : Answer) → heard.Refused ≡ heard_answer a
    → (is_accepted a ≡ false) × (is_refused a ≡ true)
refused_heard (answer.Refused refusal reason) h = (refl, refl)
refused_heard other h = absurd (cc)

pub was_accepted : (old new : Told) (user job : List ℕ) (call : Call) → call ≡ run_call user job
    → HasSaid old new call heard.Accepted
    → (a : Answer) × HasRun old new user job a × (is_accepted a ≡ true) × (is_refused a ≡ false)
was_accepted old new user job call is h =
    let heard = accepted_heard h.answer h.hears in (
      h.answer,
      record {
        acts = subst (λ (k : Call). Acts old new k h.answer) is h.acts;
        verdict = ap (λ b. b || is_refused h.answer) heard.0;
      },
      heard.0,
      heard.1,
    )

pub was_refused : (old new : Told) (user job : List ℕ) (call : Call) → call ≡ run_call user job
    → HasSaid old new call heard.Refused
    → (a : Answer) × HasRun old new user job a × (is_accepted a ≡ false) × (is_refused a ≡ true)
was_refused old new user job call is h =
    let heard = refused_heard h.answer h.hears in (
      h.answer,
      record {
        acts = subst (λ (k : Call). Acts old new k h.answer) is h.acts;
        verdict = ap (λ b. b || is_refused h.answer) heard.0 ∙ heard.1;
      },
      heard.0,
      heard.1,
    )

-- what the rules let be heard of a run
abbrev pub IsRunHeard : HeardAnswer → Type 0
IsRunHeard heard.Accepted = Unit {0}
IsRunHeard heard.Refused = Unit {0}
IsRunHeard heard.Full = Unit {0}
IsRunHeard heard.NoMemory = Unit {0}
IsRunHeard heard.Imported = ⊥
IsRunHeard heard.Other = ⊥

-- and where there is room
abbrev pub IsRunHeardInRoom : HeardAnswer → Type 0
IsRunHeardInRoom heard.Full = ⊥
IsRunHeardInRoom other = IsRunHeard other

full_heard : (b : Bool) (m : Moved) → IsRunHeard (heard_answer m.answer)
    → IsRunHeard (heard_answer (full_unless b m).answer)
full_heard true m h = h
full_heard false m h = tt

ruling_heard : (s : LogState) (room : ℕ) (now : ℤ) (caller : Caller) (ask : RunAsk)
    (r : Result Acceptance Refusal)
    → IsRunHeard (heard_answer (limited s room (run_by s now caller ask r)).answer)
ruling_heard s room now caller ask (Ok accepted) =
    let m : Moved = run_by s now caller ask (Ok accepted) in full_heard _ m tt
ruling_heard s room now caller ask (Err refusal) = tt

turn_heard : (old : Told) (user job : List ℕ) (reading : Reading)
    → IsRunHeard (heard_answer (turn_on old reading (run_call user job)).answer)
turn_heard old user job reading =
    let s : LogState = log_state (reverse old.log) in
    let caller : Caller = user_in user [] in
    let ask : RunAsk = record { job = job; given = []; filter = None } in
    ruling_heard s old.room (moment_of s at) caller ask (verdict_at s caller ask)

in_room : (a : Answer) → IsRunHeard (heard_answer a) → IsNotFull a → IsRunHeardInRoom (heard_answer a)
in_room answer.Full h n = n
in_room other h n = h

pub run_heard : (old new : Told) (user job : List ℕ) (call : Call) (said : HeardAnswer)
    → call ≡ run_call user job → HasSaid old new call said
    → Always old (run_call user job) (λ m. IsNotFull m.answer) → IsRunHeardInRoom said
run_heard old new user job call said is h room = by h.ruled
  where
    by : IsRuled old new call h.answer → IsRunHeardInRoom said
    by (inl none) = subst IsRunHeardInRoom (sym (h.hears ∙ ap heard_answer none.0)) tt
    by (inr r) =
        subst IsRunHeardInRoom
        (sym (h.hears ∙ same_heard h.answer ∙ ap heard_answer r.says
        ∙ ap (λ k. heard_answer (turn_on old r.reading k).answer) is))
        (in_room (turn_on old r.reading (run_call user job)).answer
        (turn_heard old user job r.reading) (room r.reading tt))
