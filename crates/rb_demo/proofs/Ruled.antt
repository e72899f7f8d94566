-- A call on a desk that a clerk has for itself is answered as the rules say of its log.
use Rattle.std.proofs.Common.{◌≡◌, ◌∙◌, ◌≤◌, ◌+◌, ℕ, [], ◌∷◌, ◌++◌, take, length, reverse, Bool, true, false, nat_eq, option_to_list, ap, sym, subst, refl, inl, inr, arith, length-append, if◌then◌else◌}
use Rattle.std.proofs.Math.Seq.{take-append_seam, take-length}
use Rattle.std.proofs.lemmas.Bool.Decides.{nat_tests}
use Rattle.rb_causes.specs.Causes.{Rose}
use Rattle.rb_log.specs.LogState.{log_state}
use Rattle.rb_log.specs.Turn.{MayRead, turn_of}
use Rattle.rb_log.specs.Records.{IsTrueAnswer, Follows, without_kept}
use Rattle.rb_log.specs.Told.{Told, Acts, IsBeginning, added, record_of, tells_fault}
use Rattle.rb_log.specs.declared.answer.Answer.{Answer}
use Rattle.rb_log.specs.declared.answer.Answer.TheVariants as answer
use Rattle.rb_log.specs.declared.call.Call.{Call}
use Rattle.rb_demo.specs.Hearing.{IsRuled, IsNoTask, Always}

-- ---- where the rows of a call begin

counted : (b : Bool) (before after old : ℕ) → nat_eq before after ≡ b → before ≤ after → old ≤ before
    → after ≡ old + length (if b then [] else after ∷ []) → before ≡ old
counted true before after old e within later is = omega arith
counted false before after old e within later is =
    let apart : before ≡ after → ⊥ = λ same. grind (arith, nat_tests) in omega arith

pub no_rows_between : (old new : Told) (call : Call) (a : Answer) (acts : Acts old new call a)
    → length old.own ≡ length old.log → length new.own ≡ length new.log
    → acts.before ≡ length old.log
no_rows_between old new call a acts o n =
    counted (nat_eq acts.before (length new.log)) acts.before (length new.log) (length old.log) refl
    acts.true_record.within.0 acts.later
    (sym n ∙ ap length acts.own
    ∙ length-append old.own (added (record_of call a acts.before new.log))
    ∙ ap (λ k. k + length (added (record_of call a acts.before new.log))) o)

-- ---- what is answered

no_rose : (old new : ℕ) → old ≡ 0 → new ≡ 0 → Rose old new → ⊥
no_rose old new o n h = omega arith

module _ (old new : Told) (call : Call) (before : ℕ) (begins : IsBeginning old.log new.log)
    (is : before ≡ length old.log) where
  front : take before new.log ≡ old.log
  front =
      ap (λ n. take n new.log) is ∙ ap (λ rows. take (length old.log) rows) begins.1
      ∙ take-append_seam old.log begins.0

  stays : length new.log ≡ before → new.log ≡ old.log
  stays same = sym (take-length new.log) ∙ ap (λ n. take n new.log) same ∙ front

  by_rules : (a : Answer) → Follows new.log old.room (record_of call a before new.log)
      → IsRuled old new call a
  by_rules a h = inr (record {
    reading = h.reading;
    may_read = subst (λ rows. MayRead (log_state (reverse rows)) call h.reading) front h.may_read;
    says = h.says ∙ ap (λ rows. (turn_of h.reading (reverse rows) old.room call).answer) front;
    rows = sym (take-length new.log) ∙ h.rows
        ∙ ap (λ rows. rows ++ option_to_list (turn_of h.reading (reverse rows) old.room call).row)
        front;
  })

  answered : (a : Answer) → IsTrueAnswer a new.log old.room (record_of call a before new.log)
      → (a ≡ answer.StoreFault → ⊥) → IsRuled old new call a
  answered answer.NoMemory h steady = inl (refl, stays h.same)
  answered answer.StoreFault h steady = absurd (steady refl)
  answered other h steady = by_rules _ h

pub is_ruled : (old new : Told) (call : Call) (a : Answer) → old.faults ≡ 0 → new.faults ≡ 0
    → length old.own ≡ length old.log → length new.own ≡ length new.log → Acts old new call a
    → IsRuled old new call a
is_ruled old new call a f f' o n acts =
    answered old new call acts.before acts.log (no_rows_between old new call a acts o n) a
    acts.true_record.answer (λ e. no_rose old.faults new.faults f f' (acts.cause (ap tells_fault e)))

-- ---- no task

not_a_task : (a : Answer) → IsNoTask (without_kept a) → IsNoTask a
not_a_task (answer.Task t) h = h
not_a_task other h = tt

pub is_no_task : (old new : Told) (call : Call) (a : Answer) → IsRuled old new call a
    → Always old call (λ m. IsNoTask m.answer) → IsNoTask a
is_no_task old new call a (inl h) none = subst IsNoTask (sym h.0) tt
is_no_task old new call a (inr h) none =
    not_a_task a (subst IsNoTask (sym h.says) (none h.reading h.may_read))
