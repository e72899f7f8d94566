-- A step of a desk is an act of a clerk that tells all of it.
use Rattle.std.proofs.Common.{◌≡◌, ◌∙◌, ◌<◌, ◌+◌, ℕ, suc, List, [], ◌∷◌, ◌++◌, take, length, reverse, map, Bool, true, false, nat_eq, Option, Some, None, option_to_list, ap, sym, subst, refl, arith, append-nil}
use Rattle.std.proofs.Math.Seq.{take-append_seam, take-length}
use Rattle.std.proofs.lemmas.List.{length-reverse, map-append}
use Rattle.std.proofs.lemmas.Bool.{cond-true, cond-false}
use Rattle.rb_causes.specs.declared.row.Row.{Row}
use Rattle.rb_log.specs.Readings.{Reading}
use Rattle.rb_log.specs.Sums.{numbers_below}
use Rattle.rb_log.specs.LogState.{log_state}
use Rattle.rb_log.specs.Turn.{MayRead, turn_of}
use Rattle.rb_log.specs.Legal.{Rights, IsFormed, MayAsk, rights_of, IsLegalLog}
use Rattle.rb_log.specs.Records.{IsTrueAnswer, StaysAtFault, Follows, without_kept, is_promised, is_save}
use Rattle.rb_log.specs.Told.{Acts, IsBeginning, record_of, rights_after, with_task, added}
use Rattle.rb_log.specs.Laws.{RightsFollow}
use Rattle.rb_log.specs.declared.answer.Answer.{Answer}
use Rattle.rb_log.specs.declared.answer.Answer.TheVariants as answer
use Rattle.rb_log.specs.declared.call.Call.{Call}
use Rattle.rb_log.specs.declared.call.Call.TheVariants as call
use Rattle.rb_log.specs.declared.task.OpenLeaf.{OpenLeaf}
use Rattle.rb_desk.specs.DeskState.{DeskState, IsDesk}
use Rattle.rb_desk.specs.Steps.{Steps, told_of}
use Rattle.rb_desk.proofs.Growing.{newest}
use Rattle.rb_desk.proofs.Stepping.{longer, same_number}

-- ---- rights do not look at what became of an append

same_task : (a : Answer) (leaves : List OpenLeaf)
    → with_task a leaves ≡ with_task (without_kept a) leaves
same_task (answer.Reported kept) leaves = refl
same_task (answer.DoorClosed kept) leaves = refl
same_task other leaves = refl

same_rights : (c : Call) (a : Answer) (rights : Rights)
    → rights_after c a rights ≡ rights_after c (without_kept a) rights
same_rights (call.Report done at) a rights = refl
same_rights (call.CloseDoor door at) a rights = refl
same_rights other a rights =
    ap (λ leaves. record rights { leaves = leaves }) (same_task a rights.leaves)

-- an answer that is no ruling changes no right
kept_rights : (c : Call) (rights : Rights) → is_promised c ≡ false
    → (rights_after c answer.NoMemory rights ≡ rights)
    × (rights_after c answer.StoreFault rights ≡ rights)
kept_rights (call.Report done at) rights h = absurd (grind (arith, h))
kept_rights (call.CloseDoor door at) rights h = absurd (grind (arith, h))
kept_rights other rights h = (refl, refl)

-- a Save is not promised
save_unpromised : (c : Call) → is_save c ≡ true → is_promised c ≡ false
save_unpromised call.Save h = refl
save_unpromised other h = absurd (grind (arith, h))

-- ---- a log with a row or none behind it

reverse_with : (old : List Row) (row : Option Row)
    → reverse (old ++ option_to_list row) ≡ option_to_list row ++ reverse old
reverse_with old None = ap reverse (append-nil old)
reverse_with old (Some row) = newest old row

abbrev rights_on : List Row → Rights
rights_on log = rights_of (log_state (reverse log))

-- what a step does to the rights, and to the numbers of the rows
abbrev Goes : Call → Answer → List Row → List Row → Type 0
Goes c a old new =
    (rights_on new ≡ rights_after c a (rights_on old))
    × ((row : Option Row) × (new ≡ old ++ option_to_list row))

module _ (law : RightsFollow) (room : ℕ) (c : Call) (old new : List Row) (log : IsBeginning old new)
    (legal : IsLegalLog (reverse old)) (some : 0 < length (reverse old))
    (may : MayAsk (rights_on old) c) (formed : IsFormed c) where
  front : take (length old) new ≡ old
  front = ap (λ rows. take (length old) rows) log.1 ∙ take-append_seam old log.0

  stays : length new ≡ length old → new ≡ old
  stays same = sym (take-length new) ∙ ap (λ n. take n new) same ∙ front

  stayed : (a : Answer) → length new ≡ length old
      → rights_after c a (rights_on old) ≡ rights_on old → Goes c a old new
  stayed a same h =
      (ap rights_on (stays same) ∙ sym h, (None, stays same ∙ sym (append-nil old)))

  abbrev row_of : Reading → Option Row
  row_of reading = (turn_of reading (reverse old) room c).row

  followed : (a : Answer) → Follows new room (record_of c a (length old) new) → Goes c a old new
  followed a h =
      let is : new ≡ old ++ option_to_list (row_of h.reading) =
      sym (take-length new) ∙ h.rows
      ∙ ap (λ rows. rows ++ option_to_list (turn_of h.reading (reverse rows) room c).row) front in
      let says : without_kept a ≡ (turn_of h.reading (reverse old) room c).answer =
      h.says ∙ ap (λ rows. (turn_of h.reading (reverse rows) room c).answer) front in (
        ap rights_on is
            ∙ ap (λ rows. rights_of (log_state rows)) (reverse_with old (row_of h.reading))
            ∙ law (reverse old) room c h.reading (record {
              legal = legal;
              opened = some;
              may = may;
              formed = formed;
              read = subst (λ rows. MayRead (log_state (reverse rows)) c h.reading) front h.may_read;
            })
            ∙ ap (λ b. rights_after c b (rights_on old)) (sym says)
            ∙ sym (same_rights c a (rights_on old)),
        (row_of h.reading, is),
      )

  fault_goes : (save : Bool) → is_save c ≡ save
      → StaysAtFault save new room (record_of c answer.StoreFault (length old) new)
      → Goes c answer.StoreFault old new
  fault_goes true is h =
      stayed answer.StoreFault h.same ((kept_rights c (rights_on old) (save_unpromised c is)).1)
  fault_goes false is h =
      stayed answer.StoreFault h.same ((kept_rights c (rights_on old) h.may.unpromised).1)

  goes : (a : Answer) → IsTrueAnswer a new room (record_of c a (length old) new)
      → Goes c a old new
  goes answer.NoMemory h =
      stayed answer.NoMemory h.same ((kept_rights c (rights_on old) h.may).0)
  goes answer.StoreFault h = fault_goes (is_save c) refl h
  goes other h = followed _ h

-- ---- the numbers of the rows

abbrev numbers : List Row → List ℕ
numbers log = map (λ n. n + 1) (numbers_below (length log))

other_number : (n m : ℕ) → m ≡ suc n → nat_eq n m ≡ false
other_number n m h = grind (arith, h)

one_more : (n m : ℕ) → m ≡ suc n → n + 1 ≡ m
one_more n m h = omega (arith, h)

own_with : (c : Call) (a : Answer) (old : List Row) (row : Option Row)
    → numbers (old ++ option_to_list row)
    ≡ numbers old ++ added (record_of c a (length old) (old ++ option_to_list row))
own_with c a old None =
    subst (λ log. numbers log ≡ numbers old ++ added (record_of c a (length old) log))
    (sym (append-nil old))
    (sym (append-nil (numbers old)) ∙ ap (λ ns. numbers old ++ ns)
    (sym (cond-true (nat_eq (length old) (length old)) [] (length old ∷ [])
    (same_number (length old)))))
own_with c a old (Some row) =
    let whole : List Row = old ++ row ∷ [] in
    ap (λ n. map (λ k. k + 1) (numbers_below n)) (longer old row)
    ∙ map-append (λ k. k + 1) (numbers_below (length old)) (length old ∷ [])
    ∙ ap (λ ns. numbers old ++ ns)
    (ap (λ n. n ∷ []) (one_more (length old) (length whole) (longer old row))
    ∙ sym (cond-false (nat_eq (length old) (length whole)) [] (length whole ∷ [])
    (other_number (length old) (length whole) (longer old row))))

-- ---- a step is an act

pub acts_of_steps : RightsFollow → {K : Type 0} (rows : K → Option (List Row)) (faults : K → ℕ)
    (old new : DeskState K) (c : Call) (a : Answer) → IsDesk rows old → IsDesk rows new
    → MayAsk (rights_on old.log) c → Steps faults old new c a
    → Acts (told_of faults old) (told_of faults new) c a
acts_of_steps law rows faults old new c a was is may step =
    let gone : Goes c a old.log new.log =
    goes law old.room c old.log new.log step.log was.legal
    (subst (λ n. 0 < n) (sym (length-reverse old.log)) was.opened) may step.formed a
    step.true_record.answer in
    record {
      before = length old.log;
      later = omega arith;
      log = step.log;
      true_record = step.true_record;
      legal = is.legal;
      within = omega (arith, is.within);
      room = step.room;
      rights = gone.0;
      own = subst
          (λ log. numbers log ≡ numbers old.log ++ added (record_of c a (length old.log) log))
          (sym gone.1.1) (own_with c a old.log gone.1.0);
      who = refl;
      faults = step.later;
      cause = step.cause;
    }
