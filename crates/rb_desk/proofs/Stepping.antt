-- What is answered to a call is true of the log.
use Rattle.std.proofs.Common.{◌≡◌, ◌∙◌, ◌≤◌, ◌<◌, ◌+◌, ℕ, suc, List, [], ◌∷◌, ◌++◌, take, length, reverse, Bool, true, false, nat_eq, Option, Some, None, Err, Ok, option_to_list, is_some, ap, sym, subst, refl, arith, append-nil, length-append, if◌then◌else◌}
use Rattle.std.proofs.Math.Seq.{take-append_seam, take-length}
use Rattle.rb_causes.specs.Causes.{Rose}
use Rattle.rb_causes.specs.declared.row.Row.{Row}
use Rattle.rb_log.specs.Readings.{Reading}
use Rattle.rb_log.specs.LogState.{LogState, log_state}
use Rattle.rb_log.specs.Moves.{Moved, only, full_unless, limited}
use Rattle.rb_log.specs.Turn.{MayRead, turn_of}
use Rattle.rb_log.specs.Legal.{IsFormed}
use Rattle.rb_log.specs.Records.{IsTrueAnswer, IsTrueRecord, Follows, StaysAtFault, is_promised, is_save, turn_at, without_kept}
use Rattle.rb_log.specs.Told.{record_of, tells_fault}
use Rattle.rb_log.specs.Laws.{RulesArePlain, is_plain_answer}
use Rattle.rb_log.specs.declared.answer.Answer.{Answer}
use Rattle.rb_log.specs.declared.answer.Answer.TheVariants as answer
use Rattle.rb_log.specs.declared.call.Call.{Call}
use Rattle.rb_log.specs.declared.call.Call.TheVariants as call
use Rattle.rb_tables.specs.Changes.{AreRuled, answer_of, moved_of, need_of}
use Rattle.rb_desk.specs.DeskState.{DeskState}
use Rattle.rb_desk.specs.Settling.{IsDecided, row_has_room}
use Rattle.rb_desk.specs.Steps.{Steps, saved_after}
use Rattle.rb_tables.specs.declared.change.Change.{Change}

-- ---- plain answers

plain_kept : (a : Answer) → is_plain_answer a ≡ true → without_kept a ≡ a
plain_kept (answer.Reported kept) h = absurd (grind (arith, h))
plain_kept (answer.DoorClosed kept) h = absurd (grind (arith, h))
plain_kept other h = refl

pub same_number : (n : ℕ) → nat_eq n n ≡ true
same_number n = grind arith

if_true : (b : Bool) (m n : ℕ) → b ≡ true → (if b then m else n) ≡ m
if_true true m n h = refl
if_true false m n h = absurd (grind (arith, h))

if_false : (b : Bool) (m n : ℕ) → b ≡ false → (if b then m else n) ≡ n
if_false true m n h = absurd (grind (arith, h))
if_false false m n h = refl

pub still_saved : (saved n : ℕ) → saved ≡ (if nat_eq n n then saved else n)
still_saved saved n = sym (if_true (nat_eq n n) saved n (same_number n))

plain_saved : (a : Answer) (saved n : ℕ) → is_plain_answer a ≡ true → saved ≡ saved_after a saved n n
plain_saved (answer.Reported kept) saved n h = absurd (grind (arith, h))
plain_saved (answer.DoorClosed kept) saved n h = absurd (grind (arith, h))
plain_saved answer.Saved saved n h = absurd (grind (arith, h))
plain_saved other saved n h = still_saved saved n

plain_more : (a : Answer) (saved n : ℕ) → is_plain_answer a ≡ true → suc n ≡ saved_after a saved n (suc n)
plain_more (answer.Reported kept) saved n h = absurd (grind (arith, h))
plain_more (answer.DoorClosed kept) saved n h = absurd (grind (arith, h))
plain_more answer.Saved saved n h = absurd (grind (arith, h))
plain_more other saved n h =
    let apart : nat_eq n (suc n) ≡ false = grind arith in
    sym (if_false (nat_eq n (suc n)) saved (suc n) apart)

plain_tells : (a : Answer) → is_plain_answer a ≡ true → tells_fault a ≡ false
plain_tells answer.StoreFault h = absurd (grind (arith, h))
plain_tells (answer.Reported kept) h = absurd (grind (arith, h))
plain_tells (answer.DoorClosed kept) h = absurd (grind (arith, h))
plain_tells other h = refl

no_fault : (a : Answer) → is_plain_answer a ≡ true → a ≡ answer.StoreFault → ⊥
no_fault a h k =
    let wrong : false ≡ true = sym (ap is_plain_answer k) ∙ h in grind (arith, wrong)

true_answer : (a : Answer) (c : Call) (n room : ℕ) (log : List Row) → is_plain_answer a ≡ true
    → Follows log room (record_of c a n log) → IsTrueAnswer a log room (record_of c a n log)
true_answer answer.NoMemory c n room log h follows = absurd (grind (arith, h))
true_answer answer.StoreFault c n room log h follows = absurd (grind (arith, h))
true_answer other c n room log h follows = follows

-- ---- what the rules say to a decided call

abbrev turn_on : List Row → ℕ → Call → Reading → Moved
turn_on log room c reading = turn_of reading (reverse log) room c

plain_by : RulesArePlain → (log : List Row) (c : Call) (m : Moved) → is_promised c ≡ false
    → is_save c ≡ false → AreRuled (reverse log) c m → is_plain_answer m.answer ≡ true
plain_by law log c m unpromised unsaved ruled =
    sym (ap (λ (n : Moved). is_plain_answer n.answer) ruled.says)
    ∙ law ruled.reading (log_state (reverse log)) c unpromised unsaved

-- what may be read on a log may be read on all rows of it
read_here : (log : List Row) (c : Call) (reading : Reading)
    → MayRead (log_state (reverse log)) c reading
    → MayRead (log_state (reverse (take (length log) log))) c reading
read_here log c reading =
    subst (λ rows. MayRead (log_state (reverse rows)) c reading) (sym (take-length log))

pub follows_only : (log : List Row) (room : ℕ) (c : Call) (a : Answer) (reading : Reading)
    → without_kept a ≡ a → MayRead (log_state (reverse log)) c reading
    → turn_on log room c reading ≡ only a
    → Follows log room (record_of c a (length log) log)
follows_only log room c a reading kept may turn =
    let is : turn_at reading log room (record_of c a (length log) log) ≡ only a =
    ap (λ rows. turn_of reading (reverse rows) room c) (take-length log) ∙ turn in record {
      reading = reading;
      may_read = read_here log c reading may;
      says = kept ∙ sym (ap (λ (n : Moved). n.answer) is);
      rows = sym (ap (λ (n : Moved). take (length log) log ++ option_to_list n.row) is
          ∙ append-nil (take (length log) log));
    }

limited_fits : (s : LogState) (room : ℕ) (a : Answer) (row : Row) (need : Option ℕ)
    → row_has_room s room row need ≡ true
    → let m : Moved = record { answer = a; row = Some row; need = need } in limited s room m ≡ m
limited_fits s room a row None h = refl
limited_fits s room a row (Some need) h =
    ap (λ b. full_unless b (record { answer = a; row = Some row; need = Some need })) h

limited_full : (s : LogState) (room : ℕ) (a : Answer) (row : Row) (need : Option ℕ)
    → row_has_room s room row need ≡ false
    → limited s room (record { answer = a; row = Some row; need = need }) ≡ only answer.Full
limited_full s room a row None h = absurd (grind (arith, h))
limited_full s room a row (Some need) h =
    ap (λ b. full_unless b (record { answer = a; row = Some row; need = Some need })) h

-- ---- steps that leave the log

pub record Still {K : Type 0} (faults : K → ℕ) (old new : DeskState K) : Type 0 where
  pub log : new.log ≡ old.log
  pub saved : new.saved ≡ old.saved
  pub room : new.room ≡ old.room
  pub later : faults old.keeper ≤ faults new.keeper

pub still_steps : {K : Type 0} (faults : K → ℕ) (old new : DeskState K) (c : Call) (a : Answer)
    → Still faults old new → IsFormed c
    → old.saved ≡ saved_after a old.saved (length old.log) (length old.log)
    → (tells_fault a ≡ true → Rose (faults old.keeper) (faults new.keeper))
    → (tells_fault a ≡ false → faults new.keeper ≡ faults old.keeper)
    → (a ≡ answer.StoreFault → c ≡ call.Save → new.saved < length new.log)
    → IsTrueAnswer a old.log old.room (record_of c a (length old.log) old.log)
    → Steps faults old new c a
still_steps faults old new c a still formed saved cause steady unsaved true_of = record {
  formed = formed;
  log = ([], still.log ∙ sym (append-nil old.log));
  true_record = subst (λ log. IsTrueRecord log old.room (record_of c a (length old.log) log))
      (sym still.log) (record { within = (omega arith, omega arith); answer = true_of });
  room = still.room;
  saved = still.saved ∙ saved
      ∙ ap (λ log. saved_after a old.saved (length old.log) (length log)) (sym still.log);
  later = still.later;
  cause = cause;
  steady = steady;
  unsaved = unsaved;
}

-- one that the rules answer plainly
plain_steps : {K : Type 0} (faults : K → ℕ) (old new : DeskState K) (c : Call) (a : Answer)
    → Still faults old new → faults new.keeper ≡ faults old.keeper → IsFormed c
    → is_plain_answer a ≡ true
    → Follows old.log old.room (record_of c a (length old.log) old.log) → Steps faults old new c a
plain_steps faults old new c a still same formed plain follows =
    still_steps faults old new c a still formed (plain_saved a old.saved (length old.log) plain)
    (λ tells. let wrong : false ≡ true = sym (plain_tells a plain) ∙ tells in
    absurd (grind (arith, wrong)))
    (λ quiet. same)
    (λ fault save. absurd (no_fault a plain fault))
    (true_answer a c (length old.log) old.room old.log plain follows)

abbrev is_store_fault : Answer → Bool
is_store_fault answer.StoreFault = true
is_store_fault other = false

-- another answer is none
pub other_answer : (a : Answer) → is_store_fault a ≡ false → a ≡ answer.StoreFault → ⊥
other_answer a h k =
    let wrong : false ≡ true = sym h ∙ ap is_store_fault k in grind (arith, wrong)

pub memory_steps : {K : Type 0} (faults : K → ℕ) (old new : DeskState K) (c : Call)
    → Still faults old new → faults new.keeper ≡ faults old.keeper → IsFormed c
    → is_promised c ≡ false → Steps faults old new c answer.NoMemory
memory_steps faults old new c still same formed unpromised =
    still_steps faults old new c answer.NoMemory still formed
    (still_saved old.saved (length old.log)) (λ tells. absurd (grind (arith, tells)))
    (λ quiet. same)
    (λ fault save. absurd (other_answer answer.NoMemory refl fault))
    (record { same = refl; may = unpromised })

pub settled_steps : RulesArePlain → {K : Type 0} (faults : K → ℕ) (old new : DeskState K)
    (c : Call) (a : Answer) → Still faults old new → faults new.keeper ≡ faults old.keeper
    → IsDecided old.log (Err a) c → Steps faults old new c a
settled_steps law faults old new c answer.NoMemory still same d =
    memory_steps faults old new c still same d.formed d.unpromised
settled_steps law faults old new c other still same d =
    let plain = plain_by law old.log c (only other) d.unpromised d.no_save d.rules in
    plain_steps faults old new c other still same d.formed plain
    (follows_only old.log old.room c other d.rules.reading (plain_kept other plain)
    d.rules.may_read
    (ap (limited (log_state (reverse old.log)) old.room) d.rules.says))

-- one whose row has no room
pub full_steps : {K : Type 0} (faults : K → ℕ) (old new : DeskState K) (c : Call) (change : Change)
    → Still faults old new → faults new.keeper ≡ faults old.keeper
    → IsDecided old.log (Ok change) c
    → row_has_room (log_state (reverse old.log)) old.room change.row (need_of change.effect) ≡ false
    → Steps faults old new c answer.Full
full_steps faults old new c change still same d full =
    let ruled = d.rules.0 in
    let s : LogState = log_state (reverse old.log) in
    plain_steps faults old new c answer.Full still same d.formed refl
    (follows_only old.log old.room c answer.Full ruled.reading refl ruled.may_read
    (ap (limited s old.room) ruled.says
    ∙ limited_full s old.room (answer_of change.outcome) change.row (need_of change.effect) full))

pub wanting_steps : {K : Type 0} (faults : K → ℕ) (old new : DeskState K) (c : Call)
    (change : Change) → Still faults old new → faults new.keeper ≡ faults old.keeper
    → IsDecided old.log (Ok change) c → Steps faults old new c answer.NoMemory
wanting_steps faults old new c change still same d =
    memory_steps faults old new c still same d.formed d.unpromised

-- the turn of a change that has room
pub turn_fits : (log : List Row) (room : ℕ) (c : Call) (change : Change)
    (ruled : AreRuled (reverse log) c (moved_of change))
    → row_has_room (log_state (reverse log)) room change.row (need_of change.effect) ≡ true
    → turn_on log room c ruled.reading ≡ moved_of change
turn_fits log room c change ruled fit =
    let s : LogState = log_state (reverse log) in
    ap (limited s room) ruled.says
    ∙ limited_fits s room (answer_of change.outcome) change.row (need_of change.effect) fit

pub fault_steps : {K : Type 0} (faults : K → ℕ) (old new : DeskState K) (c : Call)
    (change : Change) → Still faults old new → Rose (faults old.keeper) (faults new.keeper)
    → IsDecided old.log (Ok change) c
    → row_has_room (log_state (reverse old.log)) old.room change.row (need_of change.effect) ≡ true
    → Steps faults old new c answer.StoreFault
fault_steps faults old new c change still rose d fit =
    let ruled = d.rules.0 in
    let n : ℕ = length old.log in
    let is = ap (λ rows. turn_of ruled.reading (reverse rows) old.room c) (take-length old.log)
    ∙ turn_fits old.log old.room c change ruled fit in
    still_steps faults old new c answer.StoreFault still d.formed (still_saved old.saved n)
    (λ tells. rose) (λ quiet. absurd (grind (arith, quiet)))
    (λ fault save. let wrong : true ≡ false = sym (ap is_save save) ∙ d.no_save in
    absurd (grind (arith, wrong)))
    (subst (λ b. StaysAtFault b old.log old.room (record_of c answer.StoreFault n old.log))
    (sym d.no_save) (record {
      same = refl;
      may = record {
        reading = ruled.reading;
        may_read = read_here old.log c ruled.reading ruled.may_read;
        adds = ap (λ (m : Moved). is_some m.row) is;
        unpromised = d.unpromised;
      };
    }))

-- ---- steps that add a row

one_more : (n m : ℕ) → m ≡ suc n → n + 1 ≡ m
one_more n m h = omega (arith, h)

pub longer : (log : List Row) (row : Row) → length (log ++ row ∷ []) ≡ suc (length log)
longer log row = length-append log (row ∷ []) ∙ one_more (length log) (suc (length log)) refl

pub record Adds {K : Type 0} (faults : K → ℕ) (old new : DeskState K) (row : Row) : Type 0 where
  pub log : new.log ≡ old.log ++ row ∷ []
  pub room : new.room ≡ old.room
  pub later : faults old.keeper ≤ faults new.keeper

-- the rules say so, on the log before the row
pub adds_follow : (log : List Row) (room : ℕ) (c : Call) (a : Answer) (row : Row) (m : Moved)
    (reading : Reading) → MayRead (log_state (reverse log)) c reading
    → turn_on log room c reading ≡ m
    → without_kept a ≡ m.answer → m.row ≡ Some row
    → Follows (log ++ row ∷ []) room (record_of c a (length log) (log ++ row ∷ []))
adds_follow log room c a row m reading may turn says adds =
    let whole : List Row = log ++ row ∷ [] in
    let seam : take (length log) whole ≡ log = take-append_seam log (row ∷ []) in
    let is : turn_at reading whole room (record_of c a (length log) whole) ≡ m =
    ap (λ rows. turn_of reading (reverse rows) room c) seam ∙ turn in record {
      reading = reading;
      may_read = subst (λ rows. MayRead (log_state (reverse rows)) c reading) (sym seam) may;
      says = says ∙ sym (ap (λ (n : Moved). n.answer) is);
      rows = take-length whole
          ∙ sym (ap (λ (n : Moved). take (length log) whole ++ option_to_list n.row) is
          ∙ ap (λ o. take (length log) whole ++ option_to_list o) adds
          ∙ ap (λ front. front ++ row ∷ []) seam);
    }

pub row_steps : {K : Type 0} (faults : K → ℕ) (old new : DeskState K) (c : Call) (a : Answer)
    (row : Row) → Adds faults old new row → IsFormed c
    → new.saved ≡ saved_after a old.saved (length old.log) (length new.log)
    → (tells_fault a ≡ true → Rose (faults old.keeper) (faults new.keeper))
    → (tells_fault a ≡ false → faults new.keeper ≡ faults old.keeper)
    → (a ≡ answer.StoreFault → ⊥)
    → IsTrueAnswer a (old.log ++ row ∷ []) old.room
    (record_of c a (length old.log) (old.log ++ row ∷ []))
    → Steps faults old new c a
row_steps faults old new c a row adds formed saved cause steady no_fault true_of =
    let whole : List Row = old.log ++ row ∷ [] in record {
      formed = formed;
      log = (row ∷ [], adds.log);
      true_record =
          subst (λ log. IsTrueRecord log old.room (record_of c a (length old.log) log))
          (sym adds.log) (record {
            within = (omega (arith, longer old.log row), omega arith);
            answer = true_of;
          });
      room = adds.room;
      saved = saved;
      later = adds.later;
      cause = cause;
      steady = steady;
      unsaved = λ fault save. absurd (no_fault fault);
    }

pub added_steps : RulesArePlain → {K : Type 0} (faults : K → ℕ) (old new : DeskState K)
    (c : Call) (change : Change) → Adds faults old new change.row
    → faults new.keeper ≡ faults old.keeper → new.saved ≡ length new.log
    → IsDecided old.log (Ok change) c
    → row_has_room (log_state (reverse old.log)) old.room change.row (need_of change.effect) ≡ true
    → Steps faults old new c (answer_of change.outcome)
added_steps law faults old new c change adds same saved d fit =
    let ruled = d.rules.0 in
    let a : Answer = answer_of change.outcome in
    let n : ℕ = length old.log in
    let plain = plain_by law old.log c (moved_of change) d.unpromised d.no_save ruled in
    let long : length new.log ≡ suc n = ap length adds.log ∙ longer old.log change.row in
    row_steps faults old new c a change.row adds d.formed
    (saved ∙ long ∙ plain_more a old.saved n plain
    ∙ ap (saved_after a old.saved n) (sym long))
    (λ tells. let wrong : false ≡ true = sym (plain_tells a plain) ∙ tells in
    absurd (grind (arith, wrong)))
    (λ quiet. same)
    (no_fault a plain)
    (true_answer a c n old.room (old.log ++ change.row ∷ []) plain
    (adds_follow old.log old.room c a change.row (moved_of change) ruled.reading ruled.may_read
    (turn_fits old.log old.room c change ruled fit) (plain_kept a plain) refl))
