-- Behind the last Claim of a session that ended with 0 no door is open, and nothing is running.
use Rattle.std.proofs.Common.{
  ◌≡◌,
  ◌∙◌,
  ◌⊎◌,
  inl,
  inr,
  ◌<◌,
  ◌≤◌,
  ◌+◌,
  ◌-◌,
  ℕ,
  ℤ,
  zero,
  suc,
  Bool,
  true,
  false,
  nat_eq,
  nat_le,
  List,
  [],
  ◌∷◌,
  ◌++◌,
  length,
  reverse,
  take,
  Contains,
  get_or,
  Option,
  Some,
  None,
  option_to_list,
  ap,
  sym,
  subst,
  refl,
  arith,
  append-nil,
  append_assoc,
  if◌then◌else◌,
}
use Rattle.std.proofs.lemmas.Bool.{leb-false, leb-true}
use Rattle.std.proofs.lemmas.List.{length-take-le, take_all}
use Rattle.std.proofs.lemmas.List.Elements.{
  All-contains,
  Contains-append_cases,
  Contains-append_right,
}
use Rattle.std.specs.List.{flat_map}
use Rattle.rb_causes.specs.Numbers.{numbers_from}
use Rattle.rb_causes.specs.declared.row.Row.{Row}
use Rattle.rb_door.specs.Doors.{AreInOrder}
use Rattle.rb_door.specs.Exchanges.{Moments}
use Rattle.rb_door.specs.Laws.{ActsAreTrue}
use Rattle.rb_log.specs.Claims.{claim, claim_among, is_closed}
use Rattle.rb_log.specs.Laws.{ClaimAnswers, IsClaimAnswer}
use Rattle.rb_log.specs.LogState.{LogState, has_room, log_state, moment, running_executions}
use Rattle.rb_log.specs.Moves.{Moved, full_unless, limited, limited_by, only}
use Rattle.rb_log.specs.Records.{
  Follows,
  IsTrueAnswer,
  IsTrueRecord,
  Record,
  StaysAtFault,
  before_record,
  is_save,
  turn_at,
  without_kept,
}
use Rattle.rb_log.specs.Told.{added}
use Rattle.rb_log.specs.Turn.{turn_of}
use Rattle.rb_log.specs.declared.answer.Answer.{Answer}
use Rattle.rb_log.specs.declared.answer.Answer.TheVariants as answer
use Rattle.rb_log.specs.declared.call.Call.TheVariants.{Save}
use Rattle.rb_session.specs.Courses.{Course, course_records, serving_records}
use Rattle.rb_session.specs.Laws.{CoursesAct}
use Rattle.rb_session.specs.Visits.{pump_records}
use Rattle.rb_session_laws.proofs.Asked.{rows_are_asked}
use Rattle.rb_session_laws.proofs.Told as told
use Rattle.rb_session_laws.specs.Origins.{AreAllRows, deed_records, records_and_save}
use Rattle.rb_session_laws.specs.Statuses.{EndsWith, HasEnded, IsClosedClaim, IsWell, ZeroHasEnded}
use Rattle.rb_session_top.specs.Sessions.{Headline, IsCourseRun, IsServed}
use Rattle.rb_session_top.specs.Sights.{DeskSight, Sight, desk_told}
use Rattle.rb_session_top.specs.Stories.{Deeds}
use Rattle.rb_tables.specs.Tables.{most_rows}
use Rattle.rb_work.specs.Pumping.{Ends, IsLastClaim}
use Rattle.rb_work.specs.Works.{records_of}
use Rattle.rb_work.specs.declared.pumped.Pumped.{Pumped}
use Rattle.rb_work.specs.declared.pumped.Pumped.TheVariants as pumped

-- ---- a Claim that is answered Closed

-- where a row has no room, Full is told in its place
cut : (fits : Bool) (m : Moved)
    → ((full_unless fits m).answer ≡ m.answer) ⊎ ((full_unless fits m).answer ≡ answer.Full)
cut true m = inl refl
cut false m = inr refl

cut_by : (s : LogState) (room : ℕ) (m : Moved) (row : Option Row) (need : Option ℕ)
    → ((limited_by s room m row need).answer ≡ m.answer)
    ⊎ ((limited_by s room m row need).answer ≡ answer.Full)
cut_by s room m (Some row) (Some need) = cut (has_room s room need row) m
cut_by s room m (Some row) None = inl refl
cut_by s room m None need = inl refl

no_claim : (s : LogState) (worker : ℕ) (a : Answer) → a ≡ answer.Closed
    → IsClaimAnswer s (running_executions s) worker a → ⊥
no_claim s worker a is (inl h) = absurd (let never = sym is ∙ h.1 in cc)
no_claim s worker a is (inr (inl h)) = absurd (let never = sym is ∙ h.told in cc)
no_claim s worker a is (inr (inr h)) = absurd (let never = sym is ∙ h.0 in cc)

module _ (claims : ClaimAnswers) (s : LogState) (room : ℕ) (now : ℤ) (worker : ℕ) where
  abbrev given : Moved
  given = limited s room (claim s now worker)

  closed_by : (b : Bool) → is_closed s ≡ b → (claim s now worker).answer ≡ answer.Closed
      → is_closed s ≡ true
  closed_by true is h = is
  closed_by false is h = absurd (no_claim s worker (claim s now worker).answer h
      ((claims s now worker).1 is))

  closed_if : given.answer ≡ answer.Closed → is_closed s ≡ true
  closed_if h = elim (cut_by s room (claim s now worker) (claim s now worker).row
      (claim s now worker).need) [
        | inl same ↦ closed_by (is_closed s) refl (sym same ∙ h)
        | inr full ↦ absurd (let never = sym full ∙ h in cc)
      ]

  no_row : is_closed s ≡ true → given.row ≡ None
  no_row h =
      ap (λ b. (limited s room (if b then only answer.Closed
      else claim_among s now worker (running_executions s))).row) h

-- where the rules add no row, the record adds none
pub same_rows : (log : List Row) (room : ℕ) (r : Record) (f : Follows log room r)
    → (turn_at f.reading log room r).row ≡ None → r.before ≤ r.after → r.after ≤ length log
    → r.after ≡ r.before
same_rows log room r f none le in_log =
    let same : length (take r.after log) ≡ length (take r.before log) =
    ap length (f.rows ∙ ap (λ o. take r.before log ++ option_to_list o) none
    ∙ append-nil (take r.before log)) in
    omega (
      arith,
      same,
      length-take-le r.after log in_log,
      length-take-le r.before log (omega (arith, le, in_log)),
    )

module _ (claims : ClaimAnswers) (log : List Row) (room : ℕ) (r : Record) (h : IsClosedClaim r)
    (true_record : IsTrueRecord log room r) where
  abbrev state : LogState
  state = log_state (before_record log r)

  follows : Follows log room r
  follows = subst (λ a. IsTrueAnswer a log room r) h.3 true_record.answer

  moved : turn_at follows.reading log room r
      ≡ limited state room (claim state (moment state h.1) h.0)
  moved = ap (λ c. turn_of follows.reading (before_record log r) room c) h.2

  says : (limited state room (claim state (moment state h.1) h.0)).answer ≡ answer.Closed
  says =
      ap (λ (m : Moved). m.answer) (sym moved) ∙ sym follows.says ∙ ap without_kept h.3

  -- where it was made no door was open, and nothing was running
  pub closed_there : is_closed state ≡ true
  closed_there = closed_if claims state room (moment state h.1) h.0 says

  none_added : (turn_at follows.reading log room r).row ≡ None
  none_added =
      ap (λ (m : Moved). m.row) moved
      ∙ no_row claims state room (moment state h.1) h.0 closed_there

  -- it adds no row
  pub adds_none : r.after ≡ r.before
  adds_none =
      same_rows log room r follows none_added true_record.within.0 true_record.within.1

  -- where it was made behind the whole log, all has ended
  pub ended_there : length log ≤ r.before → HasEnded log
  ended_there le =
      subst (λ rows. is_closed (log_state (reverse rows)) ≡ true)
      (take_all r.before log le) closed_there

-- ---- a Save

save_by : (a : Answer) (log : List Row) (room : ℕ) (r : Record) → r.call ≡ Save
    → r.before ≤ r.after → r.after ≤ length log → IsTrueAnswer a log room r
    → r.after ≡ r.before
save_by answer.NoMemory log room r is le in_log h = h.same
save_by answer.StoreFault log room r is le in_log h =
    (subst (λ b. StaysAtFault b log room r) (ap is_save is) h).same
save_by other log room r is le in_log h =
    same_rows log room r h
    (ap (λ c. (turn_of h.reading (before_record log r) room c).row) is) le in_log

-- a Save adds no row
pub save_adds_none : (log : List Row) (room : ℕ) (r : Record) → r.call ≡ Save
    → IsTrueRecord log room r → r.after ≡ r.before
save_adds_none log room r is h =
    save_by r.answer log room r is h.within.0 h.within.1 h.answer

-- ---- numbers of rows

pub none_in : {A : Type 0} (x : A) → Contains [] x → ⊥
none_in x h = let lt = h.1 in omega (arith, lt)

added_by : (r : Record) (n : ℕ) (b : Bool) → nat_eq r.before r.after ≡ b
    → Contains (if b then [] else r.after ∷ []) n
    → (n ≡ r.after) × (nat_eq r.before r.after ≡ false)
added_by r n true same h = absurd (none_in n h)
added_by r n false same h = one h.0 h.1 h.2
  where
    one : (k : ℕ) → k < length (r.after ∷ []) → get_or (r.after ∷ []) k n ≡ n
        → (n ≡ r.after) × (nat_eq r.before r.after ≡ false)
    one zero lt there = (sym there, same)
    one (suc k) lt there = absurd (omega (arith, lt))

-- the one row of a record, which has one
pub in_added : (r : Record) (n : ℕ) → Contains (added r) n
    → (n ≡ r.after) × (nat_eq r.before r.after ≡ false)
in_added r n h = added_by r n (nat_eq r.before r.after) refl h

unadded_by : (r : Record) (b : Bool) → nat_eq r.before r.after ≡ b → r.after ≡ r.before
    → (if b then [] else r.after ∷ []) ≡ []
unadded_by r true is same = refl
unadded_by r false is same = absurd (grind (arith, is, same))

pub unadded : (r : Record) → r.after ≡ r.before → added r ≡ []
unadded r same = unadded_by r (nat_eq r.before r.after) refl same

number_by : (k a n : ℕ) → a ≤ n → (a < n → Contains (numbers_from (a + 1) k) n) → (b : Bool)
    → nat_le n a ≡ b → Contains (a ∷ numbers_from (a + 1) k) n
number_by k a n low more true small =
    let le = leb-true n a small in
    let is : a ≡ n = omega (arith, le, low) in (0, omega arith, is)
number_by k a n low more false large =
    Contains-append_right (a ∷ []) (numbers_from (a + 1) k) n (more (leb-false n a large))

has_number : (k a n : ℕ) → a ≤ n → n < a + k → Contains (numbers_from a k) n
has_number zero a n low high = absurd (omega (arith, low, high))
has_number (suc k) a n low high =
    number_by k a n low
    (λ lt. has_number k (a + 1) n (omega (arith, lt)) (omega (arith, high))) (nat_le n a) refl

-- ---- records in order

-- of these records this is the last but one, and it and the one behind it add no row
pub record AreLast (records : List Record) (r save : Record) : Type 0 where
  pub before : List Record
  pub are : records ≡ before ++ r ∷ save ∷ []
  pub added_none : r.after ≡ r.before
  pub saved_none : save.after ≡ save.before

-- what stands before a record is not behind it
pub past_before : (past : ℕ) (xs : List Record) (r : Record) (rest : List Record)
    → AreInOrder past (xs ++ r ∷ rest) → past ≤ r.before
past_before past [] r rest order = order.0
past_before past (x ∷ xs) r rest order =
    let on = past_before x.after xs r rest order.2 in
    omega (arith, on, order.0, order.1)

pub rows_before : (past : ℕ) (xs : List Record) (r : Record) (rest : List Record)
    → AreInOrder past (xs ++ r ∷ rest) → flat_map added (r ∷ rest) ≡ [] → (n : ℕ)
    → Contains (flat_map added (xs ++ r ∷ rest)) n → n ≤ r.before
rows_before past [] r rest order none n h =
    absurd (none_in n (subst (λ ns. Contains ns n) none h))
rows_before past (x ∷ xs) r rest order none n h =
    elim (Contains-append_cases (added x) (flat_map added (xs ++ r ∷ rest)) n h) [
      | inl k ↦ let is = (in_added x n k).0 in
          let on = past_before x.after xs r rest order.2 in omega (arith, is, on)
      | inr k ↦ rows_before x.after xs r rest order.2 none n k
    ]

-- behind the last but one of all records there is no row
pub none_behind : (log : List Row) (first : ℕ) (records : List Record) (r save : Record)
    → AreAllRows log first records → AreLast records r save → length log ≤ r.before
none_behind log first records r save all last = by (nat_le (length log) first) refl
  where
    order : AreInOrder first (last.before ++ r ∷ save ∷ [])
    order = subst (AreInOrder first) last.are all.order

    by : (b : Bool) → nat_le (length log) first ≡ b → length log ≤ r.before
    by true short =
        let le = leb-true (length log) first short in
        let on = past_before first last.before r (save ∷ []) order in
        omega (arith, le, on)
    by false long =
        let lt = leb-false (length log) first long in
        rows_before first last.before r (save ∷ []) order
        (ap (λ ns. ns ++ (added save ++ [])) (unadded r last.added_none)
        ∙ ap (λ ns. ns ++ []) (unadded save last.saved_none)) (length log)
        (subst (λ rs. Contains (flat_map added rs) (length log)) last.are
        (subst (λ ns. Contains ns (length log)) (sym all.rows)
        (has_number (length log - first) (first + 1) (length log) (omega (arith, lt))
        (omega (arith, lt)))))

-- ---- the last Claim of a session

pub behind : (xs rs : List Record) (r : Record) → EndsWith rs r → EndsWith (xs ++ rs) r
behind xs rs r h =
    (xs ++ h.0, ap (λ ys. xs ++ ys) h.1 ∙ sym (append_assoc xs h.0 (r ∷ [])))

-- a pump that said Closed ended with a Claim that was answered so
pub closing : (at : ℤ) (worker : ℕ) (last : List Record) (said : Pumped) → said ≡ pumped.Closed
    → Ends at worker last said → (r : Record) × EndsWith last r × IsClosedClaim r
closing at worker last said is h =
    let l : IsLastClaim at worker answer.Closed last = subst (Ends at worker last) is h in
    (l.claim, (l.withdrawals, l.behind), (worker, at, l.asked, l.given))

module _ (claims : ClaimAnswers) (true_acts : ActsAreTrue) (may_be : Moments)
    (acts : CoursesAct may_be) (name : List ℕ) (draw : ℕ) (old new : Sight) (desk : DeskSight)
    (deeds : Deeds) (headline : Headline may_be name draw old new desk deeds)
    (well : IsWell desk deeds) where
  abbrev done : Course × Record
  done = (well.course, well.save)

  run : IsCourseRun may_be deeds.manifest headline.done.imported
      (desk_told desk new.kept.faults) old.line new.line old.spawner new.spawner well.course
      well.save
  run =
      subst (IsServed may_be deeds.manifest headline.done.imported
      (desk_told desk new.kept.faults) old.line new.line old.spawner new.spawner) well.there
      headline.done.served

  claim_of : (r : Record) × EndsWith well.course.last.last r × IsClosedClaim r
  claim_of =
      let p = run.course.last in
      let c = closing p.pumped.at 0 p.pumped.last well.course.last.said well.over p.pumped.ends in
      (c.0, subst (λ rs. EndsWith rs c.0) p.last c.1, c.2)

  abbrev r : Record
  r = claim_of.0

  course_ends : EndsWith (deeds.imports ++ course_records well.course) r
  course_ends =
      let c = well.course in
      let pump = behind c.last.ticks (flat_map records_of c.last.works ++ c.last.last) r
      (behind (flat_map records_of c.last.works) c.last.last r claim_of.1) in
      behind deeds.imports (course_records c) r
      (behind (serving_records c) (c.close ∷ pump_records c.last) r
      (behind (c.close ∷ []) (pump_records c.last) r pump))

  are : deed_records deeds ≡ course_ends.0 ++ r ∷ well.save ∷ []
  are =
      ap (λ c. deeds.imports ++ records_and_save c) well.there
      ∙ sym (append_assoc deeds.imports (course_records well.course) (well.save ∷ []))
      ∙ ap (λ rs. rs ++ well.save ∷ []) course_ends.1
      ∙ append_assoc course_ends.0 (r ∷ []) (well.save ∷ [])

  all : AreAllRows desk.log (length headline.opened.log) (deed_records deeds)
  all = rows_are_asked may_be acts true_acts name draw old new desk deeds headline

  is_true : (x : Record) → Contains (course_ends.0 ++ r ∷ well.save ∷ []) x
      → IsTrueRecord desk.log most_rows x
  is_true x there =
      All-contains (IsTrueRecord desk.log most_rows) (deed_records deeds) x all.each
      (subst (λ rs. Contains rs x) (sym are) there)

  r_true : IsTrueRecord desk.log most_rows r
  r_true =
      is_true r (Contains-append_right course_ends.0 (r ∷ well.save ∷ []) r (0, omega arith, refl))

  save_true : IsTrueRecord desk.log most_rows well.save
  save_true =
      is_true well.save (Contains-append_right course_ends.0 (r ∷ well.save ∷ []) well.save
      (1, omega arith, refl))

  last : AreLast (deed_records deeds) r well.save
  last = record {
    before = course_ends.0;
    are = are;
    added_none = adds_none claims desk.log most_rows r claim_of.2 r_true;
    saved_none = save_adds_none desk.log most_rows well.save run.asked save_true;
  }

  pub has_ended : HasEnded desk.log
  has_ended =
      ended_there claims desk.log most_rows r claim_of.2 r_true
      (none_behind desk.log (length headline.opened.log) (deed_records deeds) r well.save all last)

pub zero_has_ended : ClaimAnswers → ActsAreTrue → (may_be : Moments) → CoursesAct may_be
    → ZeroHasEnded may_be
zero_has_ended claims true_acts may_be acts words draw old new status given session is =
    let h = told.zero_is_well may_be words draw old new status given session is in (
      h.0,
      h.1,
      h.2,
      h.3,
      has_ended claims true_acts may_be acts h.3.0 draw old new h.0 h.1 h.3.2 h.4,
    )
