-- Of all that a desk is asked in a course the works alone begin programs.
use Rattle.std.proofs.Common.{
  ◌≡◌,
  ◌≤◌,
  ◌<◌,
  ◌-◌,
  ◌∙◌,
  ℕ,
  ℤ,
  Bool,
  true,
  false,
  nat_eq,
  List,
  [],
  ◌∷◌,
  ◌++◌,
  ◌+◌,
  Option,
  Some,
  None,
  slice_get,
  option_to_list,
  All,
  ap,
  refl,
  sym,
  subst,
  arith,
  append-nil,
  append_assoc,
  inl,
  inr,
  if◌then◌else◌,
}
use Rattle.std.specs.List.{flat_map}
use Rattle.std.proofs.lemmas.Bool.{false≢true}
use Rattle.std.proofs.lemmas.Grind.{flat_map-append}
use Rattle.std.proofs.lemmas.List.Elements.{All-cons, All-head, All-nil, All-tail, All-append}
use Rattle.rb_causes.specs.declared.row.Row.{Row}
use Rattle.rb_causes.specs.declared.spawner.SpawnRun.{SpawnRun}
use Rattle.rb_log.specs.Acted.{Acted}
use Rattle.rb_log.specs.Programs.{program_at, program_if, programs_at}
use Rattle.rb_log.specs.Records.{IsTrueRecord, Record}
use Rattle.rb_log.specs.Rows.{is_begin}
use Rattle.rb_log.specs.Steps.{BeginsAreTasks}
use Rattle.rb_log.specs.Tasks.{TaskValue}
use Rattle.rb_log.specs.Told.{IsBeginning, Told, added}
use Rattle.rb_log.specs.Withdrawals.{is_withdrawal}
use Rattle.rb_log.specs.declared.answer.Answer.{Answer}
use Rattle.rb_log.specs.declared.answer.Answer.TheVariants as answer
use Rattle.rb_log.specs.declared.call.Call.{Call}
use Rattle.rb_log.specs.declared.call.Call.TheVariants as call
use Rattle.rb_work.specs.Pumping.{Ends, HasPumped, IsLastClaim}
use Rattle.rb_work.specs.Ticks.{AreTicks}
use Rattle.rb_work.specs.Works.{IsWithdrawal, Outside, Work, added_numbers, records_of}
use Rattle.rb_work.specs.declared.pumped.Pumped.{Pumped}
use Rattle.rb_work.specs.declared.pumped.Pumped.TheVariants as pumped
use Rattle.rb_work.proofs.Records.{acted_begins, acted_split}
use Rattle.rb_api.specs.Laws.{CallsAreTheCallers, IsAskedBy}
use Rattle.rb_api.specs.declared.token.Token.{Token}
use Rattle.rb_acl.specs.declared.policy.Caller.{Caller}
use Rattle.rb_door.specs.Exchanges.{IsMet, Moments, Response, is_request, turns_of}
use Rattle.rb_door.specs.Guests.{Parting}
use Rattle.rb_door.specs.Laws.{ActsAreTrue, TurnsStayTrue}
use Rattle.rb_wire.specs.declared.heard.Heard.{Heard}
use Rattle.rb_wire.specs.declared.heard.Heard.TheVariants as heard
use Rattle.rb_door.proofs.Acting.{begins_then}
use Rattle.rb_session.specs.Courses.{Course, RunsCourse, course_records, serving_records}
use Rattle.rb_session.specs.Laws.{WorksAreAll, all_works, works_if_any}
use Rattle.rb_session.specs.Visits.{
  Handles,
  HandlesAll,
  Handling,
  Pump,
  PumpsAs,
  PumpsBehind,
  Scene,
  ServesAll,
  Stay,
  handling_records,
  pump_records,
  pumped_if_any,
  standing,
  stay_records,
  with_callers,
}
use Rattle.rb_session.proofs.Acting.{acted_behind, acted_handlings, acted_pump, acted_stays}

-- ---- records without a task

-- it is no claim that was answered with a task
abbrev pub IsQuiet : Record → Type 0
IsQuiet r =
    (worker : ℕ) (at : ℤ) (t : TaskValue) → r.call ≡ call.Claim worker at
    → r.answer ≡ answer.Task t → ⊥

-- by each log that goes on from this one the records began what the works began
abbrev pub Runs : List Row → List Record → List Work → Type 0
Runs first rs ws =
    (log : List Row) → IsBeginning first log
    → programs_at log (flat_map added rs) ≡ programs_at log (flat_map added_numbers ws)

pub programs_split : {A : Type 0} (log : List Row) (f : A → List ℕ) (xs ys : List A)
    → programs_at log (flat_map f (xs ++ ys))
    ≡ programs_at log (flat_map f xs) ++ programs_at log (flat_map f ys)
programs_split log f xs ys =
    ap (λ ns. flat_map (program_at log) ns) (flat_map-append f xs ys)
    ∙ flat_map-append (program_at log) (flat_map f xs) (flat_map f ys)

pub runs_then : (middle last : List Row) (xs ys : List Record) (ws vs : List Work)
    → IsBeginning middle last → Runs middle xs ws → Runs last ys vs
    → Runs last (xs ++ ys) (ws ++ vs)
runs_then middle last xs ys ws vs begins h k log more =
    programs_split log added xs ys
    ∙ ap (λ runs. runs ++ programs_at log (flat_map added ys))
    (h log (begins_then middle last log begins more))
    ∙ ap (λ runs. programs_at log (flat_map added_numbers ws) ++ runs) (k log more)
    ∙ sym (programs_split log added_numbers ws vs)

numbers_of_works : (ws : List Work)
    → flat_map added (flat_map records_of ws) ≡ flat_map added_numbers ws
numbers_of_works [] = refl
numbers_of_works (w ∷ ws) =
    flat_map-append added (records_of w) (flat_map records_of ws)
    ∙ ap (λ ns. added_numbers w ++ ns) (numbers_of_works ws)

works_run : (last : List Row) (ws : List Work) → Runs last (flat_map records_of ws) ws
works_run last ws log more = ap (programs_at log) (numbers_of_works ws)

-- ---- nothing begins with them

if_not : (b : Bool) (runs : List SpawnRun) → b ≡ false → (if b then runs else []) ≡ []
if_not true runs h = absurd (false≢true (sym h))
if_not false runs h = refl

not_longer : (before after : ℕ) → nat_eq before after ≡ false → before ≤ after → before < after
not_longer before after h le = grind (arith, h, le)

module _ (begins : BeginsAreTasks) (log : List Row) (room : ℕ) (r : Record)
    (is : IsTrueRecord log room r) (quiet : IsQuiet r) where
  silent_row : (b : Bool) (row : Row) → is_begin row ≡ b → r.before < r.after
      → slice_get log (r.after - 1) ≡ Some row → program_if log r.after (Some row) ≡ []
  silent_row true row h grew there =
      let task = begins log room r row is grew there h in
      absurd (quiet task.0 task.1 task.2 task.3 task.4)
  silent_row false row h grew there = if_not (is_begin row) _ h

  silent_place : (o : Option Row) → slice_get log (r.after - 1) ≡ o → r.before < r.after
      → program_if log r.after o ≡ []
  silent_place None there grew = refl
  silent_place (Some row) there grew = silent_row (is_begin row) row refl grew there

  silent_by : (b : Bool) → nat_eq r.before r.after ≡ b
      → programs_at log (if b then [] else r.after ∷ []) ≡ []
  silent_by true same = refl
  silent_by false same =
      ap (λ runs. runs ++ [])
      (silent_place (slice_get log (r.after - 1)) refl
      (not_longer r.before r.after same is.within.0))

  silent_one : programs_at log (added r) ≡ []
  silent_one = silent_by (nat_eq r.before r.after) refl

module _ (begins : BeginsAreTasks) (log : List Row) (room : ℕ) where
  silent_all : (rs : List Record) → All (IsTrueRecord log room) rs → All IsQuiet rs
      → programs_at log (flat_map added rs) ≡ []
  silent_all [] is quiet = refl
  silent_all (r ∷ rs) is quiet =
      flat_map-append (program_at log) (added r) (flat_map added rs)
      ∙ ap (λ runs. runs ++ programs_at log (flat_map added rs))
      (silent_one begins log room r (All-head (IsTrueRecord log room) r rs is)
      (All-head IsQuiet r rs quiet))
      ∙ silent_all rs (All-tail (IsTrueRecord log room) r rs is) (All-tail IsQuiet r rs quiet)

-- ---- which are such

no_claim : (r : Record) → ((worker : ℕ) (at : ℤ) → r.call ≡ call.Claim worker at → ⊥) → IsQuiet r
no_claim r none worker at t claims gives = none worker at claims

abbrev pub is_claim : Call → Bool
is_claim (call.Claim worker at) = true
is_claim other = false

pub by_call : (r : Record) (c : Call) → r.call ≡ c → is_claim c ≡ false → IsQuiet r
by_call r c is other =
    no_claim r (λ worker at h. false≢true (sym other ∙ ap is_claim (sym is ∙ h)))

abbrev gives_task : Answer → Bool
gives_task (answer.Task t) = true
gives_task other = false

by_answer : (r : Record) (a : Answer) → r.answer ≡ a → gives_task a ≡ false → IsQuiet r
by_answer r a is other worker at t claims h =
    false≢true (sym other ∙ ap gives_task (sym is ∙ h))

pub one_quiet : (r : Record) → IsQuiet r → All IsQuiet (r ∷ [])
one_quiet r quiet = All-cons IsQuiet r [] quiet (All-nil IsQuiet)

ticks_quiet : (at : ℤ) (rs : List Record) → AreTicks at rs → All IsQuiet rs
ticks_quiet at [] h = absurd h
ticks_quiet at (r ∷ []) h = one_quiet r (by_call r (call.Tick at) h.asked refl)
ticks_quiet at (r ∷ q ∷ rs) h =
    All-cons IsQuiet r (q ∷ rs) (by_call r (call.Tick at) h.0.asked refl)
    (ticks_quiet at (q ∷ rs) h.1)

not_withdrawal : (a : Answer) → is_withdrawal a ≡ true → gives_task a ≡ false
not_withdrawal (answer.Task t) h = absurd (false≢true h)
not_withdrawal other h = refl

withdrawals_quiet : (at : ℤ) (worker : ℕ) (rs : List Record)
    → All (IsWithdrawal at worker) rs → All IsQuiet rs
withdrawals_quiet at worker [] h = All-nil IsQuiet
withdrawals_quiet at worker (r ∷ rs) h =
    let first = All-head (IsWithdrawal at worker) r rs h in
    All-cons IsQuiet r rs
    (by_answer r r.answer refl (not_withdrawal r.answer first.given))
    (withdrawals_quiet at worker rs (All-tail (IsWithdrawal at worker) r rs h))

last_quiet : (at : ℤ) (worker : ℕ) (a : Answer) (rs : List Record) → gives_task a ≡ false
    → IsLastClaim at worker a rs → All IsQuiet rs
last_quiet at worker a rs other h =
    subst (All IsQuiet) (sym h.behind)
    (All-append IsQuiet h.withdrawals (h.claim ∷ [])
    (withdrawals_quiet at worker h.withdrawals h.withdrew)
    (one_quiet h.claim (by_answer h.claim a h.given other)))

pub none_quiet : (rs : List Record) → rs ≡ [] → All IsQuiet rs
none_quiet rs h = subst (All IsQuiet) (sym h) (All-nil IsQuiet)

end_quiet : (at : ℤ) (worker : ℕ) (rs : List Record) (said : Pumped) → Ends at worker rs said
    → All IsQuiet rs
end_quiet at worker rs pumped.Idle h = last_quiet at worker answer.Idle rs refl h
end_quiet at worker rs pumped.Closed h = last_quiet at worker answer.Closed rs refl h
end_quiet at worker rs pumped.Limit h = none_quiet rs h
end_quiet at worker rs pumped.StoreFault h = last_quiet at worker answer.StoreFault rs refl h
end_quiet at worker rs pumped.NoMemory (inl h) = none_quiet rs h
end_quiet at worker rs pumped.NoMemory (inr h) = last_quiet at worker answer.NoMemory rs refl h

asked_quiet : (caller : Caller) (at : ℤ) (c : Call) → IsAskedBy caller at c
    → is_claim c ≡ false
asked_quiet caller at (call.Claim worker when) h = absurd h
asked_quiet caller at other h = refl

some_none : (r : Record) (turn : Option Record) → turn ≡ Some r → turn ≡ None → ⊥
some_none r None is none = grind (arith, is)
some_none r (Some q) is none = grind (arith, none)

module _ (callers : CallsAreTheCallers) (may_be : Moments) (tokens : List Token) where
  turn_quiet : (h : Heard) (turn : Option Record) (response : Option Response)
      → IsMet may_be tokens h turn response → All IsQuiet (option_to_list turn)
  turn_quiet h None response met = All-nil IsQuiet
  turn_quiet (heard.Asked request) (Some r) None met = absurd met
  turn_quiet (heard.Asked request) (Some r) (Some response) met =
      let asked = met.0 in
      let whose = callers tokens request asked.at r.call asked.asked.0 in
      one_quiet r (by_call r r.call refl (asked_quiet whose.0 asked.at r.call whose.2))
  turn_quiet heard.End (Some r) response met = absurd (some_none r (Some r) refl met.0)
  turn_quiet (heard.Broken fault) (Some r) response met =
      absurd (some_none r (Some r) refl met.0)
  turn_quiet heard.LineFault (Some r) response met = absurd (some_none r (Some r) refl met.0)
  turn_quiet heard.NoMemory (Some r) response met = absurd (some_none r (Some r) refl met.0)

-- ---- a course

module _ (begins : BeginsAreTasks) (acts : ActsAreTrue) (stay : TurnsStayTrue) where
  pub quiet_run : (rs : List Record) (a b : Told) → Acted a b rs → All IsQuiet rs → Runs b.log rs []
  quiet_run rs a b acted quiet log more =
      silent_all begins log a.room rs
      (subst (λ rows. All (IsTrueRecord rows a.room) rs) (sym more.1)
      (stay b.log more.0 a.room rs (acts a b rs acted).each).each) quiet

  pub pumped_run : (may_be : Moments) (worker : ℕ) (limit : Option ℕ) (old new : Outside)
      (said : Pumped) (done : HasPumped may_be worker limit old new said)
      → Runs new.clerk.log (done.ticks ++ (flat_map records_of done.works ++ done.last)) done.works
  pumped_run may_be worker limit old new said done =
      let parts =
      acted_split (flat_map records_of done.works) done.last done.mid new.clerk
      done.worked.acted in
      let behind : Runs new.clerk.log (flat_map records_of done.works ++ done.last)
      (done.works ++ []) =
      runs_then parts.0.log new.clerk.log (flat_map records_of done.works) done.last done.works []
      (acted_begins done.last parts.0 new.clerk parts.2) (works_run parts.0.log done.works)
      (quiet_run done.last parts.0 new.clerk parts.2
      (end_quiet done.at worker done.last said done.ends)) in
      subst (λ ws. Runs new.clerk.log
      (done.ticks ++ (flat_map records_of done.works ++ done.last)) ws)
      (append-nil done.works)
      (runs_then done.mid.log new.clerk.log done.ticks
      (flat_map records_of done.works ++ done.last) [] (done.works ++ [])
      (acted_begins (flat_map records_of done.works ++ done.last) done.mid new.clerk
      done.worked.acted)
      (quiet_run done.ticks old.clerk done.mid done.ticked.acted
      (ticks_quiet done.at done.ticks done.ticked.are)) behind)

  module _ (callers : CallsAreTheCallers) (may_be : Moments) where
    pump_run : (limit : Option ℕ) (old new : Outside) (p : Pump)
        → PumpsAs may_be limit old new p → Runs new.clerk.log (pump_records p) p.works
    pump_run limit old new p h =
        let done = h.pumped in
        subst (λ rs. Runs new.clerk.log rs p.works)
        (ap (λ ticks. ticks ++ (flat_map records_of done.works ++ done.last)) h.ticks
        ∙ ap (λ works. p.ticks ++ (flat_map records_of works ++ done.last)) h.works
        ∙ ap (λ last. p.ticks ++ (flat_map records_of p.works ++ last)) h.last)
        (subst (λ ws. Runs new.clerk.log
        (done.ticks ++ (flat_map records_of done.works ++ done.last)) ws) h.works
        (pumped_run may_be 0 limit old new p.said done))

    behind_run : (asked : Bool) (limit : Option ℕ) (old new : Outside) (p : Option Pump)
        → PumpsBehind asked may_be limit old new p
        → Runs new.clerk.log (pumped_if_any p) (works_if_any p)
    behind_run true limit old new None h = absurd h
    behind_run true limit old new (Some p) h = pump_run limit old new p h
    behind_run false limit old new p h =
        subst (λ q. Runs new.clerk.log (pumped_if_any q) (works_if_any q)) (sym h.0)
        (λ log more. refl)

    module _ (tokens : List Token) (limit : Option ℕ) where
      handling_run : (old new : Scene) (r : Handling) → Handles may_be tokens limit old new r
          → Runs new.outside.clerk.log (handling_records r) (works_if_any r.pump)
      handling_run old new r h =
          runs_then h.between.log new.outside.clerk.log (turns_of r.exchange)
          (pumped_if_any r.pump) [] (works_if_any r.pump)
          (acted_begins (pumped_if_any r.pump) h.between new.outside.clerk
          (acted_behind may_be (is_request r.exchange.heard) limit
          (standing h.between old.outside.spawner) new.outside r.pump h.pump))
          (quiet_run (turns_of r.exchange) old.outside.clerk h.between h.clerk
          (turn_quiet callers may_be tokens r.exchange.heard r.exchange.turn r.exchange.response
          h.is_one.met))
          (behind_run (is_request r.exchange.heard) limit
          (standing h.between old.outside.spawner) new.outside r.pump h.pump)

      handlings_run : (old new : Scene) (rs : List Handling)
          → HandlesAll may_be tokens limit old new rs
          → Runs new.outside.clerk.log (flat_map handling_records rs)
          (flat_map (λ r. works_if_any r.pump) rs)
      handlings_run old new [] h = λ log more. refl
      handlings_run old new (r ∷ rs) h =
          runs_then h.0.outside.clerk.log new.outside.clerk.log (handling_records r)
          (flat_map handling_records rs) (works_if_any r.pump)
          (flat_map (λ r. works_if_any r.pump) rs)
          (acted_begins (flat_map handling_records rs) h.0.outside.clerk new.outside.clerk
          (acted_handlings may_be tokens limit h.0 new rs h.2))
          (handling_run old h.0 r h.1) (handlings_run h.0 new rs h.2)

      stays_run : (served : ℕ) (old new : Scene) (vs : List Stay) (parting : Parting)
          → ServesAll may_be tokens limit served old new vs parting
          → Runs new.outside.clerk.log (flat_map stay_records vs)
          (flat_map (λ v. flat_map (λ r. works_if_any r.pump) v.handlings) vs)
      stays_run served old new [] parting h = λ log more. refl
      stays_run served old new (v ∷ vs) parting h =
          runs_then h.1.outside.clerk.log new.outside.clerk.log (stay_records v)
          (flat_map stay_records vs) (flat_map (λ r. works_if_any r.pump) v.handlings)
          (flat_map (λ v. flat_map (λ r. works_if_any r.pump) v.handlings) vs)
          (acted_begins (flat_map stay_records vs) h.1.outside.clerk new.outside.clerk
          (acted_stays may_be tokens limit (served + 1) h.1 new vs parting h.5))
          (handlings_run (with_callers old h.0) h.1 v.handlings h.4.handlings)
          (stays_run (served + 1) h.1 new vs parting h.5)

      course_run : (old new : Scene) (c : Course) → RunsCourse may_be tokens limit old new c
          → Runs new.outside.clerk.log (course_records c) (all_works c)
      course_run old new c h =
          let ready = h.ready.outside in
          let served = h.served.outside in
          let closed = standing h.closed served.spawner in
          let visits : List Work =
          flat_map (λ v. flat_map (λ r. works_if_any r.pump) v.handlings) c.stays in
          let last_pump =
          acted_pump may_be None closed new.outside c.last h.last in
          let ended : Runs new.outside.clerk.log (c.close ∷ pump_records c.last) c.last.works =
          runs_then h.closed.log new.outside.clerk.log (c.close ∷ []) (pump_records c.last) []
          c.last.works (acted_begins (pump_records c.last) h.closed new.outside.clerk last_pump)
          (quiet_run (c.close ∷ []) served.clerk h.closed (h.closed, h.close.acts, refl)
          (one_quiet c.close
          (by_call c.close (call.CloseDoor 0 h.close.at) h.close.asked refl)))
          (pump_run None closed new.outside c.last h.last) in
          let serving : Runs served.clerk.log (serving_records c) (c.first.works ++ visits) =
          runs_then ready.clerk.log served.clerk.log (pump_records c.first)
          (flat_map stay_records c.stays) c.first.works visits
          (acted_begins (flat_map stay_records c.stays) ready.clerk served.clerk
          (acted_stays may_be tokens limit 0 h.ready h.served c.stays c.parting h.callers))
          (pump_run limit old.outside ready c.first h.first)
          (stays_run 0 h.ready h.served c.stays c.parting h.callers) in
          subst (λ ws. Runs new.outside.clerk.log (course_records c) ws)
          (append_assoc c.first.works visits c.last.works)
          (runs_then served.clerk.log new.outside.clerk.log (serving_records c)
          (c.close ∷ pump_records c.last) (c.first.works ++ visits) c.last.works
          (acted_begins (c.close ∷ pump_records c.last) served.clerk new.outside.clerk
          (h.closed, h.close.acts, last_pump))
          serving ended)

    pub works_are_all : WorksAreAll may_be
    works_are_all tokens limit old new c h log more = course_run tokens limit old new c h log more
