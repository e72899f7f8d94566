-- The programs of works: a row that withdraws a node has none, nor has that of a Report.
use Rattle.std.proofs.Common.{◌≡◌, ◌∙◌, ◌≤◌, ◌⊎◌, inl, inr, ℕ, zero, suc, ℤ, List, [], ◌∷◌, ◌++◌, length, map, Bool, true, false, ◌&&◌, nat_eq, Some, slice_get, All, ap, sym, refl, arith, append-nil, if◌then◌else◌}
use Rattle.std.specs.List.{flat_map}
use Rattle.std.proofs.lemmas.Bool.{eqb-true, and_parts, cond-false, false≢true}
use Rattle.std.proofs.lemmas.Grind.{flat_map-append}
use Rattle.std.proofs.lemmas.List.Elements.{All-head, All-tail}
use Rattle.rb_causes.specs.declared.row.Row.{Row}
use Rattle.rb_causes.specs.declared.spawner.SpawnRun.{SpawnRun}
use Rattle.rb_log.specs.Rows.{is_begin, is_end}
use Rattle.rb_log.specs.Records.{Record}
use Rattle.rb_log.specs.Programs.{is_end_of, program_at, program_if, programs_at}
use Rattle.rb_log.specs.Tasks.{TaskValue}
use Rattle.rb_log.specs.Told.{Told, IsBeginning, added}
use Rattle.rb_log.specs.Acted.{Acted, ActsAs}
use Rattle.rb_log.specs.declared.answer.Answer.{Answer}
use Rattle.rb_log.specs.declared.answer.Answer.TheVariants as answer
use Rattle.rb_log.specs.declared.call.Call.TheVariants.{Claim}
use Rattle.rb_log.specs.Withdrawals.{is_withdrawal}
use Rattle.rb_work.specs.Hearing.{is_task}
use Rattle.rb_work.specs.Works.{Work, task_run, records_of, added_numbers, row_at, IsWithdrawal, IsWork}
use Rattle.rb_work.proofs.Claimed.{WasClaimed}
use Rattle.rb_work.proofs.Lists.{less_one, one_more}
use Rattle.rb_work.proofs.Logged.{newest_at, row_stays}
use Rattle.rb_work.proofs.Records.{acted_begins, acted_split, begins_then}
use Rattle.rb_work.proofs.Withdrawn.{claim_of, withdrawal_of}

-- ---- rows without a program

no_begin : (row : Row) → is_end row ≡ true → is_begin row ≡ false
no_begin row h = let kind = eqb-true row.kind 9 h in grind (arith, kind)

if_not : (b : Bool) (xs : List SpawnRun) → b ≡ false → (if b then xs else []) ≡ []
if_not true xs h = absurd (grind (arith, h))
if_not false xs h = refl

-- of a row that begins nothing
other_program : (log : List Row) (n : ℕ) (row : Row) → row_at log n ≡ Some row
    → is_begin row ≡ false → program_at log n ≡ []
other_program log zero row h other = absurd (grind (arith, h))
other_program log (suc n) row h other =
    ap (λ k. program_if log (suc n) (slice_get log k)) (less_one n)
    ∙ ap (λ o. program_if log (suc n) o) h ∙ if_not (is_begin row) _ other

end_program : (log : List Row) (n : ℕ) (begin row : Row) → row_at log n ≡ Some row
    → is_end_of begin row ≡ true → program_at log n ≡ []
end_program log n begin row h is =
    let parts = and_parts (is_end row) (nat_eq row.a begin.a && nat_eq row.b begin.b) is in
    other_program log n row h (no_begin row parts.0)

silent_by : (same : Bool) (log : List Row) (n : ℕ) → program_at log n ≡ []
    → programs_at log (if same then [] else n ∷ []) ≡ []
silent_by true log n h = refl
silent_by false log n h = ap (λ runs. runs ++ []) h

-- what a record added, if anything
silent : (log : List Row) (r : Record) → program_at log r.after ≡ []
    → programs_at log (added r) ≡ []
silent log r h = silent_by (nat_eq r.before r.after) log r.after h

-- ---- withdrawals

withdrawal_silent : (at : ℤ) (worker : ℕ) (r : Record) (a b : Told) (log : List Row)
    → IsWithdrawal at worker r → ActsAs a b r → IsBeginning b.log log
    → programs_at log (added r) ≡ []
withdrawal_silent at worker r a b log is h begins =
    let was = withdrawal_of worker at a b r.call r.answer h.acts is.asked is.given in
    let there : row_at b.log (length b.log) ≡ Some was.row =
    newest_at h.acts.before b.log was.row h.acts.true_record.within.0 was.log_is in
    let stays : row_at (b.log ++ begins.0) r.after ≡ Some was.row =
    row_stays b.log begins.0 r.after was.row
    (ap (λ n. row_at b.log n) (sym h.after) ∙ there) in
    silent log r
    (other_program log r.after was.row (ap (λ rows. row_at rows r.after) begins.1 ∙ stays)
    was.other)

withdrawals_silent : (at : ℤ) (worker : ℕ) (ws : List Record) (a b : Told) (log : List Row)
    → All (IsWithdrawal at worker) ws → Acted a b ws → IsBeginning b.log log
    → programs_at log (flat_map added ws) ≡ []
withdrawals_silent at worker [] a b log h acted begins = refl
withdrawals_silent at worker (w ∷ ws) a b log h acted begins =
    let first = withdrawal_silent at worker w a acted.0 log
    (All-head (IsWithdrawal at worker) w ws h) acted.1
    (begins_then acted.0.log b.log log (acted_begins ws acted.0 b acted.2) begins) in
    let rest = withdrawals_silent at worker ws acted.0 b log
    (All-tail (IsWithdrawal at worker) w ws h) acted.2 begins in
    flat_map-append (program_at log) (added w) (flat_map added ws)
    ∙ ap (λ runs. runs ++ programs_at log (flat_map added ws)) first
    ∙ rest

-- ---- one work

other_number : (n m : ℕ) → m ≡ suc n → nat_eq n m ≡ false
other_number n m h = grind (arith, h)

one_added : (r : Record) → r.after ≡ suc r.before → added r ≡ r.after ∷ []
one_added r h =
    cond-false (nat_eq r.before r.after) [] (r.after ∷ []) (other_number r.before r.after h)

-- a Claim that gave a task added one row
task_longer : (worker : ℕ) (a : Answer) (before : ℕ) (log : List Row) (t : TaskValue)
    → before ≤ length log → a ≡ answer.Task t → WasClaimed worker a before log
    → length log ≡ suc before
task_longer worker a before log t within is (inl h) = one_more before log _ within h.2.log_is
task_longer worker a before log t within is (inr (inl h)) =
    absurd (false≢true (ap is_withdrawal (sym is) ∙ h.word))
task_longer worker a before log t within is (inr (inr h)) = absurd (never h.word)
  where
    other : (b : Answer) → a ≡ b → is_task b ≡ false → ⊥
    other b same none = false≢true (sym none ∙ (ap is_task (sym same) ∙ ap is_task is))

    never : (a ≡ answer.Idle) ⊎ ((a ≡ answer.Closed)
        ⊎ ((a ≡ answer.StoreFault) ⊎ (a ≡ answer.NoMemory))) → ⊥
    never (inl same) = other answer.Idle same refl
    never (inr (inl same)) = other answer.Closed same refl
    never (inr (inr (inl same))) = other answer.StoreFault same refl
    never (inr (inr (inr same))) = other answer.NoMemory same refl

claim_added : (at : ℤ) (worker : ℕ) (r : Record) (a b : Told) (t : TaskValue)
    → r.call ≡ Claim worker at → r.answer ≡ answer.Task t → ActsAs a b r
    → added r ≡ r.after ∷ []
claim_added at worker r a b t asked given h =
    let longer : length b.log ≡ suc h.acts.before =
    task_longer worker r.answer h.acts.before b.log t h.acts.true_record.within.0 given
    (claim_of worker at a b r.call r.answer h.acts asked) in
    one_added r (sym h.after ∙ longer ∙ ap suc h.before)

work_programs : (at : ℤ) (worker : ℕ) (log : List Row) (w : Work) (a b : Told)
    → IsWork at worker log w → Acted a b (records_of w) → IsBeginning b.log log
    → programs_at log (added_numbers w) ≡ task_run w ∷ []
work_programs at worker log w a b is acted begins =
    let pair : List Record = w.claim ∷ w.report ∷ [] in
    let parts = acted_split w.withdrawals pair a b acted in
    let before = withdrawals_silent at worker w.withdrawals a parts.0 log is.withdrew parts.1
    (begins_then parts.0.log b.log log (acted_begins pair parts.0 b parts.2) begins) in
    let claimed = claim_added at worker w.claim parts.0 parts.2.0 w.task is.asked is.given
    parts.2.1 in
    let reported = silent log w.report
    (end_program log w.report.after is.logged.begin is.logged.end is.logged.end_at
    is.logged.ended) in
    ap (programs_at log) (flat_map-append added w.withdrawals pair)
    ∙ flat_map-append (program_at log) (flat_map added w.withdrawals) (flat_map added pair)
    ∙ ap (λ runs. runs ++ programs_at log (flat_map added pair)) before
    ∙ ap (λ ns. programs_at log (ns ++ (added w.report ++ []))) claimed
    ∙ ap (λ runs. runs ++ programs_at log (added w.report ++ [])) is.logged.program
    ∙ ap (λ ns. task_run w ∷ programs_at log ns) (append-nil (added w.report))
    ∙ ap (λ runs. task_run w ∷ runs) reported

-- ---- works

pub works_programs : (at : ℤ) (worker : ℕ) (log : List Row) (ws : List Work) (a b : Told)
    → All (IsWork at worker log) ws → Acted a b (flat_map records_of ws) → IsBeginning b.log log
    → programs_at log (flat_map added_numbers ws) ≡ map task_run ws
works_programs at worker log [] a b h acted begins = refl
works_programs at worker log (w ∷ ws) a b h acted begins =
    let more : List Record = flat_map records_of ws in
    let parts = acted_split (records_of w) more a b acted in
    let first = work_programs at worker log w a parts.0 (All-head (IsWork at worker log) w ws h)
    parts.1 (begins_then parts.0.log b.log log (acted_begins more parts.0 b parts.2) begins) in
    let rest = works_programs at worker log ws parts.0 b
    (All-tail (IsWork at worker log) w ws h) parts.2 begins in
    flat_map-append (program_at log) (added_numbers w) (flat_map added_numbers ws)
    ∙ ap (λ runs. runs ++ programs_at log (flat_map added_numbers ws)) first
    ∙ ap (λ runs. task_run w ∷ runs) rest
