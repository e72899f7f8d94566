-- Rows and what is owed never pass the room.
use Rattle.std.proofs.Common.{◌≡◌, ◌∙◌, ◌≤◌, ◌+◌, ◌-◌, ◌*◌, ℕ, zero, suc, ℤ, List, [], ◌∷◌, ◌++◌, length, map, filter, sum_by, Bool, true, false, cond, not, ◌&&◌, nat_eq, nat_le, Option, Some, None, Result, Ok, Err, slice_get, unwrap_or, ap, sym, subst, refl, arith, if◌then◌else◌}
use Rattle.std.specs.List.{list_any}
use Rattle.std.proofs.lemmas.Bool.{eq-eqb, and_parts, leb-true, or_left}
use Rattle.std.proofs.lemmas.List.Sums.{sum_by-cons}
use Rattle.rb_causes.specs.declared.row.Row.{Row}
use Rattle.rb_causes.proofs.Lists.{filter_most}
use Rattle.rb_yaml.specs.Faults.{◌>>=◌}
use Rattle.rb_acl.specs.declared.policy.Caller.{Caller}
use Rattle.rb_acl.specs.declared.policy.Policies.{Policies}
use Rattle.rb_marks.specs.Results.{leaf_result}
use Rattle.rb_marks.specs.Units.{Outline, is_settled}
use Rattle.rb_marks.specs.First.{status_of, is_lost, is_open, is_begin_of, open_begin}
use Rattle.rb_marks.specs.declared.mark.Leaf.{Leaf}
use Rattle.rb_marks.specs.declared.mark.Mark.{Mark}
use Rattle.rb_marks.specs.declared.mark.Status.{Status}
use Rattle.rb_marks.specs.declared.mark.Status.TheVariants as status
use Rattle.rb_marks.proofs.Counts.{any_wider}
use Rattle.rb_log.specs.Rows.{is_opened, is_withdraw, zone_row, nodes_row, policy_row, jobs_row, skipped_row, close_row}
use Rattle.rb_log.specs.Executions.{Execution, WithdrawnNode, executions, is_running, is_running_status, marks_of, withdrawn_by, marked}
use Rattle.rb_log.specs.Sums.{leaf_count, owed_by, without, open_doors}
use Rattle.rb_log.specs.LogState.{LogState, log_state, owed, has_room}
use Rattle.rb_log.specs.Moves.{Moved, moved_or, limited, limited_by, full_unless}
use Rattle.rb_log.specs.Imports.{imported}
use Rattle.rb_log.specs.declared.answer.Answer.{Answer}
use Rattle.rb_log.specs.declared.answer.ImportedJob.{ImportedJob}
use Rattle.rb_log.proofs.ExecutionLaws.{unmarked}
use Rattle.rb_log.proofs.MarkCounts.{length_push}
use Rattle.rb_log.proofs.RightLaws.{begin_is}

-- ---- what executions owe

abbrev pub owing : Execution → ℕ
owing e = cond (is_running e) (owed_by e) 0

abbrev pub total : List Execution → ℕ
total [] = 0
total (e ∷ es) = owing e + total es

sum_if : (b : Bool) (e : Execution) (es : List Execution)
    → sum_by owed_by (cond b (e ∷ es) es) ≡ cond b (owed_by e) 0 + sum_by owed_by es
sum_if true e es = sum_by-cons owed_by e es
sum_if false e es = omega arith

sum_total : (es : List Execution) → sum_by owed_by (filter is_running es) ≡ total es
sum_total [] = refl
sum_total (e ∷ es) =
    sum_if (is_running e) e (filter is_running es) ∙ ap (λ n. owing e + n) (sum_total es)

pub owed_is : (past : List Row)
    → owed (log_state past) ≡ total (executions past) + length (open_doors past)
owed_is past = ap (λ n. n + length (open_doors past)) (sum_total (executions past))

-- ---- a row that marks nothing

pub no_marks : (p : Policies) (e : Execution) (row : Row) → marks_of row e ≡ []
    → withdrawn_by p row e ≡ [] → marked p row e ≡ e
no_marks p e row h k =
    ap (λ ms. record e { withdrawn = e.withdrawn ++ withdrawn_by p row e; marks = e.marks ++ ms }) h
    ∙ ap (λ ws. record e { withdrawn = e.withdrawn ++ ws; marks = e.marks ++ [] }) k
    ∙ sym (unmarked e)

pub either_none : {A : Type 0} (b : Bool) (ms : List A) → ms ≡ [] → (if b then ms else []) ≡ []
either_none true ms h = h
either_none false ms h = refl

-- a row of another kind than an opening, an Accept, a Begin, an End, an Abort or a Withdraw
pub record IsQuiet (row : Row) : Type 0 where
  pub marks : (e : Execution) → marks_of row e ≡ []
  pub withdraws : (p : Policies) (e : Execution) → withdrawn_by p row e ≡ []

pub unmarked_all : (p : Policies) (row : Row) (es : List Execution) → IsQuiet row
    → map (marked p row) es ≡ es
unmarked_all p row [] q = refl
unmarked_all p row (e ∷ es) q =
    ap (λ x. x ∷ map (marked p row) es) (no_marks p e row (q.marks e) (q.withdraws p e))
    ∙ ap (λ xs. e ∷ xs) (unmarked_all p row es q)

pub zone_quiet : (m : ℤ) (n : ℕ) (zone rule : List ℕ) → IsQuiet (zone_row m n zone rule)
zone_quiet m n zone rule = record {
  marks = λ e. either_none (nat_eq n e.number) [] refl;
  withdraws = λ p e. refl;
}

pub nodes_quiet : (m : ℤ) (n : ℕ) (project body : List ℕ) → IsQuiet (nodes_row m n project body)
nodes_quiet m n project body = record {
  marks = λ e. either_none (nat_eq n e.number) [] refl;
  withdraws = λ p e. refl;
}

pub policy_quiet : (m : ℤ) (n : ℕ) (checked : Bool) (name : List ℕ) (caller : Caller)
    (body : List ℕ)
    → IsQuiet (policy_row m n checked name caller body)
policy_quiet m n checked name caller body = record {
  marks = λ e. either_none (nat_eq n e.number) [] refl;
  withdraws = λ p e. refl;
}

pub jobs_quiet : (m : ℤ) (n : ℕ) (checked : Bool) (name : List ℕ) (caller : Caller) (body : List ℕ)
    → IsQuiet (jobs_row m n checked name caller body)
jobs_quiet m n checked name caller body = record {
  marks = λ e. either_none (nat_eq n e.number) [] refl;
  withdraws = λ p e. refl;
}

pub skipped_quiet : (m : ℤ) (due refusal : ℕ) (job : List ℕ)
    → IsQuiet (skipped_row m due refusal job)
skipped_quiet m due refusal job = record {
  marks = λ e. either_none (nat_eq due e.number) [] refl;
  withdraws = λ p e. refl;
}

pub close_quiet : (m : ℤ) (door : ℕ) → IsQuiet (close_row m door)
close_quiet m door = record {
  marks = λ e. either_none (nat_eq door e.number) [] refl;
  withdraws = λ p e. refl;
}

-- ---- a row that marks one execution

unnamed_by : (o s : Bool) (lost own : List Mark) → o ≡ false → s ≡ false
    → (if o then lost else if s then own else []) ≡ []
unnamed_by true s lost own h k = absurd (grind (arith, h))
unnamed_by false true lost own h k = absurd (grind (arith, k))
unnamed_by false false lost own h k = refl

kept_by : (w s : Bool) (gone : List WithdrawnNode) → s ≡ false
    → (if w && s then gone else []) ≡ []
kept_by true true gone h = absurd (grind (arith, h))
kept_by true false gone h = refl
kept_by false s gone h = refl

unnamed : (p : Policies) (row : Row) (e : Execution) → is_opened row ≡ false
    → nat_eq row.a e.number ≡ false → marked p row e ≡ e
unnamed p row e h k =
    no_marks p e row (unnamed_by (is_opened row) (nat_eq row.a e.number) _ _ h k)
    (kept_by (is_withdraw row) (nat_eq row.a e.number) _ k)

-- those of these executions, numbered from n, that the row does not name
all_unnamed : (p : Policies) (row : Row) (n : ℕ) (es : List Execution)
    → ((k : ℕ) (e : Execution) → slice_get es k ≡ Some e → e.number ≡ suc (n + k))
    → is_opened row ≡ false → row.a ≤ n → map (marked p row) es ≡ es
all_unnamed p row n [] h o low = refl
all_unnamed p row n (x ∷ es) h o low =
    let first : x.number ≡ suc (n + 0) = h zero x refl in
    ap (λ y. y ∷ map (marked p row) es) (unnamed p row x o (grind (arith, first, low)))
    ∙ ap (λ ys. x ∷ ys)
    (all_unnamed p row (suc n) es (λ k e g. let q = h (suc k) e g in omega (arith, q)) o
    (omega (arith, low)))

pub less_total : (p : Policies) (row : Row) (n : ℕ) (es : List Execution)
    → ((k : ℕ) (e : Execution) → slice_get es k ≡ Some e → e.number ≡ suc (n + k))
    → is_opened row ≡ false → (k : ℕ) (e : Execution) → slice_get es k ≡ Some e
    → row.a ≡ e.number → owing (marked p row e) + 1 ≤ owing e
    → total (map (marked p row) es) + 1 ≤ total es
less_total p row n [] h o k e get is less = absurd (grind (arith, get))
less_total p row n (x ∷ es) h o zero e get is less =
    let same : x ≡ e = ap (λ o. unwrap_or o x) get in
    let first : e.number ≡ suc (n + 0) = h zero e get in
    let rest : total (map (marked p row) es) ≡ total es =
    ap total (all_unnamed p row (suc n) es (λ j d g. let q = h (suc j) d g in omega (arith, q)) o
    (omega (arith, is, first))) in
    let here : owing (marked p row x) + 1 ≤ owing x =
    subst (λ (z : Execution). owing (marked p row z) + 1 ≤ owing z) (sym same) less in
    omega (arith, rest, here)
less_total p row n (x ∷ es) h o (suc k) e get is less =
    let first : x.number ≡ suc (n + 0) = h zero x refl in
    let at : e.number ≡ suc (n + suc k) = h (suc k) e get in
    let here : owing (marked p row x) ≡ owing x =
    ap owing (unnamed p row x o (grind (arith, first, at, is))) in
    let rest = less_total p row (suc n) es (λ j d g. let q = h (suc j) d g in omega (arith, q)) o k
    e get is less in
    omega (arith, here, rest)

pub cond_most : (b : Bool) (n : ℕ) → cond b n 0 ≤ n
cond_most true n = omega arith
cond_most false n = omega arith

cond_all : (b : Bool) (n : ℕ) → b ≡ true → cond b n 0 ≡ n
cond_all true n h = refl
cond_all false n h = absurd (grind (arith, h))

-- a mark that may come takes one of the rows that are owed
pub owing_less : (p : Policies) (row : Row) (e : Execution) (m : Mark) → marks_of row e ≡ m ∷ []
    → is_running e ≡ true → length e.marks + 1 ≤ 2 * leaf_count e + 1
    → owing (marked p row e) + 1 ≤ owing e
owing_less p row e m is runs room =
    let owes : owing e ≡ owed_by e = cond_all (is_running e) (owed_by e) runs in
    let more : length (e.marks ++ marks_of row e) ≡ length e.marks + 1 =
    ap (λ ms. length (e.marks ++ ms)) is ∙ length_push e.marks m in
    let most : owing (marked p row e) ≤ 2 * leaf_count e + 1 - length (e.marks ++ marks_of row e) =
    cond_most (is_running (marked p row e)) (owed_by (marked p row e)) in
    omega (arith, owes, more, most, room)

-- ---- moves that need one row

abbrev pub NeedsOne : Moved → Type 0
NeedsOne m = (row : Row) → m.row ≡ Some row → m.need ≡ Some 1

pub needs_bind : {A : Type 0} (r : Result A Answer) (f : A → Result Moved Answer)
    → ((x : A) → NeedsOne (moved_or (f x))) → NeedsOne (moved_or (r >>= f))
needs_bind (Ok x) f k = k x
needs_bind (Err a) f k = λ row h. absurd (grind (arith, h))

pub needs_imported : (b : Bool) (n : ℕ) (jobs : List ImportedJob) (make : ℕ → Row)
    → NeedsOne (imported b n jobs make)
needs_imported true n jobs make row h = refl
needs_imported false n jobs make row h = absurd (grind (arith, h))

fits_if : (b : Bool) (m : Moved) (row : Row) → (full_unless b m).row ≡ Some row → b ≡ true
fits_if true m row h = refl
fits_if false m row h = absurd (grind (arith, h))

fits_by : (s : LogState) (room : ℕ) (m : Moved) (r : Option Row) (n : Option ℕ) (row : Row)
    (need : ℕ) → m.row ≡ r → n ≡ Some need → (limited_by s room m r n).row ≡ Some row
    → s.rows + owed s + need ≤ room
fits_by s room m None n row need is k h =
    absurd (let no : None ≡ Some row = sym is ∙ h in grind (arith, no))
fits_by s room m (Some x) None row need is k h = absurd (grind (arith, k))
fits_by s room m (Some x) (Some j) row need is k h =
    let fits = and_parts (nat_le (s.rows + owed s + j) room) _
    (fits_if (has_room s room j x) m row h) in
    let same : j ≡ need = ap (λ o. unwrap_or o j) k in
    let low = leb-true (s.rows + owed s + j) room fits.0 in
    omega (arith, same, low)

pub fits : (s : LogState) (room : ℕ) (m : Moved) (row : Row) (need : ℕ) → m.need ≡ Some need
    → (limited s room m).row ≡ Some row → s.rows + owed s + need ≤ room
fits s room m row need k h = fits_by s room m m.row m.need row need refl k h

-- ---- doors

taken_out : {A : Type 0} (p : A → Bool) (b : Bool) (x : A) (xs : List A) → b ≡ false
    → length (cond b (x ∷ filter p xs) (filter p xs)) + 1 ≤ suc (length xs)
taken_out p true x xs h = absurd (grind (arith, h))
taken_out p false x xs h = let most = filter_most p xs in omega (arith, most)

kept_or_not : {A : Type 0} (p : A → Bool) (b : Bool) (x : A) (xs : List A)
    → length (filter p xs) + 1 ≤ length xs
    → length (cond b (x ∷ filter p xs) (filter p xs)) + 1 ≤ suc (length xs)
kept_or_not p true x xs h = omega (arith, h)
kept_or_not p false x xs h = omega (arith, h)

pub less_doors : (doors : List ℕ) (k door : ℕ) → slice_get doors k ≡ Some door
    → length (without door doors) + 1 ≤ length doors
less_doors [] k door h = absurd (grind (arith, h))
less_doors (d ∷ doors) zero door h =
    let same : d ≡ door = ap (λ o. unwrap_or o d) h in
    taken_out (λ m. not (nat_eq m door)) (not (nat_eq d door)) d doors
    (ap not (eq-eqb d door same))
less_doors (d ∷ doors) (suc k) door h =
    kept_or_not (λ m. not (nat_eq m door)) (not (nat_eq d door)) d doors
    (less_doors doors k door h)

-- ---- an open leaf runs

pub status_runs : (lost runs : Bool) (other : Status) → lost ≡ false → runs ≡ true
    → is_running_status (if lost then status.Incomplete else if runs then status.Running else other)
    ≡ true
status_runs true runs other h k = absurd (grind (arith, h))
status_runs false true other h k = refl
status_runs false false other h k = absurd (grind (arith, k))

pub open_runs : (p : Outline) (ms : List Mark) (leaf : Leaf) → is_open ms leaf ≡ true
    → list_any is_lost ms ≡ false → is_running_status (status_of p ms) ≡ true
open_runs p ms leaf is kept =
    let parts = and_parts (list_any (is_begin_of leaf) ms) (not (is_settled (leaf_result ms leaf)))
    is in
    status_runs (list_any is_lost ms) _ _ kept
    (or_left (list_any (open_begin ms) ms) _
    (any_wider (is_begin_of leaf) (open_begin ms)
    (λ m b. subst (λ x. open_begin ms x ≡ true) (sym (begin_is leaf m b)) parts.1) ms parts.0))
