-- What a row that names one execution leaves of a list of them.
use Rattle.std.proofs.Common.{◌≡◌, ◌∙◌, ◌≤◌, ◌<◌, ◌+◌, ℕ, zero, suc, List, [], ◌∷◌, ◌++◌, map, filter, Bool, true, false, cond, not, nat_eq, Option, Some, None, ◌&&◌, length, option_map, option_to_list, slice_get, slice_set, ap, sym, subst, refl, arith, append-nil, if◌then◌else◌}
use Rattle.std.proofs.lemmas.Bool.{eq-eqb}
use Rattle.rb_causes.specs.declared.row.Row.{Row}
use Rattle.rb_causes.proofs.Lists.{some_is}
use Rattle.rb_marks.specs.declared.mark.Mark.{Mark}
use Rattle.rb_marks.specs.declared.mark.Mark.TheVariants.{Withdraw}
use Rattle.rb_plan.specs.declared.world.Running.{Running}
use Rattle.rb_acl.specs.declared.policy.Policies.{Policies}
use Rattle.rb_log.specs.Executions.{Execution, WithdrawnNode, execution_among, executions, is_running, marks_of, marked, running_now, withdrawn_by, withdrawn_node, world_before}
use Rattle.rb_log.specs.Rows.{is_withdraw, withdraw_kind}
use Rattle.rb_log.specs.Laws.{ExecutionsAreNumbered}
use Rattle.rb_log.proofs.EndLaws.{here_by, among_at_by}
use Rattle.rb_tables.specs.Running.{running_after, with_mark}

abbrev no_nodes : List WithdrawnNode
no_nodes = []

-- the policies in force before a row
abbrev pub policies_before : List Row → Policies
policies_before past = (world_before past (executions past)).policies

-- ---- one execution has one mark more

-- the row marks the execution that it names so, and no other
abbrev pub Marks : Row → (Execution → Mark) → Type 0
Marks row mark =
    (e : Execution) → marks_of row e ≡ (if nat_eq row.a e.number then mark e ∷ [] else [])

marked_by : (b : Bool) (e : Execution) (m : Mark)
    → record e { marks = e.marks ++ (if b then m ∷ [] else []) } ≡ (if b then with_mark e m else e)
marked_by true e m = refl
marked_by false e m = ap (λ ms. record e { marks = ms }) (append-nil e.marks)

withdraws_none : (b : Bool) (xs : List WithdrawnNode) → b ≡ false
    → (if b then xs else []) ≡ no_nodes
withdraws_none true xs h = absurd (grind (arith, h))
withdraws_none false xs h = refl

-- a row that withdraws no node marks alone
pub marked_alone : (policies : Policies) (row : Row) (e : Execution) → is_withdraw row ≡ false
    → marked policies row e ≡ record e { marks = e.marks ++ marks_of row e }
marked_alone policies row e plain =
    ap (λ ws. record e { withdrawn = ws; marks = e.marks ++ marks_of row e })
    (ap (λ ws. e.withdrawn ++ ws)
    (withdraws_none (is_withdraw row && nat_eq row.a e.number) _
    (ap (λ b. b && nat_eq row.a e.number) plain))
    ∙ append-nil e.withdrawn)

marked_is : (policies : Policies) (row : Row) (mark : Execution → Mark) → is_withdraw row ≡ false
    → Marks row mark → (e : Execution) (b : Bool) → nat_eq row.a e.number ≡ b
    → marked policies row e ≡ (if b then with_mark e (mark e) else e)
marked_is policies row mark plain h e b is =
    marked_alone policies row e plain
    ∙ ap (λ ms. record e { marks = e.marks ++ ms }) (h e)
    ∙ marked_by (nat_eq row.a e.number) e (mark e)
    ∙ ap (λ t. if t then with_mark e (mark e) else e) is

-- numbered in order, from this number on
abbrev pub AreNumbered : ℕ → List Execution → Type 0
AreNumbered n es = (k : ℕ) (e : Execution) → slice_get es k ≡ Some e → e.number ≡ suc (n + k)

rest_numbered : (n : ℕ) (x : Execution) (es : List Execution) → AreNumbered n (x ∷ es)
    → AreNumbered (suc n) es
rest_numbered n x es h k e get = let q = h (suc k) e get in omega (arith, q)

first_is : (n : ℕ) (x : Execution) (es : List Execution) → AreNumbered n (x ∷ es)
    → x.number ≡ suc n
first_is n x es h = let q = h zero x refl in omega (arith, q)

-- ---- a row that changes the one of its number alone

-- what a row does to the execution that it names, and to no other
abbrev pub Names : (Execution → Execution) → Row → (Execution → Execution) → Type 0
Names does row named =
    (e : Execution) (b : Bool) → nat_eq row.a e.number ≡ b → does e ≡ (if b then named e else e)

module _ (does named : Execution → Execution) (row : Row) (h : Names does row named) where
  none_changed : (n : ℕ) (es : List Execution) → AreNumbered n es → row.a ≤ n → map does es ≡ es
  none_changed n [] numbered low = refl
  none_changed n (x ∷ es) numbered low =
      let first = first_is n x es numbered in
      ap (λ y. y ∷ map does es) (h x false (grind (arith, first, low)))
      ∙ ap (λ ys. x ∷ ys)
      (none_changed (suc n) es (rest_numbered n x es numbered) (omega (arith, low)))

  pub named_set : (n : ℕ) (es : List Execution) → AreNumbered n es → (k : ℕ) (e : Execution)
      → slice_get es k ≡ Some e → row.a ≡ e.number → map does es ≡ slice_set es k (named e)
  named_set n [] numbered k e get is = absurd (grind (arith, get))
  named_set n (x ∷ es) numbered zero e get is =
      let same : x ≡ e = some_is x e get in
      let first = numbered zero e get in
      ap (λ y. y ∷ map does es) (ap does same ∙ h e true (eq-eqb row.a e.number is))
      ∙ ap (λ ys. named e ∷ ys)
      (none_changed (suc n) es (rest_numbered n x es numbered) (omega (arith, is, first)))
  named_set n (x ∷ es) numbered (suc k) e get is =
      let first = first_is n x es numbered in
      let at = numbered (suc k) e get in
      ap (λ y. y ∷ map does es) (h x false (grind (arith, first, at, is)))
      ∙ ap (λ ys. x ∷ ys) (named_set (suc n) es (rest_numbered n x es numbered) k e get is)

-- a row that marks the one at a place
pub mark_set : (policies : Policies) (row : Row) (mark : Execution → Mark)
    → is_withdraw row ≡ false → Marks row mark → (n : ℕ) (es : List Execution)
    → AreNumbered n es → (k : ℕ) (e : Execution) → slice_get es k ≡ Some e
    → row.a ≡ e.number → map (marked policies row) es ≡ slice_set es k (with_mark e (mark e))
mark_set policies row mark plain h =
    named_set (marked policies row) (λ e. with_mark e (mark e)) row
    (marked_is policies row mark plain h)

-- ---- a row that withdraws a node

-- the node is withdrawn, with the clause of the decision on it by these policies
abbrev pub withdrawn_at : Policies → Row → Execution → Execution
withdrawn_at policies row e = record e {
  withdrawn = e.withdrawn ++ withdrawn_by policies row e;
  marks = e.marks ++ Withdraw row.b ∷ [];
}

other_stays : (policies : Policies) (row : Row) (e : Execution) → row.kind ≡ withdraw_kind
    → nat_eq row.a e.number ≡ false → marked policies row e ≡ e
other_stays policies row e kind apart =
    subst (λ k. marked policies (record row { kind = k }) e ≡ e) (sym kind)
    (ap (λ b. record e {
      withdrawn = e.withdrawn
          ++ (if b
          then option_to_list
          (option_map (withdrawn_node policies e row.b) (slice_get e.accepted.nodes row.b))
          else []);
      marks = e.marks ++ (if b then Withdraw row.b ∷ [] else []);
    }) apart
    ∙ ap (λ ws. record e { withdrawn = ws; marks = e.marks ++ [] }) (append-nil e.withdrawn)
    ∙ ap (λ ms. record e { marks = ms }) (append-nil e.marks))

this_one : (policies : Policies) (row : Row) (e : Execution) → row.kind ≡ withdraw_kind
    → nat_eq row.a e.number ≡ true → marked policies row e ≡ withdrawn_at policies row e
this_one policies row e kind same =
    subst (λ k. marked policies (record row { kind = k }) e
    ≡ withdrawn_at policies (record row { kind = k }) e) (sym kind)
    (ap (λ b. record e {
      withdrawn = e.withdrawn ++ withdrawn_by policies (record row { kind = withdraw_kind }) e;
      marks = e.marks ++ (if b then Withdraw row.b ∷ [] else []);
    }) same)

pub withdraw_set : (policies : Policies) (row : Row) → row.kind ≡ withdraw_kind → (n : ℕ)
    (es : List Execution) → AreNumbered n es → (k : ℕ) (e : Execution)
    → slice_get es k ≡ Some e → row.a ≡ e.number
    → map (marked policies row) es ≡ slice_set es k (withdrawn_at policies row e)
withdraw_set policies row kind =
    named_set (marked policies row) (withdrawn_at policies row) row by_number
  where
    by_number : Names (marked policies row) row (withdrawn_at policies row)
    by_number e true is = this_one policies row e kind is
    by_number e false is = other_stays policies row e kind is

-- ---- those that run

abbrev pub running_of : Execution → Running
running_of e = record { execution = e.number; job = e.accepted.job }

run_if : (b c : Bool) (e : Execution) (es : List Execution) → c ≡ b
    → map running_of (cond c (e ∷ es) es)
    ≡ (if b then running_of e ∷ map running_of es else map running_of es)
run_if true true e es h = refl
run_if true false e es h = absurd (grind (arith, h))
run_if false true e es h = absurd (grind (arith, h))
run_if false false e es h = refl

-- by the first and by the rest
running_cons : (e : Execution) (es : List Execution) (b : Bool) → is_running e ≡ b
    → running_now (e ∷ es) ≡ (if b then running_of e ∷ running_now es else running_now es)
running_cons e es b h = run_if b (is_running e) e (filter is_running es) h

-- one that runs as before, changed otherwise
pub still_running : (es : List Execution) (k : ℕ) (e y : Execution) → running_of y ≡ running_of e
    → slice_get es k ≡ Some e → is_running e ≡ true → is_running y ≡ true
    → running_now (slice_set es k y) ≡ running_now es
still_running [] k e y same get was is = absurd (grind (arith, get))
still_running (x ∷ es) zero e y same get was is =
    running_cons y es true is
    ∙ ap (λ r. r ∷ running_now es) same
    ∙ sym (running_cons e es true was)
    ∙ ap (λ z. running_now (z ∷ es)) (sym (some_is x e get))
still_running (x ∷ es) (suc k) e y same get was is =
    running_cons x (slice_set es k y) (is_running x) refl
    ∙ ap (λ rs. if is_running x then running_of x ∷ rs else rs)
    (still_running es k e y same get was is)
    ∙ sym (running_cons x es (is_running x) refl)

abbrev others : ℕ → List Running → List Running
others n rs = filter (λ r. not (nat_eq r.execution n)) rs

others_cons : (b : Bool) (n : ℕ) (r : Running) (rs : List Running) → nat_eq r.execution n ≡ b
    → others n (r ∷ rs) ≡ (if b then others n rs else r ∷ others n rs)
others_cons b n r rs h = by_test (nat_eq r.execution n) b h
  where
    by_test : (t b : Bool) → t ≡ b → cond (not t) (r ∷ others n rs) (others n rs)
        ≡ (if b then others n rs else r ∷ others n rs)
    by_test true true h = refl
    by_test true false h = absurd (grind (arith, h))
    by_test false true h = absurd (grind (arith, h))
    by_test false false h = refl

others_if : (b : Bool) (n : ℕ) (e : Execution) (rs : List Running) → nat_eq e.number n ≡ false
    → others n (if b then running_of e ∷ rs else rs)
    ≡ (if b then running_of e ∷ others n rs else others n rs)
others_if true n e rs h = others_cons false n (running_of e) rs h
others_if false n e rs h = refl

none_taken : (m n : ℕ) (es : List Execution) → AreNumbered n es → m ≤ n
    → others m (running_now es) ≡ running_now es
none_taken m n [] numbered low = refl
none_taken m n (x ∷ es) numbered low =
    let first = first_is n x es numbered in
    ap (others m) (running_cons x es (is_running x) refl)
    ∙ others_if (is_running x) m x (running_now es) (grind (arith, first, low))
    ∙ ap (λ rs. if is_running x then running_of x ∷ rs else rs)
    (none_taken m (suc n) es (rest_numbered n x es numbered) (omega (arith, low)))
    ∙ sym (running_cons x es (is_running x) refl)

-- one that ran and does not run any more
stops_running : (n : ℕ) (es : List Execution) → AreNumbered n es → (k : ℕ) (e y : Execution)
    → slice_get es k ≡ Some e → is_running e ≡ true → is_running y ≡ false
    → running_now (slice_set es k y) ≡ others e.number (running_now es)
stops_running n [] numbered k e y get was is = absurd (grind (arith, get))
stops_running n (x ∷ es) numbered zero e y get was is =
    let first = numbered zero e get in
    running_cons y es false is
    ∙ sym (none_taken e.number (suc n) es (rest_numbered n x es numbered)
    (omega (arith, first)))
    ∙ sym (others_cons true e.number (running_of e) (running_now es)
    (eq-eqb e.number e.number refl))
    ∙ ap (others e.number) (sym (running_cons e es true was)
    ∙ ap (λ z. running_now (z ∷ es)) (sym (some_is x e get)))
stops_running n (x ∷ es) numbered (suc k) e y get was is =
    let first = first_is n x es numbered in
    let at = numbered (suc k) e get in
    running_cons x (slice_set es k y) (is_running x) refl
    ∙ ap (λ rs. if is_running x then running_of x ∷ rs else rs)
    (stops_running (suc n) es (rest_numbered n x es numbered) k e y get was is)
    ∙ sym (others_if (is_running x) e.number x (running_now es) (grind (arith, first, at)))
    ∙ ap (others e.number) (sym (running_cons x es (is_running x) refl))

settled_by : (b : Bool) (n : ℕ) (es : List Execution) → AreNumbered n es → (k : ℕ)
    (e y : Execution) → running_of y ≡ running_of e → slice_get es k ≡ Some e
    → is_running e ≡ true → is_running y ≡ b
    → running_now (slice_set es k y)
    ≡ (if b then running_now es else others y.number (running_now es))
settled_by true n es numbered k e y same get was is = still_running es k e y same get was is
settled_by false n es numbered k e y same get was is =
    stops_running n es numbered k e y get was is
    ∙ ap (λ r. others r.execution (running_now es)) (sym same)

-- those that run, once the one at a place is changed
pub settled_is : (n : ℕ) (es : List Execution) → AreNumbered n es → (k : ℕ) (e y : Execution)
    → running_of y ≡ running_of e → slice_get es k ≡ Some e → is_running e ≡ true
    → running_now (slice_set es k y) ≡ running_after y (running_now es)
settled_is n es numbered k e y same get was =
    settled_by (is_running y) n es numbered k e y same get was refl

-- ---- the execution of a number

pub among_at : (n : ℕ) (es : List Execution) → AreNumbered n es → (k : ℕ) (e : Execution)
    → slice_get es k ≡ Some e → execution_among e.number es ≡ Some e
among_at n [] numbered k e get = absurd (grind (arith, get))
among_at n (x ∷ es) numbered zero e get =
    let same : x ≡ e = some_is x e get in
    here_by (nat_eq x.number e.number) x e (execution_among e.number es)
    (eq-eqb x.number e.number (ap (λ (z : Execution). z.number) same)) same
among_at n (x ∷ es) numbered (suc k) e get =
    let first = first_is n x es numbered in
    let at = numbered (suc k) e get in
    among_at_by (nat_eq x.number e.number) x (execution_among e.number es) e
    (grind (arith, first, at)) (among_at (suc n) es (rest_numbered n x es numbered) k e get)

-- numbered by the law
pub from_law : ExecutionsAreNumbered → (past : List Row) → AreNumbered 0 (executions past)
from_law law past k e get = let q = law past k e get in omega (arith, q)

pub found_at : ExecutionsAreNumbered → (past : List Row) (k : ℕ) (e : Execution)
    → slice_get (executions past) k ≡ Some e
    → execution_among e.number (executions past) ≡ Some e
found_at law past k e get = among_at 0 (executions past) (from_law law past) k e get

none_by : (b : Bool) (x : Execution) (o : Option Execution) → b ≡ false → o ≡ None
    → cond b (Some x) o ≡ None
none_by true x o h k = absurd (grind (arith, h))
none_by false x o h k = k

-- none has a number that is not above those before, or is above all of these
pub none_low : (m n : ℕ) (es : List Execution) → AreNumbered n es → m ≤ n
    → execution_among m es ≡ None
none_low m n [] numbered low = refl
none_low m n (x ∷ es) numbered low =
    let first = first_is n x es numbered in
    none_by (nat_eq x.number m) x (execution_among m es) (grind (arith, first, low))
    (none_low m (suc n) es (rest_numbered n x es numbered) (omega (arith, low)))

pub none_high : (m n : ℕ) (es : List Execution) → AreNumbered n es → n + length es < m
    → execution_among m es ≡ None
none_high m n [] numbered high = refl
none_high m n (x ∷ es) numbered high =
    let first = first_is n x es numbered in
    none_by (nat_eq x.number m) x (execution_among m es) (grind (arith, first, high))
    (none_high m (suc n) es (rest_numbered n x es numbered) (omega (arith, high)))
