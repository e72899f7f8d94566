-- Which leaf a claim gives.
use Rattle.std.proofs.Common.{◌≡◌, ◌∙◌, ◌<◌, ◌≤◌, ◌+◌, subst, ℕ, zero, suc, ℤ, List, [], ◌∷◌, length, filter, drop, true, Option, Some, None, slice_get, get_or, unwrap_or, ap, sym, refl, arith}
use Rattle.std.proofs.lemmas.List.{length-map}
use Rattle.std.proofs.lemmas.Option.{slice_get-map, slice_get_read}
use Rattle.rb_causes.specs.declared.row.Row.{Row}
use Rattle.rb_causes.proofs.Lists.{nothing_left, from_filter, filter_passes}
use Rattle.rb_marks.specs.First.{first_startable}
use Rattle.rb_marks.specs.declared.mark.Leaf.{Leaf}
use Rattle.rb_plan.specs.declared.world.Running.{Running}
use Rattle.rb_plan.specs.declared.world.World.{World}
use Rattle.rb_log.specs.Claims.{claim_among, claimed}
use Rattle.rb_log.specs.Executions.{Execution, executions, is_running, running_now}
use Rattle.rb_log.specs.LogState.{LogState, log_state, running_executions}
use Rattle.rb_log.specs.Moves.{only}
use Rattle.rb_log.specs.declared.answer.Answer.TheVariants as answer
use Rattle.rb_marks.proofs.Waits.{mapped_some}
use Rattle.rb_tables.specs.Tables.{AreLogTables}
use Rattle.rb_tables.specs.declared.tables.Tables.{Tables}
use Rattle.rb_tables.specs.LogLaws.{LogLaws}
use Rattle.rb_tables.proofs.Marked.{running_of}
use Rattle.rb_tables.proofs.Saying.{desk_low}
use Rattle.rb_tables.proofs.Lists.{same_place}

-- The one that runs at this index of those that run, with its place among all.
pub record RunsAt (past : List Row) (i : ℕ) (r : Running) : Type 0 where
  pub execution : Execution
  pub place : ℕ
  pub there : slice_get (running_executions (log_state past)) i ≡ Some execution
  pub found : slice_get (executions past) place ≡ Some execution
  pub number : r.execution ≡ suc place
  pub runs : is_running execution ≡ true

pub runs_at : LogLaws → (past : List Row) (i : ℕ) (r : Running)
    → slice_get (running_now (executions past)) i ≡ Some r → RunsAt past i r
runs_at laws past i r get =
    let m = mapped_some running_of (slice_get (filter is_running (executions past)) i) r
    (sym (slice_get-map running_of (filter is_running (executions past)) i) ∙ get) in
    let f = from_filter is_running (executions past) i m.0 m.1 in
    let number = laws.numbered past f.0 m.0 f.1 in record {
      execution = m.0;
      place = f.0;
      there = m.1;
      found = f.1;
      number = ap (λ (x : Running). x.execution) (sym m.2) ∙ number;
      runs = filter_passes is_running (executions past) i m.0 m.1;
    }

-- as the tables have them
pub desk_runs : LogLaws → (t : Tables) (past : List Row) → AreLogTables t (log_state past)
    → (i : ℕ) (r : Running) → i < length t.world.running → r ≡ get_or t.world.running i r
    → RunsAt past i r
desk_runs laws t past says i r low is =
    runs_at laws past i r
    (ap (λ rs. slice_get rs i) (sym (ap (λ (w : World). w.running) says.world))
    ∙ slice_get_read t.world.running (length t.world.running) i r refl low is)

pub drop_at : {A : Type 0} (xs : List A) (i : ℕ) (x : A) → slice_get xs i ≡ Some x
    → drop i xs ≡ x ∷ drop (suc i) xs
drop_at [] i x h = absurd (grind (arith, h))
drop_at (y ∷ xs) zero x h = ap (λ z. z ∷ xs) (ap (λ o. unwrap_or o y) h)
drop_at (y ∷ xs) (suc i) x h = drop_at xs i x h

-- a claim comes to the one at this index
claim_at : (s : LogState) (at : ℤ) (worker : ℕ) (es : List Execution) (i : ℕ) (e : Execution)
    (leaf : Option Leaf) → slice_get es i ≡ Some e
    → first_startable e.accepted.plan e.marks ≡ leaf
    → claim_among s at worker (drop i es)
    ≡ claimed s e at worker leaf (claim_among s at worker (drop (suc i) es))
claim_at s at worker es i e leaf get is =
    ap (claim_among s at worker) (drop_at es i e get)
    ∙ ap (λ o. claimed s e at worker o (claim_among s at worker (drop (suc i) es))) is

-- which has no leaf that may start, and so the claim goes on
pub claim_goes_on : (s : LogState) (at : ℤ) (worker : ℕ) (es : List Execution) (i : ℕ)
    (e : Execution) → slice_get es i ≡ Some e → first_startable e.accepted.plan e.marks ≡ None
    → claim_among s at worker (drop i es) ≡ claim_among s at worker (drop (suc i) es)
claim_goes_on s at worker es i e get is = claim_at s at worker es i e None get is

-- or has one, which is claimed
pub claim_stops : (s : LogState) (at : ℤ) (worker : ℕ) (es : List Execution) (i : ℕ)
    (e : Execution) (leaf : Leaf) → slice_get es i ≡ Some e
    → first_startable e.accepted.plan e.marks ≡ Some leaf
    → claim_among s at worker (drop i es) ≡ claimed s e at worker (Some leaf) (only answer.Idle)
claim_stops s at worker es i e leaf get is = claim_at s at worker es i e (Some leaf) get is

-- ---- where a running one stands

-- The one that runs at this index stands at this place.
pub record Stands (t : Tables) (past : List Row) (i k : ℕ) : Type 0 where
  pub execution : Execution
  pub there : slice_get (running_executions (log_state past)) i ≡ Some execution
  pub found : slice_get (executions past) k ≡ Some execution
  pub low : k < length t.executions.items
  pub runs : is_running execution ≡ true

-- the running one that was read
pub item_runs : LogLaws → (t : Tables) (past : List Row) → AreLogTables t (log_state past)
    → (items : List Running) → items ≡ t.world.running → (i : ℕ) (r : Running)
    → i < length items → r ≡ get_or items i r → RunsAt past i r
item_runs laws t past says items is i r low get =
    desk_runs laws t past says i r (subst (λ rs. i < length rs) is low)
    (subst (λ rs. r ≡ get_or rs i r) is get)

pub stands : (t : Tables) (past : List Row) → AreLogTables t (log_state past) → (i k : ℕ) (r : Running)
    → RunsAt past i r → k + 1 ≡ r.execution → Stands t past i k
stands t past says i k r at is =
    let found : slice_get (executions past) k ≡ Some at.execution =
    subst (λ n. slice_get (executions past) n ≡ Some at.execution) (same_place at.number is)
    at.found in
    record {
      execution = at.execution;
      there = at.there;
      found = found;
      low = desk_low t past says k at.execution found;
      runs = at.runs;
    }

-- none is left behind the last that runs
pub none_left : (t : Tables) (past : List Row) → AreLogTables t (log_state past)
    → (items : List Running) → items ≡ t.world.running → (i : ℕ) → length items ≤ i
    → drop i (running_executions (log_state past)) ≡ []
none_left t past says items is i high =
    let running : t.world.running ≡ running_now (executions past) =
    ap (λ (w : World). w.running) says.world in
    let many = ap length is ∙ ap length running in
    nothing_left (running_executions (log_state past)) i
    (omega (arith, high, many, length-map (filter is_running (executions past)) running_of))
