-- What runs of a log is lost one after another.
use Rattle.std.proofs.Common.{◌≡◌, ◌∙◌, ◌<◌, ℕ, zero, suc, List, [], ◌∷◌, ◌++◌, map, filter, cond, length, option_map, Bool, true, false, nat_eq, ◌||◌, Some, slice_get, slice_set, ap, sym, subst, refl, arith, if◌then◌else◌}
use Rattle.std.specs.List.{list_any}
use Rattle.std.proofs.lemmas.Bool.{eq-eqb, or_right}
use Rattle.std.proofs.lemmas.List.Folds.{list_any-append}
use Rattle.std.proofs.lemmas.Option.{slice_get-map, slice_get_within}
use Rattle.rb_causes.specs.declared.row.Row.{Row}
use Rattle.rb_causes.proofs.Lists.{some_is}
use Rattle.rb_marks.proofs.Waits.{mapped_some}
use Rattle.rb_plan.specs.declared.world.Running.{Running}
use Rattle.rb_log.specs.Executions.{Execution as LoggedExecution, executions, is_running, running_now}
use Rattle.rb_log.specs.Legal.{IsLegalLog}
use Rattle.rb_log.specs.Restarts.{reopened}
use Rattle.rb_log.specs.Rows.{close_row}
use Rattle.rb_log.proofs.RestartLaws.{reopened_ended}
use Rattle.rb_tables.specs.LogLaws.{LogLaws}
use Rattle.rb_tables.specs.Progress.{HasTiers}
use Rattle.rb_tables.specs.Tables.{AreEntries, IsEntry}
use Rattle.rb_tables.specs.declared.execution.Execution.{Execution}
use Rattle.rb_tables.proofs.Entries.{entries_many, entries_set, entry_at}
use Rattle.rb_tables.proofs.Going.{reopened_stays}
use Rattle.rb_tables.proofs.Marked.{AreNumbered, from_law, named_set, running_of}
use Rattle.rb_tables.proofs.Starts.{runs_at}

-- one of these is of the execution
abbrev pub is_among : List Running → LoggedExecution → Bool
is_among rs e = list_any (λ r. nat_eq r.execution e.number) rs

-- those of these are lost
abbrev pub lost_if : List Running → LoggedExecution → LoggedExecution
lost_if rs e = if is_among rs e then reopened e else e

-- ---- at first none

pub none_lost : (es : List LoggedExecution) → map (lost_if []) es ≡ es
none_lost [] = refl
none_lost (e ∷ es) = ap (λ xs. e ∷ xs) (none_lost es)

-- ---- one more

abbrev lose_one : ℕ → LoggedExecution → LoggedExecution
lose_one n e = if nat_eq n e.number then reopened e else e

number_by : (b : Bool) (x e : LoggedExecution) → x.number ≡ e.number
    → (if b then x else e).number ≡ e.number
number_by true x e h = h
number_by false x e h = refl

-- the number and what was accepted stay
pub number_stays : (e : LoggedExecution) → (reopened e).number ≡ e.number
number_stays e = number_by (is_running e) _ e refl

lost_number : (rs : List Running) (e : LoggedExecution) → (lost_if rs e).number ≡ e.number
lost_number rs e = number_by (is_among rs e) (reopened e) e (number_stays e)

tiers_by : (b : Bool) (x e : LoggedExecution) → HasTiers x → HasTiers e
    → HasTiers (if b then x else e)
tiers_by true x e h k = h
tiers_by false x e h k = k

tiers_stay : (e : LoggedExecution) → HasTiers e → HasTiers (reopened e)
tiers_stay e h = tiers_by (is_running e) _ e (record { nodes = h.nodes; few = h.few }) h

lost_tiers : (rs : List Running) (e : LoggedExecution) → HasTiers e → HasTiers (lost_if rs e)
lost_tiers rs e h = tiers_by (is_among rs e) (reopened e) e (tiers_stay e h) h

one_more_by : (a b : Bool) (e : LoggedExecution)
    → (if a || (b || false) then reopened e else e)
    ≡ (if b then reopened (if a then reopened e else e) else (if a then reopened e else e))
one_more_by true true e = reopened_stays (reopened e) (reopened_ended e)
one_more_by true false e = refl
one_more_by false true e = refl
one_more_by false false e = refl

one_more : (rs : List Running) (r : Running) (e : LoggedExecution)
    → lost_if (rs ++ r ∷ []) e ≡ lose_one r.execution (lost_if rs e)
one_more rs r e =
    ap (λ b. if b then reopened e else e)
    (list_any-append (λ (s : Running). nat_eq s.execution e.number) rs (r ∷ []))
    ∙ one_more_by (is_among rs e) (nat_eq r.execution e.number) e
    ∙ ap (λ n. if nat_eq r.execution n then reopened (lost_if rs e) else lost_if rs e)
    (sym (lost_number rs e))

more_lost : (rs : List Running) (r : Running) (es : List LoggedExecution)
    → map (lost_if (rs ++ r ∷ [])) es ≡ map (lose_one r.execution) (map (lost_if rs) es)
more_lost rs r [] = refl
more_lost rs r (e ∷ es) =
    ap (λ x. x ∷ map (lost_if (rs ++ r ∷ [])) es) (one_more rs r e)
    ∙ ap (λ xs. lose_one r.execution (lost_if rs e) ∷ xs) (more_lost rs r es)

still_numbered : (rs : List Running) (n : ℕ) (es : List LoggedExecution) → AreNumbered n es
    → AreNumbered n (map (lost_if rs) es)
still_numbered rs n es numbered k e get =
    let m = mapped_some (lost_if rs) (slice_get es k) e
    (sym (slice_get-map (lost_if rs) es k) ∙ get) in
    ap (λ (x : LoggedExecution). x.number) (sym m.2) ∙ lost_number rs m.0
    ∙ numbered k m.0 m.1

-- What it takes to lose the one at this index of those that run, where those before it are lost.
pub record LosesAt (past : List Row) (items : List Execution) (rs : List Running) (r : Running)
    : Type 0 where
  pub place : ℕ
  pub logged : LoggedExecution
  pub number : r.execution ≡ suc place
  pub within : place < length items
  pub entry : (x : Execution) → slice_get items place ≡ Some x → IsEntry x logged
  pub tiers : HasTiers logged
  pub then_lost : (x : Execution) → IsEntry x (reopened logged)
      → AreEntries (slice_set items place x) (map (lost_if (rs ++ r ∷ [])) (executions past))

pub loses_at : LogLaws → (past : List Row) (items : List Execution) (rs : List Running) (i : ℕ)
    (r : Running) → IsLegalLog past → slice_get (running_now (executions past)) i ≡ Some r
    → AreEntries items (map (lost_if rs) (executions past)) → LosesAt past items rs r
loses_at laws past items rs i r legal get entries =
    let at = runs_at laws past i r get in
    let es = executions past in
    let e : LoggedExecution = at.execution in
    let there : slice_get (map (lost_if rs) es) at.place ≡ Some (lost_if rs e) =
    slice_get-map (lost_if rs) es at.place ∙ ap (option_map (lost_if rs)) at.found in
    let low = slice_get_within (map (lost_if rs) es) at.place (lost_if rs e) there in
    let many = entries_many items (map (lost_if rs) es) entries in
    let row : Row = close_row e.at r.execution in
    record {
      place = at.place;
      logged = lost_if rs e;
      number = at.number;
      within = omega (arith, low, many);
      entry = λ x is. entry_at items (map (lost_if rs) es) entries at.place x (lost_if rs e) is
          there;
      tiers = lost_tiers rs e (record {
        nodes = (laws.leaves past at.place e legal at.found).nodes;
        few = (laws.plans past at.place e legal at.found).nodes;
      });
      then_lost = λ x is.
          subst (AreEntries (slice_set items at.place x))
          (sym (more_lost rs r es
          ∙ named_set (lose_one r.execution) reopened row
          (λ y b h. ap (λ t. if t then reopened y else y) h) 0 (map (lost_if rs) es)
          (still_numbered rs 0 es (from_law laws.numbered past)) at.place (lost_if rs e) there
          (at.number ∙ sym (lost_number rs e ∙ laws.numbered past at.place e at.found))))
          (entries_set items (map (lost_if rs) es) entries at.place x (reopened (lost_if rs e))
          is);
    }

-- ---- in the end all

any_cons : (p : Running → Bool) (b : Bool) (x : LoggedExecution) (xs : List LoggedExecution)
    → (b ≡ true → (p (running_of x) || list_any p (map running_of xs)) ≡ true)
    → (b ≡ false → list_any p (map running_of xs) ≡ true)
    → list_any p (map running_of (cond b (x ∷ xs) xs)) ≡ true
any_cons p true x xs f g = f refl
any_cons p false x xs f g = g refl

runs_among : (p : Running → Bool) (es : List LoggedExecution) (k : ℕ) (e : LoggedExecution)
    → slice_get es k ≡ Some e → is_running e ≡ true → p (running_of e) ≡ true
    → list_any p (running_now es) ≡ true
runs_among p [] k e get runs h = absurd (grind (arith, get))
runs_among p (x ∷ es) zero e get runs h =
    let same : x ≡ e = some_is x e get in
    any_cons p (is_running x) x (filter is_running es)
    (λ is. ap (λ b. b || list_any p (running_now es)) (ap (λ y. p (running_of y)) same ∙ h))
    (λ no. absurd (let wrong : true ≡ false = sym runs ∙ ap is_running (sym same) ∙ no in
    grind (arith, wrong)))
runs_among p (x ∷ es) (suc k) e get runs h =
    let rest = runs_among p es k e get runs h in
    any_cons p (is_running x) x (filter is_running es)
    (λ is. or_right (p (running_of x)) (list_any p (running_now es)) rest) (λ no. rest)

lost_by : (a b : Bool) (e : LoggedExecution) → is_running e ≡ b → (b ≡ true → a ≡ true)
    → (if a then reopened e else e) ≡ reopened e
lost_by true b e is h = refl
lost_by false true e is h = absurd (let wrong = h refl in grind (arith, wrong))
lost_by false false e is h = reopened_stays e is

maps_same : (f g : LoggedExecution → LoggedExecution) (es : List LoggedExecution)
    → ((k : ℕ) (e : LoggedExecution) → slice_get es k ≡ Some e → f e ≡ g e)
    → map f es ≡ map g es
maps_same f g [] h = refl
maps_same f g (e ∷ es) h =
    ap (λ x. x ∷ map f es) (h zero e refl)
    ∙ ap (λ xs. g e ∷ xs) (maps_same f g es (λ k x get. h (suc k) x get))

pub all_lost : (es : List LoggedExecution) → map (lost_if (running_now es)) es ≡ map reopened es
all_lost es =
    maps_same (lost_if (running_now es)) reopened es
    (λ k e get. lost_by (is_among (running_now es) e) (is_running e) e refl
    (λ runs. runs_among (λ r. nat_eq r.execution e.number) es k e get runs
    (eq-eqb e.number e.number refl)))
