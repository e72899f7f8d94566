-- The first startable leaf has no End yet, and nothing stops the run.
use Rattle.std.proofs.Common.{◌≡◌, ℕ, Bool, true, false, ◌||◌, ◌⊎◌, inl, inr, Option, Some, None, option_map, List, [], ◌∷◌, if◌then◌else◌, cond, ap, ◌∙◌, sym, refl}
use Rattle.std.specs.List.{list_any, list_all}
use Rattle.std.proofs.lemmas.Bool.{and_parts, not-true}
use Rattle.rb_marks.specs.Tree.{Tree, slot, sub, Branches, no_branch, branch}
use Rattle.rb_marks.specs.View.{branches_of}
use Rattle.rb_marks.specs.Results.{leaf_result, slot_result, by_handler, handled, handler_result, after, act_result, steps_result, step_result}
use Rattle.rb_marks.specs.Units.{Outline, units_of, unit_steps, result_of, is_settled, unit_has_begun, has_open}
use Rattle.rb_marks.specs.First.{waits_for, or_later, next_in_act, next_in_steps, next_leaf, stops, is_lost, may_open, may_go, first_among, first_startable, is_running, is_good, status_of}
use Rattle.rb_marks.specs.declared.mark.Leaf.{Leaf}
use Rattle.rb_marks.specs.declared.mark.Mark.{Mark}
use Rattle.rb_marks.specs.declared.mark.StepResult.{StepResult}
use Rattle.rb_marks.specs.declared.mark.StepResult.TheVariants.{Undone, Good, Bad}
use Rattle.rb_marks.specs.declared.mark.Status.{Status}
use Rattle.rb_marks.specs.declared.mark.Status.TheVariants.{Running, Succeeded, Aborted, Incomplete, Failed}
use Rattle.rb_marks.specs.declared.units.WorkUnit.{WorkUnit}
use Rattle.rb_marks.proofs.Growing.{unsettled}

by_handler_waits : (r : StepResult) (flag : Bool) → by_handler r flag ≡ Undone → r ≡ Undone
by_handler_waits Undone flag e = refl
by_handler_waits Good true e = absurd (cc)
by_handler_waits Good false e = absurd (cc)
by_handler_waits Bad flag e = absurd (cc)

step_waits : (command : ℕ → StepResult) (a : StepResult) (handler : Option ℕ) (flag : Bool)
    (in_act : Option ℕ) (n : ℕ)
    → handled a (handler_result command handler) flag ≡ Undone → waits_for a in_act handler ≡ Some n
    → (a ≡ Undone → in_act ≡ Some n → command n ≡ Undone) → command n ≡ Undone
step_waits command Undone handler flag in_act n r e f = f refl e
step_waits command Good handler flag in_act n r e f = absurd (cc)
step_waits command Bad None flag in_act n r e f = absurd (cc)
step_waits command Bad (Some m) flag in_act n r e f = let h : m ≡ n = cc in
    ap command (sym h) ∙ by_handler_waits (command m) flag r

seq_waits : (s : StepResult) (keepgoing : Bool) (here later : Option ℕ) (rest rest_bad : StepResult)
    (n : ℕ) (P : Type 0)
    → after s keepgoing rest rest_bad ≡ Undone → or_later s keepgoing here later ≡ Some n
    → (s ≡ Undone → here ≡ Some n → P) → (rest ≡ Undone → later ≡ Some n → P)
    → (rest_bad ≡ Undone → later ≡ Some n → P) → P
seq_waits Undone keepgoing here later rest rest_bad n P r e f g h = f refl e
seq_waits Good keepgoing here later rest rest_bad n P r e f g h = g r e
seq_waits Bad true here later rest rest_bad n P r e f g h = h r e
seq_waits Bad false here later rest rest_bad n P r e f g h = absurd (cc)

-- what is waited for is Undone
mutual
  pub act_waits : (command : ℕ → StepResult) (act : Tree) (n : ℕ) → act_result command act ≡ Undone
      → next_in_act command act ≡ Some n → command n ≡ Undone
  act_waits command (slot m) n r e = let h : m ≡ n = cc in ap command (sym h) ∙ r
  act_waits command (sub keepgoing steps) n r e = steps_wait command keepgoing false steps n r e

  pub steps_wait : (command : ℕ → StepResult) (keepgoing bad : Bool) (steps : Branches) (n : ℕ)
      → steps_result command keepgoing bad steps ≡ Undone → next_in_steps command keepgoing steps
      ≡ Some n → command n ≡ Undone
  steps_wait command keepgoing bad no_branch n r e = absurd (cc)
  steps_wait command keepgoing bad (branch act handler keep steps) n r e =
      seq_waits (step_result command keepgoing act handler keep) keepgoing
      (waits_for (act_result command act) (next_in_act command act) handler)
      (next_in_steps command keepgoing steps)
      (steps_result command keepgoing bad steps) (steps_result command keepgoing true steps) n
      (command n ≡ Undone) r e
      (λ s h. step_waits command (act_result command act) handler (keepgoing || keep)
      (next_in_act command act) n s h (act_waits command act n))
      (steps_wait command keepgoing bad steps n)
      (steps_wait command keepgoing true steps n)

-- where a unit of the list may go, and has this leaf next
pub record IsGoing (p : Outline) (all : List WorkUnit) (marks : List Mark) (leaf : Leaf)
    (w : WorkUnit) : Type 0 where
  pub goes : may_go p all marks w ≡ true
  pub next : next_leaf p marks w ≡ Some leaf

-- x is in the list
abbrev pub Has : {X : Type 0} → List X → X → Type 0
Has [] x = ⊥
Has (y ∷ ys) x = (y ≡ x) ⊎ Has ys x

if_some : {X : Type 0} (b : Bool) (here later : Option X) (x : X) (P : Type 0) → cond b here later
    ≡ Some x → (b ≡ true → here ≡ Some x → P) → (later ≡ Some x → P) → P
if_some true here later x P e f g = f refl e
if_some false here later x P e f g = g e

-- the first startable leaf is the next of a unit that may go
pub first_gives : (p : Outline) (all : List WorkUnit) (marks : List Mark) (ws : List WorkUnit)
    (leaf : Leaf) → first_among p all marks ws ≡ Some leaf
    → (w : WorkUnit) × Has ws w × IsGoing p all marks leaf w
first_gives p all marks [] leaf e = absurd (cc)
first_gives p all marks (w ∷ ws) leaf e =
    if_some (may_go p all marks w) (next_leaf p marks w) (first_among p all marks ws) leaf
    ((v : WorkUnit) × Has (w ∷ ws) v × IsGoing p all marks leaf v) e
    (λ g n. (w, inl refl, record { goes = g; next = n }))
    (λ h. let r = first_gives p all marks ws leaf h in (r.0, inr r.1, r.2))

pub mapped_some : {X Y : Type 0} (f : X → Y) (o : Option X) (y : Y) → option_map f o ≡ Some y
    → (x : X) × (o ≡ Some x) × (f x ≡ y)
mapped_some f None y e = absurd (cc)
mapped_some f (Some x) y e = (x, refl, cc)

pub record MayGo (p : Outline) (all : List WorkUnit) (marks : List Mark)
    (w : WorkUnit) : Type 0 where
  pub goes_on : list_any stops marks ≡ false
  pub closed : has_open p marks w ≡ false
  pub undone : result_of p marks w ≡ Undone
  pub entered : (unit_has_begun p marks w || may_open p all marks w) ≡ true

pub may_go_means : (p : Outline) (all : List WorkUnit) (marks : List Mark) (w : WorkUnit)
    → may_go p all marks w ≡ true → MayGo p all marks w
may_go_means p all marks w e =
    let a = and_parts _ _ e in
    let b = and_parts _ _ a.0 in
    let c = and_parts _ _ b.0 in
    let d = and_parts _ _ a.1 in
    record {
      goes_on = not-true (list_any stops marks) c.0;
      closed = not-true
          (has_open p marks w) c.1;
      undone =
          unsettled (result_of p marks w) (not-true (is_settled (result_of p marks w)) b.1);
      entered =
          d.0;
    }

pub next_undone : (p : Outline) (marks : List Mark) (w : WorkUnit) (leaf : Leaf)
    → result_of p marks w ≡ Undone → next_leaf p marks w ≡ Some leaf → leaf_result marks leaf
    ≡ Undone
next_undone p marks w leaf u e =
    let n = mapped_some (λ n. record { node = w.node; slot = n })
    (next_in_steps (slot_result marks w.node) p.keepgoing (branches_of (unit_steps p w))) leaf e
    in
    ap (leaf_result marks) (sym n.2)
    ∙ steps_wait (slot_result marks w.node) p.keepgoing false
    (branches_of (unit_steps p w)) n.0 u n.1

pub first_waits : (p : Outline) (marks : List Mark) (leaf : Leaf) → first_startable p marks
    ≡ Some leaf → leaf_result marks leaf ≡ Undone
first_waits p marks leaf e =
    let w = first_gives p (units_of p) marks (units_of p) leaf e in
    next_undone p marks w.0 leaf (may_go_means p (units_of p) marks w.0 w.2.goes).undone w.2.next

pub first_goes_on : (p : Outline) (marks : List Mark) (leaf : Leaf) → first_startable p marks
    ≡ Some leaf → list_any stops marks ≡ false
first_goes_on p marks leaf e =
    let w = first_gives p (units_of p) marks (units_of p) leaf e in
    (may_go_means p (units_of p) marks w.0 w.2.goes).goes_on

not_incomplete : (lost : Bool) (other : Status) → (if lost then Incomplete else other) ≡ Running
    → lost ≡ false
not_incomplete true other e = absurd (cc)
not_incomplete false other e = refl

-- a run that is running is not lost
pub running_not_lost : (p : Outline) (marks : List Mark) → status_of p marks ≡ Running
    → list_any is_lost marks ≡ false
running_not_lost p marks e =
    not_incomplete (list_any is_lost marks)
    (if is_running p marks then Running else if list_any stops marks then Aborted else if
    list_all (λ u. is_good (result_of p marks u)) (units_of p) then Succeeded else Failed) e
