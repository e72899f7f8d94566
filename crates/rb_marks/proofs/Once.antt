-- A leaf begins at most once.
use Rattle.std.proofs.Common.{◌≡◌, ℕ, Bool, true, false, not, ◌||◌, nat_eq, Option, Some, List, [], ◌∷◌, ◌++◌, append_assoc, append-nil, sym, ap, ◌∙◌, subst, refl}
use Rattle.std.specs.List.{list_any}
use Rattle.std.proofs.lemmas.Bool.{eq-eqb, and_from, or_left, not_from_false, both_ways, false_from_ne_true, or_right}
use Rattle.rb_marks.specs.Tree.{Tree, slot, sub, Branches, no_branch, branch}
use Rattle.rb_marks.specs.View.{branches_of}
use Rattle.rb_marks.specs.Results.{leaf_result, slot_result, act_result, step_result}
use Rattle.rb_marks.specs.Units.{Outline, units_of, unit_steps, is_slot, act_holds, steps_hold, is_of, is_open_begin, has_open, is_settled}
use Rattle.rb_marks.specs.First.{waits_for, or_later, next_in_act, next_in_steps, next_leaf, first_startable, is_begin_of, MayFollow, LegalAfter}
use Rattle.rb_marks.specs.Laws.{BeginsOnce}
use Rattle.rb_marks.specs.declared.mark.Leaf.{Leaf}
use Rattle.rb_marks.specs.declared.mark.Mark.{Mark}
use Rattle.rb_marks.specs.declared.mark.Mark.TheVariants.{Begin}
use Rattle.rb_marks.specs.declared.mark.StepResult.{StepResult}
use Rattle.rb_marks.specs.declared.mark.StepResult.TheVariants.{Undone, Good, Bad}
use Rattle.rb_marks.specs.declared.units.WorkUnit.{WorkUnit}
use Rattle.rb_marks.proofs.Counts.{or_true, any_wider}
use Rattle.rb_marks.proofs.Reserve.{is_begun}
use Rattle.rb_marks.proofs.Waits.{mapped_some, first_gives, may_go_means, first_waits}

-- each mark of a legal list may follow those before it
pub legal_at : (p : Outline) (past ms rest : List Mark) (m : Mark)
    → LegalAfter p past (ms ++ m ∷ rest) → MayFollow p (past ++ ms) m
legal_at p past [] rest m l = subst (λ x. MayFollow p x m) (sym (append-nil past)) l.0
legal_at p past (n ∷ ms) rest m l =
    subst (λ x. MayFollow p x m) (append_assoc past (n ∷ []) ms)
    (legal_at p (past ++ n ∷ []) ms rest m l.1)

step_next : (a : StepResult) (handler in_act : Option ℕ) (n : ℕ) (held : Bool)
    → waits_for a in_act handler ≡ Some n → (in_act ≡ Some n → held ≡ true)
    → (held || is_slot handler n) ≡ true
step_next Undone handler in_act n held e f = or_left held (is_slot handler n) (f e)
step_next Good handler in_act n held e f = absurd (cc)
step_next Bad handler in_act n held e f =
    ap (λ o. held || is_slot o n) e ∙ ap (λ b. held || b) (eq-eqb n n refl) ∙ or_true held

seq_next : (s : StepResult) (keepgoing : Bool) (here later : Option ℕ) (n : ℕ) (x y : Bool)
    → or_later s keepgoing here later ≡ Some n → (here ≡ Some n → x ≡ true)
    → (later ≡ Some n → y ≡ true) → (x || y) ≡ true
seq_next Undone keepgoing here later n x y e f g = or_left x y (f e)
seq_next Good keepgoing here later n x y e f g = or_right x y (g e)
seq_next Bad true here later n x y e f g = or_right x y (g e)
seq_next Bad false here later n x y e f g = absurd (cc)

-- what is waited for is one of the slots
mutual
  pub act_next : (command : ℕ → StepResult) (act : Tree) (n : ℕ) → next_in_act command act ≡ Some n
      → act_holds act n ≡ true
  act_next command (slot m) n e = eq-eqb m n (cc)
  act_next command (sub keepgoing steps) n e = steps_next command keepgoing steps n e

  pub steps_next : (command : ℕ → StepResult) (keepgoing : Bool) (steps : Branches) (n : ℕ)
      → next_in_steps command keepgoing steps ≡ Some n → steps_hold steps n ≡ true
  steps_next command keepgoing no_branch n e = absurd (cc)
  steps_next command keepgoing (branch act handler keep steps) n e =
      seq_next (step_result command keepgoing act handler keep) keepgoing
      (waits_for (act_result command act) (next_in_act command act) handler)
      (next_in_steps command keepgoing steps) n (act_holds act n || is_slot handler n)
      (steps_hold steps n) e
      (λ h. step_next (act_result command act) handler (next_in_act command act) n
      (act_holds act n) h (act_next command act n))
      (steps_next command keepgoing steps n)

pub next_is_of : (p : Outline) (marks : List Mark) (w : WorkUnit) (leaf : Leaf)
    → next_leaf p marks w ≡ Some leaf → is_of p w leaf ≡ true
next_is_of p marks w leaf e =
    let n = mapped_some (λ n. record { node = w.node; slot = n })
    (next_in_steps (slot_result marks w.node) p.keepgoing (branches_of (unit_steps p w))) leaf e
    in
    subst (λ l. is_of p w l ≡ true) n.2
    (and_from (nat_eq w.node w.node) (steps_hold (branches_of (unit_steps p w)) n.0)
    (eq-eqb w.node w.node refl)
    (steps_next (slot_result marks w.node) p.keepgoing (branches_of (unit_steps p w)) n.0 n.1))

pub begun_is_open : (p : Outline) (marks : List Mark) (w : WorkUnit) (leaf : Leaf) → is_of p w leaf
    ≡ true → leaf_result marks leaf ≡ Undone → list_any (is_begin_of leaf) marks ≡ true
    → has_open p marks w ≡ true
begun_is_open p marks w leaf of undone begun =
    any_wider (is_begin_of leaf) (is_open_begin p marks w)
    (λ m b. is_begun leaf m (λ x. is_open_begin p marks w x ≡ true)
    (and_from (is_of p w leaf) (not (is_settled (leaf_result marks leaf))) of
    (not_from_false (is_settled (leaf_result marks leaf)) (ap is_settled undone))) b)
    marks begun

pub first_not_begun : (p : Outline) (marks : List Mark) (leaf : Leaf) → first_startable p marks
    ≡ Some leaf → list_any (is_begin_of leaf) marks ≡ false
first_not_begun p marks leaf e =
    let w = first_gives p (units_of p) marks (units_of p) leaf e in
    let closed = (may_go_means p (units_of p) marks w.0 w.2.goes).closed in
    false_from_ne_true (list_any (is_begin_of leaf) marks)
    (λ begun. both_ways (has_open p marks w.0) closed
    (begun_is_open p marks w.0 leaf (next_is_of p marks w.0 leaf w.2.next)
    (first_waits p marks leaf e) begun))

pub begins_once : (p : Outline) → BeginsOnce p
begins_once p h rest leaf l = first_not_begun p h leaf (legal_at p [] h rest (Begin leaf) l)
