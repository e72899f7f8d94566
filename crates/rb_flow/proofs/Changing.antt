-- How the units stand with one more mark: only the unit of its leaf may stand otherwise.
use Rattle.std.proofs.Common.{◌≡◌, ℕ, Bool, true, false, not, ◌&&◌, ◌||◌, nat_eq, Option, Some, None, List, [], ◌∷◌, ◌++◌, if◌then◌else◌, ap, ◌∙◌, refl}
use Rattle.std.proofs.Math.Path.{fun_ext}
use Rattle.std.specs.List.{list_any}
use Rattle.std.proofs.lemmas.List.Folds.{list_any-append}
use Rattle.std.proofs.lemmas.Bool.{eq-eqb, and_from, and_parts, or_left, both_ways, false_from_ne_true, not_from_false, not-true, and_left, or_right}
use Rattle.rb_causes.specs.declared.ending.Ending.{Ending}
use Rattle.rb_marks.specs.Tree.{Tree, slot, sub, Branches, no_branch, branch}
use Rattle.rb_marks.specs.View.{branches_of}
use Rattle.rb_marks.specs.Results.{of_ending, same_leaf, result_of_mark as ends_leaf, leaf_result, slot_result, handled, handler_result, act_result, steps_result, after}
use Rattle.rb_marks.specs.Units.{Outline, unit_steps, result_of, begins_unit, unit_has_begun, is_of, is_open_begin, has_open, is_settled, is_slot, act_holds, steps_hold}
use Rattle.rb_marks.specs.First.{first_startable, is_begin_of, is_open, is_withdrawn, withdraws}
use Rattle.rb_marks.specs.declared.mark.Leaf.{Leaf}
use Rattle.rb_marks.specs.declared.mark.Mark.{Mark}
use Rattle.rb_marks.specs.declared.mark.Mark.TheVariants.{Begin, End, Abort, Lost, Withdraw}
use Rattle.rb_marks.specs.declared.mark.StepResult.{StepResult}
use Rattle.rb_marks.specs.declared.mark.StepResult.TheVariants.{Undone}
use Rattle.rb_marks.specs.declared.units.WorkUnit.{WorkUnit}
use Rattle.rb_marks.proofs.Counts.{any_more, any_same, any_here, any_wider, or_false}
use Rattle.rb_marks.proofs.Growing.{unended_more, begin_leaves, same_leaf_true, end_more, unsettled, of_ending_settled}
use Rattle.rb_marks.proofs.Reserve.{is_begun}
use Rattle.rb_marks.proofs.Waits.{first_waits}
use Rattle.rb_flow.specs.declared.unit_state.UnitState.{UnitState}
use Rattle.rb_flow.specs.Kept.{state_of, node_withdrawn, unit_begun, unit_ended}
use Rattle.rb_flow.proofs.OneOpen.{began_before, some_open}

pair_alike : (b x y : Bool) → (b ≡ true → x ≡ y) → (b && x) ≡ (b && y)
pair_alike true x y f = f refl
pair_alike false x y f = refl

handler_alike : (f g : ℕ → StepResult) (handler : Option ℕ)
    → ((n : ℕ) → is_slot handler n ≡ true → f n ≡ g n)
    → handler_result f handler ≡ handler_result g handler
handler_alike f g None e = refl
handler_alike f g (Some m) e = ap Some (e m (eq-eqb m m refl))

-- what has become of a sequence rests on its own slots alone
mutual
  act_alike : (f g : ℕ → StepResult) (act : Tree)
      → ((n : ℕ) → act_holds act n ≡ true → f n ≡ g n) → act_result f act ≡ act_result g act
  act_alike f g (slot m) e = e m (eq-eqb m m refl)
  act_alike f g (sub keepgoing steps) e = steps_alike f g keepgoing false steps e

  steps_alike : (f g : ℕ → StepResult) (keepgoing bad : Bool) (steps : Branches)
      → ((n : ℕ) → steps_hold steps n ≡ true → f n ≡ g n)
      → steps_result f keepgoing bad steps ≡ steps_result g keepgoing bad steps
  steps_alike f g keepgoing bad no_branch e = refl
  steps_alike f g keepgoing bad (branch act handler keep steps) e =
      let held : (n : ℕ) → (act_holds act n || is_slot handler n) ≡ true → f n ≡ g n =
      λ n h. e n (or_left (act_holds act n || is_slot handler n) (steps_hold steps n) h) in
      let a = act_alike f g act (λ n h. held n (or_left (act_holds act n) (is_slot handler n) h)) in
      let b = handler_alike f g handler (λ n h. held n (or_right (act_holds act n) (is_slot handler n) h))
      in
      let later : (n : ℕ) → steps_hold steps n ≡ true → f n ≡ g n =
      λ n h. e n (or_right (act_holds act n || is_slot handler n) (steps_hold steps n) h) in
      let flag = keepgoing || keep in
      ap (λ r. after (handled r (handler_result f handler) flag) keepgoing
      (steps_result f keepgoing bad steps) (steps_result f keepgoing true steps)) a
      ∙ ap (λ r. after (handled (act_result g act) r flag) keepgoing
      (steps_result f keepgoing bad steps) (steps_result f keepgoing true steps)) b
      ∙ ap (λ r. after (handled (act_result g act) (handler_result g handler) flag) keepgoing r
      (steps_result f keepgoing true steps)) (steps_alike f g keepgoing bad steps later)
      ∙ ap (after (handled (act_result g act) (handler_result g handler) flag) keepgoing
      (steps_result g keepgoing bad steps)) (steps_alike f g keepgoing true steps later)

-- how a unit stands, by its parts
abbrev state_with : WorkUnit → StepResult → Bool → Bool → Bool → UnitState
state_with u r o h w =
    record { unit = u; outcome = r; opened = o; running = h; withdrawn = w }

-- these parts are the same
states_by : (u : WorkUnit) (r s : StepResult) (o b h i w v : Bool) → r ≡ s → o ≡ b → h ≡ i
    → w ≡ v → state_with u r o h w ≡ state_with u s b i v
states_by u r s o b h i w v e f g k =
    ap (λ x. state_with u x o h w) e ∙ ap (λ x. state_with u s x h w) f
    ∙ ap (λ x. state_with u s b x w) g ∙ ap (state_with u s b i) k

-- a mark that withdraws no node leaves those that are withdrawn
stays_withdrawn : (hs : List Mark) (m : Mark) → ((node : ℕ) → withdraws node m ≡ false)
    → (node : ℕ) → is_withdrawn (hs ++ m ∷ []) node ≡ is_withdrawn hs node
stays_withdrawn hs m e node = any_more (withdraws node) hs m (e node)

state_by : (p : Outline) (hs : List Mark) (m : Mark) (u : WorkUnit)
    → ((node : ℕ) → withdraws node m ≡ false)
    → result_of p (hs ++ m ∷ []) u ≡ result_of p hs u
    → unit_has_begun p (hs ++ m ∷ []) u ≡ unit_has_begun p hs u
    → has_open p (hs ++ m ∷ []) u ≡ has_open p hs u
    → state_of p (hs ++ m ∷ []) u ≡ state_of p hs u
state_by p hs m u w r o h =
    let more = hs ++ m ∷ [] in
    states_by u (result_of p more u) (result_of p hs u) (unit_has_begun p more u)
    (unit_has_begun p hs u) (has_open p more u) (has_open p hs u) (is_withdrawn more u.node)
    (is_withdrawn hs u.node) r o h (stays_withdrawn hs m w u.node)

-- no leaf has ended
results_begun : (hs : List Mark) (at : Leaf) (node : ℕ) → slot_result (hs ++ Begin at ∷ []) node
    ≡ slot_result hs node
results_begun hs at node =
    fun_ext (λ n. begin_leaves hs at (record { node = node; slot = n }))

result_begun : (p : Outline) (hs : List Mark) (at : Leaf) (u : WorkUnit)
    → result_of p (hs ++ Begin at ∷ []) u ≡ result_of p hs u
result_begun p hs at u =
    ap (λ c. steps_result c p.keepgoing false (branches_of (unit_steps p u)))
    (results_begun hs at u.node)

open_begun : (p : Outline) (hs : List Mark) (at : Leaf) (u : WorkUnit) (m : Mark)
    → is_open_begin p (hs ++ Begin at ∷ []) u m ≡ is_open_begin p hs u m
open_begun p hs at u (Begin b) =
    ap (λ r. is_of p u b && not (is_settled r)) (begin_leaves hs at b)
open_begun p hs at u (End b ending) = refl
open_begun p hs at u Abort = refl
open_begun p hs at u Lost = refl
open_begun p hs at u (Withdraw node) = refl

-- a leaf of another unit begins
pub begin_elsewhere : (p : Outline) (hs : List Mark) (at : Leaf) (u : WorkUnit)
    → is_of p u at ≡ false → state_of p (hs ++ Begin at ∷ []) u ≡ state_of p hs u
begin_elsewhere p hs at u e =
    let more = hs ++ Begin at ∷ [] in
    state_by p hs (Begin at) u (λ node. refl) (result_begun p hs at u) (any_more (begins_unit p u) hs (Begin at) e)
    (any_more (is_open_begin p more u) hs (Begin at) (and_left (is_of p u at) _ e)
    ∙ any_same (is_open_begin p more u) (is_open_begin p hs u) (open_begun p hs at u) hs)

-- the first startable leaf begins, and is of this unit
pub begin_here : (p : Outline) (hs : List Mark) (at : Leaf) (u : WorkUnit)
    → first_startable p hs ≡ Some at → is_of p u at ≡ true
    → state_of p (hs ++ Begin at ∷ []) u ≡ unit_begun (state_of p hs u)
begin_here p hs at u first of =
    let more = hs ++ Begin at ∷ [] in
    let undone = begin_leaves hs at at ∙ first_waits p hs at first in
    let here : is_open_begin p more u (Begin at) ≡ true =
    and_from (is_of p u at) (not (is_settled (leaf_result more at))) of
    (not_from_false (is_settled (leaf_result more at)) (ap is_settled undone)) in
    states_by u (result_of p more u) (result_of p hs u) (unit_has_begun p more u) true
    (has_open p more u) true (is_withdrawn more u.node) (is_withdrawn hs u.node)
    (result_begun p hs at u) (any_here (begins_unit p u) hs (Begin at) of)
    (any_here (is_open_begin p more u) hs (Begin at) here)
    (stays_withdrawn hs (Begin at) (λ node. refl) u.node)

-- the leaf is another
ended_elsewhere : (at leaf : Leaf) (ending : Ending) → same_leaf at leaf ≡ false
    → ends_leaf leaf (End at ending) ≡ None
ended_elsewhere at leaf ending e = ap (λ b. if b then Some (of_ending ending) else None) e

-- a unit that does not hold the leaf has another leaf there
other_leaf : (p : Outline) (u : WorkUnit) (at leaf : Leaf) → is_of p u at ≡ false
    → is_of p u leaf ≡ true → same_leaf at leaf ≡ false
other_leaf p u at leaf e of =
    false_from_ne_true (same_leaf at leaf)
    (λ same. both_ways (is_of p u at) e (ap (is_of p u) (same_leaf_true at leaf same) ∙ of))

result_ended : (p : Outline) (hs : List Mark) (at : Leaf) (ending : Ending) (u : WorkUnit)
    → is_of p u at ≡ false → result_of p (hs ++ End at ending ∷ []) u ≡ result_of p hs u
result_ended p hs at ending u e =
    steps_alike (slot_result (hs ++ End at ending ∷ []) u.node) (slot_result hs u.node) p.keepgoing
    false (branches_of (unit_steps p u))
    (λ n held.
    let leaf : Leaf = record { node = u.node; slot = n } in
    let of : is_of p u leaf ≡ true = and_from (nat_eq u.node u.node)
    (steps_hold (branches_of (unit_steps p u)) n) (eq-eqb u.node u.node refl) held in
    unended_more hs (End at ending) leaf
    (ended_elsewhere at leaf ending (other_leaf p u at leaf e of)))

open_ended : (p : Outline) (hs : List Mark) (at : Leaf) (ending : Ending) (u : WorkUnit)
    → is_of p u at ≡ false → (m : Mark)
    → is_open_begin p (hs ++ End at ending ∷ []) u m ≡ is_open_begin p hs u m
open_ended p hs at ending u e (Begin b) =
    pair_alike (is_of p u b) _ _
    (λ of. ap (λ r. not (is_settled r))
    (unended_more hs (End at ending) b
    (ended_elsewhere at b ending (other_leaf p u at b e of))))
open_ended p hs at ending u e (End b other) = refl
open_ended p hs at ending u e Abort = refl
open_ended p hs at ending u e Lost = refl
open_ended p hs at ending u e (Withdraw node) = refl

-- a leaf of another unit ends
pub end_elsewhere : (p : Outline) (hs : List Mark) (at : Leaf) (ending : Ending) (u : WorkUnit)
    → is_of p u at ≡ false → state_of p (hs ++ End at ending ∷ []) u ≡ state_of p hs u
end_elsewhere p hs at ending u e =
    let more = hs ++ End at ending ∷ [] in
    state_by p hs (End at ending) u (λ node. refl) (result_ended p hs at ending u e)
    (any_more (begins_unit p u) hs (End at ending) refl)
    (any_more (is_open_begin p more u) hs (End at ending) refl
    ∙ any_same (is_open_begin p more u) (is_open_begin p hs u) (open_ended p hs at ending u e) hs)

open_plain : (p : Outline) (hs : List Mark) (m : Mark) (u : WorkUnit)
    → ((leaf : Leaf) → ends_leaf leaf m ≡ None) → (x : Mark)
    → is_open_begin p (hs ++ m ∷ []) u x ≡ is_open_begin p hs u x
open_plain p hs m u e (Begin b) =
    ap (λ r. is_of p u b && not (is_settled r)) (unended_more hs m b (e b))
open_plain p hs m u e (End b ending) = refl
open_plain p hs m u e Abort = refl
open_plain p hs m u e Lost = refl
open_plain p hs m u e (Withdraw node) = refl

-- a mark of no leaf
pub record IsPlain (p : Outline) (hs : List Mark) (m : Mark) : Type 0 where
  pub ends : (leaf : Leaf) → ends_leaf leaf m ≡ None
  pub begins : (u : WorkUnit) → begins_unit p u m ≡ false
  pub closed : (u : WorkUnit) → is_open_begin p (hs ++ m ∷ []) u m ≡ false

plain_outcome : (p : Outline) (hs : List Mark) (m : Mark) (u : WorkUnit) → IsPlain p hs m
    → result_of p (hs ++ m ∷ []) u ≡ result_of p hs u
plain_outcome p hs m u plain =
    ap (λ c. steps_result c p.keepgoing false (branches_of (unit_steps p u)))
    (fun_ext (λ n. unended_more hs m (record { node = u.node; slot = n }) (plain.ends _)))

plain_begun : (p : Outline) (hs : List Mark) (m : Mark) (u : WorkUnit) → IsPlain p hs m
    → unit_has_begun p (hs ++ m ∷ []) u ≡ unit_has_begun p hs u
plain_begun p hs m u plain = any_more (begins_unit p u) hs m (plain.begins u)

plain_open : (p : Outline) (hs : List Mark) (m : Mark) (u : WorkUnit) → IsPlain p hs m
    → has_open p (hs ++ m ∷ []) u ≡ has_open p hs u
plain_open p hs m u plain =
    let more = hs ++ m ∷ [] in
    any_more (is_open_begin p more u) hs m (plain.closed u)
    ∙ any_same (is_open_begin p more u) (is_open_begin p hs u) (open_plain p hs m u plain.ends) hs

-- it changes no unit where it withdraws none
pub plain_result : (p : Outline) (hs : List Mark) (m : Mark) (u : WorkUnit) → IsPlain p hs m
    → ((node : ℕ) → withdraws node m ≡ false)
    → state_of p (hs ++ m ∷ []) u ≡ state_of p hs u
plain_result p hs m u plain w =
    state_by p hs m u w (plain_outcome p hs m u plain) (plain_begun p hs m u plain)
    (plain_open p hs m u plain)

-- a withdrawal makes nothing else of a unit than that it is withdrawn
pub withdrawn_result : (p : Outline) (hs : List Mark) (node : ℕ) (u : WorkUnit)
    → state_of p (hs ++ Withdraw node ∷ []) u ≡ node_withdrawn node (state_of p hs u)
withdrawn_result p hs node u =
    let m : Mark = Withdraw node in
    let more = hs ++ m ∷ [] in
    let plain : IsPlain p hs m =
    record { ends = λ leaf. refl; begins = λ v. refl; closed = λ v. refl } in
    states_by u (result_of p more u) (result_of p hs u) (unit_has_begun p more u)
    (unit_has_begun p hs u) (has_open p more u) (has_open p hs u) (is_withdrawn more u.node)
    (is_withdrawn hs u.node || nat_eq node u.node)
    (plain_outcome p hs m u plain) (plain_begun p hs m u plain) (plain_open p hs m u plain)
    (list_any-append (withdraws u.node) hs (m ∷ [])
    ∙ ap (λ b. is_withdrawn hs u.node || b) (or_false (nat_eq node u.node)))

-- nothing of the unit is open once its one open leaf has ended
closed_then : (p : Outline) (hs : List Mark) (at : Leaf) (ending : Ending) (u : WorkUnit)
    → leaf_result (hs ++ End at ending ∷ []) at ≡ of_ending ending
    → ((a b : Leaf) → is_of p u a ≡ true → is_of p u b ≡ true → is_open hs a ≡ true
    → is_open hs b ≡ true → a ≡ b)
    → is_of p u at ≡ true → is_open hs at ≡ true
    → has_open p (hs ++ End at ending ∷ []) u ≡ false
closed_then p hs at ending u result one of open' =
    false_from_ne_true (has_open p (hs ++ End at ending ∷ []) u)
    (λ still. let it = some_open p (hs ++ End at ending ∷ []) u still in
    let before = began_before hs (End at ending) it.0 refl it.2 in
    let same : it.0 ≡ at = one it.0 at it.1 of before open' in
    let settled : is_settled (leaf_result (hs ++ End at ending ∷ []) it.0) ≡ true =
    ap (λ a. is_settled (leaf_result (hs ++ End at ending ∷ []) a)) same ∙ ap is_settled result
    ∙ of_ending_settled ending in
    both_ways (is_settled (leaf_result (hs ++ End at ending ∷ []) it.0))
    (not-true (is_settled (leaf_result (hs ++ End at ending ∷ []) it.0))
    (and_parts (list_any (is_begin_of it.0) (hs ++ End at ending ∷ [])) _ it.2).1) settled)

-- the one open leaf of the unit ends
pub end_here : (p : Outline) (hs : List Mark) (at : Leaf) (ending : Ending) (u : WorkUnit)
    → is_of p u at ≡ true → list_any (is_begin_of at) hs ≡ true
    → ((a b : Leaf) → is_of p u a ≡ true → is_of p u b ≡ true → is_open hs a ≡ true
    → is_open hs b ≡ true → a ≡ b)
    → is_open hs at ≡ true
    → state_of p (hs ++ End at ending ∷ []) u
    ≡ unit_ended (result_of p (hs ++ End at ending ∷ []) u) (state_of p hs u)
end_here p hs at ending u of began one open' =
    let more = hs ++ End at ending ∷ [] in
    let undone : leaf_result hs at ≡ Undone = unsettled (leaf_result hs at)
    (not-true (is_settled (leaf_result hs at)) (and_parts (list_any (is_begin_of at) hs) _ open').1) in
    let opened : unit_has_begun p more u ≡ true =
    any_more (begins_unit p u) hs (End at ending) refl
    ∙ any_wider (is_begin_of at) (begins_unit p u)
    (λ m b. is_begun at m (λ x. begins_unit p u x ≡ true) of b) hs began in
    states_by u (result_of p more u) (result_of p more u) (unit_has_begun p more u) true
    (has_open p more u) false (is_withdrawn more u.node) (is_withdrawn hs u.node) refl opened
    (closed_then p hs at ending u (end_more hs at ending undone) one of open')
    (stays_withdrawn hs (End at ending) (λ node. refl) u.node)
