-- The status by what is kept is that of the marks.
use Rattle.std.proofs.Common.{◌≡◌, Bool, true, false, not, ◌||◌, List, [], ◌∷◌, map, cond, is_some, sym, ap, ◌∙◌, refl, inl, inr}
use Rattle.std.specs.List.{list_any, list_all}
use Rattle.std.proofs.lemmas.Bool.{false≢true, or_cases, or_left, and_parts, and_from, or_right}
use Rattle.rb_marks.specs.Results.{leaf_result}
use Rattle.rb_marks.specs.Units.{Outline, units_of, result_of, has_open, is_of, is_open_begin, is_settled}
use Rattle.rb_marks.specs.First.{IsLegal, is_lost, is_good, open_begin, is_begin_of, is_open, stops, first_startable, status_of}
use Rattle.rb_marks.specs.declared.mark.Leaf.{Leaf}
use Rattle.rb_marks.specs.declared.mark.Mark.{Mark}
use Rattle.rb_marks.specs.declared.mark.Mark.TheVariants.{Begin, End, Abort, Lost, Withdraw}
use Rattle.rb_marks.specs.declared.mark.Status.{Status}
use Rattle.rb_marks.specs.declared.mark.Status.TheVariants.{Running, Succeeded, Failed, Aborted, Incomplete}
use Rattle.rb_marks.specs.declared.units.WorkUnit.{WorkUnit}
use Rattle.rb_marks.proofs.Counts.{any_wider}
use Rattle.rb_marks.proofs.Growing.{same_leaf_refl}
use Rattle.rb_marks.proofs.Waits.{Has}
use Rattle.rb_flow.specs.declared.kept.FlowCache.{FlowCache}
use Rattle.rb_flow.specs.Kept.{state_of, IsKept, first_leaf_by, status_by}
use Rattle.rb_flow.proofs.OneOpen.{open_of}
use Rattle.rb_flow.proofs.Startable.{any_mapped, all_mapped, first_leaf_is}
use Rattle.rb_flow.proofs.Table.{open_has_unit}

-- one of the list passes the test
pub any_gives : {X : Type 0} (f : X → Bool) (xs : List X) → list_any f xs ≡ true
    → (x : X) × Has xs x × (f x ≡ true)
any_gives f [] e = absurd (false≢true e)
any_gives f (x ∷ xs) e = elim (or_cases (f x) (list_any f xs) e) [
  | inl here ↦ (x, inl refl, here)
  | inr later ↦ let r = any_gives f xs later in (r.0, inr r.1, r.2)
]

pub any_has : {X : Type 0} (f : X → Bool) (xs : List X) (x : X) → Has xs x → f x ≡ true
    → list_any f xs ≡ true
any_has f [] x h e = absurd h
any_has f (y ∷ ys) x h e = elim h [
  | inl same ↦ or_left (f y) (list_any f ys) (ap f same ∙ e)
  | inr later ↦ or_right (f y) (list_any f ys) (any_has f ys x later e)
]

pub both_same : (a b : Bool) → (a ≡ true → b ≡ true) → (b ≡ true → a ≡ true) → a ≡ b
both_same true b f g = sym (f refl)
both_same false true f g = g refl
both_same false false f g = refl

opens_any : (p : Outline) (hs : List Mark) (u : WorkUnit) (m : Mark)
    → is_open_begin p hs u m ≡ true → open_begin hs m ≡ true
opens_any p hs u (Begin a) e = (and_parts (is_of p u a) (not (is_settled (leaf_result hs a))) e).1
opens_any p hs u (End a ending) e = e
opens_any p hs u Abort e = e
opens_any p hs u Lost e = e
opens_any p hs u (Withdraw node) e = e

begins_some : (hs : List Mark) (m : Mark) → open_begin hs m ≡ true
    → (a : Leaf) × (is_begin_of a m ≡ true) × (not (is_settled (leaf_result hs a)) ≡ true)
begins_some hs (Begin a) e = (a, same_leaf_refl a, e)
begins_some hs (End a ending) e = absurd (false≢true e)
begins_some hs Abort e = absurd (false≢true e)
begins_some hs Lost e = absurd (false≢true e)
begins_some hs (Withdraw node) e = absurd (false≢true e)

-- a unit has an open leaf exactly where some leaf is open
running_is : (p : Outline) (hs : List Mark) → IsLegal p hs
    → list_any (has_open p hs) (units_of p) ≡ list_any (open_begin hs) hs
running_is p hs legal =
    both_same (list_any (has_open p hs) (units_of p)) (list_any (open_begin hs) hs)
    (λ some. let u = any_gives (has_open p hs) (units_of p) some in
    any_wider (is_open_begin p hs u.0) (open_begin hs) (opens_any p hs u.0) hs u.2)
    (λ some. let m = any_gives (open_begin hs) hs some in
    let a = begins_some hs m.0 m.2 in
    let begun : list_any (is_begin_of a.0) hs ≡ true = any_has (is_begin_of a.0) hs m.0 m.1 a.1 in
    let u = open_has_unit p hs a.0 legal begun in
    let is : is_open hs a.0 ≡ true =
    and_from (list_any (is_begin_of a.0) hs) (not (is_settled (leaf_result hs a.0))) begun a.2 in
    any_has (has_open p hs) (units_of p) u.0 u.1 (open_of p hs u.0 a.0 u.2 is))

abbrev told : Bool → Bool → Bool → Bool → Status
told lost running stopped good =
    cond lost Incomplete (cond running Running (cond stopped Aborted (cond good Succeeded Failed)))

-- the status, by what is kept, is that of the marks
pub status_is : (p : Outline) (hs : List Mark) → IsLegal p hs → (k : FlowCache) → IsKept p hs k
    → status_by p k ≡ status_of p hs
status_is p hs legal k kept =
    let all = map (state_of p hs) (units_of p) in
    let running : list_any (λ s. s.running) k.tally.states.items ≡ list_any (open_begin hs) hs =
    ap (list_any (λ s. s.running)) kept.states
    ∙ any_mapped (λ s. s.running) (state_of p hs) (units_of p) ∙ running_is p hs legal in
    let good : list_all (λ s. is_good s.outcome) k.tally.states.items
    ≡ list_all (λ u. is_good (result_of p hs u)) (units_of p) =
    ap (list_all (λ s. is_good s.outcome)) kept.states
    ∙ all_mapped (λ s. is_good s.outcome) (state_of p hs) (λ u. is_good (result_of p hs u))
    (λ u. refl) (units_of p) in
    ap (λ b. told b (list_any (λ s. s.running) k.tally.states.items || is_some (first_leaf_by p k))
    k.stopped (list_all (λ s. is_good s.outcome) k.tally.states.items)) kept.lost
    ∙ ap (λ b. told (list_any is_lost hs) (b || is_some (first_leaf_by p k)) k.stopped
    (list_all (λ s. is_good s.outcome) k.tally.states.items)) running
    ∙ ap (λ o. told (list_any is_lost hs) (list_any (open_begin hs) hs || is_some o) k.stopped
    (list_all (λ s. is_good s.outcome) k.tally.states.items)) (first_leaf_is p hs k kept)
    ∙ ap (λ b. told (list_any is_lost hs)
    (list_any (open_begin hs) hs || is_some (first_startable p hs)) b
    (list_all (λ s. is_good s.outcome) k.tally.states.items)) kept.stopped
    ∙ ap (told (list_any is_lost hs)
    (list_any (open_begin hs) hs || is_some (first_startable p hs)) (list_any stops hs)) good
