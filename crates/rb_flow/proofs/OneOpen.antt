-- A unit has at most one open leaf.
use Rattle.std.proofs.Common.{◌≡◌, ◌⊎◌, true, false, not, Some, List, [], ◌∷◌, ◌++◌, append_assoc, append-nil, sym, ap, ◌∙◌, subst, refl, inl, inr}
use Rattle.std.specs.List.{list_any}
use Rattle.std.proofs.lemmas.Bool.{and_parts, and_from, both_ways, cases_Bool, false≢true, or_cases, or_left, or_right}
use Rattle.rb_marks.specs.Results.{leaf_result, same_leaf}
use Rattle.rb_marks.specs.Sound.{IsSound}
use Rattle.rb_marks.specs.Units.{Outline, units_of, is_of, is_open_begin, has_open, is_settled}
use Rattle.rb_marks.specs.First.{first_startable, is_begin_of, is_open, MayFollow, LegalAfter, IsLegal}
use Rattle.rb_marks.specs.declared.mark.Leaf.{Leaf}
use Rattle.rb_marks.specs.declared.mark.Mark.{Mark}
use Rattle.rb_marks.specs.declared.mark.Mark.TheVariants.{Begin, End, Abort, Lost, Withdraw}
use Rattle.rb_marks.specs.declared.units.WorkUnit.{WorkUnit}
use Rattle.rb_marks.proofs.Counts.{any_more, any_wider}
use Rattle.rb_marks.proofs.Growing.{open_before, same_leaf_true, same_leaf_refl}
use Rattle.rb_marks.proofs.Reserve.{is_begun}
use Rattle.rb_marks.proofs.Once.{next_is_of}
use Rattle.rb_marks.proofs.Places.{one_unit}
use Rattle.rb_marks.proofs.Waits.{Has, first_gives, may_go_means}

-- of two open leaves of a unit both are the same
abbrev pub HasOneOpen : Outline → List Mark → Type 0
HasOneOpen p hs =
    (w : WorkUnit) → Has (units_of p) w → (a b : Leaf) → is_of p w a ≡ true → is_of p w b ≡ true
    → is_open hs a ≡ true → is_open hs b ≡ true → a ≡ b

-- a leaf of the unit that is open
pub open_of : (p : Outline) (hs : List Mark) (w : WorkUnit) (a : Leaf) → is_of p w a ≡ true
    → is_open hs a ≡ true → has_open p hs w ≡ true
open_of p hs w a of open' =
    let parts = and_parts (list_any (is_begin_of a) hs) (not (is_settled (leaf_result hs a))) open' in
    any_wider (is_begin_of a) (is_open_begin p hs w)
    (λ m b. is_begun a m (λ x. is_open_begin p hs w x ≡ true)
    (and_from (is_of p w a) (not (is_settled (leaf_result hs a))) of parts.1) b) hs parts.0

opens_by : (p : Outline) (marks : List Mark) (w : WorkUnit) (m : Mark)
    → is_open_begin p marks w m ≡ true
    → (a : Leaf) × (m ≡ Begin a) × (is_of p w a ≡ true)
    × (not (is_settled (leaf_result marks a)) ≡ true)
opens_by p marks w (Begin a) e =
    let parts = and_parts (is_of p w a) (not (is_settled (leaf_result marks a))) e in
    (a, refl, parts.0, parts.1)
opens_by p marks w (End a ending) e = absurd (false≢true e)
opens_by p marks w Abort e = absurd (false≢true e)
opens_by p marks w Lost e = absurd (false≢true e)
opens_by p marks w (Withdraw node) e = absurd (false≢true e)

some_of : (p : Outline) (marks ms : List Mark) (w : WorkUnit)
    → list_any (is_open_begin p marks w) ms ≡ true
    → (a : Leaf) × (is_of p w a ≡ true) × (list_any (is_begin_of a) ms ≡ true)
    × (not (is_settled (leaf_result marks a)) ≡ true)
some_of p marks [] w e = absurd (false≢true e)
some_of p marks (m ∷ ms) w e =
    elim (or_cases (is_open_begin p marks w m) (list_any (is_open_begin p marks w) ms) e) [
      | inl here ↦
          let r = opens_by p marks w m here in (
            r.0,
            r.2,
            or_left (is_begin_of r.0 m) (list_any (is_begin_of r.0) ms)
                (ap (is_begin_of r.0) r.1 ∙ same_leaf_refl r.0),
            r.3,
          )
      | inr later ↦
          let r = some_of p marks ms w later in
          (r.0, r.1, or_right (is_begin_of r.0 m) (list_any (is_begin_of r.0) ms) r.2, r.3)
    ]

-- the leaf of the unit that is open
pub some_open : (p : Outline) (marks : List Mark) (w : WorkUnit) → has_open p marks w ≡ true
    → (a : Leaf) × (is_of p w a ≡ true) × (is_open marks a ≡ true)
some_open p marks w e =
    let r = some_of p marks marks w e in (
      r.0,
      r.1,
      and_from (list_any (is_begin_of r.0) marks) (not (is_settled (leaf_result marks r.0)))
          r.2 r.3,
    )

-- what is open behind a mark that begins nothing of it was open before
pub began_before : (hs : List Mark) (m : Mark) (a : Leaf) → is_begin_of a m ≡ false
    → is_open (hs ++ m ∷ []) a ≡ true → is_open hs a ≡ true
began_before hs m a e open' =
    let more = hs ++ m ∷ [] in
    let parts = and_parts (list_any (is_begin_of a) more) (not (is_settled (leaf_result more a))) open'
    in
    let begun : list_any (is_begin_of a) hs ≡ true = sym (any_more (is_begin_of a) hs m e) ∙ parts.0 in
    let still : not (is_settled (leaf_result hs a)) ≡ true =
    open_before hs (m ∷ []) (Begin a) parts.1 in
    and_from (list_any (is_begin_of a) hs) (not (is_settled (leaf_result hs a))) begun still

-- the leaf that begins is that one, or the other was open before
this_or_before : (hs : List Mark) (at a : Leaf) → is_open (hs ++ Begin at ∷ []) a ≡ true
    → (at ≡ a) ⊎ (is_open hs a ≡ true)
this_or_before hs at a open' =
    elim (cases_Bool (same_leaf at a)) [
      | inl same ↦ inl (same_leaf_true at a same)
      | inr other ↦ inr (began_before hs (Begin at) a other open')
    ]

one_begun : (p : Outline) → IsSound p → (hs : List Mark) (at : Leaf)
    → first_startable p hs ≡ Some at → HasOneOpen p hs → HasOneOpen p (hs ++ Begin at ∷ [])
one_begun p sound hs at first one w has a b of_a of_b open_a open_b =
    let v = first_gives p (units_of p) hs (units_of p) at first in
    let closed = (may_go_means p (units_of p) hs v.0 v.2.goes).closed in
    -- no leaf of the unit whose leaf begins was open
    let none : (c : Leaf) → is_of p w at ≡ true → is_of p w c ≡ true → is_open hs c ≡ true → ⊥ =
    λ c of_at of_c open_c.
    let same : w ≡ v.0 = one_unit p sound w v.0 at has v.1 of_at
    (next_is_of p hs v.0 at v.2.next) in
    both_ways (has_open p hs v.0) closed
    (subst (λ u. has_open p hs u ≡ true) same (open_of p hs w c of_c open_c)) in
    elim (this_or_before hs at a open_a) [
      | inl here ↦ elim (this_or_before hs at b open_b) [
        | inl there ↦ sym here ∙ there
        | inr before ↦ absurd (none b (subst (λ c. is_of p w c ≡ true) (sym here) of_a) of_b before)
      ]
      | inr before ↦ elim (this_or_before hs at b open_b) [
        | inl there ↦ absurd (none a (subst (λ c. is_of p w c ≡ true) (sym there) of_b) of_a before)
        | inr too ↦ one w has a b of_a of_b before too
      ]
    ]

one_same : (p : Outline) (hs : List Mark) (m : Mark) → ((a : Leaf) → is_begin_of a m ≡ false)
    → HasOneOpen p hs → HasOneOpen p (hs ++ m ∷ [])
one_same p hs m e one w has a b of_a of_b open_a open_b =
    one w has a b of_a of_b (began_before hs m a (e a) open_a) (began_before hs m b (e b) open_b)

one_more : (p : Outline) → IsSound p → (hs : List Mark) (m : Mark) → MayFollow p hs m
    → HasOneOpen p hs → HasOneOpen p (hs ++ m ∷ [])
one_more p sound hs (Begin at) f one = one_begun p sound hs at f one
one_more p sound hs (End at ending) f one = one_same p hs (End at ending) (λ a. refl) one
one_more p sound hs Abort f one = one_same p hs Abort (λ a. refl) one
one_more p sound hs Lost f one = one_same p hs Lost (λ a. refl) one
one_more p sound hs (Withdraw node) f one = one_same p hs (Withdraw node) (λ a. refl) one

one_after : (p : Outline) → IsSound p → (hs ms : List Mark) → HasOneOpen p hs
    → LegalAfter p hs ms → HasOneOpen p (hs ++ ms)
one_after p sound hs [] one l = subst (HasOneOpen p) (sym (append-nil hs)) one
one_after p sound hs (m ∷ ms) one l =
    subst (HasOneOpen p) (append_assoc hs (m ∷ []) ms)
    (one_after p sound (hs ++ m ∷ []) ms (one_more p sound hs m l.0 one) l.1)

-- a unit has at most one open leaf
pub one_open : (p : Outline) → IsSound p → (hs : List Mark) → IsLegal p hs → HasOneOpen p hs
one_open p sound hs l =
    one_after p sound [] hs (λ w has a b of_a of_b open_a open_b. absurd (false≢true open_a)) l
