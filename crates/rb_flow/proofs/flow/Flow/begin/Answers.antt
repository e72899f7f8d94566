use Rattle.std.proofs.Common.{◌≡◌, ◌<◌, ◌++◌, List, ◌∷◌, [], Some, true, false, sym, ap, ◌∙◌, subst, arith, refl}
use Rattle.std.specs.List.{list_any}
use Rattle.std.proofs.lemmas.Bool.{and_from, not_from_false}
use Rattle.rb_marks.specs.Units.{Outline, outline, is_settled}
use Rattle.rb_marks.specs.First.{first_startable, stops, is_open, is_lost, is_begin_of}
use Rattle.rb_marks.specs.declared.mark.Leaf.{Leaf}
use Rattle.rb_marks.specs.declared.mark.Mark.{Mark}
use Rattle.rb_marks.specs.declared.mark.Mark.TheVariants.{Begin, End, Abort, Lost, Withdraw}
use Rattle.rb_marks.proofs.Counts.{any_more, any_here, none_narrower}
use Rattle.rb_marks.proofs.Growing.{same_leaf_refl, begin_leaves}
use Rattle.rb_marks.proofs.Reserve.{reserve_begin}
use Rattle.rb_marks.proofs.Legal.{legal_more}
use Rattle.rb_marks.proofs.Waits.{first_waits, first_goes_on}
use Rattle.rb_flow.proofs.KeptMarks.{kept_begun}
use Rattle.rb_flow.proofs.Startable.{kept_is_ready}
use Rattle.rb_flow.proofs.Units.{first_unit}
use Rattle.rb_flow.proofs.flow.Flow.begin.Goals as goal

opened : (p : Outline) (hs : List Mark) (leaf : Leaf) → first_startable p hs ≡ Some leaf
    → is_open (hs ++ Begin leaf ∷ []) leaf ≡ true
opened p hs leaf e =
    and_from _ _ (any_here (is_begin_of leaf) hs (Begin leaf) (same_leaf_refl leaf))
    (not_from_false _ (ap is_settled (begin_leaves hs leaf leaf ∙ first_waits p hs leaf e)))

lost_stops : (m : Mark) → is_lost m ≡ true → stops m ≡ true
lost_stops (Begin leaf) e = e
lost_stops (End leaf ending) e = e
lost_stops Abort e = refl
lost_stops Lost e = refl
lost_stops (Withdraw node) e = e

not_lost : (p : Outline) (hs : List Mark) (leaf : Leaf) → first_startable p hs ≡ Some leaf
    → list_any is_lost (hs ++ Begin leaf ∷ []) ≡ false
not_lost p hs leaf e = any_more is_lost hs (Begin leaf) refl
    ∙ none_narrower is_lost stops lost_stops hs (first_goes_on p hs leaf e)

pub begin-requires : goal.begin-requires
begin-requires c =
    let p = outline c.self.inside.plan in
    let marks = c.self.inside.marks.items in
    let leaf = c.args.leaf in
    let first = subst (λ v. first_startable (outline v.plan) v.marks ≡ Some leaf)
    (sym c.self.view_is) c.requires.first in
    let sound = c.self.invariant.0.sound in
    let legal = c.self.invariant.0.legal in
    let kept = c.self.invariant.1 in
    let u = first_unit p sound marks leaf first in
    record {
      ready = kept_is_ready p sound marks legal c.self.inside.kept kept;
      group = omega (arith, u.1.placed.group, kept.groups);
      node = omega (arith, u.1.placed.node, kept.nodes);
    }

pub invariant_of-self : goal.invariant_of-self
invariant_of-self c =
    let p = outline c.self.inside.plan in
    let marks = c.self.inside.marks.items in
    let leaf = c.args.leaf in
    let first = subst (λ v. first_startable (outline v.plan) v.marks ≡ Some leaf)
    (sym c.self.view_is) c.requires.first in
    let room = subst (λ v. 0 < v.room) (sym c.self.view_is) c.requires.room in
    let reserve = reserve_begin p.tiers marks leaf in
    let sound = c.self.invariant.0.sound in
    let legal = c.self.invariant.0.legal in
    let u = first_unit p sound marks leaf first in
    rw c.push_reserved.ensures.items (
      record {
        sound = sound;
        legal = legal_more p marks (Begin leaf) legal first;
        reserved =
            omega (
              arith,
              reserve,
              room,
              c.self.invariant.0.reserved,
              c.push_reserved.ensures.len,
              c.push_reserved.ensures.capacity,
            );
      },
      kept_begun p sound marks leaf u.0 first u.1 c.self.inside.kept c.begin.new.self
          c.self.invariant.1 c.begin.ensures,
    )

pub returns-clause-open : goal.returns-clause-open
returns-clause-open c =
    let first = subst (λ v. first_startable (outline v.plan) v.marks ≡ Some c.args.leaf)
    (sym c.self.view_is) c.requires.first in
    rw c.push_reserved.ensures.items
    (opened (outline c.self.inside.plan) c.self.inside.marks.items c.args.leaf first)

pub returns-clause-lost : goal.returns-clause-lost
returns-clause-lost c =
    let first = subst (λ v. first_startable (outline v.plan) v.marks ≡ Some c.args.leaf)
    (sym c.self.view_is) c.requires.first in
    rw c.push_reserved.ensures.items
    (not_lost (outline c.self.inside.plan) c.self.inside.marks.items c.args.leaf first)
