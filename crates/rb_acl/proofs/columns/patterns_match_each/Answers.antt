use Rattle.std.proofs.Common.{◌∙◌, ◌∷◌, [], ℕ, List, Bool, ap, map, arith}
use Rattle.std.specs.List.{list_all, list_any}
use Rattle.std.proofs.lemmas.List.{take_all}
use Rattle.rb_text.specs.Matching.{matches_whole}
use Rattle.rb_text.proofs.Marking.{all_more}
use Rattle.rb_acl.specs.Applying.{property_text}
use Rattle.rb_acl.specs.declared.policy.Resource.{Resource}
use Rattle.rb_acl.proofs.Listing.{alone_holds}
use Rattle.rb_acl.proofs.columns.patterns_match_each.Goals as goal

-- the lists are those of the property's texts
pub loop-pattern-preserved : goal.loop-pattern-preserved
loop-pattern-preserved c =
    let pattern = c.pattern-item.result in
    let text_of : Resource → List ℕ = λ (r : Resource). property_text r c.args.key.now in
    let rs = c.args.resources.now in
    let told = c.in_ok-others.ensures
    ∙ ap (map (list_any (matches_whole pattern)))
    (ap (map (λ texts. texts.now)) c.as_slice-in-loop-pattern.ensures.value ∙ c.in_ok-lists.ensures
    ∙ ap (map (λ t. t ∷ [])) (c.as_slice.ensures.value ∙ c.in_ok-texts.ensures))
    ∙ alone_holds (matches_whole pattern) text_of rs in
    all_more (λ pattern resource. matches_whole pattern (text_of resource)) c.args.patterns.now rs
    c.loop-pattern.pattern-index pattern _ _ _ c.loop-pattern-test.true c.pattern-item.is
    c.loop-pattern.invariant told
    (rw (c.as_slice-in-loop-pattern-2.ensures.value, c.as_slice-in-loop-pattern-3.ensures.value)
    at c.in_ok-marks-2.ensures)

pub returns : goal.returns
returns c =
    let marks : List (List ℕ) → List Bool =
    λ (ps : List (List ℕ)). map (λ (r : Resource). list_all
    (λ (p : List ℕ). matches_whole p (property_text r c.args.key.now)) ps) c.args.resources.now in
    c.loop-pattern.invariant
    ∙ ap marks (take_all c.loop-pattern.pattern-index c.args.patterns.now
    (omega (arith, c.loop-pattern-test.false)))
