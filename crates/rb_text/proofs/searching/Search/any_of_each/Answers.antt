use Rattle.std.proofs.Common.{◌∙◌}
use Rattle.std.specs.List.{list_any}
use Rattle.rb_text.specs.Matching.{matches_whole}
use Rattle.rb_text.proofs.Marking.{marks_more}
use Rattle.rb_text.proofs.searching.Search.any_of_each.Goals as goal

pub loop-texts-preserved : goal.loop-texts-preserved
loop-texts-preserved c = (
  c.is_any.ensures.same ∙ c.loop-texts.invariant.0,
  rw c.is_any.ensures.same (marks_more (list_any (matches_whole c.loop-texts.self)) (λ texts. texts.now)
      c.args.lists.now c.loop-texts.texts-index c.texts-item.result _ _ _
      c.loop-texts-test.true c.texts-item.is c.loop-texts.invariant.1 c.is_any.ensures.found
      c.in_ok-push.ensures.items),
)
