use Rattle.std.proofs.Common.{◌≡◌, ◌∙◌, IfOk, map, subst}
use Rattle.std.specs.List.{list_any}
use Rattle.rb_text.specs.Matching.{matches_whole}
use Rattle.rb_text.proofs.pattern.Pattern.whole_of_each.Goals as goal

pub returns : goal.returns
returns c =
    subst
    (λ text. IfOk c.any_of_each.result (λ marks. marks.items
    ≡ map (list_any (matches_whole text)) (map (λ texts. texts.now) c.args.lists.now)))
    (c.in_ok-search.ensures ∙ c.as_str.ensures ∙ c.self.view_is) c.any_of_each.ensures
