use Rattle.std.proofs.Common.{rules, tests, sym, ◌∙◌}
use Rattle.std.proofs.lemmas.Iterator.{YieldsList-from_slice}
use Rattle.std.proofs.lemmas.Iterator.Search.{any_from_yields_List}
use Rattle.rb_causes.proofs.Lists.{list_any-map}
use Rattle.rb_causes.specs.Texts.{is_empty}
use Rattle.rb_top.proofs.lines.has_empty.Goals as goal

pub returns : goal.returns
returns c =
    any_from_yields_List (λ w. is_empty w.now) _ _ _ c.any.ensures.ran (YieldsList-from_slice c.args.words.now cc) (λ x b q k. search (rules, tests))
    ∙ sym (list_any-map is_empty (λ w. w.now) c.args.words.now)
