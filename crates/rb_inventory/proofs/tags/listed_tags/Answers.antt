use Rattle.std.proofs.Common.{◌+◌, ◌∷◌, ◌++◌, [], not, drop, map, ap, sym, ◌∙◌}
use Rattle.std.specs.List.{filter}
use Rattle.std.specs.Option.{option_copied}
use Rattle.rb_causes.specs.Texts.{is_empty, trimmed}
use Rattle.rb_causes.proofs.Lists.{item_at, made_more}
use Rattle.rb_yaml.specs.Tree.{yaml_tree}
use Rattle.rb_values.specs.Values.{scalar_or_empty}
use Rattle.rb_inventory.specs.Tags.{filled}
use Rattle.rb_inventory.proofs.TagFacts.{not_listed, text_passed, tags_split}
use Rattle.rb_inventory.proofs.tags.listed_tags.Goals as goal

pub returns-in-None : goal.returns-in-None
returns-in-None c =
    let vs = c.args.items.now in
    let here = item_at yaml_tree vs c.loop-item.item-index c.item-item.result c.loop-item-test.true c.item-item.is in
    not_listed (yaml_tree c.item-item.result) (drop c.loop-item.item-index (map yaml_tree vs)) (drop (c.loop-item.item-index + 1) (map yaml_tree vs)) (map yaml_tree vs)
    here (sym c.text_in.ensures ∙ ap option_copied c.in-None.is) c.loop-item.invariant.texts

pub loop-item-preserved : goal.loop-item-preserved
loop-item-preserved c =
    let vs = c.args.items.now in
    let v = yaml_tree c.item-item.result in
    let left = drop c.loop-item.item-index (map yaml_tree vs) in
    let rest = drop (c.loop-item.item-index + 1) (map yaml_tree vs) in
    let here = item_at yaml_tree vs c.loop-item.item-index c.item-item.result c.loop-item-test.true c.item-item.is in
    let some = sym c.text_in.ensures ∙ ap option_copied c.in-Some.is in
    let put = c.in_ok-push_filled-in-Some.ensures ∙ ap (λ t. c.loop-item.tags ++ filter (λ x. not (is_empty x)) (t ∷ [])) (c.trimmed.ensures ∙ ap trimmed c.as_str.ensures) in record {
      texts = text_passed v c.in-Some.text.now left rest (map yaml_tree vs) here some c.loop-item.invariant.texts;
      tags = made_more c.loop-item.tags c.push_filled.new.texts (filter (λ x. not (is_empty x)) (trimmed c.in-Some.text.now ∷ [])) (filled (map scalar_or_empty left)) (filled (map scalar_or_empty rest))
          (filled (map scalar_or_empty (map yaml_tree vs))) put (tags_split v c.in-Some.text.now left rest here some) c.loop-item.invariant.tags;
    }
