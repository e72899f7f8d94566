use Rattle.std.proofs.Common.{◌≡◌, IfOk, map, subst, sym}
use Rattle.std.specs.List.{list_any}
use Rattle.rb_text.specs.Values.{value_is}
use Rattle.rb_text.proofs.value.Value.holds_of_each.Goals as goal

pub returns-in-Plain : goal.returns-in-Plain
returns-in-Plain c =
    subst
    (λ value. IfOk c.equals_any_of_each.result (λ marks. marks.items
    ≡ map (list_any (value_is value)) (map (λ texts. texts.now) c.args.lists.now)))
    (sym c.in-Plain.is) c.equals_any_of_each.ensures

pub returns-in-Pattern : goal.returns-in-Pattern
returns-in-Pattern c =
    subst
    (λ value. IfOk c.whole_of_each.result (λ marks. marks.items
    ≡ map (list_any (value_is value)) (map (λ texts. texts.now) c.args.lists.now)))
    (sym c.in-Pattern.is) c.whole_of_each.ensures
