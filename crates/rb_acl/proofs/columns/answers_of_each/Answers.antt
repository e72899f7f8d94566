use Rattle.std.proofs.Common.{◌≡◌, ◌∙◌, IfOk, subst, sym}
use Rattle.std.specs.List.{list_all}
use Rattle.rb_acl.specs.Applying.{names_action, listed_actions, test_holds}
use Rattle.rb_acl.proofs.Listing.{none_named}
use Rattle.rb_acl.proofs.columns.answers_of_each.Goals as goal

pub returns-then-not-is_named : goal.returns-then-not-is_named
returns-then-not-is_named c =
    let rule = c.args.rule.now in
    subst (λ told. IfOk c.same_of_each.result (λ marks. marks.items ≡ told))
    (none_named (names_action (listed_actions c.args.effect rule) c.args.action.now)
    (λ r. list_all (test_holds r) rule.tests) c.args.resources.now
    (sym (rw c.actions_of.ensures at c.is_named.ensures) ∙ c.if-not-is_named.true))
    c.same_of_each.ensures
