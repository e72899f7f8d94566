use Rattle.std.proofs.Common.{◌≡◌, ◌∙◌, IfOk, ap, map, subst, sym}
use Rattle.std.specs.Option.{option_copied}
use Rattle.rb_acl.specs.Seeking.{answers}
use Rattle.rb_acl.proofs.seeking_each.place_decides_each.Goals as goal

pub returns-in-None : goal.returns-in-None
returns-in-None c =
    subst
    (λ rule. IfOk c.same_of_each.result (λ marks. marks.items
    ≡ map (λ resource. answers c.args.effect resource c.args.action.now rule) c.args.resources.now))
    (sym (sym c.rule_at.ensures ∙ ap option_copied c.in-None.is)) c.same_of_each.ensures

pub returns-in-Some : goal.returns-in-Some
returns-in-Some c =
    subst
    (λ rule. IfOk c.answers_of_each.result (λ marks. marks.items
    ≡ map (λ resource. answers c.args.effect resource c.args.action.now rule) c.args.resources.now))
    (sym (sym c.rule_at.ensures ∙ ap option_copied c.in-Some.is)) c.answers_of_each.ensures
