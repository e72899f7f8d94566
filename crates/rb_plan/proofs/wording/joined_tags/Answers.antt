use Rattle.std.proofs.Common.{◌≡◌, ◌++◌, sym, ◌∙◌, ap}
use Rattle.std.proofs.lemmas.Result.{IfOk-weaker}
use Rattle.rb_causes.specs.Signs.{comma}
use Rattle.rb_causes.specs.Texts.{joined}
use Rattle.rb_acl.specs.Joining.{joined_rest}
use Rattle.rb_acl.proofs.Joins.{joined-first}
use Rattle.rb_plan.proofs.wording.joined_tags.Goals as goal

pub returns-in-Some : goal.returns-in-Some
returns-in-Some c =
    IfOk-weaker c.joined_behind.result _ (λ text. text ≡ joined comma c.args.tags.now)
    (λ text is. is ∙ ap (λ x. x ++ joined_rest c.in-Some.more.now) c.as_str.ensures
    ∙ sym (joined-first c.in-Some.first.now c.in-Some.more.now)
    ∙ ap (joined comma) (sym c.in-Some.ensures.cases.0)) c.joined_behind.ensures
