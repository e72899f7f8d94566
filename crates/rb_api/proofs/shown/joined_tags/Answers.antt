use Rattle.std.proofs.Common.{◌∙◌}
use Rattle.std.proofs.lemmas.Result.{IfOk-weaker}
use Rattle.rb_api.proofs.Joined.{tags_joined}
use Rattle.rb_api.proofs.shown.joined_tags.Goals as goal

pub returns : goal.returns
returns c =
    IfOk-weaker c.joined.result _ _ (λ text h. h ∙ tags_joined c.args.tags.now) c.joined.ensures
