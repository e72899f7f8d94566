use Rattle.std.proofs.Common.{◌∙◌}
use Rattle.std.proofs.lemmas.Result.{IfOk-weaker}
use Rattle.rb_api.proofs.Joined.{path_joined}
use Rattle.rb_api.proofs.refusing.path_text.Goals as goal

pub returns : goal.returns
returns c =
    IfOk-weaker c.joined.result _ _ (λ text h. h ∙ path_joined c.args.path.now) c.joined.ensures
