use Rattle.std.proofs.Common.{codes, string_bytes}
use Rattle.rb_api.proofs.Pieced.{three}
use Rattle.rb_api.proofs.refusing.denied.Goals as goal

pub returns : goal.returns
returns c =
    rw (
      c.as_str.ensures.value,
      three (string_bytes c.in_ok-message.message) c.args.action.now (codes " denied on ") c.args.thing.now c.in_ok-message.ensures.ok,
    ) at c.denial_reply.ensures
