use Rattle.std.proofs.Common.{codes, decimal, string_bytes}
use Rattle.rb_api.proofs.Pieced.{five}
use Rattle.rb_api.proofs.refusing.policy_line.Goals as goal

pub returns : goal.returns
returns c =
    rw (
      c.as_str.ensures.value,
      five (string_bytes c.in_ok-text.text) (codes "document ") (decimal c.args.document) (codes ": ") c.args.kind.now c.args.key.now c.in_ok-text.ensures.ok,
    ) at c.document_reply.ensures
