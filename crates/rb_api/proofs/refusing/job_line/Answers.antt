use Rattle.std.proofs.Common.{codes, decimal, string_bytes}
use Rattle.rb_api.proofs.Pieced.{five}
use Rattle.rb_api.proofs.refusing.job_line.Goals as goal

pub returns : goal.returns
returns c =
    rw (
      c.as_str.ensures.value,
      five (string_bytes c.in_ok-text.text) (codes "job ") (decimal c.args.job) (codes ": ") c.args.key.now c.args.kind.now c.in_ok-text.ensures.ok,
    ) at c.document_reply.ensures
