use Rattle.std.proofs.Common.{codes, string_bytes}
use Rattle.rb_api.proofs.Pieced.{five}
use Rattle.rb_api.proofs.refusing.option_line.Goals as goal

pub returns : goal.returns
returns c =
    rw (
      c.as_str.ensures.value,
      five (string_bytes c.in_ok-text.text) c.args.reference.now (codes "option ") c.args.name.now (codes ": ") c.args.kind.now c.in_ok-text.ensures.ok,
    ) at c.error_reply.ensures
