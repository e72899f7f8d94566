use Rattle.std.proofs.Common.{codes, decimal, string_bytes}
use Rattle.rb_api.proofs.Pieced.{four}
use Rattle.rb_api.proofs.refusing.line_reply.Goals as goal

pub returns : goal.returns
returns c =
    rw (
      c.as_str.ensures.value,
      four (string_bytes c.in_ok-text.text) (decimal c.args.line) (codes ": ") c.args.kind.now c.args.form.now c.in_ok-text.ensures.ok,
    ) at c.document_reply.ensures
