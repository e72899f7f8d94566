use Rattle.std.proofs.Common.{arith, sym, subst}
use Rattle.rb_top.specs.Names.{HasNames}
use Rattle.rb_top.proofs.Scripts.{lines_to_read}
use Rattle.rb_top.proofs.reading.read_script.Goals as goal

pub loop-index-init : goal.loop-index-init
loop-index-init c = record {
  names = subst (HasNames c.new-names.result) (sym c.new-script.ensures) c.new-names.ensures;
  rest =
      lines_to_read c.args.bytes.now c.deref-line-items.result.now c.new-script.result (omega (arith, c.if-bytes-gt-MOST_BYTES.false))
      (rw c.deref-line-items.ensures.value c.in_ok-lines.ensures) c.new-script.ensures;
}
