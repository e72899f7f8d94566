use Rattle.std.proofs.Common.{string_bytes, w64}
use Rattle.std.proofs.lemmas.Int.{to_z-of_z}
use Rattle.rb_tools.specs.Instants.{ReadsInstants}
use Rattle.rb_tools.proofs.Checks.{answered_read}
use Rattle.rb_tools.proofs.instants.print_next.Goals as goal

pub returns-clause-next : goal.returns-clause-next
returns-clause-next g c =
    let same = to_z-of_z w64 c.args.after c.ranges.after in
    answered_read string_bytes {Reads = ReadsInstants c.args.crontab.now c.args.zone.now c.args.after c.args.count} _ (rw same at c.instants_text.ensures.ok) c.instants_text.ensures.refused c.give.ensures.gives
