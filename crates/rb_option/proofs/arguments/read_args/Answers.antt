use Rattle.std.proofs.Common.{◌≤◌, ap, length, arith}
use Rattle.rb_causes.proofs.Sizes.{texts_fewer}
use Rattle.rb_option.proofs.arguments.read_args.Goals as goal

pub pairs_of-requires : goal.pairs_of-requires
pairs_of-requires c =
    let few : length c.in-Ok.words.items ≤ length c.args.s.now =
    texts_fewer c.args.s.now c.in-Ok.words.items c.utf8.s c.in-Ok.ensures.words in
    omega (arith, few, c.requires, c.as_slice.ensures.len, ap length c.as_slice.ensures.value)
