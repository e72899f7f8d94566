-- A chain document without a flaw is read.
use Rattle.std.proofs.Common.{refl}
use Rattle.rb_chain.specs.Chains.{runs_in}
use Rattle.rb_chain.specs.Laws.{FlawlessIsRead}

pub flawless_is_read : FlawlessIsRead
flawless_is_read docs e = (runs_in docs, rw e refl)
