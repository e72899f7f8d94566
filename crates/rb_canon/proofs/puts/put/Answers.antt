use Rattle.std.proofs.Common.{arith}
use Rattle.rb_canon.specs.Layout.{most_bytes}
use Rattle.rb_canon.proofs.puts.put.Goals as goal

pub returns-then-piece-saturating_sub : goal.returns-then-piece-saturating_sub
unfolding most_bytes
returns-then-piece-saturating_sub c = record {
  ok = tt;
  short = tt;
  large = λ e. omega arith;
}

pub returns : goal.returns
unfolding most_bytes
returns c = record {
  ok = c.in_ok-extend_from_slice.ensures.items;
  short = λ h. omega (arith, c.in_ok-extend_from_slice.ensures.len);
  large = λ e. absurd (cc);
}
