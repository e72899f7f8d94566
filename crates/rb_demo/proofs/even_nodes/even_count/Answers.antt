use Rattle.std.proofs.Common.{◌≡◌, ◌∙◌, ◌≤◌, ◌+◌, ℕ, Bool, true, false, ap, refl, arith}
use mir.Val.{bool_byte}
use Rattle.rb_demo.specs.Numbers.{draw_at, is_even}
use Rattle.rb_demo.proofs.Counted.{bit}
use Rattle.rb_demo.proofs.Evens.{even_more}
use Rattle.rb_demo.proofs.Written.{next_drawn}
use Rattle.rb_demo.proofs.even_nodes.even_count.Goals as goal

as_bit : (b : Bool) → bool_byte b ≡ bit b
as_bit true = refl
as_bit false = refl

pub loop-before-preserved : goal.loop-before-preserved
loop-before-preserved c =
    let drawn : c.generator-draw.result ≡ draw_at (c.loop-before._before + 1) =
    next_drawn c.loop-before._before c.loop-before.draw c.generator-draw.result
    c.loop-before.invariant.drawn c.generator-draw.ensures in
    let one : c.from-even.result ≡ bit (is_even c.generator-draw.result) =
    c.from-even.ensures ∙ as_bit c.is_even.result ∙ ap bit c.is_even.ensures in
    record {
      drawn = drawn;
      counted = ap (λ n. c.loop-before.even + n) one
          ∙ even_more c.loop-before._before c.generator-draw.result c.loop-before.even drawn
          c.loop-before.invariant.counted;
      few = few_more c.loop-before._before c.loop-before.even c.from-even.result
          (is_even c.generator-draw.result) c.loop-before.invariant.few one;
    }
  where
    few_more : (before even more : ℕ) (b : Bool) → even ≤ before → more ≡ bit b
        → even + more ≤ before + 1
    few_more before even more true h e = omega arith
    few_more before even more false h e = omega arith
