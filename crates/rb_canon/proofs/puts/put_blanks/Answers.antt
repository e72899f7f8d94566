use Rattle.std.proofs.Common.{◌≡◌, ℕ, suc, ◌+◌, ◌-◌, [], ◌∷◌, replicate, subst, arith}
use Rattle.rb_canon.proofs.SoFar.{SoFar, so_far_more}
use Rattle.rb_canon.proofs.puts.put_blanks.Goals as goal

pub loop-preserved : goal.loop-preserved
loop-preserved c =
    let before = c.args.out.now.items in
    let whole = replicate c.args.count 32 in
    let one_less : c.args.count - c.loop.counter ≡ suc (c.args.count - (c.loop.counter + 1)) = omega arith in
    so_far_more whole (32 ∷ []) (replicate (c.args.count - (c.loop.counter + 1)) 32) before c.loop.out.items c.put.new.out.items _
    (subst (λ (n : ℕ). SoFar whole (replicate n 32) before c.loop.out.items) one_less c.loop.invariant) c.in_ok-put.ensures
