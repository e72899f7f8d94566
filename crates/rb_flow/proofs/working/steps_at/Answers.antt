use Rattle.std.proofs.Common.{◌≡◌, ℕ, ◌+◌, ◌-◌, List, map, take, drop, sym, ap, ◌∙◌, arith}
use Rattle.std.proofs.lemmas.List.{take-map, drop-map}
use Rattle.rb_marks.specs.View.{step_tree}
use Rattle.rb_flow.proofs.working.steps_at.Goals as goal

one_at : {X Y : Type 0} (f : X → Y) (n : ℕ) (xs : List X) → map f (take (n + 1 - n) (drop n xs))
    ≡ take 1 (drop n (map f xs))
one_at f n xs = let e : n + 1 - n ≡ 1 = omega arith in
    rw e (sym (ap (take 1) (drop-map f n xs) ∙ take-map f 1 (drop n xs)))

pub returns-then-at-steps : goal.returns-then-at-steps
returns-then-at-steps c = one_at step_tree c.args.step c.args.steps.now
