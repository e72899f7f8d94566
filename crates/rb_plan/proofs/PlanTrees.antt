-- A step and a sequence of a plan as trees.
use Rattle.std.proofs.Common.{◌≡◌, Bool, map, ap, sym, ◌∙◌}
use Rattle.rb_marks.specs.Tree.{Tree, Branches, sub}
use Rattle.rb_marks.specs.View.{Branch, act_level, act_tree, branches_of, seq_level, step_level, step_tree}
use Rattle.rb_marks.specs.declared.plan.Act.{Act}
use Rattle.rb_marks.specs.declared.plan.Act.TheFolds.{fold-roll-Act, fold-roll-Seq, fold-roll-Step}
use Rattle.rb_marks.specs.declared.plan.Act.TheOpen.{Act-F, Seq-F, Step-F}
use Rattle.rb_marks.specs.declared.plan.Act.TheVariants.{Sub, rolls-Sub}
use Rattle.rb_marks.specs.declared.plan.Seq.{Seq, roll-Seq}
use Rattle.rb_marks.specs.declared.plan.Step.{Step, roll-Step}

pub sub_tree : (r : Seq-F Act Seq Step) → act_tree (Sub (roll-Seq r)) ≡ sub r.keepgoing (branches_of (map step_tree r.steps.items))
sub_tree r =
    ap act_tree (sym (rolls-Sub (roll-Seq r)))
    ∙ fold-roll-Act Tree (Bool × Branches) Branch act_level seq_level step_level (Act-F.Sub (roll-Seq r))
    ∙ ap (λ s. sub s.0 s.1) (fold-roll-Seq Tree (Bool × Branches) Branch act_level seq_level step_level r)

pub tree_of_step : (r : Step-F Act Seq Step) → step_tree (roll-Step r) ≡ (act_tree r.act, r.handler, r.keep_on_success)
tree_of_step r = fold-roll-Step Tree (Bool × Branches) Branch act_level seq_level step_level r
