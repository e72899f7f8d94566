use Rattle.std.proofs.Common.{◌≡◌, ◌<◌, length, get_or, ◌∙◌, rules, arith}
use Rattle.std.proofs.lemmas.Str.{IsCharBoundary-start}
use Rattle.rb_yaml.proofs.RowFacts.{spaces_step, cut_behind_space}
use Rattle.rb_yaml.proofs.rows.line_of.Goals as goal

pub loop-indent-init : goal.loop-indent-init
loop-indent-init c = record { within = omega arith; same = omega arith; cut = IsCharBoundary-start c.args.text.now c.utf8.text }

pub loop-indent-preserved : goal.loop-indent-preserved
loop-indent-preserved c =
    let l : c.loop-indent.indent < length c.args.text.now = search rules in
    let b : get_or c.args.text.now c.loop-indent.indent 0 ≡ 32 = search rules in
    record {
      within = omega arith;
      same = spaces_step c.args.text.now c.loop-indent.indent l b ∙ c.loop-indent.invariant.same;
      cut = cut_behind_space c.args.text.now c.loop-indent.indent c.utf8.text l b;
    }
