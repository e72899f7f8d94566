use Rattle.std.proofs.Common.{◌≡◌, ◌<◌, true, length, get_or, ◌∙◌, refl, rules, arith}
use Rattle.std.proofs.lemmas.Str.{IsCharBoundary-start}
use Rattle.rb_causes.specs.Texts.{is_blank}
use Rattle.rb_yaml.proofs.Texts.{past_step, cut_behind_blank}
use Rattle.rb_yaml.proofs.signs.past_blanks.Goals as goal

pub loop-at-init : goal.loop-at-init
loop-at-init c = record { within = omega arith; same = refl; cut = IsCharBoundary-start c.args.text.now c.utf8.text }

pub loop-at-preserved : goal.loop-at-preserved
loop-at-preserved c =
    let l : c.loop-at.at < length c.args.text.now = search rules in
    let b : is_blank (get_or c.args.text.now c.loop-at.at 0) ≡ true = search rules in
    record {
      within = omega arith;
      same = past_step c.args.text.now c.loop-at.at l b ∙ c.loop-at.invariant.same;
      cut = cut_behind_blank c.args.text.now c.loop-at.at c.utf8.text l b;
    }
