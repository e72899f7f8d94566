use Rattle.rb_yaml.proofs.Texts.{colon_at_more}
use Rattle.rb_yaml.proofs.signs.colon_at.Goals as goal

pub loop-at-preserved : goal.loop-at-preserved
loop-at-preserved c =
    colon_at_more c.loop-at.blank c.args.text.now c.loop-at.at c.begins_comment.result c.begins_sign.result c.is_blank-blank.result
    c.loop-at-test.true c.begins_comment.ensures c.if-begins_comment.false c.begins_sign.ensures c.if-begins_sign.false c.is_blank-blank.ensures
    c.loop-at.invariant
