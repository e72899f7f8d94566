use Rattle.std.proofs.Common.{map}
use Rattle.rb_cron.proofs.Parts.{word_kept}
use Rattle.rb_cron.proofs.crontab.words.Goals as goal

pub loop-part-preserved : goal.loop-part-preserved
loop-part-preserved c =
    word_kept c.deref-part-items.result.now c.loop-part.part-index _ (map (λ w. w.now) c.loop-part.words.items) (map (λ w. w.now) c.keep_word.new.words.items) _
    c.loop-part-test.true c.in_ok-keep_word.ensures c.loop-part.invariant
