use Rattle.rb_causes.proofs.Reading.{goes_on_at}
use Rattle.rb_causes.specs.Words.{words_in}
use Rattle.rb_causes.proofs.splitting.split_chars.Goals as goal

pub loop-c-preserved : goal.loop-c-preserved
loop-c-preserved c = record {
  clear = c.in_ok-take.ensures.clear;
  gives = goes_on_at c.loop-c.reader.words.items c.take.new.self.words.items c.loop-c.reader.word.items c.take.new.self.word.items
      c.loop-c.reader.place c.take.new.self.place c.args.chars.now c.loop-c.c-index c.c-item.result (words_in c.args.chars.now)
      c.loop-c-test.true c.c-item.is c.in_ok-take.ensures.words c.in_ok-take.ensures.word c.in_ok-take.ensures.place c.loop-c.invariant.gives;
}
