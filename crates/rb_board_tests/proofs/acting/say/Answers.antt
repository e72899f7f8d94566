use Rattle.rb_board.specs.History.{told_of_seen}
use Rattle.rb_board_tests.proofs.Passes.{acted_kept}
use Rattle.rb_board_tests.proofs.acting.say.Goals as goal

pub act-answer-requires-clause-may : goal.act-answer-requires-clause-may
act-answer-requires-clause-may g c =
    c.requires.open.may (told_of_seen c.args.pass.now.seen).rights

pub returns : goal.returns
returns g c = record {
  kept = acted_kept c.args.pass.now c.act-answer.new.pass c.args.call c.act-answer.result
      (λ rights. c.requires.open.keeps c.act-answer.result rights) c.act-answer.ensures.board
      c.act-answer.ensures.acted;
}
