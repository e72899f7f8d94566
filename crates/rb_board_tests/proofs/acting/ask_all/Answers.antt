use Rattle.std.proofs.Common.{◌∙◌}
use Rattle.rb_board_tests.proofs.Passes.{itself, then_kept}
use Rattle.rb_board_tests.proofs.acting.ask_all.Goals as goal

pub loop-turn-init : goal.loop-turn-init
loop-turn-init g c = itself c.args.pass.now

pub ask-requires : goal.ask-requires
ask-requires g c = record { board = c.loop-turn.invariant.same.id ∙ c.requires.board }

pub loop-turn-preserved : goal.loop-turn-preserved
loop-turn-preserved g c =
    then_kept c.args.pass.now c.loop-turn.pass c.ask.new.pass c.loop-turn.invariant
    c.ask.ensures.kept
