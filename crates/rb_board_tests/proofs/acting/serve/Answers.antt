use Rattle.std.proofs.Common.{◌∙◌}
use Rattle.rb_board_tests.proofs.Passes.{closes_still, then_same}
use Rattle.rb_board_tests.proofs.acting.serve.Goals as goal

pub close-requires-clause-board : goal.close-requires-clause-board
close-requires-clause-board g c = c.ask_all.ensures.kept.same.id ∙ c.requires.board

pub close-requires-clause-door : goal.close-requires-clause-door
close-requires-clause-door g c =
    closes_still c.args.pass.now c.ask_all.new.pass c.args.turns.0 c.ask_all.ensures.kept
    c.requires.door

pub returns : goal.returns
returns g c = record {
  same = then_same c.args.pass.now c.ask_all.new.pass c.close.new.pass
      c.ask_all.ensures.kept.same c.close.ensures.same;
}
