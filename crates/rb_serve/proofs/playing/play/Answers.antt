use Rattle.std.proofs.Common.{◌∙◌, Some, refl, sym}
use Rattle.rb_serve.specs.Roles.{senses_of}
use Rattle.rb_serve.proofs.Played.{played}
use Rattle.rb_serve.proofs.playing.play.Goals as goal

pub returns-in-Some : goal.returns-in-Some
returns-in-Some g c =
    let senses = senses_of (g.T.Clock.may_be c.args.clock.now) c.args.tokens.now
    g.L.Line.callers g.L.Line.faults g.S.Spawner.shown in
    played c.args.role.now c.in-Some.pass (sym c.take.ensures.value ∙ c.in-Some.is) senses
    (record { pass = Some c.into_pass.result; post = c.fill.new.post }) c.new-hand.result
    c.fill.new.clerk c.into_pass.result c.new-hand.ensures c.fill.ensures.who
    c.fill.ensures.clerk c.into_pass.ensures refl c.fill.ensures.taken
