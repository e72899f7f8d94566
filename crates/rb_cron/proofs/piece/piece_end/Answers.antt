use Rattle.std.proofs.Common.{◌∙◌, sym, arith, to_z, of_z, w64, w32}
use Rattle.jiff.proofs.SpanFacts.{signed_arith}
use Rattle.jiff.specs.Words.{plain_zone}
use Rattle.rb_cron.proofs.Stretches.{steady_with, steady_without, steady_in_utc}
use Rattle.rb_cron.proofs.piece.piece_end.Goals as goal

pub returns-in-Some-clause-steady : goal.returns-in-Some-clause-steady
returns-in-Some-clause-steady c =
    let a = c.end_between.ensures.after in
    let b = c.end_between.ensures.before in
    steady_with (plain_zone c.args.zone.now) c.in-Posix.rule c.in-Some.dst
    (to_z w64 (of_z w64 (to_z w32 (of_z w32 c.in-Posix.rule.std_offset.seconds)))) c.args.offset c.args.at _ _ _ _ c.end_between.result
    (sym c.to_plain.ensures ∙ c.in-Posix.is) c.in-Some.is
    (omega (arith, signed_arith, c.in-Posix.rule.std_offset.in_range)) (omega (arith, signed_arith, c.requires.offset)) (omega (arith, signed_arith, c.requires.at))
    (omega (arith, signed_arith, a, b, c.requires.at)) c.end_between.ensures.steady

pub returns-in-None-clause-steady : goal.returns-in-None-clause-steady
returns-in-None-clause-steady c = steady_without (plain_zone c.args.zone.now) c.in-Posix.rule c.args.offset c.args.at _ (sym c.to_plain.ensures ∙ c.in-Posix.is) c.in-None.is

pub returns-in-UTC-clause-steady : goal.returns-in-UTC-clause-steady
returns-in-UTC-clause-steady c = steady_in_utc (plain_zone c.args.zone.now) c.args.offset c.args.at _ (sym c.to_plain.ensures ∙ c.in-UTC.is)
