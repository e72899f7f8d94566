use Rattle.std.proofs.Common.{◌≡◌, ◌∙◌, All, length, reverse, ap, arith, subst, sym}
use Rattle.std.proofs.lemmas.List.{length-reverse}
use Rattle.rb_serve.specs.Roles.{AllPlayed, CanPlay, IsOf, senses_of}
use Rattle.rb_serve.proofs.Roles.{all_turned, played_length, played_turned, refilled}
use Rattle.rb_serve.proofs.performing.play_crew.Goals as goal

pub play_all-requires-clause-boards : goal.play_all-requires-clause-boards
play_all-requires-clause-boards g c κs within =
    subst (All (IsOf c.args.board.now.id))
    (sym (c.reverse.ensures.after ∙ ap reverse c.as_mut_slice-parts.ensures.value))
    (all_turned (IsOf c.args.board.now.id) c.args.roles.now.items c.requires.boards)

pub play_all-requires-clause-parts : goal.play_all-requires-clause-parts
play_all-requires-clause-parts g c κs within =
    subst (All CanPlay)
    (sym (c.reverse.ensures.after ∙ ap reverse c.as_mut_slice-parts.ensures.value))
    (all_turned CanPlay c.args.roles.now.items c.requires.parts)

pub returns : goal.returns
returns g c =
    let senses = senses_of (g.T.Clock.may_be c.args.clock.now) c.args.tokens.now
    g.L.Line.callers g.L.Line.faults g.S.Spawner.shown in
    let olds = c.args.roles.now.items in
    let news = c.play_all.new.roles in
    let back = c.reverse-2.new.self in
    let played = subst (λ rs. AllPlayed senses rs news)
    (c.reverse.ensures.after ∙ ap reverse c.as_mut_slice-parts.ensures.value)
    c.play_all.ensures in
    let same : length olds ≡ length back = omega (
      arith,
      played_length senses (reverse olds) news played,
      length-reverse olds,
      c.reverse-2.ensures.len,
    ) in
    subst (AllPlayed senses olds)
    (sym (refilled c.args.roles.now.len back olds
    (omega (arith, same, c.args.roles.now.ok.0, c.args.roles.now.ok.1)) same
    ∙ c.reverse-2.ensures.after))
    (played_turned senses olds news played)
