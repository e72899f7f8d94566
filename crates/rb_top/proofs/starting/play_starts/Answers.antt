use Rattle.std.proofs.Common.{◌*◌, Ok, ap, ◌∙◌, length, refl}
use Rattle.rb_top.specs.Drill.{executed}
use Rattle.rb_top.proofs.PlayedLemmas.{plays_handed}
use Rattle.rb_top.proofs.Turns.{more_turns, no_more_turns, cut_turn, all_turns, first_turn}
use Rattle.rb_top.proofs.starting.play_starts.Goals as goal

pub loop-turn-init : goal.loop-turn-init
loop-turn-init g c = record {
  plan = refl;
  played = λ user. first_turn user c.args.nodes.now c.args.job.now (length c.args.nodes.now * length c.args.job.now.steps) c.args.flow.now.marks _ _;
}

pub returns-in_err-play_one-clause-plays : goal.returns-in_err-play_one-clause-plays
returns-in_err-play_one-clause-plays g c user =
    let leaves = length c.args.nodes.now * length c.args.job.now.steps in
    plays_handed c.from_residual.result c.in_err-play_one.field-0.0 c.from_residual.ensures.1 _ _ _ _ _ _
    (cut_turn user c.args.nodes.now c.args.job.now leaves c.loop-turn._turn c.loop-turn.flow.marks (executed leaves user c.args.nodes.now c.args.job.now c.args.flow.now.marks)
    c.in_err-play_one.field-0.0 (rw (← c.len.ensures) c.loop-turn-test.true) (c.loop-turn.invariant.played user) (c.in_err-play_one.ensures.err user))

pub returns-then-not-branch-clause-plays : goal.returns-then-not-branch-clause-plays
returns-then-not-branch-clause-plays g c user =
    let leaves = length c.args.nodes.now * length c.args.job.now.steps in
    no_more_turns user c.args.nodes.now c.args.job.now leaves c.loop-turn._turn c.loop-turn.flow.marks (executed leaves user c.args.nodes.now c.args.job.now c.args.flow.now.marks)
    _ (c.loop-turn.invariant.played user) (λ fuel. c.in_ok-play_one.ensures.none user fuel (ap Ok c.if-not-branch.true))

pub loop-turn-preserved : goal.loop-turn-preserved
loop-turn-preserved g c =
    let leaves = length c.args.nodes.now * length c.args.job.now.steps in
    record {
      plan = c.in_ok-play_one.ensures.plan ∙ c.loop-turn.invariant.plan;
      played = λ user. more_turns user c.args.nodes.now c.args.job.now leaves c.loop-turn._turn c.loop-turn.flow.marks (executed leaves user c.args.nodes.now c.args.job.now c.args.flow.now.marks)
          _ (rw (← c.len.ensures) c.loop-turn-test.true) (c.loop-turn.invariant.played user) (λ fuel. c.in_ok-play_one.ensures.more user fuel (ap Ok c.if-not-branch.false));
    }

pub returns-clause-plays : goal.returns-clause-plays
returns-clause-plays g c user =
    let leaves = length c.args.nodes.now * length c.args.job.now.steps in
    all_turns user c.args.nodes.now c.args.job.now leaves c.loop-turn._turn c.loop-turn.flow.marks (executed leaves user c.args.nodes.now c.args.job.now c.args.flow.now.marks)
    (rw (← c.len.ensures) c.loop-turn-test.false) (c.loop-turn.invariant.played user)
