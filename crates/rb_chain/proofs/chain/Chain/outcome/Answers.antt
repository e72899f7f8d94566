use Rattle.std.proofs.Common.{◌∙◌, ap, arith, subst, sym}
use Rattle.rb_chain.specs.Following.{IsWithin, next_behind}
use Rattle.rb_chain.specs.Laws.{AreOutcomes}
use Rattle.rb_chain.specs.Nexts.{ChainState, is_ask, next_of}
use Rattle.rb_chain.proofs.Asks.{has_room, one_outcome_more}
use Rattle.rb_chain.proofs.Steps.{next_step, next_within}
use Rattle.rb_chain.proofs.chain.Chain.outcome.Goals as goal

pub next_behind-self-inside-requires-clause-within :
    goal.next_behind-self-inside-requires-clause-within
next_behind-self-inside-requires-clause-within c =
    let chain = c.self.inside in
    subst (λ runs. IsWithin runs chain.next) (sym c.as_slice.ensures.value)
    (next_within chain.runs.items chain.outcomes.items chain.next c.self.invariant.known)

pub unreachable-requires : goal.unreachable-requires
unreachable-requires c =
    let chain = c.self.inside in
    let room = has_room chain.runs.items chain.outcomes.items c.self.invariant.asked
    (ap (λ (s : ChainState). is_ask (next_of s.runs s.outcomes)) c.self.view_is ∙ c.requires) in
    omega (arith, room, c.self.invariant.enough, c.in-Err.ensures.full, chain.outcomes.ok.0)

pub invariant_of-self : goal.invariant_of-self
invariant_of-self c =
    let chain = c.self.inside in
    let runs = chain.runs.items in
    let asked = ap (λ (s : ChainState). is_ask (next_of s.runs s.outcomes)) c.self.view_is
    ∙ c.requires in
    record {
      few = c.self.invariant.few;
      asked = subst (AreOutcomes runs) (sym c.in-Ok.ensures.items)
          (one_outcome_more runs chain.outcomes.items c.args.good c.self.invariant.asked asked);
      known = c.next_behind-self-inside.ensures
          ∙ ap (λ rs. next_behind rs chain.next c.args.good) c.as_slice.ensures.value
          ∙ next_step runs chain.outcomes.items chain.next c.args.good c.self.invariant.known asked
          ∙ ap (next_of runs) (sym c.in-Ok.ensures.items);
      enough = omega (arith, c.self.invariant.enough, c.in-Ok.ensures.capacity);
    }
