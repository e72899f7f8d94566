use Rattle.std.proofs.Common.{◌≡◌, ◌∙◌, ap, is_some, subst, sym, true}
use Rattle.rb_chain.specs.Chains.{ask_at}
use Rattle.rb_chain.specs.Nexts.{ChainState, is_ask, next_of}
use Rattle.rb_chain.proofs.Asks.{next_there}
use Rattle.rb_chain.proofs.chain.Chain.ask.Goals as goal

pub ask_at-requires : goal.ask_at-requires
ask_at-requires c =
    let chain = c.self.inside in
    subst (λ runs. is_some (ask_at runs chain.next) ≡ true) (sym c.as_slice.ensures.value)
    (next_there chain.runs.items chain.outcomes.items chain.next c.self.invariant.known
    (ap (λ (s : ChainState). is_ask (next_of s.runs s.outcomes)) c.self.view_is ∙ c.requires))
