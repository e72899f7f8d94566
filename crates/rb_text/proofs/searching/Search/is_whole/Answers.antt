use Rattle.std.proofs.Common.{◌∙◌}
use Rattle.rb_text.proofs.Meaning.{searched_of}
use Rattle.rb_text.proofs.searching.Search.is_whole.Goals as goal

pub invariant_of-self : goal.invariant_of-self
invariant_of-self c =
    let i = c.self.invariant in (i.0, i.1, c.is_match.ensures.same ∙ i.2)

pub returns-clause-found : goal.returns-clause-found
returns-clause-found c = rw (c.is_match.ensures.found, ← c.self.view_is)
    (searched_of c.self.inside.text.now c.self.inside.matcher c.self.invariant c.args.s.now (λ k. (c.type_inv.s k).fits))
