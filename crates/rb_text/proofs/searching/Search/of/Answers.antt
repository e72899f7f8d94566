use Rattle.rb_text.proofs.searching.Search.of.Goals as goal

pub invariant_of-result : goal.invariant_of-result
invariant_of-result c = (c.args.built.now, c.requires, c.in_ok-matcher.ensures.pattern)
