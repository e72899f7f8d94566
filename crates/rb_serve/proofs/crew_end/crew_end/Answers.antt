use Rattle.std.proofs.Common.{rules, tests}
use Rattle.std.proofs.lemmas.Iterator.{YieldsList-from_slice}
use Rattle.std.proofs.lemmas.Iterator.Search.{any_from_yields_List}
use Rattle.rb_serve.specs.Roles.{is_failed, is_store_fault, is_wanting}
use Rattle.rb_serve.proofs.crew_end.crew_end.Goals as goal

pub returns-clause-line : goal.returns-clause-line
returns-clause-line g c =
    any_from_yields_List (λ r. is_failed r.post) _ _ _ c.any.ensures.ran
    (YieldsList-from_slice c.args.roles.now cc) (λ x b q k. search (rules, tests))

pub returns-clause-store : goal.returns-clause-store
returns-clause-store g c =
    any_from_yields_List (λ r. is_store_fault r.post) _ _ _ c.any-2.ensures.ran
    (YieldsList-from_slice c.args.roles.now cc) (λ x b q k. search (rules, tests))

pub returns-clause-wanting : goal.returns-clause-wanting
returns-clause-wanting g c =
    any_from_yields_List (λ r. is_wanting r.post) _ _ _ c.any-3.ensures.ran
    (YieldsList-from_slice c.args.roles.now cc) (λ x b q k. search (rules, tests))
