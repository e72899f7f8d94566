use Rattle.std.proofs.Common.{◌∙◌, ap}
use Rattle.rb_causes.specs.Callers.{Callers, after_serving}
use Rattle.rb_causes.proofs.Serving.{serves_many}
use Rattle.rb_causes.proofs.mem_callers.MemCallers.serve.Goals as goal

pub returns-clause-new : goal.returns-clause-new
returns-clause-new c =
    let inside = c.self.inside in
    serves_many c.len.result inside.all.items inside.past inside.is_served inside.read inside.taken.items inside.failed
    (c.len.ensures ∙ inside.all.ok.0)
    (λ served. (c.self.invariant.1 served).0) c.self.invariant.2 (ap (λ (callers : Callers). callers.now) c.self.view_is ∙ c.requires)
    ∙ ap after_serving c.self.view_is
