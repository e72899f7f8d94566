use Rattle.std.proofs.Common.{◌≡◌, ◌∙◌, subst, sym, arith, rules}
use Rattle.rb_causes.proofs.Written.{rose_since}
use Rattle.rb_api.specs.declared.ended.Ended.TheVariants.{More}
use Rattle.rb_door.specs.Serving.{ServesCaller}
use Rattle.rb_door.proofs.Goings.{goes_on_then}
use Rattle.rb_door.proofs.serving.serve_caller.Goals as goal

pub loop-ended-preserved : goal.loop-ended-preserved
loop-ended-preserved g c =
    let before = c.loop-ended.invariant in
    let served = c.serve_request-ended.ensures.served in
    let is_more : c.loop-ended.ended ≡ More = search rules in
    record {
      more = λ e. c.loops_serve.ensures.goes_on _ _ _ _ served.0 (before.more is_more) served.1
          (sym served.2 ∙ e);
      last = λ e. subst (ServesCaller _ _ _ _) (sym served.2)
          (c.loops_serve.ensures.ends _ _ _ _ served.0 (before.more is_more) served.1
          (λ h. e (served.2 ∙ h)));
      goes = goes_on_then _ _ _ before.goes c.serve_request-ended.ensures.goes;
      later = omega (arith, before.later, c.serve_request-ended.ensures.later);
      cause = λ e. rose_since _ _ _ before.later (c.serve_request-ended.ensures.cause e);
    }
