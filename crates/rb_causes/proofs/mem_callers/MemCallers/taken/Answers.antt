use Rattle.std.proofs.Common.{◌≡◌, ◌∙◌, ◌<◌, ap, sym, arith, true, length, slice_get}
use Rattle.rb_causes.specs.Callers.{taken_by_each}
use Rattle.rb_causes.proofs.Serving.{waiting_took, nobody_took}
use Rattle.rb_causes.proofs.mem_callers.MemCallers.taken.Goals as goal
use Rattle.rb_causes.proofs.mem_callers.MemCallers.taken.Goals.{else-self-via-then-self+else-caller-self-2, else-self-via-else-self}

pub returns-then-caller-len : goal.returns-then-caller-len
returns-then-caller-len c =
    let inside = c.self.inside in
    let within : c.args.caller < length inside.all.items = omega (arith, c.len.ensures, inside.all.ok, c.if-caller-len.true) in
    let behind : inside.is_served ≡ true → inside.past < c.args.caller = elim c.else-self.branch [
      | else-self-via-then-self+else-caller-self-2 w ↦ λ served. omega (arith, c.if-caller-self.false, w.if-caller-self-2.false)
      | else-self-via-else-self w ↦ λ served. let never : ⊥ = cc in absurd never
    ] in
    sym (ap (λ told. slice_get (taken_by_each told) c.args.caller) (sym c.self.view_is)
    ∙ waiting_took inside.all.items inside.past c.args.caller inside.is_served inside.read inside.taken.items inside.failed
    c.if-caller-self.false behind within)

pub returns-else-caller-len : goal.returns-else-caller-len
returns-else-caller-len c =
    let inside = c.self.inside in
    sym (ap (λ told. slice_get (taken_by_each told) c.args.caller) (sym c.self.view_is)
    ∙ nobody_took inside.all.items inside.past c.args.caller inside.is_served inside.read inside.taken.items inside.failed
    c.self.invariant.0 (λ served. (c.self.invariant.1 served).0) (omega (arith, c.len.ensures, inside.all.ok, c.if-caller-len.false)))
