use Rattle.std.proofs.Common.{inl, inr, refl}
use Rattle.rb_door.proofs.Goings.{goes_on_refl}
use Rattle.rb_serve.proofs.doors.serve_line.Goals as goal

pub returns-in-Ok-clause-served : goal.returns-in-Ok-clause-served
returns-in-Ok-clause-served g c = inl c.serve_callers.ensures.served

pub returns-in-Err-clause-served : goal.returns-in-Err-clause-served
returns-in-Err-clause-served g c = inr (record { clerk = refl; callers = refl; told = refl })

pub returns-in-Err-clause-goes : goal.returns-in-Err-clause-goes
returns-in-Err-clause-goes g c = goes_on_refl (g.C.Clerk.told c.args.clerk.now)
