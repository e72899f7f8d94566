-- The slots of an inlined job: as many as commands, and numbered in their order.
use Rattle.std.proofs.Common.{arith, ◌≡◌, ℕ, ◌+◌, true, length, ◌++◌, Option, Some, None, option_map, nat_eq, refl, ap}
use Rattle.std.proofs.lemmas.Bool.Decides.{nat_tests}
use Rattle.std.proofs.lemmas.List.{length-append}
use Rattle.rb_job.specs.declared.job.JobAct.{JobAct}
use Rattle.rb_marks.specs.View.{branches_of}
use Rattle.rb_marks.specs.Sound.{number_handler, number_act, then_number}
use Rattle.rb_marks.specs.Sound as sound
use Rattle.rb_plan.specs.Inlined.{Site, site_below, commands, act_commands, handler_commands, slots, act_slots, handler_slots, numbered, numbered_act}
use Rattle.rb_plan.specs.Resolved.{ResolvedAct, own, referred, unresolved, ResolvedSteps, no_step, step}

same_number : (n : ℕ) → nat_eq n n ≡ true
same_number n = grind (arith, nat_tests)

-- a handler has the number behind those of its act
handler_at : (n a : ℕ) (handler : Option JobAct) → number_handler (option_map (λ h. n + a) handler) (n + a) ≡ Some (n + (a + handler_slots handler))
handler_at n a None = ap Some (omega arith)
handler_at n a (Some act) = rw (same_number (n + a)) (ap Some (omega arith))

mutual
  act_numbered : (n : ℕ) (act : ResolvedAct) → number_act (numbered_act n act) n ≡ Some (n + act_slots act)
  act_numbered n (own act) = rw (same_number n) refl
  act_numbered n (referred path args held steps) = steps_numbered n steps
  act_numbered n (unresolved path cause) = ap Some (omega arith)

  pub steps_numbered : (n : ℕ) (steps : ResolvedSteps) → sound.numbered (branches_of (numbered n steps)) n ≡ Some (n + slots steps)
  steps_numbered n no_step = ap Some (omega arith)
  steps_numbered n (step act handler keep steps) = rw (act_numbered n act, handler_at n (act_slots act) handler, steps_numbered (n + (act_slots act + handler_slots handler)) steps) (ap Some (omega arith))

pub handler_commands_many : (site : Site) (handler : Option JobAct) → length (handler_commands site handler) ≡ handler_slots handler
handler_commands_many site None = refl
handler_commands_many site (Some act) = refl

mutual
  pub act_commands_many : (site : Site) (act : ResolvedAct) → length (act_commands site act) ≡ act_slots act
  act_commands_many site (own act) = refl
  act_commands_many site (referred path args held steps) = commands_many (site_below site args held) steps
  act_commands_many site (unresolved path cause) = refl

  -- one command for each slot
  pub commands_many : (site : Site) (steps : ResolvedSteps) → length (commands site steps) ≡ slots steps
  commands_many site no_step = refl
  commands_many site (step act handler keep steps) =
      rw (
        length-append (act_commands site act) (handler_commands site handler ++ commands site steps),
        length-append (handler_commands site handler) (commands site steps),
        act_commands_many site act,
        handler_commands_many site handler,
        commands_many site steps,
      ) refl
