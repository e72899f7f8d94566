-- Passes over their turns.
use Rattle.std.proofs.Common.{◌≡◌, ◌∙◌, ◌-◌, ℕ, ℤ, pos, Contains, ap, sym, subst, refl}
use Rattle.std.proofs.lemmas.List.Elements.{Contains-push}
use Rattle.rb_causes.specs.Moments.{IsMoment}
use Rattle.rb_log.specs.Legal.{Rights}
use Rattle.rb_log.specs.Tasks.{TaskValue}
use Rattle.rb_log.specs.Told.{rights_after}
use Rattle.rb_log.specs.declared.answer.Answer.{Answer}
use Rattle.rb_log.specs.declared.answer.Answer.TheVariants as answer
use Rattle.rb_log.specs.declared.call.Call.{Call}
use Rattle.rb_log.specs.declared.call.Call.TheVariants as call
use Rattle.rb_board.specs.Boards.{HasActed, PassValue}
use Rattle.rb_board.specs.History.{told_of_seen}
use Rattle.rb_board.specs.declared.view.Seen.{Seen}
use Rattle.rb_board_tests.specs.Kept.{HasKept, IsKept, IsSame, MayClose, MayPlay, MayWork, RoleValue}

-- ---- turns

pub moment : IsMoment (pos 1700000000)
moment = (record { le = tt }, record { le = tt })

pub then_same : (a b c : PassValue) → IsSame a b → IsSame b c → IsSame a c
then_same a b c h k = record { id = k.id ∙ h.id; number = k.number ∙ h.number }

pub then_kept : (a b c : PassValue) → IsKept a b → IsKept b c → IsKept a c
then_kept a b c h k = record {
  same = then_same a b c h.same k.same;
  rights = record {
    workers = k.rights.workers ∙ h.rights.workers;
    doors = k.rights.doors ∙ h.rights.doors;
  };
}

pub itself : (a : PassValue) → IsKept a a
itself a = record {
  same = record { id = refl; number = refl };
  rights = record { workers = refl; doors = refl };
}

pub acted_same : (old new : PassValue) (c : Call) (a : Answer) → new.id ≡ old.id
    → HasActed old.seen new.seen c a → IsSame old new
acted_same old new c a id h = record { id = id; number = h.number }

pub acted_kept : (old new : PassValue) (c : Call) (a : Answer)
    → ((rights : Rights) → HasKept rights (rights_after c a rights)) → new.id ≡ old.id
    → HasActed old.seen new.seen c a → IsKept old new
acted_kept old new c a keeps id h =
    let k = keeps (told_of_seen old.seen).rights in
    record {
      same = record { id = id; number = h.number };
      rights = record {
        workers = ap (λ (r : Rights). r.workers) h.acts.rights ∙ k.workers;
        doors = ap (λ (r : Rights). r.doors) h.acts.rights ∙ k.doors;
      };
    }

pub claim_keeps : (worker : ℕ) (at : ℤ) (a : Answer) (rights : Rights)
    → HasKept rights (rights_after (call.Claim worker at) a rights)
claim_keeps worker at a rights = record { workers = refl; doors = refl }

pub works_still : (old new : PassValue) (worker : ℕ) → IsKept old new → MayWork old worker
    → MayWork new worker
works_still old new worker h may =
    subst (λ workers. Contains workers worker) (sym h.rights.workers) may

pub closes_still : (old new : PassValue) (door : ℕ) → IsKept old new → MayClose old door
    → MayClose new door
closes_still old new door h may =
    subst (λ doors. Contains doors door) (sym h.rights.doors) may

-- the leaf of a task may be reported
pub task_leaf : (old new : Seen) (worker : ℕ) (at : ℤ) (t : TaskValue)
    → HasActed old new (call.Claim worker at) (answer.Task t)
    → Contains (told_of_seen new).rights.leaves t.claimed
task_leaf old new worker at t h =
    subst (λ (r : Rights). Contains r.leaves t.claimed) (sym h.acts.rights)
    (Contains-push (told_of_seen old).rights.leaves t.claimed)

pub plays_still : (old new : RoleValue) → IsKept old.pass new.pass → new.place ≡ old.place
    → new.doors ≡ old.doors → MayPlay old → MayPlay new
plays_still old new h place doors may =
    subst (λ (y : ℕ × ℕ). MayPlay (record { pass = new.pass; place = y.0; doors = y.1 }))
    (λ i. (sym place i, sym doors i))
    (record {
      door = λ lt. closes_still old.pass new.pass old.place h (may.door lt);
      worker = λ le. works_still old.pass new.pass (old.place - old.doors) h (may.worker le);
    })
