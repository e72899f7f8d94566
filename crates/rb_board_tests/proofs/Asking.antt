-- What anybody may ask.
use Rattle.std.proofs.Common.{◌≡◌, ◌&&◌, ℕ, ℤ, List, [], ◌∷◌, Bool, true, codes, ap, sym, subst, refl}
use Rattle.std.specs.List.{list_all}
use Rattle.rb_causes.specs.Moments.{IsMoment}
use Rattle.rb_acl.specs.declared.policy.Caller.{Caller}
use Rattle.rb_plan.specs.declared.world.RunAsk.{RunAsk}
use Rattle.rb_log.specs.Rows.{is_clean, is_clean_caller}
use Rattle.rb_log.specs.declared.call.Call.TheVariants as call
use Rattle.rb_log.specs.declared.call.Look.{Look}
use Rattle.rb_board_tests.specs.Kept.{IsOpenToAll}

pub clean : (c : Caller) → is_clean c.user ≡ true → c.groups ≡ codes "ops" ∷ []
    → is_clean_caller c ≡ true
clean c h g =
    subst (λ groups. (is_clean c.user && list_all is_clean groups) ≡ true) (sym g)
    (ap (λ b. b && true) h)

module _ (at : ℤ) (moment : IsMoment at) where
  pub zone : (name rule : List ℕ) → IsOpenToAll (call.ImportZone name rule at)
  zone name rule = record {
    may = λ rights. moment;
    keeps = λ a rights. record { workers = refl; doors = refl };
  }

  pub nodes : (project body : List ℕ) → IsOpenToAll (call.ImportNodes project body at)
  nodes project body = record {
    may = λ rights. moment;
    keeps = λ a rights. record { workers = refl; doors = refl };
  }

  pub tick : IsOpenToAll (call.Tick at)
  tick = record {
    may = λ rights. moment;
    keeps = λ a rights. record { workers = refl; doors = refl };
  }

  module _ (caller : Caller) (h : is_clean_caller caller ≡ true) where
    pub policy : (checked : Bool) (name body : List ℕ)
        → IsOpenToAll (call.ImportPolicy caller checked name body at)
    policy checked name body = record {
      may = λ rights. (moment, h);
      keeps = λ a rights. record { workers = refl; doors = refl };
    }

    pub jobs : (checked : Bool) (project body : List ℕ)
        → IsOpenToAll (call.ImportJobs caller checked project body at)
    jobs checked project body = record {
      may = λ rights. (moment, h);
      keeps = λ a rights. record { workers = refl; doors = refl };
    }

    pub run : (ask : RunAsk) → IsOpenToAll (call.Run caller ask at)
    run ask = record {
      may = λ rights. (moment, h);
      keeps = λ a rights. record { workers = refl; doors = refl };
    }

    pub abort : (execution : ℕ) → IsOpenToAll (call.Abort caller execution at)
    abort execution = record {
      may = λ rights. (moment, h);
      keeps = λ a rights. record { workers = refl; doors = refl };
    }

pub look : (caller : Caller) (l : Look) → is_clean_caller caller ≡ true
    → IsOpenToAll (call.Look caller l)
look caller l h = record {
  may = λ rights. h;
  keeps = λ a rights. record { workers = refl; doors = refl };
}

pub save : IsOpenToAll call.Save
save = record {
  may = λ rights. tt;
  keeps = λ a rights. record { workers = refl; doors = refl };
}
