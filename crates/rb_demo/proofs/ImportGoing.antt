-- The demo goes on behind its imports.
use Rattle.std.proofs.Common.{◌≡◌, ◌≤◌, ◌∙◌, ℕ, [], sym, subst, arith}
use Rattle.rb_log.specs.Legal.{IsLegalLog}
use Rattle.rb_log.specs.Told.{Told}
use Rattle.rb_log.proofs.Numbers.{below_length}
use Rattle.rb_demo.specs.Going.{IsDemoDesk, IsGoing}
use Rattle.rb_demo.specs.Rounds.{HasImportedAll, setting_of}
use Rattle.rb_demo.specs.Settings.{IsSetting, WorldIsDemo, jobs_log}
use Rattle.rb_demo.proofs.Chain.{nodes_bytes}
use Rattle.rb_demo.proofs.ImportedAll.{is_setting}

imported_going : WorldIsDemo → (n : ℕ) → IsSetting (setting_of n)
    → IsLegalLog (jobs_log (setting_of n)) → IsGoing n 0 (jobs_log (setting_of n))
imported_going law n h legal = record {
  legal = legal;
  opened = omega arith;
  running = [];
  world = law (setting_of n) h;
  rows = omega (arith, below_length 1);
  bytes = omega (arith, nodes_bytes (setting_of n) h, h.short);
}

pub imported_goes : WorldIsDemo → (n : ℕ) → 1 ≤ n → n ≤ 1000 → (old new : Told)
    → HasImportedAll (setting_of n) old new → old.room ≡ 1000000 → IsDemoDesk 0 new
imported_goes law n some few old new h room = record {
  nodes = n;
  least = some;
  few = few;
  accepted = 0;
  within = omega arith;
  going = subst (IsGoing n 0) (sym h.jobs.log)
      (imported_going law n (is_setting n some few) (subst IsLegalLog h.jobs.log h.jobs.acts.legal));
  room = h.jobs.acts.room ∙ h.policies.acts.room ∙ h.nodes.acts.room ∙ room;
}
