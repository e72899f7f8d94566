-- A desk that one clerk has for itself, behind its opening.
use Rattle.std.proofs.Common.{◌≡◌, ◌∙◌, ◌+◌, ℕ, List, [], length, map, filter, reverse, Option, Some, IfSome, IsTrue, subst}
use Rattle.std.specs.List.{list_all}
use Rattle.std.proofs.lemmas.List.{length-map}
use Rattle.rb_causes.specs.declared.row.Row.{Row}
use Rattle.rb_causes.specs.declared.spawner.SpawnRun.{SpawnRun}
use Rattle.rb_log.specs.Rows.{is_accept, is_begin}
use Rattle.rb_log.specs.Sums.{numbers_below}
use Rattle.rb_log.specs.Told.{Told}
use Rattle.rb_work.specs.Works.{Outside}
use Rattle.rb_demo.specs.declared.counts.Counts.{Counts}
use Rattle.rb_demo.specs.Counting.{IsPlayed, allowed_in, ends_with_zero, succeeded_in}
use Rattle.rb_demo.specs.Rounds.{HasPlayed, Round, opened_told, refused_in, setting_of}
use Rattle.rb_demo.specs.Settings.{jobs_log}
use Rattle.rb_log.specs.LogState.{log_state, world_of}
use Rattle.rb_log.proofs.Numbers.{below_length}

-- all its rows are its own
pub all_own : (log : List Row) → length (map (λ n. n + 1) (numbers_below (length log))) ≡ length log
all_own log = length-map (numbers_below (length log)) (λ n. n + 1) ∙ below_length (length log)

-- ---- what was counted

module _ (n : ℕ) (old : Told) (runs : Option (List SpawnRun)) (new : Outside) (rounds : List Round)
    (is : old ≡ opened_told) (none : runs ≡ Some [])
    (h : HasPlayed n (record { clerk = old; spawner = record { runs = runs; faults = 0 } }) new
    rounds)
    (endings : IfSome new.spawner.runs (λ runs. IsTrue (list_all ends_with_zero runs))) where
  pub is_played : (counts : Counts) → counts.nodes ≡ n
      → counts.allowed ≡ allowed_in (world_of (log_state (jobs_log (setting_of n))))
      → counts.accepted ≡ length (filter is_accept new.clerk.log)
      → counts.denied ≡ refused_in rounds
      → counts.begins ≡ length (filter is_begin new.clerk.log)
      → counts.succeeded ≡ succeeded_in (reverse new.clerk.log) → IsPlayed n counts
  is_played counts nodes allowed accepted denied begins succeeded = record {
    ended = new;
    rounds = rounds;
    played = subst (λ (t : Told). HasPlayed n (record {
      clerk = t;
      spawner = record { runs = Some []; faults = 0 };
    }) new rounds) is
        (subst (λ r. HasPlayed n (record {
          clerk = old;
          spawner = record { runs = r; faults = 0 };
        }) new rounds) none h);
    endings = endings;
    counts = record {
      nodes = nodes;
      allowed = allowed;
      accepted = accepted;
      denied = denied;
      begins = begins;
      succeeded = succeeded;
    };
  }
