use Rattle.std.proofs.Common.{◌∙◌, ap, refl, length, filter, Some}
use Rattle.rb_log.specs.Rows.{is_accept, is_begin}
use Rattle.rb_desk.specs.Steps.{told_of}
use Rattle.rb_demo.proofs.Alone.{all_own, is_played}
use Rattle.rb_demo.proofs.Counted.{accepts_counted}
use Rattle.rb_demo.proofs.playing.counted.Goals as goal

pub run_all-requires-clause-alone : goal.run_all-requires-clause-alone
run_all-requires-clause-alone c =
    record { faults = λ s. refl; own = λ s. all_own s.desk.now.log; rights = λ s. refl }

pub succeeded-succeeded-requires : goal.succeeded-succeeded-requires
succeeded-succeeded-requires c =
    c.count_of-accepted.ensures ∙ ap (λ log. length (filter is_accept log)) c.log.ensures.rows
    ∙ accepts_counted c.accepts_begin.ensures c.run_all.new.clerk.desk.now.log
    c.in_ok-denied.ensures.1.legal

pub returns : goal.returns
returns c =
    is_played c.args.nodes (told_of (λ k. 0) c.args.clerk.now.desk.now)
    (Some c.new-spawner.result.runs.items)
    (record {
      clerk = told_of (λ k. 0) c.run_all.new.clerk.desk.now;
      spawner = record { runs = Some c.run_all.new.spawner.runs.items; faults = 0 };
    })
    c.in_ok-denied.ensures.0 c.requires.opened c.new-spawner.ensures c.in_ok-denied.ensures.1
    c.run_all.new.spawner.zero
    (record {
      nodes = c.from.result;
      allowed = c.allowed.result;
      accepted = c.count_of-accepted.result;
      denied = c.in_ok-denied.denied;
      begins = c.count_of-begins.result;
      succeeded = c.succeeded-succeeded.result;
    })
    c.from.ensures c.allowed.ensures
    (c.count_of-accepted.ensures ∙ ap (λ log. length (filter is_accept log)) c.log.ensures.rows)
    c.in_ok-denied.ensures.2
    (c.count_of-begins.ensures ∙ ap (λ log. length (filter is_begin log)) c.log-2.ensures.rows)
    c.succeeded-succeeded.ensures
