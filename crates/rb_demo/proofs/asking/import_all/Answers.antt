use Rattle.std.proofs.Common.{◌∷◌, reverse}
use Rattle.rb_log.specs.Told.{Told}
use Rattle.rb_demo.specs.Settings.{Setting, opened_log, nodes_log, policy_log, nodes_added, policy_added, jobs_added, nodes_call, policy_call, jobs_call}
use Rattle.rb_demo.specs.Asking.{IsOn}
use Rattle.rb_demo.specs.Rounds.{setting_of, HasImported}
use Rattle.rb_demo.proofs.ImportedAll.{nodes_imported, policies_imported, jobs_imported, import_done, on_behind}
use Rattle.rb_demo.proofs.asking.import_all.Goals as goal

pub import-requires-clause-imports : goal.import-requires-clause-imports
import-requires-clause-imports g c = (
  nodes_added (setting_of c.args.nodes),
  nodes_imported c.demo_is_imported.ensures c.args.nodes c.requires.few.0 c.requires.few.1
      (g.C.Clerk.told c.args.clerk.now) c.in_ok-nodes_call.nodes_call c.requires.log
      c.in_ok-nodes_call.ensures,
)

pub import-requires-2-clause-imports : goal.import-requires-2-clause-imports
import-requires-2-clause-imports g c =
    let d : Setting = setting_of c.args.nodes in
    let old : Told = g.C.Clerk.told c.args.clerk.now in
    let mid : Told = g.C.Clerk.told c.import.new.clerk in
    let nodes : HasImported old mid c.in_ok-nodes_call.nodes_call
    (nodes_added d ∷ reverse old.log) = c.in_ok-import.ensures (nodes_added d)
    (nodes_imported c.demo_is_imported.ensures c.args.nodes c.requires.few.0 c.requires.few.1 old
    c.in_ok-nodes_call.nodes_call c.requires.log c.in_ok-nodes_call.ensures) in
    let on : IsOn d (nodes_log d) mid = on_behind d (opened_log d) old mid
    c.in_ok-nodes_call.nodes_call (nodes_added d) c.requires.log nodes in (
      policy_added d,
      policies_imported c.demo_is_imported.ensures c.args.nodes c.requires.few.0 c.requires.few.1
          mid c.in_ok-policy_call.policy_call on c.in_ok-policy_call.ensures,
    )

pub import-requires-3-clause-imports : goal.import-requires-3-clause-imports
import-requires-3-clause-imports g c =
    let d : Setting = setting_of c.args.nodes in
    let old : Told = g.C.Clerk.told c.args.clerk.now in
    let mid : Told = g.C.Clerk.told c.import.new.clerk in
    let next : Told = g.C.Clerk.told c.import-2.new.clerk in
    let nodes : HasImported old mid c.in_ok-nodes_call.nodes_call
    (nodes_added d ∷ reverse old.log) = c.in_ok-import.ensures (nodes_added d)
    (nodes_imported c.demo_is_imported.ensures c.args.nodes c.requires.few.0 c.requires.few.1 old
    c.in_ok-nodes_call.nodes_call c.requires.log c.in_ok-nodes_call.ensures) in
    let on : IsOn d (nodes_log d) mid = on_behind d (opened_log d) old mid
    c.in_ok-nodes_call.nodes_call (nodes_added d) c.requires.log nodes in
    let policies : HasImported mid next c.in_ok-policy_call.policy_call
    (policy_added d ∷ reverse mid.log) = c.in_ok-import-2.ensures (policy_added d)
    (policies_imported c.demo_is_imported.ensures c.args.nodes c.requires.few.0 c.requires.few.1
    mid c.in_ok-policy_call.policy_call on c.in_ok-policy_call.ensures) in
    let on' : IsOn d (policy_log d) next = on_behind d (nodes_log d) mid next
    c.in_ok-policy_call.policy_call (policy_added d) on policies in (
      jobs_added d,
      jobs_imported c.demo_is_imported.ensures c.args.nodes c.requires.few.0 c.requires.few.1 next
          c.in_ok-jobs_call.jobs_call on' c.in_ok-jobs_call.ensures,
    )

pub returns : goal.returns
returns g c =
    let d : Setting = setting_of c.args.nodes in
    let old : Told = g.C.Clerk.told c.args.clerk.now in
    let mid : Told = g.C.Clerk.told c.import.new.clerk in
    let next : Told = g.C.Clerk.told c.import-2.new.clerk in
    let new : Told = g.C.Clerk.told c.import-3.new.clerk in
    let nodes : HasImported old mid c.in_ok-nodes_call.nodes_call
    (nodes_added d ∷ reverse old.log) = c.in_ok-import.ensures (nodes_added d)
    (nodes_imported c.demo_is_imported.ensures c.args.nodes c.requires.few.0 c.requires.few.1 old
    c.in_ok-nodes_call.nodes_call c.requires.log c.in_ok-nodes_call.ensures) in
    let on : IsOn d (nodes_log d) mid = on_behind d (opened_log d) old mid
    c.in_ok-nodes_call.nodes_call (nodes_added d) c.requires.log nodes in
    let policies : HasImported mid next c.in_ok-policy_call.policy_call
    (policy_added d ∷ reverse mid.log) = c.in_ok-import-2.ensures (policy_added d)
    (policies_imported c.demo_is_imported.ensures c.args.nodes c.requires.few.0 c.requires.few.1
    mid c.in_ok-policy_call.policy_call on c.in_ok-policy_call.ensures) in
    let on' : IsOn d (policy_log d) next = on_behind d (nodes_log d) mid next
    c.in_ok-policy_call.policy_call (policy_added d) on policies in
    let jobs : HasImported next new c.in_ok-jobs_call.jobs_call
    (jobs_added d ∷ reverse next.log) = c.in_ok-import-3.ensures (jobs_added d)
    (jobs_imported c.demo_is_imported.ensures c.args.nodes c.requires.few.0 c.requires.few.1 next
    c.in_ok-jobs_call.jobs_call on' c.in_ok-jobs_call.ensures) in
    record {
      with_nodes = mid;
      with_policies = next;
      nodes = import_done d (opened_log d) old mid (nodes_call d) c.in_ok-nodes_call.nodes_call
          (nodes_added d) c.requires.log c.in_ok-nodes_call.ensures nodes;
      policies = import_done d (nodes_log d) mid next (policy_call d)
          c.in_ok-policy_call.policy_call (policy_added d) on c.in_ok-policy_call.ensures policies;
      jobs = import_done d (policy_log d) next new (jobs_call d) c.in_ok-jobs_call.jobs_call
          (jobs_added d) on' c.in_ok-jobs_call.ensures jobs;
    }
