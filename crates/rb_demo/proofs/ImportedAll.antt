-- The three imports on a desk right behind its opening.
use Rattle.std.proofs.Common.{◌≡◌, ◌∙◌, ◌≤◌, ℕ, List, [], ◌∷◌, reverse, ap, sym, subst, arith}
use Rattle.rb_causes.specs.declared.row.Row.{Row}
use Rattle.rb_log.specs.Readings.{Reading}
use Rattle.rb_log.specs.LogState.{log_state}
use Rattle.rb_log.specs.Turn.{MayRead, turn_of}
use Rattle.rb_log.specs.Moves.{adds}
use Rattle.rb_log.specs.Told.{Told, Acts, with_task}
use Rattle.rb_log.specs.declared.answer.Answer.TheVariants.{Imported}
use Rattle.rb_log.specs.declared.answer.ImportedJob.{ImportedJob}
use Rattle.rb_log.specs.declared.call.Call.{Call}
use Rattle.rb_demo.specs.Imports.{created_jobs}
use Rattle.rb_demo.specs.Settings.{Setting, IsSetting, DemoIsImported, opened_log, nodes_log, policy_log, nodes_added, policy_added, jobs_added, nodes_call, policy_call, jobs_call}
use Rattle.rb_demo.specs.Hearing.{Always}
use Rattle.rb_demo.specs.Asking.{Imports, IsOn, AreReadyRights}
use Rattle.rb_demo.specs.Rounds.{setting_of, HasImported, HasImportedAll}
use Rattle.rb_demo.proofs.Played.{ready_kept}

pub is_setting : (n : ℕ) → 1 ≤ n → n ≤ 1000 → IsSetting (setting_of n)
is_setting n some few = record {
  least = some;
  few = few;
  room = omega arith;
  short = omega arith;
}

-- an import that the rules do on this log is done on a desk that has it
imports_on : (d : Setting) (past : List Row) (old : Told) (call said : Call) (row : Row)
    (version : ℕ) (jobs : List ImportedJob) → IsOn d past old → said ≡ call
    → ((reading : Reading) → MayRead (log_state past) call reading
    → turn_of reading past d.room call ≡ adds 1 (Imported version jobs) row)
    → Always old said (Imports row)
imports_on d past old call said row version jobs on is law =
    let here : Always old call (Imports row) = λ reading may. (
      version,
      jobs,
      ap (λ rows. turn_of reading rows old.room call) on.log
          ∙ ap (λ room. turn_of reading past room call) on.room
          ∙ law reading (subst (λ rows. MayRead (log_state rows) call reading) on.log may),
    ) in
    subst (λ (k : Call). Always old k (Imports row)) (sym is) here

module _ (law : DemoIsImported) (n : ℕ) (some : 1 ≤ n) (few : n ≤ 1000) (old : Told) (said : Call) where
  abbrev d : Setting
  d = setting_of n

  pub nodes_imported : IsOn d (opened_log d) old → said ≡ nodes_call d
      → Always old said (Imports (nodes_added d))
  nodes_imported on is =
      imports_on d (opened_log d) old (nodes_call d) said (nodes_added d) 1 [] on is
      (λ reading may. (law d (is_setting n some few) reading).0)

  pub policies_imported : IsOn d (nodes_log d) old → said ≡ policy_call d
      → Always old said (Imports (policy_added d))
  policies_imported on is =
      imports_on d (nodes_log d) old (policy_call d) said (policy_added d) 1 [] on is
      (λ reading may. (law d (is_setting n some few) reading).1 may)

  pub jobs_imported : IsOn d (policy_log d) old → said ≡ jobs_call d
      → Always old said (Imports (jobs_added d))
  jobs_imported on is =
      imports_on d (policy_log d) old (jobs_call d) said (jobs_added d) 1 created_jobs on is
      (λ reading may. (law d (is_setting n some few) reading).2 may)

-- ---- what stands behind an import

pub import_done : (d : Setting) (past : List Row) (old new : Told) (call said : Call) (row : Row)
    → IsOn d past old → said ≡ call → HasImported old new said (row ∷ reverse old.log)
    → HasImported old new call (row ∷ past)
import_done d past old new call said row on is h = record {
  answer = h.answer;
  acts = subst (λ (k : Call). Acts old new k h.answer) is h.acts;
  imported = h.imported;
  log = h.log ∙ ap (λ rows. row ∷ rows) on.log;
}

pub on_behind : (d : Setting) (past : List Row) (old new : Told) (said : Call) (row : Row)
    → IsOn d past old → HasImported old new said (row ∷ reverse old.log) → IsOn d (row ∷ past) new
on_behind d past old new said row on h = record {
  log = h.log ∙ ap (λ rows. row ∷ rows) on.log;
  room = h.acts.room ∙ on.room;
}

-- the worker may ask, and the door is open, as before
pub ready_imported : (d : Setting) (old new : Told) → HasImportedAll d old new
    → AreReadyRights old.rights → AreReadyRights new.rights
ready_imported d old new h k =
    ready_kept h.with_policies.rights new.rights
    (with_task h.jobs.answer h.with_policies.rights.leaves) h.jobs.acts.rights
    (ready_kept h.with_nodes.rights h.with_policies.rights
    (with_task h.policies.answer h.with_nodes.rights.leaves) h.policies.acts.rights
    (ready_kept old.rights h.with_nodes.rights (with_task h.nodes.answer old.rights.leaves)
    h.nodes.acts.rights k))
