-- What is decided of an import of a policy file.
use Rattle.std.proofs.Common.{◌≡◌, ◌∙◌, ◌+◌, ◌-◌, ◌^◌, min, ℕ, ℤ, Bool, true, false, not, List, [], length, Result, Ok, Err, IfOk, ap, sym, subst, refl, arith}
use Rattle.rb_causes.specs.declared.row.Row.{Row}
use Rattle.rb_yaml.specs.Documents.{docs_of}
use Rattle.rb_yaml.specs.Faults.{◌>>=◌}
use Rattle.rb_yaml.specs.Tree.{YamlTree}
use Rattle.rb_acl.specs.declared.policy.Caller.{Caller}
use Rattle.rb_acl.specs.declared.policy.Policy.{Policy}
use Rattle.rb_acl_doc.specs.declared.fault.AclFault.{AclFault}
use Rattle.rb_plan.specs.declared.world.World.{World}
use Rattle.rb_log.specs.Imports.{if_checked, may_import_policies, has_place_for_file}
use Rattle.rb_log.specs.LogState.{log_state, moment, moment_by, policies_in_force}
use Rattle.rb_log.specs.Moves.{Moved, only, adds, must, read_as, is_name, has_body, moved_or}
use Rattle.rb_log.specs.Readings.{MayReadPolicies, policies_of}
use Rattle.rb_log.specs.Rows.{policy_row, policy_kind, is_policy}
use Rattle.rb_log.specs.Turn.{MayRead}
use Rattle.rb_log.specs.World.{latest, latest_of, count_of_kind, policies_in, read_or}
use Rattle.rb_log.specs.declared.answer.Answer.{Answer}
use Rattle.rb_log.specs.declared.answer.Answer.TheVariants as answer
use Rattle.rb_log.specs.declared.answer.ImportedJob.{ImportedJob}
use Rattle.rb_log.specs.declared.call.Call.{Call}
use Rattle.rb_log.specs.declared.call.Call.TheVariants as call
use Rattle.rb_tables.specs.Changes.{Decided, Keeps, IsRefusal, IsSettled, IsPoliciesEffect, Makes, IsAnswerOf}
use Rattle.rb_imports.specs.Importing.{PoliciesUnread, policy_moved, body_docs}
use Rattle.rb_tables.specs.Tables.{IsTabled}
use Rattle.rb_tables.specs.declared.change.Change.{Change}
use Rattle.rb_tables.specs.declared.change.TableEffect.TheVariants.{Policies as PoliciesOf}
use Rattle.rb_tables.specs.declared.change.PoliciesEffect.{PoliciesEffect}
use Rattle.rb_tables.specs.declared.change.Outcome.TheVariants as outcome
use Rattle.rb_tables.specs.declared.tables.Tables.{Tables}
use Rattle.rb_tables.proofs.Deciding.{refused_first, refused_then, settled, decided, refused_moved}
use Rattle.rb_imports.proofs.NodeImports.{next_is, same_import, new_import, change_is, effect_is}
use Rattle.rb_tables.proofs.Projects.{rows_few, number_few}
use Rattle.rb_imports.proofs.Readable.{policy_readable}

-- ---- what is in force

pub in_force : (t : Tables) (past : List Row) → IsTabled t past
    → length t.world.policies.docs ≡ length (policies_in_force (log_state past)).docs
in_force t past tabled = ap (λ (w : World). length w.policies.docs) tabled.says.world

-- a rule that is looked at where it is asked for
pub checked_keeps : {A : Type 0} (checked : Bool) (rule : Result Bool Answer)
    (result : Result A Answer)
    → checked ≡ true → Keeps rule result → Keeps (if_checked checked rule) result
checked_keeps true rule result h k = k
checked_keeps false rule result h k = absurd (grind (arith, h))

-- ---- the change

module _ (t : Tables) (past : List Row) (tabled : IsTabled t past) (at : ℤ) (caller : Caller)
    (checked : Bool) (name body : List ℕ) where
  number_same : t.world.policy_number ≡ count_of_kind is_policy past
  number_same = ap (λ (w : World). w.policy_number) tabled.says.world

  pub policy_same : (a : Answer) → true ≡ has_body body (latest_of name t.files.items)
      → a ≡ answer.Imported t.world.policy_number []
      → IsAnswerOf (policy_moved (log_state past) at caller checked name body) a
  policy_same a has told =
      subst (IsAnswerOf (policy_moved (log_state past) at caller checked name body)) (sym told)
      (same_import (not (has_body body (latest_of name (latest is_policy past))))
      (count_of_kind is_policy past) []
      (λ n. policy_row (moment (log_state past) at) n checked name caller body)
      (ap not (sym (has ∙ ap (λ ls. has_body body (latest_of name ls)) tabled.says.files)))
      ∙ ap (λ n. only (answer.Imported n [])) (sym number_same))

  pub policy_new : (c : Change) (version : ℕ) (jobs : List ImportedJob) (row : Row)
      (e : PoliciesEffect) (new : List Policy)
      → false ≡ has_body body (latest_of name t.files.items)
      → version ≡ min (t.world.policy_number + 1) (2 ^ 64 - 1)
      → row ≡ policy_row (moment_by t.last at) version checked name caller body
      → jobs ≡ []
      → c ≡ record {
        outcome = outcome.Imported version jobs;
        row = row;
        effect = PoliciesOf e;
      }
      → (row.kind ≡ policy_kind → has_place_for_file t.files.items row.name ≡ true
      → new ≡ policies_in row → IsPoliciesEffect past row e)
      → has_place_for_file t.files.items name ≡ true
      → new ≡ policies_of name (body_docs body)
      → Makes past (policy_moved (log_state past) at caller checked name body) (Ok c)
  policy_new c version jobs row e new has next made none told effect place read =
      let few : version ≡ t.world.policy_number + 1 =
      next_is t.world.policy_number version next
      (omega (arith, number_same, number_few is_policy past, rows_few t past tabled)) in
      let row_is
      : row ≡ policy_row (moment (log_state past) at) version checked name caller body =
      made ∙ ap (λ last. policy_row (moment_by last at) version checked name caller body)
      tabled.says.last in (
        new_import (not (has_body body (latest_of name (latest is_policy past))))
            (count_of_kind is_policy past) version []
            (λ n. policy_row (moment (log_state past) at) n checked name caller body)
            (ap not (sym (has
            ∙ ap (λ ls. has_body body (latest_of name ls)) tabled.says.files)))
            (few ∙ ap (λ n. n + 1) number_same)
            ∙ ap (λ js. adds 1 (answer.Imported version js)
            (policy_row (moment (log_state past) at) version checked name caller body))
            (sym none)
            ∙ ap (λ r. adds 1 (answer.Imported version jobs) r) (sym row_is)
            ∙ change_is c version jobs row (PoliciesOf e) refl told,
        effect_is past c version jobs row (PoliciesOf e) told
            (effect (ap (λ (r : Row). r.kind) row_is)
            (ap (λ (r : Row). has_place_for_file t.files.items r.name) row_is ∙ place)
            (read ∙ ap policies_in (sym row_is))),
      )

-- ---- the rules

-- what must hold holds
pub place_is : (b : Bool) (a : Answer) → must b a ≡ Ok true → b ≡ true
place_is true a h = refl
place_is false a h = absurd (grind (arith, h))

module _ (t : Tables) (past : List Row) (tabled : IsTabled t past) (at : ℤ) (caller : Caller)
    (checked : Bool) (name body : List ℕ) where
  abbrev c : Call
  c = call.ImportPolicy caller checked name body at

  abbrev named : Result Bool Answer
  named = must (is_name name) answer.BadName

  abbrev right : Result Bool Answer
  right = if_checked checked (may_import_policies (log_state past) caller)

  pub policy_unnamed : (a : Answer) → IsRefusal named a → IsSettled past c a
  policy_unnamed a h =
      let r = policy_readable (log_state past) caller checked name body at in
      settled past c r.0 _ a r.1 refl (refused_moved _ a (refused_first named _ a h))

  pub policy_denied : (a : Answer) → named ≡ Ok true → IsRefusal right a → IsSettled past c a
  policy_denied a k h =
      let r = policy_readable (log_state past) caller checked name body at in
      settled past c r.0 _ a r.1 refl
      (refused_moved _ a (refused_then named _ true a k (refused_first right _ a h)))

  pub policy_unread : (a : Answer) → named ≡ Ok true → right ≡ Ok true
      → IsRefusal (read_as answer.BadYaml (docs_of body)) a → IsSettled past c a
  policy_unread a k l h =
      let r = policy_readable (log_state past) caller checked name body at in
      settled past c r.0 _ a r.1 refl
      (refused_moved _ a (refused_then named _ true a k (refused_then right _ true a l
      (refused_first (read_as answer.BadYaml (docs_of body)) _ a h))))

  -- what the reader gave for the documents
  gave : (docs : List YamlTree) (read : Result (List Policy) AclFault) → docs_of body ≡ Ok docs
      → MayReadPolicies name docs read
      → MayRead (log_state past) c (record { policies = read; jobs = Ok [] })
  gave docs read is h =
      subst (λ r. IfOk r (λ docs. MayReadPolicies name docs read)) (sym is) h

  pub policy_bad : (a : Answer) (docs : List YamlTree) → named ≡ Ok true → right ≡ Ok true
      → docs_of body ≡ Ok docs → PoliciesUnread name docs a → IsSettled past c a
  policy_bad answer.NoMemory docs k l is h = tt
  policy_bad (answer.BadPolicy fault) docs k l is h =
      let a : Answer = answer.BadPolicy fault in
      settled past c (record { policies = Err fault; jobs = Ok [] }) _ a
      (gave docs (Err fault) is h) refl
      (refused_moved _ a (refused_then named _ true a k (refused_then right _ true a l
      (refused_then (read_as answer.BadYaml (docs_of body)) _ docs a
      (ap (read_as answer.BadYaml) is) refl))))
  policy_bad other docs k l is h = absurd h

  pub policy_many : (a : Answer) (docs : List YamlTree) (new : List Policy) → named ≡ Ok true
      → right ≡ Ok true → docs_of body ≡ Ok docs → MayReadPolicies name docs (Ok new)
      → IsRefusal (must (has_place_for_file t.files.items name) answer.TooManyFiles) a
      → IsSettled past c a
  policy_many a docs new k l is read h =
      settled past c (record { policies = Ok new; jobs = Ok [] }) _ a (gave docs (Ok new) is read)
      refl
      (refused_moved _ a (refused_then named _ true a k (refused_then right _ true a l
      (refused_then (read_as answer.BadYaml (docs_of body)) _ docs a
      (ap (read_as answer.BadYaml) is)
      (refused_first (must (has_place_for_file (log_state past).files name) answer.TooManyFiles) _
      a (subst (λ ls. IsRefusal (must (has_place_for_file ls name) answer.TooManyFiles) a)
      tabled.says.files h))))))

  pub policy_decided : (result : Result Change Answer) (docs : List YamlTree) (new : List Policy)
      → named ≡ Ok true → right ≡ Ok true → docs_of body ≡ Ok docs
      → MayReadPolicies name docs (Ok new)
      → must (has_place_for_file t.files.items name) answer.TooManyFiles ≡ Ok true
      → Makes past (policy_moved (log_state past) at caller checked name body) result
      → Decided past c result
  policy_decided result docs new k l is read place h =
      let m : Moved = policy_moved (log_state past) at caller checked name body in
      decided past c (record { policies = Ok new; jobs = Ok [] }) m result
      (gave docs (Ok new) is read)
      (ap (λ r. moved_or (r >>= λ named. right >>= λ permission.
      read_as answer.BadYaml (docs_of body) >>= λ docs.
      must (has_place_for_file (log_state past).files name) answer.TooManyFiles >>= λ place.
      Ok m)) k
      ∙ ap (λ r. moved_or (r >>= λ permission.
      read_as answer.BadYaml (docs_of body) >>= λ docs.
      must (has_place_for_file (log_state past).files name) answer.TooManyFiles >>= λ place.
      Ok m)) l
      ∙ ap (λ r. moved_or (read_as answer.BadYaml r >>= λ docs.
      must (has_place_for_file (log_state past).files name) answer.TooManyFiles >>= λ place.
      Ok m)) is
      ∙ ap (λ r. moved_or (r >>= λ place. Ok m))
      (ap (λ ls. must (has_place_for_file ls name) answer.TooManyFiles) (sym tabled.says.files)
      ∙ place)) h

-- the policies that were read are those of the body
pub policies_read : (name body : List ℕ) (docs : List YamlTree) (new : List Policy)
    → docs_of body ≡ Ok docs → MayReadPolicies name docs (Ok new)
    → new ≡ policies_of name (body_docs body)
policies_read name body docs new is read =
    read.0 ∙ ap (λ r. policies_of name (read_or [] r)) (sym is)
