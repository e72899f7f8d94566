use Rattle.std.proofs.Common.{subst}
use Rattle.std.proofs.Math.Facts.{to_z-of_z}
use Rattle.rb_log.specs.Imports.{has_place_for_file}
use Rattle.rb_log.specs.LogState.{log_state}
use Rattle.rb_log.specs.declared.answer.Answer.TheVariants as answer
use Rattle.rb_log.specs.declared.call.Call.TheVariants as call
use Rattle.rb_tables.specs.Changes.{Makes}
use Rattle.rb_imports.specs.Importing.{policy_moved}
use Rattle.rb_imports.proofs.NodeImports.{handed_on}
use Rattle.rb_imports.proofs.PolicyImports.{policy_unnamed, policy_denied, policy_unread, policy_bad, policy_many, policy_decided, policies_read, place_is}
use Rattle.rb_imports.proofs.importing.import_policy.Goals as goal

pub returns-in_err-check_name : goal.returns-in_err-check_name
returns-in_err-check_name c past tabled =
    handed_on past
    (call.ImportPolicy c.args.caller c.args.checked c.args.name c.args.body c.args.at)
    c.from_residual.result c.in_err-check_name.field-0.0 c.from_residual.ensures.1
    (policy_unnamed c.args.tables.now past tabled c.args.at c.args.caller c.args.checked c.args.name
    c.args.body c.in_err-check_name.field-0.0
    (rw c.as_str.ensures at c.in_err-check_name.ensures))

pub returns-in_err-check_policy_right : goal.returns-in_err-check_policy_right
returns-in_err-check_policy_right c past tabled =
    handed_on past
    (call.ImportPolicy c.args.caller c.args.checked c.args.name c.args.body c.args.at)
    c.from_residual-in_err-check_policy_right.result c.in_err-check_policy_right.field-0.0
    c.from_residual-in_err-check_policy_right.ensures.1
    (policy_denied c.args.tables.now past tabled c.args.at c.args.caller c.args.checked c.args.name
    c.args.body c.in_err-check_policy_right.field-0.0
    (rw c.as_str.ensures at c.in_ok-check_name.ensures)
    (c.in_err-check_policy_right.ensures past tabled))

pub returns-in_err-docs : goal.returns-in_err-docs
returns-in_err-docs c past tabled =
    handed_on past
    (call.ImportPolicy c.args.caller c.args.checked c.args.name c.args.body c.args.at)
    c.from_residual-in_err-docs.result c.in_err-docs.field-0.0
    c.from_residual-in_err-docs.ensures.1
    (policy_unread c.args.tables.now past tabled c.args.at c.args.caller c.args.checked c.args.name
    c.args.body c.in_err-docs.field-0.0
    (rw c.as_str.ensures at c.in_ok-check_name.ensures)
    (c.in_ok-check_policy_right.ensures past tabled)
    (rw c.as_str-2.ensures at c.in_err-docs.ensures.err))

pub returns-in_err-policies : goal.returns-in_err-policies
returns-in_err-policies c past tabled =
    handed_on past
    (call.ImportPolicy c.args.caller c.args.checked c.args.name c.args.body c.args.at)
    c.from_residual-in_err-policies.result c.in_err-policies.field-0.0
    c.from_residual-in_err-policies.ensures.1
    (policy_bad c.args.tables.now past tabled c.args.at c.args.caller c.args.checked c.args.name
    c.args.body c.in_err-policies.field-0.0 _
    (rw c.as_str.ensures at c.in_ok-check_name.ensures)
    (c.in_ok-check_policy_right.ensures past tabled)
    (rw c.as_str-2.ensures at c.in_ok-docs.ensures.ok)
    (rw (c.as_str-3.ensures, c.as_slice.ensures.value) at c.in_err-policies.ensures.err))

pub returns-in_err-check_file_place : goal.returns-in_err-check_file_place
returns-in_err-check_file_place c past tabled =
    handed_on past
    (call.ImportPolicy c.args.caller c.args.checked c.args.name c.args.body c.args.at)
    c.from_residual-in_err-check_file_place.result c.in_err-check_file_place.field-0.0
    c.from_residual-in_err-check_file_place.ensures.1
    (policy_many c.args.tables.now past tabled c.args.at c.args.caller c.args.checked c.args.name
    c.args.body c.in_err-check_file_place.field-0.0 _ c.in_ok-policies.policies.items
    (rw c.as_str.ensures at c.in_ok-check_name.ensures)
    (c.in_ok-check_policy_right.ensures past tabled)
    (rw c.as_str-2.ensures at c.in_ok-docs.ensures.ok)
    (rw (c.as_str-3.ensures, c.as_slice.ensures.value) at c.in_ok-policies.ensures.ok)
    (rw c.as_str-4.ensures at c.in_err-check_file_place.ensures))

pub returns : goal.returns
returns c past tabled =
    let is = rw c.as_str-2.ensures at c.in_ok-docs.ensures.ok in
    let read =
    rw (c.as_str-3.ensures, c.as_slice.ensures.value) at c.in_ok-policies.ensures.ok in
    policy_decided c.args.tables.now past tabled c.args.at c.args.caller c.args.checked c.args.name
    c.args.body c.policy_change.result _ c.in_ok-policies.policies.items
    (rw c.as_str.ensures at c.in_ok-check_name.ensures)
    (c.in_ok-check_policy_right.ensures past tabled)
    is read
    (rw c.as_str-4.ensures at c.in_ok-check_file_place.ensures)
    (subst (λ z. Makes past (policy_moved (log_state past) z c.args.caller c.args.checked
    c.args.name c.args.body) c.policy_change.result) (to_z-of_z c.ranges.at)
    (c.policy_change.ensures past tabled
    (place_is (has_place_for_file c.args.tables.now.files.items c.args.name) answer.TooManyFiles
    (rw c.as_str-4.ensures at c.in_ok-check_file_place.ensures))
    (policies_read c.args.name c.args.body _ c.in_ok-policies.policies.items is read)))
