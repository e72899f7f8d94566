use Rattle.std.proofs.Common.{◌≡◌, drop, true}
use Rattle.std.specs.List.{list_any, list_all}
use Rattle.rb_acl.specs.Applying.{by_holds}
use Rattle.rb_acl.specs.Plain.{is_plain_by}
use Rattle.rb_acl.proofs.applying.one_holds.Given as goal

-- one of those that are left holds where one of all does
abbrev pub invariant-loop-rule : goal.invariant-loop-rule
invariant-loop-rule l = record {
  found : list_any (by_holds l.caller) (drop l.rule-index l.by) ≡ list_any (by_holds l.caller) l.by;
  memory : list_all is_plain_by l.by ≡ true → list_all is_plain_by (drop l.rule-index l.by) ≡ true;
}
