use Rattle.rb_acl.specs.Plain.{is_plain_rules}
use Rattle.rb_acl.proofs.Items.{all_behind}
use Rattle.rb_acl.proofs.Places.{type_found, type_passed}
use Rattle.rb_acl.proofs.deciding.first_of_types.Goals as goal

pub returns-then-is_some-clause-found : goal.returns-then-is_some-clause-found
returns-then-is_some-clause-found c =
    type_found _ _ _ _ _ _ c.rules-item.result _ _ c.as_slice-rules-items.ensures
    c.loop-type_index-test.true c.rules-item.is
    c.in_ok-found.ensures.found c.if-is_some.ensures c.loop-type_index.invariant.found

pub loop-type_index-preserved : goal.loop-type_index-preserved
loop-type_index-preserved c = record {
  found = type_passed _ _ _ _ _ _ c.rules-item.result _ _ c.as_slice-rules-items.ensures
      c.loop-type_index-test.true c.rules-item.is
      c.in_ok-found.ensures.found c.if-is_some.ensures c.loop-type_index.invariant.found;
  memory = λ plain. all_behind is_plain_rules _ _ _ c.rules-item.result
      c.as_slice-rules-items.ensures c.loop-type_index-test.true c.rules-item.is
      (c.loop-type_index.invariant.memory plain);
}
