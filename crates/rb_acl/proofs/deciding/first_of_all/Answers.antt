use Rattle.rb_acl.specs.Plain.{is_plain_policy}
use Rattle.rb_acl.proofs.Items.{all_behind}
use Rattle.rb_acl.proofs.Places.{doc_found, doc_passed}
use Rattle.rb_acl.proofs.deciding.first_of_all.Goals as goal

pub returns-then-is_some-clause-found : goal.returns-then-is_some-clause-found
returns-then-is_some-clause-found c =
    doc_found _ _ _ _ c.policy-item.result _ _ c.as_slice-policy-items.ensures c.loop-doc-test.true
    c.policy-item.is
    c.in_ok-found.ensures.found c.if-is_some.ensures c.loop-doc.invariant.found

pub loop-doc-preserved : goal.loop-doc-preserved
loop-doc-preserved c = record {
  found = doc_passed _ _ _ _ c.policy-item.result _ _ c.as_slice-policy-items.ensures
      c.loop-doc-test.true c.policy-item.is
      c.in_ok-found.ensures.found c.if-is_some.ensures c.loop-doc.invariant.found;
  memory = λ plain. all_behind is_plain_policy _ _ _ c.policy-item.result
      c.as_slice-policy-items.ensures c.loop-doc-test.true c.policy-item.is
      (c.loop-doc.invariant.memory plain);
}
