use Rattle.rb_fault_lines.proofs.telling.tell_policy.Goals as goal

pub returns : goal.returns
returns g c = rw (c.from-doc.ensures, c.acl_kind_name.ensures, c.policy_key.ensures) at c.tell_place.ensures
