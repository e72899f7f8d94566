use Rattle.rb_export_laws.proofs.PoliciesAgain.{all_sound, all_same}
use Rattle.rb_export_laws.proofs.laws.policy_docs_read_back.Goals as goal

pub returns : goal.returns
returns c = record {
  sound = λ file docs again sound written.
      all_sound c.foremost_is_told.ensures.none file 1 docs again written sound;
  same = λ file other docs again written. all_same file 1 docs again written other 1;
}
