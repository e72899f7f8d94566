use Rattle.rb_export_laws.proofs.PoliciesAgain.{one_text_again}
use Rattle.rb_export_laws.proofs.laws.policies_have_one_text.Goals as goal

pub returns : goal.returns
returns c = one_text_again
