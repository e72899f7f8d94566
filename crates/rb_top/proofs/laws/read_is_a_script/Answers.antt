use Rattle.rb_top.proofs.ScriptRead.{read_is_a_script}
use Rattle.rb_top.proofs.laws.read_is_a_script.Goals as goal

pub returns : goal.returns
returns c = read_is_a_script
