use Rattle.rb_top.proofs.ScriptBack.{script_is_read_back}
use Rattle.rb_top.proofs.laws.script_is_read_back.Goals as goal

pub returns : goal.returns
returns c = script_is_read_back
