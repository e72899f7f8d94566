use Rattle.rb_orch.proofs.RankLaws.{ranking_is_one}
use Rattle.rb_orch.proofs.laws.ranking_is_one.Goals as goal

pub returns : goal.returns
returns c = ranking_is_one
