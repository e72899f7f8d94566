use Rattle.std.proofs.Common.{◌∙◌}
use Rattle.rb_orch.proofs.Among.{among}
use Rattle.rb_orch.proofs.picking.is_among.Goals as goal

pub returns : goal.returns
returns c = c.is_ok.ensures.value ∙ among _ _ _ c.binary_search.ensures.position c.requires
