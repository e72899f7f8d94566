use Rattle.std.proofs.Common.{◌∙◌, ap, nat_eq, lit<}
use Rattle.std.proofs.lemmas.Iterator.Consumers.{nth_from_yields_List}
use Rattle.std.proofs.lemmas.Iterator.Splits.{YieldsList-from_str_split}
use Rattle.std.specs.Prelude.{slice_get}
use Rattle.rb_causes.proofs.Commas.{pieces-slice_split}
use Rattle.rb_route.proofs.api_router.piece.Goals as goal

pub returns : goal.returns
returns c =
    nth_from_yields_List c.nth.result c.nth.new.self c.args.place c.nth.ensures.ran
    (YieldsList-from_str_split 47 c.args.path.now (lit< tt) c.split.ensures.text
    c.split.ensures.has_more c.split.ensures.pattern)
    ∙ ap (λ ps. slice_get ps c.args.place) (pieces-slice_split (λ b. nat_eq b 47) c.args.path.now)
