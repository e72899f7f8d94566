use Rattle.std.proofs.Common.{◌≡◌, ◌∙◌, map, nat_eq, lit<}
use Rattle.std.specs.List.{slice_split}
use Rattle.std.proofs.lemmas.Iterator.Consumers.{map_from_collect}
use Rattle.std.proofs.lemmas.Iterator.Splits.{YieldsList-from_str_split}
use Rattle.std.proofs.lemmas.Result.{IfOk-weaker}
use Rattle.rb_causes.specs.Texts.{pieces}
use Rattle.rb_causes.proofs.Commas.{pieces-slice_split}
use Rattle.rb_imports.proofs.callers.line_parts.Goals as goal

pub returns : goal.returns
returns c =
    let text = c.args.text.now in
    IfOk-weaker c.collect.result
    (λ parts. map (λ part. part.now) parts.items ≡ slice_split (λ b. nat_eq b 10) text)
    (λ parts. map (λ part. part.now) parts.items ≡ pieces (λ b. nat_eq b 10) text)
    (λ parts split. split ∙ pieces-slice_split (λ b. nat_eq b 10) text)
    (map_from_collect _ c.collect.ensures.ran (YieldsList-from_str_split 10 text (lit< tt)
    c.split.ensures.text c.split.ensures.has_more c.split.ensures.pattern))
