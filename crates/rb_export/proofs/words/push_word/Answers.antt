use Rattle.std.proofs.Common.{◌∙◌, chars}
use Rattle.std.specs.List.{flat_map}
use Rattle.rb_export.specs.Words.{escaped}
use Rattle.rb_export.proofs.Pushed.{quoted_bytes}
use Rattle.rb_export.proofs.words.push_word.Goals as goal

pub returns : goal.returns
returns c =
    let cs = c.as_slice.ensures.value ∙ c.in_ok-cs.ensures in
    quoted_bytes _ _ _ _ (flat_map escaped (chars c.args.word.now)) c.in_ok-push.ensures.bytes
    (rw cs at c.in_ok-push_all_escaped.ensures) c.in_ok-push-2.ensures.bytes
