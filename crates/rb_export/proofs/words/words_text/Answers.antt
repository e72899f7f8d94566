use Rattle.std.proofs.Common.{◌∙◌, ◌-◌, ◌∷◌, length, take, drop, ap, sym}
use Rattle.rb_export.proofs.Grouping.{begins_with, some_items}
use Rattle.rb_export.proofs.Pushed.{words_all, behind_first}
use Rattle.rb_export.proofs.words.words_text.Goals as goal

pub returns : goal.returns
returns c =
    let xs = c.args.words.now in
    let some = some_items xs (rw c.is_empty.ensures at c.if-is_empty.false) in
    let first = begins_with xs c.index-words-0.result some c.index-words-0.is in
    let behind = take (length xs - 1) (drop 1 xs) in
    words_all c.words_behind.result xs behind c.as_str.result.now
    (first.1
    ∙ ap (λ ys. c.index-words-0.result ∷ ys)
    (sym (behind_first xs c.index-words-0.result first.0 first.1))
    ∙ ap (λ w. w ∷ behind) (sym c.as_str.ensures))
    c.words_behind.ensures
