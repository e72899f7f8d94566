use Rattle.std.proofs.Common.{true, cond, bytes_eq, string_bytes, ap, sym, ◌∙◌}
use Rattle.std.specs.BTreeSet.{contains_text}
use Rattle.std.proofs.lemmas.Map.Text.{btree_set_updates_text}
use Rattle.rb_causes.proofs.Seen.{has_more}
use Rattle.rb_causes.proofs.seen_texts.SeenTexts.note.Goals as goal

pub returns : goal.returns
returns c = λ texts held q.
    btree_set_updates_text (string_bytes c.in_ok-text.text) c.args.self.now.texts c.insert.new.self true c.in_ok-_new.ensures.updates q
    ∙ ap (λ k. cond (bytes_eq k q) true (contains_text c.args.self.now.texts q)) c.in_ok-text.ensures.ok
    ∙ ap (λ t. cond (bytes_eq c.args.text.now q) true t) (held q)
    ∙ sym (has_more texts c.args.text.now q)
