use Rattle.std.proofs.Common.{◌≡◌, cond, bytes_eq, Some, None, string_bytes, ap, ◌∙◌}
use Rattle.std.specs.BTreeMap.{get_by_text}
use Rattle.std.proofs.lemmas.Map.Text.{btree_map_updates_text}
use Rattle.rb_top.specs.Table.{ruled, ruling_on, ruling_of}
use Rattle.rb_top.proofs.OneMore.{line_noted}
use Rattle.rb_top.proofs.access_table.AccessTable.note.Goals as goal

pub returns : goal.returns
returns c lines tells last user node =
    let line = c.args.line.now in
    let old = get_by_text c.args.self.now.users in
    let removed = get_by_text c.remove.new.self in
    let text : string_bytes c.in_ok-user.user ≡ line.user = c.in_ok-user.ensures.ok ∙ c.as_str-2.ensures in
    line_noted lines line old removed (get_by_text c.insert.new.self) c.or_none-rulings.result c.note.new.self
    (λ q. btree_map_updates_text c.as_str.result.now c.args.self.now.users c.remove.new.self None c.remove.ensures.updates q
    ∙ ap (λ t. cond (bytes_eq t q) None (old q)) c.as_str.ensures)
    (λ q. btree_map_updates_text (string_bytes c.in_ok-user.user) c.remove.new.self c.insert.new.self (Some c.note.new.self) c.in_ok-_none.ensures.updates q
    ∙ ap (λ t. cond (bytes_eq t q) (Some c.note.new.self) (removed q)) text)
    (λ n. c.or_none-rulings.ensures n ∙ ap (λ found. ruling_of found n) (c.remove.ensures.value ∙ ap old c.as_str.ensures))
    (λ n. c.in_ok-note.ensures n ∙ ap (λ k. cond (bytes_eq line.node n) (ruled line.denies k (ruling_on c.or_none-rulings.result line.node)) (ruling_on c.or_none-rulings.result n)) last)
    tells user node
