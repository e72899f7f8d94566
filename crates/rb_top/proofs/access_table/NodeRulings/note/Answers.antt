use Rattle.std.proofs.Common.{◌≡◌, cond, bytes_eq, Some, string_bytes, ap, ◌∙◌}
use Rattle.std.specs.BTreeMap.{get_by_text}
use Rattle.std.proofs.lemmas.Map.Text.{btree_map_updates_text}
use Rattle.rb_top.specs.Table.{ruled, ruling_on}
use Rattle.rb_top.proofs.OneMore.{node_set}
use Rattle.rb_top.proofs.access_table.NodeRulings.note.Goals as goal

pub returns : goal.returns
returns c other =
    let node = c.args.node.now in
    let text : string_bytes c.in_ok-node.node ≡ node = c.in_ok-node.ensures.ok ∙ c.as_str.ensures in
    let decision : c.ruled-decision.result ≡ ruled c.args.denies c.args.place (ruling_on c.args.self.now node) = c.ruled-decision.ensures ∙ ap (ruled c.args.denies c.args.place) c.on.ensures in
    node_set (get_by_text c.args.self.now.nodes) (get_by_text c.insert.new.self) node (string_bytes c.in_ok-node.node) c.ruled-decision.result text
    (btree_map_updates_text (string_bytes c.in_ok-node.node) c.args.self.now.nodes c.insert.new.self (Some c.ruled-decision.result) c.in_ok-_old.ensures.updates) other
    ∙ ap (λ d. cond (bytes_eq node other) d (ruling_on c.args.self.now other)) decision
