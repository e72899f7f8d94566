use Rattle.std.proofs.Common.{◌≡◌, drop, true}
use Rattle.std.specs.List.{list_any, list_all}
use Rattle.rb_node.specs.Selection.{part_holds}
use Rattle.rb_text.specs.Values.{is_plain_value}
use Rattle.rb_node.proofs.clause.FilterClause.holds.Given as goal

-- one of the alternatives that are left holds where one of all does
abbrev pub invariant-loop-alternative : goal.invariant-loop-alternative
invariant-loop-alternative l = record {
  found : list_any (λ parts. list_all (part_holds l.node l.self.attr) parts)
      (drop l.alternative-index l.self.alternatives)
      ≡ list_any (λ parts. list_all (part_holds l.node l.self.attr) parts) l.self.alternatives;
  memory : list_all (λ parts. list_all is_plain_value parts) l.self.alternatives ≡ true
      → list_all (λ parts. list_all is_plain_value parts)
      (drop l.alternative-index l.self.alternatives) ≡ true;
}
