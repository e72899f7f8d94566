use Rattle.std.proofs.Common.{◌≡◌, ◌+◌, ◌++◌, ◌∷◌, [], map, length, get_or, ap, sym, ◌∙◌, rules, arith}
use Rattle.std.proofs.lemmas.List.{map_push}
use Rattle.rb_yaml.specs.Parts.{parts}
use Rattle.rb_yaml.specs.PartsView.{part_view}
use Rattle.rb_yaml.specs.Edges.{edge_test}
use Rattle.rb_yaml.proofs.NodeFacts.{parts_more, parts_last}
use Rattle.rb_yaml.proofs.parts.split_parts.Goals as goal

pub loop-made-preserved : goal.loop-made-preserved
loop-made-preserved c =
    let made = map part_view c.loop-made.made.items in
    let pushed : c.push.new.self.items ≡ c.loop-made.made.items ++ c.make_part.result ∷ [] = search rules in
    let more : map part_view c.push.new.self.items ≡ made ++ part_view c.make_part.result ∷ [] = ap (map part_view) pushed ∙ map_push part_view c.loop-made.made.items c.make_part.result in
    let next : c.copy-first-in-loop-made.result ≡ get_or c.args.lines.now (c.loop-made.at + length c.split_until.result.0.now) c.copy-first-in-loop-made.result =
    c.copy-first-in-loop-made.ensures ∙ c.index-lines-end.is ∙ ap (λ d. get_or c.args.lines.now (c.loop-made.at + length c.split_until.result.0.now) d) (sym c.copy-first-in-loop-made.ensures) in
    record {
      within = omega (arith, c.if-end-lines.false);
      same = parts_more (edge_test c.args.edge) made (map part_view c.push.new.self.items) c.loop-made.first c.copy-first-in-loop-made.result c.args.lines.now c.rest_from.result.now c.split_until.result.0.now
          c.loop-made.at (part_view c.make_part.result) (parts (edge_test c.args.edge) c.args.head.now [] c.args.lines.now) c.rest_from.ensures c.split_until.ensures.front c.if-end-lines.false
          next c.make_part.ensures more c.loop-made.invariant.same;
    }

pub returns-then-end-lines : goal.returns-then-end-lines
returns-then-end-lines c =
    let made = map part_view c.loop-made.made.items in
    let pushed : c.push.new.self.items ≡ c.loop-made.made.items ++ c.make_part.result ∷ [] = search rules in
    let more : map part_view c.push.new.self.items ≡ made ++ part_view c.make_part.result ∷ [] = ap (map part_view) pushed ∙ map_push part_view c.loop-made.made.items c.make_part.result in
    parts_last (edge_test c.args.edge) made (map part_view c.push.new.self.items) c.loop-made.first c.args.lines.now c.rest_from.result.now c.split_until.result.0.now c.loop-made.at (part_view c.make_part.result)
    (parts (edge_test c.args.edge) c.args.head.now [] c.args.lines.now) c.rest_from.ensures c.split_until.ensures.front c.if-end-lines.true c.make_part.ensures more c.loop-made.invariant.same
