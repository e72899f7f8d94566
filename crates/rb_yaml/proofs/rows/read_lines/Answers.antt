use Rattle.std.proofs.Common.{◌≡◌, ◌<◌, ◌≤◌, ℕ, ◌+◌, ◌++◌, ◌∷◌, [], List, length, drop, Some, None, ap, ◌∙◌, refl, length-drop, rules, arith}
use Rattle.std.specs.List.{position_or_len}
use Rattle.std.proofs.lemmas.Str.Pattern.{split_once_first}
use Rattle.rb_causes.specs.Texts.{is_line_feed}
use Rattle.rb_yaml.specs.Rows.{row_of, rows_of}
use Rattle.rb_yaml.proofs.RowFacts.{rows_more, rows_last, split_none}
use Rattle.rb_yaml.proofs.rows.read_lines.Goals as goal

shorter : (rest behind : List ℕ) (at : ℕ) → at < length rest → behind ≡ drop (at + 1) rest → length behind + 1 ≤ length rest
shorter rest behind at l e = let n = ap length e ∙ length-drop (at + 1) rest in omega arith

pub loop-front-preserved : goal.loop-front-preserved
loop-front-preserved c =
    let parts = split_once_first 10 c.loop-front.rest.now (Some (c.in-Some.front, c.in-Some.behind)) c.in-Some.ensures.cases (omega arith) in
    let pushed : c.push.new.self.items ≡ c.loop-front.lines.items ++ c.line_of.result ∷ [] = search rules in
    let less = shorter c.loop-front.rest.now c.in-Some.behind.now (position_or_len is_line_feed c.loop-front.rest.now) parts.0 parts.2 in
    record {
      text = search rules;
      same = rows_more c.loop-front.lines.items c.push.new.self.items c.line_of.result c.loop-front.number (c.loop-front.number + 1)
          c.loop-front.rest.now c.in-Some.front.now c.in-Some.behind.now (rows_of c.args.text.now) parts.0 parts.1 parts.2 pushed
          (c.line_of.ensures ∙ ap (row_of c.loop-front.number) c.without_return.ensures) refl c.loop-front.invariant.same;
      within = omega (arith, less, c.loop-front.invariant.within);
    }

pub returns : goal.returns
returns c =
    let none = split_once_first 10 c.loop-front.rest.now None c.in_default.ensures.cases (omega arith) in
    let pushed : c.push-2.new.self.items ≡ c.loop-front.lines.items ++ c.line_of-2.result ∷ [] = search rules in
    rows_last c.loop-front.lines.items c.push-2.new.self.items c.line_of-2.result c.loop-front.number c.loop-front.rest.now (rows_of c.args.text.now)
    (split_none c.loop-front.rest.now none) pushed c.line_of-2.ensures c.loop-front.invariant.same
