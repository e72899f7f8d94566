use Rattle.std.proofs.Common.{◌≡◌, ◌++◌, ◌∷◌, [], true, false, string_bytes, rules}
use Rattle.rb_causes.specs.Signs.{line_feed}
use Rattle.rb_yaml.specs.Literals.{taken_off, ends_literal, is_misplaced, literal_rows}
use Rattle.rb_yaml.proofs.LiteralFacts.{literal_more}
use Rattle.rb_yaml.proofs.literals.literal_rows.Goals as goal

pub loop-at-preserved : goal.loop-at-preserved
loop-at-preserved c =
    let line = c.index-lines-at.result in
    let out = string_bytes c.loop-at.out in
    let on : ends_literal c.args.floor c.args.indent line ≡ false = search rules in
    let in_it : is_misplaced c.args.indent c.loop-at.leading line ≡ false = search rules in
    let more : string_bytes c.push_line.new.out ≡ out ++ taken_off c.args.indent line ++ line_feed ∷ [] =
    search rules in
    literal_more (literal_rows c.args.floor c.args.indent true c.args.lines.now) c.args.floor
    c.args.indent c.loop-at.leading c.still_leading-leading.result line c.args.lines.now c.loop-at.at out
    (string_bytes c.push_line.new.out) c.loop-at-test.true c.index-lines-at.is on in_it
    c.still_leading-leading.ensures more c.loop-at.invariant
