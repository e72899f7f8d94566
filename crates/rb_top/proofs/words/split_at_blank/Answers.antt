use Rattle.std.proofs.Common.{◌≡◌, ◌-◌, sym, arith}
use Rattle.std.proofs.lemmas.Str.{IsCharBoundary-before_ascii, IsCharBoundary-after_ascii}
use Rattle.rb_causes.specs.Texts.{is_blank}
use Rattle.rb_top.proofs.Splits.{position-Some-parts, position-None-parts, blank_at}
use Rattle.rb_top.proofs.words.split_at_blank.Goals as goal

pub returns-in_err-at-clause-parts : goal.returns-in_err-at-clause-parts
returns-in_err-at-clause-parts c =
    rw c.from_residual.ensures (position-None-parts is_blank c.args.text.now (rw c.as_bytes.ensures.value at (sym c.in_err-at.ensures)))

pub range-requires-clause-end_boundary : goal.range-requires-clause-end_boundary
range-requires-clause-end_boundary c =
    let at = blank_at c.args.text.now c.in_ok-at.at (rw c.as_bytes.ensures.value at (sym c.in_ok-at.ensures)) in
    IsCharBoundary-before_ascii c.args.text.now c.in_ok-at.at at.0 at.1

pub range_from-requires : goal.range_from-requires
range_from-requires c =
    let at = blank_at c.args.text.now c.in_ok-at.at (rw c.as_bytes.ensures.value at (sym c.in_ok-at.ensures)) in
    λ _. IsCharBoundary-after_ascii c.args.text.now c.in_ok-at.at c.utf8.text at.0 at.1

pub returns-clause-parts : goal.returns-clause-parts
returns-clause-parts c =
    let whole : c.in_ok-at.at - 0 ≡ c.in_ok-at.at = omega arith in
    rw (c.range.ensures.value, c.range_from.ensures.value, whole)
    (position-Some-parts is_blank c.args.text.now c.in_ok-at.at (rw c.as_bytes.ensures.value at (sym c.in_ok-at.ensures)))
