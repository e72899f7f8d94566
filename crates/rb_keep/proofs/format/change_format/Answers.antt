use Rattle.std.proofs.Common.{◌≡◌, None, Some, pos, ap, subst, ◌∙◌, rules}
use Rattle.sqlite.specs.Held.{state}
use Rattle.rb_keep.specs.Tables.{Numbers}
use Rattle.rb_keep.proofs.Passing.{clean_before}
use Rattle.rb_keep.proofs.Settling.{settled_first, settled_second}
use Rattle.rb_keep.proofs.format.change_format.Goals as goal

pub returns-in-None-clause-settled : goal.returns-in-None-clause-settled
returns-in-None-clause-settled g c clean =
    let old = state g.S.Store c.args.tx.now.conn.now in
    let made = state g.S.Store c.make_entries.new.tx.conn.now in
    let shaped = state g.S.Store c.make_shape.new.tx.conn.now in
    let read = state g.S.Store c.shape.new.tx.conn.now in
    let last = state g.S.Store c.write_shape.new.tx.conn.now in
    let third = clean_before read last c.write_shape.ensures.stays.passes clean in
    let second = clean_before shaped read c.shape.ensures.stays.passes third in
    let first = clean_before made shaped c.make_shape.ensures.stays.passes second in
    let numbers : Numbers shaped.now read.now None = subst (Numbers shaped.now read.now) c.in-None.is (c.in_ok-shape.ensures.read third) in
    settled_first old.now made.now shaped.now read.now last.now c.write_shape.result (c.in_ok-make_entries.ensures.made first) (c.in_ok-make_shape.ensures.made second) numbers
    (c.write_shape.ensures.written clean)

pub returns-in-Some-eq2-clause-settled : goal.returns-in-Some-eq2-clause-settled
returns-in-Some-eq2-clause-settled g c clean =
    let old = state g.S.Store c.args.tx.now.conn.now in
    let made = state g.S.Store c.make_entries.new.tx.conn.now in
    let shaped = state g.S.Store c.make_shape.new.tx.conn.now in
    let read = state g.S.Store c.shape.new.tx.conn.now in
    let second = clean_before shaped read c.shape.ensures.stays.passes clean in
    let first = clean_before made shaped c.make_shape.ensures.stays.passes second in
    let second_format : c.in-Some-eq2.field-0 ≡ pos 2 = search rules in
    let found : c.in_ok-shape.field-0 ≡ Some (pos 2) = c.in-Some-eq2.is ∙ ap (λ n. Some n) second_format in
    let numbers : Numbers shaped.now read.now (Some (pos 2)) = subst (Numbers shaped.now read.now) found (c.in_ok-shape.ensures.read clean) in
    settled_second old.now made.now shaped.now read.now (c.in_ok-make_entries.ensures.made first) (c.in_ok-make_shape.ensures.made second) numbers
