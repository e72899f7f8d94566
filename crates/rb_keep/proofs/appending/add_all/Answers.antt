use Rattle.std.proofs.Common.{◌≡◌, ◌+◌, pos, ◌+ℤ◌, take, Ok, sym, subst, ◌∙◌, rules, w64, to_z, of_z, FitsSigned}
use Rattle.std.proofs.lemmas.Int.{to_z-of_z}
use Rattle.sqlite.specs.Held.{state}
use Rattle.rb_keep.specs.Tables.{Adds}
use Rattle.rb_keep.proofs.Passing.{clean_before, stays_after, stays_valued}
use Rattle.rb_keep.proofs.Settling.{adds_next, adds_all}
use Rattle.rb_keep.proofs.appending.add_all.Goals as goal

pub loop-row-preserved : goal.loop-row-preserved
loop-row-preserved g c =
    let old = state g.S.Store c.args.tx.now.conn.now in
    let mid = state g.S.Store c.loop-row.tx.conn.now in
    let new = state g.S.Store c.add.new.tx.conn.now in
    let count = to_z w64 c.loop-row.count-bits in
    let last = to_z w64 (of_z w64 c.args.last) in
    let fits : FitsSigned w64 c.in_ok-count.count = search rules in
    let next : to_z w64 (of_z w64 c.in_ok-count.count) ≡ c.in_ok-count.count = to_z-of_z w64 c.in_ok-count.count fits in
    let told = stays_valued {U = Unit {0}} {F = Unit {0}} mid new c.in_ok-count.count tt c.in_ok-count.ensures.stays in
    record {
      same_reference = c.add.ensures.same_reference ∙ c.loop-row.invariant.same_reference;
      stays = stays_after old mid new tt (Ok tt) c.loop-row.invariant.stays told;
      added = λ clean. subst (λ n. (n ≡ last +ℤ pos (c.loop-row.row-index + 1)) × Adds last (take (c.loop-row.row-index + 1) c.args.more.now) old.now new.now) (sym next)
          (adds_next last count c.in_ok-count.count c.args.more.now c.loop-row.row-index c.row-item.result old.now mid.now new.now c.loop-row-test.true c.row-item.is
          (c.loop-row.invariant.added (clean_before mid new c.add.ensures.stays.passes clean)) (c.in_ok-count.ensures.added clean));
    }

pub returns-clause-added : goal.returns-clause-added
returns-clause-added g c clean =
    let old = state g.S.Store c.args.tx.now.conn.now in
    let mid = state g.S.Store c.loop-row.tx.conn.now in
    let last : to_z w64 (of_z w64 c.args.last) ≡ c.args.last = to_z-of_z w64 c.args.last c.ranges.last in
    adds_all c.args.last (to_z w64 c.loop-row.count-bits) c.args.more.now c.loop-row.row-index old.now mid.now c.loop-row.auto.row-index-end c.loop-row-test.false
    (subst (λ n. (to_z w64 c.loop-row.count-bits ≡ n +ℤ pos c.loop-row.row-index) × Adds n (take c.loop-row.row-index c.args.more.now) old.now mid.now) last (c.loop-row.invariant.added clean))
