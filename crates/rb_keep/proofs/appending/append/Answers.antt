use Rattle.std.proofs.Common.{◌≡◌, pos, ◌+ℤ◌, length, sym, subst, arith, rules, w64, to_z, of_z, FitsSigned}
use Rattle.std.proofs.lemmas.Int.{to_z-of_z}
use Rattle.sqlite.specs.Held.{state}
use Rattle.sqlite.specs.State.{HasCleanDisk}
use Rattle.rb_keep.specs.Tables.{Adds}
use Rattle.rb_keep.proofs.appending.append.Goals as goal

pub returns-clause-added : goal.returns-clause-added
returns-clause-added g c clean =
    let mid = state g.S.Store c.add_all.new.tx.conn.now in
    let end = c.commit.new.self.0 in
    let same : end ≡ c.conn-2-1.given.0 = search rules in
    let last : HasCleanDisk (state g.S.Store end) = subst (λ h. HasCleanDisk (state g.S.Store h)) (sym same) clean in
    let fits : FitsSigned w64 c.in_ok-count.count = search rules in
    let count : to_z w64 (of_z w64 c.in_ok-count.count) ≡ c.in_ok-count.count = to_z-of_z w64 c.in_ok-count.count fits in
    let from : to_z w64 (of_z w64 c.args.last) ≡ c.args.last = to_z-of_z w64 c.args.last c.ranges.last in
    let added = subst (λ n. (c.in_ok-count.count ≡ n +ℤ pos (length c.args.more.now)) × Adds n c.args.more.now (state g.S.Store c.transaction-tx.result.conn.now).now mid.now) from
    (c.in_ok-count.ensures.added (omega (arith, c.commit.ensures.survives.clean, last))) in
    let begun : Adds c.args.last c.args.more.now (state g.S.Store c.args.conn.now).now mid.now = rw c.transaction-tx.ensures.begun at added.1 in
    let kept : Adds c.args.last c.args.more.now (state g.S.Store c.args.conn.now).now (state g.S.Store end).now =
    subst (Adds c.args.last c.args.more.now (state g.S.Store c.args.conn.now).now) (sym (c.in_ok-commit.ensures.ok last).1.now_is) begun in
    (subst (λ n. n ≡ c.args.last +ℤ pos (length c.args.more.now)) (sym count) added.0, subst (λ h. Adds c.args.last c.args.more.now (state g.S.Store c.args.conn.now).now (state g.S.Store h).now) same kept)
