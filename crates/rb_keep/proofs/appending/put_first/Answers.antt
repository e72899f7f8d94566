use Rattle.std.proofs.Common.{◌≡◌, ◌++◌, pos, ◌+ℤ◌, length, sym, subst, arith, rules, w64, to_z, of_z, FitsSigned}
use Rattle.std.proofs.lemmas.Int.{to_z-of_z}
use Rattle.sqlite.specs.Held.{state}
use Rattle.sqlite.specs.State.{HasCleanDisk}
use Rattle.rb_keep.specs.Tables.{Adds, Makes, Stores}
use Rattle.rb_keep.proofs.Passing.{clean_before}
use Rattle.rb_keep.proofs.Settling.{stores_more}
use Rattle.rb_keep.proofs.appending.put_first.Goals as goal

pub returns-clause-added : goal.returns-clause-added
returns-clause-added g c clean =
    let old = state g.S.Store c.args.conn.now in
    let made = state g.S.Store c.make_entries.new.tx.conn.now in
    let mid = state g.S.Store c.add_all.new.tx.conn.now in
    let rows = c.args.more.now in
    let end = c.commit.new.self.0 in
    let same : end ≡ c.conn-2-1.given.0 = search rules in
    let last : HasCleanDisk (state g.S.Store end) = subst (λ h. HasCleanDisk (state g.S.Store h)) (sym same) clean in
    let second : HasCleanDisk mid = omega (arith, c.commit.ensures.survives.clean, last) in
    let first : HasCleanDisk made = clean_before made mid c.add_all.ensures.stays.passes second in
    let fits : FitsSigned w64 c.in_ok-count.count = search rules in
    let count : to_z w64 (of_z w64 c.in_ok-count.count) ≡ c.in_ok-count.count = to_z-of_z w64 c.in_ok-count.count fits in
    let from : to_z w64 (of_z w64 c.args.last) ≡ c.args.last = to_z-of_z w64 c.args.last c.ranges.last in
    let makes : Makes old.now made.now = rw c.transaction-tx.ensures.begun at (c.in_ok-make_entries.ensures.made first) in
    let added = subst (λ n. (c.in_ok-count.count ≡ n +ℤ pos (length rows)) × Adds n rows made.now mid.now) from (c.in_ok-count.ensures.added second) in
    let kept : Adds c.args.last rows made.now (state g.S.Store end).now = subst (Adds c.args.last rows made.now) (sym (c.in_ok-commit.ensures.ok last).1.now_is) added.1 in (
      subst (λ n. n ≡ c.args.last +ℤ pos (length rows)) (sym count) added.0,
      λ log is stores. subst (λ h. Stores (state g.S.Store h).now (log ++ rows)) same (stores_more c.args.last rows old.now made.now makes (state g.S.Store end).now kept log is stores),
    )
