use Rattle.std.proofs.Common.{◌≡◌, sym, subst, arith, rules}
use Rattle.sqlite.specs.Held.{state}
use Rattle.sqlite.specs.State.{HasCleanDisk}
use Rattle.rb_keep.specs.Tables.{Second, Holds, Stores}
use Rattle.rb_keep.proofs.Passing.{clean_before}
use Rattle.rb_keep.proofs.reading.settled_rows.Goals as goal

pub returns-clause-settled : goal.returns-clause-settled
returns-clause-settled g c clean log stores =
    let changed = state g.S.Store c.change_format.new.tx.conn.now in
    let read = state g.S.Store c.all_rows.new.tx.conn.now in
    let end = c.commit.new.self.0 in
    let same : end ≡ c.conn-2-1.given.0 = search rules in
    let last : HasCleanDisk (state g.S.Store end) = subst (λ h. HasCleanDisk (state g.S.Store h)) (sym same) clean in
    let second : HasCleanDisk read = omega (arith, c.commit.ensures.survives.clean, last) in
    let first : HasCleanDisk changed = clean_before changed read c.all_rows.ensures.stays.passes second in
    let begun : Stores (state g.S.Store c.transaction-tx.result.conn.now).now log = rw c.transaction-tx.ensures.begun stores in
    let all = c.in_ok-rows.ensures.read second log (c.in_ok-change_format.ensures.settled first log begun) in
    let kept = subst (λ db. Holds Second db log) (sym (c.in_ok-commit.ensures.ok last).1.now_is) all.1 in
    (all.0, subst (λ h. Holds Second (state g.S.Store h).now log) same kept)
