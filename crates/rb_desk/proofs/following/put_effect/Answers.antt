use Rattle.std.proofs.Common.{◌≡◌, List, rules, to_z, of_z, w64}
use Rattle.rb_causes.specs.declared.row.Row.{Row}
use Rattle.rb_tables.specs.Changes.{Comes, IsEffect}
use Rattle.rb_tables.specs.Tables.{IsTabled}
use Rattle.rb_desk.proofs.Committing.{change_comes}
use Rattle.rb_desk.proofs.following.put_effect.Goals as goal
use Rattle.rb_desk.proofs.following.put_effect.Goals.{After-counted_bytes}

pub prepare-requires : goal.prepare-requires
prepare-requires c = (c.requires.0, c.args.row.now, c.requires.1, c.requires.2)

comes : (c : After-counted_bytes) (past : List Row) → IsTabled c.args.tables.now past
    → IsEffect past c.args.row.now c.args.effect
    → Comes c.prepare.new.tables (to_z w64 (of_z w64 c.args.row.now.at)) c.counted_bytes.result
    c.args.effect past c.args.row.now
comes c past tabled is =
    let at : to_z w64 (of_z w64 c.args.row.now.at) ≡ c.args.row.now.at = search rules in
    change_comes c.prepare.new.tables past c.args.row.now c.args.effect
    (to_z w64 (of_z w64 c.args.row.now.at)) c.counted_bytes.result
    (c.prepare.ensures.same past tabled) is at c.counted_bytes.ensures

pub apply-requires-clause-comes : goal.apply-requires-clause-comes
apply-requires-clause-comes c =
    (c.requires.0, c.args.row.now, comes c c.requires.0 c.requires.1 c.requires.2)

pub returns-clause-ok : goal.returns-clause-ok
returns-clause-ok c past tabled is =
    c.apply.ensures past c.args.row.now
    (comes (goal.at.returns-clause-ok c).After-counted_bytes past tabled is)
