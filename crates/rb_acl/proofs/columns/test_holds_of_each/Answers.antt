use Rattle.std.proofs.Common.{◌≡◌, IfOk, map, subst, sym}
use Rattle.rb_acl.specs.Applying.{test_holds}
use Rattle.rb_acl.proofs.columns.test_holds_of_each.Goals as goal

pub returns-in-Match : goal.returns-in-Match
returns-in-Match c =
    subst
    (λ test. IfOk c.patterns_match_each.result (λ marks. marks.items
    ≡ map (λ resource. test_holds resource test) c.args.resources.now))
    (sym c.in-Match.is)
    (rw (c.as_str.ensures, c.as_slice.ensures) at c.patterns_match_each.ensures)
