use Rattle.std.proofs.Common.{subst, sym}
use Rattle.rb_tables.specs.Tables.{AreEntries}
use Rattle.rb_looks.proofs.ProjectShows.{page_told}
use Rattle.rb_looks.proofs.looking.executions_in.Goals as goal

pub returns-in_ok-shown_page-in-Some : goal.returns-in_ok-shown_page-in-Some
returns-in_ok-shown_page-in-Some c ls are =
    page_told c.args.tables.now.world ls
    c.args.caller.now c.args.project.now c.args.max c.args.offset c.args.status
    c.in-Some.found.now c.in_ok-choice-in-Some.choice c.in_ok-shown_page-in-Some.field-0
    (rw c.as_slice.ensures at c.in-Some.ensures)
    (rw c.in_ok-copy-in-Some.ensures at c.in_ok-choice-in-Some.ensures)
    (c.in_ok-shown_page-in-Some.ensures ls
    (subst (λ es. AreEntries es ls) (sym c.as_slice-in-Some.ensures.value) are))
