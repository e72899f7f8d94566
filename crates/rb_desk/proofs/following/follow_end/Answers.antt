use Rattle.std.proofs.Common.{◌≡◌, ◌∙◌, List, Some, IsTrue, ap, sym, subst, refl, rules, to_z, of_z, w64, SFits}
use Rattle.std.proofs.Math.Facts.{to_z-of_z}
use Rattle.std.proofs.lemmas.Bool.{false≢true}
use Rattle.rb_causes.specs.declared.row.Row.{Row}
use Rattle.rb_log.specs.Legal.{open_leaf}
use Rattle.rb_log.specs.LogState.{execution_at, log_state, moment, moment_by}
use Rattle.rb_log.specs.Rows.{ending_of}
use Rattle.rb_log.specs.Tasks.{is_ending}
use Rattle.rb_tables.specs.Running.{MayEnd}
use Rattle.rb_tables.specs.Tables.{IsTabled}
use Rattle.rb_desk.proofs.Followed.{end_comes, end_differs, ending_formed, reported_here}
use Rattle.rb_desk.proofs.OpenLeaves.{open_leaf_in}
use Rattle.rb_desk.proofs.following.follow_end.Goals as goal
use Rattle.rb_desk.proofs.following.follow_end.Goals.{After-moment-at}

-- the leaf of the row is open
found : (c : After-moment-at) (past : List Row) → IsTabled c.args.tables.now past
    → open_leaf (log_state past).leaves c.args.row.now.a c.args.row.now.b
    (execution_at (log_state past) c.args.row.now.a) ≡ Some c.in-Some.claimed
found c past tabled = sym (c.open_leaf.ensures past tabled) ∙ c.in-Some.is

-- its ending is of the row
formed : (c : After-moment-at)
    → (ending_of c.args.row.now.c ≡ c.in-Some-ending_of.ending)
    × IsTrue (is_ending c.in-Some-ending_of.ending)
formed c =
    ending_formed c.args.row.now.c c.in-Some-ending_of.ending
    (sym c.ending_of.ensures ∙ c.in-Some-ending_of.is)

-- so it may end
ends : (c : After-moment-at) (past : List Row) → IsTabled c.args.tables.now past
    → MayEnd c.args.tables.now past c.in-Some.claimed c.in-Some-ending_of.ending
ends c past tabled = record {
  tabled = tabled;
  claim = open_leaf_in (log_state past).leaves c.args.row.now.a c.args.row.now.b
      (execution_at (log_state past) c.args.row.now.a) c.in-Some.claimed (found c past tabled);
  formed = (formed c).1;
}

-- the moment of a row behind the log
moment_here : (c : After-moment-at) (past : List Row) → IsTabled c.args.tables.now past
    → to_z w64 (of_z w64 c.moment-at.result) ≡ moment (log_state past) c.args.row.now.at
moment_here c past tabled =
    let fits : SFits w64 c.moment-at.result = record { sfits = c.moment-at.type_inv } in
    let at : to_z w64 (of_z w64 c.args.row.now.at) ≡ c.args.row.now.at = search rules in
    to_z-of_z fits ∙ c.moment-at.ensures ∙ ap (moment_by c.args.tables.now.last) at
    ∙ ap (λ l. moment_by l c.args.row.now.at) tabled.says.last

pub ended_row-requires : goal.ended_row-requires
ended_row-requires c =
    (c.requires.tabled.0, ends c c.requires.tabled.0 c.requires.tabled.1)

pub put_end-requires : goal.put_end-requires
put_end-requires c =
    let here = (goal.at.put_end-requires c).After-moment-at in
    (c.requires.tabled.0, ends here c.requires.tabled.0 c.requires.tabled.1)

pub returns-then-not-is_same_row : goal.returns-then-not-is_same_row
returns-then-not-is_same_row c past tabled is =
    let here = (goal.at.returns-then-not-is_same_row c).After-moment-at in
    end_differs past c.args.row.now c.ended_row.result c.in-Some.claimed is
    (found here past tabled)
    (reported_here (log_state past) c.args.row.now c.ended_row.result c.in-Some.claimed
    c.in-Some-ending_of.ending _ (moment_here here past tabled) (formed here).0
    (c.ended_row.ensures past (ends here past tabled)))
    (λ same. false≢true (c.if-not-is_same_row.ensures.1 same))

pub returns : goal.returns
returns c past tabled is =
    let here = (goal.at.returns c).After-moment-at in
    let row : Row = c.args.row.now in
    let may = ends here past tabled in
    let given = c.ended_row.ensures past may in
    let same : c.ended_row.result ≡ row = c.if-not-is_same_row.ensures.0 refl in
    end_comes past row c.ended_row.result c.in-Some.claimed c.put_end.new.tables is
    (found here past tabled) may.claim
    (subst (λ e. IsTrue (is_ending e)) (sym (formed here).0) may.formed) c.requires.at
    (reported_here (log_state past) row c.ended_row.result c.in-Some.claimed
    c.in-Some-ending_of.ending _ (moment_here here past tabled) (formed here).0 given) same
    (c.put_end.ensures past row may (given ∙ ap Some same))
