use Rattle.std.proofs.Common.{◌≡◌, ◌∙◌, ◌∷◌, List, nat_eq, ap, sym, subst, refl, arith, rules, to_z, of_z, w64, SFits}
use Rattle.std.specs.List.{list_any}
use Rattle.std.proofs.Math.Facts.{to_z-of_z}
use Rattle.std.proofs.lemmas.Bool.{false≢true, eqb-true}
use Rattle.std.proofs.lemmas.Map.Views.{Contains-from_any}
use Rattle.rb_causes.specs.declared.row.Row.{Row}
use Rattle.rb_log.specs.LogState.{log_state, moment, moment_by}
use Rattle.rb_log.specs.Rows.{close_row}
use Rattle.rb_tables.specs.Tables.{AreLogTables, IsTabled}
use Rattle.rb_desk.proofs.Askable.{any_has}
use Rattle.rb_desk.proofs.Followed.{close_comes, close_differs, close_unasked}
use Rattle.rb_desk.proofs.OpenDoors.{open_low}
use Rattle.rb_desk.proofs.Stepping.{same_number}
use Rattle.rb_desk.proofs.following.follow_close.Goals as goal
use Rattle.rb_desk.proofs.following.follow_close.Goals.{After-has_door, then-not-has_door-via-then-not-has_door, then-not-has_door-via-else-not-has_door+then-not-is_same_row}

pub returns-then-row-ge-MOST_DOORS : goal.returns-then-row-ge-MOST_DOORS
returns-then-row-ge-MOST_DOORS c past tabled is =
    close_unasked past c.args.row.now is
    (λ has. absurd (omega (
      arith,
      c.if-row-ge-MOST_DOORS.true,
      open_low past c.args.row.now.a tabled.legal has,
    )))

-- the moment of a row behind the log
moment_here : (c : After-has_door) (past : List Row) → IsTabled c.args.tables.now past
    → to_z w64 (of_z w64 c.moment-at.result) ≡ moment (log_state past) c.args.row.now.at
moment_here c past tabled =
    let fits : SFits w64 c.moment-at.result = record { sfits = c.moment-at.type_inv } in
    let at : to_z w64 (of_z w64 c.args.row.now.at) ≡ c.args.row.now.at = search rules in
    to_z-of_z fits ∙ c.moment-at.ensures ∙ ap (moment_by c.args.tables.now.last) at
    ∙ ap (λ l. moment_by l c.args.row.now.at) tabled.says.last

-- whether the door is open
door_here : (c : After-has_door) (past : List Row) → IsTabled c.args.tables.now past
    → c.has_door.result ≡ list_any (nat_eq c.args.row.now.a) (log_state past).doors
door_here c past tabled =
    c.has_door.ensures
    ∙ ap (list_any (nat_eq c.args.row.now.a)) (c.as_slice.ensures.value ∙ tabled.says.doors)

pub returns-then-not-has_door : goal.returns-then-not-has_door
returns-then-not-has_door c past tabled is =
    let row : Row = c.args.row.now in
    let here = (goal.at.returns-then-not-has_door c).After-has_door in
    let now_is = moment_here here past tabled in
    let door_is = door_here here past tabled in
    elim c.then-not-has_door.branch [
      | then-not-has_door-via-then-not-has_door w ↦ close_unasked past row is
          (λ has. false≢true (sym w.if-not-has_door.true ∙ door_is
          ∙ any_has nat_eq same_number row.a (log_state past).doors has))
      | then-not-has_door-via-else-not-has_door+then-not-is_same_row w ↦
          close_differs past row is
          (λ same. false≢true (w.if-not-is_same_row.ensures.1 (w.close_row.ensures
          ∙ ap (λ t. close_row t row.a) now_is ∙ same)))
    ]

pub returns : goal.returns
returns c past tabled is =
    let row : Row = c.args.row.now in
    let here = (goal.at.returns c).After-has_door in
    let now_is = moment_here here past tabled in
    let made : c.close_row.result ≡ close_row (moment (log_state past) row.at) row.a =
    c.close_row.ensures ∙ ap (λ t. close_row t row.a) now_is in
    let same : close_row (moment (log_state past) row.at) row.a ≡ row =
    sym made ∙ c.if-not-is_same_row.ensures.0 refl in
    close_comes past row c.put_close.new.tables is
    (Contains-from_any eqb-true row.a (log_state past).doors
    (sym (door_here here past tabled) ∙ c.if-not-has_door.false)) c.requires.at same
    (subst (λ r. AreLogTables c.put_close.new.tables (log_state (r ∷ past)))
    (ap (λ t. close_row t row.a) now_is ∙ same) (c.put_close.ensures past tabled))
