use Rattle.std.proofs.Common.{◌≡◌, bytes_eq, refl, arith, rules, to_z, of_z, w64}
use Rattle.std.proofs.lemmas.Bool.{false≢true}
use Rattle.rb_causes.specs.declared.row.Row.{Row}
use Rattle.rb_log.specs.Legal.{IsOpening}
use Rattle.rb_log.specs.LogState.{log_state}
use Rattle.rb_log.specs.Rows.{second_form}
use Rattle.rb_desk.proofs.Followed.{opening_comes, opening_may}
use Rattle.rb_desk.proofs.OpeningRows.{opening_of_row}
use Rattle.rb_desk.proofs.following.follow_opening.Goals as goal

pub returns-then-not-is_opening : goal.returns-then-not-is_opening
returns-then-not-is_opening c past tabled first may =
    false≢true ((c.if-not-is_opening.ensures (log_state past) tabled.says).1
    (opening_may past c.args.row.now first may))

pub overflow_cast-row : goal.overflow_cast-row
overflow_cast-row c =
    let is : IsOpening (log_state c.requires.tabled.0) c.args.row.now =
    (c.if-not-is_opening.ensures (log_state c.requires.tabled.0) c.requires.tabled.1.says).0
    refl in
    omega (arith, is.doors.1)

pub overflow_cast-opening : goal.overflow_cast-opening
overflow_cast-opening c =
    let is : IsOpening (log_state c.requires.tabled.0) c.args.row.now =
    (c.if-not-is_opening.ensures (log_state c.requires.tabled.0) c.requires.tabled.1.says).0
    refl in
    omega (arith, is.workers.1)

pub put_opening-requires : goal.put_opening-requires
put_opening-requires c =
    let past = c.requires.tabled.0 in
    let tabled = c.requires.tabled.1 in
    let row : Row = c.args.row.now in
    let is : IsOpening (log_state past) row =
    (c.if-not-is_opening.ensures (log_state past) tabled.says).0 refl in
    let at : to_z w64 (of_z w64 row.at) ≡ row.at = search rules in
    let checks : c.eq.result ≡ bytes_eq row.body second_form = search rules in (
      past,
      row,
      record {
        tabled = tabled;
        is = opening_of_row (log_state past) row _ is at c.in_ok-numbers_below.ensures refl refl
            checks;
      },
    )

pub returns : goal.returns
returns c past tabled first =
    let row : Row = c.args.row.now in
    let is : IsOpening (log_state past) row =
    (c.if-not-is_opening.ensures (log_state past) tabled.says).0 refl in
    let at : to_z w64 (of_z w64 row.at) ≡ row.at = search rules in
    let checks : c.eq.result ≡ bytes_eq row.body second_form = search rules in
    opening_comes past row c.put_opening.new.tables first c.requires.at is
    (c.put_opening.ensures past row (record {
      tabled = tabled;
      is = opening_of_row (log_state past) row _ is at c.in_ok-numbers_below.ensures refl refl
          checks;
    }))
