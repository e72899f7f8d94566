use Rattle.std.proofs.Common.{◌≡◌, refl, sym, subst}
use Rattle.std.proofs.lemmas.Bool.{false≢true}
use Rattle.rb_causes.specs.declared.row.Row.{Row}
use Rattle.rb_log.specs.Legal.{MayCome}
use Rattle.rb_log.specs.LogState.{log_state}
use Rattle.rb_tables.specs.Changes.{IsEffect}
use Rattle.rb_desk.specs.Following.{IsUnfit}
use Rattle.rb_desk.proofs.Followed.{change_differs, change_follows}
use Rattle.rb_desk.proofs.following.follow_change.Goals as goal

pub put_effect-requires : goal.put_effect-requires
put_effect-requires c =
    let past = c.requires.may.0 in
    let named = c.in_ok-change.ensures past c.requires.may.1 c.requires.may.2 in (
      past,
      c.requires.may.1,
      subst (IsEffect past c.args.row.now) (sym c.effect_of.ensures)
          (subst (λ r. IsEffect past r c.in_ok-change.change.effect)
          (c.if-is_same_row.ensures.0 refl) named.decided.1),
    )

pub returns-then-is_same_row : goal.returns-then-is_same_row
returns-then-is_same_row c past tabled other =
    let row : Row = c.args.row.now in
    let change = c.in_ok-change.change in
    let named = c.in_ok-change.ensures past tabled other in
    let same : change.row ≡ row = c.if-is_same_row.ensures.0 refl in
    let effect : IsEffect past row c.effect_of.result =
    subst (IsEffect past row) (sym c.effect_of.ensures)
    (subst (λ r. IsEffect past r change.effect) same named.decided.1) in
    change_follows past row change c.put_effect.new.tables c.put_effect.result other c.requires.at
    named same (c.put_effect.ensures.ok past tabled effect) c.put_effect.ensures.err

pub returns-else-is_same_row : goal.returns-else-is_same_row
returns-else-is_same_row c past tabled other =
    let row : Row = c.args.row.now in
    subst (IsUnfit (MayCome (log_state past) row)) (sym c.unlike.ensures)
    (change_differs past row c.in_ok-change.change other
    (c.in_ok-change.ensures past tabled other)
    (λ same. false≢true (c.if-is_same_row.ensures.1 same)))
