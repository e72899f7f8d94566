use Rattle.std.proofs.Common.{◌≡◌, ℕ, ℤ, List, subst, sym}
use Rattle.std.proofs.Math.Facts.{to_z-of_z}
use Rattle.rb_causes.specs.declared.row.Row.{Row}
use Rattle.rb_tables.specs.Changes.{Comes}
use Rattle.rb_tables.specs.declared.change.TableEffect.{TableEffect}
use Rattle.rb_tables.specs.declared.tables.Tables.{Tables}
use Rattle.rb_changes.proofs.applying.apply.Goals as goal

-- what comes with an effect comes with this one, which is the same
comes_so : (t : Tables) (at seen : ℤ) (counted : ℕ) (e same : TableEffect) (past : List Row)
    (row : Row) → seen ≡ at → e ≡ same → Comes t at counted e past row
    → Comes t seen counted same past row
comes_so t at seen counted e same past row is_at is h =
    subst (λ (z : ℤ). Comes t z counted same past row) (sym is_at)
    (subst (λ (x : TableEffect). Comes t at counted x past row) is h)

pub returns-in-Run : goal.returns-in-Run
returns-in-Run c past row comes =
    c.put_run.ensures past row
    (comes_so c.args.tables.now c.args.at _ c.args.counted c.args.effect _ past row
    (to_z-of_z c.ranges.at) c.in-Run.is comes)

pub returns-in-Abort : goal.returns-in-Abort
returns-in-Abort c past row comes =
    c.put_abort.ensures past row
    (comes_so c.args.tables.now c.args.at _ c.args.counted c.args.effect _ past row
    (to_z-of_z c.ranges.at) c.in-Abort.is comes)

pub returns-in-Begin : goal.returns-in-Begin
returns-in-Begin c past row comes =
    c.put_begin.ensures past row
    (comes_so c.args.tables.now c.args.at _ c.args.counted c.args.effect _ past row
    (to_z-of_z c.ranges.at) c.in-Begin.is comes)
