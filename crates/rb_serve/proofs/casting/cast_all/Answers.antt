use Rattle.std.proofs.Common.{◌≡◌, [], All, ap, arith, drop, length, subst, sym}
use Rattle.std.proofs.lemmas.List.{nil_from_length}
use Rattle.rb_serve.specs.Roles.{AreGiven, CanPlay, MayClose, MayEach, MayWork}
use Rattle.rb_serve.proofs.Performed.{are_cast}
use Rattle.rb_serve.proofs.casting.cast_all.Goals as goal

pub cast_doors-requires-clause-room : goal.cast_doors-requires-clause-room
cast_doors-requires-clause-room g c =
    let none = ap length c.requires.roles in
    omega (arith, none, c.requires.room, c.count_of-doors.ensures)

pub cast_doors-requires-clause-may : goal.cast_doors-requires-clause-may
cast_doors-requires-clause-may g c =
    subst (λ n. MayEach MayClose n c.args.passes.now.items) (sym c.count_of-doors.ensures)
    c.requires.closing

pub cast_doors-requires-clause-before : goal.cast_doors-requires-clause-before
cast_doors-requires-clause-before g c =
    subst (All CanPlay) (sym c.requires.roles) (λ k d lt. absurd (omega (arith, lt)))

pub cast_workers-requires-clause-may : goal.cast_workers-requires-clause-may
cast_workers-requires-clause-may g c =
    subst (MayEach MayWork c.count_of-workers.result) (sym c.cast_doors.ensures.rest)
    (subst (λ n. MayEach MayWork c.count_of-workers.result (drop n c.args.passes.now.items))
    (sym c.count_of-doors.ensures)
    (subst (λ n. MayEach MayWork n (drop (length c.args.lines.now.items) c.args.passes.now.items))
    (sym c.count_of-workers.ensures) c.requires.working))

pub returns-clause-cast : goal.returns-clause-cast
returns-clause-cast g c =
    let none : c.cast_workers.new.passes.items ≡ [] =
    nil_from_length c.cast_workers.new.passes.items (omega (
      arith,
      c.cast_workers.ensures.passes,
      c.cast_doors.ensures.passes,
      c.count_of-doors.ensures,
      c.count_of-workers.ensures,
      c.requires.count,
    )) in
    are_cast c.args.passes.now.items c.args.lines.now.items c.args.spawners.now.items
    c.cast_doors.new.roles.items c.cast_workers.new.roles.items c.cast_doors.new.passes.items
    c.cast_workers.new.passes.items c.cast_doors.new.lines.items
    c.cast_workers.new.spawners.items
    (subst (λ l. AreGiven l c.cast_doors.new.roles.items c.args.passes.now.items
    c.cast_doors.new.passes.items c.args.lines.now.items c.cast_doors.new.lines.items [] [])
    c.requires.roles c.cast_doors.ensures.given)
    c.cast_workers.ensures.given none c.cast_doors.ensures.lines c.cast_workers.ensures.spawners

pub returns-clause-none : goal.returns-clause-none
returns-clause-none g c = (
  nil_from_length c.cast_workers.new.passes.items (omega (
    arith,
    c.cast_workers.ensures.passes,
    c.cast_doors.ensures.passes,
    c.count_of-doors.ensures,
    c.count_of-workers.ensures,
    c.requires.count,
  )),
  c.cast_doors.ensures.lines,
  c.cast_workers.ensures.spawners,
)
