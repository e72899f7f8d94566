use Rattle.std.proofs.Common.{◌≡◌, ◌∙◌, ◌++◌, ◌∷◌, [], ap, reverse, arith, rules}
use Rattle.rb_desk.specs.Beginning.{row_of}
use Rattle.rb_desk.proofs.Openings.{begun_desk}
use Rattle.rb_desk.proofs.desk.Desk.begin.Goals as goal

pub invariant_of-result : goal.invariant_of-result
invariant_of-result g c =
    let o = c.args.opening in
    let old = c.args.ledger in
    let row_is : c.in-Ok.row ≡ row_of o = search rules in
    begun_desk c.opening_settles.ensures g.K.Keeper.rows old c.add.new.self c.args.tables
    c.put_opening.new.tables o c.args.room c.requires.may
    (c.in-Ok-add.ensures.ok ∙ ap (λ r. old.log ++ r ∷ []) row_is) c.in-Ok-add.ensures.saved
    c.add.ensures.held (omega (arith, c.len-doors.ensures, c.in-Ok-add.ensures.spare))
    (c.put_opening.ensures (reverse old.log) (row_of o) (record {
      tabled = c.requires.may.tabled;
      is = c.requires.may.is;
    }))

pub returns-in-Ok-add-clause-desk : goal.returns-in-Ok-add-clause-desk
returns-in-Ok-add-clause-desk g c = (invariant_of-result g c).0
