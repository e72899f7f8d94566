use Rattle.std.proofs.Common.{sym, subst, ◌≤◌, length}
use Rattle.rb_changes.proofs.Puts.{place_within}
use Rattle.rb_changes.proofs.named.find_place.Goals as goal

pub returns-else-is_at-clause-err : goal.returns-else-is_at-clause-err
returns-else-is_at-clause-err g c = record {
  free = sym c.if-is_at.ensures;
  place = c.place_of-place.ensures;
  within = subst (λ k. k ≤ length c.args.all.now) (sym c.place_of-place.ensures)
      (place_within g.T.Named.name_of c.args.name.now c.args.all.now);
}
