use Rattle.std.proofs.Common.{IfOk, subst, w64}
use Rattle.std.proofs.lemmas.Int.{to_z-of_z}
use Rattle.rb_runs.specs.Claiming.{IsChecked, IsClaim}
use Rattle.rb_runs.proofs.claiming.taken.Goals as goal

pub withdrawal_of-requires : goal.withdrawal_of-requires
withdrawal_of-requires c = (
  c.requires.0,
  c.requires.1,
  c.requires.2,
  subst (IsChecked c.requires.0 c.args.start) c.in-Some.is
      (c.in_ok-refused_again.ensures c.requires.0 c.requires.1 c.requires.2),
)

pub returns-in-Some : goal.returns-in-Some
returns-in-Some c past tabled start =
    subst (λ z. IfOk c.withdrawal_of.result (λ change. IsClaim past z c.args.worker change))
    (to_z-of_z w64 c.args.at c.ranges.at)
    (c.withdrawal_of.ensures past c.args.worker tabled start
    (subst (IsChecked past c.args.start) c.in-Some.is
    (c.in_ok-refused_again.ensures past tabled start)))
