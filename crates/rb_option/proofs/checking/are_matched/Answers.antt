use Rattle.std.proofs.Common.{◌≡◌, IfOk, subst, sym}
use Rattle.std.specs.List.{list_all}
use Rattle.rb_option.specs.Settled.{is_matched}
use Rattle.rb_option.proofs.Settled.{matched_by_none}
use Rattle.rb_option.proofs.checking.are_matched.Goals as goal

pub returns-in-Some : goal.returns-in-Some
returns-in-Some c =
    subst
    (λ pattern. IfOk c.whole_of_all.result (λ yes. yes
    ≡ list_all (is_matched pattern) c.args.parts.now))
    (sym c.in-Some.is) c.whole_of_all.ensures

pub returns-in-None : goal.returns-in-None
returns-in-None c =
    sym (matched_by_none c.args.pattern.now c.args.parts.now c.in-None.is)
