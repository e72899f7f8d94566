use Rattle.std.proofs.Common.{◌≡◌, subst, sym, rules, to_z, of_z, w64}
use Rattle.rb_causes.specs.Moments.{IsMoment}
use Rattle.rb_desk.proofs.Askable.{moment_is}
use Rattle.rb_desk.proofs.following.follow.Goals as goal
use Rattle.rb_desk.proofs.following.follow.Goals.{Else-not-is_moment}

moment_here : (c : Else-not-is_moment) → IsMoment c.args.row.now.at
moment_here c =
    let at : to_z w64 (of_z w64 c.args.row.now.at) ≡ c.args.row.now.at = search rules in
    subst IsMoment at (moment_is _ (sym c.if-not-is_moment.ensures))

pub follow_opening-requires-in-1-clause-at : goal.follow_opening-requires-in-1-clause-at
follow_opening-requires-in-1-clause-at c =
    moment_here (goal.at.follow_opening-requires-in-1-clause-at c).Else-not-is_moment

pub follow_end-requires-clause-at : goal.follow_end-requires-clause-at
follow_end-requires-clause-at c =
    moment_here (goal.at.follow_end-requires-clause-at c).Else-not-is_moment

pub follow_close-requires-clause-at : goal.follow_close-requires-clause-at
follow_close-requires-clause-at c =
    moment_here (goal.at.follow_close-requires-clause-at c).Else-not-is_moment

pub follow_change-requires-clause-at : goal.follow_change-requires-clause-at
follow_change-requires-clause-at c =
    moment_here (goal.at.follow_change-requires-clause-at c).Else-not-is_moment
