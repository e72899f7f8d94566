use Rattle.rb_tools.proofs.instants.+push_upcoming.Given as goal

abbrev pub decreases-push_upcoming : goal.decreases-push_upcoming
decreases-push_upcoming l = l.count
