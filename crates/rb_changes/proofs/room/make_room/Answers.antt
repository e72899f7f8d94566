use Rattle.std.proofs.Common.{subst}
use Rattle.rb_tables.specs.Changes.{IsBeginEffect, IsEffect, IsWithdrawEffect}
use Rattle.rb_tables.proofs.Ended.{starts_run}
use Rattle.rb_tables.proofs.DeskAt.{desk_there}
use Rattle.rb_tables.proofs.Saying.{desk_low}
use Rattle.rb_changes.proofs.room.make_room.Goals as goal

pub ready-requires : goal.ready-requires
ready-requires c =
    let past = c.requires.0 in
    let row = c.requires.1 in
    let effect : IsBeginEffect past row c.in-Begin.place c.in-Begin.field-1 c.in-Begin.field-2 =
    subst (IsEffect past row) c.in-Begin.is c.requires.3 in
    let says = (c.reserve.ensures.same past c.requires.2).says in
    let there = desk_there c.reserve.new.tables past says c.in-Begin.place effect.execution
    effect.at.found in record {
      execution = there.execution;
      found = there.found;
      logged = effect.execution;
      is = there.entry.is;
      goes_on = starts_run effect.execution c.in-Begin.field-1 effect.first;
    }

pub reserve_withdrawn-requires : goal.reserve_withdrawn-requires
reserve_withdrawn-requires c =
    let past = c.requires.0 in
    let row = c.requires.1 in
    let effect : IsWithdrawEffect past row c.in-Withdraw.new =
    subst (IsEffect past row) c.in-Withdraw.is c.requires.3 in
    let says = (c.reserve.ensures.same past c.requires.2).says in
    desk_low c.reserve.new.tables past says c.in-Withdraw.new.place effect.execution
    effect.at.found
