use Rattle.std.proofs.Common.{◌∙◌, Result, Ok, Err, OnOk, length, refl, subst, sym, arith}
use Rattle.std.proofs.lemmas.Option.{slice_get_read, slice_get_within}
use Rattle.rb_causes.proofs.Lists.{some_is}
use Rattle.rb_tables.specs.Tables.{IsOf}
use Rattle.rb_tables.proofs.Entries.{entries_anew}
use Rattle.rb_tables.proofs.Lists.{set_there}
use Rattle.rb_changes.proofs.room.ready.Goals as goal

on_ok : {T E : Type 0} (r : Result T E) (P Q : Type 0) → OnOk r P → (P → Q) → OnOk r Q
on_ok (Ok x) P Q h f = f h
on_ok (Err e) P Q h f = tt

pub index_mut-requires : goal.index_mut-requires
index_mut-requires c =
    let low = slice_get_within c.args.executions.now.items c.args.place c.requires.execution
    c.requires.found in
    omega (arith, low, c.args.executions.now.ok.0)

pub ready-requires : goal.ready-requires
ready-requires c =
    let all = c.args.executions.now.items in
    let low = slice_get_within all c.args.place c.requires.execution c.requires.found in (
      c.requires.logged,
      subst (λ x. IsOf x c.requires.logged)
          (some_is c.requires.execution c.index_mut.result.now
          (sym c.requires.found
          ∙ slice_get_read all (length all) c.args.place c.index_mut.result.now refl low
          c.index_mut.ensures.value)) c.requires.is,
      c.requires.goes_on,
    )

pub returns-clause-room : goal.returns-clause-room
returns-clause-room c =
    let all = c.args.executions.now.items in
    on_ok c.ready.result _ _ c.ready.ensures.room (λ room. record {
      execution = c.ready.new.self;
      found = set_there all c.args.place c.ready.new.self
          (slice_get_within all c.args.place c.requires.execution c.requires.found);
      room = room;
    })

pub returns-clause-same : goal.returns-clause-same
returns-clause-same c ls are =
    let all = c.args.executions.now.items in
    entries_anew all ls are c.args.place c.index_mut.result.now c.ready.new.self
    (slice_get_read all (length all) c.args.place c.index_mut.result.now refl
    (slice_get_within all c.args.place c.requires.execution c.requires.found)
    c.index_mut.ensures.value)
    (λ l is. c.ready.ensures.same l is)
