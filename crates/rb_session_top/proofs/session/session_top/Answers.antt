use Rattle.std.proofs.Common.{[], ◌∷◌, ◌++◌, ◌∙◌, SFits, ap, arith, option_map, refl, subst, sym, w64}
use Rattle.std.proofs.Math.Facts.{to_z-of_z}
use Rattle.rb_desk.specs.Opening.{IsOpenCause, asked_of, opening_row}
use Rattle.rb_session_top.specs.Sessions.{session_asked}
use Rattle.rb_causes.proofs.Written.{rose_since}
use Rattle.rb_tables.specs.Tables.{most_rows}
use Rattle.rb_session.specs.Fetching.{EndsBy, sight}
use Rattle.rb_session.specs.Statuses.{EndsAsTold}
use Rattle.rb_session_top.specs.Sights.{desk_sight}
use Rattle.rb_session_top.specs.Stories.{Opened, Unfetched, Unopened, Wanting, stop_done, stop_unopened}
use Rattle.rb_command.specs.Lines.{memory_line}
use Rattle.rb_command.specs.Told.{Tells}
use Rattle.rb_session_top.proofs.Openings.{door_there, worker_there}
use Rattle.rb_session_top.proofs.Telling.{
  no_line,
  no_store,
  not_line,
  not_shelf,
  seen_cause,
  shelf_rose,
  store_rose,
}
use Rattle.rb_session_top.proofs.session.session_top.Goals as goal

pub open-requires-clause-room : goal.open-requires-clause-room
unfolding most_rows
open-requires-clause-room g c = omega arith

pub serve-status-requires-clause-worker : goal.serve-status-requires-clause-worker
serve-status-requires-clause-worker g c =
    let opens = c.in-Ok-open.ensures.ok in
    worker_there c.in-Ok-open.desk.log opens.held c.args.draw 2000000 _ opens.log

pub serve-status-requires-clause-door : goal.serve-status-requires-clause-door
serve-status-requires-clause-door g c =
    let opens = c.in-Ok-open.ensures.ok in
    door_there c.in-Ok-open.desk.log opens.held c.args.draw 2000000 _ opens.log

pub returns-in-Err-clause-session : goal.returns-in-Err-clause-session
returns-in-Err-clause-session g c =
    let told = c.in-Err.ensures.told in
    let old = sight (g.F.Shelf.files c.args.shelf.now) (g.F.Shelf.faults c.args.shelf.now) in
    let new = sight (g.F.Shelf.files c.fetch_all.new.shelf)
    (g.F.Shelf.faults c.fetch_all.new.shelf) in
    let before = g.O.Sink.shown c.args.out.now in
    let after = g.O.Sink.shown c.fetch_all.new.out in
    let name = c.in-Some.name.now in
    record {
      story = Unfetched told.0 told.1;
      happened = (
        record { no_desk = refl; line = refl; spawner = refl },
        refl,
        (name, sym c.manifest_in.ensures ∙ ap (λ o. option_map (λ n. n.now) o) c.in-Some.is, told.2),
      );
      ended = told.3;
      causes = record {
        shelf = λ is. shelf_rose old new name told.0 c.in-Err.status before after told.1 told.2
            told.3 is;
        line = λ is. absurd (no_line old new name told.0 c.in-Err.status before after told.1
            told.3 is);
        keeper = λ is. absurd (no_store old new name told.0 c.in-Err.status before after told.1
            told.3 is);
      };
      faults = record {
        files = c.fetch_all.ensures.files;
        shelf = c.fetch_all.ensures.faults;
        line = omega arith;
        spawner = omega arith;
        keeper = omega arith;
      };
    }

pub returns-in_default-new-clause-session : goal.returns-in_default-new-clause-session
returns-in_default-new-clause-session g c = record {
  story = Wanting;
  happened = (record { no_desk = refl; line = refl; spawner = refl }, refl);
  ended = record {
    is = refl;
    told = subst (λ before. Tells memory_line before (g.O.Sink.shown c.tell_memory.new.out))
        c.in-Ok.ensures.silent c.tell_memory.ensures;
  };
  causes = record {
    shelf = λ is. absurd (grind (arith, is));
    line = λ is. absurd (grind (arith, is));
    keeper = λ is. absurd (grind (arith, is));
  };
  faults = record {
    files = c.fetch_all.ensures.files;
    shelf = c.fetch_all.ensures.faults;
    line = omega arith;
    spawner = omega arith;
    keeper = omega arith;
  };
}

pub returns-in-Ok-open-clause-session : goal.returns-in-Ok-open-clause-session
unfolding most_rows
returns-in-Ok-open-clause-session g c =
    let served = c.serve-status.ensures.served in
    let opens = c.in-Ok-open.ensures.ok in
    let at = c.now.result in
    let fits : SFits w64 at = record { sfits = c.now.type_inv } in
    let desk = c.serve-status.new.clerk.desk in
    let is_desk = c.log-log.ensures.desk in
    let later = c.in-Ok-open.ensures.faults_ok in
    record {
      story = Opened (record {
        manifest = c.in-Ok.had.0;
        documents = c.in-Ok.had.1.items;
        imports = served.imports;
        stop = served.stop;
        course = served.course;
      });
      happened = (
        desk_sight desk,
        refl,
        (
          c.in-Some.name.now,
          sym c.manifest_in.ensures ∙ ap (λ o. option_map (λ n. n.now) o) c.in-Some.is,
          record {
            documents = c.in-Ok.ensures.had;
            opened = desk_sight c.in-Ok-open.desk;
            faults = g.K.Keeper.faults c.in-Ok-open.desk.keeper;
            opening = record {
              held = opens.held;
              at = at;
              moment = c.now.ensures.may_be;
              holds = opens.holds;
              good = opens.good;
              log = opens.log
                  ∙ ap (λ a. opens.held ++ opening_row opens.held (session_asked c.args.draw a) ∷ [])
                  (to_z-of_z fits);
              saved = opens.saved;
              room = opens.room;
            };
            done = served.done;
            legal = is_desk.legal;
            kept = record {
              within = is_desk.saved;
              held = is_desk.kept;
              waiting = is_desk.waiting;
              saved = served.saved;
            };
          },
        ),
      );
      ended = subst (λ before. EndsAsTold (stop_done served.stop served.course)
          c.serve-status.result before (g.O.Sink.shown c.serve-status.new.out))
          c.in-Ok.ensures.silent served.ended;
      causes = record {
        shelf = λ is. absurd (c.serve-status.ensures.no_shelf is);
        line = λ is. c.serve-status.ensures.line_fault is;
        keeper = λ is. rose_since (g.K.Keeper.faults c.args.keeper)
            (g.K.Keeper.faults c.in-Ok-open.desk.keeper) (g.K.Keeper.faults desk.keeper) later
            (c.serve-status.ensures.store is);
      };
      faults = record {
        files = c.fetch_all.ensures.files;
        shelf = c.fetch_all.ensures.faults;
        line = c.serve-status.ensures.line;
        spawner = c.serve-status.ensures.spawner;
        keeper = omega (arith, later, c.serve-status.ensures.keeper);
      };
    }

pub returns-clause-session : goal.returns-clause-session
returns-clause-session g c =
    let e = c.in-Err-open.error in
    let keeper = c.in-Err-open.keeper in
    let at = c.now.result in
    let fits : SFits w64 at = record { sfits = c.now.type_inv } in
    let cause = subst (λ a. IsOpenCause g.K.Keeper.rows g.K.Keeper.faults c.args.keeper keeper
    (asked_of 1 1 c.args.draw 2000000 a) e) (to_z-of_z fits) c.in-Err-open.ensures.cause in
    let before = g.O.Sink.shown c.args.out.now in
    let after = g.O.Sink.shown c.tell_unopened.new.out in
    let ends : EndsBy (stop_unopened e) c.tell_unopened.result before after =
    subst (λ b. EndsBy (stop_unopened e) c.tell_unopened.result b after)
    c.in-Ok.ensures.silent c.tell_unopened.ensures in
    record {
      story = Unopened e;
      happened = (
        record { no_desk = refl; line = refl; spawner = refl },
        (
          c.in-Some.name.now,
          sym c.manifest_in.ensures ∙ ap (λ o. option_map (λ n. n.now) o) c.in-Some.is,
          record {
            manifest = c.in-Ok.had.0;
            documents = c.in-Ok.had.1.items;
            had = c.in-Ok.ensures.had;
            at = at;
            moment = c.now.ensures.may_be;
            cause = seen_cause g.K.Keeper.rows g.K.Keeper.faults c.args.keeper keeper c.args.draw at
                e cause;
            rows = c.in-Err-open.ensures.unchanged;
          },
        ),
      );
      ended = ends;
      causes = record {
        shelf = λ is. absurd (not_shelf e c.tell_unopened.result before after ends is);
        line = λ is. absurd (not_line e c.tell_unopened.result before after ends is);
        keeper = λ is. store_rose g.K.Keeper.rows g.K.Keeper.faults c.args.keeper keeper
            (asked_of 1 1 c.args.draw 2000000 at) e c.tell_unopened.result before after cause
            ends is;
      };
      faults = record {
        files = c.fetch_all.ensures.files;
        shelf = c.fetch_all.ensures.faults;
        line = omega arith;
        spawner = omega arith;
        keeper = c.in-Err-open.ensures.faults_err;
      };
    }
