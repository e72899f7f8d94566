use Rattle.std.proofs.Common.{Contains, None, Some, [], append-nil, refl, subst, sym}
use Rattle.rb_desk.specs.Steps.{told_of}
use Rattle.rb_session.specs.Courses.{RunsCourse}
use Rattle.rb_session.specs.Statuses.{EndsAsTold, farewell_end, farewell_of, saving_of}
use Rattle.rb_session.specs.Visits.{scene}
use Rattle.rb_session_top.proofs.serving.serve.Goals as goal

pub run_course-farewell-requires-clause-worker : goal.run_course-farewell-requires-clause-worker
run_course-farewell-requires-clause-worker g c =
    subst (λ ws. Contains ws 0) (sym c.import_all-imported.ensures.goes.workers) c.requires.worker

pub run_course-farewell-requires-clause-door : goal.run_course-farewell-requires-clause-door
run_course-farewell-requires-clause-door g c =
    subst (λ ds. Contains ds 0) (sym c.import_all-imported.ensures.goes.doors) c.requires.door

pub returns-clause-served : goal.returns-clause-served
returns-clause-served g c =
    let may_be = g.C.Clock.may_be c.args.clock.now in
    let manifest = c.args.manifest.now in
    let imported = told_of g.K.Keeper.faults c.import_all-imported.new.clerk.desk in
    let served = told_of g.K.Keeper.faults c.run_course-farewell.new.clerk.desk in
    let old = scene imported (g.S.Spawner.shown c.args.spawner.now)
    (g.L.Line.callers c.args.line.now) c.args.tools.now.buffer in
    let new = scene served (g.S.Spawner.shown c.run_course-farewell.new.spawner)
    (g.L.Line.callers c.run_course-farewell.new.line) c.run_course-farewell.new.buffer in
    let ran = c.run_course-farewell.ensures.runs in
    let course = subst (λ tokens. RunsCourse may_be tokens manifest.inline old new ran.0)
    c.as_slice.ensures ran.1 in
    let saved = c.save-saving.ensures in
    let all = c.in_default.ensures.ok in
    let after = g.O.Sink.shown c.tell_end.new.out in
    record {
      imports = all.made;
      stop = None;
      course = Some (ran.0, saved.0);
      done = record {
        imported = imported;
        acted = all.acted;
        imports = all.imports;
        stopped = refl;
        served = record {
          pending = c.args.tools.now.buffer;
          pending' = c.run_course-farewell.new.buffer;
          served = served;
          course = course;
          programs = c.courses_run.ensures manifest.tokens manifest.inline old new ran.0 served.log
              course ([], sym (append-nil served.log));
          guests = c.courses_serve.ensures manifest.tokens manifest.inline old new ran.0 course;
          saves = saved.1;
          asked = saved.2;
        };
      };
      saved = saved.4;
      ended = subst (λ before. EndsAsTold (farewell_end (farewell_of ran.0)
          (saving_of saved.0.answer)) c.tell_end.result before after)
          c.in_default.ensures.silent
          (subst (λ s. EndsAsTold (farewell_end (farewell_of ran.0) s) c.tell_end.result
          (g.O.Sink.shown c.import_all-imported.new.out) after) saved.3
          (subst (λ f. EndsAsTold (farewell_end f c.save-saving.result) c.tell_end.result
          (g.O.Sink.shown c.import_all-imported.new.out) after) ran.2 c.tell_end.ensures));
    }
