-- What a spawner gains in a course.
use Rattle.std.proofs.Common.{◌≡◌, ◌∙◌, ℕ, Bool, true, false, List, [], ◌∷◌, ◌++◌, ◌+◌, map, Option, Some, None, ap, refl, sym, subst, append-nil}
use Rattle.std.specs.List.{flat_map}
use Rattle.std.proofs.lemmas.Grind.{flat_map-append}
use Rattle.std.proofs.lemmas.List.{map-append}
use Rattle.rb_causes.specs.Outside.{gained}
use Rattle.rb_causes.specs.Spawners.{Ran, ShownRuns}
use Rattle.rb_causes.specs.declared.row.Row.{Row}
use Rattle.rb_causes.proofs.RanLaws.{ran_nothing, ran_then}
use Rattle.rb_api.specs.declared.token.Token.{Token}
use Rattle.rb_door.specs.Exchanges.{Moments, is_request, turns_of}
use Rattle.rb_door.specs.Guests.{Parting}
use Rattle.rb_door.proofs.Acting.{begins_then}
use Rattle.rb_log.specs.Acted.{Acted}
use Rattle.rb_log.specs.Programs.{program_at, programs_at}
use Rattle.rb_log.specs.Records.{Record}
use Rattle.rb_log.specs.Told.{IsBeginning, Told}
use Rattle.rb_work.specs.PumpLaws.{PumpLaws}
use Rattle.rb_work.specs.Pumping.{HasPumped}
use Rattle.rb_work.specs.Works.{Outside, Work, added_numbers, records_of, task_run}
use Rattle.rb_work.specs.declared.pumped.Pumped.{Pumped}
use Rattle.rb_work.proofs.Records.{acted_begins, acted_split}
use Rattle.rb_work.proofs.WorkPrograms.{works_programs}
use Rattle.rb_work.proofs.Worked.{works_stay}
use Rattle.rb_session.specs.Courses.{Course, RunsCourse}
use Rattle.rb_session.specs.Laws.{CoursesRun, all_works, works_if_any}
use Rattle.rb_session.specs.Visits.{
  Handles,
  HandlesAll,
  Handling,
  Pump,
  PumpsAs,
  PumpsBehind,
  Scene,
  ServesAll,
  Stay,
  standing,
  with_callers,
}

-- by this log the works ran these programs
abbrev pub HaveRun : List Row → List Work → Type 0
HaveRun log ws = programs_at log (flat_map added_numbers ws) ≡ map task_run ws

-- One stretch of a course: its works are all that the spawner gained, by its log and each later
-- one.
pub record Stretch (old new : Outside) (ws : List Work) : Type 0 where
  pub begins : IsBeginning old.clerk.log new.clerk.log
  pub ran : Ran (map task_run ws) old.spawner new.spawner
  pub have_run : (log : List Row) → IsBeginning new.clerk.log log → HaveRun log ws

no_more : (log : List Row) → IsBeginning log log
no_more log = ([], sym (append-nil log))

programs_then : (log : List Row) (xs ys : List Work)
    → programs_at log (flat_map added_numbers (xs ++ ys))
    ≡ programs_at log (flat_map added_numbers xs) ++ programs_at log (flat_map added_numbers ys)
programs_then log xs ys =
    ap (λ ns. flat_map (program_at log) ns) (flat_map-append added_numbers xs ys)
    ∙ flat_map-append (program_at log) (flat_map added_numbers xs) (flat_map added_numbers ys)

run_then : (log : List Row) (xs ys : List Work) → HaveRun log xs → HaveRun log ys
    → HaveRun log (xs ++ ys)
run_then log xs ys h k =
    programs_then log xs ys
    ∙ ap (λ runs. runs ++ programs_at log (flat_map added_numbers ys)) h
    ∙ ap (λ runs. map task_run xs ++ runs) k
    ∙ sym (map-append task_run xs ys)

pub none : (o : Outside) → Stretch o o []
none o = record {
  begins = no_more o.clerk.log;
  ran = ran_nothing o.spawner;
  have_run = λ log more. refl;
}

pub then_ : (a b c : Outside) (xs ys : List Work) → Stretch a b xs → Stretch b c ys
    → Stretch a c (xs ++ ys)
then_ a b c xs ys h k = record {
  begins = begins_then a.clerk.log b.clerk.log c.clerk.log h.begins k.begins;
  ran = subst (λ runs. Ran runs a.spawner c.spawner) (sym (map-append task_run xs ys))
      (ran_then h.ran k.ran);
  have_run = λ log more. run_then log xs ys
      (h.have_run log (begins_then b.clerk.log c.clerk.log log k.begins more))
      (k.have_run log more);
}

-- the desk was asked, and nothing was run
asked : (rs : List Record) (a b : Told) (spawner : ShownRuns) → Acted a b rs
    → Stretch (standing a spawner) (standing b spawner) []
asked rs a b spawner h = record {
  begins = acted_begins rs a b h;
  ran = ran_nothing spawner;
  have_run = λ log more. refl;
}

module _ (laws : PumpLaws) (may_be : Moments) where
  pub pump_stretch : (worker : ℕ) (limit : Option ℕ) (old new : Outside) (said : Pumped)
      (done : HasPumped may_be worker limit old new said) → Stretch old new done.works
  pump_stretch worker limit old new said done =
      let parts =
      acted_split (flat_map records_of done.works) done.last done.mid new.clerk
      done.worked.acted in
      record {
        begins = begins_then old.clerk.log done.mid.log new.clerk.log
            (acted_begins done.ticks old.clerk done.mid done.ticked.acted)
            (acted_begins _ done.mid new.clerk done.worked.acted);
        ran = done.worked.ran;
        have_run = λ log more. works_programs done.at worker log done.works done.mid parts.0
            (works_stay laws done.at worker new.clerk.log log done.works more done.worked.each)
            parts.1 (begins_then parts.0.log new.clerk.log log
            (acted_begins done.last parts.0 new.clerk parts.2) more);
      }

  pumped : (limit : Option ℕ) (old new : Outside) (p : Pump) → PumpsAs may_be limit old new p
      → Stretch old new p.works
  pumped limit old new p h =
      subst (λ ws. Stretch old new ws) h.works (pump_stretch 0 limit old new p.said h.pumped)

  behind : (is_asked : Bool) (limit : Option ℕ) (old new : Outside) (p : Option Pump)
      → PumpsBehind is_asked may_be limit old new p → Stretch old new (works_if_any p)
  behind true limit old new None h = absurd h
  behind true limit old new (Some p) h = pumped limit old new p h
  behind false limit old new p h =
      subst (λ o. Stretch old o (works_if_any p)) (sym h.1)
      (subst (λ q. Stretch old old (works_if_any q)) (sym h.0) (none old))

  module _ (tokens : List Token) (limit : Option ℕ) where
    handled : (old new : Scene) (r : Handling) → Handles may_be tokens limit old new r
        → Stretch old.outside new.outside (works_if_any r.pump)
    handled old new r h =
        then_ old.outside (standing h.between old.outside.spawner) new.outside []
        (works_if_any r.pump)
        (asked (turns_of r.exchange) old.outside.clerk h.between old.outside.spawner h.clerk)
        (behind (is_request r.exchange.heard) limit
        (standing h.between old.outside.spawner) new.outside r.pump h.pump)

    all_handled : (old new : Scene) (rs : List Handling)
        → HandlesAll may_be tokens limit old new rs
        → Stretch old.outside new.outside (flat_map (λ r. works_if_any r.pump) rs)
    all_handled old new [] h = subst (λ (s : Scene). Stretch old.outside s.outside []) (sym h) (none old.outside)
    all_handled old new (r ∷ rs) h =
        then_ old.outside h.0.outside new.outside (works_if_any r.pump)
        (flat_map (λ r. works_if_any r.pump) rs) (handled old h.0 r h.1)
        (all_handled h.0 new rs h.2)

    stays : (served : ℕ) (old new : Scene) (vs : List Stay) (parting : Parting)
        → ServesAll may_be tokens limit served old new vs parting
        → Stretch old.outside new.outside
        (flat_map (λ v. flat_map (λ r. works_if_any r.pump) v.handlings) vs)
    stays served old new [] parting h =
        subst (λ o. Stretch old.outside o []) (sym h.1) (none old.outside)
    stays served old new (v ∷ vs) parting h =
        then_ old.outside h.1.outside new.outside
        (flat_map (λ r. works_if_any r.pump) v.handlings)
        (flat_map (λ v. flat_map (λ r. works_if_any r.pump) v.handlings) vs)
        (all_handled (with_callers old h.0) h.1 v.handlings h.4.handlings)
        (stays (served + 1) h.1 new vs parting h.5)

    course : (old new : Scene) (c : Course) → RunsCourse may_be tokens limit old new c
        → Stretch old.outside new.outside (all_works c)
    course old new c h =
        let ready = h.ready.outside in let served = h.served.outside in
        let closed = standing h.closed served.spawner in
        then_ old.outside ready new.outside c.first.works _
        (pumped limit old.outside ready c.first h.first)
        (then_ ready served new.outside _ c.last.works
        (stays 0 h.ready h.served c.stays c.parting h.callers)
        (then_ served closed new.outside [] c.last.works
        (asked (c.close ∷ []) served.clerk h.closed served.spawner
        (h.closed, h.close.acts, refl))
        (pumped None closed new.outside c.last h.last)))

pub courses_run : PumpLaws → (may_be : Moments) → CoursesRun may_be
courses_run laws may_be tokens limit old new c log h more =
    let all = course laws may_be tokens limit old new c h in
    all.ran.runs ∙ ap (λ runs. gained old.outside.spawner.runs runs) (sym (all.have_run log more))
