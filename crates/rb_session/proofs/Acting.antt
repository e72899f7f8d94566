-- All that a desk was asked in a course, in order.
use Rattle.std.proofs.Common.{
  ◌∙◌,
  ℕ,
  Bool,
  true,
  false,
  List,
  [],
  ◌∷◌,
  ◌++◌,
  ◌+◌,
  Option,
  Some,
  None,
  ap,
  sym,
  subst,
}
use Rattle.std.specs.List.{flat_map}
use Rattle.rb_log.specs.Acted.{Acted}
use Rattle.rb_work.specs.Pumping.{HasPumped}
use Rattle.rb_work.specs.Works.{Outside, records_of}
use Rattle.rb_work.specs.declared.pumped.Pumped.{Pumped}
use Rattle.rb_work.proofs.Records.{acted_then}
use Rattle.rb_api.specs.declared.token.Token.{Token}
use Rattle.rb_door.specs.Exchanges.{Moments, is_request, turns_of}
use Rattle.rb_door.specs.Guests.{Parting}
use Rattle.rb_session.specs.Courses.{Course, course_records, serving_records, RunsCourse}
use Rattle.rb_session.specs.Laws.{CoursesAct}
use Rattle.rb_session.specs.Visits.{
  Pump,
  pump_records,
  pumped_if_any,
  PumpsAs,
  PumpsBehind,
  Handling,
  handling_records,
  Handles,
  HandlesAll,
  Scene,
  standing,
  Stay,
  stay_records,
  ServesAll,
  with_callers,
}

module _ (may_be : Moments) where
  pub acted_pumped : (worker : ℕ) (limit : Option ℕ) (old new : Outside) (said : Pumped)
      (done : HasPumped may_be worker limit old new said)
      → Acted old.clerk new.clerk (done.ticks ++ (flat_map records_of done.works ++ done.last))
  acted_pumped worker limit old new said done =
      acted_then done.ticks (flat_map records_of done.works ++ done.last) old.clerk done.mid
      new.clerk done.ticked.acted done.worked.acted

  pub acted_pump : (limit : Option ℕ) (old new : Outside) (p : Pump) → PumpsAs may_be limit old new p
      → Acted old.clerk new.clerk (pump_records p)
  acted_pump limit old new p h =
      let done = h.pumped in
      subst (λ rs. Acted old.clerk new.clerk rs)
      (ap (λ ticks. ticks ++ (flat_map records_of done.works ++ done.last)) h.ticks
      ∙ ap (λ works. p.ticks ++ (flat_map records_of works ++ done.last)) h.works
      ∙ ap (λ last. p.ticks ++ (flat_map records_of p.works ++ last)) h.last)
      (acted_pumped 0 limit old new p.said done)

  pub acted_behind : (asked : Bool) (limit : Option ℕ) (old new : Outside) (p : Option Pump)
      → PumpsBehind asked may_be limit old new p
      → Acted old.clerk new.clerk (pumped_if_any p)
  acted_behind true limit old new None h = absurd h
  acted_behind true limit old new (Some p) h = acted_pump limit old new p h
  acted_behind false limit old new p h =
      subst (λ x. Acted old.clerk new.clerk (pumped_if_any x)) (sym h.0)
      (ap (λ (o : Outside). o.clerk) h.1)

  module _ (tokens : List Token) (limit : Option ℕ) where
    pub acted_handling : (old new : Scene) (r : Handling) → Handles may_be tokens limit old new r
        → Acted old.outside.clerk new.outside.clerk (handling_records r)
    acted_handling old new r h =
        acted_then (turns_of r.exchange) (pumped_if_any r.pump) old.outside.clerk h.between
        new.outside.clerk h.clerk (acted_behind (is_request r.exchange.heard) limit (standing
        h.between old.outside.spawner) new.outside r.pump h.pump)

    pub acted_handlings : (old new : Scene) (rs : List Handling)
        → HandlesAll may_be tokens limit old new rs
        → Acted old.outside.clerk new.outside.clerk (flat_map handling_records rs)
    acted_handlings old new [] h = ap (λ (s : Scene). s.outside.clerk) h
    acted_handlings old new (r ∷ rs) h =
        acted_then (handling_records r) (flat_map handling_records rs) old.outside.clerk
        h.0.outside.clerk new.outside.clerk (acted_handling old h.0 r h.1)
        (acted_handlings h.0 new rs h.2)

    pub acted_stays : (served : ℕ) (old new : Scene) (vs : List Stay) (parting : Parting)
        → ServesAll may_be tokens limit served old new vs parting
        → Acted old.outside.clerk new.outside.clerk (flat_map stay_records vs)
    acted_stays served old new [] parting h = ap (λ (o : Outside). o.clerk) h.1
    acted_stays served old new (v ∷ vs) parting h =
        acted_then (stay_records v) (flat_map stay_records vs) old.outside.clerk
        h.1.outside.clerk new.outside.clerk
        (acted_handlings (with_callers old h.0) h.1 v.handlings h.4.handlings)
        (acted_stays (served + 1) h.1 new vs parting h.5)

    pub acted_course : (old new : Scene) (c : Course) → RunsCourse may_be tokens limit old new c
        → Acted old.outside.clerk new.outside.clerk (course_records c)
    acted_course old new c h =
        let start = old.outside.clerk in
        let ready = h.ready.outside.clerk in
        let served = h.served.outside.clerk in
        let serving : Acted start served (serving_records c) =
        acted_then (pump_records c.first) (flat_map stay_records c.stays) start ready served
        (acted_pump limit old.outside h.ready.outside c.first h.first)
        (acted_stays 0 h.ready h.served c.stays c.parting h.callers) in
        acted_then (serving_records c) (c.close ∷ pump_records c.last) start served
        new.outside.clerk serving (
          h.closed,
          h.close.acts,
          acted_pump None (standing h.closed
              h.served.outside.spawner) new.outside c.last h.last,
        )

pub courses_act : (may_be : Moments) → CoursesAct may_be
courses_act may_be tokens limit old new c h = acted_course may_be tokens limit old new c h
