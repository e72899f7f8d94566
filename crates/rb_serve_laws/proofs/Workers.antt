-- What a worker did, over the log that is there at the end.
use Rattle.std.proofs.Common.{◌≡◌, ◌∙◌, ℕ, List, [], ◌∷◌, ◌++◌, Some, ap, sym, subst, refl}
use Rattle.std.specs.List.{flat_map}
use Rattle.rb_causes.specs.Outside.{gained}
use Rattle.rb_causes.specs.declared.row.Row.{Row}
use Rattle.rb_door.specs.Exchanges.{Moments}
use Rattle.rb_door.specs.Laws.{ActsAreTrue, TurnsStayTrue}
use Rattle.rb_log.specs.Acted.{Acted}
use Rattle.rb_log.specs.Records.{Record}
use Rattle.rb_log.specs.Steps.{BeginsAreTasks}
use Rattle.rb_log.specs.Told.{IsBeginning}
use Rattle.rb_serve_laws.specs.Parts.{EndsClosed, IsWorkerOver}
use Rattle.rb_session.proofs.Acting.{acted_pumped}
use Rattle.rb_session.proofs.Running.{Stretch, none, pump_stretch, then_}
use Rattle.rb_session.proofs.Silent.{Runs, pumped_run, runs_then}
use Rattle.rb_session_laws.proofs.Ended.{behind, closing}
use Rattle.rb_work.proofs.Records.{acted_begins, acted_then}
use Rattle.rb_work.specs.PumpLaws.{PumpLaws}
use Rattle.rb_work.specs.Pumping.{HasPumped}
use Rattle.rb_work.specs.Working.{HasWorkedOn, HavePumped}
use Rattle.rb_work.specs.Works.{Outside, Work, records_of}
use Rattle.rb_work.specs.declared.pumped.Pumped.{Pumped}
use Rattle.rb_work.specs.declared.pumped.Pumped.TheVariants as pumped

module _ (true_of : ActsAreTrue) (stay : TurnsStayTrue) (begins : BeginsAreTasks)
    (laws : PumpLaws) (may_be : Moments) (worker : ℕ) where
  -- what was asked in pumps, and their works, which are all that the spawner gained
  record Pumps (old new : Outside) : Type 0 where
    pub records : List Record
    pub works : List Work
    pub acted : Acted old.clerk new.clerk records
    pub stretch : Stretch old new works
    pub runs : Runs new.clerk.log records works

  no_pumps : (o : Outside) → Pumps o o
  no_pumps o = record {
    records = [];
    works = [];
    acted = refl;
    stretch = none o;
    runs = λ log more. refl;
  }

  one_pump : (old new : Outside) (said : Pumped) → HasPumped may_be worker (Some 1) old new said
      → Pumps old new
  one_pump old new said h = record {
    records = h.ticks ++ (flat_map records_of h.works ++ h.last);
    works = h.works;
    acted = acted_pumped may_be worker (Some 1) old new said h;
    stretch = pump_stretch laws may_be worker (Some 1) old new said h;
    runs = pumped_run begins true_of stay may_be worker (Some 1) old new said h;
  }

  pumps_then : (a b c : Outside) → Pumps a b → Pumps b c → Pumps a c
  pumps_then a b c h k = record {
    records = h.records ++ k.records;
    works = h.works ++ k.works;
    acted = acted_then h.records k.records a.clerk b.clerk c.clerk h.acted k.acted;
    stretch = then_ a b c h.works k.works h.stretch k.stretch;
    runs = runs_then b.clerk.log c.clerk.log h.records k.records h.works k.works
        (acted_begins k.records b.clerk c.clerk k.acted) h.runs k.runs;
  }

  all_pumps : (old new : Outside) (saids : List Pumped) → HavePumped may_be worker old new saids
      → Pumps old new
  all_pumps old new [] h = subst (λ o. Pumps old o) (sym h) (no_pumps old)
  all_pumps old new (said ∷ earlier) h =
      pumps_then old h.0 new (all_pumps old h.0 earlier h.1) (one_pump h.0 new said h.2)

  -- pumps of which the last said Closed end with a Claim that was answered so
  ends_closed : (old new : Outside) (said : Pumped) (earlier : List Pumped)
      (h : HavePumped may_be worker old new (said ∷ earlier)) → said ≡ pumped.Closed
      → EndsClosed (all_pumps old new (said ∷ earlier) h).records
  unfolding all_pumps pumps_then one_pump
  ends_closed old new said earlier h is =
      let p = h.2 in
      let c = closing p.at worker p.last said is p.ends in (
        c.0,
        behind (all_pumps old h.0 earlier h.1).records
            (p.ticks ++ (flat_map records_of p.works ++ p.last)) c.0
            (behind p.ticks (flat_map records_of p.works ++ p.last) c.0
            (behind (flat_map records_of p.works) p.last c.0 c.1)),
        c.2,
      )

  -- what a worker asked, and that its spawner gained the programs of that
  pub record Worked (log : List Row) (old new : Outside) (said : Pumped) : Type 0 where
    pub records : List Record
    pub acted : Acted old.clerk new.clerk records
    pub over : IsWorkerOver log old.spawner new.spawner said records

  pub worker_over : (log : List Row) (old new : Outside) (said : Pumped)
      → HasWorkedOn may_be worker old new said → IsBeginning new.clerk.log log
      → Worked log old new said
  worker_over log old new said h more =
      let all = all_pumps old new (said ∷ h.earlier) h.pumps in
      record {
        records = all.records;
        acted = all.acted;
        over = record {
          ran = all.stretch.ran.runs
              ∙ ap (gained old.spawner.runs)
              (sym (all.stretch.have_run log more) ∙ sym (all.runs log more));
          over = λ is. ends_closed old new said h.earlier h.pumps is;
        };
      }
