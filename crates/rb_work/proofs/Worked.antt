-- Works behind works.
use Rattle.std.proofs.Common.{◌≡◌, ◌∙◌, ◌≤◌, ◌<◌, ℕ, zero, suc, ℤ, List, [], ◌++◌, length, Some, All, ap, sym, subst, refl, arith, append-nil, append_assoc}
use Rattle.std.specs.List.{flat_map}
use Rattle.std.proofs.lemmas.Grind.{flat_map-append}
use Rattle.std.proofs.lemmas.List.{map-append}
use Rattle.std.proofs.lemmas.List.Elements.{All-nil, All-append, All-weaker}
use Rattle.std.proofs.lemmas.Option.{slice_get_within}
use Rattle.rb_causes.specs.Spawners.{Ran}
use Rattle.rb_causes.specs.declared.row.Row.{Row}
use Rattle.rb_causes.proofs.RanLaws.{ran_nothing, ran_then}
use Rattle.rb_log.specs.Legal.{Rights}
use Rattle.rb_log.specs.Records.{Record}
use Rattle.rb_log.specs.Told.{IsBeginning}
use Rattle.rb_log.specs.Acted.{Acted}
use Rattle.rb_work.specs.PumpLaws.{PumpLaws}
use Rattle.rb_work.specs.Works.{Work, task_run, records_of, row_at, IsLogged, IsWork, Outside, HasWorked}
use Rattle.rb_work.proofs.Logged.{row_stays}
use Rattle.rb_work.proofs.Records.{acted_begins, acted_own, acted_then}

-- ---- a work stays as the log grows

row_within : (log : List Row) (n : ℕ) (row : Row) → row_at log n ≡ Some row
    → (0 < n) × (n ≤ length log)
row_within log zero row h = absurd (grind (arith, h))
row_within log (suc n) row h =
    let within = slice_get_within log n row h in (omega arith, omega (arith, within))

logged_stays : PumpLaws → (worker : ℕ) (log more : List Row) (w : Work) → IsLogged worker log w
    → IsLogged worker (log ++ more) w
logged_stays laws worker log more w h =
    let within = row_within log w.claim.after h.begin h.begin_at in
    record {
      begin = h.begin;
      end = h.end;
      begin_at = row_stays log more w.claim.after h.begin h.begin_at;
      end_at = row_stays log more w.report.after h.end h.end_at;
      begun = h.begun;
      ended = h.ended;
      program = laws.programs log more w.claim.after (task_run w) within.0 within.1 h.program;
    }

pub work_stays : PumpLaws → (at : ℤ) (worker : ℕ) (log more : List Row) (w : Work)
    → IsWork at worker log w → IsWork at worker (log ++ more) w
work_stays laws at worker log more w h = record {
  withdrew = h.withdrew;
  kept = h.kept;
  asked = h.asked;
  given = h.given;
  told = h.told;
  reported = h.reported;
  logged = logged_stays laws worker log more w h.logged;
}

pub works_stay : PumpLaws → (at : ℤ) (worker : ℕ) (a b : List Row) (ws : List Work) → IsBeginning a b
    → All (IsWork at worker a) ws → All (IsWork at worker b) ws
works_stay laws at worker a b ws begins h =
    subst (λ log. All (IsWork at worker log) ws) (sym begins.1)
    (All-weaker (IsWork at worker a) (IsWork at worker (a ++ begins.0))
    (work_stays laws at worker a begins.0) ws h)

-- ---- works behind works

pub worked_nothing : (at : ℤ) (worker : ℕ) (o : Outside) → HasWorked at worker o o [] []
worked_nothing at worker o = record {
  each = All-nil (IsWork at worker o.clerk.log);
  acted = refl;
  own = sym (append-nil o.clerk.own);
  ran = ran_nothing o.spawner;
  rights = refl;
}

pub worked_then : PumpLaws → (at : ℤ) (worker : ℕ) (a b c : Outside) (xs ys : List Work)
    (last : List Record) → HasWorked at worker a b xs [] → HasWorked at worker b c ys last
    → HasWorked at worker a c (xs ++ ys) last
worked_then laws at worker a b c xs ys last h k =
    let before : List Record = flat_map records_of xs in
    let behind : List Record = flat_map records_of ys in
    let acted : Acted a.clerk c.clerk (flat_map records_of (xs ++ ys) ++ last) =
    subst (λ rs. Acted a.clerk c.clerk rs)
    (ap (λ rs. rs ++ (behind ++ last)) (append-nil before)
    ∙ sym (append_assoc before behind last)
    ∙ ap (λ rs. rs ++ last) (sym (flat_map-append records_of xs ys)))
    (acted_then (before ++ []) (behind ++ last) a.clerk b.clerk c.clerk h.acted k.acted) in
    record {
      each =
          All-append (IsWork at worker c.clerk.log) xs ys
          (works_stay laws at worker b.clerk.log c.clerk.log xs
          (acted_begins (behind ++ last) b.clerk c.clerk k.acted) h.each)
          k.each;
      acted = acted;
      own = acted_own (flat_map records_of (xs ++ ys) ++ last) a.clerk c.clerk acted;
      ran = subst (λ runs. Ran runs a.spawner c.spawner) (sym (map-append task_run xs ys))
          (ran_then h.ran k.ran);
      rights =
          k.rights ∙ ap (λ (r : Rights). record r { leaves = c.clerk.rights.leaves }) h.rights;
    }
