use Rattle.std.proofs.Common.{◌≡◌, ◌∙◌, ◌≤◌, ◌<◌, ◌+◌, ◌++◌, ◌∷◌, [], ℕ, List, length, map, take, get_or, slice_get, slice_set, ap, sym, subst, refl, arith}
use Rattle.std.proofs.lemmas.List.{take_all, take_more}
use Rattle.std.proofs.lemmas.Option.{slice_get_read}
use Rattle.rb_causes.specs.declared.row.Row.{Row}
use Rattle.rb_plan.specs.declared.world.Running.{Running}
use Rattle.rb_log.specs.Executions.{executions}
use Rattle.rb_log.specs.Restarts.{reopened}
use Rattle.rb_tables.specs.LogLaws.{LogLaws}
use Rattle.rb_tables.specs.Tables.{AreEntries, IsEntry}
use Rattle.rb_tables.specs.declared.execution.Execution.{Execution}
use Rattle.rb_tables.proofs.Lists.{same_place}
use Rattle.rb_changes.specs.Openings.{AreRunning}
use Rattle.rb_changes.proofs.LostRows.{LosesAt, all_lost, loses_at, lost_if, none_lost}
use Rattle.rb_changes.proofs.opening.lose_all.Goals as goal

-- the one at the index is lost next
lost_at : LogLaws → (first items : List Execution) (running : List Running) (i : ℕ) (r : Running)
    → i < length running → r ≡ get_or running i r → (past : List Row)
    → AreRunning first running past
    → AreEntries items (map (lost_if (take i running)) (executions past))
    → LosesAt past items (take i running) r
lost_at laws first items running i r low read past are entries =
    loses_at laws past items (take i running) i r are.legal
    (ap (λ rs. slice_get rs i) (sym are.runs)
    ∙ slice_get_read running (length running) i r refl low read)
    entries

-- as it was read
read_lost : (past : List Row) (items : List Execution) (rs : List Running) (r : Running)
    (l : LosesAt past items rs r) (k : ℕ) (x : Execution) → k + 1 ≡ r.execution
    → x ≡ get_or items k x → IsEntry x l.logged
read_lost past items rs r l k x at read =
    let low : k < length items = omega (arith, l.number, l.within, at) in
    l.entry x
    (ap (slice_get items) (same_place l.number at)
    ∙ slice_get_read items (length items) k x refl low read)

-- so one more is lost
lost_more : (past : List Row) (items : List Execution) (running : List Running) (i : ℕ)
    (r : Running) (l : LosesAt past items (take i running) r) (k : ℕ) (x : Execution)
    → i < length running → r ≡ get_or running i r → k + 1 ≡ r.execution
    → IsEntry x (reopened l.logged)
    → AreEntries (slice_set items k x) (map (lost_if (take (i + 1) running)) (executions past))
lost_more past items running i r l k x low read at is =
    let more : take (i + 1) running ≡ take i running ++ r ∷ [] =
    take_more running i r low ∙ ap (λ s. take i running ++ s ∷ []) (sym read) in
    subst (λ n. AreEntries (slice_set items n x)
    (map (lost_if (take (i + 1) running)) (executions past))) (same_place l.number at)
    (subst (λ rs. AreEntries (slice_set items l.place x) (map (lost_if rs) (executions past)))
    (sym more) (l.then_lost x is))

pub place_of-requires : goal.place_of-requires
place_of-requires c =
    let l = lost_at c.log_laws.ensures c.args.executions.now.items c.loop-lost.executions.items
    c.args.running.now c.loop-lost.lost-index c.lost-item.result c.loop-lost-test.true
    c.lost-item.is c.requires.0 c.requires.1
    (c.loop-lost.invariant c.requires.0 c.requires.1) in
    omega (arith, l.number)

pub index_mut-requires : goal.index_mut-requires
index_mut-requires c =
    let l = lost_at c.log_laws.ensures c.args.executions.now.items c.loop-lost.executions.items
    c.args.running.now c.loop-lost.lost-index c.lost-item.result c.loop-lost-test.true
    c.lost-item.is c.requires.0 c.requires.1
    (c.loop-lost.invariant c.requires.0 c.requires.1) in
    omega (arith, l.number, l.within, c.place_of.ensures, c.loop-lost.executions.ok.0)

pub lose-requires : goal.lose-requires
lose-requires c =
    let l = lost_at c.log_laws.ensures c.args.executions.now.items c.loop-lost.executions.items
    c.args.running.now c.loop-lost.lost-index c.lost-item.result c.loop-lost-test.true
    c.lost-item.is c.requires.0 c.requires.1
    (c.loop-lost.invariant c.requires.0 c.requires.1) in (
      l.logged,
      read_lost c.requires.0 c.loop-lost.executions.items
          (take c.loop-lost.lost-index c.args.running.now) c.lost-item.result l
          c.place_of.result c.index_mut.result.now c.place_of.ensures
          c.index_mut.ensures.value,
      l.tiers,
    )

pub loop-lost-preserved : goal.loop-lost-preserved
loop-lost-preserved c past are =
    let l = lost_at c.log_laws.ensures c.args.executions.now.items c.loop-lost.executions.items
    c.args.running.now c.loop-lost.lost-index c.lost-item.result c.loop-lost-test.true
    c.lost-item.is past are (c.loop-lost.invariant past are) in
    let entry = read_lost past c.loop-lost.executions.items
    (take c.loop-lost.lost-index c.args.running.now) c.lost-item.result l c.place_of.result
    c.index_mut.result.now c.place_of.ensures c.index_mut.ensures.value in
    lost_more past c.loop-lost.executions.items c.args.running.now c.loop-lost.lost-index
    c.lost-item.result l c.place_of.result c.lose.new.self c.loop-lost-test.true
    c.lost-item.is c.place_of.ensures (c.lose.ensures l.logged entry l.tiers)

pub loop-lost-init : goal.loop-lost-init
loop-lost-init c past are =
    subst (AreEntries c.args.executions.now.items) (sym (none_lost (executions past))) are.entries

pub returns : goal.returns
returns c past are =
    let low : length c.args.running.now ≤ c.loop-lost.lost-index = omega arith in
    subst (AreEntries c.loop-lost.executions.items)
    (ap (λ rs. map (lost_if rs) (executions past))
    (take_all c.loop-lost.lost-index c.args.running.now low ∙ are.runs)
    ∙ all_lost (executions past))
    (c.loop-lost.invariant past are)
