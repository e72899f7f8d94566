-- An execution that runs, as its flow goes on.
use Rattle.std.proofs.Common.{◌&&◌, ◌≡◌, ◌∙◌, ◌*◌, ◌≤◌, ◌<◌, ℕ, length, refl, nat_eq, vec_capacity, List, [], ◌∷◌, ◌++◌, Vec, Bool, true, false, Option, Some, None, Result, Ok, Err, OnOk, OnErr, option_map, unwrap_or, is_some, IsTrue, map, ap, subst, sym, arith, if◌then◌else◌}
use Rattle.std.specs.Global.{Global}
use Rattle.rb_marks.specs.First.{first_startable, may_withdraw, opens}
use Rattle.rb_marks.specs.FlowState.{FlowState}
use Rattle.rb_marks.specs.Units.{outline}
use Rattle.rb_marks.specs.declared.mark.Leaf.{Leaf}
use Rattle.rb_marks.specs.declared.mark.Mark.{Mark}
use Rattle.rb_marks.specs.declared.mark.Mark.TheVariants.{Lost}
use Rattle.rb_log.specs.Executions.{Execution as LoggedExecution, is_running}
use Rattle.rb_log.specs.Restarts.{reopened}
use Rattle.rb_tables.specs.Progress.{IsFlowOf, IsOver, IsProgress, IsRunState}
use Rattle.rb_tables.specs.Running.{with_mark}
use Rattle.rb_tables.specs.Tables.{IsEntry, IsOf}
use Rattle.rb_tables.specs.declared.execution.Execution.{Execution}
use Rattle.rb_tables.specs.declared.progress.Progress.{Progress}
use Rattle.rb_tables.specs.declared.progress.Progress.TheVariants.{Going}
use Rattle.rb_tables.specs.declared.progress.RunState.{RunState}

-- what is kept for a run, where a flow goes on by these marks
pub run_on : (g : RunState) (new : FlowState) (l m : LoggedExecution) → IsRunState g l
    → m.accepted ≡ l.accepted → outline new.plan ≡ outline g.flow.plan → new.marks ≡ m.marks
    → IsRunState (record g { flow = new }) m
run_on g new l m is same plan marks = record {
  flow = record {
    plan = plan ∙ is.flow.plan ∙ ap (λ a. a.plan) (sym same);
    marks = marks;
  };
  room = record {
    empty = is.room.empty;
    memory = subst (λ a. length a.plan.tiers * length a.plan.steps ≤ vec_capacity g.room)
        (sym same) is.room.memory;
  };
  nodes = is.nodes ∙ ap (λ a. a.nodes) (sym same);
  commands = is.commands ∙ ap (λ a. a.commands) (sym same);
}

pub going_is : (x : Execution) (g : RunState) (l : LoggedExecution) → IsOf x l
    → x.progress ≡ Going g → IsRunState g l
going_is x g l is going = subst (λ p. IsProgress p l) going is.progress

-- with one mark more
pub marked_going : (x : Execution) (g : RunState) (new : FlowState) (l : LoggedExecution) (m : Mark)
    → IsOf x l → x.progress ≡ Going g → outline new.plan ≡ outline g.flow.plan
    → new.marks ≡ g.flow.marks ++ m ∷ []
    → IsOf (record x { progress = Going (record g { flow = new }) }) (with_mark l m)
marked_going x g new l m is going plan marks =
    let before = going_is x g l is going in record {
      same = ap (λ z. with_mark z m) is.same;
      names = is.names;
      progress = run_on g new l (with_mark l m) before refl plan
          (marks ∙ ap (λ ms. ms ++ m ∷ []) before.flow.marks);
    }

-- what asking for room leaves as it was
pub kept_by : {T E : Type 0} (r : Result T E) (old new more : FlowState) → OnOk r (new ≡ more)
    → OnErr r (new ≡ old) → outline more.plan ≡ outline old.plan → more.marks ≡ old.marks
    → (outline new.plan ≡ outline old.plan) × (new.marks ≡ old.marks)
kept_by (Ok x) old new more ok err plan marks =
    (ap (λ f. outline f.plan) ok ∙ plan, ap (λ f. f.marks) ok ∙ marks)
kept_by (Err e) old new more ok err plan marks =
    (ap (λ f. outline f.plan) err, ap (λ f. f.marks) err)

-- with another flow of the same marks
pub same_going : (x : Execution) (g : RunState) (new : FlowState) (l : LoggedExecution)
    → IsEntry x l → x.progress ≡ Going g
    → (outline new.plan ≡ outline g.flow.plan) × (new.marks ≡ g.flow.marks)
    → IsEntry (record x { progress = Going (record g { flow = new }) }) l
same_going x g new l entry going kept =
    let before = going_is x g l entry.is going in record {
      is = record {
        same = entry.is.same;
        names = entry.is.names;
        progress = run_on g new l l before refl kept.0 (kept.1 ∙ before.flow.marks);
      };
      over = λ ended. subst IsOver going (entry.over ended);
    }

-- ---- what is withdrawn runs

starts_by : (o : Option Leaf) (f : Leaf → Bool) → unwrap_or (option_map f o) false ≡ true
    → (leaf : Leaf) × (o ≡ Some leaf) × (f leaf ≡ true)
starts_by None f h = absurd (grind (arith, h))
starts_by (Some leaf) f h = (leaf, refl, h)

-- the first startable leaf of what may be withdrawn
pub withdraws_first : (l : LoggedExecution) (node : ℕ)
    → IsTrue (may_withdraw l.accepted.plan l.marks node)
    → (leaf : Leaf) × (first_startable l.accepted.plan l.marks ≡ Some leaf)
withdraws_first l node h =
    let s = starts_by (first_startable l.accepted.plan l.marks)
    (λ leaf. nat_eq leaf.node node && opens l.accepted.plan l.marks leaf) h in
    (s.0, s.1)

-- ---- behind an opening

pub reopened_runs : (l : LoggedExecution) → is_running l ≡ true → with_mark l Lost ≡ reopened l
reopened_runs l runs = ap (λ b. if b then with_mark l Lost else l) (sym runs)

pub reopened_stays : (l : LoggedExecution) → is_running l ≡ false → l ≡ reopened l
reopened_stays l ended = ap (λ b. if b then with_mark l Lost else l) (sym ended)
