use Rattle.std.proofs.Common.{◌≡◌, ◌∙◌, ◌<◌, ℕ, List, length, filter, not, nat_eq, Bool, true, false, get_or, ap, sym, subst, refl, arith, if◌then◌else◌}
use Rattle.std.proofs.lemmas.Option.{slice_get_read}
use Rattle.std.specs.Vec.{with_item}
use Rattle.rb_causes.proofs.Lists.{some_is}
use Rattle.rb_plan.specs.declared.world.Running.{Running}
use Rattle.rb_log.specs.Executions.{Execution as LoggedExecution, is_running}
use Rattle.rb_tables.specs.Running.{IsTold}
use Rattle.rb_tables.specs.Tables.{IsOf}
use Rattle.rb_tables.specs.declared.execution.Execution.{Execution}
use Rattle.rb_tables.specs.declared.tables.Tables.{Tables}
use Rattle.rb_tables.proofs.Lists.{set_same}
use Rattle.rb_changes.proofs.retiring.close_if_over.Goals as goal
use Rattle.rb_changes.proofs.retiring.close_if_over.Goals.{After-runs}

-- the execution that was read is the one that is told
read_told : (t : Tables) (place : ℕ) (l : LoggedExecution) (x : Execution) → IsTold t place l
    → place < length t.executions.items → x ≡ get_or t.executions.items place x → IsOf x l
read_told t place l x told low is =
    subst (λ z. IsOf z l)
    (some_is told.execution x (sym told.found
    ∙ slice_get_read t.executions.items (length t.executions.items) place x refl low is))
    told.is

runs_so : (c : After-runs) (b : Bool) → c.runs.result ≡ b → (l : LoggedExecution)
    → IsTold c.args.tables.now c.args.place l → is_running l ≡ b
runs_so c b is l told =
    sym told.told ∙ sym (c.runs.ensures told.execution l told.found told.is) ∙ is

settled_by : (b runs : Bool) (n m : ℕ) (rs : List Running) → runs ≡ b → n ≡ m
    → (if b then rs else filter (λ r. not (nat_eq r.execution n)) rs)
    ≡ (if runs then rs else filter (λ r. not (nat_eq r.execution m)) rs)
settled_by b runs n m rs is same =
    ap (λ t. if t then rs else filter (λ r. not (nat_eq r.execution n)) rs) (sym is)
    ∙ ap (λ k. if runs then rs else filter (λ r. not (nat_eq r.execution k)) rs) same

pub returns-then-runs : goal.returns-then-runs
returns-then-runs c l told =
    let old : Tables = c.args.tables.now in
    let runs = runs_so (goal.at.returns-then-runs c).After-runs true c.if-runs.true l told in
    record {
      execution = told.execution;
      entry = record {
        is = told.is;
        over = λ ended. absurd (let wrong : true ≡ false = sym runs ∙ ended in
            grind (arith, wrong));
      };
      executions = set_same old.executions.items c.args.place told.execution told.found;
      rest = ap (λ rs. record old { world = record old.world { running = rs } })
          (settled_by true (is_running l) l.number l.number old.world.running runs refl);
    }

pub close-requires : goal.close-requires
close-requires c =
    let l : LoggedExecution = c.requires.told.0 in
    let told = c.requires.told.1 in (
      l,
      read_told c.args.tables.now c.args.place l c.index_mut.result.now told c.requires.place
          c.index_mut.ensures.value,
      told.tiers,
      runs_so (goal.at.close-requires c).After-runs false c.if-runs.false l told,
    )

pub returns : goal.returns
returns c l told =
    let old : Tables = c.args.tables.now in
    let ended = runs_so (goal.at.returns c).After-runs false c.if-runs.false l told in
    let is = read_told old c.args.place l c.index_mut.result.now told c.requires.place
    c.index_mut.ensures.value in
    let number : c.index.result.now.number ≡ l.number =
    ap (λ (z : LoggedExecution). z.number)
    (read_told old c.args.place l c.index.result.now told c.requires.place c.index.ensures).same in
    record {
      execution = c.close.new.self;
      entry = c.close.ensures l is told.tiers ended;
      executions = refl;
      rest = ap (λ rs. record old {
        executions = with_item old.executions c.args.place c.close.new.self;
        world = record old.world { running = rs };
      })
          (c.of.ensures ∙ c.take_running.ensures
          ∙ ap (filter (λ r. not (nat_eq r.execution c.index.result.now.number)))
          (c.into_vec-rest.ensures ∙ c.replace-running.ensures.value)
          ∙ settled_by false (is_running l) c.index.result.now.number l.number
          old.world.running ended number);
    }
