-- What the tables are behind an opening.
use Rattle.std.proofs.Common.{◌≡◌, ◌∙◌, ◌≤◌, ◌+◌, suc, List, [], ◌∷◌, ◌++◌, map, filter, cond, length, sum_by, Bool, true, false, Some, append-nil, ap, sym, subst, refl, arith, if◌then◌else◌}
use Rattle.std.proofs.lemmas.Bool.{eqb-true}
use Rattle.rb_causes.specs.declared.row.Row.{Row}
use Rattle.rb_acl.specs.Numbering.{AreNumbered}
use Rattle.rb_acl.specs.declared.policy.Policies.{Policies}
use Rattle.rb_marks.specs.declared.mark.Mark.TheVariants.{Lost}
use Rattle.rb_plan.specs.declared.world.World.{World}
use Rattle.rb_log.specs.Rows.{counted_bytes, is_second_opening, opened_kind}
use Rattle.rb_log.specs.Executions.{Execution as LoggedExecution, executions, is_running, marked, running_now}
use Rattle.rb_log.specs.LogState.{counted_at, log_state, world_of}
use Rattle.rb_log.specs.Restarts.{reopened}
use Rattle.rb_log.specs.Sums.{numbers_below, owed_by}
use Rattle.rb_log.proofs.RestartLaws.{reopened_ended}
use Rattle.rb_tables.specs.Due.{project_nexts}
use Rattle.rb_tables.specs.Running.{with_mark}
use Rattle.rb_tables.specs.Tables.{AreEntries, AreLogTables, nexts, owed_among}
use Rattle.rb_tables.specs.declared.tables.Tables.{Tables}
use Rattle.rb_tables.proofs.Marked.{marked_alone, policies_before, running_of}
use Rattle.rb_changes.specs.Openings.{Opens}
use Rattle.rb_changes.specs.declared.opening.Opening.{Opening}
use Rattle.rb_changes.proofs.OneMark.{counted_bare}

-- ---- the executions

reopened_by : (runs : Bool) (e : LoggedExecution)
    → record e { marks = e.marks ++ (if runs then Lost ∷ [] else []) }
    ≡ (if runs then with_mark e Lost else e)
reopened_by true e = refl
reopened_by false e = ap (λ ms. record e { marks = ms }) (append-nil e.marks)

opened_marks : (policies : Policies) (row : Row) (es : List LoggedExecution)
    → map (marked policies (record row { kind = opened_kind })) es ≡ map reopened es
opened_marks policies row [] = refl
opened_marks policies row (e ∷ es) =
    ap (λ x. x ∷ map (marked policies (record row { kind = opened_kind })) es)
    (marked_alone policies (record row { kind = opened_kind }) e refl
    ∙ reopened_by (is_running e) e)
    ∙ ap (λ xs. reopened e ∷ xs) (opened_marks policies row es)

-- what runs is lost
pub opened_executions : (past : List Row) (row : Row) → row.kind ≡ opened_kind
    → executions (row ∷ past) ≡ map reopened (executions past)
opened_executions past row kind =
    subst (λ k. executions (record row { kind = k } ∷ past) ≡ map reopened (executions past))
    (sym kind) (opened_marks (policies_before past) row (executions past))

abbrev no_executions : List LoggedExecution
no_executions = []

left_out : (b : Bool) (e : LoggedExecution) (es : List LoggedExecution) → b ≡ false
    → es ≡ no_executions → cond b (e ∷ es) es ≡ no_executions
left_out true e es h is = absurd (grind (arith, h))
left_out false e es h is = is

-- so none runs
none_runs : (es : List LoggedExecution) → filter is_running (map reopened es) ≡ []
none_runs [] = refl
none_runs (e ∷ es) =
    left_out (is_running (reopened e)) (reopened e) (filter is_running (map reopened es))
    (reopened_ended e) (none_runs es)

-- ---- the tables

-- What becomes of the tables.
pub record Opened (old new : Tables) (o : Opening) (past : List Row) : Type 0 where
  pub entries : AreEntries new.executions.items (map reopened (executions past))
  pub leaves : new.leaves.items ≡ []
  pub rest : new ≡ record old {
    last = Some o.at;
    draw = o.draw;
    checks = o.checks;
    workers = o.workers;
    doors = o.doors;
    leaves = new.leaves;
    owed_by_running = 0;
    executions = new.executions;
    world = record old.world { running = [] };
  }

-- what a row of this kind changes
opened_state : (row : Row) (past : List Row) → row.kind ≡ opened_kind
    → log_state (row ∷ past) ≡ record (log_state past) {
      rows = suc (length past);
      counted = counted_at past + counted_bytes row;
      last = Some row.at;
      draw = row.c;
      workers = row.b;
      checks = is_second_opening row;
      doors = numbers_below row.a;
      leaves = [];
      executions = executions (row ∷ past);
    }
opened_state row past kind =
    subst (λ k. log_state (record row { kind = k } ∷ past) ≡ record (log_state past) {
      rows = suc (length past);
      counted = counted_at past + counted_bytes (record row { kind = k });
      last = Some row.at;
      draw = row.c;
      workers = row.b;
      checks = is_second_opening (record row { kind = k });
      doors = numbers_below row.a;
      leaves = [];
      executions = executions (record row { kind = k } ∷ past);
    }) (sym kind) refl

no_bytes : (row : Row) → row.kind ≡ opened_kind → counted_bytes row ≡ 0
no_bytes row kind =
    subst (λ k. counted_bytes (record row { kind = k }) ≡ 0) (sym kind) refl

pub opening_says : (old new : Tables) (past : List Row) (row : Row) (o : Opening)
    → Opens old o past row → Opened old new o past → AreLogTables new (log_state (row ∷ past))
opening_says old new past row o opens opened =
    let says = opens.tabled.says in
    let kind = eqb-true row.kind opened_kind opens.is.opened in
    let set = opened_executions past row kind in
    let is = opened.rest in
    subst (AreLogTables new) (sym (opened_state row past kind))
    (record {
      counted = ap (λ (x : Tables). x.counted) is
          ∙ counted_bare old past (counted_bytes row) says (no_bytes row kind);
      last = ap (λ (x : Tables). x.last) is ∙ ap Some opens.is.at;
      draw = ap (λ (x : Tables). x.draw) is ∙ opens.is.draw;
      workers = ap (λ (x : Tables). x.workers) is ∙ opens.is.workers;
      checks = ap (λ (x : Tables). x.checks) is ∙ opens.is.checks;
      doors = ap (λ (x : Tables). x.doors.items) is ∙ opens.is.doors;
      leaves = opened.leaves;
      owed = ap (λ (x : Tables). x.owed_by_running) is
          ∙ ap (sum_by owed_by) (sym (none_runs (executions past)))
          ∙ ap owed_among (sym set);
      zones = ap (λ (x : Tables). x.zones.items) is ∙ says.zones;
      zones_number = ap (λ (x : Tables). x.zones_number) is ∙ says.zones_number;
      nodes = ap (λ (x : Tables). x.nodes.items) is ∙ says.nodes;
      due = ap nexts is ∙ says.due
          ∙ ap (λ (x : Tables). map project_nexts x.world.projects) (sym is);
      files = ap (λ (x : Tables). x.files.items) is ∙ says.files;
      few_files = subst (λ fs. length fs ≤ 64) (sym (ap (λ (x : Tables). x.files.items) is))
          says.few_files;
      jobs_number = ap (λ (x : Tables). x.jobs_number) is ∙ says.jobs_number;
      executions = subst (AreEntries new.executions.items) (sym set) opened.entries;
      world = ap (λ (x : Tables). x.world) is
          ∙ ap (λ (w : World). record w { running = [] }) says.world
          ∙ ap (λ rs. record (world_of (log_state past)) { running = rs })
          (ap (map running_of) (sym (none_runs (executions past)))
          ∙ ap running_now (sym set));
      numbered = subst AreNumbered
          (sym (ap (λ (x : Tables). x.world.policies) is)) says.numbered;
    })
