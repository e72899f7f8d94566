-- What the tables are behind an End.
use Rattle.std.specs.List.{list_any}
use Rattle.std.proofs.Common.{◌≡◌, ◌∙◌, ◌<◌, ◌+◌, ◌-◌, ℕ, suc, ℤ, List, [], ◌∷◌, ◌++◌, filter, true, false, not, ◌&&◌, nat_eq, Some, Contains, slice_get, ap, sym, subst, refl}
use Rattle.std.proofs.lemmas.Bool.{eqb-true}
use Rattle.std.proofs.lemmas.Option.{slice_get-get_or}
use Rattle.rb_causes.specs.declared.row.Row.{Row}
use Rattle.rb_causes.specs.declared.ending.Ending.{Ending}
use Rattle.rb_causes.proofs.Lists.{find_gives}
use Rattle.rb_marks.specs.Results.{same_leaf}
use Rattle.rb_marks.specs.Units.{Outline}
use Rattle.rb_marks.specs.First.{is_begin_of, is_lost, is_open, IsLegal, LegalAfter}
use Rattle.rb_marks.specs.declared.mark.Leaf.{Leaf}
use Rattle.rb_marks.specs.declared.mark.Mark.{Mark}
use Rattle.rb_marks.specs.declared.mark.Mark.TheVariants.{Begin, End}
use Rattle.rb_marks.specs.Sound.{IsSound}
use Rattle.rb_marks.proofs.Once.{legal_at}
use Rattle.rb_log.specs.Rows.{ending_of, end_row}
use Rattle.rb_log.specs.Claims.{leaf_number_in}
use Rattle.rb_log.specs.Executions.{Execution as LoggedExecution, executions, execution_among, leaf_of}
use Rattle.rb_log.specs.Legal.{IsLegalLog}
use Rattle.rb_log.specs.LogState.{log_state}
use Rattle.rb_log.specs.Sums.{open_leaves, without_ended, without_leaf}
use Rattle.rb_log.specs.Tasks.{is_ending}
use Rattle.rb_log.specs.declared.task.OpenLeaf.{OpenLeaf}
use Rattle.rb_log.proofs.RoomLaws.{open_runs}
use Rattle.rb_log.proofs.ReportLaws.{ending_kept}
use Rattle.rb_log.proofs.RightLaws.{begin_is}
use Rattle.rb_tables.specs.Running.{owed_if_running, running_after, with_mark}
use Rattle.rb_tables.specs.Tables.{IsEntry, AreLogTables}
use Rattle.rb_tables.specs.declared.tables.Tables.{Tables}
use Rattle.rb_tables.specs.LogLaws.{LogLaws}
use Rattle.rb_tables.proofs.Lists.{any_gives, split_at, same_place}
use Rattle.rb_tables.proofs.Marked.{Marks}
use Rattle.rb_tables.proofs.OpenListed.{opens}
use Rattle.rb_tables.proofs.Saying.{says_on}
use Rattle.rb_changes.proofs.OneMark.{GoesOn, desk_running, one_marked, one_put, owed_on, run_on}

-- The execution of an open leaf stands at the place.
pub record OpenAt (past : List Row) (claimed : OpenLeaf) (place : ℕ) : Type 0 where
  pub execution : LoggedExecution
  pub found : slice_get (executions past) place ≡ Some execution
  pub among : execution_among claimed.execution (executions past) ≡ Some execution
  pub number : execution.number ≡ claimed.execution
  pub at : claimed.execution ≡ suc place
  pub stays_open : is_open execution.marks claimed.leaf ≡ true
  pub kept : list_any is_lost execution.marks ≡ false
  pub leaf : leaf_of execution (leaf_number_in execution claimed.leaf) ≡ claimed.leaf

-- a leaf that has begun in legal marks has a slot of the plan
begun_slot : LogLaws → (p : Outline) (marks : List Mark) (leaf : Leaf) → IsSound p
    → IsLegal p marks → list_any (is_begin_of leaf) marks ≡ true → leaf.slot < p.slots
begun_slot laws p marks leaf sound legal h =
    let g = any_gives (is_begin_of leaf) marks h in
    let s = split_at marks g.0 g.1 g.2 in
    let at : marks ≡ s.0 ++ Begin leaf ∷ s.1 =
    s.2 ∙ ap (λ m. s.0 ++ m ∷ s.1) (begin_is leaf g.1 g.3) in
    laws.slots p s.0 leaf sound (legal_at p [] s.0 s.1 (Begin leaf)
    (subst (λ ms. LegalAfter p [] ms) at legal))

pub open_at : LogLaws → (past : List Row) (claimed : OpenLeaf) → IsLegalLog past
    → Contains (open_leaves past) claimed → (place : ℕ) × OpenAt past claimed place
open_at laws past claimed legal has =
    let get : slice_get (open_leaves past) has.0 ≡ Some claimed =
    slice_get-get_or (open_leaves past) has.0 claimed has.1 ∙ ap Some has.2 in
    let o = laws.opens past has.0 claimed legal get in
    let j = find_gives (λ x. nat_eq x.number claimed.execution) (executions past) o.execution
    o.found in
    let number = eqb-true o.execution.number claimed.execution j.2 in
    let p : Outline = o.execution.accepted.plan in
    let slot = begun_slot laws p o.execution.marks claimed.leaf
    (laws.plans past j.0 o.execution legal j.1) (laws.marks past j.0 o.execution legal j.1)
    (opens o.execution.marks claimed.leaf o.stays_open).0 in (
      j.0,
      record {
        execution = o.execution;
        found = j.1;
        among = o.found;
        number = number;
        at = sym number ∙ laws.numbered past j.0 o.execution j.1;
        stays_open = o.stays_open;
        kept = o.kept;
        leaf = laws.kept p.slots claimed.leaf slot;
      },
    )

-- at the place of its number
pub open_here : LogLaws → (past : List Row) (claimed : OpenLeaf) → IsLegalLog past
    → Contains (open_leaves past) claimed → (k : ℕ) → k + 1 ≡ claimed.execution
    → OpenAt past claimed k
open_here laws past claimed legal has k is =
    let o = open_at laws past claimed legal has in
    subst (OpenAt past claimed) (same_place o.1.at is) o.1

ended_leaves : (past : List Row) (claimed : OpenLeaf) (at : ℤ) (ending : Ending)
    (k : ℕ) (o : OpenAt past claimed k)
    → without_leaf claimed (open_leaves past)
    ≡ open_leaves (end_row at claimed.execution (leaf_number_in o.execution claimed.leaf) ending ∷ past)
ended_leaves past claimed at ending k o =
    let row : Row =
    end_row at claimed.execution (leaf_number_in o.execution claimed.leaf) ending in
    ap (λ l. filter (λ y. not (nat_eq y.execution claimed.execution && same_leaf y.leaf l))
    (open_leaves past)) (sym o.leaf)
    ∙ ap (λ f. without_ended row f (open_leaves past)) (sym o.among)

pub ended_says : LogLaws → (old new : Tables) (past : List Row) (claimed : OpenLeaf) (at : ℤ)
    (ending : Ending) → AreLogTables old (log_state past) → is_ending ending ≡ true
    → (k : ℕ) (o : OpenAt past claimed k)
    → let row : Row =
    end_row at claimed.execution (leaf_number_in o.execution claimed.leaf) ending in
    GoesOn old new past row k o.execution (with_mark o.execution (End claimed.leaf ending))
    → new.leaves.items ≡ without_leaf claimed old.leaves.items
    → AreLogTables new (log_state (row ∷ past))
ended_says laws old new past claimed at ending says is k o change leaves =
    let row : Row =
    end_row at claimed.execution (leaf_number_in o.execution claimed.leaf) ending in
    let e : LoggedExecution = o.execution in
    let mark : LoggedExecution → Mark = λ x. End (leaf_of x row.b) (ending_of row.c) in
    let marks : Marks row mark = λ x. refl in
    let ended : with_mark e (End claimed.leaf ending) ≡ with_mark e (mark e) =
    ap (λ l. with_mark e (End l ending)) (sym o.leaf)
    ∙ ap (λ x. with_mark e (End (leaf_of e row.b) x)) (sym (ending_kept ending is)) in
    let set = one_marked laws past row mark refl marks refl k e o.found (sym o.number) in
    says_on old new past row (record {
      opened = refl;
      zone = refl;
      nodes = refl;
      jobs = refl;
      policy = refl;
      fire = refl;
    }) says change.keeps (record {
      counted = change.counted;
      last = change.last;
      doors = change.doors ∙ says.doors;
      leaves = leaves ∙ ap (without_leaf claimed) says.leaves
          ∙ ended_leaves past claimed at ending k o;
      owed = owed_on laws old past says row k e (with_mark e (mark e)) o.found refl set
          new.owed_by_running
          (change.owed
          ∙ ap (λ x. old.owed_by_running - owed_if_running e + owed_if_running x) ended);
      marks = one_put laws old past says row k e (with_mark e (mark e)) o.found refl set
          new.executions.items change.execution change.executions
          (subst (IsEntry change.execution) ended change.entry);
      running = change.running
          ∙ ap (λ x. running_after x old.world.running) ended
          ∙ ap (running_after (with_mark e (mark e))) (desk_running old past says)
          ∙ sym (run_on laws old past says row k e (with_mark e (mark e)) o.found refl set
          (open_runs e.accepted.plan e.marks claimed.leaf o.stays_open o.kept));
    })
