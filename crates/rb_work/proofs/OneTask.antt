-- A task that is claimed, run and reported.
use Rattle.std.proofs.Common.{◌≡◌, ◌∙◌, ◌≤◌, ◌-◌, ◌+◌, ℕ, suc, ℤ, List, [], ◌∷◌, ◌++◌, take, length, reverse, true, Option, Some, Ok, option_to_list, ap, sym, subst, refl, arith, append-nil, append_assoc}
use Rattle.std.specs.List.{flat_map}
use Rattle.std.proofs.Math.Seq.{take-append-add}
use Rattle.std.proofs.lemmas.List.{length-take-le}
use Rattle.std.proofs.lemmas.List.Elements.{All-nil, All-cons}
use Rattle.rb_causes.specs.Spawners.{ShownRuns, Ran}
use Rattle.rb_causes.specs.declared.row.Row.{Row}
use Rattle.rb_causes.specs.declared.spawner.SpawnRun.{SpawnRun}
use Rattle.rb_marks.specs.declared.mark.Mark.{Mark}
use Rattle.rb_log.specs.Tasks.{TaskValue, DoneValue, is_ending}
use Rattle.rb_log.specs.Rows.{begin_row, end_row}
use Rattle.rb_log.specs.Executions.{Execution, WithdrawnNode, executions, execution_among}
use Rattle.rb_log.specs.Claims.{reported_end_row, leaf_number_in}
use Rattle.rb_log.specs.Legal.{IsLegalLog, Rights}
use Rattle.rb_log.specs.Programs.{program_at}
use Rattle.rb_log.specs.Told.{Told, Acts, record_of}
use Rattle.rb_log.specs.Acted.{Acted}
use Rattle.rb_log.specs.Records.{Record}
use Rattle.rb_log.specs.Sums.{without_leaf}
use Rattle.rb_log.specs.declared.answer.Answer.{Answer}
use Rattle.rb_log.specs.declared.call.Call.TheVariants.{Claim, Report}
use Rattle.rb_log.specs.declared.task.OpenLeaf.{OpenLeaf}
use Rattle.rb_work.specs.PumpLaws.{PumpLaws}
use Rattle.rb_work.specs.Hearing.{HasClaimed}
use Rattle.rb_work.specs.Works.{Work, task_run, records_of, row_at, IsLogged, IsWork}
use Rattle.rb_work.specs.OneTask.{HasWorkedOne}
use Rattle.rb_work.proofs.Lists.{get_seam, one_more, reverse_seam}
use Rattle.rb_log.proofs.EndLaws.{found_at}
use Rattle.rb_work.proofs.Numbered.{stays_on}
use Rattle.rb_work.proofs.Claimed.{Began}
use Rattle.rb_work.proofs.Reported.{WasReported, was_reported}
use Rattle.rb_work.proofs.Logged.{begun, ended_by, newest_at, program}
use Rattle.rb_work.proofs.Records.{acted_begins, acted_own, acted_room, acted_then, begins_longer}
use Rattle.rb_work.proofs.Stopped.{IsGiven, claimed_by, claimed_rights, heard_task, only_leaves}

module _ (laws : PumpLaws) (at : ℤ) (worker : ℕ) (old mid new : Told) (b : Answer)
    (t : TaskValue) (done : DoneValue) (has : HasClaimed at worker old mid (Ok t))
    (reports : Acts mid new (Report done at) b) (same : done.claimed ≡ t.claimed)
    (is : is_ending done.ending ≡ true) where
  abbrev a : Answer
  a = has.answer_is

  abbrev claims : Acts has.mid mid (Claim worker at) a
  claims = has.acts

  given : IsGiven worker t a claims.before mid.log
  given =
      heard_task worker t a claims.before mid.log has.heard_is
      (claimed_by worker at has.mid mid a claims has.no_more)

  abbrev began : Began worker t claims.before mid.log
  began = given.1

  was : WasReported done at b reports.before new.log
  was = was_reported done mid.room reports.before at new.log b reports.true_record.answer

  -- the rows before the Begin, and those between the Claim and the Report
  abbrev past : List Row
  past = take claims.before mid.log

  abbrev count : ℕ
  count = reports.before - length mid.log

  abbrev between : List Row
  between = take count reports.log.0

  abbrev e : Execution
  e = began.execution

  abbrev begin : Row
  begin = begin_row began.now e.number (leaf_number_in e began.leaf) worker

  abbrev end : Row
  end = end_row was.now e.number (leaf_number_in e began.leaf) done.ending

  counted : reports.before ≡ length mid.log + count
  counted = omega (arith, reports.later)

  until_report : take reports.before new.log ≡ mid.log ++ between
  until_report =
      ap (λ n. take n new.log) counted
      ∙ ap (λ rows. take (length mid.log + count) rows) reports.log.1
      ∙ take-append-add mid.log reports.log.0 count

  parted : take reports.before new.log ≡ past ++ begin ∷ between
  parted =
      until_report ∙ ap (λ rows. rows ++ between) began.log_is
      ∙ append_assoc past (begin ∷ []) between

  abbrev newer : List Row
  newer = reverse between ++ begin ∷ []

  newest_first : reverse (take reports.before new.log) ≡ newer ++ reverse past
  newest_first =
      ap reverse parted ∙ reverse_seam past between begin
      ∙ sym (append_assoc (reverse between) (begin ∷ []) (reverse past))

  abbrev marked : List WithdrawnNode → List Mark → Execution
  marked withdrawn marks = record e { withdrawn = withdrawn; marks = marks }

  -- the execution is still there at the Report
  still_there : (marks : List Mark) × (withdrawn : List WithdrawnNode)
      × (execution_among e.number (executions (reverse (take reports.before new.log)))
      ≡ Some (marked withdrawn marks))
  still_there =
      let stays = stays_on laws.stay newer (reverse past) began.place e began.there in (
        stays.0,
        stays.1,
        subst (λ rows. execution_among e.number (executions rows) ≡ Some (marked stays.1 stays.0))
            (sym newest_first)
            (found_at (newer ++ reverse past) began.place (marked stays.1 stays.0) stays.2),
      )

  abbrev opened : OpenLeaf
  opened = record { execution = e.number; leaf = began.leaf; worker = worker }

  abbrev ended_in : OpenLeaf → Option Execution → List Row
  ended_in o found =
      option_to_list (reported_end_row was.now (record { claimed = o; ending = done.ending }) found)

  with_end : new.log ≡ take reports.before new.log ++ end ∷ []
  with_end =
      was.log_is
      ∙ ap (λ (o : OpenLeaf). take reports.before new.log
      ++ ended_in o
      (execution_among o.execution (executions (reverse (take reports.before new.log)))))
      (same ∙ ap (λ (x : TaskValue). x.claimed) began.task)
      ∙ ap (λ found. take reports.before new.log ++ ended_in opened found) still_there.2

  abbrev whole : List Row
  whole = past ++ begin ∷ (between ++ end ∷ [])

  new_is : new.log ≡ whole
  new_is =
      with_end ∙ ap (λ rows. rows ++ end ∷ []) parted
      ∙ append_assoc past (begin ∷ between) (end ∷ [])

  legal : IsLegalLog (reverse whole)
  legal = subst (λ rows. IsLegalLog (reverse rows)) new_is reports.legal

  -- ---- the numbers of the two rows

  past_length : length past ≡ claims.before
  past_length = length-take-le claims.before mid.log claims.true_record.within.0

  mid_length : length mid.log ≡ suc claims.before
  mid_length = one_more claims.before mid.log begin claims.true_record.within.0 began.log_is

  new_length : length new.log ≡ suc reports.before
  new_length = one_more reports.before new.log end reports.true_record.within.0 with_end

  behind_past : length mid.log ≡ suc (length past)
  behind_past = mid_length ∙ sym (ap suc past_length)

  begin_at : row_at new.log (length mid.log) ≡ Some begin
  begin_at =
      ap (λ rows. row_at rows (length mid.log)) new_is
      ∙ ap (λ n. row_at whole n) behind_past
      ∙ get_seam past (between ++ end ∷ []) begin

  end_at : row_at new.log (length new.log) ≡ Some end
  end_at = newest_at reports.before new.log end reports.true_record.within.0 with_end

  -- ---- the work

  abbrev pub work : Work
  work = record {
    withdrawals = has.withdrawals;
    claim = record_of (Claim worker at) a claims.before mid.log;
    task = t;
    ending = done.ending;
    report = record_of (Report done at) b reports.before new.log;
  }

  program_is : program_at new.log (length mid.log) ≡ task_run work ∷ []
  program_is =
      ap (λ rows. program_at rows (length mid.log)) new_is
      ∙ ap (λ n. program_at whole n) behind_past
      ∙ program laws past between began.now was.now worker began.place e began.leaf done.ending
      began.there began.first is legal
      ∙ ap (λ (x : TaskValue). run_as x) (sym began.task)
    where
      run_as : TaskValue → List SpawnRun
      run_as x = record { words = x.words; ending = done.ending } ∷ []

  logged : IsLogged worker new.log work
  logged = record {
    begin = begin;
    end = end;
    begin_at = begin_at;
    end_at = end_at;
    begun = begun laws past between began.now was.now worker began.place e began.leaf
        done.ending began.there began.first is;
    ended = ended_by laws past between began.now was.now worker began.place e began.leaf
        done.ending began.there began.first is;
    program = program_is;
  }

  is_work : IsWork at worker new.log work
  is_work = record {
    withdrew = has.withdrew;
    kept = was.kept;
    asked = refl;
    given = given.0;
    told = ap (λ o. Report (record { claimed = o; ending = done.ending }) at) same;
    reported = was.answer_is;
    logged = logged;
  }

  acted : Acted old new (records_of work)
  acted =
      acted_then has.withdrawals (work.claim ∷ work.report ∷ []) old has.mid new has.acted (
        mid,
        record { acts = claims; before = refl; after = refl },
        (new, record { acts = reports; before = refl; after = refl }, refl),
      )

  -- the records of this work alone
  abbrev all : List Record
  all = flat_map records_of (work ∷ []) ++ []

  all_is : records_of work ≡ all
  all_is =
      sym (append-nil (records_of work)) ∙ sym (append-nil (records_of work ++ []))

  all_acted : Acted old new all
  all_acted = subst (Acted old new) all_is acted

  rights : new.rights ≡ record old.rights { leaves = new.rights.leaves }
  rights =
      only_leaves new.rights old.rights (without_leaf done.claimed mid.rights.leaves)
      (reports.rights
      ∙ ap (λ (r : Rights). record r { leaves = without_leaf done.claimed mid.rights.leaves })
      (claimed_rights at worker old mid (Ok t) has))

  withdrew_later : length old.log ≤ length has.mid.log
  withdrew_later =
      begins_longer old.log has.mid.log (acted_begins has.withdrawals old has.mid has.acted)

  pub worked_one : (s0 s1 : ShownRuns) → Ran (task_run work ∷ []) s0 s1
      → HasWorkedOne at worker (record { clerk = old; spawner = s0 })
      (record { clerk = new; spawner = s1 })
  worked_one s0 s1 ran = record {
    work = work;
    worked = record {
      each =
          All-cons (IsWork at worker new.log) work [] is_work
          (All-nil (IsWork at worker new.log));
      acted = all_acted;
      own = acted_own all old new all_acted;
      ran = ran;
      rights = rights;
    };
    room = reports.room ∙ claims.room ∙ acted_room has.withdrawals old has.mid has.acted;
    longer = omega
        (arith, withdrew_later, claims.later, mid_length, reports.later, new_length);
    within = reports.within;
  }
