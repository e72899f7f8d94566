-- A pump over the small log of rb_log: two tasks, one after the other, and then nothing may start.
use Rattle.std.proofs.Common.{◌≡◌, ℕ, List, [], ◌∷◌, ◌+◌, codes, reverse, map, ap, sym, subst, refl, arith}
use Rattle.std.specs.List.{flat_map}
use Rattle.std.proofs.lemmas.List.Elements.{All-nil, All-cons}
use Rattle.std.specs.Prelude.{All}
use Rattle.rb_causes.specs.declared.ending.Ending.{Ending}
use Rattle.rb_causes.specs.declared.ending.Ending.TheVariants.{Code}
use Rattle.rb_causes.specs.declared.row.Row.{Row}
use Rattle.rb_causes.specs.declared.spawner.SpawnRun.{SpawnRun}
use Rattle.rb_log.specs.Rows.{begin_row, end_row, ending_number}
use Rattle.rb_log.specs.Programs.{programs_at}
use Rattle.rb_log.specs.Tasks.{TaskValue}
use Rattle.rb_log.specs.Records.{Record}
use Rattle.rb_log.specs.declared.answer.Answer.TheVariants as answer
use Rattle.rb_log.specs.declared.answer.Kept.TheVariants as kept
use Rattle.rb_log.specs.declared.call.Call.TheVariants.{Claim, Report}
use Rattle.rb_log.proofs.Computing.{computing}
use Rattle.rb_log.proofs.Samples.{ann, at, imported, after, reported, restart}
use Rattle.rb_work.specs.Works.{Work, done_of, task_run, added_numbers, IsLogged, IsWithdrawal, IsWork}
use Rattle.rb_work.specs.Pumping.{Ends}
use Rattle.rb_work.specs.declared.pumped.Pumped.TheVariants.{Idle}

-- rows 6 to 9 are the Begin and the End of web1, and those of web3
abbrev log : List Row
log =
    reverse (after 100 imported
    (restart ann ∷ Claim 0 at ∷ reported 0 ∷ Claim 0 at ∷ reported 1 ∷ []))

abbrev task : ℕ → List ℕ → TaskValue
task node name = record {
  claimed = record { execution = 1; leaf = record { node = node; slot = 0 }; worker = 0 };
  words = codes "echo" ∷ codes "soft" ∷ name ∷ [];
}

-- a work that begins behind so many rows
abbrev work : ℕ → ℕ → List ℕ → Ending → Work
work rows node name ending = record {
  withdrawals = [];
  claim = record {
    call = Claim 0 at;
    answer = answer.Task (task node name);
    before = rows;
    after = rows + 1;
  };
  task = task node name;
  ending = ending;
  report = record {
    call = Report (record { claimed = (task node name).claimed; ending = ending }) at;
    answer = answer.Reported kept.All;
    before = rows + 1;
    after = rows + 2;
  };
}

abbrev first : Work
first = work 5 0 (codes "web1") (Code 0)

abbrev second : Work
second = work 7 1 (codes "web3") (Code 0)

first_logged : IsLogged 0 log first
unfolding computing
first_logged = record {
  begin = begin_row at 1 0 0;
  end = end_row at 1 0 (Code 0);
  begin_at = refl;
  end_at = refl;
  begun = refl;
  ended = refl;
  program = refl;
}

second_logged : IsLogged 0 log second
unfolding computing
second_logged = record {
  begin = begin_row at 1 1 0;
  end = end_row at 1 1 (Code 0);
  begin_at = refl;
  end_at = refl;
  begun = refl;
  ended = refl;
  program = refl;
}

is_work : (w : Work) → w.withdrawals ≡ [] → w.claim.call ≡ Claim 0 at
    → w.claim.answer ≡ answer.Task w.task
    → w.report.call ≡ Report (done_of w) at → w.report.answer ≡ answer.Reported kept.All
    → IsLogged 0 log w → IsWork at 0 log w
is_work w none asked given told reported logged = record {
  withdrew = subst (All (IsWithdrawal at 0)) (sym none) (All-nil (IsWithdrawal at 0));
  kept = kept.All;
  asked = asked;
  given = given;
  told = told;
  reported = reported;
  logged = logged;
}

both : All (IsWork at 0 log) (first ∷ second ∷ [])
both =
    All-cons (IsWork at 0 log) first (second ∷ [])
    (is_work first refl refl refl refl refl first_logged)
    (All-cons (IsWork at 0 log) second []
    (is_work second refl refl refl refl refl second_logged) (All-nil (IsWork at 0 log)))

programs : programs_at log (flat_map added_numbers (first ∷ second ∷ []))
    ≡ map task_run (first ∷ second ∷ [])
unfolding computing
programs = refl

-- and then a Claim is answered so
abbrev idle : Record
idle = record { call = Claim 0 at; answer = answer.Idle; before = 9; after = 9 }

ends : Ends at 0 (idle ∷ []) Idle
ends = record {
  withdrawals = [];
  withdrew = All-nil (IsWithdrawal at 0);
  claim = idle;
  behind = refl;
  asked = refl;
  given = refl;
}

-- no pump tells another ending than that which the End holds
abbrev first_ending : List SpawnRun → ℕ
first_ending [] = 0
first_ending (run ∷ runs) = ending_number run.ending

no_other_ending : IsLogged 0 log (work 5 0 (codes "web1") (Code 7)) → ⊥
unfolding computing
no_other_ending h = let wrong : 0 ≡ 7 = ap first_ending h.program in grind (arith, wrong)
