-- What a worker hears, and a Claim that gives no task.
use Rattle.std.proofs.Common.{◌≡◌, ◌∙◌, ◌≢◌, ◌⊎◌, ℕ, ℤ, List, [], ◌∷◌, ◌++◌, false, Result, Ok, Err, IfErr, IsErrAnd, Contains, All, ap, sym, subst, refl, inl, inr, append-nil}
use Rattle.std.proofs.lemmas.List.Elements.{All-nil, Contains-push}
use Rattle.rb_causes.specs.Spawners.{ShownRuns}
use Rattle.rb_causes.specs.declared.row.Row.{Row}
use Rattle.rb_causes.proofs.RanLaws.{ran_readied}
use Rattle.rb_log.specs.Tasks.{TaskValue}
use Rattle.rb_log.specs.Legal.{Rights}
use Rattle.rb_log.specs.Records.{Record}
use Rattle.rb_log.specs.Told.{Told, Acts, record_of, rights_after, with_task}
use Rattle.rb_log.specs.Acted.{Acted}
use Rattle.rb_log.specs.Withdrawals.{is_withdrawal}
use Rattle.rb_log.specs.declared.answer.Answer.{Answer}
use Rattle.rb_log.specs.declared.answer.Answer.TheVariants as answer
use Rattle.rb_log.specs.declared.call.Call.TheVariants.{Claim}
use Rattle.rb_log.specs.declared.task.OpenLeaf.{OpenLeaf}
use Rattle.rb_work.specs.Hearing.{HasClaimed, heard_of}
use Rattle.rb_work.specs.Works.{IsWithdrawal, IsWork, Outside}
use Rattle.rb_work.specs.Pumping.{Ends, IsLastClaim}
use Rattle.rb_work.specs.OneTask.{HasStopped}
use Rattle.rb_work.specs.declared.pumped.Pumped.{Pumped}
use Rattle.rb_work.specs.declared.pumped.Pumped.TheVariants as pumped
use Rattle.rb_work.proofs.Claimed.{Began, WasIdle, WasTold, told_by}
use Rattle.rb_work.proofs.Records.{acted_one, acted_own}
use Rattle.rb_work.proofs.Withdrawn.{claim_of, withdrawn_rights}

-- ---- what an act is

pub claimed_by : (worker : ℕ) (at : ℤ) (old new : Told) (a : Answer)
    (acts : Acts old new (Claim worker at) a) → is_withdrawal a ≡ false
    → WasTold worker a acts.before new.log
claimed_by worker at old new a acts none =
    told_by worker a acts.before new.log none
    (claim_of worker at old new (Claim worker at) a acts refl)

-- ---- a task was heard

-- a task is heard where one was given
abbrev pub IsGiven : ℕ → TaskValue → Answer → ℕ → List Row → Type 0
IsGiven worker t a before log = (a ≡ answer.Task t) × Began worker t before log

pub heard_task : (worker : ℕ) (t : TaskValue) (a : Answer) (before : ℕ) (log : List Row)
    → Ok t ≡ heard_of a → WasTold worker a before log → IsGiven worker t a before log
heard_task worker t a before log heard (inl h) =
    let same : t ≡ h.0 = task_of (heard ∙ ap heard_of h.1) in
    (h.1 ∙ ap answer.Task (sym same), subst (λ x. Began worker x before log) (sym same) h.2)
  where
    task_of : {x y : TaskValue} → ◌≡◌ {A = Result TaskValue Pumped} (Ok x) (Ok y) → x ≡ y
    task_of h = cc
heard_task worker t a before log heard (inr h) = absurd (never h.word)
  where
    other : (b : Answer) → a ≡ b → (said : Pumped) → heard_of b ≡ Err said → ⊥
    other b is said e = let wrong : Ok t ≡ Err said = heard ∙ ap heard_of is ∙ e in cc

    never : (a ≡ answer.Idle) ⊎ ((a ≡ answer.Closed)
        ⊎ ((a ≡ answer.StoreFault) ⊎ (a ≡ answer.NoMemory))) → ⊥
    never (inl is) = other answer.Idle is pumped.Idle refl
    never (inr (inl is)) = other answer.Closed is pumped.Closed refl
    never (inr (inr (inl is))) = other answer.StoreFault is pumped.StoreFault refl
    never (inr (inr (inr is))) = other answer.NoMemory is pumped.NoMemory refl

-- its leaf may be reported from then on
pub task_leaf : (worker : ℕ) (at : ℤ) (old new : Told) (a : Answer) (t : TaskValue)
    → Acts old new (Claim worker at) a → is_withdrawal a ≡ false → Ok t ≡ heard_of a
    → Contains new.rights.leaves t.claimed
task_leaf worker at old new a t acts none heard =
    let given = (heard_task worker t a acts.before new.log heard
    (claimed_by worker at old new a acts none)).0 in
    subst (λ leaves. Contains leaves t.claimed)
    (sym (ap (λ (r : Rights). r.leaves) (acts.rights
    ∙ ap (λ b. rights_after (Claim worker at) b old.rights) given)))
    (Contains-push old.rights.leaves t.claimed)

-- ---- nothing was heard but a word

-- said is what the last Claim was answered
module _ (at : ℤ) (worker : ℕ) (withdrawals : List Record)
    (withdrew : All (IsWithdrawal at worker) withdrawals) (said : Pumped) (a : Answer) (r : Record)
    (heard : Err said ≡ heard_of a) (asked : r.call ≡ Claim worker at) (given : r.answer ≡ a) where
  abbrev last : List Record
  last = withdrawals ++ r ∷ []

  abbrev Said : Type 0
  Said = Ends at worker last said × (said ≢ pumped.Limit)

  word_ends : (word : Pumped) (b : Answer) → a ≡ b → heard_of b ≡ Err word → word ≢ pumped.Limit
      → (IsLastClaim at worker b last → Ends at worker last word) → Said
  word_ends word b is gives other ends =
      let same : word ≡ said = word_of (sym (heard ∙ ap heard_of is ∙ gives)) in
      subst (λ x. Ends at worker last x × (x ≢ pumped.Limit)) same (
        ends (record {
          withdrawals = withdrawals;
          withdrew = withdrew;
          claim = r;
          behind = refl;
          asked = asked;
          given = given ∙ is;
        }),
        other,
      )
    where
      word_of : {x y : Pumped} → ◌≡◌ {A = Result TaskValue Pumped} (Err x) (Err y) → x ≡ y
      word_of h = cc

  heard_word : (a ≡ answer.Idle) ⊎ ((a ≡ answer.Closed)
      ⊎ ((a ≡ answer.StoreFault) ⊎ (a ≡ answer.NoMemory))) → Said
  heard_word (inl is) =
      word_ends pumped.Idle answer.Idle is refl (λ h. cc) (λ h. h)
  heard_word (inr (inl is)) =
      word_ends pumped.Closed answer.Closed is refl (λ h. cc) (λ h. h)
  heard_word (inr (inr (inl is))) =
      word_ends pumped.StoreFault answer.StoreFault is refl (λ h. cc) (λ h. h)
  heard_word (inr (inr (inr is))) =
      word_ends pumped.NoMemory answer.NoMemory is refl (λ h. cc) (λ h. inr h)

heard_idle : (worker : ℕ) (said : Pumped) (a : Answer) (before : ℕ) (log : List Row)
    → Err said ≡ heard_of a → WasTold worker a before log → WasIdle a before log
heard_idle worker said a before log heard (inl h) =
    let wrong : Err said ≡ Ok h.0 = heard ∙ ap heard_of h.1 in absurd (never h.0 wrong)
  where
    never : (t : TaskValue) → Err said ≡ Ok t → ⊥
    never t h = cc
heard_idle worker said a before log heard (inr h) = h

-- ---- what may be asked

pub only_leaves : (r s : Rights) (leaves : List OpenLeaf) → r ≡ record s { leaves = leaves }
    → r ≡ record s { leaves = r.leaves }
only_leaves r s leaves h =
    h ∙ ap (λ l. record s { leaves = l }) (sym (ap (λ (x : Rights). x.leaves) h))

pub claimed_rights : (at : ℤ) (worker : ℕ) (old new : Told) (heard : Result TaskValue Pumped)
    → HasClaimed at worker old new heard
    → new.rights ≡ record old.rights { leaves = new.rights.leaves }
claimed_rights at worker old new heard h =
    only_leaves new.rights old.rights (with_task h.answer_is h.mid.rights.leaves)
    (h.acts.rights
    ∙ ap (λ (x : Rights). record x { leaves = with_task h.answer_is h.mid.rights.leaves })
    (withdrawn_rights at worker h.withdrawals old h.mid h.withdrew h.acted))

-- ---- no task was worked off

-- a word that was handed on
pub handed : {T : Type 0} (at : ℤ) (worker : ℕ) (old new : Outside) (result : Result T Pumped)
    (said : Pumped) → IsErrAnd result (λ e. e ≡ said) → HasStopped at worker old new said
    → IfErr result (λ word. HasStopped at worker old new word)
handed at worker old new (Ok x) said is stop = absurd is
handed at worker old new (Err e) said is stop =
    subst (λ word. HasStopped at worker old new word) (sym is) stop

-- there is no place for a run
pub not_ready : (at : ℤ) (worker : ℕ) (clerk : Told) (a b : ShownRuns) → b.runs ≡ a.runs
    → b.faults ≡ a.faults
    → HasStopped at worker (record { clerk = clerk; spawner = a })
    (record { clerk = clerk; spawner = b }) pumped.NoMemory
not_ready at worker clerk a b same still = record {
  last = [];
  worked = record {
    each = All-nil (IsWork at worker clerk.log);
    acted = refl;
    own = sym (append-nil clerk.own);
    ran = ran_readied a b same still;
    rights = refl;
  };
  ends = inl refl;
  unlimited = λ h. cc;
}

-- the last Claim gave none
pub none_given : (at : ℤ) (worker : ℕ) (old new : Told) (a b : ShownRuns) (said : Pumped)
    → b.runs ≡ a.runs → b.faults ≡ a.faults → HasClaimed at worker old new (Err said)
    → HasStopped at worker (record { clerk = old; spawner = a })
    (record { clerk = new; spawner = b }) said
none_given at worker old new a b said same still h =
    let acts : Acts h.mid new (Claim worker at) h.answer_is = h.acts in
    let idle : WasIdle h.answer_is acts.before new.log =
    heard_idle worker said h.answer_is acts.before new.log h.heard_is
    (claimed_by worker at h.mid new h.answer_is acts h.no_more) in
    let r : Record = record_of (Claim worker at) h.answer_is acts.before new.log in
    let last : List Record = h.withdrawals ++ r ∷ [] in
    let acted : Acted old new last =
    acted_one h.withdrawals old h.mid new (Claim worker at) h.answer_is h.acted acts in
    let both = heard_word at worker h.withdrawals h.withdrew said h.answer_is r h.heard_is refl
    refl idle.word in
    record {
      last = last;
      worked = record {
        each = All-nil (IsWork at worker new.log);
        acted = acted;
        own = acted_own last old new acted;
        ran = ran_readied a b same still;
        rights = claimed_rights at worker old new (Err said) h;
      };
      ends = both.0;
      unlimited = both.1;
    }
