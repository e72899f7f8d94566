-- Claims that withdrew nodes.
use Rattle.std.proofs.Common.{◌≡◌, ◌∙◌, ◌<◌, ◌-◌, ℕ, suc, ℤ, List, [], ◌∷◌, ◌++◌, length, true, false, All, ap, sym, subst, refl, arith}
use Rattle.std.proofs.lemmas.Bool.{false≢true}
use Rattle.std.proofs.lemmas.List.Elements.{All-nil, All-cons, All-head, All-tail, All-append}
use Rattle.rb_log.specs.Records.{IsTrueAnswer, Record}
use Rattle.rb_log.specs.Told.{Told, Acts, record_of, rights_after, with_task}
use Rattle.rb_log.specs.Acted.{Acted}
use Rattle.rb_log.specs.Withdrawals.{is_withdrawal}
use Rattle.rb_log.specs.declared.answer.Answer.{Answer}
use Rattle.rb_log.specs.declared.answer.Answer.TheVariants as answer
use Rattle.rb_log.specs.declared.call.Call.{Call}
use Rattle.rb_log.specs.declared.call.Call.TheVariants.{Claim}
use Rattle.rb_log.specs.declared.task.OpenLeaf.{OpenLeaf}
use Rattle.rb_work.specs.Hearing.{is_task}
use Rattle.rb_work.specs.Works.{IsWithdrawal}
use Rattle.rb_work.proofs.Claimed.{WasClaimed, WasWithdrawn, was_claimed, withdrawn_by}
use Rattle.rb_work.proofs.Lists.{one_more}
use Rattle.rb_work.proofs.Records.{acted_one}

-- ---- what an act is

pub claim_of : (worker : ℕ) (at : ℤ) (old new : Told) (call : Call) (a : Answer)
    (acts : Acts old new call a) → call ≡ Claim worker at → WasClaimed worker a acts.before new.log
claim_of worker at old new call a acts is =
    was_claimed worker old.room acts.before at new.log acts.true_record.within.0 a
    (subst (λ c. IsTrueAnswer a new.log old.room (record_of c a acts.before new.log)) is
    acts.true_record.answer)

-- the row of a withdrawal
pub withdrawal_of : (worker : ℕ) (at : ℤ) (old new : Told) (call : Call) (a : Answer)
    (acts : Acts old new call a) → call ≡ Claim worker at → is_withdrawal a ≡ true
    → WasWithdrawn a acts.before new.log
withdrawal_of worker at old new call a acts is gone =
    withdrawn_by worker a acts.before new.log gone (claim_of worker at old new call a acts is)

pub withdrawal_longer : (worker : ℕ) (at : ℤ) (old new : Told) (call : Call) (a : Answer)
    (acts : Acts old new call a) → call ≡ Claim worker at → is_withdrawal a ≡ true
    → length new.log ≡ suc acts.before
withdrawal_longer worker at old new call a acts is gone =
    let was = withdrawal_of worker at old new call a acts is gone in
    one_more acts.before new.log was.row acts.true_record.within.0 was.log_is

-- each brings the log nearer to its room
pub withdrawal_nearer : (worker : ℕ) (at : ℤ) (old new : Told) (a : Answer)
    → Acts old new (Claim worker at) a → is_withdrawal a ≡ true
    → new.room - length new.log < old.room - length old.log
withdrawal_nearer worker at old new a acts gone =
    let longer = withdrawal_longer worker at old new (Claim worker at) a acts refl gone in
    omega (arith, acts.room, acts.within, acts.later, longer)

-- ---- what may be asked stays

pub untouched : (a : Answer) (leaves : List OpenLeaf) → is_task a ≡ false
    → with_task a leaves ≡ leaves
untouched (answer.Task t) leaves h = absurd (false≢true (sym h))
untouched other leaves h = refl

no_task : (a : Answer) → is_withdrawal a ≡ true → is_task a ≡ false
no_task (answer.Task t) h = absurd (false≢true h)
no_task other h = refl

withdrawal_rights : (worker : ℕ) (at : ℤ) (old new : Told) (call : Call) (a : Answer)
    → Acts old new call a → call ≡ Claim worker at → is_withdrawal a ≡ true
    → new.rights ≡ old.rights
withdrawal_rights worker at old new call a acts is gone =
    acts.rights
    ∙ ap (λ c. rights_after c a old.rights) is
    ∙ ap (λ leaves. record old.rights { leaves = leaves })
    (untouched a old.rights.leaves (no_task a gone))

pub withdrawn_rights : (at : ℤ) (worker : ℕ) (ws : List Record) (a b : Told)
    → All (IsWithdrawal at worker) ws → Acted a b ws → b.rights ≡ a.rights
withdrawn_rights at worker [] a b h acted = ap (λ (t : Told). t.rights) acted
withdrawn_rights at worker (w ∷ ws) a b h acted =
    let is = All-head (IsWithdrawal at worker) w ws h in
    withdrawn_rights at worker ws acted.0 b (All-tail (IsWithdrawal at worker) w ws h) acted.2
    ∙ withdrawal_rights worker at a acted.0 w.call w.answer acted.1.acts is.asked is.given

-- ---- one more

-- these Claims withdrew nodes
abbrev pub Withdrew : ℤ → ℕ → Told → Told → Type 0
Withdrew at worker old new =
    (ws : List Record) × All (IsWithdrawal at worker) ws × Acted old new ws
    × (new.rights ≡ old.rights)

pub withdrew_more : (at : ℤ) (worker : ℕ) (old mid new : Told) (a : Answer)
    → Withdrew at worker old mid → Acts mid new (Claim worker at) a → is_withdrawal a ≡ true
    → Withdrew at worker old new
withdrew_more at worker old mid new a h acts gone =
    let w : Record = record_of (Claim worker at) a acts.before new.log in
    let is : IsWithdrawal at worker w = record { asked = refl; given = gone } in (
      h.0 ++ w ∷ [],
      All-append (IsWithdrawal at worker) h.0 (w ∷ []) h.1
          (All-cons (IsWithdrawal at worker) w [] is (All-nil (IsWithdrawal at worker))),
      acted_one h.0 old mid new (Claim worker at) a h.2 acts,
      withdrawal_rights worker at mid new (Claim worker at) a acts refl gone ∙ h.3,
    )
