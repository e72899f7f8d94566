-- A pump on a desk with an open door does not find it closed.
use Rattle.std.proofs.Common.{◌≡◌, ◌∙◌, ◌<◌, ◌&&◌, ℕ, ℤ, List, [], ◌∷◌, ◌++◌, take, length, reverse, flat_map, Bool, true, false, nat_eq, Option, Some, None, option_to_list, ap, sym, subst, refl, inl, inr, arith, append-nil, append_assoc}
use Rattle.std.proofs.Math.Seq.{take-length}
use Rattle.std.proofs.lemmas.Bool.Decides.{nat_tests}
use Rattle.rb_causes.specs.declared.row.Row.{Row}
use Rattle.rb_log.specs.Claims.{claim, is_closed}
use Rattle.rb_log.specs.Laws.{ClaimAnswers, IsClaimAnswer, decision_now}
use Rattle.rb_log.specs.Legal.{Rights, rights_of}
use Rattle.rb_log.specs.LogState.{LogState, log_state, has_room, moment, running_executions}
use Rattle.rb_log.specs.Moves.{Moved, limited, limited_by, full_unless}
use Rattle.rb_log.specs.Records.{Record, Follows}
use Rattle.rb_log.specs.Told.{Told, Acts, record_of}
use Rattle.rb_log.specs.Acted.{Acted, ActsAs}
use Rattle.rb_log.specs.declared.answer.Answer.{Answer}
use Rattle.rb_log.specs.declared.answer.Answer.TheVariants as answer
use Rattle.rb_log.specs.declared.call.Call.{Call}
use Rattle.rb_log.specs.declared.call.Call.TheVariants.{Claim}
use Rattle.rb_work.specs.Works.{Outside, records_of}
use Rattle.rb_work.specs.Pumping.{HasPumped}
use Rattle.rb_work.specs.declared.pumped.Pumped.TheVariants.{Closed}

-- ---- the last of some acts

acted_last : (xs : List Record) (r : Record) (a b : Told) → Acted a b (xs ++ r ∷ [])
    → (mid : Told) × ActsAs mid b r
acted_last [] r a b h = (a, subst (λ t. ActsAs a t r) (sym h.2) h.1)
acted_last (x ∷ xs) r a b h = acted_last xs r h.0 b h.2

-- ---- a claim that is answered so

full_is_other : (fits : Bool) (m : Moved) → answer.Closed ≡ (full_unless fits m).answer
    → answer.Closed ≡ m.answer
full_is_other true m h = h
full_is_other false m h = absurd (cc)

limit_is_other : (s : LogState) (room : ℕ) (m : Moved) (row : Option Row) (need : Option ℕ)
    → answer.Closed ≡ (limited_by s room m row need).answer → answer.Closed ≡ m.answer
limit_is_other s room m (Some row) (Some need) h = full_is_other (has_room s room need row) m h
limit_is_other s room m (Some row) None h = h
limit_is_other s room m None need h = h

no_claim : (s : LogState) (worker : ℕ) (a : Answer)
    → IsClaimAnswer s (running_executions s) worker a → answer.Closed ≡ a → ⊥
no_claim s worker a (inl h) e = let no : answer.Closed ≡ answer.Task h.0 = e ∙ h.1 in cc
no_claim s worker a (inr (inl h)) e =
    let no : answer.Closed
    ≡ answer.Withdrawn h.execution.number h.node.name (decision_now s h.execution h.node) =
    e ∙ h.told in cc
no_claim s worker a (inr (inr h)) e = let no : answer.Closed ≡ answer.Idle = e ∙ h.0 in cc

claim_closed : ClaimAnswers → (s : LogState) (room : ℕ) (at : ℤ) (worker : ℕ) (b : Bool)
    → is_closed s ≡ b → answer.Closed ≡ (limited s room (claim s at worker)).answer
    → (is_closed s ≡ true) × ((limited s room (claim s at worker)).row ≡ None)
claim_closed law s room at worker true is h = (is, rw is refl)
claim_closed law s room at worker false is h =
    let m : Moved = claim s at worker in
    absurd (no_claim s worker m.answer ((law s at worker).1 is)
    (limit_is_other s room m m.row m.need h))

no_doors : (s : LogState) → is_closed s ≡ true → length s.doors ≡ 0
no_doors s h = by (nat_eq (length s.doors) 0) (nat_eq (length (running_executions s)) 0) refl h
  where
    by : (x y : Bool) → nat_eq (length s.doors) 0 ≡ x → (x && y) ≡ true → length s.doors ≡ 0
    by true y e h = grind (arith, nat_tests)
    by false y e h = absurd (cc)

-- ---- a pump

closed_claim : ClaimAnswers → (mid new : Told) (at : ℤ) (worker : ℕ)
    → new.rights ≡ rights_of (log_state (reverse new.log))
    → Acts mid new (Claim worker at) answer.Closed → length new.rights.doors ≡ 0
closed_claim law mid new at worker rights acts =
    let f : Follows new.log mid.room (record_of (Claim worker at) answer.Closed acts.before new.log) =
    acts.true_record.answer in
    let rows : List Row = take acts.before new.log in
    let s : LogState = log_state (reverse rows) in
    let done = claim_closed law s mid.room (moment s at) worker (is_closed s) refl f.says in
    let same : new.log ≡ rows =
    sym (take-length new.log) ∙ f.rows ∙ ap (λ row. rows ++ option_to_list row) done.1
    ∙ append-nil rows in
    ap (λ (r : Rights). length r.doors) rights
    ∙ ap (λ log. length (log_state (reverse log)).doors) same ∙ no_doors s done.0

pub never_closed : ClaimAnswers → (may_be : ℤ → Type 0) (limit : Option ℕ) (old new : Outside)
    → new.clerk.rights ≡ rights_of (log_state (reverse new.clerk.log))
    → 0 < length old.clerk.rights.doors → HasPumped may_be 0 limit old new Closed → ⊥
never_closed law may_be limit old new rights door h =
    let before : List Record = flat_map records_of h.works ++ h.ends.withdrawals in
    let all : flat_map records_of h.works ++ h.last ≡ before ++ h.ends.claim ∷ [] =
    ap (λ rs. flat_map records_of h.works ++ rs) h.ends.behind
    ∙ sym (append_assoc (flat_map records_of h.works) h.ends.withdrawals (h.ends.claim ∷ [])) in
    let last : Acted h.mid new.clerk (before ++ h.ends.claim ∷ []) =
    subst (λ rs. Acted h.mid new.clerk rs) all h.worked.acted in
    let act = acted_last before h.ends.claim h.mid new.clerk last in
    let acts : Acts act.0 new.clerk (Claim 0 h.at) answer.Closed =
    subst (λ (a : Answer). Acts act.0 new.clerk (Claim 0 h.at) a) h.ends.given
    (subst (λ (k : Call). Acts act.0 new.clerk k h.ends.claim.answer) h.ends.asked act.1.acts) in
    let none = closed_claim law act.0 new.clerk h.at 0 rights acts in
    let kept : length new.clerk.rights.doors ≡ length old.clerk.rights.doors =
    ap (λ (r : Rights). length r.doors) h.worked.rights
    ∙ ap (λ (r : Rights). length r.doors) h.ticked.rights in
    absurd (omega (arith, none, kept, door))
