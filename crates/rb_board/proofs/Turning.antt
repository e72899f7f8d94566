-- The desk that was taken out of the slot is the one behind what was seen.
use Rattle.std.proofs.Common.{◌≡◌, ◌∙◌, ℕ, List, [], ◌∷◌, Option, Some, None, ap, sym, subst}
use Rattle.rb_log.specs.declared.call.Call.{Call}
use Rattle.rb_desk.specs.DeskState.{DeskState}
use Rattle.rb_board.specs.Entering.{MayAnswer, MayStep}
use Rattle.rb_board.specs.Rule.{Holder}
use Rattle.rb_board.specs.Seats.{seen_in}
use Rattle.rb_board.specs.declared.view.Seen.{Seen}

abbrev first_or : {K : Type 0} → Option (DeskState K) → List (ℕ × Option (DeskState K))
    → Option (DeskState K)
first_or d [] = d
first_or d (x ∷ rest) = x.1

abbrev desk_or : {K : Type 0} → DeskState K → Option (DeskState K) → DeskState K
desk_or d None = d
desk_or d (Some e) = e

module _ {K : Type 0} (faults : K → ℕ) (me : Holder K) (call : Call)
    (may : MayAnswer faults me call) (found : Option (DeskState K))
    (rest : List (ℕ × Option (DeskState K))) (held : me.1 ≡ (0, found) ∷ rest)
    (d : DeskState K) (is : found ≡ Some d) where
  slots : ◌≡◌ {A = List (ℕ × Option (DeskState K))} ((0, Some may.desk) ∷ []) ((0, found) ∷ rest)
  slots = sym (ap (λ (m : Holder K). m.1) may.turn.me_is) ∙ held

  same : may.desk ≡ d
  same = ap (desk_or may.desk) (ap (first_or None) slots ∙ is)

  -- the call may be made of it
  pub may_step : (new : Holder K) → new.0 ≡ me.0 → MayStep faults (seen_in new.0) d call
  may_step new is_same =
      let seen : may.seen ≡ seen_in new.0 =
      sym (ap seen_in is_same ∙ ap (λ (m : Holder K). seen_in m.0) may.turn.me_is) in
      subst (λ (y : Seen × DeskState K). MayStep faults y.0 y.1 call) (λ i. (seen i, same i))
      (record { is_at = may.turn.is_at; within = may.turn.within; may = may.may })
