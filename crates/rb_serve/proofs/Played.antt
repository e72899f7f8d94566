-- A part that was played with its pass.
use Rattle.std.proofs.Common.{◌≡◌, ◌∙◌, ◌≤◌, ℕ, List, Option, Some, unwrap_or, ap, sym, subst}
use Rattle.atomic_table.specs.Seated.{TableId}
use Rattle.rb_board.specs.Boards.{PassValue, told_of_pass}
use Rattle.rb_board.proofs.Known.{same_pass}
use Rattle.rb_serve.specs.declared.role.Role.{Role}
use Rattle.rb_serve.specs.Roles.{CanPlay, HasPlayed, IsOf, IsTaken, MayTake, Senses}

pass_is : (a b : PassValue) → a.id ≡ b.id → a.seen ≡ b.seen → a ≡ b
pass_is a b id seen = λ i. record { id = id i; seen = seen i }

some_pass : (p q : PassValue) (o : Option PassValue) → o ≡ Some p → o ≡ Some q → p ≡ q
some_pass p q o is same = ap (λ (x : Option PassValue). unwrap_or x p) (sym is ∙ same)

module _ {L S : Type 0} (old : Role L S) (pass : PassValue) (had : old.pass ≡ Some pass) where
  -- its pass is one of the board
  pub of_board : (id : TableId) → IsOf id old → pass.id ≡ id
  of_board id is = ap (λ (p : PassValue). p.id) (some_pass pass is.0 old.pass had is.1) ∙ is.2

  -- a hand with it may do what the post asks for
  pub may_fill : (hand : PassValue) → (hand.id ≡ pass.id) × (hand.seen ≡ pass.seen)
      → CanPlay old → MayTake (told_of_pass hand) old.post
  may_fill hand is can =
      subst (λ (p : PassValue). MayTake (told_of_pass p) old.post)
      (sym (some_pass pass can.0 old.pass had can.1) ∙ sym (pass_is hand pass is.0 is.1)) can.2

  module _ (senses : Senses L S) (new : Role L S)
      (hand hand' left : PassValue) (made : (hand.id ≡ pass.id) × (hand.seen ≡ pass.seen))
      (who : (told_of_pass hand').who ≡ (told_of_pass hand).who)
      (later : hand.seen.faults ≤ hand'.seen.faults)
      (back : (left.id ≡ hand'.id) × (left.seen ≡ hand'.seen)) (has : new.pass ≡ Some left)
      (taken : IsTaken senses (told_of_pass hand) (told_of_pass hand') old.post new.post)
    where
      first : hand ≡ pass
      first = pass_is hand pass made.0 made.1

      last : hand' ≡ left
      last = sym (pass_is left hand' back.0 back.1)

      abbrev whose : PassValue → List ℕ
      whose p = (told_of_pass p).who

      same_who : (told_of_pass left).who ≡ (told_of_pass pass).who
      same_who = ap whose (sym last) ∙ (who ∙ ap whose first)

      pub played : HasPlayed senses old new
      played =
          let same = same_pass left pass same_who in
          record {
            pass = pass;
            left = left;
            had = had;
            has = has;
            same = record {
              id = same.0;
              number = same.1;
              later = subst (λ (p : PassValue). p.seen.faults ≤ left.seen.faults) first
                  (subst (λ (p : PassValue). hand.seen.faults ≤ p.seen.faults) last later);
            };
            taken = subst (λ (p : PassValue).
                IsTaken senses (told_of_pass p) (told_of_pass left) old.post new.post) first
                (subst (λ (p : PassValue).
                IsTaken senses (told_of_pass hand) (told_of_pass p) old.post new.post) last
                taken);
          }
