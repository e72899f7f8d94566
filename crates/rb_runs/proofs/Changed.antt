-- A change as the rules tell it.
use Rattle.std.proofs.Common.{◌≡◌, ◌∙◌, ℕ, Option, Some, ap, sym}
use Rattle.rb_causes.specs.declared.row.Row.{Row}
use Rattle.rb_log.specs.declared.answer.Answer.{Answer}
use Rattle.rb_tables.specs.Changes.{answer_of, moved_of, need_of}
use Rattle.rb_tables.specs.declared.change.Change.{Change}

pub moved_is : (c : Change) (a : Answer) (row : Row) (need : Option ℕ) → answer_of c.outcome ≡ a
    → c.row ≡ row → need_of c.effect ≡ need
    → record { answer = a; row = Some row; need = need } ≡ moved_of c
moved_is c a row need h k m =
    ap (λ x. record { answer = x; row = Some row; need = need }) (sym h)
    ∙ ap (λ x. record { answer = answer_of c.outcome; row = Some x; need = need }) (sym k)
    ∙ ap (λ x. record { answer = answer_of c.outcome; row = Some c.row; need = x }) (sym m)
