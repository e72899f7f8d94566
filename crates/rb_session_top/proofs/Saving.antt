-- What a Save says of the rows that are kept.
use Rattle.std.proofs.Common.{◌≡◌, ◌∙◌, ℕ, length, ap, refl}
use Rattle.rb_desk.specs.DeskState.{DeskState}
use Rattle.rb_desk.specs.Steps.{Steps, saved_after, told_of}
use Rattle.rb_log.specs.Told.{Acts, record_of}
use Rattle.rb_log.specs.declared.answer.Answer.{Answer}
use Rattle.rb_log.specs.declared.call.Call.TheVariants.{Save}
use Rattle.rb_session.specs.Statuses.{saving_of}
use Rattle.rb_session_top.specs.Sessions.{IsSaved}
use Rattle.rb_session.specs.declared.saving.Saving.{Saving}

pub is_saved : {K : Type 0} (faults : K → ℕ) (old new : DeskState K) (a : Answer)
    (said : Saving) → Acts (told_of faults old) (told_of faults new) Save a
    → Steps faults old new Save a → said ≡ saving_of a → IsSaved faults old new said
is_saved faults old new a said acts step told = (
  record_of Save a acts.before new.log,
  record { acts = acts; before = refl; after = refl },
  refl,
  told,
  λ e. step.saved ∙ ap (λ x. saved_after x old.saved (length old.log) (length new.log)) e,
)
