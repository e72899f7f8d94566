-- What is decided of a call on a desk.
use Rattle.std.proofs.Common.{◌≡◌, ℤ, false, reverse, Result, SFits, to_z, of_z, w64, subst}
use Rattle.std.proofs.Math.Facts.{to_z-of_z}
use Rattle.rb_log.specs.Legal.{IsFormed}
use Rattle.rb_log.specs.Records.{is_promised, is_save}
use Rattle.rb_log.specs.declared.answer.Answer.{Answer}
use Rattle.rb_log.specs.declared.call.Call.{Call}
use Rattle.rb_tables.specs.Changes.{Decided}
use Rattle.rb_desk.specs.DeskState.{DeskState}
use Rattle.rb_desk.specs.Settling.{IsDecided, MayAskOn}
use Rattle.rb_tables.specs.declared.change.Change.{Change}

pub decided_on : {K : Type 0} (inside whole : DeskState K) (call : Call)
    (decided : Result Change Answer) → inside ≡ whole → MayAskOn whole.log call → IsFormed call
    → is_promised call ≡ false → is_save call ≡ false
    → Decided (reverse inside.log) call decided → IsDecided whole.log decided call
decided_on inside whole call decided same may formed unpromised unsaved rules = record {
  may = may;
  formed = formed;
  unpromised = unpromised;
  no_save = unsaved;
  rules = subst (λ d. Decided (reverse d.log) call decided) same rules;
}

-- the same of a call at a moment, which a contract reads out of its signed number
pub decided_at : {K : Type 0} (inside whole : DeskState K) (call : ℤ → Call) (at : ℤ)
    (decided : Result Change Answer) → inside ≡ whole → MayAskOn whole.log (call at)
    → IsFormed (call at) → is_promised (call at) ≡ false → is_save (call at) ≡ false
    → SFits w64 at → Decided (reverse inside.log) (call (to_z w64 (of_z w64 at))) decided
    → IsDecided whole.log decided (call at)
decided_at inside whole call at decided same may formed unpromised unsaved fits rules =
    decided_on inside whole (call at) decided same may formed unpromised unsaved
    (subst (λ moment. Decided (reverse inside.log) (call moment) decided) (to_z-of_z fits) rules)
