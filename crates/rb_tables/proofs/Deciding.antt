-- From the rules of a call, one after another, to what is decided of it.
use Rattle.std.proofs.Common.{◌≡◌, ◌∙◌, List, Result, Ok, Err, ap, sym, subst}
use Rattle.rb_causes.specs.declared.row.Row.{Row}
use Rattle.rb_yaml.specs.Faults.{◌>>=◌}
use Rattle.rb_log.specs.LogState.{log_state}
use Rattle.rb_log.specs.Moves.{Moved, moved_or}
use Rattle.rb_log.specs.Readings.{Reading}
use Rattle.rb_log.specs.Turn.{MayRead, unlimited_turn}
use Rattle.rb_log.specs.declared.answer.Answer.{Answer}
use Rattle.rb_log.specs.declared.answer.Answer.TheVariants as answer
use Rattle.rb_log.specs.declared.call.Call.{Call}
use Rattle.rb_tables.specs.Changes.{Decided, IsRefusal, IsSettled, Makes, IsAnswerOf}
use Rattle.rb_tables.specs.declared.change.Change.{Change}

-- ---- rules

-- what the first rule refuses, and what one behind it refuses where it holds
pub refused_first : {A B : Type 0} (r : Result A Answer) (f : A → Result B Answer) (a : Answer)
    → IsRefusal r a → IsRefusal (r >>= f) a
refused_first r f answer.NoMemory h = tt
refused_first r f other h = ap (λ x. x >>= f) h

pub refused_then : {A B : Type 0} (r : Result A Answer) (f : A → Result B Answer) (x : A)
    (a : Answer)
    → r ≡ Ok x → IsRefusal (f x) a → IsRefusal (r >>= f) a
refused_then r f x a is h = subst (λ y. IsRefusal (y >>= f) a) (sym is) h

pub refused_moved : (r : Result Moved Answer) (a : Answer) → IsRefusal r a
    → IsAnswerOf (moved_or r) a
refused_moved r answer.NoMemory h = tt
refused_moved r other h = ap moved_or h

-- ---- decisions

pub settled : (past : List Row) (call : Call) (reading : Reading) (moved : Moved) (a : Answer)
    → MayRead (log_state past) call reading → unlimited_turn reading (log_state past) call ≡ moved
    → IsAnswerOf moved a → IsSettled past call a
settled past call reading moved answer.NoMemory may is h = tt
settled past call reading moved other may is h =
    record { reading = reading; may_read = may; says = is ∙ h }

pub decided : (past : List Row) (call : Call) (reading : Reading) (moved : Moved)
    (result : Result Change Answer)
    → MayRead (log_state past) call reading → unlimited_turn reading (log_state past) call ≡ moved
    → Makes past moved result → Decided past call result
decided past call reading moved (Err a) may is h = settled past call reading moved a may is h
decided past call reading moved (Ok c) may is h =
    (record { reading = reading; may_read = may; says = is ∙ h.0 }, h.1)
