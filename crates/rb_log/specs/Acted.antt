-- What a layer above did to a clerk: a list of records, one after another.
use Rattle.std.specs.Prelude.{◌≡◌, List, [], ◌∷◌, length}
use Rattle.rb_log.specs.Records.{Record}
use Rattle.rb_log.specs.Told.{Told, Acts}

-- one call between these is this record
pub record ActsAs (old new : Told) (r : Record) : Type 0 where
  pub acts : Acts old new r.call r.answer
  pub before : acts.before ≡ r.before
  pub after : length new.log ≡ r.after

abbrev pub Acted : Told → Told → List Record → Type 0
Acted old new [] = new ≡ old
Acted old new (r ∷ rs) = (mid : Told) × ActsAs old mid r × Acted mid new rs
