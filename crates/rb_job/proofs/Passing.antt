-- Doubts behind others.
use Rattle.std.proofs.Common.{ℕ, List, [], ◌∷◌, ◌++◌, Result, Ok, Err, inl, inr}
use Rattle.rb_job.specs.TextForms.{Doubt}
use Rattle.rb_job.specs.Telling.{AllPass, IsFirstDoubt, Halts, TellsFirst}
use Rattle.rb_job.specs.declared.fault.JobKind.{JobKind}
use Rattle.rb_job.specs.declared.halt.Halt.{Halt}
use Rattle.rb_job.specs.declared.halt.Halt.TheVariants as halt

pub all_both : (a b : List Doubt) → AllPass a → AllPass b → AllPass (a ++ b)
all_both [] b p q = q
all_both (d ∷ ds) b p q = (p.0, all_both ds b p.1 q)

pub all_left : (a b : List Doubt) → AllPass (a ++ b) → AllPass a
all_left [] b p = tt
all_left (d ∷ ds) b p = (p.0, all_left ds b p.1)

pub all_right : (a b : List Doubt) → AllPass (a ++ b) → AllPass b
all_right [] b p = p
all_right (d ∷ ds) b p = all_right ds b p.1

pub first_left : (a b : List Doubt) (key : List ℕ) (told : JobKind) → IsFirstDoubt a key told → IsFirstDoubt (a ++ b) key told
first_left [] b key told h = absurd h
first_left (d ∷ ds) b key told (inl h) = inl h
first_left (d ∷ ds) b key told (inr h) = inr (h.0, first_left ds b key told h.1)

pub first_right : (a b : List Doubt) (key : List ℕ) (told : JobKind) → AllPass a → IsFirstDoubt b key told → IsFirstDoubt (a ++ b) key told
first_right [] b key told p h = h
first_right (d ∷ ds) b key told p h = inr (p.0, first_right ds b key told p.1 h)

pub halts_left : (a b : List Doubt) (e : Halt) → Halts a e → Halts (a ++ b) e
halts_left a b (halt.Flaw flaw) h = first_left a b flaw.key flaw.kind h
halts_left a b halt.NoMemory h = tt

pub halts_right : (a b : List Doubt) (e : Halt) → AllPass a → Halts b e → Halts (a ++ b) e
halts_right a b (halt.Flaw flaw) p h = first_right a b flaw.key flaw.kind p h
halts_right a b halt.NoMemory p h = tt

-- a look at both lists, of which the first is passed
pub tells_right : {T : Type 0} (a b : List Doubt) (r : Result T Halt) → AllPass a → TellsFirst b r → TellsFirst (a ++ b) r
tells_right a b (Ok t) p h = all_both a b p h
tells_right a b (Err e) p h = halts_right a b e p h
