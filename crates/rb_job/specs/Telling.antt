-- Which of several faults is told: the first that there is.
use Rattle.std.specs.Prelude.{◌≡◌, ◌≢◌, ◌⊎◌, ◌≤◌, ◌<◌, ℕ, List, [], ◌∷◌, length, Result, Ok, Err, IsOk}
use Rattle.rb_text.specs.Causes.{IsCause}
use Rattle.rb_text.specs.Matching.{IsPatternText}
use Rattle.rb_text.specs.declared.pattern_err.PatternErr.{PatternErr}
use Rattle.rb_text.specs.declared.pattern_err.PatternErr.TheVariants as pattern_refusal
use Rattle.rb_node.specs.Filters.{filter_of, ArePatternsRead, IsFirstFaultIn}
use Rattle.rb_node.specs.declared.filter_err.FilterErr.{FilterErr}
use Rattle.rb_node.specs.declared.filter_err.FilterErr.TheVariants as filter_refusal
use Rattle.rb_job.specs.TextForms.{Suspicion, certain, pattern, filter, Doubt}
use Rattle.rb_job.specs.declared.fault.JobKind.{JobKind}
use Rattle.rb_job.specs.declared.fault.JobKind.TheVariants as kind
use Rattle.rb_job.specs.declared.halt.Halt.{Halt}
use Rattle.rb_job.specs.declared.halt.Halt.TheVariants as halt

-- why the text is refused as a filter
pub record IsNoFilter (text : List ℕ) (e : FilterErr) : Type 0 where
  pub cause : e ≢ filter_refusal.NoMemory
  pub long : 1024 < length text → e ≡ filter_refusal.TooLong
  pub fault : length text ≤ 1024 → IsFirstFaultIn text e

-- why the text is refused as a pattern
abbrev pub IsNoPattern : List ℕ → PatternErr → Type 0
IsNoPattern text e = IsCause text e × (e ≢ pattern_refusal.NoMemory)

-- what is suspected is so, and is a fault of this kind
abbrev pub IsSo : Suspicion → JobKind → Type 0
IsSo (certain k) told = told ≡ k
IsSo (pattern text) told = (e : PatternErr) × (told ≡ kind.BadPattern e) × IsNoPattern text e
IsSo (filter text) told = (e : FilterErr) × (told ≡ kind.BadFilter e) × IsNoFilter text e

-- it is not so
abbrev pub Passes : Suspicion → Type 0
Passes (certain k) = ⊥
Passes (pattern text) = IsPatternText text
Passes (filter text) = IsOk (filter_of text) × ArePatternsRead text

-- nothing of what may be wrong is
abbrev pub AllPass : List Doubt → Type 0
AllPass [] = Unit {0}
AllPass (d ∷ ds) = Passes d.1 × AllPass ds

-- the first of what may be wrong that is so
abbrev pub IsFirstDoubt : List Doubt → List ℕ → JobKind → Type 0
IsFirstDoubt [] key told = ⊥
IsFirstDoubt (d ∷ ds) key told =
    ((key ≡ d.0) × IsSo d.1 told) ⊎ (Passes d.1 × IsFirstDoubt ds key told)

abbrev pub Halts : List Doubt → Halt → Type 0
Halts doubts (halt.Flaw flaw) = IsFirstDoubt doubts flaw.key flaw.kind
Halts doubts halt.NoMemory = Unit {0}

-- a look at what may be wrong ends with the first that is, or finds nothing
abbrev pub TellsFirst : {T : Type 0} → List Doubt → Result T Halt → Type 0
TellsFirst doubts (Ok t) = AllPass doubts
TellsFirst doubts (Err e) = Halts doubts e
