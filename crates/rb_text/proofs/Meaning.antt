-- What `regex` says of the texts that it reads and refuses, in the words of this crate.
use Rattle.std.proofs.Common.{◌≡◌, ◌<◌, ◌≤◌, ◌⊎◌, inl, inr, ℕ, List, Option, Some, None, is_some, IsSomeAnd, IfSome, get_or, length, refl, sym, arith, true, false, Bool, cond, ⊎_elim, ◌∙◌}
use Rattle.std.proofs.lemmas.Bool.Decides.{leb_tells}
use Rattle.std.proofs.lemmas.Option.{none-some}
use Rattle.regex_hir.specs.Meaning.{meaning}
use Rattle.regex_hir.specs.declared.hir.Hir.{Hir}
use Rattle.regex_syntax.specs.Brackets.{Nested}
use Rattle.regex_syntax.specs.Grammar.{Names, read, group_count}
use Rattle.regex_syntax.specs.declared.error.ErrorKind.{ErrorKind}
use Rattle.regex_syntax.specs.declared.error.ErrorKind.TheVariants.{OutOfMemory}
use Rattle.regex.specs.Patterns.{Re, SameCaptures, Reads, Refuses, default_config, find_str}
use Rattle.regex.specs.Strings.{matcher_pattern, regex_pattern}
use Rattle.regex.specs.declared.string.matcher.Matcher.{Matcher}
use Rattle.regex.specs.declared.string.regex.Regex.{Regex}
use Rattle.regex.proofs.ForCallers.{is_match_alike}
use Rattle.rb_text.specs.Causes.{IsCause, IsCompiled, IsSearchFor}
use Rattle.rb_text.specs.Matching.{reading, whole_form, finds, matches_whole, IsUnread, IsSure, IsPatternText}
use Rattle.rb_text.specs.declared.pattern_err.PatternErr.{PatternErr}
use Rattle.rb_text.specs.declared.pattern_err.PatternErr.TheVariants.{BadPattern, TooLong, TooBig, NoMemory}

-- a tree that was read, within the limit
abbrev IsFrom : Option (Nested Re × Names) → Re → Names → Type 0
IsFrom o a names = IsSomeAnd o
    (λ (re, found). (re.depth ≤ default_config.nest_limit) × SameCaptures a re.value
    × (names ≡ found) × (group_count a ≤ length names))

is_read_from : (o : Option (Nested Re × Names)) (a : Re) (names : Names) → IsFrom o a names
    → (o ≡ None) ⊎ IfSome o (λ r. default_config.nest_limit < r.0.depth) → ⊥
is_read_from None a names h u = absurd h
is_read_from (Some r) a names h (inl e) = let never : ⊥ = cc in never
is_read_from (Some r) a names h (inr deep) = omega (arith, h.0, deep)

-- what is read is not unread
pub read_of : (text : List ℕ) (hir : Hir) (names : Names) → Reads default_config text hir names
    → IsUnread text → ⊥
unfolding Reads
read_of text hir names h = is_read_from (reading text) (meaning hir) names h

-- what is refused, and not for want of memory, is unread
pub refused_of : (text : List ℕ) (kind : ErrorKind) → Refuses default_config text kind
    → (kind ≡ OutOfMemory → ⊥) → IsUnread text
unfolding Refuses
refused_of text kind (inl memory) other = absurd (other memory)
refused_of text kind (inr (inl none)) other = inl none
refused_of text kind (inr (inr deep)) other = inr deep.1

-- a search by what was compiled finds what one by what was read finds
found : (o : Option (Nested Re × Names)) (a : Re) (names : Names) → IsFrom o a names
    → (hay : List ℕ) → ((k : ℕ) → get_or hay k 0 < 256) →
    is_some (find_str a hay 0) ≡ finds o hay
found None a names h hay bytes = absurd h
found (Some r) a names h hay bytes = is_match_alike h.1 hay bytes true 0

pub whole_of : (text : List ℕ) (r : Regex) → IsCompiled (whole_form text) r → (hay : List ℕ)
    → ((k : ℕ) → get_or hay k 0 < 256) →
    is_some (find_str (regex_pattern r) hay 0) ≡ matches_whole text hay
unfolding Reads
whole_of text r h hay bytes = found _ _ _ (rw (h.source, h.options) at h.from_source) hay bytes

pub pattern_text : (text : List ℕ) → length text ≤ 256 → (IsUnread text → ⊥)
    → (IsUnread (whole_form text) → ⊥) → IsPatternText text
pattern_text text short plain whole = (short, plain, whole)

abbrev IsNoReading : Option (Nested Re × Names) → Type 0
IsNoReading o = (o ≡ None) ⊎ IfSome o (λ r. default_config.nest_limit < r.0.depth)

no_reading_or : (o : Option (Nested Re × Names)) → IsNoReading o ⊎ (IsNoReading o → ⊥)
no_reading_or None = inl (inl refl)
no_reading_or (Some r) =
    elim (leb_tells r.0.depth default_config.nest_limit) [
      | inl low ↦ inr (λ u. elim u [
        | inl e ↦ none-some r (sym e)
        | inr deep ↦ omega (arith, low.1, deep)
      ])
      | inr deep ↦ inl (inr deep.1)
    ]

-- a text is unread or not
pub unread_or : (text : List ℕ) → IsUnread text ⊎ (IsUnread text → ⊥)
unread_or text = no_reading_or (reading text)

-- of a text that is sure, want of memory alone is a cause
pub sure_of : (text : List ℕ) (e : PatternErr) → IsCause text e → IsSure text → e ≡ NoMemory
sure_of text BadPattern cause sure =
    ⊎_elim (λ u. absurd (sure.plain u)) (λ u. absurd (sure.whole u)) cause.1
sure_of text TooLong cause sure = absurd (omega (arith, sure.short, cause))
sure_of text TooBig cause sure = let never : true ≡ false = sym sure.light ∙ cause.3 in cc
sure_of text NoMemory cause sure = refl

-- why what was read is refused
pub too_big_of : (text : List ℕ) (light : Bool) (e : PatternErr) → e ≡ cond light NoMemory TooBig
    → (IsUnread text → ⊥) →
    (e ≡ NoMemory) ⊎ ((e ≡ BadPattern) × IsUnread text)
    ⊎ ((e ≡ TooBig) × (IsUnread text → ⊥) × (light ≡ false))
too_big_of text true e same read = inl same
too_big_of text false e same read = inr (inr (same, read, refl))

-- why a text is not read by itself
pub unread_of : (text : List ℕ) (kind : ErrorKind) (e : PatternErr)
    → Refuses default_config text kind →
    ((kind ≡ OutOfMemory) × (e ≡ NoMemory)) ⊎ ((kind ≡ OutOfMemory → ⊥) × (e ≡ BadPattern))
    → (e ≡ NoMemory) ⊎ ((e ≡ BadPattern) × IsUnread text)
unread_of text kind e refuses (inl memory) = inl memory.1
unread_of text kind e refuses (inr other) = inr (other.1, refused_of text kind refuses other.0)

-- what was compiled was read
pub compiled_read : (text : List ℕ) (r : Regex) → IsCompiled text r → IsUnread text → ⊥
compiled_read text r h = read_of text _ _ (rw (h.source, h.options) at h.from_source)

-- what searches for the pattern of a text finds whole matches
pub searched_of : (text : List ℕ) (m : Matcher) → IsSearchFor text m → (hay : List ℕ)
    → ((k : ℕ) → get_or hay k 0 < 256) →
    is_some (find_str (matcher_pattern m) hay 0) ≡ matches_whole text hay
searched_of text m h hay bytes = rw h.2 (whole_of text h.0 h.1 hay bytes)
