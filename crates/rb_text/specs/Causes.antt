-- Why a text is refused as a pattern, and what a compiled one is.
use Rattle.std.specs.Prelude.{◌≡◌, ◌≢◌, ◌≤◌, ◌<◌, ◌⊎◌, ℕ, List, Bool, false, length}
use Rattle.regex_syntax.specs.declared.error.ErrorKind.{ErrorKind}
use Rattle.regex_syntax.specs.declared.error.ErrorKind.TheVariants.{OutOfMemory}
use Rattle.regex.specs.Patterns.{default_config}
use Rattle.regex.specs.Strings.{regex_pattern, regex_source, regex_config, matcher_pattern, IsReadFromSource}
use Rattle.regex.specs.declared.string.matcher.Matcher.{Matcher}
use Rattle.regex.specs.declared.string.regex.Regex.{Regex}
use Rattle.rb_text.specs.Light.{is_light}
use Rattle.rb_text.specs.Matching.{IsUnread, whole_form}
use Rattle.rb_text.specs.declared.pattern.Form.{Form}
use Rattle.rb_text.specs.declared.pattern.Form.TheVariants.{Kept, Own}
use Rattle.rb_text.specs.declared.pattern_err.PatternErr.{PatternErr}
use Rattle.rb_text.specs.declared.pattern_err.PatternErr.TheVariants.{BadPattern, TooLong, TooBig, NoMemory}

-- a text over 256 bytes is too long, whatever else it is; of the others one is bad where a form of
-- it is not read, and one may be too big where both are read and it is not light
abbrev pub IsCause : List ℕ → PatternErr → Type 0
IsCause text BadPattern = (length text ≤ 256) × (IsUnread text ⊎ IsUnread (whole_form text))
IsCause text TooLong = 256 < length text
IsCause text TooBig =
    (length text ≤ 256) × (IsUnread text → ⊥) × (IsUnread (whole_form text) → ⊥)
    × (is_light text ≡ false)
IsCause text NoMemory = length text ≤ 256

-- there is a cause to refuse the text as a pattern, other than want of memory; a text that is read
-- and not light has one too, and may be taken all the same
abbrev pub MayBeRefused : List ℕ → Type 0
MayBeRefused text = (e : PatternErr) × IsCause text e × (e ≢ NoMemory)

-- what becomes of an error of `regex`'s reader: want of memory stays what it is
abbrev pub IsUnreadBy : ErrorKind → PatternErr → Type 0
IsUnreadBy kind e =
    ((kind ≡ OutOfMemory) × (e ≡ NoMemory)) ⊎ ((kind ≡ OutOfMemory → ⊥) × (e ≡ BadPattern))

-- why one form of a text is refused where it is read: memory was wanting, or it is not read
abbrev pub IsReadingCause : List ℕ → PatternErr → Type 0
IsReadingCause form e = (e ≡ NoMemory) ⊎ ((e ≡ BadPattern) × IsUnread form)

-- why it is refused where it is compiled: so too, or it is read and is of a text that is not light
abbrev pub IsCompilingCause : List ℕ → Bool → PatternErr → Type 0
IsCompilingCause form light e =
    (e ≡ NoMemory) ⊎ ((e ≡ BadPattern) × IsUnread form)
    ⊎ ((e ≡ TooBig) × (IsUnread form → ⊥) × (light ≡ false))

-- it was read from this text, with the usual options
pub record IsCompiled (text : List ℕ) (r : Regex) : Type 0 where
  pub source : regex_source r ≡ text
  pub options : regex_config r ≡ default_config
  pub from_source : IsReadFromSource r

-- it searches for what was read from the whole form of this text
abbrev pub IsSearchFor : List ℕ → Matcher → Type 0
IsSearchFor text m =
    (r : Regex) × IsCompiled (whole_form text) r × (matcher_pattern m ≡ regex_pattern r)

-- what a search by a form needs
abbrev pub built_of : Form → Regex
built_of (Kept r) = r.now
built_of (Own r) = r

-- a form of the pattern of this text
abbrev pub IsFormOf : List ℕ → Form → Type 0
IsFormOf text form = IsCompiled (whole_form text) (built_of form)
