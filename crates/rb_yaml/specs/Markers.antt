-- Rows at column 0 that separate documents, or that are not read.
use Rattle.std.specs.Prelude.{ℕ, Bool, false, ◌||◌, ◌&&◌, nat_eq, List, drop, Option, Some, None, if◌then◌else◌}
use Rattle.rb_causes.specs.Signs.{percent, hyphen, full_stop}
use Rattle.rb_yaml.specs.declared.flaw.Excluded.TheVariants.{InlineDocument, DocumentEnd, Directive}
use Rattle.rb_yaml.specs.declared.flaw.Flaw.{Flaw}
use Rattle.rb_yaml.specs.declared.flaw.Flaw.TheVariants.{OutOfProfile}
use Rattle.rb_yaml.specs.Rows.{Row, begins}
use Rattle.rb_yaml.specs.Signs.{is_clear, ends_sign}

-- what stands behind three times this byte
abbrev pub behind_mark : ℕ → List ℕ → Option (List ℕ)
behind_mark c text =
    if begins c text && (begins c (drop 1 text) && begins c (drop 1 (drop 1 text)))
    then Some (drop 1 (drop 1 (drop 1 text)))
    else None

-- such bytes stand there, and what is behind them passes
abbrev pub is_mark_before : (List ℕ → Bool) → Option (List ℕ) → Bool
is_mark_before test None = false
is_mark_before test (Some rest) = test rest

-- three times this byte, and then a blank or the end
abbrev pub is_mark : ℕ → List ℕ → Bool
is_mark c text = is_mark_before ends_sign (behind_mark c text)

-- the row separates documents, or is a form that is not read, whatever node is open
abbrev pub is_marker : Row → Bool
is_marker row =
    nat_eq row.indent 0
    && (begins percent row.text || (is_mark full_stop row.text || is_mark hyphen row.text))

abbrev pub marker_flaw : Row → Option Flaw
marker_flaw row =
    if begins percent row.text then Some (OutOfProfile Directive)
    else if begins full_stop row.text then Some (OutOfProfile DocumentEnd)
    else if is_mark_before is_clear (behind_mark hyphen row.text) then None
    else Some (OutOfProfile InlineDocument)
