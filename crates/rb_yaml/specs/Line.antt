-- What a row is where an item or an entry should begin.
use Rattle.std.specs.Prelude.{ℕ, ◌+◌, ◌-◌, Bool, nat_eq, drop, length, Option, Some, None, if◌then◌else◌}
use Rattle.rb_yaml.specs.declared.flaw.Flaw.{Flaw}
use Rattle.rb_yaml.specs.declared.flaw.Flaw.TheVariants.{Indent}
use Rattle.rb_yaml.specs.Faults.{either}
use Rattle.rb_yaml.specs.Rows.{Row, past_blanks, tab_flaw}
use Rattle.rb_yaml.specs.Signs.{tab_leads}

-- what stands behind the sign of an item, as a row of its own
abbrev pub behind_item : Row → Row
behind_item row =
    let text = past_blanks (drop 1 row.text) in
    let indent = row.indent + (length row.text - length text) in
    record { number = row.number; indent = indent; text = text }

-- a tab stands between the sign of an item and what is behind it
abbrev pub tab_behind : Row → Bool
tab_behind row = tab_leads (drop 1 row.text)

-- the row stands at another indent than this
abbrev pub indent_flaw : ℕ → Row → Option Flaw
indent_flaw indent row = if nat_eq row.indent indent then None else Some Indent

-- what is wrong with the place of a row that should begin an item or an entry at this indent
abbrev pub place_flaw : ℕ → Row → Option Flaw
place_flaw indent row = either (tab_flaw row) (indent_flaw indent row)
