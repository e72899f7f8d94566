-- What is wrong with a collection with no level left.
use Rattle.std.specs.Prelude.{ℕ, zero, suc, not, List, [], unwrap_or, Option, Some, None, Ok, if◌then◌else◌}
use Rattle.rb_yaml.specs.declared.flaw.Flaw.TheVariants.{Tab, TooDeep}
use Rattle.rb_yaml.specs.declared.flaw.Fault.{Fault}
use Rattle.rb_yaml.specs.Faults.{foremost, fault_at, depth_fault, sooner_fault}
use Rattle.rb_yaml.specs.Rows.{Row, past_blanks}
use Rattle.rb_yaml.specs.Signs.{begins_item, is_nothing}
use Rattle.rb_yaml.specs.Line.{behind_item, tab_behind}
use Rattle.rb_yaml.specs.Keys.{KeyPart, key_part, begins_collection}
use Rattle.rb_yaml.specs.Tree.{scalar}
use Rattle.rb_yaml.specs.Scalars.{TreeReading}
use Rattle.rb_yaml.specs.Alone.{alone, key_flaw}

-- what is behind a key with no level left, as far as its row shows
abbrev pub deep_value : Row → List ℕ → List Row → TreeReading
deep_value row text rows =
    if is_nothing text then Ok (scalar row.number [])
    else (let behind : Row = record { number = row.number; indent = zero; text = text } in
    alone zero (suc row.indent) behind rows)

abbrev pub deep_entry : Row → List Row → Option KeyPart → Fault
deep_entry row rows None = depth_fault row.number
deep_entry row rows (Some part) =
    sooner_fault (fault_at row.number (foremost TooDeep (key_flaw part)))
    (deep_value row (past_blanks part.behind) rows)

-- What is wrong with a collection with no level left, as far as its row shows; None where it is an
-- item that is a collection again.
abbrev pub deep_turn : Row → List Row → Option Fault
deep_turn row rows =
    if not (begins_item row.text) then Some (deep_entry row rows (key_part row.text))
    else if is_nothing (behind_item row).text then Some (depth_fault row.number)
    else if not (begins_collection (behind_item row).text)
    then Some (sooner_fault (depth_fault row.number)
    (alone zero (suc row.indent) (behind_item row) rows))
    else if tab_behind row then Some (fault_at row.number Tab)
    else None

-- A collection with no level left is too deep, where its row shows nothing worse. The fuel is more
-- than the bytes of the row, of which each turn takes one at least; the answer without fuel is
-- never given.
unfoldable pub deep_turns : Fault → ℕ → Row → List Row → Fault
deep_turns spent zero row rows = spent
deep_turns spent (suc fuel) row rows =
    unwrap_or (deep_turn row rows) (deep_turns spent fuel (behind_item row) rows)

abbrev pub too_deep : ℕ → Row → List Row → Fault
too_deep fuel row rows = deep_turns (depth_fault row.number) fuel row rows
