-- Nodes: sequences, maps and what stands alone, by the indent of their rows.
use Rattle.std.specs.Prelude.{ℕ, zero, suc, ◌+◌, ◌&&◌, is_none, List, [], ◌∷◌, ◌++◌, length, Option, Some, None, Result, Ok, Err, if◌then◌else◌}
use Rattle.rb_yaml.specs.declared.flaw.Flaw.{Flaw}
use Rattle.rb_yaml.specs.declared.flaw.Flaw.TheVariants.{Tab}
use Rattle.rb_yaml.specs.declared.flaw.Fault.{Fault}
use Rattle.rb_yaml.specs.Faults.{◌>>=◌, foremost, either, fault_at, fault_with, beside}
use Rattle.rb_yaml.specs.Rows.{Row, past_blanks, tab_flaw, first_content}
use Rattle.rb_yaml.specs.Parts.{until, onward, parts}
use Rattle.rb_yaml.specs.Signs.{begins_item, is_nothing}
use Rattle.rb_yaml.specs.Line.{behind_item, tab_behind, place_flaw}
use Rattle.rb_yaml.specs.Keys.{KeyPart, key_part, begins_with_key, begins_collection}
use Rattle.rb_yaml.specs.Edges.{begins_part, is_item_at, begins_entry}
use Rattle.rb_yaml.specs.Tree.{YamlTree, scalar, seq, mapping, trees_of, entries_of}
use Rattle.rb_yaml.specs.Scalars.{TreeReading}
use Rattle.rb_yaml.specs.Alone.{Reader, alone, stray}
use Rattle.rb_yaml.specs.Entries.{new_key_flaw, key_text, then_ill}
use Rattle.rb_yaml.specs.Deep.{too_deep}

-- the node of the next rows, or the empty scalar
abbrev pub block : Reader → ℕ → ℕ → List Row → TreeReading
block below floor number rows = of_first (first_content rows)
  where
    of_first : Option (Row × List Row) → TreeReading
    of_first None = Ok (scalar number [])
    of_first (Some first) =
        beside (fault_with first.0.number (tab_flaw first.0)) (below floor first.0 first.1)

-- ---- sequences

-- a tab stands before a collection behind the sign of an item
abbrev pub compact_flaw : Row → Option Flaw
compact_flaw row =
    if tab_behind row && begins_collection (behind_item row).text then Some Tab else None

-- what stands behind the sign of an item, and the rows behind its first
abbrev pub item_value : Reader → Row → List Row → TreeReading
item_value below head rows =
    if is_nothing (behind_item head).text then block below (suc head.indent) head.number rows
    else beside (fault_with head.number (compact_flaw head))
    (below (suc head.indent) (behind_item head) rows)

-- an item of a sequence at an indent, and the rows behind its first
abbrev pub item_of : Reader → ℕ → Row → List Row → TreeReading
item_of below indent head rows =
    if begins_item head.text
    then beside (fault_with head.number (place_flaw indent head)) (item_value below head rows)
    else Err (fault_at head.number (foremost (stray head.text) (place_flaw indent head)))

-- what reads a row that begins a part, with the rows behind it
abbrev pub PartReader : Type 0
PartReader = Row → List Row → TreeReading

-- each part is read, up to the first fault
abbrev pub all_items : PartReader → List (Row × List Row) → Result (List YamlTree) Fault
all_items read [] = Ok []
all_items read (part ∷ rest) =
    read part.0 part.1 >>= λ v. all_items read rest >>= λ vs. Ok (v ∷ vs)

abbrev pub seq_of : Reader → Row → List Row → TreeReading
seq_of below head rows =
    all_items (item_of below head.indent) (parts (begins_part head.indent) head [] rows)
    >>= λ vs. Ok (seq head.number (trees_of vs))

-- ---- maps

-- the value behind a key, where no item stands at the key's indent. What stands alone has no indent
-- of its own
abbrev pub inner_value : ℕ → Reader → ℕ → ℕ → List ℕ → List Row → TreeReading
inner_value left below indent number text rows =
    if is_nothing text then block below (suc indent) number rows
    else alone left (suc indent) (record { number = number; indent = zero; text = text }) rows

-- the value behind a key: where nothing is there and an item comes first, the sequence at the key's
-- own indent
abbrev pub value_after_key : ℕ → Reader → ℕ → ℕ → List ℕ → List Row → TreeReading
value_after_key left below indent number text rows = by_items (onward (is_item_at indent) rows)
  where
    by_items : List Row → TreeReading
    by_items [] = inner_value left below indent number text rows
    by_items (item ∷ items) =
        if is_nothing text && is_none (first_content (until (is_item_at indent) rows))
        then below indent item items
        else then_ill (inner_value left below indent number text (until (is_item_at indent) rows))
        item.number

abbrev pub Entry : Type 0
Entry = List ℕ × YamlTree

abbrev pub EntryReading : Type 0
EntryReading = Result Entry Fault

-- an entry of a map at an indent, after the keys before it
abbrev pub entry_of : ℕ → Reader → ℕ → List (List ℕ) → Row → List Row → EntryReading
entry_of left below indent seen head rows = by_part (key_part head.text)
  where
    by_part : Option KeyPart → EntryReading
    by_part None =
        Err (fault_at head.number (foremost (stray head.text) (place_flaw indent head)))
    by_part (Some part) =
        let flaw = either (place_flaw indent head) (new_key_flaw seen part.key) in
        beside (fault_with head.number flaw)
        (value_after_key left below head.indent head.number (past_blanks part.behind) rows)
        >>= λ v. Ok (key_text part.key, v)

abbrev pub EntryReader : Type 0
EntryReader = List (List ℕ) → Row → List Row → EntryReading

-- each part is read after the keys before it, up to the first fault
abbrev pub all_entries : EntryReader → List (List ℕ) → List (Row × List Row) →
    Result (List Entry) Fault
all_entries read seen [] = Ok []
all_entries read seen (part ∷ rest) =
    read seen part.0 part.1
    >>= λ e. all_entries read (seen ++ e.0 ∷ []) rest >>= λ es. Ok (e ∷ es)

abbrev pub map_of : ℕ → Reader → Row → List Row → TreeReading
map_of left below head rows =
    all_entries (entry_of left below head.indent) [] (parts (begins_entry head.indent) head [] rows)
    >>= λ es. Ok (mapping head.number (entries_of es))

-- ---- nodes

-- The node that begins at a row, with so many levels of collections left.
abbrev pub node : ℕ → Reader
node zero floor head rows =
    if begins_collection head.text then Err (too_deep (length head.text + 1) head rows)
    else alone zero floor head rows
node (suc left) floor head rows =
    if begins_item head.text then seq_of (node left) head rows
    else if begins_with_key head.text then map_of left (node left) head rows
    else alone (suc left) floor head rows
