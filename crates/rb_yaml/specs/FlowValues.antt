-- Flows as values of a row.
use Rattle.std.specs.Prelude.{ℕ, ◌+◌, Bool, false, not, ◌&&◌, nat_eq, List, [], map, drop, length, Option, Some, None, Result, Ok, Err, if◌then◌else◌}
use Rattle.rb_causes.specs.Signs.{opening_bracket, closing_bracket, opening_brace, closing_brace}
use Rattle.rb_causes.specs.Texts.{are_new}
use Rattle.rb_yaml.specs.declared.flaw.Flaw.{Flaw}
use Rattle.rb_yaml.specs.declared.flaw.Flaw.TheVariants.{Form, DuplicateKey, TooDeep}
use Rattle.rb_yaml.specs.Faults.{foremost, either, fault_at, flaw_or}
use Rattle.rb_yaml.specs.Rows.{Row, begins}
use Rattle.rb_yaml.specs.Signs.{is_clear}
use Rattle.rb_yaml.specs.Flow.{FlowRead, flow_items}
use Rattle.rb_yaml.specs.Tree.{YamlTree, scalar, seq, mapping, trees_of, entries_of}
use Rattle.rb_yaml.specs.Scalars.{TreeReading, complete}

abbrev pub closing : List ℕ → ℕ
closing text = if begins opening_bracket text then closing_bracket else closing_brace

abbrev pub flow_read : List ℕ → Result FlowRead Flaw
flow_read text = flow_items (length (drop 1 text) + 2) (closing text) false (drop 1 text)

-- a part of the flow has no form, or something stands behind it
abbrev pub form_flaw : FlowRead → Option Flaw
form_flaw read = if read.good && is_clear read.rest then None else Some Form

-- a key stands twice
abbrev pub twice_flaw : Bool → FlowRead → Option Flaw
twice_flaw is_map read =
    if is_map && not (are_new [] (map (λ item. item.0) read.items)) then Some DuplicateKey else None

-- what is wrong with a flow that has been read to its closing sign
abbrev pub read_flaw : Bool → FlowRead → Option Flaw
read_flaw is_map read = either (form_flaw read) (twice_flaw is_map read)

abbrev pub failed : {A E : Type 0} → (A → Option E) → Result A E → Option E
failed flaw (Ok x) = flaw x
failed flaw (Err e) = Some e

abbrev pub flow_flaw : List ℕ → Option Flaw
flow_flaw text = failed (read_flaw (begins opening_brace text)) (flow_read text)

abbrev pub flow_tree : ℕ → Bool → List (List ℕ × List ℕ) → YamlTree
flow_tree number is_map items =
    if is_map then mapping number (entries_of (map (λ item. (item.0, scalar number item.1)) items))
    else seq number (trees_of (map (λ item. scalar number item.1) items))

-- a flow is a collection of its own, so with no level left it is too deep
abbrev pub depth_flaw : ℕ → Option Flaw
depth_flaw left = if nat_eq left 0 then Some TooDeep else None

abbrev pub flow_of : ℕ → Row → List Row → TreeReading
flow_of left head rows = of_read (flow_read head.text)
  where
    of_read : Result FlowRead Flaw → TreeReading
    of_read (Err flaw) = Err (fault_at head.number (foremost flaw (depth_flaw left)))
    of_read (Ok read) =
        let is_map = begins opening_brace head.text in
        flaw_or (either (read_flaw is_map read) (depth_flaw left)) head.number
        (complete (flow_tree head.number is_map read.items) rows)
