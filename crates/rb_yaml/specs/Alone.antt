-- What stands alone on a row: a scalar or a flow; and texts that may not stand where they do.
use Rattle.std.specs.Prelude.{ℕ, ◌||◌, List, Option, Some, None, Result, Ok, Err, if◌then◌else◌}
use Rattle.rb_causes.specs.Signs.{double_quote, single_quote, opening_bracket, opening_brace, vertical_bar}
use Rattle.rb_yaml.specs.declared.flaw.Flaw.{Flaw}
use Rattle.rb_yaml.specs.declared.flaw.Flaw.TheVariants.{Tab, Indent, OutOfProfile, Form, DuplicateKey, TooDeep}
use Rattle.rb_yaml.specs.Faults.{flaw_or}
use Rattle.rb_yaml.specs.Rows.{Row, begins}
use Rattle.rb_yaml.specs.Signs.{begins_item}
use Rattle.rb_yaml.specs.Keys.{KeyPart, key_part}
use Rattle.rb_yaml.specs.Scalars.{TreeReading, plain_flaw, plain_of, single_of, double_flaw, double_of}
use Rattle.rb_yaml.specs.Literals.{literal_flaw, literal_of}
use Rattle.rb_yaml.specs.FlowValues.{flow_flaw, flow_of}

-- The node that begins at a row, over the rows behind it. A scalar goes on over rows with an indent
-- of at least the floor.
abbrev pub Reader : Type 0
Reader = ℕ → Row → List Row → TreeReading

-- a scalar or a flow, with so many levels left
abbrev pub alone : ℕ → Reader
alone left floor head rows =
    if begins vertical_bar head.text
    then flaw_or (literal_flaw head.text) head.number (literal_of floor head rows)
    else if begins single_quote head.text then single_of floor head rows
    else if begins double_quote head.text then double_of head rows
    else if begins opening_bracket head.text || begins opening_brace head.text
    then flow_of left head rows
    else flaw_or (plain_flaw head.text) head.number (plain_of head rows)

-- what is wrong with a text, as far as its row shows
abbrev pub text_flaw : List ℕ → Option Flaw
text_flaw text =
    if begins vertical_bar text then literal_flaw text
    else if begins single_quote text then None
    else if begins double_quote text then double_flaw text
    else if begins opening_bracket text || begins opening_brace text then flow_flaw text
    else plain_flaw text

-- of what is wrong with a text that may not stand in its place only a form that is not read is told
abbrev pub told_alone : Option Flaw → Flaw
told_alone None = Form
told_alone (Some Tab) = Form
told_alone (Some Indent) = Form
told_alone (Some (OutOfProfile excluded)) = OutOfProfile excluded
told_alone (Some Form) = Form
told_alone (Some DuplicateKey) = Form
told_alone (Some TooDeep) = Form

abbrev pub key_flaw : KeyPart → Option Flaw
key_flaw part = of_key part.key
  where
    of_key : Result (List ℕ) Flaw → Option Flaw
    of_key (Ok key) = None
    of_key (Err flaw) = Some flaw

-- a text at a collection's indent that is no item or has no key
abbrev pub stray : List ℕ → Flaw
stray text = if begins_item text then Form else by_key (key_part text)
  where
    by_key : Option KeyPart → Flaw
    by_key (Some part) = told_alone (key_flaw part)
    by_key None = told_alone (text_flaw text)
