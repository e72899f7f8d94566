-- The documents of a text, or the first rule that it breaks.
use Rattle.std.specs.Prelude.{ℕ, zero, Bool, false, not, ◌||◌, ◌&&◌, nat_eq, nat_lt, is_none, List, [], ◌∷◌, ◌++◌, drop, Option, Some, None, Result, Ok, Err, if◌then◌else◌}
use Rattle.rb_causes.specs.Signs.{tab, space}
use Rattle.rb_yaml.specs.declared.fault.YamlFault.{YamlFault}
use Rattle.rb_yaml.specs.declared.flaw.Fault.{Fault}
use Rattle.rb_yaml.specs.Faults.{◌>>=◌, form_fault, beside, flaw_or}
use Rattle.rb_yaml.specs.Rows.{Row, rows_of, begins, first_content}
use Rattle.rb_yaml.specs.Parts.{until, onward, parts}
use Rattle.rb_yaml.specs.Tree.{YamlTree}
use Rattle.rb_yaml.specs.Nodes.{node, block}
use Rattle.rb_yaml.specs.Markers.{is_marker, marker_flaw}
use Rattle.rb_yaml.specs.Telling.{whole_fault, reported}

-- the control sign behind ~
abbrev pub delete : ℕ
delete = 127

-- the byte that U+0080 to U+00BF begin with
abbrev pub latin_lead : ℕ
latin_lead = 194

-- the byte that a no-break space, U+00A0, has behind it
abbrev pub no_break : ℕ
no_break = 160

-- less than a no-break space, behind the byte that both begin with
abbrev pub begins_low : List ℕ → Bool
begins_low [] = false
begins_low (c ∷ bs) = nat_lt c no_break

-- a control character other than a tab begins the text: U+0000 to U+001F, U+007F to U+009F
abbrev pub begins_control : List ℕ → Bool
begins_control [] = false
begins_control (b ∷ bs) =
    ((nat_lt b space && not (nat_eq b tab)) || nat_eq b delete)
    || (nat_eq b latin_lead && begins_low bs)

abbrev pub has_control : List ℕ → Bool
has_control [] = false
has_control (b ∷ bs) = begins_control (b ∷ bs) || has_control bs

-- the fault of the first row with a control character
abbrev pub control_fault : List Row → Option Fault
control_fault [] = None
control_fault (row ∷ rows) =
    if has_control row.text then Some (form_fault row.number) else control_fault rows

-- ---- documents

abbrev pub DocsReading : Type 0
DocsReading = Result (List YamlTree) Fault

-- how deep collections may nest
unfoldable pub levels : ℕ
levels = 32

-- the document of these rows; none where no row has content
abbrev pub doc_of : List Row → DocsReading
doc_of rows =
    if is_none (first_content rows) then Ok []
    else block (node levels) zero zero rows >>= λ root. Ok (root ∷ [])

-- the document behind a marker
abbrev pub marked_doc : Row × List Row → DocsReading
marked_doc part = flaw_or (marker_flaw part.0) part.0.number (doc_of part.1)

-- a reading with more documents before it
abbrev pub with_docs : List YamlTree → DocsReading → DocsReading
with_docs before read = read >>= λ more. Ok (before ++ more)

-- the documents behind markers, each with the rows behind it
abbrev pub marked_docs : List (Row × List Row) → DocsReading
marked_docs [] = Ok []
marked_docs (part ∷ rest) = marked_doc part >>= λ docs. with_docs docs (marked_docs rest)

abbrev pub marker_parts : List Row → List (Row × List Row)
marker_parts [] = []
marker_parts (row ∷ rows) = parts is_marker row [] rows

-- the documents of these rows, as far as their lines and indents show
abbrev pub docs_of_rows : List Row → DocsReading
docs_of_rows rows =
    doc_of (until is_marker rows)
    >>= λ docs. with_docs docs (marked_docs (marker_parts (onward is_marker rows)))

-- without the byte order mark, U+FEFF: the bytes 239, 187 and 191
abbrev pub without_mark : List ℕ → List ℕ
without_mark bytes =
    if (begins 239 bytes && begins 187 (drop 1 bytes)) && begins 191 (drop 2 bytes)
    then drop 3 bytes
    else bytes

abbrev pub docs_of_text : List ℕ → DocsReading
docs_of_text bytes =
    let rows = rows_of (without_mark bytes) in beside (control_fault rows) (docs_of_rows rows)

-- the documents of a text, or the first rule that it breaks
abbrev pub docs_of : List ℕ → Result (List YamlTree) YamlFault
docs_of bytes = unless_whole (whole_fault bytes)
  where
    unless_whole : Option YamlFault → Result (List YamlTree) YamlFault
    unless_whole (Some fault) = Err fault
    unless_whole None = reported (docs_of_text bytes)
