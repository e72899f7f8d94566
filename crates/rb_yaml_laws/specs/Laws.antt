-- What joins the reader to the relation, which fault it tells, and that none of its fuel runs out.
use Rattle.std.specs.Prelude.{◌≡◌, ◌⊎◌, ◌≤◌, ◌<◌, ◌-◌, ℕ, Bool, false, List, length, take, Option, Some, None, Ok, Err}
use Rattle.std.specs.List.{AllByRecursion as Each}
use Rattle.rb_yaml.specs.declared.fault.YamlFault.{YamlFault}
use Rattle.rb_yaml.specs.Faults.{LineFlaw, LineFault, rank, foremost, goes_before, earlier}
use Rattle.rb_yaml.specs.Rows.{Row, rows_of}
use Rattle.rb_yaml.specs.Flow.{FlowReading, flow_turns}
use Rattle.rb_yaml.specs.Tree.{YamlTree}
use Rattle.rb_yaml.specs.Deep.{deep_turns}
use Rattle.rb_yaml.specs.Documents.{without_mark, docs_of}
use Rattle.rb_yaml.specs.Telling.{whole_fault}
use Rattle.rb_yaml_laws.specs.Nodes.{HasApartKeys}
use Rattle.rb_yaml_laws.specs.Open.{HasOpenQuote}
use Rattle.rb_yaml_laws.specs.Docs.{HoldsDocs, Docs}

-- documents that are read of a text are those that it holds
abbrev pub ReadIsMeant : Type 0
ReadIsMeant = (bytes : List ℕ) (docs : List YamlTree) → docs_of bytes ≡ Ok docs → Docs bytes docs

-- documents that a text holds are read of it
abbrev pub MeantIsRead : Type 0
MeantIsRead = (bytes : List ℕ) (docs : List YamlTree) → Docs bytes docs → docs_of bytes ≡ Ok docs

-- a text has one reading at most
abbrev pub OneReading : Type 0
OneReading = (bytes : List ℕ) (a b : List YamlTree) → Docs bytes a → Docs bytes b → a ≡ b

-- a text that is refused holds no documents, not even an empty list of them
abbrev pub RefusedHasNone : Type 0
RefusedHasNone = (bytes : List ℕ) (fault : YamlFault) (docs : List YamlTree) →
    docs_of bytes ≡ Err fault → Docs bytes docs → ⊥

-- no map in documents that are read, however deep, has a key twice
abbrev pub KeysDiffer : Type 0
KeysDiffer = (bytes : List ℕ) (docs : List YamlTree) → docs_of bytes ≡ Ok docs →
    Each HasApartKeys docs

-- A flow reads the same with any fuel over its length, whatever is answered without fuel: a scan
-- that stood still would answer that.
abbrev pub FlowHasFuel : Type 0
FlowHasFuel =
    (spent other : FlowReading) (f g close : ℕ) (after : Bool) (text : List ℕ) →
    length text < f → length text < g →
    flow_turns spent f close after text ≡ flow_turns other g close after text

-- a row that is too deep has the same fault with any fuel over its length, whatever is answered
-- without fuel
abbrev pub DeepHasFuel : Type 0
DeepHasFuel =
    (spent other : LineFault) (f g : ℕ) (row : Row) (rows : List Row) →
    length row.text < f → length row.text < g →
    deep_turns spent f row rows ≡ deep_turns other g row rows

-- ---- which fault is told

-- Where a text is refused at a line, and not as a whole, the lines before that one hold documents,
-- or a quote on one of them is still open.
abbrev pub LinesBeforeHold : Type 0
LinesBeforeHold =
    (bytes : List ℕ) (fault : YamlFault) → whole_fault bytes ≡ None → docs_of bytes ≡ Err fault →
    let before = take (fault.line - 1) (rows_of (without_mark bytes)) in
    ((docs : List YamlTree) × HoldsDocs before docs) ⊎ HasOpenQuote before

-- Of two flaws of a line the one that is told is one of both, and neither has a lesser rank.
abbrev pub ForemostIsTold : Type 0
ForemostIsTold =
    (flaw : LineFlaw) (other : Option LineFlaw) →
    ((foremost flaw other ≡ flaw) ⊎ (other ≡ Some (foremost flaw other)))
    × (rank (foremost flaw other) ≤ rank flaw)
    × ((found : LineFlaw) → other ≡ Some found → rank (foremost flaw other) ≤ rank found)

-- Of two faults the one that is told is one of both, and neither goes before it.
abbrev pub EarliestIsTold : Type 0
EarliestIsTold =
    (fault other : LineFault) →
    ((earlier fault other ≡ fault) ⊎ (earlier fault other ≡ other))
    × (goes_before fault (earlier fault other) ≡ false)
    × (goes_before other (earlier fault other) ≡ false)
