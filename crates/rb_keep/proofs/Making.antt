-- What the statements that change the format make of the tables.
use Rattle.std.proofs.Common.{◌≡◌, ℕ, pos, List, [], ◌∷◌, false, None, Ok, refl, sym, ap, subst, ◌∙◌, arith}
use Rattle.sqlite.specs.Command.TheVariants.{Insert, CreateTable, Nothing}
use Rattle.sqlite.specs.Source.TheVariants.{Values}
use Rattle.sqlite.specs.Schema.{Schema}
use Rattle.sqlite.specs.Change.{created, next_tree, KeepsRows}
use Rattle.sqlite.specs.Does.{Tally, Does, lacks_sequence}
use Rattle.sqlite.specs.Edit.{edit_of, edited}
use Rattle.sqlite.specs.Rowids.TheVariants.{Chosen}
use Rattle.sqlite.specs.Rows.{Written}
use Rattle.sqlite.specs.Tree.{Trees}
use Rattle.sqlite.specs.Effect.{Database}
use Rattle.sqlite.specs.Listing.{understood}
use Rattle.sqlite.specs.State.{State, mode_of, Writes, Executes}
use Rattle.sqlite.proofs.Callers.{statement_of, runs_as, one_step}
use Rattle.rb_causes.specs.declared.row.Row.{Row}
use Rattle.rb_keep.specs.Tables.{entries, shape_at, Format, First, Second, tables_of, Holds, IsUnnumbered, format_2}
use Rattle.rb_keep.proofs.Changes.{went, same_value, cast_null, cast_int}
use Rattle.rb_keep.proofs.Statements.{make_entries, make_shape, write_shape, bare, first, second, shape_terms, entries_made, entries_plain, entries_stand, entries_stand_plain, both_stand, both_stand_plain, shape_made, shape_defined, shape_plain, shape_written, shape_written_plain}

pub makes_entries : (old new : State) (count : ℕ) → old.now.schema ≡ bare → Executes make_entries [] old new (Ok count) → Holds First new.now []
makes_entries old new count has did =
    let w = subst (λ t. Writes old new None CreateTable t [] count) entries_made.1 (runs_as make_entries [] old new bare has CreateTable entries_made.0 entries_plain count did) in
    let all = went w.changed in
    let made = went all.1 in
    let table : made.1.table ≡ entries = same_value (sym made.1.defined ∙ entries_made.2) in
    let schema : made.0.schema ≡ first = made.1.is ∙ ap (λ s. created s made.1.table) has ∙ ap (created bare) table in
    let plain : lacks_sequence made.0.schema ≡ false = ap lacks_sequence schema in
    let now : new.now ≡ made.0 = ap (λ (p : Tally × Database). p.1) (same_value all.2) ∙ same_value (rw plain at made.2) in
    record {
      schema = ap (λ (d : Database). d.schema) now ∙ schema;
      rows = ap (λ (d : Database). d.trees 0) now ∙ subst (λ s. made.0.trees (next_tree s) ≡ []) has made.1.empty;
      shaped = tt;
    }

pub makes_shape : (old new : State) (count : ℕ) (log : List Row) → Holds First old.now log → Executes make_shape [] old new (Ok count) → IsUnnumbered new.now log
makes_shape old new count log holds did =
    let w = subst (λ t. Writes old new None CreateTable t [] count) shape_made.1 (runs_as make_shape [] old new first holds.schema CreateTable shape_made.0 shape_plain count did) in
    let all = went w.changed in
    let made = went all.1 in
    let table : made.1.table ≡ shape_at 0 = same_value (sym made.1.defined ∙ shape_defined) in
    let schema : made.0.schema ≡ second = made.1.is ∙ ap (λ s. created s made.1.table) holds.schema ∙ ap (created first) table in
    let plain : lacks_sequence made.0.schema ≡ false = ap lacks_sequence schema in
    let now : new.now ≡ made.0 = ap (λ (p : Tally × Database). p.1) (same_value all.2) ∙ same_value (rw plain at made.2) in
    let others : KeepsRows (tables_of First) old.now.trees made.0.trees = subst (λ (s : Schema). KeepsRows s.tables old.now.trees made.0.trees) holds.schema made.1.others in
    record {
      schema = ap (λ (d : Database). d.schema) now ∙ schema;
      rows = ap (λ (d : Database). d.trees 0) now ∙ others.0 ∙ holds.rows;
      unnumbered = ap (λ (d : Database). d.trees 1) now ∙ subst (λ s. made.0.trees (next_tree s) ≡ []) holds.schema made.1.empty;
    }

-- where the tables stand, nothing is made
pub entries_kept : (format : Format) (old new : State) (count : ℕ) (log : List Row) → Holds format old.now log → Executes make_entries [] old new (Ok count) → Holds format new.now log
entries_kept First old new count log holds did =
    let same = (runs_as make_entries [] old new first holds.schema Nothing entries_stand entries_stand_plain count did).0 in
    subst (λ db. Holds First db log) (sym same.0.now_is) holds
entries_kept Second old new count log holds did =
    let same = (runs_as make_entries [] old new second holds.schema Nothing both_stand.0 both_stand_plain.0 count did).0 in
    subst (λ db. Holds Second db log) (sym same.0.now_is) holds

pub shape_kept : (old new : State) (count : ℕ) (log : List Row) → Holds Second old.now log → Executes make_shape [] old new (Ok count) → Holds Second new.now log
shape_kept old new count log holds did =
    let same = (runs_as make_shape [] old new second holds.schema Nothing both_stand.1 both_stand_plain.1 count did).0 in
    subst (λ db. Holds Second db log) (sym same.0.now_is) holds

pub writes_shape : (old new : State) (count : ℕ) (log : List Row) → IsUnnumbered old.now log → Executes write_shape [] old new (Ok count) → Holds Second new.now log
writes_shape old new count log holds did =
    let db = old.now.trees in
    let command = Insert 1 (Values shape_terms 3) in
    let w = runs_as write_shape [] old new second holds.schema command shape_written shape_written_plain count did in
    let text = statement_of write_shape (understood second write_shape) in
    let done = went (subst (λ s. Does old.step_limit (mode_of old) [] (record old.now { schema = s }) text None command (Ok (w.tally, new.now))) holds.schema w.changed) in
    let now = ap (λ (p : Tally × Database). p.1) (same_value (went (went done.2).2).2) in
    let given = went done.1 in
    let written = went (went given.2).2 in
    let counted = went written.2 in
    let trees : done.0.trees ≡ written.0 = ap (λ (it : Written). it.trees) (same_value counted.2) ∙ same_value counted.1 in
    let edit = edit_of db (shape_at 1) [] Chosen 0 given.0 in
    let step = one_step second _ db written.0 edit refl written.1 in
    let rows : edited db edit ≡ format_2 ∷ [] =
    ap (λ all. edited db (edit_of db (shape_at 1) [] Chosen 0 all)) given.1.1
    ∙ rw (holds.unnumbered, cast_null, cast_int (pos 1), cast_int (pos 2)) in
    let all : new.now.trees ≡ written.0 = ap (λ (d : Database). d.trees) now ∙ trees in
    record {
      schema = ap (λ (d : Database). d.schema) now;
      rows = ap (λ (t : Trees). t 0) all ∙ step.others 0 (λ e. omega (arith, e)) tt ∙ holds.rows;
      shaped = ap (λ (t : Trees). t 1) all ∙ step.rows ∙ rows;
    }
