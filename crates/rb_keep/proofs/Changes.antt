-- What the statements of a store make of its tables.
use Rattle.std.proofs.Common.{◌≡◌, ◌≢◌, ◌⊎◌, inl, inr, ℕ, ◌+◌, ℤ, pos, ◌+ℤ◌, List, [], ◌∷◌, length, Bool, true, false, cond, None, Ok, Err, Result, refl, ap, ap₂, subst, ◌∙◌, arith}
use Rattle.std.proofs.lemmas.Int.{ints}
use Rattle.sqlite.specs.declared.types.Value.{Value}
use Rattle.sqlite.specs.declared.types.Value.TheVariants.{Null, Int, Blob}
use Rattle.sqlite.specs.Order.{Row as Stored}
use Rattle.sqlite.specs.Ops.{unary}
use Rattle.sqlite.specs.Table.{Table}
use Rattle.sqlite.specs.Kind.TheVariants.{Integer}
use Rattle.sqlite.specs.Source.TheVariants.{Values}
use Rattle.sqlite.specs.Command.TheVariants.{Insert}
use Rattle.sqlite.specs.Edit.{edit_of, edited, taken_by}
use Rattle.sqlite.specs.Cast.{cast}
use Rattle.sqlite.specs.Rowids.TheVariants.{Chosen}
use Rattle.sqlite.specs.Does.{Tally, Does}
use Rattle.sqlite.specs.Rows.{Written}
use Rattle.sqlite.specs.Tree.{Trees, put_row}
use Rattle.sqlite.specs.Effect.{Database}
use Rattle.sqlite.specs.Listing.{understood}
use Rattle.sqlite.specs.State.{State, mode_of, Executes}
use Rattle.sqlite.proofs.Callers.{IsPlain, command_of, statement_of, runs_as, one_step}
use Rattle.sqlite_schema.specs.declared.schema.Keys.TheVariants.{Enforced}
use Rattle.sqlite_rules.specs.Action.{works}
use Rattle.rb_causes.specs.declared.row.Row.{Row}
use Rattle.rb_keep.specs.Tables.{entries, shape_at, of_tables, First, Second, Adds, given_by}
use Rattle.rb_keep.proofs.Rising.{put_behind}
use Rattle.rb_keep.proofs.Statements.{insert, entry_terms, entry_inserted, entry_inserted_plain, first_inserted}

either : (b : Bool) (x : Value) → cond b x x ≡ x
either true x = refl
either false x = refl

pub cast_null : cast Integer Null ≡ Null
unfolding unary
cast_null = either _ Null

pub cast_int : (n : ℤ) → cast Integer (Int n) ≡ Int n
unfolding unary
cast_int n = either _ (Int n)

-- a part that gave a value was not stopped
pub went : {B E R : Type 0} {b : B} {Stops : E → Type 0} → ((stop : E) × Stops stop × (Ok b ≡ Err stop)) ⊎ R → R
went (inl stopped) = absurd (let e = stopped.2 in cc)
went (inr on) = on

pub same_value : {B E : Type 0} {a b : B} → ◌≡◌ {A = Result B E} (Ok a) (Ok b) → a ≡ b
same_value e = cc

-- a row of the log under any number, as the table holds it
abbrev kept_as : ℤ → Row → Stored
kept_as seq row =
    Int seq ∷ Null ∷ Int (pos row.kind) ∷ Int row.at ∷ Int (pos row.a) ∷ Int (pos row.b) ∷ Int (pos row.c) ∷ Blob row.name ∷ Blob row.who ∷ Blob row.body ∷ []

module _ (rest : List Table) (is : command_of (understood (of_tables (entries ∷ rest)) insert) ≡ Insert 0 (Values entry_terms 10)) (plain : IsPlain (understood (of_tables (entries ∷ rest)) insert))
    (free : (olds news : List Stored) → works (of_tables (entries ∷ rest)) Enforced 0 0 olds news ≡ []) where
  puts : (old new : State) (seq : ℤ) (row : Row) (count : ℕ) → old.now.schema ≡ of_tables (entries ∷ rest) → Executes insert (given_by seq row) old new (Ok count)
      → (new.now.schema ≡ of_tables (entries ∷ rest)) × (new.now.trees 0 ≡ put_row (kept_as seq row) (old.now.trees 0)) × ((t : ℕ) → t ≢ 0 → new.now.trees t ≡ old.now.trees t)
  puts old new seq row count has did =
      let schema = of_tables (entries ∷ rest) in
      let params = given_by seq row in
      let db = old.now.trees in
      let command = Insert 0 (Values entry_terms 10) in
      let w = runs_as insert params old new schema has command is plain count did in
      let text = statement_of insert (understood schema insert) in
      let done = went (subst (λ s. Does old.step_limit (mode_of old) params (record old.now { schema = s }) text None command (Ok (w.tally, new.now))) has w.changed) in
      let now = ap (λ (p : Tally × Database). p.1) (same_value (went (went done.2).2).2) in
      let given = went done.1 in
      let written = went (went given.2).2 in
      let counted = went written.2 in
      let trees : done.0.trees ≡ written.0 = ap (λ (it : Written). it.trees) (same_value counted.2) ∙ same_value counted.1 in
      let edit = edit_of db entries [] Chosen 0 given.0 in
      let step = one_step schema _ db written.0 edit (free (taken_by db edit) edit.news) written.1 in
      let rows : edited db edit ≡ put_row (kept_as seq row) (db 0) =
      ap (λ all. edited db (edit_of db entries [] Chosen 0 all)) given.1.1
      ∙ rw (cast_null, cast_int seq, cast_int (pos row.kind), cast_int row.at, cast_int (pos row.a), cast_int (pos row.b), cast_int (pos row.c)) in
      let all : new.now.trees ≡ written.0 = ap (λ (d : Database). d.trees) now ∙ trees in (
        ap (λ (d : Database). d.schema) now,
        ap (λ (t : Trees). t 0) all ∙ step.rows ∙ rows,
        λ t other. ap (λ (it : Trees). it t) all ∙ step.others t other tt,
      )

rise : (n : ℕ) → pos n +ℤ pos 1 ≡ pos (1 + n)
rise n = grind (arith, ints)

rise_refl : (n : ℕ) → pos n +ℤ pos 1 ≡ pos (n + 1)
rise_refl n = refl

pub adds : (last : ℤ) (row : Row) (old new : State) (count : ℕ) → Executes insert (given_by (last +ℤ pos 1) row) old new (Ok count) → Adds last (row ∷ []) old.now new.now
adds last row old new count did First log is holds =
    let p = puts [] first_inserted.0 first_inserted.1 (λ olds news. refl) old new (last +ℤ pos 1) row count holds.schema did in
    let number : last +ℤ pos 1 ≡ pos (1 + length log) = ap (λ n. n +ℤ pos 1) is ∙ rise (length log) in
    record { schema = p.0; rows = p.1 ∙ ap₂ (λ n rows. put_row (kept_as n row) rows) number holds.rows ∙ put_behind 1 log row; shaped = tt }
adds last row old new count did Second log is holds =
    let p = puts (shape_at 1 ∷ []) entry_inserted entry_inserted_plain (λ olds news. refl) old new (last +ℤ pos 1) row count holds.schema did in
    let number : last +ℤ pos 1 ≡ pos (1 + length log) = ap (λ n. n +ℤ pos 1) is ∙ rise (length log) in
    record { schema = p.0; rows = p.1 ∙ ap₂ (λ n rows. put_row (kept_as n row) rows) number holds.rows ∙ put_behind 1 log row; shaped = p.2 1 (λ e. omega (arith, e)) ∙ holds.shaped }
