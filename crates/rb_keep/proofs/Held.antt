-- The rows that a store in memory shows are those of the log that it holds.
use Rattle.std.proofs.Common.{◌≡◌, inl, inr, ℕ, ◌+◌, List, [], ◌∷◌, map, true, false, refl, sym, ap, ◌∙◌}
use Rattle.sqlite.specs.Effect.{Database}
use Rattle.sqlite.specs.Schema.{Schema}
use Rattle.sqlite_tied.specs.Compute.{everything}
use Rattle.sqlite.specs.Listing.{understood}
use Rattle.rb_causes.specs.declared.row.Row.{Row}
use Rattle.rb_keep.specs.Stores.{has_shape}
use Rattle.rb_keep.specs.Tables.{of_tables, tables_of, First, Second, Stores, stored_from, row_held, rows_within, rows_of}

held_back : (n : ℕ) (log : List Row) → map row_held (stored_from n log) ≡ log
held_back n [] = refl
held_back n (row ∷ log) = ap (λ rest. row ∷ rest) (held_back (n + 1) log)

pub rows_stored : (db : Database) (log : List Row) → Stores db log → rows_of db ≡ log
rows_stored db log (inl bare) = ap (λ (s : Schema). rows_within s.tables db.trees) bare.0 ∙ sym bare.1
rows_stored db log (inr (inl held)) = ap (λ (s : Schema). rows_within s.tables db.trees) held.schema ∙ ap (map row_held) held.rows ∙ held_back 1 log
rows_stored db log (inr (inr held)) = ap (λ (s : Schema). rows_within s.tables db.trees) held.schema ∙ ap (map row_held) held.rows ∙ held_back 1 log

pub shape_told : (has_shape (of_tables []) ≡ false) × (has_shape (of_tables (tables_of First)) ≡ false) × (has_shape (of_tables (tables_of Second)) ≡ true)
unfolding understood everything
shape_told = (refl, refl, refl)
