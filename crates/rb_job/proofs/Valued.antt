-- What may be wrong with a value, by what is inside it and then by itself.
use Rattle.std.proofs.Common.{◌≡◌, ℕ, List, [], ◌++◌, Option, Some, None, Result, Ok, Err, ap, sym, subst, ◌∙◌}
use Rattle.std.specs.Result.{IsErrAnd}
use Rattle.rb_yaml.specs.Tree.{YamlTree, seq, mapping, trees_of, entries_of}
use Rattle.rb_values.specs.Values.{Entry}
use Rattle.rb_job.specs.TextForms.{Doubt}
use Rattle.rb_job.specs.Parts.{are_hollow, have_hollow}
use Rattle.rb_job.specs.Doubts.{inner_place, doubts_inside, item_part, map_part, list_doubts, map_doubts, value_doubts, items_doubts, entries_doubts}
use Rattle.rb_job.specs.Telling.{AllPass, Halts, TellsFirst}
use Rattle.rb_job.specs.declared.form.Form.{Form}
use Rattle.rb_job.specs.declared.form.Part.{Part}
use Rattle.rb_job.specs.declared.halt.Halt.{Halt}
use Rattle.rb_job.specs.declared.place.Place.{Place}
use Rattle.rb_values.proofs.Trees.{tree_list_of, entry_list_of}
use Rattle.rb_job.proofs.Passing.{halts_left, tells_right}

-- a refusal that is handed on
pub tells_handed : {T : Type 0} (r : Result T Halt) (e : Halt) (ds : List Doubt) → IsErrAnd r (λ x. x ≡ e) → Halts ds e → TellsFirst ds r
tells_handed (Ok t) e ds h s = absurd h
tells_handed (Err x) e ds h s = subst (Halts ds) (sym h) s

-- what is inside a value of a part comes first
inside_halts : (o : Option Part) (part : Part) (f : Part → List Doubt) (own : List Doubt) (e : Halt) → o ≡ Some part → Halts (f part) e → Halts (doubts_inside o f ++ own) e
inside_halts o part f own e is h = halts_left (doubts_inside o f) own e (subst (λ ds. Halts ds e) (sym (ap (λ p. doubts_inside p f) is)) h)

inside_passes : {T : Type 0} (o : Option Part) (part : Part) (f : Part → List Doubt) (own : List Doubt) (r : Result T Halt) → o ≡ Some part → AllPass (f part) → TellsFirst own r → TellsFirst (doubts_inside o f ++ own) r
inside_passes o part f own r is p h = tells_right (doubts_inside o f) own r (subst AllPass (sym (ap (λ q. doubts_inside q f) is)) p) h

inside_none : {T : Type 0} (o : Option Part) (f : Part → List Doubt) (own : List Doubt) (r : Result T Halt) → o ≡ None → TellsFirst own r → TellsFirst (doubts_inside o f ++ own) r
inside_none o f own r is h = subst (λ q. TellsFirst (doubts_inside q f ++ own) r) (sym is) h

module _ (place : Place) (form : Form) (key : List ℕ) (value : YamlTree) (line : ℕ) (items : List YamlTree) (value_is : value ≡ seq line (trees_of items)) where
  list_value : value_doubts place form key value ≡ doubts_inside (item_part form) (λ part. items_doubts part [] key (trees_of items)) ++ list_doubts place form key items (are_hollow (trees_of items))
  list_value = ap (value_doubts place form key) value_is
      ∙ ap (λ vs. doubts_inside (item_part form) (λ part. items_doubts part [] key (trees_of items)) ++ list_doubts place form key vs (are_hollow (trees_of items))) (tree_list_of items)

  pub list_halts : (part : Part) (e : Halt) → item_part form ≡ Some part → Halts (items_doubts part [] key (trees_of items)) e → Halts (value_doubts place form key value) e
  list_halts part e is h = subst (λ ds. Halts ds e) (sym list_value) (inside_halts (item_part form) part (λ p. items_doubts p [] key (trees_of items)) (list_doubts place form key items (are_hollow (trees_of items))) e is h)

  pub list_passes : {T : Type 0} (part : Part) (r : Result T Halt) → item_part form ≡ Some part → AllPass (items_doubts part [] key (trees_of items)) →
      TellsFirst (list_doubts place form key items (are_hollow (trees_of items))) r → TellsFirst (value_doubts place form key value) r
  list_passes part r is p h = subst (λ ds. TellsFirst ds r) (sym list_value) (inside_passes (item_part form) part (λ p. items_doubts p [] key (trees_of items)) (list_doubts place form key items (are_hollow (trees_of items))) r is p h)

  pub list_alone : {T : Type 0} (r : Result T Halt) → item_part form ≡ None → TellsFirst (list_doubts place form key items (are_hollow (trees_of items))) r → TellsFirst (value_doubts place form key value) r
  list_alone r is h = subst (λ ds. TellsFirst ds r) (sym list_value) (inside_none (item_part form) (λ p. items_doubts p [] key (trees_of items)) (list_doubts place form key items (are_hollow (trees_of items))) r is h)

module _ (place : Place) (form : Form) (key : List ℕ) (value : YamlTree) (line : ℕ) (entries : List Entry) (value_is : value ≡ mapping line (entries_of entries)) where
  map_value : value_doubts place form key value
      ≡ doubts_inside (map_part form) (λ part. entries_doubts part (inner_place place entries) [] (entries_of entries)) ++ map_doubts place form key entries (have_hollow (entries_of entries))
  map_value = ap (value_doubts place form key) value_is
      ∙ ap (λ es. doubts_inside (map_part form) (λ part. entries_doubts part (inner_place place es) [] (entries_of entries)) ++ map_doubts place form key es (have_hollow (entries_of entries))) (entry_list_of entries)

  pub map_halts : (part : Part) (e : Halt) → map_part form ≡ Some part → Halts (entries_doubts part (inner_place place entries) [] (entries_of entries)) e → Halts (value_doubts place form key value) e
  map_halts part e is h = subst (λ ds. Halts ds e) (sym map_value)
      (inside_halts (map_part form) part (λ p. entries_doubts p (inner_place place entries) [] (entries_of entries)) (map_doubts place form key entries (have_hollow (entries_of entries))) e is h)

  pub map_passes : {T : Type 0} (part : Part) (r : Result T Halt) → map_part form ≡ Some part → AllPass (entries_doubts part (inner_place place entries) [] (entries_of entries)) →
      TellsFirst (map_doubts place form key entries (have_hollow (entries_of entries))) r → TellsFirst (value_doubts place form key value) r
  map_passes part r is p h = subst (λ ds. TellsFirst ds r) (sym map_value)
      (inside_passes (map_part form) part (λ p. entries_doubts p (inner_place place entries) [] (entries_of entries)) (map_doubts place form key entries (have_hollow (entries_of entries))) r is p h)

  pub map_alone : {T : Type 0} (r : Result T Halt) → map_part form ≡ None → TellsFirst (map_doubts place form key entries (have_hollow (entries_of entries))) r → TellsFirst (value_doubts place form key value) r
  map_alone r is h = subst (λ ds. TellsFirst ds r) (sym map_value)
      (inside_none (map_part form) (λ p. entries_doubts p (inner_place place entries) [] (entries_of entries)) (map_doubts place form key entries (have_hollow (entries_of entries))) r is h)
