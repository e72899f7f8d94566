-- What is left of a sequence or a map that is looked through.
use Rattle.std.specs.Option.{option_to_list}
use Rattle.std.proofs.Common.{◌≡◌, ℕ, ◌+◌, ◌<◌, List, [], ◌∷◌, ◌++◌, length, get_or, take, map, refl, ap, sym, subst, ◌∙◌}
use Rattle.std.proofs.lemmas.List.{take_more, map_push}
use Rattle.rb_causes.specs.SeenTexts.{HasSeen}
use Rattle.rb_causes.specs.declared.seen_texts.SeenTexts.{SeenTexts}
use Rattle.rb_yaml.specs.Tree.{YamlTree, trees_of, entries_of}
use Rattle.rb_values.specs.Values.{Entry}
use Rattle.rb_job.specs.Table.{form_of}
use Rattle.rb_job.specs.TextForms.{Doubt}
use Rattle.rb_job.specs.Doubts.{name_in, item_place, entry_place, value_doubts, items_doubts, entries_doubts}
use Rattle.rb_job.specs.Telling.{AllPass, Halts}
use Rattle.rb_job.specs.declared.form.Form.{Form}
use Rattle.rb_job.specs.declared.form.Form.TheVariants.{Map}
use Rattle.rb_job.specs.declared.form.Part.{Part}
use Rattle.rb_job.specs.declared.halt.Halt.{Halt}
use Rattle.rb_job.specs.declared.place.Place.{Place}
use Rattle.rb_job.proofs.Passing.{all_both, halts_left, halts_right}

-- what may be wrong with the rest is what may be wrong with all: it passes or halts as that does
pub record IsLeftOf (all left : List Doubt) : Type 0 where
  pub passes : AllPass left → AllPass all
  pub halts : (e : Halt) → Halts left e → Halts all e

pub left_whole : (all : List Doubt) → IsLeftOf all all
left_whole all = record { passes = λ p. p; halts = λ e h. h }

pub left_on : (all now rest : List Doubt) → AllPass now → IsLeftOf all (now ++ rest) → IsLeftOf all rest
left_on all now rest p left = record {
  passes = λ q. left.passes (all_both now rest p q);
  halts = λ e h. left.halts e (halts_right now rest e p h);
}

pub left_halts : (all now rest : List Doubt) (e : Halt) → Halts now e → IsLeftOf all (now ++ rest) → Halts all e
left_halts all now rest e h left = left.halts e (halts_left now rest e h)

-- the maps of a sequence that are left, behind those whose names were seen
pub record ItemsLeft (part : Part) (key : List ℕ) (all left : List YamlTree) (seen : SeenTexts) : Type 0 where
  pub names : List (List ℕ)
  pub held : HasSeen seen names
  pub is_left : IsLeftOf (items_doubts part [] key (trees_of all)) (items_doubts part names key (trees_of left))

pub items_on : (part : Part) (key : List ℕ) (all left rest : List YamlTree) (seen seen' : SeenTexts) (item : YamlTree) (place : Place) →
    left ≡ item ∷ rest → (look : ItemsLeft part key all left seen) → place ≡ item_place look.names item → AllPass (value_doubts place (Map part) key item) →
    HasSeen seen' (look.names ++ option_to_list (name_in item)) → ItemsLeft part key all rest seen'
items_on part key all left rest seen seen' item place is look at pass noted = record {
  names = look.names ++ option_to_list (name_in item);
  held = noted;
  is_left = left_on (items_doubts part [] key (trees_of all)) (value_doubts (item_place look.names item) (Map part) key item)
      (items_doubts part (look.names ++ option_to_list (name_in item)) key (trees_of rest))
      (subst (λ p. AllPass (value_doubts p (Map part) key item)) at pass)
      (subst (λ vs. IsLeftOf (items_doubts part [] key (trees_of all)) (items_doubts part look.names key (trees_of vs))) is look.is_left);
}

pub items_halt : (part : Part) (key : List ℕ) (all left rest : List YamlTree) (seen : SeenTexts) (item : YamlTree) (place : Place) (e : Halt) →
    left ≡ item ∷ rest → (look : ItemsLeft part key all left seen) → place ≡ item_place look.names item → Halts (value_doubts place (Map part) key item) e →
    Halts (items_doubts part [] key (trees_of all)) e
items_halt part key all left rest seen item place e is look at h =
    left_halts (items_doubts part [] key (trees_of all)) (value_doubts (item_place look.names item) (Map part) key item)
    (items_doubts part (look.names ++ option_to_list (name_in item)) key (trees_of rest)) e
    (subst (λ p. Halts (value_doubts p (Map part) key item) e) at h)
    (subst (λ vs. IsLeftOf (items_doubts part [] key (trees_of all)) (items_doubts part look.names key (trees_of vs))) is look.is_left)

-- the entries of a map that are left, behind those before
abbrev pub EntriesLeft : Part → Place → List Entry → List Entry → List Entry → Type 0
EntriesLeft part place all before left =
    IsLeftOf (entries_doubts part place [] (entries_of all)) (entries_doubts part place before (entries_of left))

pub entries_on : (part : Part) (place : Place) (all before before' left rest : List Entry) (e : Entry) →
    left ≡ e ∷ rest → before' ≡ before ++ e ∷ [] → AllPass (value_doubts (entry_place place before e.0 e.1) (form_of part e.0) e.0 e.1) →
    EntriesLeft part place all before left → EntriesLeft part place all before' rest
entries_on part place all before before' left rest e is more pass look =
    subst (λ b. EntriesLeft part place all b rest) (sym more)
    (left_on (entries_doubts part place [] (entries_of all)) (value_doubts (entry_place place before e.0 e.1) (form_of part e.0) e.0 e.1)
    (entries_doubts part place (before ++ e ∷ []) (entries_of rest)) pass
    (subst (λ es. EntriesLeft part place all before es) is look))

pub entries_halt : (part : Part) (place : Place) (all before left rest : List Entry) (e : Entry) (halt : Halt) →
    left ≡ e ∷ rest → Halts (value_doubts (entry_place place before e.0 e.1) (form_of part e.0) e.0 e.1) halt →
    EntriesLeft part place all before left → Halts (entries_doubts part place [] (entries_of all)) halt
entries_halt part place all before left rest e halt is h look =
    left_halts (entries_doubts part place [] (entries_of all)) (value_doubts (entry_place place before e.0 e.1) (form_of part e.0) e.0 e.1)
    (entries_doubts part place (before ++ e ∷ []) (entries_of rest)) halt h
    (subst (λ es. EntriesLeft part place all before es) is look)

pub same_doubts : (place place' : Place) (form form' : Form) (key key' : List ℕ) (v v' : YamlTree) → place ≡ place' → form ≡ form' → key ≡ key' → v ≡ v' → value_doubts place form key v ≡ value_doubts place' form' key' v'
same_doubts place place' form form' key key' v v' p f k is = rw (p, f, k, is) refl

-- one entry more is before
pub before_more : {A B : Type 0} (view : A → B) (xs : List A) (i : ℕ) (x : A) → i < length xs → x ≡ get_or xs i x → map view (take (i + 1) xs) ≡ map view (take i xs) ++ view x ∷ []
before_more view xs i x l is_x =
    ap (map view) (take_more xs i x l ∙ ap (λ y. take i xs ++ y ∷ []) (sym is_x)) ∙ map_push view (take i xs) x
