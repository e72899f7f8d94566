-- Tokens, zones, policy files and projects of what is read are few and have different names.
use Rattle.std.proofs.Common.{◌≡◌, ◌≤◌, ◌∙◌, ℕ, zero, suc, Bool, true, false, not, cond, ◌&&◌, nat_lt, List, [], ◌∷◌, ◌++◌, length, map, filter, slice_get, bytes_eq, codes, Option, Some, None, unwrap_or, refl, ap, sym, subst, arith, true≢false, ltb-false}
use Rattle.std.specs.List.{list_all}
use Rattle.std.proofs.lemmas.Bool.{not-true}
use Rattle.std.proofs.lemmas.List.{length-map}
use Rattle.std.proofs.lemmas.List.Folds.{list_all-map}
use Rattle.rb_causes.specs.Texts.{has_text}
use Rattle.rb_causes.proofs.Lists.{some_is}
use Rattle.rb_causes.proofs.Seen.{has_more}
use Rattle.rb_causes.proofs.Texts.{same_text}
use Rattle.rb_log.specs.Imports.{most_files}
use Rattle.rb_log.specs.Moves.{is_name}
use Rattle.rb_yaml.specs.Tree.{YamlTree}
use Rattle.rb_values.specs.Values.{Entry, items_at, items_by, items_in, map_entries, scalar_or_empty, sequence_items, text_at, value_at}
use Rattle.rb_manifest.specs.Forms.{EntryForm, are_formed, bad_names, entry_flaws, entry_names, form_flaws, is_list_with, number_flaws, repeated, unknown_keys, unless_holds}
use Rattle.rb_manifest.specs.Keys.{any_text, most_projects, most_tokens, most_zones, project_form, token_form, zone_form}
use Rattle.rb_manifest.specs.Laws.{IsSoundManifest, ManifestsAreSound, TextsDiffer}
use Rattle.rb_manifest.specs.Manifests.{manifest_in, manifest_project, manifest_token, manifest_zone}
use Rattle.rb_manifest.specs.declared.manifest_err.ManifestFault.TheVariants.{BadName, TooMany, Twice}
use Rattle.rb_manifest.proofs.Flawless.{AreFlawless, holds, none_behind, none_in_front, none_told, of_each_read, under}

-- ---- names of which none is repeated differ

unseen_by : (b c : Bool) → cond b true c ≡ false → (b ≡ false) × (c ≡ false)
unseen_by true c h = absurd (true≢false h)
unseen_by false c h = (refl, h)

-- it is not the last of them, and not among those before
unseen : (texts : List (List ℕ)) (text other : List ℕ)
    → has_text (texts ++ text ∷ []) other ≡ false
    → (bytes_eq text other ≡ false) × (has_text texts other ≡ false)
unseen texts text other h =
    unseen_by (bytes_eq text other) (has_text texts other) (sym (has_more texts text other) ∙ h)

once_by : (b : Bool) (name : List ℕ) (more : List (List ℕ)) → cond b (name ∷ more) more ≡ []
    → (b ≡ false) × (more ≡ [])
once_by true name more h = absurd (grind (arith, h))
once_by false name more h = (refl, h)

once : (before : List (List ℕ)) (name : List ℕ) (names : List (List ℕ))
    → repeated before (name ∷ names) ≡ []
    → (has_text before name ≡ false) × (repeated (before ++ name ∷ []) names ≡ [])
once before name names h =
    once_by (has_text before name) name (repeated (before ++ name ∷ []) names) h

not_before : (before names : List (List ℕ)) → repeated before names ≡ []
    → (j : ℕ) (b : List ℕ) → slice_get names j ≡ Some b → has_text before b ≡ false
not_before before [] h j b is = absurd (grind (arith, is))
not_before before (name ∷ names) h zero b is =
    subst (λ n. has_text before n ≡ false) (some_is name b is) (once before name names h).0
not_before before (name ∷ names) h (suc j) b is =
    (unseen before name b
    (not_before (before ++ name ∷ []) names (once before name names h).1 j b is)).1

names_differ : (before names : List (List ℕ)) → repeated before names ≡ [] → TextsDiffer names
names_differ before [] h i j a b is also sooner = absurd (grind (arith, is))
names_differ before (name ∷ names) h zero zero a b is also sooner =
    absurd (omega (arith, sooner))
names_differ before (name ∷ names) h zero (suc j) a b is also sooner = λ same.
    let other = (unseen before name b
    (not_before (before ++ name ∷ []) names (once before name names h).1 j b also)).0 in
    true≢false (sym (same_text name b (some_is name a is ∙ same)) ∙ other)
names_differ before (name ∷ names) h (suc i) zero a b is also sooner =
    absurd (omega (arith, sooner))
names_differ before (name ∷ names) h (suc i) (suc j) a b is also sooner =
    names_differ (before ++ name ∷ []) names (once before name names h).1 i j a b is also
    (omega (arith, sooner))

-- ---- names of which none is bad are names

named_by : (b c : Bool) (name : List ℕ) (bad : List (List ℕ))
    → cond (not b) (name ∷ bad) bad ≡ [] → (bad ≡ [] → c ≡ true) → (b && c) ≡ true
named_by true c name bad h more = more h
named_by false c name bad h more = absurd (grind (arith, h))

all_named : (names : List (List ℕ)) → filter (λ name. not (is_name name)) names ≡ []
    → list_all is_name names ≡ true
all_named [] h = refl
all_named (name ∷ names) h =
    named_by (is_name name) (list_all is_name names) name
    (filter (λ n. not (is_name n)) names) h (all_named names)

-- ---- a list of the manifest, by the names of its items

record AreSound {A : Type 0} (name : A → List ℕ) (most : ℕ) (xs : List A) : Type 0 where
  differ : TextsDiffer (map name xs)
  few : length xs ≤ most

module _ {A B : Type 0} (name : B → List ℕ) (view : A → B) where
  seen_names : (xs : List A) → map (λ x. name (view x)) xs ≡ map name (map view xs)
  seen_names [] = refl
  seen_names (x ∷ xs) = ap (λ ns. name (view x) ∷ ns) (seen_names xs)

  -- so are they as they are seen
  sound_seen : (most : ℕ) (xs : List A) → AreSound (λ x. name (view x)) most xs
      → AreSound name most (map view xs)
  sound_seen most xs sound = record {
    differ = subst TextsDiffer (seen_names xs) sound.differ;
    few = subst (λ n. n ≤ most) (sym (length-map xs view)) sound.few;
  }

  named_seen : (xs : List A) → list_all is_name (map (λ x. name (view x)) xs) ≡ true
      → list_all (λ y. is_name (name y)) (map view xs) ≡ true
  named_seen xs h =
      list_all-map (λ y. is_name (name y)) view xs
      ∙ sym (list_all-map is_name (λ x. name (view x)) xs) ∙ h

module _ {A : Type 0} (name : A → List ℕ) (key : List ℕ) (most : ℕ) where
  sound_by : (xs : List A) → number_flaws key most (map name xs) ≡ [] → AreSound name most xs
  sound_by xs none =
      let few = unless_holds (not (nat_lt most (length (map name xs)))) (TooMany key) in
      let twice = map Twice (repeated [] (map name xs)) in record {
        differ = names_differ [] (map name xs)
            (none_told Twice (repeated [] (map name xs)) (none_behind few twice none));
        few = subst (λ n. n ≤ most) (length-map xs name)
            (ltb-false most (length (map name xs)) (not-true _
            (holds _ (TooMany key) (none_in_front few twice none))));
      }

sound_none : {A : Type 0} (name : A → List ℕ) (most : ℕ) → AreSound name most []
sound_none name most = record {
  differ = λ i j a b is also sooner. absurd (grind (arith, is));
  few = omega arith;
}

sound_under : (name : YamlTree → List ℕ) (most : ℕ) (o : Option YamlTree)
    → ((value : YamlTree) → o ≡ Some value → AreSound name most (sequence_items value))
    → AreSound name most (items_by o)
sound_under name most None h = sound_none name most
sound_under name most (Some value) h = h value refl

named_under : (name : YamlTree → List ℕ) (o : Option YamlTree)
    → ((value : YamlTree) → o ≡ Some value
    → list_all is_name (map name (sequence_items value)) ≡ true)
    → list_all is_name (map name (items_by o)) ≡ true
named_under name None h = refl
named_under name (Some value) h = h value refl

-- ---- entries of a form

not_bad : (strict : Bool) (names : List (List ℕ)) → bad_names strict names ≡ []
    → strict ≡ true → list_all is_name names ≡ true
not_bad true names none is =
    all_named names (none_told BadName (filter (λ name. not (is_name name)) names) none)
not_bad false names none is = absurd (true≢false (sym is))

module _ (form : EntryForm) where
  -- what an entry is called
  abbrev called : YamlTree → List ℕ
  called item = unwrap_or (text_at (map_entries item) form.name_key) []

  module _ (key : List ℕ) (value : YamlTree) (none : entry_flaws form key value ≡ []) where
    behind_form : bad_names form.is_strict (entry_names form value)
        ++ number_flaws key form.most (entry_names form value) ≡ []
    behind_form =
        none_behind (form_flaws (λ v. are_formed form (items_in v)) key value) _
        (none_behind (unknown_keys form value) _ none)

    sound_entries : AreSound called form.most (sequence_items value)
    sound_entries =
        sound_by called key form.most (sequence_items value)
        (none_behind (bad_names form.is_strict (entry_names form value)) _ behind_form)

    named_entries : form.is_strict ≡ true → list_all is_name (entry_names form value) ≡ true
    named_entries =
        not_bad form.is_strict (entry_names form value) (none_in_front _ _ behind_form)

-- ---- the lists of a manifest

module _ (entries : List Entry) (none : AreFlawless entries) where
  tokens_are_sound : AreSound (λ t. t.token) most_tokens (manifest_in entries).tokens
  tokens_are_sound =
      sound_seen (λ t. t.token) manifest_token most_tokens (items_at entries (codes "tokens"))
      (sound_under (called token_form) most_tokens (value_at entries (codes "tokens"))
      (λ value there. sound_entries token_form (codes "tokens") value
      (under entries (codes "tokens") value there none)))

  tokens_are_named : list_all (λ t. is_name t.token) (manifest_in entries).tokens ≡ true
  tokens_are_named =
      named_seen (λ t. t.token) manifest_token (items_at entries (codes "tokens"))
      (named_under (called token_form) (value_at entries (codes "tokens"))
      (λ value there. named_entries token_form (codes "tokens") value
      (under entries (codes "tokens") value there none) refl))

  zones_are_sound : AreSound (λ z. z.key) most_zones (manifest_in entries).zones
  zones_are_sound =
      sound_seen (λ z. z.key) manifest_zone most_zones (items_at entries (codes "zones"))
      (sound_under (called zone_form) most_zones (value_at entries (codes "zones"))
      (λ value there. sound_entries zone_form (codes "zones") value
      (under entries (codes "zones") value there none)))

  files_are_sound : AreSound scalar_or_empty most_files (items_at entries (codes "policies"))
  files_are_sound =
      sound_under scalar_or_empty most_files (value_at entries (codes "policies"))
      (λ value there. sound_by scalar_or_empty (codes "policies") most_files
      (sequence_items value)
      (none_behind (form_flaws (is_list_with any_text) (codes "policies") value) _
      (under entries (codes "policies") value there none)))

  projects_are_sound : AreSound (λ p. p.name) most_projects (manifest_in entries).projects
  projects_are_sound =
      sound_seen (λ p. p.name) manifest_project most_projects
      (items_at entries (codes "projects"))
      (sound_under (called project_form) most_projects (value_at entries (codes "projects"))
      (λ value there. sound_entries project_form (codes "projects") value
      (under entries (codes "projects") value there none)))

  projects_are_named : list_all (λ p. is_name p.name) (manifest_in entries).projects ≡ true
  projects_are_named =
      named_seen (λ p. p.name) manifest_project (items_at entries (codes "projects"))
      (named_under (called project_form) (value_at entries (codes "projects"))
      (λ value there. named_entries project_form (codes "projects") value
      (under entries (codes "projects") value there none) refl))

  entries_are_sound : IsSoundManifest (manifest_in entries)
  entries_are_sound = record {
    tokens = tokens_are_sound.differ;
    zones = zones_are_sound.differ;
    files = files_are_sound.differ;
    projects = projects_are_sound.differ;
    few_tokens = tokens_are_sound.few;
    few_zones = zones_are_sound.few;
    few_files = subst (λ n. n ≤ most_files)
        (sym (length-map (items_at entries (codes "policies")) scalar_or_empty))
        files_are_sound.few;
    few_projects = projects_are_sound.few;
    token_names = tokens_are_named;
    project_names = projects_are_named;
  }

pub manifests_are_sound : ManifestsAreSound
manifests_are_sound = of_each_read IsSoundManifest entries_are_sound
