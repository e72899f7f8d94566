-- Of what is read no user and no group has a line feed or a comma.
use Rattle.std.proofs.Common.{◌≡◌, ℕ, Bool, true, false, ◌&&◌, List, [], ◌∷◌, map, codes, Option, Some, None, unwrap_or, refl, ap, subst, arith}
use Rattle.std.specs.List.{list_all}
use Rattle.rb_log.specs.Rows.{is_clean, is_clean_caller}
use Rattle.rb_yaml.specs.Tree.{YamlTree}
use Rattle.rb_values.specs.Values.{Entry, text_in, items_in, entries_in, value_at, text_by, items_by, scalar_or_empty}
use Rattle.rb_manifest.specs.Forms.{EntryKey, is_text_with, is_list_with, passes, all_pass, are_formed, is_formed_map, is_key_formed, unknown_keys}
use Rattle.rb_manifest.specs.Keys.{any_text, entry_key, flaws_under, manifest_keys, token_form}
use Rattle.rb_manifest.specs.Laws.{CallersAreClean}
use Rattle.rb_manifest.specs.Manifests.{manifest_in, manifest_token, owner_in, text_or_else, texts_under}
use Rattle.rb_manifest.specs.declared.manifest.Manifest.{Manifest}
use Rattle.rb_manifest.proofs.Flawless.{AreFlawless, holds, none_behind, none_in_front, of_each_read, under}

-- ---- clean texts

clean_text_by : (o : Option (List ℕ)) (other : List ℕ) → passes is_clean o ≡ true
    → is_clean (unwrap_or o other) ≡ true
clean_text_by None other h = absurd (grind (arith, h))
clean_text_by (Some text) other h = h

and_first : (a b : Bool) → (a && b) ≡ true → a ≡ true
and_first true b h = refl
and_first false b h = absurd (grind (arith, h))

and_second : (a b : Bool) → (a && b) ≡ true → b ≡ true
and_second true b h = h
and_second false b h = absurd (grind (arith, h))

both : (a b : Bool) → a ≡ true → b ≡ true → (a && b) ≡ true
both a b h g = rw (h, g) refl

clean_items : (items : List YamlTree) → list_all (is_text_with is_clean) items ≡ true
    → list_all is_clean (map scalar_or_empty items) ≡ true
clean_items [] h = refl
clean_items (item ∷ items) h =
    both (is_clean (scalar_or_empty item)) (list_all is_clean (map scalar_or_empty items))
    (clean_text_by (text_in item) [] (and_first (is_text_with is_clean item) _ h))
    (clean_items items (and_second (is_text_with is_clean item) _ h))

clean_list_by : (o : Option (List YamlTree)) → all_pass is_clean o ≡ true
    → list_all is_clean (map scalar_or_empty (unwrap_or o [])) ≡ true
clean_list_by None h = absurd (grind (arith, h))
clean_list_by (Some items) h = clean_items items h

-- ---- the owner

clean_user_by : (o : Option YamlTree) (other : List ℕ)
    → ((value : YamlTree) → o ≡ Some value → is_text_with is_clean value ≡ true)
    → is_clean other ≡ true → is_clean (unwrap_or (text_by o) other) ≡ true
clean_user_by None other h g = g
clean_user_by (Some value) other h g = clean_text_by (text_in value) other (h value refl)

clean_groups_by : (o : Option YamlTree)
    → ((value : YamlTree) → o ≡ Some value → is_list_with is_clean value ≡ true)
    → list_all is_clean (map scalar_or_empty (items_by o)) ≡ true
clean_groups_by None h = refl
clean_groups_by (Some value) h = clean_list_by (items_in value) (h value refl)

owner_is_clean : (entries : List Entry) → AreFlawless entries
    → is_clean_caller (owner_in entries) ≡ true
owner_is_clean entries none =
    both _ _
    (clean_user_by (value_at entries (codes "owner")) (codes "admin")
    (λ value there. holds _ _ (under entries (codes "owner") value there none)) refl)
    (clean_groups_by (value_at entries (codes "owner-groups"))
    (λ value there. holds _ _ (under entries (codes "owner-groups") value there none)))

-- ---- tokens

user_key : EntryKey
user_key = entry_key (codes "user") (is_text_with is_clean) true

groups_key : EntryKey
groups_key = entry_key (codes "groups") (is_list_with is_clean) false

formed_user : (o : Option YamlTree) → is_key_formed (entry_key (codes "user") (is_text_with is_clean) true) o ≡ true
    → (value : YamlTree) → o ≡ Some value → is_text_with is_clean value ≡ true
formed_user None h value is = absurd (grind (arith, is))
formed_user (Some v) h value is = subst (λ x. is_text_with is_clean x ≡ true) (ap (λ o. unwrap_or o v) is) h

formed_groups : (o : Option YamlTree) → is_key_formed (entry_key (codes "groups") (is_list_with is_clean) false) o ≡ true
    → (value : YamlTree) → o ≡ Some value → is_list_with is_clean value ≡ true
formed_groups None h value is = absurd (grind (arith, is))
formed_groups (Some v) h value is = subst (λ x. is_list_with is_clean x ≡ true) (ap (λ o. unwrap_or o v) is) h

token_by : (o : Option (List Entry)) → is_formed_map token_form.keys o ≡ true
    → let es : List Entry = unwrap_or o [] in
    (is_clean (text_or_else [] es (codes "user")) && list_all is_clean (texts_under es (codes "groups")))
    ≡ true
token_by None h = absurd (grind (arith, h))
token_by (Some es) h =
    let second = and_second (is_key_formed (entry_key (codes "token") (is_text_with any_text) true)
    (value_at es (codes "token"))) _ h in
    let user = and_first (is_key_formed (entry_key (codes "user") (is_text_with is_clean) true)
    (value_at es (codes "user"))) _ second in
    let third = and_second (is_key_formed (entry_key (codes "user") (is_text_with is_clean) true)
    (value_at es (codes "user"))) _ second in
    let groups = and_first (is_key_formed (entry_key (codes "groups") (is_list_with is_clean) false)
    (value_at es (codes "groups"))) _ third in
    both _ _
    (clean_user_by (value_at es (codes "user")) [] (formed_user (value_at es (codes "user")) user) refl)
    (clean_groups_by (value_at es (codes "groups"))
    (formed_groups (value_at es (codes "groups")) groups))

clean_tokens : (items : List YamlTree)
    → list_all (λ item. is_formed_map token_form.keys (entries_in item)) items ≡ true
    → list_all (λ t. is_clean_caller t.caller) (map manifest_token items) ≡ true
clean_tokens [] h = refl
clean_tokens (item ∷ items) h =
    both _ _
    (token_by (entries_in item)
    (and_first (is_formed_map token_form.keys (entries_in item)) _ h))
    (clean_tokens items (and_second (is_formed_map token_form.keys (entries_in item)) _ h))

clean_tokens_by : (o : Option (List YamlTree)) → are_formed token_form o ≡ true
    → list_all (λ t. is_clean_caller t.caller) (map manifest_token (unwrap_or o [])) ≡ true
clean_tokens_by None h = absurd (grind (arith, h))
clean_tokens_by (Some items) h = clean_tokens items h

formed_tokens : (value : YamlTree) → flaws_under manifest_keys (codes "tokens", value) ≡ []
    → are_formed token_form (items_in value) ≡ true
formed_tokens value none =
    holds _ _ (none_in_front _ _ (none_behind (unknown_keys token_form value) _ none))

clean_under_tokens : (o : Option YamlTree)
    → ((value : YamlTree) → o ≡ Some value → are_formed token_form (items_in value) ≡ true)
    → list_all (λ t. is_clean_caller t.caller) (map manifest_token (items_by o)) ≡ true
clean_under_tokens None h = refl
clean_under_tokens (Some value) h = clean_tokens_by (items_in value) (h value refl)

tokens_are_clean : (entries : List Entry) → AreFlawless entries
    → list_all (λ t. is_clean_caller t.caller) (manifest_in entries).tokens ≡ true
tokens_are_clean entries none =
    clean_under_tokens (value_at entries (codes "tokens"))
    (λ value there. formed_tokens value (under entries (codes "tokens") value there none))

-- ---- the manifest

abbrev IsClean : Manifest → Type 0
IsClean m = (is_clean_caller m.owner && list_all (λ t. is_clean_caller t.caller) m.tokens) ≡ true

clean_entries : (entries : List Entry) → AreFlawless entries
    → IsClean (manifest_in entries)
clean_entries entries none =
    both _ _ (owner_is_clean entries none) (tokens_are_clean entries none)

pub callers_are_clean : CallersAreClean
callers_are_clean = of_each_read IsClean clean_entries
