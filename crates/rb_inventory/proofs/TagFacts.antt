-- The tags of a list, and where the tags of a node stand.
use Rattle.std.proofs.Common.{◌≡◌, ℕ, false, not, cond, ◌&&◌, List, [], ◌∷◌, ◌++◌, map, Some, None, is_some, unwrap_or, ap, sym, ◌∙◌}
use Rattle.std.specs.List.{list_all, filter}
use Rattle.std.proofs.lemmas.List.Elements.{filter-append}
use Rattle.rb_causes.specs.Texts.{is_empty, trimmed}
use Rattle.rb_yaml.specs.Tree.{YamlTree}
use Rattle.rb_values.specs.Values.{text_in, is_text, scalar_or_empty}
use Rattle.rb_inventory.specs.Tags.{filled, listed_tags}

-- an item that is no text
pub not_listed : (v : YamlTree) (left rest all : List YamlTree) → left ≡ v ∷ rest → text_in v ≡ None → list_all is_text left ≡ list_all is_text all → None ≡ listed_tags all
not_listed v left rest all is none same =
    let some : list_all is_text all ≡ false = sym same ∙ ap (list_all is_text) is ∙ ap (λ o. is_some o && list_all is_text rest) none in
    sym (ap (λ b. cond b (Some (filled (map scalar_or_empty all))) None) some)

-- an item that is a text
pub text_passed : (v : YamlTree) (text : List ℕ) (left rest all : List YamlTree) → left ≡ v ∷ rest → text_in v ≡ Some text → list_all is_text left ≡ list_all is_text all → list_all is_text rest ≡ list_all is_text all
text_passed v text left rest all is some same =
    sym (ap (λ o. is_some o && list_all is_text rest) some) ∙ sym (ap (list_all is_text) is) ∙ same

pub tags_split : (v : YamlTree) (text : List ℕ) (left rest : List YamlTree) → left ≡ v ∷ rest → text_in v ≡ Some text →
    filled (map scalar_or_empty left) ≡ filter (λ t. not (is_empty t)) (trimmed text ∷ []) ++ filled (map scalar_or_empty rest)
tags_split v text left rest is some =
    ap (λ vs. filled (map scalar_or_empty vs)) is
    ∙ ap (λ o. filled (unwrap_or o [] ∷ map scalar_or_empty rest)) some
    ∙ filter-append (λ t. not (is_empty t)) (trimmed text ∷ []) (map trimmed (map scalar_or_empty rest))
