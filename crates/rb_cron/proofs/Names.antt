-- Which name of a list a text is, name by name.
use Rattle.std.proofs.Common.{◌≡◌, ℕ, suc, ◌+◌, ◌<◌, ◌≤◌, List, length, map, drop, get_or, Option, Some, None, if◌then◌else◌, Bor, arith, ap, sym, ◌∙◌}
use Rattle.std.specs.Char.{to_ascii_lowercase}
use Rattle.std.proofs.lemmas.List.{drop_more, drop_all}
use Rattle.rb_causes.proofs.Texts.{same_text, other_text}
use Rattle.rb_cron.specs.Fields.{value_named, same_letters}

abbrev now_of : Bor (List ℕ) → List ℕ
now_of name = name.now

one_more : (names : List (Bor (List ℕ))) (text : List ℕ) (i place : ℕ) (d : Bor (List ℕ)) → i < length names
    → value_named place (map (λ name. name.now) (drop i names)) text
    ≡ (if same_letters (get_or names i d).now text then Some place else value_named (suc place) (map (λ name. name.now) (drop (i + 1) names)) text)
one_more names text i place d below = ap (λ rest. value_named place (map now_of rest) text) (drop_more names i d below)

pub found_name : (names : List (Bor (List ℕ))) (text : List ℕ) (i place : ℕ) (d : Bor (List ℕ)) (all : Option ℕ) → i < length names
    → map to_ascii_lowercase (get_or names i d).now ≡ map to_ascii_lowercase text
    → value_named place (map (λ name. name.now) (drop i names)) text ≡ all → Some place ≡ all
found_name names text i place d all below same inv =
    sym (one_more names text i place d below ∙ ap (λ b. if b then Some place else value_named (suc place) (map now_of (drop (i + 1) names)) text) (same_text _ _ same)) ∙ inv

pub other_name : (names : List (Bor (List ℕ))) (text : List ℕ) (i place : ℕ) (d : Bor (List ℕ)) (all : Option ℕ) → i < length names
    → (map to_ascii_lowercase (get_or names i d).now ≡ map to_ascii_lowercase text → ⊥)
    → value_named place (map (λ name. name.now) (drop i names)) text ≡ all → value_named (place + 1) (map (λ name. name.now) (drop (i + 1) names)) text ≡ all
other_name names text i place d all below differs inv =
    ap (λ k. value_named k (map now_of (drop (i + 1) names)) text) (omega arith)
    ∙ sym (one_more names text i place d below ∙ ap (λ b. if b then Some place else value_named (suc place) (map now_of (drop (i + 1) names)) text) (other_text _ _ differs)) ∙ inv

pub no_name : (names : List (Bor (List ℕ))) (text : List ℕ) (i place : ℕ) (all : Option ℕ) → length names ≤ i
    → value_named place (map (λ name. name.now) (drop i names)) text ≡ all → None ≡ all
no_name names text i place all past inv = ap (λ rest. value_named place (map now_of rest) text) (sym (drop_all i names past)) ∙ inv
