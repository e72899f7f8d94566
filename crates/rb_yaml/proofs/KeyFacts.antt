-- Plain keys, by the place of their colon.
use Rattle.std.proofs.Common.{◌≡◌, ℕ, suc, ◌+◌, ◌-◌, length, List, take, drop, Some, option_map, false, Result, ap, sym, ◌∙◌, add-one, arith}
use Rattle.std.proofs.lemmas.List.{drop-drop, take_rest}
use Rattle.rb_yaml.specs.declared.flaw.Flaw.{Flaw}
use Rattle.rb_yaml.specs.Signs.{colon_at}
use Rattle.rb_yaml.specs.Keys.{KeyPart, plain_key, plain_key_part}

pub key_parts : (text front rest behind : List ℕ) (key : Result (List ℕ) Flaw) (at : ℕ) → colon_at false (drop 1 text) ≡ Some at →
    front ≡ take (at + 1) text → rest ≡ drop (at + 1) text → behind ≡ drop 1 rest → key ≡ plain_key front → Some (record { key = key; behind = behind }) ≡ plain_key_part text
key_parts text front rest behind key at found is_front is_rest is_behind is_key =
    let made = λ (k : Result (List ℕ) Flaw) (b : List ℕ). let part : KeyPart = record { key = k; behind = b } in Some part in
    let behind_is : behind ≡ drop (at + 2) text = is_behind ∙ ap (drop 1) is_rest ∙ drop-drop 1 (at + 1) text ∙ ap (λ n. drop n text) (omega arith) in
    let key_is : key ≡ plain_key (take (suc at) text) = is_key ∙ ap plain_key is_front ∙ ap (λ n. plain_key (take n text)) (add-one at) in
    ap (λ k. made k behind) key_is ∙ ap (made (plain_key (take (suc at) text))) behind_is
    ∙ sym (ap (option_map (λ n. let part : KeyPart = record { key = plain_key (take (suc n) text); behind = drop (n + 2) text } in part)) found)

-- the colon that was found in the bytes behind the first
pub colon_behind : (bytes text : List ℕ) (at : ℕ) → bytes ≡ text → Some at ≡ colon_at false (take (length bytes - 1) (drop 1 bytes)) → colon_at false (drop 1 text) ≡ Some at
colon_behind bytes text at same found = sym (found ∙ ap (colon_at false) (take_rest bytes 1 ∙ ap (drop 1) same))
