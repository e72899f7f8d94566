use Rattle.std.proofs.Common.{◌≡◌, ◌<◌, ℕ, ◌+◌, length, get_or, drop, ap, sym, ◌∙◌, subst, add-zero, List, rules, arith}
use Rattle.std.proofs.lemmas.List.{get_or-drop}
use Rattle.rb_yaml.proofs.Texts.{colon_in_text, cut_before_colon}
use Rattle.rb_yaml.proofs.KeyFacts.{key_parts, colon_behind}
use Rattle.rb_yaml.proofs.keys.plain_key_part.Goals as goal

pub overflow_add-at : goal.overflow_add-at
overflow_add-at c =
    let same = c.as_bytes.ensures.value in
    let found = colon_behind c.as_bytes.result.now c.args.text.now c.in-Some.at same c.in-Some.ensures in
    let place = colon_in_text c.args.text.now c.in-Some.at found in
    let le : c.in-Some.at + 1 < length c.as_bytes.result.now = omega (arith, place.0, ap length same) in
    search (rules, le)

pub split_at-requires : goal.split_at-requires
split_at-requires c =
    let found = colon_behind c.as_bytes.result.now c.args.text.now c.in-Some.at c.as_bytes.ensures.value c.in-Some.ensures in
    let place = colon_in_text c.args.text.now c.in-Some.at found in
    cut_before_colon c.args.text.now (c.in-Some.at + 1) place.0 place.1

pub behind_first-requires : goal.behind_first-requires
behind_first-requires c =
    let found = colon_behind c.as_bytes.result.now c.args.text.now c.in-Some.at c.as_bytes.ensures.value c.in-Some.ensures in
    let place = colon_in_text c.args.text.now c.in-Some.at found in
    let first : get_or (drop (c.in-Some.at + 1) c.args.text.now) 0 0 ≡ 58 =
    get_or-drop (c.in-Some.at + 1) c.args.text.now 0 0 ∙ ap (λ n. get_or c.args.text.now n 0) (add-zero (c.in-Some.at + 1)) ∙ place.1 in
    subst (λ (xs : List ℕ). get_or xs 0 0 < 128) (sym c.split_at.ensures.back) (omega (arith, first))

pub returns-in_ok-key-in-Some : goal.returns-in_ok-key-in-Some
returns-in_ok-key-in-Some c =
    let found = colon_behind c.as_bytes.result.now c.args.text.now c.in-Some.at c.as_bytes.ensures.value c.in-Some.ensures in
    key_parts c.args.text.now c.split_at.result.0.now c.split_at.result.1.now c.behind_first.result.now c.in_ok-key-in-Some.key c.in-Some.at found
    c.split_at.ensures.front c.split_at.ensures.back c.behind_first.ensures c.in_ok-key-in-Some.ensures
