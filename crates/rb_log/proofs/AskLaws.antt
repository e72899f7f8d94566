-- The ask of a run comes out of a row as it went in.
use Rattle.std.proofs.Common.{◌≡◌, ◌∙◌, ◌≤◌, ◌<◌, ◌^◌, ℕ, List, [], ◌∷◌, Option, Some, None, option_map, codes, append-nil, ap, sym, refl, arith}
use Rattle.std.specs.Option.{option_and_then}
use Rattle.json.specs.Token.{Token}
use Rattle.json.specs.Json as plain
use Rattle.json.specs.Tree.{json_tokens, depth, items_depth, HasNumbers, ItemsHaveNumbers}
use Rattle.json.proofs.Printed.Decimals.{IsNumber-decimal}
use Rattle.json.proofs.Printed.Tokens.{tokens-print}
use Rattle.json.proofs.Printed.Trees.{value-json_tokens, ArePrintable-json_tokens}
use Rattle.serde_json.specs.Data as json
use Rattle.serde_json.specs.Read.{read as read_text, of_json, of_items, max_depth}
use Rattle.serde_json.specs.Written.{outline, items_outline, compact_text}
use Rattle.serde_json.proofs.Numbers.{number_of-decimal}
use Rattle.serde_json.proofs.Texts.{print-outline}
use Rattle.rb_causes.specs.declared.items.Prop.{Prop}
use Rattle.rb_plan.specs.declared.world.RunAsk.{RunAsk}
use Rattle.rb_log.specs.Asks.{pair_data, given_items, text_or_null, instant_or_null, ask_data, ask_text, json_text, json_instant, given_in, ask_with, ask_in, ask_of}
use Rattle.rb_log.specs.Laws.{AskIsKept, DueAskIsKept}

-- ---- what was written is read

given_numbers : (ps : List Prop) → ItemsHaveNumbers (items_outline (given_items ps))
given_numbers [] = tt
given_numbers (p ∷ ps) = ((tt, (tt, tt)), given_numbers ps)

given_depth : (ps : List Prop) → items_depth (items_outline (given_items ps)) ≤ 1
given_depth [] = omega arith
given_depth (p ∷ ps) = let h = given_depth ps in omega (arith, h)

given_json : (ps : List Prop) → of_items (items_outline (given_items ps)) ≡ Some (given_items ps)
given_json [] = refl
given_json (p ∷ ps) = ap (option_map (json.item (pair_data p))) (given_json ps)

given_back : (ps : List Prop) → given_in (given_items ps) ≡ Some ps
given_back [] = refl
given_back (p ∷ ps) = ap (option_map (λ qs. p ∷ qs)) (given_back ps)

-- the instant is one that a number holds
abbrev pub IsHeldInstant : Option ℕ → Type 0
IsHeldInstant None = Unit {0}
IsHeldInstant (Some n) = n < 2 ^ 64

-- the value of an ask with this instant and this filter
abbrev data_with : List Prop → Option ℕ → Option (List ℕ) → json.Data
data_with given due filter =
    json.object (json.member (codes "due") (instant_or_null due)
    (json.member (codes "filter") (text_or_null filter)
    (json.member (codes "given") (json.array (given_items given)) json.no_members)))

instant_number : (due : Option ℕ) → IsHeldInstant due → HasNumbers (outline (instant_or_null due))
instant_number None h = tt
instant_number (Some n) h = IsNumber-decimal n h

text_number : (filter : Option (List ℕ)) → HasNumbers (outline (text_or_null filter))
text_number None = tt
text_number (Some text) = tt

numbers : (given : List Prop) (due : Option ℕ) (filter : Option (List ℕ)) → IsHeldInstant due
    → HasNumbers (outline (data_with given due filter))
numbers given due filter h =
    (instant_number due h, (text_number filter, (given_numbers given, tt)))

instant_depth : (due : Option ℕ) → depth (outline (instant_or_null due)) ≡ 0
instant_depth None = refl
instant_depth (Some n) = refl

text_depth : (filter : Option (List ℕ)) → depth (outline (text_or_null filter)) ≡ 0
text_depth None = refl
text_depth (Some text) = refl

shallow : (given : List Prop) (due : Option ℕ) (filter : Option (List ℕ))
    → depth (outline (data_with given due filter)) ≤ max_depth
shallow given due filter =
    omega (arith, given_depth given, instant_depth due, text_depth filter)

instant_json : (due : Option ℕ) → IsHeldInstant due
    → of_json (outline (instant_or_null due)) ≡ Some (instant_or_null due)
instant_json None h = refl
instant_json (Some n) h = ap (option_map json.number) (number_of-decimal n h)

text_json : (filter : Option (List ℕ))
    → of_json (outline (text_or_null filter)) ≡ Some (text_or_null filter)
text_json None = refl
text_json (Some text) = refl

-- the members of an ask, read one after another
abbrev members_by : Option json.Data → Option json.Data → Option json.Items
    → Option json.Data
members_by due filter given =
    option_map json.object
    (option_and_then (λ d.
    option_and_then (λ f.
    option_and_then (λ e. Some (json.put (codes "given") e (json.put (codes "filter") f
    (json.put (codes "due") d json.no_members)))) (option_map json.array given)) filter) due)

read_json : (given : List Prop) (due : Option ℕ) (filter : Option (List ℕ)) → IsHeldInstant due
    → of_json (outline (data_with given due filter)) ≡ Some (data_with given due filter)
read_json given due filter h =
    ap (λ d. members_by d (of_json (outline (text_or_null filter)))
    (of_items (items_outline (given_items given)))) (instant_json due h)
    ∙ ap (λ f. members_by (Some (instant_or_null due)) f
    (of_items (items_outline (given_items given)))) (text_json filter)
    ∙ ap (members_by (Some (instant_or_null due)) (Some (text_or_null filter)))
    (given_json given)

-- the value of some tokens, if nothing follows
abbrev value_of : Option (plain.Json × List Token) → Option json.Data
value_of parsed = option_and_then of_json (option_and_then (λ p. plain.if_last p.0 p.1) parsed)

read_back : (d : json.Data) → HasNumbers (outline d) → depth (outline d) ≤ max_depth
    → of_json (outline d) ≡ Some d → read_text (compact_text d) ≡ Some d
read_back d has low is =
    ap read_text (sym (print-outline d))
    ∙ ap (λ ts. value_of (plain.value max_depth ts))
    (tokens-print (json_tokens (outline d)) (ArePrintable-json_tokens (outline d) has)
    ∙ sym (append-nil (json_tokens (outline d))))
    ∙ ap value_of (value-json_tokens (outline d) max_depth [] low)
    ∙ is

-- ---- and is the ask

instant_back : (due : Option ℕ) → json_instant (instant_or_null due) ≡ Some due
instant_back None = refl
instant_back (Some n) = refl

text_back : (filter : Option (List ℕ)) → json_text (text_or_null filter) ≡ Some filter
text_back None = refl
text_back (Some text) = refl

pub kept_ask : (ask : RunAsk) (due : Option ℕ) → IsHeldInstant due
    → ask_of ask.job (ask_text ask due) ≡ Some (ask, due)
kept_ask ask due h =
    ap (ask_in ask.job)
    (read_back (ask_data ask due) (numbers ask.given due ask.filter h)
    (shallow ask.given due ask.filter) (read_json ask.given due ask.filter h))
    ∙ ap (λ d. ask_with ask.job d (json_text (text_or_null ask.filter))
    (given_in (given_items ask.given))) (instant_back due)
    ∙ ap (λ f. ask_with ask.job (Some due) f (given_in (given_items ask.given)))
    (text_back ask.filter)
    ∙ ap (ask_with ask.job (Some due) (Some ask.filter)) (given_back ask.given)

pub ask_is_kept : AskIsKept
ask_is_kept ask = kept_ask ask None tt

pub due_ask_is_kept : DueAskIsKept
due_ask_is_kept ask n h = kept_ask ask (Some n) h
