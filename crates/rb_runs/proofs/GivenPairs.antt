-- The pairs that a value holds, as they are read.
use Rattle.std.proofs.Common.{◌≡◌, ◌≢◌, ◌∙◌, ◌≤◌, ◌<◌, ◌++◌, ℕ, suc, List, [], ◌∷◌, length, drop, Option, Some, None, option_map, unwrap_or, get_or, append_assoc, ap, sym, refl, arith}
use Rattle.std.specs.Option.{option_and_then}
use Rattle.std.proofs.lemmas.Option.{slice_get_read}
use Rattle.serde_json.specs.Data.{Data, Items, null, boolean, number, string, array, object, no_items, item}
use Rattle.serde_json.specs.Find.{as_array}
use Rattle.serde_json.specs.View.{items_view, view}
use Rattle.serde_json.specs.declared.value.Value.{Value}
use Rattle.rb_causes.specs.declared.items.Prop.{Prop}
use Rattle.rb_causes.proofs.Lists.{nothing_left}
use Rattle.rb_log.specs.Asks.{given_in, pair_in}
use Rattle.rb_tables.proofs.Starts.{drop_at}
use Rattle.rb_runs.specs.Naming.{given_of}

-- ---- no pair

one_none : (d : Data) → pair_in (array (item d no_items)) ≡ None
one_none null = refl
one_none (boolean b) = refl
one_none (number n) = refl
one_none (string s) = refl
one_none (array ds) = refl
one_none (object ms) = refl

more_none : (d e f : Data) (ds : Items) → pair_in (array (item d (item e (item f ds)))) ≡ None
more_none null e f ds = refl
more_none (boolean b) e f ds = refl
more_none (number n) e f ds = refl
more_none (array xs) e f ds = refl
more_none (object ms) e f ds = refl
more_none (string s) null f ds = refl
more_none (string s) (boolean b) f ds = refl
more_none (string s) (number n) f ds = refl
more_none (string s) (string t) f ds = refl
more_none (string s) (array xs) f ds = refl
more_none (string s) (object ms) f ds = refl

by_length : (vs : List Value) → length vs ≢ 2 → pair_in (array (items_view vs)) ≡ None
by_length [] h = refl
by_length (v ∷ []) h = one_none (view v)
by_length (v ∷ w ∷ []) h = absurd (h refl)
by_length (v ∷ w ∷ x ∷ vs) h = more_none (view v) (view w) (view x) (items_view vs)

pub no_pair : (d : Data) (vs : List Value) → Some (items_view vs) ≡ as_array d → length vs ≢ 2
    → None ≡ pair_in d
no_pair null vs h k = absurd (grind (arith, h))
no_pair (boolean b) vs h k = absurd (grind (arith, h))
no_pair (number n) vs h k = absurd (grind (arith, h))
no_pair (string s) vs h k = absurd (grind (arith, h))
no_pair (array ds) vs h k =
    sym (by_length vs k) ∙ ap (λ o. pair_in (array (unwrap_or o no_items))) h
no_pair (object ms) vs h k = absurd (grind (arith, h))

-- ---- the pairs of an array

pub given_as : (d : Data) (vs : List Value) → Some (items_view vs) ≡ as_array d
    → given_in (items_view vs) ≡ given_of d
given_as null vs h = absurd (grind (arith, h))
given_as (boolean b) vs h = absurd (grind (arith, h))
given_as (number n) vs h = absurd (grind (arith, h))
given_as (string s) vs h = absurd (grind (arith, h))
given_as (array ds) vs h = ap (λ o. given_in (unwrap_or o no_items)) h
given_as (object ms) vs h = absurd (grind (arith, h))

-- some pairs in front of those that are left
abbrev pub behind : List Prop → Option (List Prop) → Option (List Prop)
behind ps o = option_map (λ qs. ps ++ qs) o

pub behind_none : (o : Option (List Prop)) → o ≡ behind [] o
behind_none None = refl
behind_none (Some ps) = refl

behind_one : (ps : List Prop) (p : Prop) (o : Option (List Prop))
    → behind ps (option_map (λ qs. p ∷ qs) o) ≡ behind (ps ++ p ∷ []) o
behind_one ps p None = refl
behind_one ps p (Some qs) = ap Some (sym (append_assoc ps (p ∷ []) qs))

left_at : (vs : List Value) (k : ℕ) (v : Value) → k < length vs → v ≡ get_or vs k v
    → given_in (items_view (drop k vs))
    ≡ option_and_then (λ p. option_map (λ qs. p ∷ qs) (given_in (items_view (drop (suc k) vs))))
    (pair_in (view v))
left_at vs k v low is =
    ap (λ ws. given_in (items_view ws))
    (drop_at vs k v (slice_get_read vs (length vs) k v refl low is))

-- one more pair
pub one_more : (all : Option (List Prop)) (ps : List Prop) (vs : List Value) (k : ℕ) (v : Value)
    (p : Prop) → k < length vs → v ≡ get_or vs k v
    → all ≡ behind ps (given_in (items_view (drop k vs))) → Some p ≡ pair_in (view v)
    → all ≡ behind (ps ++ p ∷ []) (given_in (items_view (drop (suc k) vs)))
one_more all ps vs k v p low is so pair =
    so
    ∙ ap (behind ps) (left_at vs k v low is
    ∙ ap (option_and_then (λ q. option_map (λ qs. q ∷ qs)
    (given_in (items_view (drop (suc k) vs))))) (sym pair))
    ∙ behind_one ps p (given_in (items_view (drop (suc k) vs)))

-- something else is no pair, and so nothing is given
pub none_given : (all : Option (List Prop)) (ps : List Prop) (vs : List Value) (k : ℕ) (v : Value)
    → k < length vs → v ≡ get_or vs k v
    → all ≡ behind ps (given_in (items_view (drop k vs))) → None ≡ pair_in (view v)
    → None ≡ all
none_given all ps vs k v low is so pair =
    sym (so
    ∙ ap (behind ps) (left_at vs k v low is
    ∙ ap (option_and_then (λ q. option_map (λ qs. q ∷ qs)
    (given_in (items_view (drop (suc k) vs))))) (sym pair)))

nothing_behind : (ps : List Prop) → ps ++ [] ≡ ps
nothing_behind [] = refl
nothing_behind (p ∷ ps) = ap (λ qs. p ∷ qs) (nothing_behind ps)

-- and all there are
pub all_given : (all : Option (List Prop)) (ps : List Prop) (vs : List Value) (k : ℕ)
    → length vs ≤ k → all ≡ behind ps (given_in (items_view (drop k vs))) → Some ps ≡ all
all_given all ps vs k high so =
    sym (so ∙ ap (λ ws. behind ps (given_in (items_view ws))) (nothing_left vs k high)
    ∙ ap Some (nothing_behind ps))
