-- Items of a list: what is left at a place, what a filter keeps, what a search finds.
use Rattle.std.proofs.Common.{◌≡◌, ◌∙◌, ◌<◌, ◌≤◌, ℕ, zero, suc, ◌+◌, List, [], ◌∷◌, ◌++◌, length, map, filter, find, get_or, drop, Bool, true, false, cond, ◌||◌, Some, slice_get, unwrap_or, ap, sym, refl, arith, append_assoc, ◌⊎◌, inl, inr}
use Rattle.std.specs.List.{list_any}
use Rattle.std.proofs.lemmas.List.{drop_more, drop-map, at_drop_all}

-- ---- what is left of a list

-- it begins with the item at the index
pub drop_item : {A : Type 0} (xs : List A) (i : ℕ) (x : A) → i < length xs → x ≡ get_or xs i x
    → drop i xs ≡ x ∷ drop (i + 1) xs
drop_item xs i x below is =
    drop_more xs i x below ∙ ap (λ y. y ∷ drop (i + 1) xs) (sym is)

-- so it does as it is seen
pub item_at : {A B : Type 0} (view : A → B) (xs : List A) (i : ℕ) (x : A) → i < length xs
    → x ≡ get_or xs i x → drop i (map view xs) ≡ view x ∷ drop (i + 1) (map view xs)
item_at view xs i x below is = drop-map view i xs ∙ ap (map view) (drop_item xs i x below is)
    ∙ ap (λ ys. view x ∷ ys) (sym (drop-map view (i + 1) xs))

-- nothing is left at its end
pub nothing_left : {A : Type 0} (xs : List A) (i : ℕ) → length xs ≤ i → drop i xs ≡ []
nothing_left xs i past = at_drop_all (λ ys. ys) xs i past

-- what was made, and what the rest gives, are the whole
pub made_more : {C : Type 0} (made more now rest rest' whole : List C) → more ≡ made ++ now
    → rest ≡ now ++ rest' → made ++ rest ≡ whole → more ++ rest' ≡ whole
made_more made more now rest rest' whole g h same =
    ap (λ l. l ++ rest') g ∙ append_assoc made now rest' ∙ ap (λ r. made ++ r) (sym h) ∙ same

-- ---- places, searches and filters

pub some_is : {A : Type 0} (x y : A) → Some x ≡ Some y → x ≡ y
some_is x y h = ap (λ o. unwrap_or o x) h

pub get_append : {A : Type 0} (xs ys : List A) (k : ℕ) (x : A) → slice_get (xs ++ ys) k ≡ Some x
    → (slice_get xs k ≡ Some x) ⊎ ((j : ℕ) × (slice_get ys j ≡ Some x))
get_append [] ys k x h = inr (k, h)
get_append (z ∷ xs) ys zero x h = inl h
get_append (z ∷ xs) ys (suc k) x h = get_append xs ys k x h

find_by : {A : Type 0} (p : A → Bool) (b : Bool) (x : A) (xs : List A) (y : A) → p x ≡ b
    → (find p xs ≡ Some y → (j : ℕ) × (slice_get xs j ≡ Some y) × (p y ≡ true))
    → cond b (Some x) (find p xs) ≡ Some y
    → (j : ℕ) × (slice_get (x ∷ xs) j ≡ Some y) × (p y ≡ true)
find_by p true x xs y is f h = (0, h, ap (λ o. p (unwrap_or o x)) (sym h) ∙ is)
find_by p false x xs y is f h = let g = f h in (suc g.0, g.1, g.2)

-- what is found stands there and passes
pub find_gives : {A : Type 0} (p : A → Bool) (xs : List A) (y : A) → find p xs ≡ Some y
    → (j : ℕ) × (slice_get xs j ≡ Some y) × (p y ≡ true)
find_gives p [] y h = absurd (grind (arith, h))
find_gives p (x ∷ xs) y h = find_by p (p x) x xs y refl (find_gives p xs y) h

from_filter_by : {A : Type 0} (p : A → Bool) (b : Bool) (x : A) (xs ys : List A)
    → ((k : ℕ) (y : A) → slice_get ys k ≡ Some y → (j : ℕ) × (slice_get xs j ≡ Some y))
    → (k : ℕ) (y : A) → slice_get (cond b (x ∷ ys) ys) k ≡ Some y
    → (j : ℕ) × (slice_get (x ∷ xs) j ≡ Some y)
from_filter_by p true x xs ys f zero y h = (0, h)
from_filter_by p true x xs ys f (suc k) y h = let g = f k y h in (suc g.0, g.1)
from_filter_by p false x xs ys f k y h = let g = f k y h in (suc g.0, g.1)

-- what a filter keeps stood in the list and passes
pub from_filter : {A : Type 0} (p : A → Bool) (xs : List A) (k : ℕ) (y : A)
    → slice_get (filter p xs) k ≡ Some y → (j : ℕ) × (slice_get xs j ≡ Some y)
from_filter p [] k y h = absurd (grind (arith, h))
from_filter p (x ∷ xs) k y h = from_filter_by p (p x) x xs (filter p xs) (from_filter p xs) k y h

passes_by : {A : Type 0} (p : A → Bool) (b : Bool) (x : A) (ys : List A) → p x ≡ b
    → ((k : ℕ) (y : A) → slice_get ys k ≡ Some y → p y ≡ true)
    → (k : ℕ) (y : A) → slice_get (cond b (x ∷ ys) ys) k ≡ Some y → p y ≡ true
passes_by p true x ys is f zero y h = ap (λ o. p (unwrap_or o x)) (sym h) ∙ is
passes_by p true x ys is f (suc k) y h = f k y h
passes_by p false x ys is f k y h = f k y h

pub filter_passes : {A : Type 0} (p : A → Bool) (xs : List A) (k : ℕ) (y : A)
    → slice_get (filter p xs) k ≡ Some y → p y ≡ true
filter_passes p [] k y h = absurd (grind (arith, h))
filter_passes p (x ∷ xs) k y h = passes_by p (p x) x (filter p xs) refl (filter_passes p xs) k y h

or_kept : (a b c : Bool) → (b ≡ true → c ≡ true) → (a || b) ≡ true → (a || c) ≡ true
or_kept true b c f h = refl
or_kept false b c f h = f h

pub any_kept : {A : Type 0} (p : A → Bool) (hs ms : List A) → list_any p hs ≡ true
    → list_any p (hs ++ ms) ≡ true
any_kept p [] ms h = absurd (grind (arith, h))
any_kept p (x ∷ hs) ms h =
    or_kept (p x) (list_any p hs) (list_any p (hs ++ ms)) (any_kept p hs ms) h

-- one of what they look like passes where one of them does
pub list_any-map : {A B : Type 0} (p : B → Bool) (f : A → B) (xs : List A)
    → list_any p (map f xs) ≡ list_any (λ x. p (f x)) xs
list_any-map p f [] = refl
list_any-map p f (x ∷ xs) = ap (λ b. p (f x) || b) (list_any-map p f xs)

kept_most : (b : Bool) {A : Type 0} (x : A) (xs kept : List A) → length kept ≤ length xs
    → length (cond b (x ∷ kept) kept) ≤ suc (length xs)
kept_most true x xs kept h = omega (arith, h)
kept_most false x xs kept h = omega (arith, h)

-- a filter keeps no more than there was
pub filter_most : {A : Type 0} (p : A → Bool) (xs : List A) → length (filter p xs) ≤ length xs
filter_most p [] = omega arith
filter_most p (x ∷ xs) = kept_most (p x) x xs (filter p xs) (filter_most p xs)
