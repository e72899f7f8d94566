-- Where places are sorted by text, those under one text stand together.
use Rattle.std.proofs.Common.{◌≡◌, ℕ, ◌+◌, ◌-◌, ◌<◌, ◌≤◌, zero, suc, ◌⊎◌, inl, inr, Bool, true, false, cond, bytes_eq, is_lt, List, [], ◌∷◌, length, get_or, take, drop, map, refl, sym, ap, ◌∙◌, arith, nat_cmp}
use Rattle.std.specs.Ordering.{is_le, is_eq, ordering_index}
use Rattle.std.specs.declared.cmp.Ordering.{Ordering}
use Rattle.std.specs.declared.cmp.Ordering.TheVariants.{Less, Equal, Greater}
use Rattle.std.specs.Cmp.Lexicographic.{slice_cmp}
use Rattle.std.specs.List.{AllWithin}
use Rattle.std.specs.List.Sorted.{IsPartitionedBy}
use Rattle.std.proofs.lemmas.Cmp.{nat_list_cmp_total, same_from_slice_cmp}
use Rattle.std.proofs.lemmas.Bool.Decides.{nat_tests}
use Rattle.std.proofs.lemmas.List.Sorted.{searchable_from_sorted}
use Rattle.rb_acl.specs.Indexing.{IsByText, places_at}
use Rattle.rb_acl.specs.declared.policy.Clause.{Clause}
use Rattle.rb_acl.specs.declared.keyed.Keyed.{Keyed}

-- the text comes before the other, or does not come after it
abbrev pub is_below : List ℕ → Keyed → Bool
is_below text k = is_lt (slice_cmp nat_cmp k.text text)

abbrev pub is_upto : List ℕ → Keyed → Bool
is_upto text k = is_le (slice_cmp nat_cmp k.text text)

lt_down : (a b : Ordering) → ordering_index a ≤ ordering_index b → is_lt b ≡ true → is_lt a ≡ true
lt_down Less b h e = refl
lt_down Equal Less h e = let never : ⊥ = omega (arith, h) in absurd never
lt_down Equal Equal h e = e
lt_down Equal Greater h e = e
lt_down Greater Less h e = let never : ⊥ = omega (arith, h) in absurd never
lt_down Greater Equal h e = e
lt_down Greater Greater h e = e

le_down : (a b : Ordering) → ordering_index a ≤ ordering_index b → is_le b ≡ true → is_le a ≡ true
le_down Less b h e = refl
le_down Equal b h e = refl
le_down Greater Less h e = let never : ⊥ = omega (arith, h) in absurd never
le_down Greater Equal h e = let never : ⊥ = omega (arith, h) in absurd never
le_down Greater Greater h e = e

pub parted_below : (text : List ℕ) (ks : List Keyed) → IsByText ks
    → IsPartitionedBy (is_below text) ks
parted_below text ks up i j d le l h =
    lt_down _ _ (searchable_from_sorted nat_list_cmp_total (λ k. k.text) ks text up i j d le l) h

pub parted_upto : (text : List ℕ) (ks : List Keyed) → IsByText ks → IsPartitionedBy (is_upto text) ks
parted_upto text ks up i j d le l h =
    le_down _ _ (searchable_from_sorted nat_list_cmp_total (λ k. k.text) ks text up i j d le l) h

-- equal texts compare as equal
equal_texts : (xs ys : List ℕ) → is_eq (slice_cmp nat_cmp xs ys) ≡ bytes_eq xs ys
equal_texts xs ys =
    same_from_slice_cmp nat_cmp is_eq bytes_eq refl (λ y ys. refl) (λ x xs. refl)
    (λ x y xs ys o h. grind (arith, nat_tests)) xs ys _ refl

other_below : (o : Ordering) → is_lt o ≡ true → is_eq o ≡ false
other_below Less e = refl
other_below Equal e = let never : ⊥ = cc in absurd never
other_below Greater e = refl

other_above : (o : Ordering) → is_le o ≡ false → is_eq o ≡ false
other_above Less e = refl
other_above Equal e = let never : ⊥ = cc in absurd never
other_above Greater e = refl

same_between : (o : Ordering) → is_lt o ≡ false → is_le o ≡ true → is_eq o ≡ true
same_between Less e f = let never : ⊥ = cc in absurd never
same_between Equal e f = refl
same_between Greater e f = let never : ⊥ = cc in absurd never

never_both : (o : Ordering) → is_lt o ≡ true → is_le o ≡ false → ⊥
never_both Less e f = let never : ⊥ = cc in never
never_both Equal e f = let never : ⊥ = cc in never
never_both Greater e f = let never : ⊥ = cc in never

in_order : (m n : ℕ) → (m ≤ n) ⊎ (n < m)
in_order zero n = inl (omega arith)
in_order (suc m) zero = inr (omega arith)
in_order (suc m) (suc n) =
    elim (in_order m n) [ inl h ↦ inl (omega (arith, h)) | inr h ↦ inr (omega (arith, h)) ]

-- the first that is not below does not come behind the first that is above
pub first_behind : (text : List ℕ) (ks : List Keyed) (a b : ℕ) → a ≤ length ks
    → AllWithin (λ k. is_below text k ≡ true) ks 0 a
    → AllWithin (λ k. is_upto text k ≡ false) ks b (length ks) → a ≤ b
first_behind text ks a b l below above =
    let d : Keyed =
    record { text = []; place = record { doc = 0; type_index = 0; rule = 0 } } in
    elim (in_order a b) [
      | inl h ↦ h
      | inr h ↦ absurd (never_both (slice_cmp nat_cmp (get_or ks b d).text text)
          (below b d (omega arith) h) (above b d (omega arith) (omega (arith, l, h))))
    ]

abbrev place_of : Keyed → Clause
place_of k = k.place

skipped : (b : Bool) (k : Keyed) (more : List Clause) → b ≡ false → cond b (k.place ∷ more) more
    ≡ more
skipped true k more e = let never : ⊥ = cc in absurd never
skipped false k more e = refl

kept : (b : Bool) (k : Keyed) (more : List Clause) → b ≡ true → cond b (k.place ∷ more) more
    ≡ k.place ∷ more
kept true k more e = refl
kept false k more e = let never : ⊥ = cc in absurd never

-- the n places from a on, which alone are under the text
part_is : (text : List ℕ) (ks : List Keyed) (a n b : ℕ) → b ≡ a + n → b ≤ length ks
    → AllWithin (λ k. bytes_eq k.text text ≡ false) ks 0 a
    → AllWithin (λ k. bytes_eq k.text text ≡ true) ks a b
    → AllWithin (λ k. bytes_eq k.text text ≡ false) ks b (length ks)
    → map place_of (take n (drop a ks)) ≡ places_at text ks
part_is text [] zero zero b e l before at behind = refl
part_is text [] zero (suc n) b e l before at behind =
    let never : ⊥ = omega (arith, e, l) in absurd never
part_is text [] (suc a) n b e l before at behind =
    let never : ⊥ = omega (arith, e, l) in absurd never
part_is text (k ∷ ks) zero zero b e l before at behind =
    part_is text ks 0 0 0 (omega arith) (omega arith)
    (λ i d low high. absurd (let never : ⊥ = omega (arith, high) in never))
    (λ i d low high. absurd (let never : ⊥ = omega (arith, high) in never))
    (λ i d low high. behind (suc i) d (omega (arith, e)) (omega (arith, high)))
    ∙ sym (skipped (bytes_eq k.text text) k (places_at text ks)
    (behind 0 k (omega (arith, e)) (omega arith)))
part_is text (k ∷ ks) zero (suc n) b e l before at behind =
    ap (λ more. k.place ∷ more)
    (part_is text ks 0 n n (omega arith) (omega (arith, e, l))
    (λ i d low high. absurd (let never : ⊥ = omega (arith, high) in never))
    (λ i d low high. at (suc i) d (omega arith) (omega (arith, e, high)))
    (λ i d low high. behind (suc i) d (omega (arith, e, low)) (omega (arith, high))))
    ∙ sym (kept (bytes_eq k.text text) k (places_at text ks)
    (at 0 k (omega arith) (omega (arith, e))))
part_is text (k ∷ ks) (suc a) n b e l before at behind =
    part_is text ks a n (a + n) refl (omega (arith, e, l))
    (λ i d low high. before (suc i) d (omega arith) (omega (arith, high)))
    (λ i d low high. at (suc i) d (omega (arith, low)) (omega (arith, e, high)))
    (λ i d low high. behind (suc i) d (omega (arith, e, low)) (omega (arith, high)))
    ∙ sym (skipped (bytes_eq k.text text) k (places_at text ks)
    (before 0 k (omega arith) (omega arith)))

pub part_under : (text : List ℕ) (ks : List Keyed) (a b : ℕ) → a ≤ length ks → b ≤ length ks
    → AllWithin (λ k. is_below text k ≡ true) ks 0 a
    → AllWithin (λ k. is_below text k ≡ false) ks a (length ks)
    → AllWithin (λ k. is_upto text k ≡ true) ks 0 b
    → AllWithin (λ k. is_upto text k ≡ false) ks b (length ks)
    → map place_of (take (b - a) (drop a ks)) ≡ places_at text ks
part_under text ks a b la lb below not_below upto above =
    let le : a ≤ b = first_behind text ks a b la below above in
    part_is text ks a (b - a) b (omega (arith, le)) lb
    (λ i d low high.
    sym (equal_texts (get_or ks i d).text text) ∙ other_below _ (below i d low high))
    (λ i d low high.
    sym (equal_texts (get_or ks i d).text text)
    ∙ same_between _ (not_below i d low (omega (arith, high, lb)))
    (upto i d (omega arith) high))
    (λ i d low high.
    sym (equal_texts (get_or ks i d).text text) ∙ other_above _ (above i d low high))
