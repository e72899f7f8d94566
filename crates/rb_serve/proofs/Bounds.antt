-- The words of a server are within the bounds of a desk.
use Rattle.std.proofs.Common.{◌≡◌, ◌≤◌, ◌&&◌, ℕ, Bool, true, false, List, [], ◌∷◌, ◌∙◌, Option, Some, None, bytes_eq, codes, nat_le, length, unwrap_or, ap, sym, subst, refl, arith, if◌then◌else◌}
use Rattle.std.proofs.lemmas.Bool.{and_parts, leb-true}
use Rattle.rb_causes.specs.Numbers.{decimal_of}
use Rattle.rb_session_top.specs.Words.{store_file}
use Rattle.rb_serve.specs.Serving.{AreEnough}
use Rattle.rb_serve.specs.Words.{CrewWords, crew_by, crew_words, crew_words_of, is_form, workers_of}

pub record IsBounded (c : CrewWords) : Type 0 where
  pub doors : (1 ≤ length c.addresses) × (length c.addresses ≤ 16)
  pub workers : (1 ≤ c.workers) × (c.workers ≤ 64)

crew_is : (a b : CrewWords) → Some a ≡ Some b → a ≡ b
crew_is a b h = ap (λ o. unwrap_or o a) h

-- the numbers are there
abbrev Counts : List (List ℕ) → CrewWords → Type 0
Counts addresses c = (c.addresses ≡ addresses) × (1 ≤ c.workers) × (c.workers ≤ 64)

by_workers : (manifest : List ℕ) (store : Option (List ℕ)) (addresses : List (List ℕ)) (n : ℕ)
    (few : Bool) (callers : Option ℕ) (c : CrewWords) → (nat_le 1 n && nat_le n 64) ≡ few
    → crew_by manifest store addresses (if few then Some n else None) callers ≡ Some c
    → Counts addresses c
by_workers manifest store addresses n false callers c is h = absurd (grind (arith, h))
by_workers manifest store addresses n true None c is h = absurd (grind (arith, h))
by_workers manifest store addresses n true (Some k) c is h =
    let parts = and_parts (nat_le 1 n) (nat_le n 64) is in
    subst (Counts addresses) (crew_is (crew_words_of manifest store n k addresses) c h)
    (refl, leb-true 1 n parts.0, leb-true n 64 parts.1)

by_numbers : (manifest : List ℕ) (store : Option (List ℕ)) (addresses : List (List ℕ))
    (workers callers : Option ℕ) (c : CrewWords)
    → crew_by manifest store addresses (workers_of workers) callers ≡ Some c
    → Counts addresses c
by_numbers manifest store addresses None callers c h = absurd (grind (arith, h))
by_numbers manifest store addresses (Some n) callers c h =
    by_workers manifest store addresses n (nat_le 1 n && nat_le n 64) callers c refl h

by_form : (form : List ℕ) (count : ℕ) (b : Bool) (o : Option CrewWords) (c : CrewWords)
    → is_form form count ≡ b → (if b then o else None) ≡ Some c
    → ((1 ≤ count) × (count ≤ 16)) × (o ≡ Some c)
by_form form count false o c is h = absurd (grind (arith, h))
by_form form count true o c is h =
    let parts = and_parts (bytes_eq form (codes "serve") && nat_le 1 count) (nat_le count 16) is in
    let first = and_parts (bytes_eq form (codes "serve")) (nat_le 1 count) parts.0 in
    ((leb-true 1 count first.1, leb-true count 16 parts.1), h)

pub crew_bounded : (words : List (List ℕ)) (c : CrewWords) → crew_words words ≡ Some c
    → IsBounded c
crew_bounded [] c h = absurd (grind (arith, h))
crew_bounded (form ∷ []) c h = absurd (grind (arith, h))
crew_bounded (form ∷ manifest ∷ []) c h = absurd (grind (arith, h))
crew_bounded (form ∷ manifest ∷ store ∷ []) c h = absurd (grind (arith, h))
crew_bounded (form ∷ manifest ∷ store ∷ workers ∷ []) c h = absurd (grind (arith, h))
crew_bounded (form ∷ manifest ∷ store ∷ workers ∷ callers ∷ addresses) c h =
    let first = by_form form (length addresses) (is_form form (length addresses))
    (crew_by manifest (store_file store) addresses (workers_of (decimal_of workers))
    (decimal_of callers)) c refl h in
    let rest = by_numbers manifest (store_file store) addresses (decimal_of workers)
    (decimal_of callers) c first.1 in
    record {
      doors = subst (λ (l : List (List ℕ)). (1 ≤ length l) × (length l ≤ 16)) (sym rest.0) first.0;
      workers = (rest.1, rest.2);
    }

pub enough_is : {L S : Type 0} (o : Option CrewWords) (c : CrewWords) (lines : List L)
    (spawners : List S) → o ≡ Some c → AreEnough o lines spawners
    → (length lines ≡ length c.addresses) × (length spawners ≡ c.workers)
enough_is o c lines spawners is h =
    subst (λ (p : Option CrewWords). AreEnough p lines spawners) is h

-- so many lines and spawners as a desk takes
pub enough_bounded : {L S : Type 0} (words : List (List ℕ)) (c : CrewWords) (lines : List L)
    (spawners : List S) → crew_words words ≡ Some c → AreEnough (crew_words words) lines spawners
    → ((1 ≤ length lines) × (length lines ≤ 16))
    × ((1 ≤ length spawners) × (length spawners ≤ 64))
enough_bounded words c lines spawners is h =
    let bounded = crew_bounded words c is in
    let enough = enough_is (crew_words words) c lines spawners is h in (
      subst (λ n. (1 ≤ n) × (n ≤ 16)) (sym enough.0) bounded.doors,
      subst (λ n. (1 ≤ n) × (n ≤ 64)) (sym enough.1) bounded.workers,
    )

pub is_crew : (words : List (List ℕ)) (c : CrewWords) → crew_words words ≡ Some c
    → crew_words words ≡ None → ⊥
is_crew words c is none = let never : None ≡ Some c = sym none ∙ is in grind (arith, never)
