-- The parts of a text, and how a text is parted.
use Rattle.std.proofs.Common.{◌≡◌, ◌≢◌, ◌≤◌, ◌<◌, ℕ, ◌+◌, ◌-◌, zero, suc, true, false, nat_eq, List, [], ◌∷◌, ◌++◌, length, take, drop, refl, sym, ap, subst, ◌∙◌, append_assoc, inl, inr, arith, length-append}
use Rattle.std.specs.List.{starts_with}
use Rattle.std.proofs.lemmas.Bool.{cases_Bool}
use Rattle.std.proofs.lemmas.List.{take-append-drop}
use Rattle.std.proofs.lemmas.Slice.Eq.{bytes_eq-Decides}
use Rattle.std.proofs.Math.Seq.{take-append_seam}
use Rattle.std.specs.Str.Pattern.{FindsText, SplitsAroundMatch}
use Rattle.rb_option.specs.Parting.{parts_behind, LacksAt, PartedAt, whole, part, PartsAreParted}

-- the delimiter stands at the front exactly where something follows it there
stands : (text delimiter : List ℕ) → starts_with nat_eq text delimiter ≡ true → text ≡ delimiter ++ drop (length delimiter) text
stands text delimiter e =
    let same : delimiter ≡ take (length delimiter) text = (bytes_eq-Decides delimiter (take (length delimiter) text)).0 e in
    sym (take-append-drop (length delimiter) text) ∙ ap (λ t. t ++ drop (length delimiter) text) (sym same)

lacks : (text delimiter : List ℕ) → LacksAt delimiter text zero → starts_with nat_eq text delimiter ≡ false
lacks text delimiter h =
    elim (cases_Bool (starts_with nat_eq text delimiter)) [
      | inl s ↦ absurd (h (drop (length delimiter) text) (stands text delimiter s))
      | inr d ↦ d
    ]

is_there : (delimiter rest : List ℕ) → starts_with nat_eq (delimiter ++ rest) delimiter ≡ true
is_there delimiter rest = (bytes_eq-Decides delimiter (take (length delimiter) (delimiter ++ rest))).1 (sym (take-append_seam delimiter rest))

-- ---- where it stands nowhere

lacks_on : (delimiter : List ℕ) (b : ℕ) (bs : List ℕ) → ((place : ℕ) → place ≤ length (b ∷ bs) → LacksAt delimiter (b ∷ bs) place) →
    (place : ℕ) → place ≤ length bs → LacksAt delimiter bs place
lacks_on delimiter b bs h place le = h (suc place) (omega (arith, le))

one_part : (delimiter text : List ℕ) → ((place : ℕ) → place ≤ length text → LacksAt delimiter text place) → parts_behind delimiter zero text ≡ text ∷ []
one_part delimiter [] h = refl
one_part delimiter (b ∷ bs) h =
    rw (lacks (b ∷ bs) delimiter (h zero (omega arith)), one_part delimiter bs (lacks_on delimiter b bs h)) refl

-- ---- where it stands first

passed : (delimiter xs rest : List ℕ) → parts_behind delimiter (length xs) (xs ++ rest) ≡ parts_behind delimiter zero rest
passed delimiter [] rest = refl
passed delimiter (x ∷ xs) rest = passed delimiter xs rest

less_one : (n : ℕ) → suc n - 1 ≡ n
less_one n = omega arith

delimiter_first : (d : ℕ) (ds rest : List ℕ) → parts_behind (d ∷ ds) zero ((d ∷ ds) ++ rest) ≡ [] ∷ parts_behind (d ∷ ds) zero rest
delimiter_first d ds rest =
    rw (is_there (d ∷ ds) rest, less_one (length ds)) (ap (λ ps. [] ∷ ps) (passed (d ∷ ds) ds rest))

front_on : (delimiter : List ℕ) (b : ℕ) (bs front : List ℕ) → ((place : ℕ) → place < length (b ∷ front) → LacksAt delimiter (b ∷ bs) place) →
    (place : ℕ) → place < length front → LacksAt delimiter bs place
front_on delimiter b bs front h place lt = h (suc place) (omega (arith, lt))

first_part : (d : ℕ) (ds front back : List ℕ) → ((place : ℕ) → place < length front → LacksAt (d ∷ ds) (front ++ (d ∷ ds) ++ back) place) →
    parts_behind (d ∷ ds) zero (front ++ (d ∷ ds) ++ back) ≡ front ∷ parts_behind (d ∷ ds) zero back
first_part d ds [] back h = delimiter_first d ds back
first_part d ds (b ∷ bs) back h =
    rw (
      lacks (b ∷ (bs ++ (d ∷ ds) ++ back)) (d ∷ ds) (h zero (omega arith)),
      first_part d ds bs back (front_on (d ∷ ds) b (bs ++ (d ∷ ds) ++ back) bs h),
    ) refl

-- ---- there is one way to part a text

one_way : (d : ℕ) (ds text : List ℕ) (parts : List (List ℕ)) → PartedAt (d ∷ ds) text parts → parts_behind (d ∷ ds) zero text ≡ parts
one_way d ds text _ (whole h) = one_part (d ∷ ds) text h
one_way d ds text _ (part {parts = parts} front back is first more) =
    ap (parts_behind (d ∷ ds) zero) is
    ∙ first_part d ds front back (subst (λ t. (place : ℕ) → place < length front → LacksAt (d ∷ ds) t place) is first)
    ∙ ap (λ ps. front ∷ ps) (one_way d ds back parts more)

pub parts_are_parted : PartsAreParted
parts_are_parted [] text parts some h = absurd (some refl)
parts_are_parted (d ∷ ds) text parts some h = one_way d ds text parts h

-- ---- what a search for the delimiter finds

pub found_part : (delimiter text front back : List ℕ) → SplitsAroundMatch (FindsText delimiter) text front back →
    (text ≡ front ++ delimiter ++ back) × ((place : ℕ) → place < length front → LacksAt delimiter text place)
found_part delimiter text front back (i, j, found, front_is, back_is, order, front_len, back_len) = (
  sym (take-append-drop i text) ∙ ap (λ t. t ++ drop i text) (sym front_is)
      ∙ ap (λ t. front ++ t) (found.1.split ∙ ap (λ t. delimiter ++ t) (sym back_is))
      ∙ sym (append_assoc front delimiter back),
  λ place lt. found.0 place (omega (arith, lt, front_len)),
)

pub behind_shorter : (delimiter text front back : List ℕ) → delimiter ≢ [] → SplitsAroundMatch (FindsText delimiter) text front back → length back < length text
behind_shorter [] text front back some h = absurd (some refl)
behind_shorter (d ∷ ds) text front back some h =
    let is = (found_part (d ∷ ds) text front back h).0 in
    let size : length text ≡ length (front ++ (d ∷ ds)) + length back = ap length is ∙ length-append (front ++ (d ∷ ds)) back in
    omega (arith, size, length-append front (d ∷ ds))
