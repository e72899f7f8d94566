-- How many policies stand before a file and behind it.
use Rattle.std.proofs.Common.{◌≤◌, ◌+◌, ℕ, suc, List, [], ◌∷◌, Bool, true, false, cond, filter, length, arith}
use Rattle.std.specs.Ordering.{nat_cmp, is_gt, is_lt}
use Rattle.std.specs.Cmp.Lexicographic.{slice_cmp}
use Rattle.std.specs.declared.cmp.Ordering.{Ordering}
use Rattle.std.specs.declared.cmp.Ordering.TheVariants.{Less, Equal, Greater}
use Rattle.rb_acl.specs.declared.policy.Policy.{Policy}
use Rattle.rb_changes.specs.PolicyFiles.{is_of_earlier_file, is_behind}

-- no more than there are
filter_by : (b : Bool) (x : Policy) (xs : List Policy) (n : ℕ) → length xs ≤ n
    → length (cond b (x ∷ xs) xs) ≤ suc n
filter_by true x xs n h = omega (arith, h)
filter_by false x xs n h = omega (arith, h)

pub filter_few : (p : Policy → Bool) (xs : List Policy) → length (filter p xs) ≤ length xs
filter_few p [] = omega arith
filter_few p (x ∷ xs) = filter_by (p x) x (filter p xs) (length xs) (filter_few p xs)

-- one policy is not both before the file and behind it
one_of : (o : Ordering) (x : Policy) (xs ys : List Policy) (n : ℕ) → length xs + length ys ≤ n
    → length (cond (is_gt o) (x ∷ xs) xs) + length (cond (is_lt o) (x ∷ ys) ys) ≤ suc n
one_of Less x xs ys n h = omega (arith, h)
one_of Equal x xs ys n h = omega (arith, h)
one_of Greater x xs ys n h = omega (arith, h)

pub parted_few : (file : List ℕ) (xs : List Policy)
    → length (filter (is_of_earlier_file file) xs) + length (filter (is_behind file) xs) ≤ length xs
parted_few file [] = omega arith
parted_few file (x ∷ xs) =
    one_of (slice_cmp nat_cmp file x.file) x (filter (is_of_earlier_file file) xs)
    (filter (is_behind file) xs) (length xs) (parted_few file xs)
