-- Tests of numbers, and what a chain of tests says of each.
use Rattle.std.proofs.Common.{◌≡◌, ℕ, Bool, true, false, not, nat_lt, nat_le, arith}
use Rattle.std.proofs.lemmas.Bool.Decides.{nat_tests}

pub lt_flip : (a b : ℕ) (t : Bool) → nat_lt a b ≡ t → nat_le b a ≡ not t
lt_flip a b true h = grind (arith, nat_tests)
lt_flip a b false h = grind (arith, nat_tests)
