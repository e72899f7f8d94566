-- The policies of one file among those of all, in byte order of the files' names.
use Rattle.std.specs.Prelude.{ℕ, Bool, List, ◌++◌, filter}
use Rattle.std.specs.Ordering.{nat_cmp, is_gt, is_lt}
use Rattle.std.specs.Cmp.Lexicographic.{slice_cmp}
use Rattle.rb_acl.specs.declared.policy.Policy.{Policy}

-- the policy is of a file before this one
abbrev pub is_of_earlier_file : List ℕ → Policy → Bool
is_of_earlier_file file policy = is_gt (slice_cmp nat_cmp file policy.file)

-- the policy is of a file behind this one
abbrev pub is_behind : List ℕ → Policy → Bool
is_behind file policy = is_lt (slice_cmp nat_cmp file policy.file)

-- these policies of a file in place of those that there are of it
abbrev pub with_file : List ℕ → List Policy → List Policy → List Policy
with_file file new docs =
    filter (is_of_earlier_file file) docs ++ (new ++ filter (is_behind file) docs)
