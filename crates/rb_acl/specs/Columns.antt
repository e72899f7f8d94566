-- What is found for many resources at once, one for each in their order.
use Rattle.std.specs.Prelude.{List, Bool, Option, map, zip}
use Rattle.rb_acl.specs.Deciding.{decided}
use Rattle.rb_acl.specs.Seeking.{earlier_clause}
use Rattle.rb_acl.specs.declared.policy.Clause.{Clause}
use Rattle.rb_acl.specs.declared.policy.Decision.{Decision}

-- the earlier of what is found and this place, where it is marked
abbrev pub earlier_of_each : Clause → List (Option Clause) → List Bool → List (Option Clause)
earlier_of_each place found marks =
    map (λ (first, mark). earlier_clause (λ place. mark) first place) (zip found marks)

-- the decision by the first that denies and the first that allows
abbrev pub decided_of_each : List (Option Clause) → List (Option Clause) → List Decision
decided_of_each denied allowed = map (λ (d, a). decided d a) (zip denied allowed)
