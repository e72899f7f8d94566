-- By what a verdict decides many questions of one type.
use Rattle.std.specs.Prelude.{ℕ, List}
use Rattle.rb_acl.specs.Indexing.{RuleIndex, IsIndexOf}
use Rattle.rb_plan.specs.Access.{Access}

-- an index of the policies for who asks, where it is asked and this type of resources
abbrev pub IsIndexFor : Access → List ℕ → RuleIndex → Type 0
IsIndexFor access type_name index =
    IsIndexOf access.policies access.caller access.here type_name index
