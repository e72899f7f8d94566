use Rattle.std.proofs.Common.{◌≡◌, drop}
use Rattle.std.specs.List.{list_all}
use Rattle.rb_option.specs.Settled.{is_part_allowed}
use Rattle.rb_option.proofs.checking.are_allowed.Given as goal

-- what holds of the parts that are left holds of all
abbrev pub invariant-loop-part : goal.invariant-loop-part
invariant-loop-part l = list_all (is_part_allowed l.option) (drop l.part-index l.parts) ≡ list_all (is_part_allowed l.option) l.parts
