-- A tally where the unit at one place stands otherwise.
use Rattle.std.proofs.Common.{◌≡◌, ℕ, ◌+◌, ◌*◌, ◌<◌, Bool, cond, List, length, get_or, set, take, drop, count_by, length-set, set-set, mul_comm, arith, ap, sym, ◌∙◌}
use Rattle.std.proofs.lemmas.List.{set-get_or, get_or_default}
use Rattle.std.proofs.lemmas.Nat.{mul-add-lt}
use Rattle.rb_flow.specs.Tally.{works_from, group_of, groups_of}
use Rattle.rb_flow.specs.declared.unit_state.UnitState.{UnitState}
use Rattle.rb_flow.specs.declared.group_state.GroupState.{GroupState}
use Rattle.rb_flow.proofs.TallyCounts.{count_set}
use Rattle.rb_flow.proofs.TallyWorks.{works_length}
use Rattle.rb_flow.proofs.TallyGroups.{group_units, groups_read, groups_set, units_set}

-- with the old unit at the place again, all is as it was
pub as_before : (xs ys : List UnitState) (i : ℕ) (y old : UnitState) → ys ≡ set xs i y
    → old ≡ get_or xs i old → set ys i old ≡ xs
as_before xs ys i y old e was =
    ap (λ zs. set zs i old) e ∙ set-set xs i y old ∙ ap (set xs i) was ∙ set-get_or xs i old

pub same_unit : (xs : List UnitState) (i : ℕ) (y old : UnitState) → i < length xs
    → old ≡ get_or xs i old → (get_or xs i y).unit ≡ y.unit → old.unit ≡ y.unit
same_unit xs i y old h was same =
    ap (λ s. s.unit) (was ∙ get_or_default xs i old y h) ∙ same

pub works_are : (xs zs : List UnitState) (nodes : ℕ) (works : List ℕ)
    → works ≡ works_from xs 0 nodes → zs ≡ xs → works ≡ works_from zs 0 (length works)
works_are xs zs nodes works e same =
    e ∙ ap (works_from xs 0) (sym (ap length e ∙ works_length xs 0 nodes))
    ∙ ap (λ vs. works_from vs 0 (length works)) (sym same)

pub works_many : (xs : List UnitState) (nodes : ℕ) (works : List ℕ)
    → works ≡ works_from xs 0 nodes → length works ≡ nodes
works_many xs nodes works e = ap length e ∙ works_length xs 0 nodes

-- one count
pub count_put : (f : UnitState → Bool) (xs : List UnitState) (i : ℕ) (y old : UnitState) (n m : ℕ)
    (was is : Bool) → i < length xs → old ≡ get_or xs i old → n ≡ count_by f xs
    → was ≡ f old → is ≡ f y → m + cond was 1 0 ≡ n + cond is 1 0 → m ≡ count_by f (set xs i y)
count_put f xs i y old n m was is h e c before after k =
    count_set f xs i y old n m c h
    (ap {B = ℕ} (λ b. m + cond b 1 0) (sym (before ∙ ap f e)) ∙ k
    ∙ ap {B = ℕ} (λ b. n + cond b 1 0) after)

-- the group's units, with the old one at its place again
pub group_before : (nodes g k place width : ℕ) (xs ys : List UnitState) (old : UnitState)
    (groups : List GroupState) (group : GroupState) → place ≡ g * nodes + k → k < nodes
    → set ys place old ≡ xs → width ≡ nodes → groups ≡ groups_of nodes (length groups) xs
    → g < length groups → group ≡ get_or groups g group
    → group ≡ group_of (set (take width (drop (g * nodes) ys)) k old)
group_before nodes g k place width xs ys old groups group at less same wide are within read =
    read ∙ ap (λ gs. get_or gs g group) are ∙ groups_read nodes (length groups) xs g group within
    ∙ ap (λ zs. group_of (group_units nodes g zs)) (sym same)
    ∙ ap group_of (units_set nodes g k place ys old at less)
    ∙ ap (λ n. group_of (set (take n (drop (g * nodes) ys)) k old)) (sym wide)

-- all groups, with the group's new record
pub groups_put : (nodes g k place width : ℕ) (xs ys : List UnitState) (y : UnitState)
    (groups : List GroupState) (group : GroupState) → place ≡ g * nodes + k → k < nodes
    → ys ≡ set xs place y → width ≡ nodes → groups ≡ groups_of nodes (length groups) xs
    → g < length groups → group ≡ group_of (take width (drop (g * nodes) ys))
    → set groups g group ≡ groups_of nodes (length (set groups g group)) (set xs place y)
groups_put nodes g k place width xs ys y groups group at less are wide was within is =
    let now : group ≡ group_of (group_units nodes g (set xs place y)) =
    is ∙ ap (λ n. group_of (take n (drop (g * nodes) ys))) wide
    ∙ ap (λ zs. group_of (group_units nodes g zs)) are in
    ap (λ gs. set gs g group) was ∙ ap (set (groups_of nodes (length groups) xs) g) now
    ∙ sym (groups_set nodes (length groups) xs g k place y at less within)
    ∙ ap (λ n. groups_of nodes n (set xs place y)) (sym (length-set groups g group))

pub place_within : (g k nodes groups many : ℕ) → g < groups → k < nodes
    → many ≡ groups * nodes → g * nodes + k < many
place_within g k nodes groups many h less e =
    omega (arith, mul-add-lt g nodes k groups h less, mul_comm groups nodes, e)
