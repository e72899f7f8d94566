-- What each decision means for the rules that stand in the policies.
use Rattle.std.proofs.Common.{◌≡◌, Bool, Option, Some, None, refl, sym, subst, ◌∙◌}
use Rattle.std.specs.List.{find}
use Rattle.std.specs.Option.{option_map}
use Rattle.rb_acl.specs.Deciding.{Placed, first_place, clauses, denies, allows, decided}
use Rattle.rb_acl.specs.Naming.{NamesRule}
use Rattle.rb_acl.specs.Laws.{IsEarlier, IsFirstClause, PassesNone, DenialIsFirst, AllowanceIsFirst, NoneIsExact}
use Rattle.rb_acl.specs.declared.policy.Policies.{Policies}
use Rattle.rb_acl.specs.declared.policy.Clause.{Clause}
use Rattle.rb_acl.specs.declared.policy.Decision.TheVariants.{Allowed, Denied, NoneAllows}
use Rattle.rb_acl.proofs.Members.{found_in, none_in, none_from, first_in}
use Rattle.rb_acl.proofs.Standing.{stands, has, sorted_docs}

abbrev places : Option Placed → Option Clause
places = option_map (λ c. c.place)

denied_by : (a b : Option Placed) (place : Clause) → decided (places a) (places b) ≡ Denied place
    → (c : Placed) × (a ≡ Some c) × (c.place ≡ place)
denied_by (Some x) b place e = (x, refl, cc)
denied_by None (Some y) place e = let never : ⊥ = cc in absurd never
denied_by None None place e = let never : ⊥ = cc in absurd never

allowed_by : (a b : Option Placed) (place : Clause) → decided (places a) (places b) ≡ Allowed place
    → (c : Placed) × (a ≡ None) × (b ≡ Some c) × (c.place ≡ place)
allowed_by (Some x) b place e = let never : ⊥ = cc in absurd never
allowed_by None (Some y) place e = (y, refl, refl, cc)
allowed_by None None place e = let never : ⊥ = cc in absurd never

none_by : (a b : Option Placed) → decided (places a) (places b) ≡ NoneAllows → (a ≡ None)
    × (b ≡ None)
none_by (Some x) b e = let never : ⊥ = cc in absurd never
none_by None (Some y) e = let never : ⊥ = cc in absurd never
none_by None None e = (refl, refl)

none_so : (a b : Option Placed) → a ≡ None → b ≡ None → decided (places a) (places b) ≡ NoneAllows
none_so a b e f = rw (e, f)

pub is_first : (policies : Policies) (p : Placed → Bool) (c : Placed) (place : Clause)
    → find p (clauses policies) ≡ Some c → c.place ≡ place → IsFirstClause policies p place
is_first policies p c place e same =
    let r = found_in p (clauses policies) c e in (
      c,
      same,
      stands policies c r.0,
      r.1,
      λ b s earlier.
          first_in p (clauses policies) c b (sorted_docs 0 policies.docs) e (has policies b s)
          (subst (λ w. IsEarlier b.place w) (sym same) earlier),
    )

pub passes_none : (policies : Policies) (p : Placed → Bool) → find p (clauses policies) ≡ None
    → PassesNone policies p
passes_none policies p e c s = none_in p (clauses policies) c e (has policies c s)

find_none : (policies : Policies) (p : Placed → Bool) → PassesNone policies p
    → find p (clauses policies) ≡ None
find_none policies p h = none_from p (clauses policies) (λ c m. h c (stands policies c m))

pub denial : DenialIsFirst
denial policies question place e =
    let p = denies question in
    let q = allows question in
    let h = denied_by (find p (clauses policies)) (find q (clauses policies)) place e in
    is_first policies p h.0 place h.1 h.2

pub allowance : AllowanceIsFirst
allowance policies question place e =
    let p = denies question in
    let q = allows question in
    let h = allowed_by (find p (clauses policies)) (find q (clauses policies)) place e in
    (is_first policies q h.0 place h.2 h.3, passes_none policies p h.1)

pub none : NoneIsExact
none policies question =
    let p = denies question in
    let q = allows question in (
      λ e. let h = none_by (find p (clauses policies)) (find q (clauses policies)) e in
          (passes_none policies p h.0, passes_none policies q h.1),
      λ h. none_so (find p (clauses policies)) (find q (clauses policies))
          (find_none policies p h.0) (find_none policies q h.1),
    )

-- what is found is a rule of the policies
named_by : (policies : Policies) (p : Placed → Bool) (found : Option Placed) (place : Clause)
    → find p (clauses policies) ≡ found → Some place ≡ places found → NamesRule policies place
named_by policies p (Some c) place is e =
    let r = found_in p (clauses policies) c is in
    let same : c.place ≡ place = cc in (c, same, stands policies c r.0)
named_by policies p None place e is = let never : ⊥ = cc in absurd never

pub names_rule : (policies : Policies) (p : Placed → Bool) (r : Option Clause) (place : Clause)
    → r ≡ Some place → r ≡ first_place p (clauses policies) → NamesRule policies place
names_rule policies p r place some is =
    named_by policies p (find p (clauses policies)) place refl (sym some ∙ is)
