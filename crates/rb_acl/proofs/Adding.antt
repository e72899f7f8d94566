-- Decisions without their places, and what an added policy or rule changes in them.
use Rattle.std.proofs.Common.{◌≡◌, ℕ, ◌+◌, Bool, true, false, cond, ◌&&◌, ◌||◌, Option, Some, None, is_some, List, [], ◌∷◌, ◌++◌, get_or, refl, sym, ap, ◌∙◌}
use Rattle.std.specs.List.{find, list_any}
use Rattle.std.specs.Option.{option_map}
use Rattle.std.proofs.lemmas.List.Folds.{list_any-append, list_any_none}
use Rattle.std.proofs.Math.Bool.{and-false}
use Rattle.rb_acl.specs.Applying.{Question, applies, decides, names_action}
use Rattle.rb_acl.specs.declared.effect.Effect.{Effect}
use Rattle.rb_acl.specs.declared.effect.Effect.TheVariants.{Deny, Allow}
use Rattle.rb_acl.specs.Deciding.{Placed, placed_rules, placed_types, placed_docs, clause_decides, first_place, decided}
use Rattle.rb_acl.specs.Laws.{IsDenied, IsAllowed, OnlyDenies, DenialStays, DenialStaysInType, DenyingAllowsNothing}
use Rattle.rb_acl.specs.declared.policy.Policy.{Policy}
use Rattle.rb_acl.specs.declared.policy.TypeRules.{TypeRules}
use Rattle.rb_acl.specs.declared.policy.Rule.{Rule}
use Rattle.rb_acl.specs.declared.policy.Clause.{Clause}

-- a rule under a type, of these types, of these documents decides so
abbrev any_rule : Effect → Question → Policy → TypeRules → Bool
any_rule effect question policy t = list_any (decides effect question policy t.name) t.rules

abbrev any_type : Effect → Question → Policy → Bool
any_type effect question policy = list_any (any_rule effect question policy) policy.types

abbrev any_doc : Effect → Question → List Policy → Bool
any_doc effect question docs = list_any (any_type effect question) docs

found_step : (b : Bool) (x : Placed) (more : Option Placed)
    → is_some (option_map (λ c. c.place) (cond b (Some x) more))
    ≡ (b || is_some (option_map (λ c. c.place) more))
found_step true x more = refl
found_step false x more = refl

is_found : (p : Placed → Bool) (cs : List Placed) → is_some (option_map (λ c. c.place) (find p cs))
    ≡ list_any p cs
is_found p [] = refl
is_found p (x ∷ xs) = found_step (p x) x (find p xs) ∙ ap (λ b. p x || b) (is_found p xs)

in_rules : (effect : Effect) (question : Question) (policy : Policy) (name : List ℕ)
    (doc kind n : ℕ) (rules : List Rule) →
    list_any (clause_decides effect question) (placed_rules policy name doc kind n rules)
    ≡ list_any (decides effect question policy name) rules
in_rules effect question policy name doc kind n [] = refl
in_rules effect question policy name doc kind n (rule ∷ rules) =
    ap (λ b. decides effect question policy name rule || b)
    (in_rules effect question policy name doc kind (n + 1) rules)

in_types : (effect : Effect) (question : Question) (policy : Policy) (doc n : ℕ)
    (ts : List TypeRules) →
    list_any (clause_decides effect question) (placed_types policy doc n ts)
    ≡ list_any (any_rule effect question policy) ts
in_types effect question policy doc n [] = refl
in_types effect question policy doc n (t ∷ ts) =
    list_any-append (clause_decides effect question) (placed_rules policy t.name doc n 0 t.rules)
    (placed_types policy doc (n + 1) ts)
    ∙ ap (λ b. b || list_any (clause_decides effect question) (placed_types policy doc (n + 1) ts))
    (in_rules effect question policy t.name doc n 0 t.rules)
    ∙ ap (λ b. any_rule effect question policy t || b)
    (in_types effect question policy doc (n + 1) ts)

in_docs : (effect : Effect) (question : Question) (n : ℕ) (docs : List Policy) →
    list_any (clause_decides effect question) (placed_docs n docs) ≡ any_doc effect question docs
in_docs effect question n [] = refl
in_docs effect question n (policy ∷ docs) =
    list_any-append (clause_decides effect question) (placed_types policy n 0 policy.types)
    (placed_docs (n + 1) docs)
    ∙ ap (λ b. b || list_any (clause_decides effect question) (placed_docs (n + 1) docs))
    (in_types effect question policy n 0 policy.types)
    ∙ ap (λ b. any_type effect question policy || b) (in_docs effect question (n + 1) docs)

-- a place is found exactly where a rule decides so
pub some_place : (effect : Effect) (question : Question) (docs : List Policy) →
    is_some (first_place (clause_decides effect question) (placed_docs 0 docs))
    ≡ any_doc effect question docs
some_place effect question docs =
    is_found (clause_decides effect question) (placed_docs 0 docs) ∙ in_docs effect question 0 docs

denied_some : (a b : Option Clause) → IsDenied (decided a b) → is_some a ≡ true
denied_some (Some x) b h = refl
denied_some None (Some y) h = absurd h
denied_some None None h = absurd h

some_denied : (a b : Option Clause) → is_some a ≡ true → IsDenied (decided a b)
some_denied (Some x) b e = tt
some_denied None b e = let never : ⊥ = cc in absurd never

allowed_some : (a b : Option Clause) → IsAllowed (decided a b) → (is_some a ≡ false)
    × (is_some b ≡ true)
allowed_some (Some x) b h = absurd h
allowed_some None (Some y) h = (refl, refl)
allowed_some None None h = absurd h

some_allowed : (a b : Option Clause) → is_some a ≡ false → is_some b ≡ true
    → IsAllowed (decided a b)
some_allowed (Some x) b e f = let never : ⊥ = cc in absurd never
some_allowed None (Some y) e f = tt
some_allowed None None e f = let never : ⊥ = cc in absurd never

-- one more in the middle
or_more : (a x b : Bool) → (a || b) ≡ true → (a || (x || b)) ≡ true
or_more true x b h = refl
or_more false true b h = refl
or_more false false b h = h

or_less : (a x b : Bool) → (a || (x || b)) ≡ false → (a || b) ≡ false
or_less true x b h = h
or_less false true b h = let never : ⊥ = cc in absurd never
or_less false false b h = h

or_without : (a x b : Bool) → x ≡ false → (a || (x || b)) ≡ true → (a || b) ≡ true
or_without true x b e h = refl
or_without false true b e h = let never : ⊥ = cc in absurd never
or_without false false b e h = h

-- or another one, which is true where the first was
or_other : (a x y b : Bool) → (x ≡ true → y ≡ true) → (a || (x || b)) ≡ true → (a || (y || b))
    ≡ true
or_other true x y b f h = refl
or_other false true y b f h = rw (f refl)
or_other false false true b f h = refl
or_other false false false b f h = h

any_split : {X : Type 0} (p : X → Bool) (front back : List X) (x : X)
    → list_any p (front ++ x ∷ back) ≡ (list_any p front || (p x || list_any p back))
any_split p front back x = list_any-append p front (x ∷ back)

pub denial_stays : DenialStays
denial_stays front back added question h =
    let p = any_type Deny question in
    let before = sym (some_place Deny question (front ++ back)) ∙ denied_some _ _ h in
    some_denied _ _
    (some_place Deny question (front ++ added ∷ back) ∙ any_split p front back added
    ∙ or_more (list_any p front) (p added) (list_any p back)
    (sym (list_any-append p front back) ∙ before))

pub denial_stays_in_type : DenialStaysInType
denial_stays_in_type front back policy earlier later t before after added question h =
    let with_rules : List Rule → TypeRules = λ rules. record t { rules = rules } in
    let with_type : List Rule → Policy =
    λ rules. record policy { types = earlier ++ with_rules rules ∷ later } in
    let p = any_type Deny question in
    let q = any_rule Deny question policy in
    let r = decides Deny question policy t.name in
    let rules_stay : list_any r (before ++ after) ≡ true → list_any r (before ++ added ∷ after)
    ≡ true =
    λ e. any_split r before after added
    ∙ or_more (list_any r before) (r added) (list_any r after)
    (sym (list_any-append r before after) ∙ e) in
    let types_stay : p (with_type (before ++ after)) ≡ true
    → p (with_type (before ++ added ∷ after)) ≡ true =
    λ e. any_split q earlier later (with_rules (before ++ added ∷ after))
    ∙ or_other (list_any q earlier) (q (with_rules (before ++ after)))
    (q (with_rules (before ++ added ∷ after))) (list_any q later) rules_stay
    (sym (any_split q earlier later (with_rules (before ++ after))) ∙ e) in
    some_denied _ _
    (some_place Deny question (front ++ with_type (before ++ added ∷ after) ∷ back)
    ∙ any_split p front back (with_type (before ++ added ∷ after))
    ∙ or_other (list_any p front) (p (with_type (before ++ after)))
    (p (with_type (before ++ added ∷ after))) (list_any p back) types_stay
    (sym (any_split p front back (with_type (before ++ after)))
    ∙ sym (some_place Deny question (front ++ with_type (before ++ after) ∷ back))
    ∙ denied_some _ _ h))

allows_nothing : (question : Question) (policy : Policy) (name : List ℕ) (rule : Rule) →
    rule.allow ≡ [] → decides Allow question policy name rule ≡ false
allows_nothing question policy name rule e =
    ap (λ xs. applies question policy name rule && names_action xs question.action) e
    ∙ and-false (applies question policy name rule)

only_denies : (question : Question) (policy : Policy) → OnlyDenies policy →
    any_type Allow question policy ≡ false
only_denies question policy only =
    list_any_none (any_rule Allow question policy) policy.types
    (λ k t below.
    list_any_none (decides Allow question policy (get_or policy.types k t).name)
    (get_or policy.types k t).rules
    (λ j rule within.
    allows_nothing question policy (get_or policy.types k t).name
    (get_or (get_or policy.types k t).rules j rule) (only k t below j rule within)))

pub denying_allows_nothing : DenyingAllowsNothing
denying_allows_nothing front back added question only h =
    let p = any_type Deny question in
    let q = any_type Allow question in
    let was = allowed_some _ _ h in
    some_allowed _ _
    (some_place Deny question (front ++ back) ∙ list_any-append p front back
    ∙ or_less (list_any p front) (p added) (list_any p back)
    (sym (any_split p front back added) ∙ sym (some_place Deny question (front ++ added ∷ back))
    ∙ was.0))
    (some_place Allow question (front ++ back) ∙ list_any-append q front back
    ∙ or_without (list_any q front) (q added) (list_any q back) (only_denies question added only)
    (sym (any_split q front back added) ∙ sym (some_place Allow question (front ++ added ∷ back))
    ∙ was.1))
