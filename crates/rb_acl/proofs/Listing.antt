-- What is found for many resources at once, as it is put together.
use Rattle.std.proofs.Common.{◌≡◌, ◌∙◌, ◌<◌, ◌+◌, ℕ, Bool, true, false, ◌&&◌, ◌||◌, Option, None, List, [], ◌∷◌, ◌++◌, length, map, take, get_or, ap, subst, sym, refl}
use Rattle.std.specs.List.{All, list_any}
use Rattle.std.proofs.lemmas.List.{take_more, map_more, get_or-map}
use Rattle.std.proofs.lemmas.List.Elements.{All-head, All-tail}
use Rattle.rb_text.proofs.Marking.{maps_alike}
use Rattle.rb_acl.specs.Applying.{question_of}
use Rattle.rb_acl.specs.Columns.{earlier_of_each, decided_of_each}
use Rattle.rb_acl.specs.Deciding.{clauses, first_place, denies, decided, decision_of}
use Rattle.rb_acl.specs.Indexing.{RuleIndex, IsIndexOf, keyed_for, told_for}
use Rattle.rb_acl.specs.Seeking.{place_decides, earlier_clause, earliest}
use Rattle.rb_acl.specs.declared.effect.Effect.TheVariants.{Deny, Allow}
use Rattle.rb_acl.specs.declared.policy.Policies.{Policies}
use Rattle.rb_acl.specs.declared.policy.Caller.{Caller}
use Rattle.rb_acl.specs.declared.policy.Context.{Context}
use Rattle.rb_acl.specs.declared.policy.Resource.{Resource}
use Rattle.rb_acl.specs.declared.policy.Clause.{Clause}
use Rattle.rb_acl.proofs.Deciders.{told_first, told_in_turn, earliest-append}

-- a rule that does not name the action answers for none
pub none_named : (named : Bool) (p : Resource → Bool) (rs : List Resource) → named ≡ false
    → map (λ r. false) rs ≡ map (λ r. named && p r) rs
none_named named p rs is = maps_alike _ _ (λ r. sym (ap (λ b. b && p r) is)) rs

or_false : (b : Bool) → (b || false) ≡ b
or_false true = refl
or_false false = refl

-- of lists of one text each, one holds where the text does
pub alone_holds : (q : List ℕ → Bool) (text_of : Resource → List ℕ) (rs : List Resource)
    → map (list_any q) (map (λ t. t ∷ []) (map text_of rs)) ≡ map (λ r. q (text_of r)) rs
alone_holds q text_of [] = refl
alone_holds q text_of (r ∷ rs) =
    ap (λ m. m ∷ map (list_any q) (map (λ t. t ∷ []) (map text_of rs))) (or_false (q (text_of r)))
    ∙ ap (λ ms. q (text_of r) ∷ ms) (alone_holds q text_of rs)

-- the earlier of what is found and one more place, for each
earlier_maps : (test : Resource → Clause → Bool) (place : Clause) (f : Resource → Option Clause)
    (rs : List Resource) → earlier_of_each place (map f rs) (map (λ r. test r place) rs)
    ≡ map (λ r. earlier_clause (test r) (f r) place) rs
earlier_maps test place f [] = refl
earlier_maps test place f (r ∷ rs) =
    ap (λ xs. earlier_clause (test r) (f r) place ∷ xs) (earlier_maps test place f rs)

-- one more place is looked at, for each
pub found_more : (test : Resource → Clause → Bool) (rs : List Resource) (places : List Clause)
    (i : ℕ) (place other : Clause) (found new : List (Option Clause)) (marks : List Bool)
    → i < length places → place ≡ get_or places i other
    → found ≡ map (λ r. earliest (test r) None (take i places)) rs
    → marks ≡ map (λ r. test r place) rs → new ≡ earlier_of_each place found marks
    → new ≡ map (λ r. earliest (test r) None (take (i + 1) places)) rs
found_more test rs places i place other found new marks below is so marked put =
    put ∙ ap (λ f. earlier_of_each place f marks) so
    ∙ ap (earlier_of_each place (map (λ r. earliest (test r) None (take i places)) rs)) marked
    ∙ earlier_maps test place (λ r. earliest (test r) None (take i places)) rs
    ∙ maps_alike _ _
    (λ r. sym (ap (earliest (test r) None)
    (take_more places i other below ∙ ap (λ p. take i places ++ p ∷ []) (sym is))
    ∙ earliest-append (test r) (take i places) (place ∷ []) None)) rs

-- what is decided of each of many resources of the index's type
pub told_each : (policies : Policies) (caller : Caller) (here : Context) (type_name : List ℕ)
    (action : List ℕ) (index : RuleIndex) → IsIndexOf policies caller here type_name index
    → (rs : List Resource) → All (λ r. r.type_name ≡ type_name) rs
    → decided_of_each
    (map (λ r. earliest (place_decides Deny policies r action) None (told_for index r)) rs)
    (map (λ r. earliest (place_decides Allow policies r action) None (told_for index r)) rs)
    ≡ map (λ r. decision_of policies (question_of caller here r action)) rs
told_each policies caller here type_name action index is [] all = refl
told_each policies caller here type_name action index is (r ∷ rs) all =
    let q = question_of caller here r action in
    let allowed = earliest (place_decides Allow policies r action) None (told_for index r) in
    let its : IsIndexOf policies caller here r.type_name index =
    subst (λ t. IsIndexOf policies caller here t index)
    (sym (All-head (λ r. r.type_name ≡ type_name) r rs all)) is in
    let rest = decided_of_each
    (map (λ r. earliest (place_decides Deny policies r action) None (told_for index r)) rs)
    (map (λ r. earliest (place_decides Allow policies r action) None (told_for index r)) rs) in
    ap (λ d. d ∷ rest)
    (ap (λ o. decided o allowed) (told_first Deny policies caller here r action index its)
    ∙ ap (decided (first_place (denies q) (clauses policies)))
    (told_first Allow policies caller here r action index its))
    ∙ ap (λ ds. decision_of policies q ∷ ds)
    (told_each policies caller here type_name action index is rs
    (All-tail (λ r. r.type_name ≡ type_name) r rs all))

-- one more resource has its first place: the earlier of what is found and what stands under its
-- names
pub first_more : (test : Resource → Clause → Bool) (index : RuleIndex) (rs : List Resource) (i : ℕ)
    (r : Resource) (rest : List Clause) (found places new : List (Option Clause))
    (here first : Option Clause) → i < length rs → r ≡ get_or rs i r → rest ≡ index.rest
    → found ≡ map (λ r. earliest (test r) None rest) rs → here ≡ get_or found i here
    → first ≡ earliest (test r) here (keyed_for index r)
    → places ≡ map (λ r. earliest (test r) None (told_for index r)) (take i rs)
    → new ≡ places ++ first ∷ []
    → new ≡ map (λ r. earliest (test r) None (told_for index r)) (take (i + 1) rs)
first_more test index rs i r rest found places new here first below is rest_is all at its so put =
    let there : here ≡ earliest (test r) None rest =
    at ∙ ap (λ f. get_or f i here) all ∙ get_or-map (λ r. earliest (test r) None rest) rs i r here below
    ∙ ap (λ x. earliest (test x) None rest) (sym is) in
    let told : first ≡ earliest (test r) None (told_for index r) =
    told_in_turn (test r) r index index rest here first refl rest_is there its in
    put ∙ ap (λ ps. ps ++ first ∷ []) so
    ∙ ap (λ f. map (λ r. earliest (test r) None (told_for index r)) (take i rs) ++ f ∷ [])
    (told ∙ ap (λ x. earliest (test x) None (told_for index x)) is)
    ∙ sym (map_more (λ r. earliest (test r) None (told_for index r)) rs i r below)
