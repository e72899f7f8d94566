-- The first place of several lists of clauses, one behind the other.
use Rattle.std.proofs.Common.{◌≡◌, ℕ, ◌+◌, ◌<◌, Bool, true, false, not, cond, bytes_eq, Option, Some, None, is_some, List, [], ◌∷◌, ◌++◌, length, get_or, drop, refl, ap, sym, ◌∙◌}
use Rattle.std.specs.List.{find}
use Rattle.std.specs.Option.{option_or, option_map}
use Rattle.std.proofs.lemmas.List.Folds.{find-append}
use Rattle.std.proofs.lemmas.Bool.{and_left, and_right, not-true}
use Rattle.rb_acl.proofs.Items.{drop_item}
use Rattle.rb_acl.specs.Applying.{Question, speaks_of, is_asked, decides}
use Rattle.rb_acl.specs.Deciding.{Placed, clause_decides, first_place, placed_rules, placed_types, placed_docs}
use Rattle.rb_acl.specs.declared.effect.Effect.{Effect}
use Rattle.rb_acl.specs.declared.policy.Policy.{Policy}
use Rattle.rb_acl.specs.declared.policy.Rule.{Rule}
use Rattle.rb_acl.specs.declared.policy.TypeRules.{TypeRules}
use Rattle.rb_acl.specs.declared.policy.Clause.{Clause}

or_found : (a b : Option Placed) (r : Option Clause) → r ≡ option_map (λ c. c.place) a → true
    ≡ is_some r → r ≡ option_map (λ c. c.place) (option_or a b)
or_found (Some x) b r e some = e
or_found None b r e some = let never : true ≡ false = some ∙ ap is_some e in cc

or_passed : (a b : Option Placed) (r : Option Clause) → r ≡ option_map (λ c. c.place) a → false
    ≡ is_some r → option_map (λ c. c.place) (option_or a b) ≡ option_map (λ c. c.place) b
or_passed (Some x) b r e none = let never : false ≡ true = none ∙ ap is_some e in cc
or_passed None b r e none = refl

-- found in the front, or not there
pub place_found : (p : Placed → Bool) (front rest : List Placed) (r : Option Clause) → r
    ≡ first_place p front → true ≡ is_some r → r ≡ first_place p (front ++ rest)
place_found p front rest r e some =
    rw (find-append p front rest) (or_found (find p front) (find p rest) r e some)

pub place_passed : (p : Placed → Bool) (front rest : List Placed) (r : Option Clause) → r
    ≡ first_place p front → false ≡ is_some r → first_place p (front ++ rest) ≡ first_place p rest
place_passed p front rest r e none =
    rw (find-append p front rest) (or_passed (find p front) (find p rest) r e none)

-- one type of a document
pub type_found : (p : Placed → Bool) (policy : Policy) (doc : ℕ) (ts items : List TypeRules) (i : ℕ)
    (t : TypeRules) (r all : Option Clause) →
    items ≡ ts → i < length items → t ≡ get_or items i t → r
    ≡ first_place p (placed_rules policy t.name doc i 0 t.rules) → true ≡ is_some r →
    first_place p (placed_types policy doc i (drop i ts)) ≡ all → r ≡ all
type_found p policy doc ts items i t r all same below is found some inv =
    place_found p (placed_rules policy t.name doc i 0 t.rules)
    (placed_types policy doc (i + 1) (drop (i + 1) ts)) r found some
    ∙ sym (drop_item (λ rest. first_place p (placed_types policy doc i rest)) ts items i t same
    below is) ∙ inv

pub type_passed : (p : Placed → Bool) (policy : Policy) (doc : ℕ) (ts items : List TypeRules)
    (i : ℕ) (t : TypeRules) (r all : Option Clause) →
    items ≡ ts → i < length items → t ≡ get_or items i t → r
    ≡ first_place p (placed_rules policy t.name doc i 0 t.rules) → false ≡ is_some r →
    first_place p (placed_types policy doc i (drop i ts)) ≡ all
    → first_place p (placed_types policy doc (i + 1) (drop (i + 1) ts)) ≡ all
type_passed p policy doc ts items i t r all same below is found none inv =
    sym (place_passed p (placed_rules policy t.name doc i 0 t.rules)
    (placed_types policy doc (i + 1) (drop (i + 1) ts)) r found none)
    ∙ sym (drop_item (λ rest. first_place p (placed_types policy doc i rest)) ts items i t same
    below is) ∙ inv

-- one document
pub doc_found : (p : Placed → Bool) (docs items : List Policy) (i : ℕ) (policy : Policy)
    (r all : Option Clause) →
    items ≡ docs → i < length items → policy ≡ get_or items i policy → r
    ≡ first_place p (placed_types policy i 0 policy.types) → true ≡ is_some r →
    first_place p (placed_docs i (drop i docs)) ≡ all → r ≡ all
doc_found p docs items i policy r all same below is found some inv =
    place_found p (placed_types policy i 0 policy.types)
    (placed_docs (i + 1) (drop (i + 1) docs)) r found some
    ∙ sym (drop_item (λ rest. first_place p (placed_docs i rest)) docs items i policy same below is)
    ∙ inv

pub doc_passed : (p : Placed → Bool) (docs items : List Policy) (i : ℕ) (policy : Policy)
    (r all : Option Clause) →
    items ≡ docs → i < length items → policy ≡ get_or items i policy → r
    ≡ first_place p (placed_types policy i 0 policy.types) → false ≡ is_some r →
    first_place p (placed_docs i (drop i docs)) ≡ all
    → first_place p (placed_docs (i + 1) (drop (i + 1) docs)) ≡ all
doc_passed p docs items i policy r all same below is found none inv =
    sym (place_passed p (placed_types policy i 0 policy.types)
    (placed_docs (i + 1) (drop (i + 1) docs)) r found none)
    ∙ sym (drop_item (λ rest. first_place p (placed_docs i rest)) docs items i policy same below is)
    ∙ inv

-- no clause of rules that are not asked decides
unasked_decides : (effect : Effect) (question : Question) (policy : Policy) (name : List ℕ)
    (rule : Rule) → is_asked question policy name ≡ false
    → decides effect question policy name rule ≡ false
unasked_decides effect question policy name rule h =
    and_left _ _ (and_left _ _ h)

passed_over : (b : Bool) (x : Placed) (more : Option Placed) → b ≡ false → more ≡ None
    → cond b (Some x) more ≡ None
passed_over true x more h e = let never : true ≡ false = h in cc
passed_over false x more h e = e

unasked_rules : (effect : Effect) (question : Question) (policy : Policy) (name : List ℕ)
    (doc type_index n : ℕ) (rules : List Rule) → is_asked question policy name ≡ false
    → find (clause_decides effect question) (placed_rules policy name doc type_index n rules) ≡ None
unasked_rules effect question policy name doc type_index n [] h = refl
unasked_rules effect question policy name doc type_index n (rule ∷ rules) h =
    passed_over (decides effect question policy name rule) _ _
    (unasked_decides effect question policy name rule h)
    (unasked_rules effect question policy name doc type_index (n + 1) rules h)

pub none_of_rules : (effect : Effect) (question : Question) (policy : Policy) (name : List ℕ)
    (doc type_index n : ℕ) (rules : List Rule) → is_asked question policy name ≡ false → None
    ≡ first_place (clause_decides effect question)
    (placed_rules policy name doc type_index n rules)
none_of_rules effect question policy name doc type_index n rules h =
    ap (option_map (λ c. c.place))
    (sym (unasked_rules effect question policy name doc type_index n rules h))

-- nor does one of a policy that does not speak of who asks
pub unasked : (question : Question) (policy : Policy) (name : List ℕ)
    → speaks_of policy question.caller question.context ≡ false
    → is_asked question policy name ≡ false
unasked question policy name h = and_left _ _ h

unasked_types : (effect : Effect) (question : Question) (policy : Policy) (doc n : ℕ)
    (ts : List TypeRules) → speaks_of policy question.caller question.context ≡ false
    → find (clause_decides effect question) (placed_types policy doc n ts) ≡ None
unasked_types effect question policy doc n [] h = refl
unasked_types effect question policy doc n (t ∷ ts) h =
    find-append (clause_decides effect question) (placed_rules policy t.name doc n 0 t.rules)
    (placed_types policy doc (n + 1) ts)
    ∙ ap (λ o. option_or o (find (clause_decides effect question)
    (placed_types policy doc (n + 1) ts)))
    (unasked_rules effect question policy t.name doc n 0 t.rules (unasked question policy t.name h))
    ∙ unasked_types effect question policy doc (n + 1) ts h

pub none_of_types : (effect : Effect) (question : Question) (policy : Policy) (doc n : ℕ)
    (ts : List TypeRules) → speaks_of policy question.caller question.context ≡ false → None
    ≡ first_place (clause_decides effect question) (placed_types policy doc n ts)
none_of_types effect question policy doc n ts h =
    ap (option_map (λ c. c.place)) (sym (unasked_types effect question policy doc n ts h))

-- rules for another type than the resource's are not asked
pub other_type : (question : Question) (policy : Policy) (name own other : List ℕ)
    (differ : Bool) → own ≡ name → other ≡ question.resource.type_name
    → differ ≡ not (bytes_eq own other) → differ ≡ true → is_asked question policy name ≡ false
other_type question policy name own other differ mine same is h =
    and_right (speaks_of policy question.caller question.context) _
    (ap (bytes_eq name) (sym same) ∙ ap (λ n. bytes_eq n other) (sym mine)
    ∙ not-true (bytes_eq own other) (sym is ∙ h))
