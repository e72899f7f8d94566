-- One item more that a loop looks at: of values, and of entries under a key.
use Rattle.rb_yaml.specs.Tree.{YamlTree}
use Rattle.std.proofs.Common.{◌≡◌, ℕ, Bool, true, false, cond, ◌&&◌, bytes_eq, List, ◌∷◌, Option, Some, option_map, ap, sym, ◌∙◌}
use Rattle.std.specs.List.{list_all, find}
use Rattle.rb_values.specs.Values.{Entry, value_at}

pub all_here : {A : Type 0} (f : A → Bool) (x : A) (left rest all : List A) → left ≡ x ∷ rest
    → f x ≡ false → list_all f left ≡ list_all f all → false ≡ list_all f all
all_here f x left rest all is h same =
    sym (ap (λ b. b && list_all f rest) h) ∙ sym (ap (list_all f) is) ∙ same

pub all_on : {A : Type 0} (f : A → Bool) (x : A) (left rest all : List A) → left ≡ x ∷ rest
    → f x ≡ true → list_all f left ≡ list_all f all → list_all f rest ≡ list_all f all
all_on f x left rest all is h same =
    sym (ap (λ b. b && list_all f rest) h) ∙ sym (ap (list_all f) is) ∙ same

-- the value, by whether the first entry has the key
abbrev value_by : Bool → Entry → List ℕ → List Entry → Option YamlTree
value_by first e key rest =
    option_map (λ (x : Entry). x.1) (cond first (Some e) (find (λ x. bytes_eq x.0 key) rest))

pub value_here : (e : Entry) (key : List ℕ) (left rest all : List Entry) → left ≡ e ∷ rest
    → bytes_eq e.0 key ≡ true → value_at left key ≡ value_at all key → Some e.1 ≡ value_at all key
value_here e key left rest all is h same =
    sym (ap (λ b. value_by b e key rest) h) ∙ sym (ap (λ es. value_at es key) is) ∙ same

pub value_on : (e : Entry) (key : List ℕ) (left rest all : List Entry) → left ≡ e ∷ rest
    → bytes_eq e.0 key ≡ false → value_at left key ≡ value_at all key
    → value_at rest key ≡ value_at all key
value_on e key left rest all is h same =
    sym (ap (λ b. value_by b e key rest) h) ∙ sym (ap (λ es. value_at es key) is) ∙ same
