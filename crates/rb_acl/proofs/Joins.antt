-- A joined text, and what stands behind a front of it.
use Rattle.std.proofs.Common.{◌≡◌, ◌≢◌, ℕ, ◌+◌, ◌<◌, Bool, false, List, [], ◌∷◌, ◌++◌, length, get_or, drop, refl, ap, sym, subst, ◌∙◌}
use Rattle.std.proofs.lemmas.Bool.{eq-eqb, false_from_ne_true}
use Rattle.std.proofs.lemmas.List.{append-nil}
use Rattle.std.proofs.lemmas.Slice.Eq.{bytes_eq-Decides}
use Rattle.std.specs.Str.{bytes_eq}
use Rattle.rb_causes.specs.Signs.{comma}
use Rattle.rb_causes.specs.Texts.{joined}
use Rattle.rb_acl.specs.Joining.{joined_rest}
use Rattle.rb_acl.proofs.Items.{drop_item}

pub joined-first : (x : List ℕ) (xs : List (List ℕ)) → joined comma (x ∷ xs) ≡ x ++ joined_rest xs
joined-first x [] = sym (append-nil x)
joined-first x (y ∷ ys) = ap (λ more. x ++ comma ∷ more) (joined-first y ys)

-- what both begin with does not count
pub bytes_eq-behind : (front xs ys : List ℕ) → bytes_eq (front ++ xs) (front ++ ys) ≡ bytes_eq xs ys
bytes_eq-behind [] xs ys = refl
bytes_eq-behind (b ∷ bs) xs ys = rw (eq-eqb b b refl) (bytes_eq-behind bs xs ys)

-- a text that does not begin so
pub bytes_eq-apart : (front xs ys : List ℕ) → ((rest : List ℕ) → ys ≢ front ++ rest)
    → bytes_eq (front ++ xs) ys ≡ false
bytes_eq-apart front xs ys apart =
    false_from_ne_true _ (λ e. apart xs (sym ((bytes_eq-Decides (front ++ xs) ys).0 e)))

-- a loop over the texts: the next one is found behind its comma, or is not there
pub rest_behind : (xs : List (List ℕ)) (i : ℕ) (x text whole left : List ℕ) (all : Bool)
    → i < length xs → x ≡ get_or xs i x → text ≡ x →
    whole ≡ comma ∷ (text ++ left) → bytes_eq (joined_rest (drop i xs)) whole ≡ all
    → bytes_eq (joined_rest (drop (i + 1) xs)) left ≡ all
rest_behind xs i x text whole left all below is same e inv =
    sym (bytes_eq-behind (comma ∷ x) (joined_rest (drop (i + 1) xs)) left)
    ∙ ap (bytes_eq (joined_rest (x ∷ drop (i + 1) xs)))
    (ap (λ t. comma ∷ (t ++ left)) (sym same) ∙ sym e)
    ∙ sym (drop_item (λ rest. bytes_eq (joined_rest rest) whole) xs xs i x refl below is) ∙ inv

pub rest_apart : (xs : List (List ℕ)) (i : ℕ) (x text whole : List ℕ) (all : Bool) → i < length xs
    → x ≡ get_or xs i x → text ≡ x →
    ((rest : List ℕ) → whole ≢ comma ∷ (text ++ rest)) → bytes_eq (joined_rest (drop i xs)) whole
    ≡ all → false ≡ all
rest_apart xs i x text whole all below is same apart inv =
    sym (bytes_eq-apart (comma ∷ x) (joined_rest (drop (i + 1) xs)) whole
    (subst (λ t. (rest : List ℕ) → whole ≢ comma ∷ (t ++ rest)) same apart))
    ∙ sym (drop_item (λ rest. bytes_eq (joined_rest rest) whole) xs xs i x refl below is) ∙ inv

-- the first text is found in front, or is not there
pub joined_behind : (xs more : List (List ℕ)) (x text whole left : List ℕ) → xs ≡ x ∷ more → text
    ≡ x → whole ≡ text ++ left →
    bytes_eq (joined_rest more) left ≡ bytes_eq (joined comma xs) whole
joined_behind xs more x text whole left split same e =
    sym (bytes_eq-behind x (joined_rest more) left)
    ∙ ap (bytes_eq (x ++ joined_rest more)) (ap (λ t. t ++ left) (sym same) ∙ sym e)
    ∙ ap (λ zs. bytes_eq zs whole) (sym (joined-first x more) ∙ ap (joined comma) (sym split))

pub joined_apart : (xs more : List (List ℕ)) (x text whole : List ℕ) → xs ≡ x ∷ more → text ≡ x
    → ((rest : List ℕ) → whole ≢ text ++ rest) →
    false ≡ bytes_eq (joined comma xs) whole
joined_apart xs more x text whole split same apart =
    sym (bytes_eq-apart x (joined_rest more) whole
    (subst (λ t. (rest : List ℕ) → whole ≢ t ++ rest) same apart))
    ∙ ap (λ zs. bytes_eq zs whole) (sym (joined-first x more) ∙ ap (joined comma) (sym split))
