-- The items of a text as the parts at its commas.
use Rattle.std.proofs.Common.{◌≡◌, ℕ, ◌<◌, Bool, true, false, not, cond, ◌&&◌, ◌||◌, nat_eq, bytes_eq, List, [], ◌∷◌, ◌++◌, length, get_or, map, refl, ap, sym, subst, ◌∙◌, lit<}
use Rattle.std.specs.List.{list_any, list_all, slice_split, filter}
use Rattle.std.specs.Str.Iter.{split_text, split_has_more, split_pattern, split_steps}
use Rattle.std.specs.Str.Pattern.{FindsChar}
use Rattle.std.proofs.lemmas.Iterator.{YieldsList}
use Rattle.std.proofs.lemmas.Iterator.Splits.{YieldsList-from_str_split}
use Rattle.std.proofs.lemmas.List.Folds.{list_any_at, list_all_at}
use Rattle.rb_causes.specs.Texts.{has_text, is_empty, trimmed, pieces, comma_items}
use Rattle.rb_causes.proofs.Commas.{pieces-slice_split}
use Rattle.rb_acl.specs.Parts.{is_item, is_listed}

any_step : (e : Bool) (t : List ℕ) (ts : List (List ℕ)) (item : List ℕ) →
    has_text (cond (not e) (t ∷ ts) ts) item ≡ ((not e && bytes_eq t item) || has_text ts item)
any_step true t ts item = refl
any_step false t ts item = refl

all_step : (e : Bool) (t : List ℕ) (ts texts : List (List ℕ)) →
    list_all (has_text texts) (cond (not e) (t ∷ ts) ts)
    ≡ ((e || has_text texts t) && list_all (has_text texts) ts)
all_step true t ts texts = refl
all_step false t ts texts = refl

any_item : (parts : List (List ℕ)) (item : List ℕ) →
    has_text (filter (λ part. not (is_empty part)) (map trimmed parts)) item
    ≡ list_any (is_item item) parts
any_item [] item = refl
any_item (part ∷ parts) item =
    any_step (is_empty (trimmed part)) (trimmed part) _ item
    ∙ ap (λ b. is_item item part || b) (any_item parts item)

all_listed : (parts texts : List (List ℕ)) →
    list_all (has_text texts) (filter (λ part. not (is_empty part)) (map trimmed parts))
    ≡ list_all (is_listed texts) parts
all_listed [] texts = refl
all_listed (part ∷ parts) texts =
    all_step (is_empty (trimmed part)) (trimmed part) _ texts
    ∙ ap (λ b. is_listed texts part && b) (all_listed parts texts)

abbrev pub parts_of : List ℕ → List (List ℕ)
parts_of text = slice_split (λ b. nat_eq b 44) text

-- an iterator that is that of `split` gives them
pub gives_parts : {s t : _} (text : List ℕ) → t ≡ s → split_text s ≡ text
    → split_has_more s ≡ true → split_pattern {P = ℕ} s ≡ 44
    → YieldsList (split_steps FindsChar (λ a b. b ≡ a)) (λ part. part.now) t (parts_of text)
gives_parts text same is more at =
    subst (λ it. YieldsList (split_steps FindsChar (λ a b. b ≡ a)) (λ part. part.now) it
    (parts_of text)) (sym same) (YieldsList-from_str_split 44 text (lit< tt) is more at)

pub item_among : (text item : List ℕ) → list_any (is_item item) (parts_of text)
    ≡ has_text (comma_items text) item
item_among text item =
    ap (list_any (is_item item)) (pieces-slice_split (λ b. nat_eq b 44) text)
    ∙ sym (any_item (pieces (λ b. nat_eq b 44) text) item)

pub items_among : (text : List ℕ) (texts : List (List ℕ)) →
    list_all (is_listed texts) (parts_of text) ≡ list_all (has_text texts) (comma_items text)
items_among text texts =
    ap (list_all (is_listed texts)) (pieces-slice_split (λ b. nat_eq b 44) text)
    ∙ sym (all_listed (pieces (λ b. nat_eq b 44) text) texts)

-- a part that is the item, at its place among all
pub item_here : (text item part : List ℕ) (i : ℕ) (held : Bool) → (i < length (parts_of text))
    × (part ≡ get_or (parts_of text) i part) → held ≡ is_item item part → held ≡ true
    → true ≡ has_text (comma_items text) item
item_here text item part i held at is h =
    sym (list_any_at (is_item item) (parts_of text) i part at.0
    (ap (is_item item) (sym at.1) ∙ sym is ∙ h)) ∙ item_among text item

pub unlisted_here : (text part : List ℕ) (texts : List (List ℕ)) (i : ℕ) (held : Bool) →
    (i < length (parts_of text)) × (part ≡ get_or (parts_of text) i part)
    → held ≡ is_listed texts part → held ≡ false
    → false ≡ list_all (has_text texts) (comma_items text)
unlisted_here text part texts i held at is h =
    sym (list_all_at (is_listed texts) (parts_of text) i part at.0
    (ap (is_listed texts) (sym at.1) ∙ sym is ∙ h)) ∙ items_among text texts

-- no part is the item, or all are listed
pub item_nowhere : (text item : List ℕ) (parts : List (List ℕ)) → parts ≡ parts_of text
    → list_any (is_item item) parts ≡ false → false ≡ has_text (comma_items text) item
item_nowhere text item parts same h =
    sym h ∙ ap (list_any (is_item item)) same ∙ item_among text item

pub listed_all : (text : List ℕ) (texts parts : List (List ℕ)) → parts ≡ parts_of text
    → list_all (is_listed texts) parts ≡ true → true ≡ list_all (has_text texts) (comma_items text)
listed_all text texts parts same h =
    sym h ∙ ap (list_all (is_listed texts)) same ∙ items_among text texts

-- one part more
both_false : (a b : Bool) → a ≡ false → b ≡ false → (a || (b || false)) ≡ false
both_false true b e f = e
both_false false true e f = f
both_false false false e f = refl

both_true : (a b : Bool) → a ≡ true → b ≡ true → (a && (b && true)) ≡ true
both_true false b e f = e
both_true true false e f = f
both_true true true e f = refl

pub any_pushed : {X : Type 0} (p : List ℕ → Bool) (v : X → List ℕ) (xs : List X) (x : X)
    (held : Bool) → list_any p (map v xs) ≡ false → held ≡ p (v x) → held ≡ false
    → list_any p (map v (xs ++ x ∷ [])) ≡ false
any_pushed p v [] x held h is e = both_false false (p (v x)) refl (sym is ∙ e)
any_pushed p v (y ∷ ys) x held h is e =
    any_more (p (v y)) (list_any p (map v ys)) (list_any p (map v (ys ++ x ∷ []))) h
    (λ g. any_pushed p v ys x held g is e)
  where
    any_more : (a b c : Bool) → (a || b) ≡ false → (b ≡ false → c ≡ false) → (a || c) ≡ false
    any_more true b c h f = h
    any_more false b c h f = f h

pub all_pushed : {X : Type 0} (p : List ℕ → Bool) (v : X → List ℕ) (xs : List X) (x : X)
    (held : Bool) → list_all p (map v xs) ≡ true → held ≡ p (v x) → held ≡ true
    → list_all p (map v (xs ++ x ∷ [])) ≡ true
all_pushed p v [] x held h is e = both_true true (p (v x)) refl (sym is ∙ e)
all_pushed p v (y ∷ ys) x held h is e =
    all_more (p (v y)) (list_all p (map v ys)) (list_all p (map v (ys ++ x ∷ []))) h
    (λ g. all_pushed p v ys x held g is e)
  where
    all_more : (a b c : Bool) → (a && b) ≡ true → (b ≡ true → c ≡ true) → (a && c) ≡ true
    all_more true b c h f = f h
    all_more false b c h f = h
