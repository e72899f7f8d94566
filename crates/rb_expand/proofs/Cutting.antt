-- A text is cut into its pieces in one way.
use Rattle.std.proofs.Common.{◌≡◌, ℕ, ◌+◌, zero, suc, true, false, not, nat_eq, List, [], ◌∷◌, ◌++◌, length, take, drop, slice_get, is_some, chars, encode_utf8, length-append, Option, Some, None, refl, sym, ap, subst, ◌∙◌, append_assoc, inl, inr, arith, add-one}
use Rattle.std.specs.List.{list_all}
use Rattle.std.specs.Str.{encode_utf8_all}
use Rattle.std.proofs.lemmas.Bool.{eqb-true, eqb-false, cases_Bool, and_parts}
use Rattle.std.proofs.lemmas.Str.{encodes-chars}
use Rattle.rb_causes.specs.Signs.{dollar, at_sign, opening_brace, closing_brace}
use Rattle.rb_causes.specs.declared.items.Prop.{Prop}
use Rattle.rb_causes.specs.Texts.{is_name_sign}
use Rattle.rb_expand.specs.Pieces.{kept, named, opening, closing_of_style, behind_sign, then_behind, behind_opening, name_len, is_replaced, is_sign, closed_name, name_behind, any_name_at, if_replaced, name_at, piece_by, passed_by, pieces_behind, pieces_of}
use Rattle.rb_expand.specs.Expanded.{pieces_text}
use Rattle.rb_expand.specs.Cut.{is_replaced_name, in_front, BeginsNoName, CutIntoPieces, nothing, name, character, PiecesAreCut, OneCut, opens_nowhere, OthersStay}
use Rattle.rb_expand.specs.declared.style.Style.{Style}
use Rattle.rb_expand.specs.declared.style.Style.TheVariants.{Word, Script}

-- ---- signs in front

some_is : {A : Type 0} {x y : A} → Some x ≡ Some y → x ≡ y
some_is h = cc

behind_is : (sign : ℕ) (text rest : List ℕ) → behind_sign sign text ≡ Some rest → text ≡ sign ∷ rest
behind_is sign [] rest e = let never : ⊥ = cc in absurd never
behind_is sign (c ∷ cs) rest e =
    elim (cases_Bool (nat_eq c sign)) [
      | inl s ↦ let same : Some cs ≡ Some rest = rw s at e in rw (eqb-true c sign s, some_is same) refl
      | inr d ↦ let never : None ≡ Some rest = rw d at e in let end : ⊥ = cc in absurd end
    ]

then_is : (sign : ℕ) (o : Option (List ℕ)) (rest : List ℕ) → then_behind sign o ≡ Some rest → (text : List ℕ) × (o ≡ Some text) × (text ≡ sign ∷ rest)
then_is sign None rest e = let never : ⊥ = cc in absurd never
then_is sign (Some text) rest e = (text, refl, behind_is sign text rest e)

opening_is : (style : Style) (text rest : List ℕ) → behind_opening style text ≡ Some rest → text ≡ opening style ++ rest
opening_is Word text rest e =
    let inner = then_is opening_brace (behind_sign dollar text) rest e in
    behind_is dollar text inner.0 inner.1 ∙ ap (λ t. dollar ∷ t) inner.2
opening_is Script text rest e = behind_is at_sign text rest e

opening_found : (style : Style) (rest : List ℕ) → behind_opening style (opening style ++ rest) ≡ Some rest
opening_found Word rest = refl
opening_found Script rest = refl

closing_is_no_name : (style : Style) → is_name_sign (closing_of_style style) ≡ false
closing_is_no_name Word = refl
closing_is_no_name Script = refl

-- ---- names in front

len_of : (style : Style) (found rest : List ℕ) → list_all is_name_sign found ≡ true → name_len (found ++ closing_of_style style ∷ rest) ≡ length found
len_of style [] rest h = rw (closing_is_no_name style) refl
len_of style (c ∷ cs) rest h =
    let parts = and_parts (is_name_sign c) (list_all is_name_sign cs) h in
    rw (parts.0, len_of style cs rest parts.1) (add-one (length cs))

taken_of : (found rest : List ℕ) → take (length found) (found ++ rest) ≡ found
taken_of [] rest = refl
taken_of (c ∷ cs) rest = ap (λ t. c ∷ t) (taken_of cs rest)

sign_behind : (found : List ℕ) (c : ℕ) (rest : List ℕ) → slice_get (found ++ c ∷ rest) (length found) ≡ Some c
sign_behind [] c rest = refl
sign_behind (x ∷ xs) c rest = sign_behind xs c rest

same_sign : (c : ℕ) → nat_eq c c ≡ true
same_sign c =
    elim (cases_Bool (nat_eq c c)) [
      | inl s ↦ s
      | inr d ↦ let never : ⊥ = eqb-false c c d refl in absurd never
    ]

closed_of : (style : Style) (found rest : List ℕ) → list_all is_name_sign found ≡ true → closed_name (closing_of_style style) (found ++ closing_of_style style ∷ rest) ≡ Some found
closed_of style found rest h =
    rw (len_of style found rest h, sign_behind found (closing_of_style style) rest, same_sign (closing_of_style style), taken_of found (closing_of_style style ∷ rest)) refl

found_at : (style : Style) (found rest : List ℕ) → is_replaced_name found ≡ true → name_at style (in_front style found rest) ≡ Some found
found_at style found rest h =
    let parts = and_parts (list_all is_name_sign found) (is_replaced (encode_utf8_all found)) h in
    rw (opening_found style (found ++ closing_of_style style ∷ rest), closed_of style found rest parts.0, parts.1) refl

-- the signs that name_len counts are signs of names
all_signs : (text : List ℕ) → list_all is_name_sign (take (name_len text) text) ≡ true
all_signs [] = refl
all_signs (c ∷ cs) =
    elim (cases_Bool (is_name_sign c)) [
      | inl s ↦ rw (s, add-one (name_len cs), s) (all_signs cs)
      | inr d ↦ rw d refl
    ]

cut_at : (text : List ℕ) (n c : ℕ) → slice_get text n ≡ Some c → text ≡ take n text ++ c ∷ drop (suc n) text
cut_at [] zero c e = let never : ⊥ = cc in absurd never
cut_at [] (suc n) c e = let never : ⊥ = cc in absurd never
cut_at (x ∷ xs) zero c e = ap (λ y. y ∷ xs) (some_is e)
cut_at (x ∷ xs) (suc n) c e = ap (λ t. x ∷ t) (cut_at xs n c e)

sign_is : (sign : ℕ) (o : Option ℕ) → is_sign sign o ≡ true → o ≡ Some sign
sign_is sign None e = let never : ⊥ = cc in absurd never
sign_is sign (Some c) e = ap Some (eqb-true c sign e)

-- ---- what a replaced name in front says of the text

replaced_is : (o : Option (List ℕ)) (found : List ℕ) → if_replaced o ≡ Some found → (o ≡ Some found) × (is_replaced (encode_utf8_all found) ≡ true)
replaced_is None found e = let never : ⊥ = cc in absurd never
replaced_is (Some any) found e =
    elim (cases_Bool (is_replaced (encode_utf8_all any))) [
      | inl s ↦ let same : Some any ≡ Some found = rw s at e in (same, subst (λ n. is_replaced (encode_utf8_all n) ≡ true) (some_is same) s)
      | inr d ↦ let never : None ≡ Some found = rw d at e in let end : ⊥ = cc in absurd end
    ]

name_behind_is : (style : Style) (o : Option (List ℕ)) (found : List ℕ) → name_behind style o ≡ Some found →
    (rest : List ℕ) × (o ≡ Some rest) × (closed_name (closing_of_style style) rest ≡ Some found)
name_behind_is style None found e = let never : ⊥ = cc in absurd never
name_behind_is style (Some rest) found e = (rest, refl, e)

-- the closing sign stands behind the signs of the name
closed_is : (sign : ℕ) (rest found : List ℕ) → closed_name sign rest ≡ Some found →
    (behind : List ℕ) × (rest ≡ found ++ sign ∷ behind) × (list_all is_name_sign found ≡ true)
closed_is sign rest found e =
    elim (cases_Bool (is_sign sign (slice_get rest (name_len rest)))) [
      | inl s ↦
          let same : Some (take (name_len rest) rest) ≡ Some found = rw s at e in (
            drop (suc (name_len rest)) rest,
            subst (λ n. rest ≡ n ++ sign ∷ drop (suc (name_len rest)) rest) (some_is same) (cut_at rest (name_len rest) sign (sign_is sign (slice_get rest (name_len rest)) s)),
            subst (λ n. list_all is_name_sign n ≡ true) (some_is same) (all_signs rest),
          )
      | inr d ↦ let never : None ≡ Some found = rw d at e in let end : ⊥ = cc in absurd end
    ]

record IsNamed (style : Style) (text found : List ℕ) : Type 0 where
  rest : List ℕ
  sound : is_replaced_name found ≡ true
  is : text ≡ in_front style found rest

named_at : (style : Style) (text found : List ℕ) → name_at style text ≡ Some found → IsNamed style text found
named_at style text found e =
    let any = replaced_is (any_name_at style text) found e in
    let opened = name_behind_is style (behind_opening style text) found any.0 in
    let closed = closed_is (closing_of_style style) opened.0 found opened.2 in
    record {
      rest = closed.0;
      sound = rw (closed.2, any.1) refl;
      is = opening_is style text opened.0 opened.1 ∙ ap (λ t. opening style ++ t) closed.1;
    }

no_name : (style : Style) (text : List ℕ) → name_at style text ≡ None → BeginsNoName style text
no_name style text e found rest sound is =
    let there : name_at style text ≡ Some found = ap (name_at style) is ∙ found_at style found rest sound in
    let never : ⊥ = cc in absurd never

-- ---- what stands behind a name

drop_past : (xs ys : List ℕ) → drop (length xs) (xs ++ ys) ≡ ys
drop_past [] ys = refl
drop_past (x ∷ xs) ys = drop_past xs ys

abbrev front_of : Style → List ℕ → List ℕ
front_of style found = opening style ++ (found ++ closing_of_style style ∷ [])

in_front_is : (style : Style) (found rest : List ℕ) → in_front style found rest ≡ front_of style found ++ rest
in_front_is style found rest =
    ap (λ t. opening style ++ t) (sym (append_assoc found (closing_of_style style ∷ []) rest)) ∙ sym (append_assoc (opening style) (found ++ closing_of_style style ∷ []) rest)

front_len : (style : Style) (found : List ℕ) → suc (length (opening style) + length found) ≡ length (front_of style found)
front_len style found = omega (arith, length-append (opening style) (found ++ closing_of_style style ∷ []), length-append found (closing_of_style style ∷ []))

behind_name : (style : Style) (found rest : List ℕ) (c : ℕ) (cs : List ℕ) → c ∷ cs ≡ in_front style found rest → drop (length (opening style) + length found) cs ≡ rest
behind_name style found rest c cs e =
    ap (λ n. drop n (c ∷ cs)) (front_len style found)
    ∙ ap (drop (length (front_of style found))) (e ∙ in_front_is style found rest)
    ∙ drop_past (front_of style found) rest

-- ---- the pieces are cut out of the text

first_cut : (style : Style) (c : ℕ) (cs : List ℕ) (o : Option (List ℕ)) → name_at style (c ∷ cs) ≡ o →
    ((n : ℕ) → CutIntoPieces style (drop n cs) (pieces_behind style n cs)) →
    CutIntoPieces style (c ∷ cs) (piece_by c o ∷ pieces_behind style (passed_by style o) cs)
first_cut style c cs None e behind = character c (no_name style (c ∷ cs) e) (behind zero)
first_cut style c cs (Some found) e behind =
    let there = named_at style (c ∷ cs) found e in
    let passed = length (opening style) + length found in
    subst (λ t. CutIntoPieces style t (named found ∷ pieces_behind style passed cs)) (sym there.is)
    (name found there.sound (subst (λ t. CutIntoPieces style t (pieces_behind style passed cs)) (behind_name style found there.rest c cs there.is) (behind passed)))

cut_behind : (style : Style) (text : List ℕ) (n : ℕ) → CutIntoPieces style (drop n text) (pieces_behind style n text)
cut_behind style [] zero = nothing
cut_behind style [] (suc n) = nothing
cut_behind style (c ∷ cs) (suc n) = cut_behind style cs n
cut_behind style (c ∷ cs) zero = first_cut style c cs (name_at style (c ∷ cs)) refl (cut_behind style cs)

pub pieces_are_cut : PiecesAreCut
pieces_are_cut style text = cut_behind style text zero

-- ---- in one way

skip : (style : Style) (text : List ℕ) (n : ℕ) → pieces_behind style n text ≡ pieces_of style (drop n text)
skip style [] zero = refl
skip style [] (suc n) = refl
skip style (c ∷ cs) zero = refl
skip style (c ∷ cs) (suc n) = skip style cs n

front_cut : (style : Style) (found rest : List ℕ) (c : ℕ) (cs : List ℕ) → is_replaced_name found ≡ true → c ∷ cs ≡ in_front style found rest →
    pieces_of style (c ∷ cs) ≡ named found ∷ pieces_of style rest
front_cut style found rest c cs sound e =
    ap (λ o. piece_by c o ∷ pieces_behind style (passed_by style o) cs) (ap (name_at style) e ∙ found_at style found rest sound)
    ∙ ap (λ ps. named found ∷ ps) (skip style cs (length (opening style) + length found) ∙ ap (pieces_of style) (behind_name style found rest c cs e))

name_cut : (style : Style) (found rest : List ℕ) → is_replaced_name found ≡ true → pieces_of style (in_front style found rest) ≡ named found ∷ pieces_of style rest
name_cut Word found rest sound = front_cut Word found rest dollar (opening_brace ∷ (found ++ closing_brace ∷ rest)) sound refl
name_cut Script found rest sound = front_cut Script found rest at_sign (found ++ at_sign ∷ rest) sound refl

none_at : (style : Style) (c : ℕ) (cs : List ℕ) (o : Option (List ℕ)) → name_at style (c ∷ cs) ≡ o → BeginsNoName style (c ∷ cs) → o ≡ None
none_at style c cs None e lacks = refl
none_at style c cs (Some found) e lacks =
    let there = named_at style (c ∷ cs) found e in absurd (lacks found there.rest there.sound there.is)

character_cut : (style : Style) (c : ℕ) (cs : List ℕ) → BeginsNoName style (c ∷ cs) → pieces_of style (c ∷ cs) ≡ kept c ∷ pieces_of style cs
character_cut style c cs lacks =
    ap (λ o. piece_by c o ∷ pieces_behind style (passed_by style o) cs) (none_at style c cs (name_at style (c ∷ cs)) refl lacks)

pub one_cut : OneCut
one_cut style _ _ nothing = refl
one_cut style _ _ (name {rest} {pieces} found sound cut) = name_cut style found rest sound ∙ ap (λ ps. named found ∷ ps) (one_cut style rest pieces cut)
one_cut style _ _ (character {rest} {pieces} c lacks cut) = character_cut style c rest lacks ∙ ap (λ ps. kept c ∷ ps) (one_cut style rest pieces cut)

-- ---- what opens no name

not_some : (o : Option (List ℕ)) → not (is_some o) ≡ true → o ≡ None
not_some None e = refl
not_some (Some x) e = let never : ⊥ = cc in absurd never

stays : (style : Style) (names : List Prop) (cs : List ℕ) → opens_nowhere style cs ≡ true → pieces_text names (pieces_of style cs) ≡ encode_utf8_all cs
stays style names [] h = refl
stays style names (c ∷ cs) h =
    let parts = and_parts (not (is_some (behind_opening style (c ∷ cs)))) (opens_nowhere style cs) h in
    let none : name_at style (c ∷ cs) ≡ None = ap (λ o. if_replaced (name_behind style o)) (not_some (behind_opening style (c ∷ cs)) parts.0) in
    ap (λ o. pieces_text names (piece_by c o ∷ pieces_behind style (passed_by style o) cs)) none
    ∙ ap (λ t. encode_utf8 c ++ t) (stays style names cs parts.1)

pub others_stay : OthersStay
others_stay style names text utf8 h = stays style names (chars text) h ∙ encodes-chars text utf8
