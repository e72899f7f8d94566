-- What texts are laid out of, and what is read in them.
use Rattle.std.proofs.Common.{◌≡◌, ℕ, true, false, not, nat_eq, List, [], ◌∷◌, ◌++◌, map, Ok, Err, refl, sym, ap, subst, ◌∙◌, append_assoc, inl, inr, ◌⊎◌}
use Rattle.std.specs.List.{list_all, flat_map}
use Rattle.std.proofs.lemmas.Bool.{eqb-true, cases_Bool, and_parts, or_parts, not-true}
use Rattle.std.proofs.lemmas.List.{append-nil}
use Rattle.rb_causes.specs.Signs.{single_quote, double_quote, backslash}
use Rattle.rb_causes.specs.Words.{Split, is_quote, is_escapable, bare, quoted, letters_onto, onto_one, word_ended, words_from}
use Rattle.rb_causes.specs.Laid.{Inner, plain, escaped, unescaped, inner_text, inner_means, is_inner, no_single_quote, Piece, one, single, double, piece_text, piece_means, is_piece, Tail, single_tail, double_tail, cut_tail, tail_text, is_tail, SaysWords, nothing, blank, word, open_quote, GoesOn, word_end, gap, more, open_in_word, EachTextIsLaid, OneReading, QuotedIsOneWord}
use Rattle.rb_causes.specs.declared.splitting.WordPlace.TheVariants.{Outside, Bare, Single, Double}
use Rattle.rb_causes.proofs.Reading.{onto-append, onto-Ok, onto-Err}
use Rattle.rb_causes.specs.Texts.{is_trimmed_off}

-- ---- one character in each place

blank_outside : (c : ℕ) (cs : List ℕ) → is_trimmed_off c ≡ true → words_from Outside (c ∷ cs) ≡ words_from Outside cs
blank_outside c cs e = simp e

blank_in_word : (c : ℕ) (cs : List ℕ) → is_trimmed_off c ≡ true → words_from Bare (c ∷ cs) ≡ word_ended (words_from Outside cs)
blank_in_word c cs e = simp e

bare_in_word : (c : ℕ) (cs : List ℕ) → is_trimmed_off c ≡ false → nat_eq c single_quote ≡ false → nat_eq c double_quote ≡ false →
    words_from Bare (c ∷ cs) ≡ onto_one (bare c) (words_from Bare cs)
bare_in_word c cs b s d = simp (b, s, d)

bare_outside : (c : ℕ) (cs : List ℕ) → is_trimmed_off c ≡ false → nat_eq c single_quote ≡ false → nat_eq c double_quote ≡ false →
    words_from Outside (c ∷ cs) ≡ onto_one (bare c) (words_from Bare cs)
bare_outside c cs b s d = simp (b, s, d)

in_single : (c : ℕ) (cs : List ℕ) → nat_eq c single_quote ≡ false → words_from Single (c ∷ cs) ≡ onto_one (quoted c) (words_from Single cs)
in_single c cs e = simp e

in_double : (c : ℕ) (cs : List ℕ) → is_escapable c ≡ false → words_from Double (c ∷ cs) ≡ onto_one (quoted c) (words_from Double cs)
in_double c cs e = let parts = or_parts (nat_eq c double_quote) (nat_eq c backslash) e in simp (parts.0, parts.1)

in_escape : (c : ℕ) (cs : List ℕ) → is_escapable c ≡ true → words_from Double (backslash ∷ c ∷ cs) ≡ onto_one (quoted c) (words_from Double cs)
in_escape c cs e = simp e

no_escape : (c : ℕ) (cs : List ℕ) → is_escapable c ≡ false →
    words_from Double (backslash ∷ c ∷ cs) ≡ onto_one (quoted backslash) (onto_one (quoted c) (words_from Double cs))
no_escape c cs e = simp e

-- ---- quoted texts

single_text : (text rest : List ℕ) → no_single_quote text ≡ true →
    words_from Single ((text ++ single_quote ∷ []) ++ rest) ≡ letters_onto (map quoted text) (words_from Bare rest)
single_text [] rest h = refl
single_text (c ∷ cs) rest h =
    let parts = and_parts (not (nat_eq c single_quote)) (no_single_quote cs) h in
    in_single c ((cs ++ single_quote ∷ []) ++ rest) (not-true (nat_eq c single_quote) parts.0) ∙ ap (onto_one (quoted c)) (single_text cs rest parts.1)

open_single : (text : List ℕ) → no_single_quote text ≡ true → words_from Single text ≡ Err 0
open_single [] h = refl
open_single (c ∷ cs) h =
    let parts = and_parts (not (nat_eq c single_quote)) (no_single_quote cs) h in
    in_single c cs (not-true (nat_eq c single_quote) parts.0) ∙ ap (onto_one (quoted c)) (open_single cs parts.1)

inner_step : (i : Inner) (rest : List ℕ) → is_inner i ≡ true → words_from Double (inner_text i ++ rest) ≡ letters_onto (inner_means i) (words_from Double rest)
inner_step (plain c) rest h = in_double c rest (not-true (is_escapable c) h)
inner_step (escaped c) rest h = in_escape c rest h
inner_step (unescaped c) rest h = no_escape c rest (not-true (is_escapable c) h)

inners_step : (is : List Inner) (rest : List ℕ) → list_all is_inner is ≡ true →
    words_from Double (flat_map inner_text is ++ rest) ≡ letters_onto (flat_map inner_means is) (words_from Double rest)
inners_step [] rest h = refl
inners_step (i ∷ is) rest h =
    let parts = and_parts (is_inner i) (list_all is_inner is) h in
    ap (words_from Double) (append_assoc (inner_text i) (flat_map inner_text is) rest)
    ∙ inner_step i (flat_map inner_text is ++ rest) parts.0
    ∙ ap (letters_onto (inner_means i)) (inners_step is rest parts.1)
    ∙ sym (onto-append (inner_means i) (flat_map inner_means is) (words_from Double rest))

double_text : (is : List Inner) (rest : List ℕ) → list_all is_inner is ≡ true →
    words_from Double ((flat_map inner_text is ++ double_quote ∷ []) ++ rest) ≡ letters_onto (flat_map inner_means is) (words_from Bare rest)
double_text is rest h =
    ap (words_from Double) (append_assoc (flat_map inner_text is) (double_quote ∷ []) rest) ∙ inners_step is (double_quote ∷ rest) h

open_double : (is : List Inner) → list_all is_inner is ≡ true → words_from Double (flat_map inner_text is) ≡ Err 0
open_double is h =
    ap (words_from Double) (sym (append-nil (flat_map inner_text is))) ∙ inners_step is [] h ∙ onto-Err (flat_map inner_means is) 0

cut_double : (is : List Inner) → list_all is_inner is ≡ true → words_from Double (flat_map inner_text is ++ backslash ∷ []) ≡ Err 0
cut_double is h = inners_step is (backslash ∷ []) h ∙ onto-Err (flat_map inner_means is) 0

-- ---- what is said is read

piece_outside : (p : Piece) (rest : List ℕ) → is_piece p ≡ true → words_from Outside (piece_text p ++ rest) ≡ letters_onto (piece_means p) (words_from Bare rest)
piece_outside (one c) rest h =
    let apart = or_parts (is_trimmed_off c) (is_quote c) (not-true _ h) in
    let quotes = or_parts (nat_eq c single_quote) (nat_eq c double_quote) apart.1 in
    bare_outside c rest apart.0 quotes.0 quotes.1
piece_outside (single text) rest h = single_text text rest h
piece_outside (double is) rest h = double_text is rest h

piece_in_word : (p : Piece) (rest : List ℕ) → is_piece p ≡ true → words_from Bare (piece_text p ++ rest) ≡ letters_onto (piece_means p) (words_from Bare rest)
piece_in_word (one c) rest h =
    let apart = or_parts (is_trimmed_off c) (is_quote c) (not-true _ h) in
    let quotes = or_parts (nat_eq c single_quote) (nat_eq c double_quote) apart.1 in
    bare_in_word c rest apart.0 quotes.0 quotes.1
piece_in_word (single text) rest h = single_text text rest h
piece_in_word (double is) rest h = double_text is rest h

tail_outside : (t : Tail) → is_tail t ≡ true → words_from Outside (tail_text t) ≡ Err 0
tail_outside (single_tail text) h = open_single text h
tail_outside (double_tail is) h = open_double is h
tail_outside (cut_tail is) h = cut_double is h

tail_in_word : (t : Tail) → is_tail t ≡ true → words_from Bare (tail_text t) ≡ Err 0
tail_in_word (single_tail text) h = open_single text h
tail_in_word (double_tail is) h = open_double is h
tail_in_word (cut_tail is) h = cut_double is h

mutual
  said : (cs : List ℕ) (split : Split) → SaysWords cs split → words_from Outside cs ≡ split
  said _ _ nothing = refl
  said _ _ (blank {cs} {split} c h says) = blank_outside c cs h ∙ said cs split says
  said _ _ (word {cs} {split} p h goes) = piece_outside p cs h ∙ ap (letters_onto (piece_means p)) (said_on cs split goes)
  said _ _ (open_quote t h) = tail_outside t h

  said_on : (cs : List ℕ) (split : Split) → GoesOn cs split → words_from Bare cs ≡ split
  said_on _ _ word_end = refl
  said_on _ _ (gap {cs} {split} c h says) = blank_in_word c cs h ∙ ap word_ended (said cs split says)
  said_on _ _ (more {cs} {split} p h goes) = piece_in_word p cs h ∙ ap (letters_onto (piece_means p)) (said_on cs split goes)
  said_on _ _ (open_in_word t h) = tail_in_word t h

pub one_reading : OneReading
one_reading cs split says = said cs split says

-- ---- each text says something

-- Behind a single quote: a text that is closed, and what goes on behind it, or one that is not.
record IsClosed (cs : List ℕ) : Type 0 where
  text : List ℕ
  rest : List ℕ
  split : Split
  free : no_single_quote text ≡ true
  is : cs ≡ (text ++ single_quote ∷ []) ++ rest
  goes : GoesOn rest split

-- Behind a double quote.
record IsClosedBy (cs : List ℕ) : Type 0 where
  inners : List Inner
  rest : List ℕ
  split : Split
  sound : list_all is_inner inners ≡ true
  is : cs ≡ (flat_map inner_text inners ++ double_quote ∷ []) ++ rest
  goes : GoesOn rest split

record IsLeftOpen (cs : List ℕ) : Type 0 where
  inners : List Inner
  sound : list_all is_inner inners ≡ true
  is : (cs ≡ flat_map inner_text inners) ⊎ (cs ≡ flat_map inner_text inners ++ backslash ∷ [])

-- what the characters say in each place; behind a backslash between double quotes it counts too
record Told (cs : List ℕ) : Type 0 where
  outside : (split : Split) × SaysWords cs split
  in_word : (split : Split) × GoesOn cs split
  in_single : IsClosed cs ⊎ (no_single_quote cs ≡ true)
  in_double : IsClosedBy cs ⊎ IsLeftOpen cs
  in_escape : IsClosedBy (backslash ∷ cs) ⊎ IsLeftOpen (backslash ∷ cs)

-- one more character between the quotes
single_on : (c : ℕ) (cs : List ℕ) → nat_eq c single_quote ≡ false → IsClosed cs ⊎ (no_single_quote cs ≡ true) →
    IsClosed (c ∷ cs) ⊎ (no_single_quote (c ∷ cs) ≡ true)
single_on c cs e (inl closed) = inl (record {
  text = c ∷ closed.text;
  rest = closed.rest;
  split = closed.split;
  free = rw e closed.free;
  is = ap (λ t. c ∷ t) closed.is;
  goes = closed.goes;
})
single_on c cs e (inr free) = inr (rw e free)

left_on : (i : Inner) (cs : List ℕ) (is : List Inner) → (cs ≡ flat_map inner_text is) ⊎ (cs ≡ flat_map inner_text is ++ backslash ∷ []) →
    (inner_text i ++ cs ≡ flat_map inner_text (i ∷ is)) ⊎ (inner_text i ++ cs ≡ flat_map inner_text (i ∷ is) ++ backslash ∷ [])
left_on i cs is (inl e) = inl (ap (λ t. inner_text i ++ t) e)
left_on i cs is (inr e) =
    inr (ap (λ t. inner_text i ++ t) e ∙ sym (append_assoc (inner_text i) (flat_map inner_text is) (backslash ∷ [])))

inner_on : (i : Inner) (cs : List ℕ) → is_inner i ≡ true → IsClosedBy cs ⊎ IsLeftOpen cs → IsClosedBy (inner_text i ++ cs) ⊎ IsLeftOpen (inner_text i ++ cs)
inner_on i cs e (inl closed) = inl (record {
  inners = i ∷ closed.inners;
  rest = closed.rest;
  split = closed.split;
  sound = rw e closed.sound;
  is = ap (λ t. inner_text i ++ t) closed.is
      ∙ sym (append_assoc (inner_text i) (flat_map inner_text closed.inners ++ double_quote ∷ []) closed.rest)
      ∙ ap (λ t. t ++ closed.rest) (sym (append_assoc (inner_text i) (flat_map inner_text closed.inners) (double_quote ∷ [])));
  goes = closed.goes;
})
inner_on i cs e (inr open_) = inr (record {
  inners = i ∷ open_.inners;
  sound = rw e open_.sound;
  is = left_on i cs open_.inners open_.is;
})

-- ---- a character that begins a piece, or a quote that stays open

record Begins (cs : List ℕ) : Type 0 where
  piece : Piece
  rest : List ℕ
  split : Split
  sound : is_piece piece ≡ true
  is : cs ≡ piece_text piece ++ rest
  goes : GoesOn rest split

record Opens (cs : List ℕ) : Type 0 where
  tail : Tail
  sound : is_tail tail ≡ true
  is : cs ≡ tail_text tail

begun_single : (cs : List ℕ) → IsClosed cs ⊎ (no_single_quote cs ≡ true) → Begins (single_quote ∷ cs) ⊎ Opens (single_quote ∷ cs)
begun_single cs (inl closed) = inl (record {
  piece = single closed.text;
  rest = closed.rest;
  split = closed.split;
  sound = closed.free;
  is = ap (λ t. single_quote ∷ t) closed.is;
  goes = closed.goes;
})
begun_single cs (inr free) = inr (record { tail = single_tail cs; sound = free; is = refl })

opens_double : (cs : List ℕ) (is : List Inner) → list_all is_inner is ≡ true → (cs ≡ flat_map inner_text is) ⊎ (cs ≡ flat_map inner_text is ++ backslash ∷ []) →
    Opens (double_quote ∷ cs)
opens_double cs is sound (inl e) = record { tail = double_tail is; sound = sound; is = ap (λ t. double_quote ∷ t) e }
opens_double cs is sound (inr e) = record { tail = cut_tail is; sound = sound; is = ap (λ t. double_quote ∷ t) e }

begun_double : (cs : List ℕ) → IsClosedBy cs ⊎ IsLeftOpen cs → Begins (double_quote ∷ cs) ⊎ Opens (double_quote ∷ cs)
begun_double cs (inl closed) = inl (record {
  piece = double closed.inners;
  rest = closed.rest;
  split = closed.split;
  sound = closed.sound;
  is = ap (λ t. double_quote ∷ t) closed.is;
  goes = closed.goes;
})
begun_double cs (inr open_) = inr (opens_double cs open_.inners open_.sound open_.is)

begun_one : (c : ℕ) (cs : List ℕ) → is_trimmed_off c ≡ false → nat_eq c single_quote ≡ false → nat_eq c double_quote ≡ false → Told cs →
    Begins (c ∷ cs) ⊎ Opens (c ∷ cs)
begun_one c cs b s d t = inl (record {
  piece = one c;
  rest = cs;
  split = t.in_word.0;
  sound = simp (b, s, d);
  is = refl;
  goes = t.in_word.1;
})

begun : (c : ℕ) (cs : List ℕ) → is_trimmed_off c ≡ false → Told cs → Begins (c ∷ cs) ⊎ Opens (c ∷ cs)
begun c cs b t =
    elim (cases_Bool (nat_eq c single_quote)) [
      | inl e ↦ subst (λ q. Begins (q ∷ cs) ⊎ Opens (q ∷ cs)) (sym (eqb-true c single_quote e)) (begun_single cs t.in_single)
      | inr s ↦ elim (cases_Bool (nat_eq c double_quote)) [
        | inl e ↦ subst (λ q. Begins (q ∷ cs) ⊎ Opens (q ∷ cs)) (sym (eqb-true c double_quote e)) (begun_double cs t.in_double)
        | inr d ↦ begun_one c cs b s d t
      ]
    ]

-- ---- what the characters say in each place

says_by : (cs : List ℕ) → Begins cs ⊎ Opens cs → (split : Split) × SaysWords cs split
says_by cs (inl b) = (letters_onto (piece_means b.piece) b.split, subst (λ t. SaysWords t (letters_onto (piece_means b.piece) b.split)) (sym b.is) (word b.piece b.sound b.goes))
says_by cs (inr o) = (Err 0, subst (λ t. SaysWords t (Err 0)) (sym o.is) (open_quote o.tail o.sound))

goes_by : (cs : List ℕ) → Begins cs ⊎ Opens cs → (split : Split) × GoesOn cs split
goes_by cs (inl b) = (letters_onto (piece_means b.piece) b.split, subst (λ t. GoesOn t (letters_onto (piece_means b.piece) b.split)) (sym b.is) (more b.piece b.sound b.goes))
goes_by cs (inr o) = (Err 0, subst (λ t. GoesOn t (Err 0)) (sym o.is) (open_in_word o.tail o.sound))

outside_on : (c : ℕ) (cs : List ℕ) → Told cs → (split : Split) × SaysWords (c ∷ cs) split
outside_on c cs t =
    elim (cases_Bool (is_trimmed_off c)) [
      | inl e ↦ (t.outside.0, blank c e t.outside.1)
      | inr e ↦ says_by (c ∷ cs) (begun c cs e t)
    ]

in_word_on : (c : ℕ) (cs : List ℕ) → Told cs → (split : Split) × GoesOn (c ∷ cs) split
in_word_on c cs t =
    elim (cases_Bool (is_trimmed_off c)) [
      | inl e ↦ (word_ended t.outside.0, gap c e t.outside.1)
      | inr e ↦ goes_by (c ∷ cs) (begun c cs e t)
    ]

-- a single quote closes
closed_single : (cs : List ℕ) → Told cs → IsClosed (single_quote ∷ cs)
closed_single cs t = record { text = []; rest = cs; split = t.in_word.0; free = refl; is = refl; goes = t.in_word.1 }

in_single_on : (c : ℕ) (cs : List ℕ) → Told cs → IsClosed (c ∷ cs) ⊎ (no_single_quote (c ∷ cs) ≡ true)
in_single_on c cs t =
    elim (cases_Bool (nat_eq c single_quote)) [
      | inl e ↦ inl (subst (λ q. IsClosed (q ∷ cs)) (sym (eqb-true c single_quote e)) (closed_single cs t))
      | inr e ↦ single_on c cs e t.in_single
    ]

closed_double : (cs : List ℕ) → Told cs → IsClosedBy (double_quote ∷ cs)
closed_double cs t = record { inners = []; rest = cs; split = t.in_word.0; sound = refl; is = refl; goes = t.in_word.1 }

in_double_on : (c : ℕ) (cs : List ℕ) → Told cs → IsClosedBy (c ∷ cs) ⊎ IsLeftOpen (c ∷ cs)
in_double_on c cs t =
    elim (cases_Bool (nat_eq c double_quote)) [
      | inl e ↦ inl (subst (λ q. IsClosedBy (q ∷ cs)) (sym (eqb-true c double_quote e)) (closed_double cs t))
      | inr d ↦ elim (cases_Bool (nat_eq c backslash)) [
        | inl e ↦ subst (λ q. IsClosedBy (q ∷ cs) ⊎ IsLeftOpen (q ∷ cs)) (sym (eqb-true c backslash e)) t.in_escape
        | inr b ↦ inner_on (plain c) cs (simp (d, b)) t.in_double
      ]
    ]

in_escape_on : (c : ℕ) (cs : List ℕ) → Told cs → IsClosedBy (backslash ∷ c ∷ cs) ⊎ IsLeftOpen (backslash ∷ c ∷ cs)
in_escape_on c cs t =
    elim (cases_Bool (is_escapable c)) [
      | inl e ↦ inner_on (escaped c) cs e t.in_double
      | inr e ↦ inner_on (unescaped c) cs (ap not e) t.in_double
    ]

told : (cs : List ℕ) → Told cs
told [] = record {
  outside = (Ok [], nothing);
  in_word = (Ok ([] ∷ []), word_end);
  in_single = inr refl;
  in_double = inr (record { inners = []; sound = refl; is = inl refl });
  in_escape = inr (record { inners = []; sound = refl; is = inr refl });
}
told (c ∷ cs) = let t = told cs in record {
  outside = outside_on c cs t;
  in_word = in_word_on c cs t;
  in_single = in_single_on c cs t;
  in_double = in_double_on c cs t;
  in_escape = in_escape_on c cs t;
}

pub each_text_is_laid : EachTextIsLaid
each_text_is_laid cs =
    let t = told cs in
    subst (λ split. SaysWords cs split) (sym (said cs t.outside.0 t.outside.1)) t.outside.1

pub quoted_is_one_word : QuotedIsOneWord
quoted_is_one_word cs h =
    said _ _ (subst (λ t. SaysWords t (letters_onto (map quoted cs) (Ok ([] ∷ [])))) (append-nil (piece_text (single cs))) (word (single cs) h word_end))
    ∙ onto-Ok (map quoted cs) []
