-- Words that are read again.
use Rattle.std.proofs.Common.{◌≡◌, ◌∙◌, ℕ, Bool, true, false, cond, not, List, [], ◌∷◌, ◌++◌, map, Some, Ok, refl, ap, subst, append-nil}
use Rattle.std.specs.List.{flat_map, list_all, AllByRecursion as Each}
use Rattle.std.specs.Str.{chars, IsUtf8, encode_utf8_all}
use Rattle.std.proofs.lemmas.Bool.{and_from, and_parts}
use Rattle.std.proofs.lemmas.Str.{chars-append, chars-nil, chars-encodes, encodes-chars, scalars-chars}
use lib.Utf8.{scalar, scalars, encode}
use Rattle.rb_causes.specs.Signs.{space, double_quote, backslash}
use Rattle.rb_causes.specs.Texts.{joined}
use Rattle.rb_causes.specs.Words.{Split, is_escapable, quoted, letters_onto, onto_one, word_ended, words_in, word_text, texts_of, words_of}
use Rattle.rb_causes.specs.Laid.{Inner, inner_text, inner_means, is_inner, Piece, piece_text, piece_means, is_piece, SaysWords, GoesOn}
use Rattle.rb_causes.specs.Laid as laid
use Rattle.rb_causes.specs.declared.letter.Letter.{Letter}
use Rattle.rb_causes.proofs.Laid.{one_reading}
use Rattle.rb_export_laws.proofs.Lines.{flat_same}
use Rattle.rb_export.specs.Words.{escaped, quoted_chars, word_quoted, words_text}

-- ---- one word in double quotes

-- a character as it stands between double quotes
abbrev inner_by : Bool → ℕ → Inner
inner_by b c = cond b (laid.escaped c) (laid.plain c)

abbrev inner_of : ℕ → Inner
inner_of c = inner_by (is_escapable c) c

written_by : (b : Bool) (c : ℕ)
    → inner_text (inner_by b c) ≡ cond b (backslash ∷ c ∷ []) (c ∷ [])
written_by true c = refl
written_by false c = refl

means_by : (b : Bool) (c : ℕ) → inner_means (inner_by b c) ≡ quoted c ∷ []
means_by true c = refl
means_by false c = refl

inner_is : (b : Bool) (c : ℕ) → is_escapable c ≡ b → is_inner (inner_by b c) ≡ true
inner_is true c is = is
inner_is false c is = ap not is

inners_written : (cs : List ℕ)
    → flat_map inner_text (map inner_of cs) ≡ flat_map escaped cs
inners_written cs =
    flat_same inner_text inner_of escaped (λ c. written_by (is_escapable c) c) cs

inners_mean : (cs : List ℕ) → flat_map inner_means (map inner_of cs) ≡ map quoted cs
inners_mean [] = refl
inners_mean (c ∷ cs) =
    ap (λ ls. ls ++ flat_map inner_means (map inner_of cs)) (means_by (is_escapable c) c)
    ∙ ap (λ ls. quoted c ∷ ls) (inners_mean cs)

inners_are : (cs : List ℕ) → list_all is_inner (map inner_of cs) ≡ true
inners_are [] = refl
inners_are (c ∷ cs) =
    and_from (is_inner (inner_of c)) (list_all is_inner (map inner_of cs))
    (inner_is (is_escapable c) c refl) (inners_are cs)

abbrev piece_of : List ℕ → Piece
piece_of cs = laid.double (map inner_of cs)

piece_written : (cs : List ℕ) → piece_text (piece_of cs) ≡ quoted_chars cs
piece_written cs = ap (λ t. double_quote ∷ (t ++ double_quote ∷ [])) (inners_written cs)

letters_front : (ls w : List Letter) (ws : List (List Letter))
    → letters_onto ls (Ok (w ∷ ws)) ≡ Ok ((ls ++ w) ∷ ws)
letters_front [] w ws = refl
letters_front (l ∷ ls) w ws = ap (onto_one l) (letters_front ls w ws)

-- the word that a piece says, in front of others
piece_says : (cs : List ℕ) (ws : List (List Letter))
    → letters_onto (piece_means (piece_of cs)) (Ok ([] ∷ ws)) ≡ Ok (map quoted cs ∷ ws)
piece_says cs ws =
    letters_front (piece_means (piece_of cs)) [] ws
    ∙ ap (λ l. Ok (l ∷ ws)) (append-nil (piece_means (piece_of cs)) ∙ inners_mean cs)

-- ---- words in double quotes

moved : (a b : List ℕ) (s t : Split) → a ≡ b → s ≡ t → SaysWords a s → SaysWords b t
moved a b s t p q h = subst (λ x. SaysWords x t) p (subst (λ x. SaysWords a x) q h)

says_words : (css : List (List ℕ))
    → SaysWords (joined space (map quoted_chars css)) (Ok (map (map quoted) css))
says_words [] = laid.nothing
says_words (cs ∷ []) =
    moved (piece_text (piece_of cs) ++ []) (quoted_chars cs)
    (letters_onto (piece_means (piece_of cs)) (Ok ([] ∷ []))) (Ok (map quoted cs ∷ []))
    (append-nil (piece_text (piece_of cs)) ∙ piece_written cs) (piece_says cs [])
    (laid.word (piece_of cs) (inners_are cs) laid.word_end)
says_words (cs ∷ ds ∷ css) =
    let rest = joined space (map quoted_chars (ds ∷ css)) in
    moved (piece_text (piece_of cs) ++ (space ∷ rest)) (quoted_chars cs ++ (space ∷ rest))
    (letters_onto (piece_means (piece_of cs))
    (word_ended (Ok (map (map quoted) (ds ∷ css)))))
    (Ok (map quoted cs ∷ map (map quoted) (ds ∷ css)))
    (ap (λ t. t ++ (space ∷ rest)) (piece_written cs))
    (piece_says cs (map (map quoted) (ds ∷ css)))
    (laid.word (piece_of cs) (inners_are cs) (laid.gap space refl (says_words (ds ∷ css))))

joined_read : (css : List (List ℕ))
    → words_in (joined space (map quoted_chars css)) ≡ Ok (map (map quoted) css)
joined_read css = one_reading (joined space (map quoted_chars css)) _ (says_words css)

-- ---- as bytes

scalars_by : (b : Bool) (c : ℕ) (more : List ℕ) → scalar c ≡ true → scalars more ≡ true
    → scalars (cond b (backslash ∷ c ∷ []) (c ∷ []) ++ more) ≡ true
scalars_by true c more h g = and_from (scalar c) (scalars more) h g
scalars_by false c more h g = and_from (scalar c) (scalars more) h g

escaped_scalars : (cs : List ℕ) → scalars cs ≡ true → scalars (flat_map escaped cs) ≡ true
escaped_scalars [] h = refl
escaped_scalars (c ∷ cs) h =
    let parts = and_parts (scalar c) (scalars cs) h in
    scalars_by (is_escapable c) c (flat_map escaped cs) parts.0 (escaped_scalars cs parts.1)

joined_scalars : (xs ys : List ℕ) → scalars xs ≡ true → scalars ys ≡ true → scalars (xs ++ ys)
    ≡ true
joined_scalars [] ys h g = g
joined_scalars (x ∷ xs) ys h g =
    let parts = and_parts (scalar x) (scalars xs) h in
    and_from (scalar x) (scalars (xs ++ ys)) parts.0 (joined_scalars xs ys parts.1 g)

quoted_scalars : (cs : List ℕ) → scalars cs ≡ true → scalars (quoted_chars cs) ≡ true
quoted_scalars cs h =
    joined_scalars (flat_map escaped cs) (double_quote ∷ []) (escaped_scalars cs h) refl

word_chars : (w : List ℕ) → IsUtf8 w → chars (word_quoted w) ≡ quoted_chars (chars w)
word_chars w h =
    chars-encodes (quoted_chars (chars w)) (quoted_scalars (chars w) (scalars-chars w h))

word_utf8 : (w : List ℕ) → IsUtf8 w → IsUtf8 (word_quoted w)
word_utf8 w h = (quoted_chars (chars w), (quoted_scalars (chars w) (scalars-chars w h), refl))

space_chars : (ys : List ℕ) → chars (space ∷ ys) ≡ space ∷ chars ys
unfolding encode chars
space_chars ys = chars-append (space ∷ []) ys ((space ∷ []), (refl, refl))

words_chars : (ws : List (List ℕ)) → Each IsUtf8 ws
    → chars (words_text ws) ≡ joined space (map quoted_chars (map chars ws))
words_chars [] h = chars-nil
words_chars (w ∷ []) h = word_chars w h.0
words_chars (w ∷ v ∷ ws) h =
    chars-append (word_quoted w) (space ∷ words_text (v ∷ ws)) (word_utf8 w h.0)
    ∙ ap (λ cs. cs ++ chars (space ∷ words_text (v ∷ ws))) (word_chars w h.0)
    ∙ ap (λ cs. quoted_chars (chars w) ++ cs)
    (space_chars (words_text (v ∷ ws)) ∙ ap (λ cs. space ∷ cs) (words_chars (v ∷ ws) h.1))

signs_of : (cs : List ℕ) → map (λ l. l.sign) (map quoted cs) ≡ cs
signs_of [] = refl
signs_of (c ∷ cs) = ap (λ ds. c ∷ ds) (signs_of cs)

texts_back : (ws : List (List ℕ)) → Each IsUtf8 ws
    → map word_text (map (map quoted) (map chars ws)) ≡ ws
texts_back [] h = refl
texts_back (w ∷ ws) h =
    ap (λ cs. encode_utf8_all cs ∷ map word_text (map (map quoted) (map chars ws)))
    (signs_of (chars w))
    ∙ ap (λ t. t ∷ map word_text (map (map quoted) (map chars ws))) (encodes-chars w h.0)
    ∙ ap (λ ts. w ∷ ts) (texts_back ws h.1)

-- words of UTF-8 are read again as these words
pub words_again : (ws : List (List ℕ)) → Each IsUtf8 ws → words_of (words_text ws) ≡ Some ws
words_again ws h =
    ap (λ cs. texts_of (words_in cs)) (words_chars ws h)
    ∙ ap texts_of (joined_read (map chars ws))
    ∙ ap Some (texts_back ws h)
