-- A text has no more words than characters, and no more characters than bytes.
use Rattle.std.proofs.Common.{◌≡◌, ◌≤◌, ◌<◌, ℕ, ◌+◌, Bool, true, false, cond, List, [], ◌∷◌, length, map, chars, encode_utf8, Some, Ok, Err, ap, unwrap_or, arith, length-append}
use Rattle.std.specs.Str.{encode_utf8_all}
use Rattle.std.specs.Prelude.{IsUtf8}
use Rattle.std.proofs.lemmas.List.{length-map}
use Rattle.std.proofs.lemmas.Str.{encodes-chars, length-encode, len_utf8_bounds}
use Rattle.rb_causes.specs.Words.{Split, next, ends_word, kept, onto_one, letters_onto, word_ended, at_end, words_from, words_in, word_text, texts_of, words_of}
use Rattle.rb_causes.specs.declared.letter.Letter.{Letter}
use Rattle.rb_causes.specs.declared.splitting.WordPlace.{WordPlace}
use Rattle.rb_causes.specs.declared.splitting.WordPlace.TheVariants.{Outside, Bare, Single, Double, Escape}

-- how many words are told, or stand before an open quote
abbrev size : Split → ℕ
size (Ok ws) = length ws
size (Err before) = before

-- how many words have begun whose first character was read already
abbrev begun : WordPlace → ℕ
begun Outside = 0
begun Bare = 1
begun Single = 1
begun Double = 1
begun Escape = 1

one_at_most : (place : WordPlace) → begun place ≤ 1
one_at_most Outside = omega arith
one_at_most Bare = omega arith
one_at_most Single = omega arith
one_at_most Double = omega arith
one_at_most Escape = omega arith

onto_one_size : (m : Letter) (r : Split) (n : ℕ) → 0 < n → size r ≤ n → size (onto_one m r) ≤ n
onto_one_size m (Ok []) n some h = omega arith
onto_one_size m (Ok (w ∷ ws)) n some h = h
onto_one_size m (Err before) n some h = h

onto_size : (ms : List Letter) (r : Split) (n : ℕ) → 0 < n → size r ≤ n → size (letters_onto ms r) ≤ n
onto_size [] r n some h = h
onto_size (m ∷ ms) r n some h = onto_one_size m (letters_onto ms r) n some (onto_size ms r n some h)

ended_size : (r : Split) (n : ℕ) → size r ≤ n → size (word_ended r) ≤ n + 1
ended_size (Ok ws) n h = omega arith
ended_size (Err before) n h = omega arith

put_size : (e : Bool) (new : List Letter) (r : Split) (n : ℕ) → 0 < n → size r ≤ n
    → size (cond e (word_ended r) (letters_onto new r)) ≤ n + 1
put_size true new r n some h = ended_size r n h
put_size false new r n some h =
    let small : size (letters_onto new r) ≤ n = onto_size new r n some h in omega arith

end_size : (place : WordPlace) → size (at_end place) ≤ begun place
end_size Outside = omega arith
end_size Bare = omega arith
end_size Single = omega arith
end_size Double = omega arith
end_size Escape = omega arith

-- Behind one character at most one word more has begun than the characters left.
behind_size : (cs : List ℕ) (place : WordPlace) → size (words_from place cs) ≤ length cs + begun place
    → size (words_from place cs) ≤ length cs + 1
behind_size cs place h = omega (arith, h, one_at_most place)

outside_size : (c : ℕ) (cs : List ℕ) → size (words_from (next Outside c) cs) ≤ length cs + 1
    → size (words_from Outside (c ∷ cs)) ≤ length cs + 1
outside_size c cs h =
    onto_size (kept Outside c) (words_from (next Outside c) cs) (length cs + 1) (omega arith) h

inside_size : (place : WordPlace) (c : ℕ) (cs : List ℕ)
    → size (words_from (next place c) cs) ≤ length cs + 1
    → size (words_from place (c ∷ cs)) ≤ (length cs + 1) + 1
inside_size place c cs h = put_size (ends_word place c) (kept place c) (words_from (next place c) cs)
    (length cs + 1) (omega arith) h

from_size : (cs : List ℕ) (place : WordPlace) → size (words_from place cs) ≤ length cs + begun place
from_size [] place = omega (arith, end_size place)
from_size (c ∷ cs) Outside =
    let all = outside_size c cs
    (behind_size cs (next Outside c) (from_size cs (next Outside c))) in omega (arith, all)
from_size (c ∷ cs) Bare = let all = inside_size Bare c cs
    (behind_size cs (next Bare c) (from_size cs (next Bare c))) in omega (arith, all)
from_size (c ∷ cs) Single = let all = inside_size Single c cs
    (behind_size cs (next Single c) (from_size cs (next Single c))) in omega (arith, all)
from_size (c ∷ cs) Double = let all = inside_size Double c cs
    (behind_size cs (next Double c) (from_size cs (next Double c))) in omega (arith, all)
from_size (c ∷ cs) Escape = let all = inside_size Escape c cs
    (behind_size cs (next Escape c) (from_size cs (next Escape c))) in omega (arith, all)

-- each word has a character
pub words_few : (cs : List ℕ) (ws : List (List Letter)) → words_in cs ≡ Ok ws
    → length ws ≤ length cs
words_few cs ws e = let same : size (words_in cs) ≡ length ws = ap size e in
    let high : size (words_in cs) ≤ length cs + 0 = from_size cs Outside in omega arith

-- so has each before an open quote
pub before_few : (cs : List ℕ) (before : ℕ) → words_in cs ≡ Err before → before ≤ length cs
before_few cs before e = let same : size (words_in cs) ≡ before = ap size e in
    let high : size (words_in cs) ≤ length cs + 0 = from_size cs Outside in omega arith

spelled_longer : (cs : List ℕ) → length cs ≤ length (encode_utf8_all cs)
spelled_longer [] = omega arith
spelled_longer (c ∷ cs) = omega (
  arith,
  spelled_longer cs,
  length-append (encode_utf8 c) (encode_utf8_all cs),
  length-encode c,
  (len_utf8_bounds c).0,
)

-- each character takes a byte or more
pub chars_fewer : (text : List ℕ) → IsUtf8 text → length (chars text) ≤ length text
chars_fewer text utf8 = let same : length (encode_utf8_all (chars text)) ≡ length text =
    ap length (encodes-chars text utf8) in omega (arith, same, spelled_longer (chars text))

texts_by : (split : Split) (ws : List (List ℕ)) → texts_of split ≡ Some ws
    → length ws ≤ size split
texts_by (Ok words) ws e = let same : length (map word_text words) ≡ length ws =
    ap (λ told. length (unwrap_or told [])) e in omega (arith, same, length-map words word_text)
texts_by (Err before) ws e = absurd (grind (arith, e))

-- a text has no more words than bytes
pub texts_fewer : (text : List ℕ) (ws : List (List ℕ)) → IsUtf8 text → words_of text ≡ Some ws
    → length ws ≤ length text
texts_fewer text ws utf8 e =
    let high : size (words_in (chars text)) ≤ length (chars text) + 0 =
    from_size (chars text) Outside in
    omega (arith, high, texts_by (words_in (chars text)) ws e, chars_fewer text utf8)
