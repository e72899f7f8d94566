-- What is pushed, piece by piece.
use Rattle.std.proofs.Common.{◌≡◌, ◌∙◌, ◌-◌, ℕ, List, [], ◌∷◌, ◌++◌, length, take, drop, Option, Some, None, Result, Ok, Err, IfOk, OnOk, refl, ap, sym, append_assoc, append-nil, arith}
use Rattle.std.proofs.lemmas.List.{take_all}
use Rattle.std.proofs.lemmas.Str.{encodes-append}
use Rattle.std.specs.List.{flat_map}
use Rattle.std.specs.Str.{encode_utf8_all}
use lib.Utf8.{encode}
use Rattle.rb_causes.specs.Signs.{space, double_quote}
use Rattle.rb_canon.specs.Values.{CanonTree}
use Rattle.rb_export.specs.Policies.{Entry}
use Rattle.rb_export.specs.Slots.{in_front}
use Rattle.rb_export.specs.Words.{word_quoted, word_behind, words_text}

-- ---- entries

alone_in_front : (key : List ℕ) (value : Option CanonTree) (es : List Entry)
    → in_front key value es ≡ in_front key value [] ++ es
alone_in_front key None es = refl
alone_in_front key (Some value) es = refl

-- the entry of a slot, and those that the later pushes add
pub pushed_first : {T E : Type 0} (r : Result T E) (after between before : List Entry)
    (key : List ℕ) (value : Option CanonTree) (more : List Entry)
    → between ≡ before ++ in_front key value [] → OnOk r (after ≡ between ++ more)
    → OnOk r (after ≡ before ++ in_front key value more)
pushed_first (Ok x) after between before key value more first h =
    h ∙ ap (λ es. es ++ more) first ∙ append_assoc before (in_front key value []) more
    ∙ ap (λ es. before ++ es) (sym (alone_in_front key value more))
pushed_first (Err e) after between before key value more first h = tt

-- ---- texts

-- characters between two double quotes
pub quoted_bytes : (before opened inside after body : List ℕ)
    → opened ≡ before ++ encode double_quote → inside ≡ opened ++ encode_utf8_all body
    → after ≡ inside ++ encode double_quote
    → after ≡ before ++ encode_utf8_all (double_quote ∷ (body ++ double_quote ∷ []))
quoted_bytes before opened inside after body p q r =
    let sign = encode double_quote in
    let text = encode_utf8_all body in
    r ∙ ap (λ xs. xs ++ sign) (q ∙ ap (λ xs. xs ++ text) p)
    ∙ append_assoc (before ++ sign) text sign
    ∙ append_assoc before sign (text ++ sign)
    ∙ ap (λ xs. before ++ (sign ++ xs))
    (ap (λ xs. text ++ xs) (sym (append-nil sign)) ∙ sym (encodes-append body (double_quote ∷ [])))

joined_words : (first : List ℕ) (behind : List (List ℕ))
    → words_text (first ∷ behind) ≡ word_quoted first ++ flat_map word_behind behind
joined_words first [] = sym (append-nil (word_quoted first))
joined_words first (next ∷ behind) =
    ap (λ t. word_quoted first ++ space ∷ t) (joined_words next behind)

-- the first word, and those behind it
pub words_all : {E : Type 0} (r : Result (List ℕ) E) (words behind : List (List ℕ))
    (first : List ℕ) → words ≡ first ∷ behind
    → IfOk r (λ t. t ≡ word_quoted first ++ flat_map word_behind behind)
    → IfOk r (λ t. t ≡ words_text words)
words_all (Ok t) words behind first is h = h ∙ sym (ap words_text is ∙ joined_words first behind)
words_all (Err e) words behind first is h = tt

-- all that stands behind the first item
pub behind_first : {A : Type 0} (xs : List A) (x : A) (rest : List A) → xs ≡ x ∷ rest
    → take (length xs - 1) (drop 1 xs) ≡ rest
behind_first xs x rest is =
    let count : length xs - 1 ≡ length rest = omega (arith, ap length is) in
    ap (λ n. take n (drop 1 xs)) count ∙ ap (λ ys. take (length rest) (drop 1 ys)) is
    ∙ take_all (length rest) rest (omega arith)

-- ---- texts parted by blanks

pub part_first : {T E : Type 0} (r : Result T E) (after between before part rest : List ℕ)
    → between ≡ before ++ part → OnOk r (after ≡ between ++ space ∷ rest)
    → OnOk r (after ≡ before ++ (part ++ space ∷ rest))
part_first (Ok t) after between before part rest first h =
    h ∙ ap (λ xs. xs ++ space ∷ rest) first ∙ append_assoc before part (space ∷ rest)
part_first (Err e) after between before part rest first h = tt

pub part_behind : {T E : Type 0} (r : Result T E) (after between before part rest : List ℕ)
    → between ≡ before ++ space ∷ part → OnOk r (after ≡ between ++ space ∷ rest)
    → OnOk r (after ≡ before ++ space ∷ (part ++ space ∷ rest))
part_behind (Ok t) after between before part rest first h =
    h ∙ ap (λ xs. xs ++ space ∷ rest) first ∙ append_assoc before (space ∷ part) (space ∷ rest)
part_behind (Err e) after between before part rest first h = tt
