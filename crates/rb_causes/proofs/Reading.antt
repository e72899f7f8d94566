-- How a reader of words goes on, character by character.
use Rattle.std.proofs.Common.{◌≡◌, ◌<◌, ℕ, ◌+◌, Bool, true, false, cond, List, [], ◌∷◌, ◌++◌, length, Ok, Err, refl, sym, ap, ◌∙◌, arith, append_assoc, length-append, get_or, drop}
use Rattle.std.proofs.Math.Nat.{add-zero}
use Rattle.rb_causes.specs.Words.{Split, next, ends_word, kept, onto_one, letters_onto, word_ended, at_end, words_from}
use Rattle.rb_causes.specs.WordsLeft.{behind, left, words_with, word_with}
use Rattle.rb_causes.specs.declared.letter.Letter.{Letter}
use Rattle.rb_causes.specs.declared.splitting.WordPlace.{WordPlace}
use Rattle.rb_causes.specs.declared.splitting.WordPlace.TheVariants.{Bare}
use Rattle.rb_causes.proofs.Lists.{drop_item}

pub onto-append : (xs ys : List Letter) (r : Split) → letters_onto (xs ++ ys) r ≡ letters_onto xs (letters_onto ys r)
onto-append [] ys r = refl
onto-append (x ∷ xs) ys r = ap (onto_one x) (onto-append xs ys r)

pub onto-Err : (xs : List Letter) (before : ℕ) → letters_onto xs (Err before) ≡ Err before
onto-Err [] before = refl
onto-Err (x ∷ xs) before = ap (onto_one x) (onto-Err xs before)

pub onto-Ok : (xs : List Letter) (ws : List (List Letter)) → letters_onto xs (Ok ([] ∷ ws)) ≡ Ok (xs ∷ ws)
onto-Ok [] ws = refl
onto-Ok (x ∷ xs) ws = ap (onto_one x) (onto-Ok xs ws)

-- a word that ends here
ended_behind : (words : List (List Letter)) (word : List Letter) (r : Split) → behind words (letters_onto word (word_ended r)) ≡ behind (words ++ word ∷ []) r
ended_behind words word (Ok ws) = ap (behind words) (onto-Ok word ws) ∙ ap Ok (sym (append_assoc words (word ∷ []) ws))
ended_behind words word (Err before) = ap (behind words) (onto-Err word (before + 1)) ∙ ap Err (omega (arith, length-append words (word ∷ [])))

step_by : (e : Bool) (words : List (List Letter)) (word new : List Letter) (r : Split) →
    behind words (letters_onto word (cond e (word_ended r) (letters_onto new r))) ≡ behind (cond e (words ++ word ∷ []) words) (letters_onto (cond e [] (word ++ new)) r)
step_by true words word new r = ended_behind words word r
step_by false words word new r = ap (behind words) (sym (onto-append word new r))

-- one character
pub goes_on : (words words' : List (List Letter)) (word word' : List Letter) (place place' : WordPlace) (c : ℕ) (rest : List ℕ) →
    words' ≡ words_with words word place c → word' ≡ word_with word place c → place' ≡ next place c →
    left words' word' place' rest ≡ left words word place (c ∷ rest)
goes_on words words' word word' place place' c rest e f g =
    rw (e, f, g) (sym (step_by (ends_word place c) words word (kept place c) (words_from (next place c) rest)))

-- the end of the text
pub end_bare : (words : List (List Letter)) (word : List Letter) → left words word Bare [] ≡ Ok (words ++ word ∷ [])
end_bare words word = ap (behind words) (onto-Ok word [])

pub end_open : (words : List (List Letter)) (word : List Letter) (place : WordPlace) → at_end place ≡ Err 0 → left words word place [] ≡ Err (length words)
end_open words word place e = ap (λ r. behind words (letters_onto word r)) e ∙ ap (behind words) (onto-Err word 0) ∙ ap Err (add-zero (length words))

-- one character of the text
pub goes_on_at : (words words' : List (List Letter)) (word word' : List Letter) (place place' : WordPlace) (cs : List ℕ) (i c : ℕ) (whole : Split) →
    i < length cs → c ≡ get_or cs i c → words' ≡ words_with words word place c → word' ≡ word_with word place c → place' ≡ next place c →
    left words word place (drop i cs) ≡ whole → left words' word' place' (drop (i + 1) cs) ≡ whole
goes_on_at words words' word word' place place' cs i c whole below is e f g inv =
    goes_on words words' word word' place place' c (drop (i + 1) cs) e f g
    ∙ ap (left words word place) (sym (drop_item cs i c below is)) ∙ inv
