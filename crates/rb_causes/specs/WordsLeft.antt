-- What a reader of words has still to give.
use Rattle.std.specs.Prelude.{◌≡◌, ℕ, ◌+◌, List, [], ◌∷◌, ◌++◌, length, Ok, Err, if◌then◌else◌}
use Rattle.rb_causes.specs.Words.{Split, letters_onto, words_from, ends_word, kept}
use Rattle.rb_causes.specs.declared.letter.Letter.{Letter}
use Rattle.rb_causes.specs.declared.splitting.WordPlace.{WordPlace}
use Rattle.rb_causes.specs.declared.splitting.WordPlace.TheVariants.{Outside}

-- words in front of others
abbrev pub behind : List (List Letter) → Split → Split
behind words (Ok more) = Ok (words ++ more)
behind words (Err before) = Err (length words + before)

-- the words so far, the word at hand, and what the rest of the text makes of them
abbrev pub left : List (List Letter) → List Letter → WordPlace → List ℕ → Split
left words word place rest = behind words (letters_onto word (words_from place rest))

-- outside of words there is no word at hand
abbrev pub IsClear : WordPlace → List Letter → Type 0
IsClear place word = place ≡ Outside → word ≡ []

-- the words behind a character, and the word at hand
abbrev pub words_with : List (List Letter) → List Letter → WordPlace → ℕ → List (List Letter)
words_with words word place c = if ends_word place c then words ++ word ∷ [] else words

abbrev pub word_with : List Letter → WordPlace → ℕ → List Letter
word_with word place c = if ends_word place c then [] else word ++ kept place c
