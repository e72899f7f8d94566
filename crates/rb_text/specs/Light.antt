-- Patterns that are light: their repetitions by numbers do not multiply up.
use Rattle.std.specs.Prelude.{ℕ, Bool, not, ◌&&◌, ◌||◌, nat_eq, nat_le, List, [], ◌∷◌, map, zip, drop, if◌then◌else◌}
use Rattle.std.specs.List.{list_all, flat_map, sum_by}
use Rattle.rb_causes.specs.Numbers.{is_digit, number_of}
use Rattle.rb_causes.specs.Signs.{asterisk, closing_brace, closing_parenthesis, opening_brace, plus, question_mark}
use Rattle.rb_causes.specs.Texts.{pieces, is_trimmed_off}

-- one of ) } * + ? or a space, tab, CR or LF: a brace directly behind it could repeat a repetition
abbrev pub ends_a_part : ℕ → Bool
ends_a_part b =
    (nat_eq b closing_parenthesis || nat_eq b closing_brace)
    || (nat_eq b asterisk || nat_eq b plus) || (nat_eq b question_mark || is_trimmed_off b)

-- no brace opens directly behind one of these
abbrev pub opens_safely : List ℕ → Bool
opens_safely text =
    list_all (λ (before, b). not (ends_a_part before && nat_eq b opening_brace))
    (zip text (drop 1 text))

-- what stands behind the first opening brace
abbrev pub behind_brace : List ℕ → List ℕ
behind_brace [] = []
behind_brace (b ∷ bs) = if nat_eq b opening_brace then bs else behind_brace bs

-- the texts in braces: from an opening brace to the next closing one, or to the end
abbrev pub in_braces : List ℕ → List (List ℕ)
in_braces text = map behind_brace (pieces (λ b. nat_eq b closing_brace) text)

-- the runs of digits of a text, with empty ones between bytes that are none
abbrev pub digit_runs : List ℕ → List (List ℕ)
digit_runs text = pieces (λ b. not (is_digit b)) text

-- the sum of all numbers in braces
abbrev pub brace_total : List ℕ → ℕ
brace_total text = sum_by number_of (flat_map digit_runs (in_braces text))

-- no brace repeats a repetition, and the numbers in braces add up to at most 100
abbrev pub is_light : List ℕ → Bool
is_light text = opens_safely text && nat_le (brace_total text) 100
