-- Quoted texts on one row, from behind the opening quote on.
use Rattle.std.specs.Prelude.{ℕ, suc, ◌||◌, Bool, true, false, nat_eq, List, [], ◌∷◌, Option, Some, None, if◌then◌else◌}
use Rattle.rb_causes.specs.Signs.{tab, line_feed, double_quote, single_quote, backslash}

-- What was quoted, whether each escape in it is known, and what stands behind the closing quote;
-- None where the row ends before it.
pub record Quoted : Type 0 where
  pub text : List ℕ
  pub good : Bool
  pub rest : Option (List ℕ)

abbrev pub onto : ℕ → Quoted → Quoted
onto b q = record q { text = b ∷ q.text }

abbrev pub closed : List ℕ → Quoted
closed rest = record { text = []; good = true; rest = Some rest }

abbrev pub unclosed : Quoted
unclosed = record { text = []; good = true; rest = None }

-- a single-quoted text: two quotes are one, and one alone closes. Does a quote stand just before?
abbrev pub single_from : Bool → List ℕ → Quoted
single_from false [] = unclosed
single_from true [] = closed []
single_from false (b ∷ bs) =
    if nat_eq b single_quote then single_from true bs else onto b (single_from false bs)
single_from true (b ∷ bs) =
    if nat_eq b single_quote then onto single_quote (single_from false bs) else closed (b ∷ bs)

-- the letters of the two escapes that stand for another sign
abbrev pub letter_n : ℕ
letter_n = 110

abbrev pub letter_t : ℕ
letter_t = 116

-- what stands for an escape: n, t, a backslash and a double quote are known
abbrev pub escaped : ℕ → Option ℕ
escaped b =
    if nat_eq b letter_n then Some line_feed
    else if nat_eq b letter_t then Some tab
    else if nat_eq b backslash then Some backslash
    else if nat_eq b double_quote then Some double_quote
    else None

-- an unknown escape stands for its own byte, and spoils the text
abbrev pub onto_escaped : ℕ → Option ℕ → Quoted → Quoted
onto_escaped b None q = record { text = b ∷ q.text; good = false; rest = q.rest }
onto_escaped b (Some c) q = onto c q

-- a double-quoted text. Does a backslash stand just before?
abbrev pub double_from : Bool → List ℕ → Quoted
double_from escape [] = unclosed
double_from true (b ∷ bs) = onto_escaped b (escaped b) (double_from false bs)
double_from false (b ∷ bs) =
    if nat_eq b double_quote then closed bs
    else if nat_eq b backslash then double_from true bs
    else onto b (double_from false bs)

-- how many bytes come before the first that is one of two
abbrev pub run_len : ℕ → ℕ → List ℕ → ℕ
run_len c d [] = 0
run_len c d (b ∷ bs) = if nat_eq b c || nat_eq b d then 0 else suc (run_len c d bs)
