-- A literal's lines, one after the other.
use Rattle.std.proofs.Common.{◌≡◌, ℕ, ◌+◌, ◌<◌, Bool, false, ◌&&◌, List, [], ◌∷◌, ◌++◌, drop, length, get_or, Result, Ok, Err, refl, ap, sym, ◌∙◌, append_assoc}
use Rattle.std.proofs.lemmas.List.{at_drop_more}
use Rattle.rb_causes.specs.Signs.{line_feed}
use Rattle.rb_yaml.specs.declared.flaw.Fault.{Fault}
use Rattle.rb_yaml.specs.Faults.{◌>>=◌}
use Rattle.rb_yaml.specs.Rows.{Row, is_blank_row}
use Rattle.rb_yaml.specs.Literals.{taken_off, ends_literal, is_misplaced, literal_rows}

abbrev pub Read : Type 0
Read = Result (List ℕ × List Row) Fault

-- a reading with more text before it
abbrev pub with_text : List ℕ → Read → Read
with_text text read = read >>= λ more. Ok (text ++ more.0, more.1)

text_onto : (out text : List ℕ) (read : Read) →
    with_text out (read >>= λ more. Ok (text ++ line_feed ∷ more.0, more.1))
    ≡ with_text (out ++ text ++ line_feed ∷ []) read
text_onto out text (Ok more) =
    ap (λ xs. let pair : List ℕ × List Row = (xs, more.1) in Ok pair)
    (sym (append_assoc out text (10 ∷ more.0)) ∙ sym (append_assoc (out ++ text) (10 ∷ []) more.0))
text_onto out text (Err e) = refl

inside : (floor indent : ℕ) (leading : Bool) (row : Row) (rows : List Row) →
    ends_literal floor indent row ≡ false → is_misplaced indent leading row ≡ false →
    literal_rows floor indent leading (row ∷ rows)
    ≡ (literal_rows floor indent (leading && is_blank_row row) rows
    >>= λ more. Ok (taken_off indent row ++ line_feed ∷ more.0, more.1))
inside floor indent leading row rows h k = rw (h, k) refl

-- one line further
pub literal_more : (all : Read) (floor indent : ℕ) (leading next : Bool) (line : Row) (lines : List Row)
    (at : ℕ) (out more : List ℕ) → at < length lines → line ≡ get_or lines at line →
    ends_literal floor indent line ≡ false → is_misplaced indent leading line ≡ false →
    next ≡ (leading && is_blank_row line) → more ≡ out ++ taken_off indent line ++ line_feed ∷ [] →
    with_text out (literal_rows floor indent leading (drop at lines)) ≡ all →
    with_text more (literal_rows floor indent next (drop (at + 1) lines)) ≡ all
literal_more all floor indent leading next line lines at out more l is_line on in_it is_next is_more same =
    let read = literal_rows floor indent in
    let here : read leading (drop at lines) ≡ read leading (line ∷ drop (at + 1) lines) =
    at_drop_more (read leading) lines at line l
    ∙ ap (λ row. read leading (row ∷ drop (at + 1) lines)) (sym is_line) in
    ap (λ xs. with_text xs (read next (drop (at + 1) lines))) is_more
    ∙ ap (λ b. with_text (out ++ taken_off indent line ++ line_feed ∷ []) (read b (drop (at + 1) lines)))
    is_next
    ∙ sym (text_onto out (taken_off indent line) (read (leading && is_blank_row line) (drop (at + 1) lines)))
    ∙ ap (with_text out) (sym (inside floor indent leading line (drop (at + 1) lines) on in_it) ∙ sym here)
    ∙ same
