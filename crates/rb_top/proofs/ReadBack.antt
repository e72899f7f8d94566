-- Lines that are written with their words are read back.
use Rattle.std.proofs.Common.{◌≡◌, ◌≤◌, ◌^◌, ℕ, Bool, true, false, not, ◌||◌, nat_lt, List, [], ◌∷◌, ◌++◌, length, map, Some, refl, ap, ◌∙◌, arith, inl, inr, append-nil}
use Rattle.std.specs.Prelude.{codes}
use Rattle.std.specs.Str.{is_utf8}
use Rattle.std.specs.List.{list_all, list_any, slice_split}
use Rattle.std.proofs.lemmas.Bool.{cases_Bool, ltb-true, and_parts, not-true}
use Rattle.rb_causes.specs.Signs.{space, comma, line_feed}
use Rattle.rb_causes.specs.Texts.{joined, is_blank, is_line_feed, is_empty}
use Rattle.rb_top.specs.Laid.{access_word, line_text, is_word, is_listed_name, is_whole, IsWritable, AreWritable, file_text, LinesAreReadBack}
use Rattle.rb_top.specs.Lines.{as_job, by_word, is_comment, read_line, read_lines}
use Rattle.rb_top.specs.Reading.{script_after, empty_script}
use Rattle.rb_top.specs.Texts.{is_comma, spaced, with_spaces}
use Rattle.rb_top.specs.declared.script.DrillLine.{DrillLine}
use Rattle.rb_top.specs.declared.script.DrillLine.TheVariants.{Skip, Node, Access, Job, Step, Run}

-- ---- texts that are parted at a sign

module _ (test : ℕ → Bool) where
  split_last : (w : List ℕ) → list_all (λ b. not (test b)) w ≡ true → slice_split test w ≡ w ∷ []
  split_last [] h = refl
  split_last (b ∷ bs) h =
      let parts = and_parts (not (test b)) (list_all (λ c. not (test c)) bs) h in
      rw (not-true (test b) parts.0, split_last bs parts.1) refl

  split_word : (w rest : List ℕ) (y : ℕ) → list_all (λ b. not (test b)) w ≡ true → test y ≡ true → slice_split test (w ++ y ∷ rest) ≡ w ∷ slice_split test rest
  split_word [] rest y h is = rw is refl
  split_word (b ∷ bs) rest y h is =
      let parts = and_parts (not (test b)) (list_all (λ c. not (test c)) bs) h in
      rw (not-true (test b) parts.0, split_word bs rest y parts.1 is) refl

  -- texts with a sign between them
  split_joined : (sign : ℕ) (x : List ℕ) (xs : List (List ℕ)) → test sign ≡ true → list_all (λ w. list_all (λ b. not (test b)) w) (x ∷ xs) ≡ true →
      slice_split test (joined sign (x ∷ xs)) ≡ x ∷ xs
  split_joined sign x [] is h = split_last x (and_parts (list_all (λ b. not (test b)) x) true h).0
  split_joined sign x (y ∷ ys) is h =
      let parts = and_parts (list_all (λ b. not (test b)) x) (list_all (λ w. list_all (λ b. not (test b)) w) (y ∷ ys)) h in
      split_word x (joined sign (y ∷ ys)) sign parts.0 is ∙ ap (λ ws. x ∷ ws) (split_joined sign y ys is parts.1)

-- words with one space between them
split_spaced : (w : List ℕ) (ws : List (List ℕ)) → list_all is_word (w ∷ ws) ≡ true → slice_split is_blank (w ++ with_spaces ws) ≡ w ∷ ws
split_spaced w [] h =
    let word = and_parts (is_word w) true h in
    let clean = and_parts (not (is_empty w)) (list_all (λ b. not (is_blank b)) w) word.0 in
    ap (slice_split is_blank) (append-nil w) ∙ split_last is_blank w clean.1
split_spaced w (v ∷ vs) h =
    let word = and_parts (is_word w) (list_all is_word (v ∷ vs)) h in
    let clean = and_parts (not (is_empty w)) (list_all (λ b. not (is_blank b)) w) word.0 in
    split_word is_blank w (v ++ with_spaces vs) space clean.1 refl ∙ ap (λ ws. w ∷ ws) (split_spaced v vs word.1)

none_empty : (ws : List (List ℕ)) → list_all is_word ws ≡ true → list_any is_empty ws ≡ false
none_empty [] h = refl
none_empty (w ∷ ws) h =
    let word = and_parts (is_word w) (list_all is_word ws) h in
    let some = and_parts (not (is_empty w)) (list_all (λ b. not (is_blank b)) w) word.0 in
    rw (not-true (is_empty w) some.0, none_empty ws word.1) refl

-- a line of words is read by the first of them
words_back : (w : List ℕ) (ws : List (List ℕ)) → is_utf8 (spaced (w ∷ ws)) ≡ true →
    (list_all is_blank (spaced (w ∷ ws)) || is_comment (spaced (w ∷ ws))) ≡ false → list_all is_word (w ∷ ws) ≡ true →
    read_line (spaced (w ∷ ws)) ≡ by_word w ws
words_back w ws utf8 some words = rw (utf8, some, split_spaced w ws words, none_empty (w ∷ ws) words) refl

-- ---- each kind of line

names_clean : (nodes : List (List ℕ)) → list_all is_listed_name nodes ≡ true → list_all (λ w. list_all (λ b. not (is_comma b)) w) nodes ≡ true
names_clean [] h = refl
names_clean (n ∷ ns) h =
    let parts = and_parts (is_listed_name n) (list_all is_listed_name ns) h in
    let clean = and_parts (not (is_empty n)) (list_all (λ b. not (is_comma b)) n) parts.0 in
    rw (clean.1, names_clean ns parts.1) refl

names_some : (nodes : List (List ℕ)) → list_all is_listed_name nodes ≡ true → list_any is_empty nodes ≡ false
names_some [] h = refl
names_some (n ∷ ns) h =
    let parts = and_parts (is_listed_name n) (list_all is_listed_name ns) h in
    let clean = and_parts (not (is_empty n)) (list_all (λ b. not (is_comma b)) n) parts.0 in
    rw (not-true (is_empty n) clean.0, names_some ns parts.1) refl

job_back : (id : List ℕ) (nodes : List (List ℕ)) → is_whole (Job id nodes) ≡ true → as_job id (slice_split is_comma (joined comma nodes)) ≡ Some (Job id nodes)
job_back id [] h = let never : ⊥ = cc in absurd never
job_back id (n ∷ ns) h =
    let named = (and_parts (nat_lt 0 (length (n ∷ ns))) (list_all is_listed_name (n ∷ ns)) h).1 in
    rw (split_joined is_comma comma n ns refl (names_clean (n ∷ ns) named), names_some (n ∷ ns) named) refl

access_back : (denies : Bool) (user node : List ℕ) → IsWritable (Access (record { denies = denies; user = user; node = node })) →
    read_line (spaced (access_word denies ∷ user ∷ node ∷ [])) ≡ Some (Access (record { denies = denies; user = user; node = node }))
access_back true user node h = words_back (codes "deny") (user ∷ node ∷ []) h.utf8 refl h.words
access_back false user node h = words_back (codes "allow") (user ∷ node ∷ []) h.utf8 refl h.words

step_back : (words : List (List ℕ)) → IsWritable (Step words) → read_line (line_text (Step words)) ≡ Some (Step words)
step_back [] h = let never : ⊥ = let whole : false ≡ true = h.whole in cc in absurd never
step_back (w ∷ ws) h = words_back (codes "step") (w ∷ ws) h.utf8 refl h.words

line_back : (line : DrillLine) → IsWritable line → read_line (line_text line) ≡ Some line
line_back Skip h = rw h.utf8 refl
line_back (Node name) h = words_back (codes "node") (name ∷ []) h.utf8 refl h.words
line_back (Access a) h = access_back a.denies a.user a.node h
line_back (Job id nodes) h = words_back (codes "job") (id ∷ joined comma nodes ∷ []) h.utf8 refl h.words ∙ job_back id nodes h.whole
line_back (Step words) h = step_back words h
line_back (Run r) h = words_back (codes "run") (r.user ∷ r.job ∷ []) h.utf8 refl h.words

-- ---- a file of lines

lines_clean : (lines : List DrillLine) → AreWritable lines → list_all (λ w. list_all (λ b. not (is_line_feed b)) w) (map line_text lines) ≡ true
lines_clean [] h = refl
lines_clean (line ∷ lines) h = rw (h.0.one_line, lines_clean lines h.1) refl

each_back : (lines : List DrillLine) → AreWritable lines → map read_line (map line_text lines) ≡ map Some lines
each_back [] h = refl
each_back (line ∷ lines) h = rw (line_back line h.0, each_back lines h.1) refl

file_back : (line : DrillLine) (lines : List DrillLine) → AreWritable (line ∷ lines) → read_lines (file_text (line ∷ lines)) ≡ map Some (line ∷ lines)
file_back line lines h =
    ap (map read_line) (split_joined is_line_feed line_feed (line_text line) (map line_text lines) refl (lines_clean (line ∷ lines) h))
    ∙ each_back (line ∷ lines) h

not_large : (n : ℕ) → n ≤ 2 ^ 20 → nat_lt (2 ^ 20) n ≡ false
not_large n h =
    elim (cases_Bool (nat_lt (2 ^ 20) n)) [
      | inl s ↦ absurd (omega (arith, ltb-true (2 ^ 20) n s, h))
      | inr d ↦ d
    ]

pub lines_are_read_back : LinesAreReadBack
lines_are_read_back line lines h small =
    rw (not_large (length (file_text (line ∷ lines))) small) (ap (script_after empty_script 1) (file_back line lines h))
