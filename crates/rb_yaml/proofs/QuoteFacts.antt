-- Quoted texts, run by run.
use Rattle.std.proofs.Common.{◌≡◌, ℕ, ◌<◌, ◌≤◌, Bool, true, false, cond, ◌||◌, ◌&&◌, nat_eq, List, [], ◌∷◌, ◌++◌, length, get_or, take, drop, Option, Some, None, refl, ap, sym, ◌∙◌, subst, append_assoc, append-nil, add-zero, length-drop, IsCharBoundary, arith}
use Rattle.std.proofs.lemmas.Bool.Decides.{nat_tests}
use Rattle.std.proofs.lemmas.List.{get_or-drop}
use Rattle.std.proofs.Math.Bool.{and-false}
use Rattle.rb_yaml.specs.Rows.{begins}
use Rattle.rb_yaml.specs.Quotes.{Quoted, onto, closed, unclosed, run_len, single_from, double_from, escaped, onto_escaped}

-- a text with more at its front
abbrev pub with_front : List ℕ → Quoted → Quoted
with_front xs q = record { text = xs ++ q.text; good = q.good; rest = q.rest }

pub with_front-twice : (xs ys : List ℕ) (q : Quoted) → with_front xs (with_front ys q) ≡ with_front (xs ++ ys) q
with_front-twice xs ys q = ap (λ text. let made : Quoted = record { text = text; good = q.good; rest = q.rest } in made) (sym (append_assoc xs ys q.text))

-- ---- runs

single_cons : (t : Bool) (b : ℕ) (bs : List ℕ) → nat_eq b 39 ≡ t →
    single_from false bs ≡ with_front (take (run_len 39 39 bs) bs) (single_from false (drop (run_len 39 39 bs) bs)) →
    single_from false (b ∷ bs) ≡ with_front (take (run_len 39 39 (b ∷ bs)) (b ∷ bs)) (single_from false (drop (run_len 39 39 (b ∷ bs)) (b ∷ bs)))
single_cons true b bs h e = rw h (rw h refl)
single_cons false b bs h e = rw h (ap (onto b) e)

-- a run without a quote is the text's beginning
pub single_run : (bs : List ℕ) → single_from false bs ≡ with_front (take (run_len 39 39 bs) bs) (single_from false (drop (run_len 39 39 bs) bs))
single_run [] = refl
single_run (b ∷ bs) = single_cons (nat_eq b 39) b bs refl (single_run bs)

stop_cons : (t : Bool) (c d b : ℕ) (bs : List ℕ) → (nat_eq b c || nat_eq b d) ≡ t →
    (run_len c d bs < length bs → (nat_eq (get_or bs (run_len c d bs) 0) c || nat_eq (get_or bs (run_len c d bs) 0) d) ≡ true) →
    run_len c d (b ∷ bs) < length (b ∷ bs) → (nat_eq (get_or (b ∷ bs) (run_len c d (b ∷ bs)) 0) c || nat_eq (get_or (b ∷ bs) (run_len c d (b ∷ bs)) 0) d) ≡ true
stop_cons true c d b bs h more l = rw h h
stop_cons false c d b bs h more l = rw h (more (omega (arith, rw h at l)))

-- a run ends at one of the two
pub run_stop : (c d : ℕ) (bs : List ℕ) → run_len c d bs < length bs → (nat_eq (get_or bs (run_len c d bs) 0) c || nat_eq (get_or bs (run_len c d bs) 0) d) ≡ true
run_stop c d [] l = absurd (omega (arith, l))
run_stop c d (b ∷ bs) l = stop_cons (nat_eq b c || nat_eq b d) c d b bs refl (run_stop c d bs) l

one_of : (t : Bool) → (t || t) ≡ true → t ≡ true
one_of true h = refl
one_of false h = h

length-zero : (xs : List ℕ) → length xs ≡ 0 → xs ≡ []
length-zero [] h = refl
length-zero (x ∷ xs) h = absurd (omega (arith, h))

-- what follows a run is empty, or begins with one of the two
pub run_rest : (c d : ℕ) (bs : List ℕ) → 0 < length (drop (run_len c d bs) bs) →
    (nat_eq (get_or (drop (run_len c d bs) bs) 0 0) c || nat_eq (get_or (drop (run_len c d bs) bs) 0 0) d) ≡ true
run_rest c d bs l =
    let within : run_len c d bs < length bs = omega (arith, l, length-drop (run_len c d bs) bs) in
    ap (λ b. nat_eq b c || nat_eq b d) (get_or-drop (run_len c d bs) bs 0 0 ∙ ap (λ k. get_or bs k 0) (add-zero (run_len c d bs))) ∙ run_stop c d bs within

small_of : (b c d : ℕ) → c < 128 → d < 128 → (nat_eq b c || nat_eq b d) ≡ true → b < 128
small_of b c d lc ld h = grind (arith, nat_tests)

small_rest : (c d : ℕ) (more : List ℕ) → c < 128 → d < 128 → (0 < length more → (nat_eq (get_or more 0 0) c || nat_eq (get_or more 0 0) d) ≡ true) → get_or more 0 0 < 128
small_rest c d [] lc ld h = omega arith
small_rest c d (b ∷ bs) lc ld h = small_of b c d lc ld (h (omega arith))

-- so the text may be cut behind that byte
pub run_small : (c d : ℕ) (bs : List ℕ) → c < 128 → d < 128 → get_or (drop (run_len c d bs) bs) 0 0 < 128
run_small c d bs lc ld = small_rest c d (drop (run_len c d bs) bs) lc ld (run_rest c d bs)

-- ---- single quotes

single_go : (more : List ℕ) → 0 < length more → nat_eq (get_or more 0 0) 39 ≡ true → single_from false more ≡ single_from true (drop 1 more)
single_go [] l h = absurd (omega (arith, l))
single_go (b ∷ bs) l h = ap (λ t. cond t (single_from true bs) (onto b (single_from false bs))) h

single_after : (ys : List ℕ) → begins 39 ys ≡ true → single_from true ys ≡ onto 39 (single_from false (drop 1 ys))
single_after [] h = absurd (cc)
single_after (b ∷ bs) h = ap (λ t. cond t (onto 39 (single_from false bs)) (closed (b ∷ bs))) h

single_shut : (ys : List ℕ) → begins 39 ys ≡ false → single_from true ys ≡ closed ys
single_shut [] h = refl
single_shut (b ∷ bs) h = ap (λ t. cond t (onto 39 (single_from false bs)) (closed (b ∷ bs))) h

-- behind a run: the text so far, and a quote
single_behind : (all : Quoted) (out out1 rest front more behind : List ℕ) → front ≡ take (run_len 39 39 rest) rest → more ≡ drop (run_len 39 39 rest) rest →
    0 < length more → out1 ≡ out ++ front → behind ≡ drop 1 more → with_front out (single_from false rest) ≡ all → with_front out1 (single_from true behind) ≡ all
single_behind all out out1 rest front more behind is_front is_more l is_out1 is_behind same =
    let quote : nat_eq (get_or more 0 0) 39 ≡ true = subst (λ (xs : List ℕ). nat_eq (get_or xs 0 0) 39 ≡ true) (sym is_more) (one_of (nat_eq (get_or (drop (run_len 39 39 rest) rest) 0 0) 39) (run_rest 39 39 rest (subst (λ (xs : List ℕ). 0 < length xs) is_more l))) in
    let after : single_from false rest ≡ with_front front (single_from true behind) =
    single_run rest ∙ ap (λ xs. with_front xs (single_from false (drop (run_len 39 39 rest) rest))) (sym is_front)
    ∙ ap (λ xs. with_front front (single_from false xs)) (sym is_more) ∙ ap (with_front front) (single_go more l quote ∙ ap (single_from true) (sym is_behind)) in
    ap (λ xs. with_front xs (single_from true behind)) is_out1 ∙ sym (with_front-twice out front (single_from true behind)) ∙ ap (with_front out) (sym after) ∙ same

-- two quotes further
pub single_more : (all : Quoted) (out out1 out2 rest front more behind next : List ℕ) → front ≡ take (run_len 39 39 rest) rest → more ≡ drop (run_len 39 39 rest) rest →
    0 < length more → out1 ≡ out ++ front → behind ≡ drop 1 more → begins 39 behind ≡ true → out2 ≡ out1 ++ 39 ∷ [] → next ≡ drop 1 behind →
    with_front out (single_from false rest) ≡ all → with_front out2 (single_from false next) ≡ all
single_more all out out1 out2 rest front more behind next is_front is_more l is_out1 is_behind quote is_out2 is_next same =
    ap (λ xs. with_front xs (single_from false next)) is_out2 ∙ sym (with_front-twice out1 (39 ∷ []) (single_from false next))
    ∙ ap (with_front out1) (ap (λ xs. onto 39 (single_from false xs)) is_next ∙ sym (single_after behind quote))
    ∙ single_behind all out out1 rest front more behind is_front is_more l is_out1 is_behind same

-- the quote that closes
pub single_close : (all : Quoted) (out out1 rest front more behind : List ℕ) → front ≡ take (run_len 39 39 rest) rest → more ≡ drop (run_len 39 39 rest) rest →
    0 < length more → out1 ≡ out ++ front → behind ≡ drop 1 more → begins 39 behind ≡ false → with_front out (single_from false rest) ≡ all →
    record { text = out1; good = true; rest = Some behind } ≡ all
single_close all out out1 rest front more behind is_front is_more l is_out1 is_behind quote same =
    sym (ap (λ xs. let made : Quoted = record { text = xs; good = true; rest = Some behind } in made) (append-nil out1)) ∙ ap (with_front out1) (sym (single_shut behind quote))
    ∙ single_behind all out out1 rest front more behind is_front is_more l is_out1 is_behind same

-- no quote is left
pub single_open : (all : Quoted) (out out1 rest front more : List ℕ) → front ≡ take (run_len 39 39 rest) rest → more ≡ drop (run_len 39 39 rest) rest →
    length more ≡ 0 → out1 ≡ out ++ front → with_front out (single_from false rest) ≡ all → record { text = out1; good = true; rest = None } ≡ all
single_open all out out1 rest front more is_front is_more none is_out1 same =
    let after : single_from false rest ≡ with_front front unclosed =
    single_run rest ∙ ap (λ xs. with_front xs (single_from false (drop (run_len 39 39 rest) rest))) (sym is_front)
    ∙ ap (λ xs. with_front front (single_from false xs)) (sym is_more ∙ length-zero more none) in
    sym (ap (λ xs. let made : Quoted = record { text = xs; good = true; rest = None } in made) (append-nil out1))
    ∙ ap (λ xs. with_front xs unclosed) is_out1 ∙ sym (with_front-twice out front unclosed) ∙ ap (with_front out) (sym after) ∙ same

-- a text may be cut where a run ends
pub run_cut : (c d : ℕ) (bs : List ℕ) (n : ℕ) → c < 128 → d < 128 → n ≡ run_len c d bs → n ≤ length bs → IsCharBoundary bs n
run_cut c d bs n lc ld is_n le = (
  le,
  λ l big.
      let stop = run_stop c d bs (omega (arith, l, is_n)) in
      let same : get_or bs n 0 ≡ get_or bs (run_len c d bs) 0 = ap (λ k. get_or bs k 0) is_n in
      let small = small_of (get_or bs (run_len c d bs) 0) c d lc ld stop in
      absurd (omega (arith, big, same, small)),
)

pub run_small_at : (c d : ℕ) (bs : List ℕ) (n : ℕ) (rest : List ℕ) → c < 128 → d < 128 → n ≡ run_len c d bs → rest ≡ drop n bs → get_or rest 0 0 < 128
run_small_at c d bs n rest lc ld is_n is_rest =
    subst (λ (xs : List ℕ). get_or xs 0 0 < 128) (sym (is_rest ∙ ap (λ k. drop k bs) is_n)) (run_small c d bs lc ld)

-- ---- double quotes

-- a text with more at its front, and whether that was good
abbrev pub with_part : List ℕ → Bool → Quoted → Quoted
with_part xs good q = record { text = xs ++ q.text; good = good && q.good; rest = q.rest }

pub with_part-front : (xs ys : List ℕ) (good : Bool) (q : Quoted) → with_part xs good (with_front ys q) ≡ with_part (xs ++ ys) good q
with_part-front xs ys good q = ap (λ text. let made : Quoted = record { text = text; good = good && q.good; rest = q.rest } in made) (sym (append_assoc xs ys q.text))

double_cons : (t : Bool) (b : ℕ) (bs : List ℕ) → (nat_eq b 34 || nat_eq b 92) ≡ t →
    double_from false bs ≡ with_front (take (run_len 34 92 bs) bs) (double_from false (drop (run_len 34 92 bs) bs)) →
    double_from false (b ∷ bs) ≡ with_front (take (run_len 34 92 (b ∷ bs)) (b ∷ bs)) (double_from false (drop (run_len 34 92 (b ∷ bs)) (b ∷ bs)))
double_cons true b bs h e = rw h refl
double_cons false b bs h e =
    let not_close : nat_eq b 34 ≡ false = grind (arith, nat_tests) in
    let not_escape : nat_eq b 92 ≡ false = grind (arith, nat_tests) in
    rw h (rw not_close (rw not_escape (ap (onto b) e)))

pub double_run : (bs : List ℕ) → double_from false bs ≡ with_front (take (run_len 34 92 bs) bs) (double_from false (drop (run_len 34 92 bs) bs))
double_run [] = refl
double_run (b ∷ bs) = double_cons (nat_eq b 34 || nat_eq b 92) b bs refl (double_run bs)

double_here : (all : Quoted) (out out1 rest front more : List ℕ) (good : Bool) → front ≡ take (run_len 34 92 rest) rest → more ≡ drop (run_len 34 92 rest) rest →
    out1 ≡ out ++ front → with_part out good (double_from false rest) ≡ all → with_part out1 good (double_from false more) ≡ all
double_here all out out1 rest front more good is_front is_more is_out1 same =
    let after : double_from false rest ≡ with_front front (double_from false more) =
    double_run rest ∙ ap (λ xs. with_front xs (double_from false (drop (run_len 34 92 rest) rest))) (sym is_front) ∙ ap (λ xs. with_front front (double_from false xs)) (sym is_more) in
    ap (λ xs. with_part xs good (double_from false more)) is_out1 ∙ sym (with_part-front out front good (double_from false more)) ∙ ap (with_part out good) (sym after) ∙ same

good_true : (good : Bool) → (good && true) ≡ good
good_true true = refl
good_true false = refl

part_end : (out : List ℕ) (good : Bool) (rest : Option (List ℕ)) → with_part out good (record { text = []; good = true; rest = rest }) ≡ record { text = out; good = good; rest = rest }
part_end out good rest =
    ap (λ xs. let made : Quoted = record { text = xs; good = good && true; rest = rest } in made) (append-nil out)
    ∙ ap (λ g. let made : Quoted = record { text = out; good = g; rest = rest } in made) (good_true good)

-- no sign is left
pub double_open : (all : Quoted) (out out1 rest front more : List ℕ) (good : Bool) → front ≡ take (run_len 34 92 rest) rest → more ≡ drop (run_len 34 92 rest) rest →
    length more ≡ 0 → out1 ≡ out ++ front → with_part out good (double_from false rest) ≡ all → record { text = out1; good = good; rest = None } ≡ all
double_open all out out1 rest front more good is_front is_more none is_out1 same =
    sym (part_end out1 good None) ∙ ap (λ xs. with_part out1 good (double_from false xs)) (sym (length-zero more none))
    ∙ double_here all out out1 rest front more good is_front is_more is_out1 same

double_at_close : (more : List ℕ) → begins 34 more ≡ true → double_from false more ≡ closed (drop 1 more)
double_at_close [] h = absurd (cc)
double_at_close (b ∷ bs) h = ap (λ t. cond t (closed bs) (cond (nat_eq b 92) (double_from true bs) (onto b (double_from false bs)))) h

-- the quote that closes
pub double_close : (all : Quoted) (out out1 rest front more behind : List ℕ) (good : Bool) → front ≡ take (run_len 34 92 rest) rest → more ≡ drop (run_len 34 92 rest) rest →
    out1 ≡ out ++ front → behind ≡ drop 1 more → begins 34 more ≡ true → with_part out good (double_from false rest) ≡ all →
    record { text = out1; good = good; rest = Some behind } ≡ all
double_close all out out1 rest front more behind good is_front is_more is_out1 is_behind quote same =
    sym (part_end out1 good (Some behind)) ∙ ap (with_part out1 good) (ap closed is_behind ∙ sym (double_at_close more quote))
    ∙ double_here all out out1 rest front more good is_front is_more is_out1 same

double_at_escape : (more : List ℕ) → 0 < length more → begins 34 more ≡ false → (nat_eq (get_or more 0 0) 34 || nat_eq (get_or more 0 0) 92) ≡ true → double_from false more ≡ double_from true (drop 1 more)
double_at_escape [] l h s = absurd (omega (arith, l))
double_at_escape (b ∷ bs) l h s =
    let slash : nat_eq b 92 ≡ true = sym (ap (λ t. t || nat_eq b 92) h) ∙ s in
    ap (λ t. cond t (closed bs) (cond (nat_eq b 92) (double_from true bs) (onto b (double_from false bs)))) h
    ∙ ap (λ t. cond t (double_from true bs) (onto b (double_from false bs))) slash

double_behind : (all : Quoted) (out out1 rest front more behind : List ℕ) (good : Bool) → front ≡ take (run_len 34 92 rest) rest → more ≡ drop (run_len 34 92 rest) rest →
    0 < length more → out1 ≡ out ++ front → behind ≡ drop 1 more → begins 34 more ≡ false → with_part out good (double_from false rest) ≡ all →
    with_part out1 good (double_from true behind) ≡ all
double_behind all out out1 rest front more behind good is_front is_more l is_out1 is_behind quote same =
    let stop : (nat_eq (get_or more 0 0) 34 || nat_eq (get_or more 0 0) 92) ≡ true =
    subst (λ (xs : List ℕ). (nat_eq (get_or xs 0 0) 34 || nat_eq (get_or xs 0 0) 92) ≡ true) (sym is_more) (run_rest 34 92 rest (subst (λ (xs : List ℕ). 0 < length xs) is_more l)) in
    ap (with_part out1 good) (ap (double_from true) is_behind ∙ sym (double_at_escape more l quote stop))
    ∙ double_here all out out1 rest front more good is_front is_more is_out1 same

-- a backslash at the end
pub double_cut : (all : Quoted) (out out1 rest front more behind : List ℕ) (good : Bool) → front ≡ take (run_len 34 92 rest) rest → more ≡ drop (run_len 34 92 rest) rest →
    0 < length more → out1 ≡ out ++ front → behind ≡ drop 1 more → begins 34 more ≡ false → length behind ≡ 0 → with_part out good (double_from false rest) ≡ all →
    record { text = out1; good = good; rest = None } ≡ all
double_cut all out out1 rest front more behind good is_front is_more l is_out1 is_behind quote none same =
    sym (part_end out1 good None) ∙ ap (λ xs. with_part out1 good (double_from true xs)) (sym (length-zero behind none))
    ∙ double_behind all out out1 rest front more behind good is_front is_more l is_out1 is_behind quote same

double_known : (behind : List ℕ) (c : ℕ) → 0 < length behind → escaped (get_or behind 0 0) ≡ Some c → double_from true behind ≡ onto c (double_from false (drop 1 behind))
double_known [] c l h = absurd (omega (arith, l))
double_known (b ∷ bs) c l h = ap (λ o. onto_escaped b o (double_from false bs)) h

-- a known escape further
pub double_more : (all : Quoted) (out out1 out2 rest front more behind next : List ℕ) (good : Bool) (c : ℕ) → front ≡ take (run_len 34 92 rest) rest → more ≡ drop (run_len 34 92 rest) rest →
    0 < length more → out1 ≡ out ++ front → behind ≡ drop 1 more → begins 34 more ≡ false → 0 < length behind → escaped (get_or behind 0 0) ≡ Some c → out2 ≡ out1 ++ c ∷ [] → next ≡ drop 1 behind →
    with_part out good (double_from false rest) ≡ all → with_part out2 good (double_from false next) ≡ all
double_more all out out1 out2 rest front more behind next good c is_front is_more l is_out1 is_behind quote some known is_out2 is_next same =
    ap (λ xs. with_part xs good (double_from false next)) is_out2 ∙ sym (with_part-front out1 (c ∷ []) good (double_from false next))
    ∙ ap (with_part out1 good) (ap (λ xs. onto c (double_from false xs)) is_next ∙ sym (double_known behind c some known))
    ∙ double_behind all out out1 rest front more behind good is_front is_more l is_out1 is_behind quote same

abbrev known_of : Bool → Bool → Bool → Bool → Option ℕ
known_of n t s q = cond n (Some 10) (cond t (Some 9) (cond s (Some 92) (cond q (Some 34) None)))

unknown_tests : (n t s q : Bool) → known_of n t s q ≡ None → (q ≡ false) × (s ≡ false)
unknown_tests true t s q h = cc
unknown_tests false true s q h = cc
unknown_tests false false true q h = cc
unknown_tests false false false true h = cc
unknown_tests false false false false h = (refl, refl)

double_plain : (b : ℕ) (bs : List ℕ) → nat_eq b 34 ≡ false → nat_eq b 92 ≡ false → double_from false (b ∷ bs) ≡ onto b (double_from false bs)
double_plain b bs not_close not_escape =
    ap (λ t. cond t (closed bs) (cond (nat_eq b 92) (double_from true bs) (onto b (double_from false bs)))) not_close
    ∙ ap (λ t. cond t (double_from true bs) (onto b (double_from false bs))) not_escape

double_unknown : (out behind : List ℕ) (good : Bool) → 0 < length behind → escaped (get_or behind 0 0) ≡ None → with_part out good (double_from true behind) ≡ with_part out false (double_from false behind)
double_unknown out [] good l h = absurd (omega (arith, l))
double_unknown out (b ∷ bs) good l h =
    let q = double_from false bs in
    let tests = unknown_tests (nat_eq b 110) (nat_eq b 116) (nat_eq b 92) (nat_eq b 34) h in
    ap (λ o. with_part out good (onto_escaped b o q)) h
    ∙ ap (λ g. let made : Quoted = record { text = out ++ b ∷ q.text; good = g; rest = q.rest } in made) (and-false good)
    ∙ ap (with_part out false) (sym (double_plain b bs tests.0 tests.1))

-- an unknown escape
pub double_spoiled : (all : Quoted) (out out1 rest front more behind : List ℕ) (good : Bool) → front ≡ take (run_len 34 92 rest) rest → more ≡ drop (run_len 34 92 rest) rest →
    0 < length more → out1 ≡ out ++ front → behind ≡ drop 1 more → begins 34 more ≡ false → 0 < length behind → escaped (get_or behind 0 0) ≡ None →
    with_part out good (double_from false rest) ≡ all → with_part out1 false (double_from false behind) ≡ all
double_spoiled all out out1 rest front more behind good is_front is_more l is_out1 is_behind quote some unknown same =
    sym (double_unknown out1 behind good some unknown) ∙ double_behind all out out1 rest front more behind good is_front is_more l is_out1 is_behind quote same

known_tests : (n t s q : Bool) (c : ℕ) → known_of n t s q ≡ Some c → c < 128
known_tests true t s q c h = let e : 10 ≡ c = cc in omega (arith, e)
known_tests false true s q c h = let e : 9 ≡ c = cc in omega (arith, e)
known_tests false false true q c h = let e : 92 ≡ c = cc in omega (arith, e)
known_tests false false false true c h = let e : 34 ≡ c = cc in omega (arith, e)
known_tests false false false false c h = absurd (cc)

-- what stands for an escape is ASCII, and so is the escape
pub escaped_small : (b c : ℕ) → escaped b ≡ Some c → c < 128
escaped_small b c h = known_tests (nat_eq b 110) (nat_eq b 116) (nat_eq b 92) (nat_eq b 34) c h

known_byte : (b : ℕ) (n t s q : Bool) (c : ℕ) → nat_eq b 110 ≡ n → nat_eq b 116 ≡ t → nat_eq b 92 ≡ s → nat_eq b 34 ≡ q → known_of n t s q ≡ Some c → b < 128
known_byte b true t s q c hn ht hs hq h = grind (arith, nat_tests)
known_byte b false true s q c hn ht hs hq h = grind (arith, nat_tests)
known_byte b false false true q c hn ht hs hq h = grind (arith, nat_tests)
known_byte b false false false true c hn ht hs hq h = grind (arith, nat_tests)
known_byte b false false false false c hn ht hs hq h = absurd (cc)

pub escape_small : (b c : ℕ) → escaped b ≡ Some c → b < 128
escape_small b c h = known_byte b (nat_eq b 110) (nat_eq b 116) (nat_eq b 92) (nat_eq b 34) c refl refl refl refl h
