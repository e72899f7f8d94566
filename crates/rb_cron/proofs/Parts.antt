-- A text parted at several signs, and items that are read one by one.
use Rattle.std.proofs.Common.{◌≡◌, ℕ, ◌+◌, ◌<◌, ◌≤◌, Bool, true, false, ◌||◌, nat_eq, not, List, [], ◌∷◌, ◌++◌, append_assoc, length, map, drop, filter, get_or, Option, Some, None, Bor, cond, arith, refl, ap, sym, ◌∙◌}
use Rattle.std.proofs.lemmas.List.{drop_more, drop_all}
use Rattle.rb_causes.specs.Texts.{pieces, onto_first, is_empty, is_trimmed_off}
use Rattle.rb_cron.specs.Crontab.{parts_of_each, kept_word, with_year}
use Rattle.rb_cron.specs.Fields.{Range, field_item, items_of, with_run}
use Rattle.rb_cron.specs.Values.{runs_before}
use Rattle.rb_cron.specs.declared.run.Run.{Run}

by_first : (b : ℕ) (at_p : Bool) (parts : List (List ℕ)) → (x : List ℕ) × (xs : List (List ℕ)) × (parts ≡ x ∷ xs)
    → (x : List ℕ) × (xs : List (List ℕ)) × (cond at_p ([] ∷ parts) (onto_first b parts) ≡ x ∷ xs)
by_first b true parts some = ([], parts, refl)
by_first b false [] some = absurd (let e = some.2 in cc)
by_first b false (x ∷ xs) some = (b ∷ x, xs, refl)

some_parts : (p : ℕ → Bool) (text : List ℕ) → (x : List ℕ) × (xs : List (List ℕ)) × (pieces p text ≡ x ∷ xs)
some_parts p [] = ([], [], refl)
some_parts p (b ∷ bs) = by_first b (p b) (pieces p bs) (some_parts p bs)

onto_more : (b : ℕ) (parts rest : List (List ℕ)) → (x : List ℕ) × (xs : List (List ℕ)) × (parts ≡ x ∷ xs) → onto_first b parts ++ rest ≡ onto_first b (parts ++ rest)
onto_more b [] rest some = absurd (let e = some.2 in cc)
onto_more b (x ∷ xs) rest some = refl

-- the parts of the first text, which has one at least
onto_parts : (b q : ℕ) (first : List ℕ) (rest : List (List ℕ)) → nat_eq b q ≡ false
    → pieces (λ x. nat_eq x q) (b ∷ first) ++ rest ≡ onto_first b (pieces (λ x. nat_eq x q) first ++ rest)
onto_parts b q first rest other =
    ap (λ k. cond k ([] ∷ pieces (λ x. nat_eq x q) first) (onto_first b (pieces (λ x. nat_eq x q) first)) ++ rest) other
    ∙ onto_more b (pieces (λ x. nat_eq x q) first) rest (some_parts (λ x. nat_eq x q) first)

in_parts : (q b : ℕ) (texts all : List (List ℕ)) (at_p at_q : Bool) → nat_eq b q ≡ at_q → (x : List ℕ) × (xs : List (List ℕ)) × (texts ≡ x ∷ xs)
    → parts_of_each q texts ≡ all → parts_of_each q (cond at_p ([] ∷ texts) (onto_first b texts)) ≡ cond (at_p || at_q) ([] ∷ all) (onto_first b all)
in_parts q b texts all true at_q g some h = ap (λ k. [] ∷ k) h
in_parts q b [] all false at_q g some h = absurd (let e = some.2 in cc)
in_parts q b (x ∷ xs) all false true g some h =
    ap (λ k. cond k ([] ∷ pieces (λ n. nat_eq n q) x) (onto_first b (pieces (λ n. nat_eq n q) x)) ++ parts_of_each q xs) g ∙ ap (λ k. [] ∷ k) h
in_parts q b (x ∷ xs) all false false g some h = onto_parts b q x (parts_of_each q xs) g ∙ ap (onto_first b) h

-- a text parted at a sign, and its parts at another, are the text parted at both
pub parted_both : (p : ℕ → Bool) (q : ℕ) (text : List ℕ) → parts_of_each q (pieces p text) ≡ pieces (λ b. p b || nat_eq b q) text
parted_both p q [] = refl
parted_both p q (b ∷ bs) = in_parts q b (pieces p bs) (pieces (λ n. p n || nat_eq n q) bs) (p b) (nat_eq b q) refl (some_parts p bs) (parted_both p q bs)

pub same_parts : (p q : ℕ → Bool) → ((b : ℕ) → p b ≡ q b) → (text : List ℕ) → pieces p text ≡ pieces q text
same_parts p q same [] = refl
same_parts p q same (b ∷ bs) =
    ap (λ k. cond k ([] ∷ pieces p bs) (onto_first b (pieces p bs))) (same b) ∙ ap (λ ps. cond (q b) ([] ∷ ps) (onto_first b ps)) (same_parts p q same bs)

-- an item more
pub one_item : (range : Range) (items : List (Bor (List ℕ))) (i : ℕ) (d : Bor (List ℕ)) → i < length items
    → items_of range (map (λ k. k.now) (drop i items)) ≡ with_run (field_item range (get_or items i d).now) (items_of range (map (λ k. k.now) (drop (i + 1) items)))
one_item range items i d below = ap (λ rest. items_of range (map (λ (k : Bor (List ℕ)). k.now) rest)) (drop_more items i d below)

pub item_fails : (range : Range) (items : List (Bor (List ℕ))) (i : ℕ) (d : Bor (List ℕ)) (runs : List Run) (all : Option (List Run)) → i < length items
    → field_item range (get_or items i d).now ≡ None → runs_before runs (items_of range (map (λ k. k.now) (drop i items))) ≡ all → None ≡ all
item_fails range items i d runs all below fails inv =
    sym (ap (runs_before runs) (one_item range items i d below ∙ ap (λ r. with_run r (items_of range (map (λ (k : Bor (List ℕ)). k.now) (drop (i + 1) items)))) fails)) ∙ inv

put_more : (runs : List Run) (run : Run) (rest : Option (List Run)) → runs_before runs (with_run (Some run) rest) ≡ runs_before (runs ++ run ∷ []) rest
put_more runs run None = refl
put_more runs run (Some more) = ap Some (sym (append_assoc runs (run ∷ []) more))

pub item_read : (range : Range) (items : List (Bor (List ℕ))) (i : ℕ) (d : Bor (List ℕ)) (runs more : List Run) (run : Run) (all : Option (List Run)) → i < length items
    → field_item range (get_or items i d).now ≡ Some run → more ≡ runs ++ run ∷ [] → runs_before runs (items_of range (map (λ k. k.now) (drop i items))) ≡ all
    → runs_before more (items_of range (map (λ k. k.now) (drop (i + 1) items))) ≡ all
item_read range items i d runs more run all below is pushed inv =
    let rest = items_of range (map (λ (k : Bor (List ℕ)). k.now) (drop (i + 1) items)) in
    ap (λ k. runs_before k rest) pushed ∙ sym (put_more runs run rest)
    ∙ sym (ap (runs_before runs) (one_item range items i d below ∙ ap (λ r. with_run r rest) is)) ∙ inv

or_again : (a b c d : Bool) → (((a || b) || c) || d) ≡ ((a || b) || (c || d))
or_again true b c d = refl
or_again false true c d = refl
or_again false false true d = refl
or_again false false false d = refl

-- parted at space, tab, CR and LF, one after the other
pub all_blanks : (text : List ℕ) (spaces tabs returns : List (List ℕ)) → spaces ≡ pieces (λ b. nat_eq b 32) text → tabs ≡ parts_of_each 9 spaces
    → returns ≡ parts_of_each 13 tabs → parts_of_each 10 returns ≡ pieces is_trimmed_off text
all_blanks text spaces tabs returns e g h =
    let two : tabs ≡ pieces (λ b. nat_eq b 32 || nat_eq b 9) text = g ∙ ap (parts_of_each 9) e ∙ parted_both (λ b. nat_eq b 32) 9 text in
    let three : returns ≡ pieces (λ b. (nat_eq b 32 || nat_eq b 9) || nat_eq b 13) text = h ∙ ap (parts_of_each 13) two ∙ parted_both (λ b. nat_eq b 32 || nat_eq b 9) 13 text in
    ap (parts_of_each 10) three ∙ parted_both (λ b. (nat_eq b 32 || nat_eq b 9) || nat_eq b 13) 10 text
    ∙ same_parts (λ b. ((nat_eq b 32 || nat_eq b 9) || nat_eq b 13) || nat_eq b 10) is_trimmed_off (λ b. or_again (nat_eq b 32) (nat_eq b 9) (nat_eq b 13) (nat_eq b 10)) text

filter_one : (x : List ℕ) (rest : List (List ℕ)) → filter (λ word. not (is_empty word)) (x ∷ rest) ≡ kept_word x ++ filter (λ word. not (is_empty word)) rest
filter_one [] rest = refl
filter_one (b ∷ bs) rest = refl

-- a part more
pub word_kept : (parts : List (Bor (List ℕ))) (i : ℕ) (d : Bor (List ℕ)) (words more all : List (List ℕ)) → i < length parts
    → more ≡ words ++ kept_word (get_or parts i d).now → words ++ filter (λ word. not (is_empty word)) (map (λ p. p.now) (drop i parts)) ≡ all
    → more ++ filter (λ word. not (is_empty word)) (map (λ p. p.now) (drop (i + 1) parts)) ≡ all
word_kept parts i d words more all below is inv =
    let rest = filter (λ word. not (is_empty word)) (map (λ (p : Bor (List ℕ)). p.now) (drop (i + 1) parts)) in
    ap (λ k. k ++ rest) is ∙ append_assoc words (kept_word (get_or parts i d).now) rest
    ∙ ap (λ k. words ++ k) (sym (ap (λ ps. filter (λ word. not (is_empty word)) (map (λ (p : Bor (List ℕ)). p.now) ps)) (drop_more parts i d below)
    ∙ filter_one (get_or parts i d).now (map (λ (p : Bor (List ℕ)). p.now) (drop (i + 1) parts)))) ∙ inv

put_none : (all : Option (List Run)) → runs_before [] all ≡ all
put_none None = refl
put_none (Some runs) = refl

pub items_begin : (range : Range) (items : List (Bor (List ℕ))) (runs : List Run) → runs ≡ []
    → runs_before runs (items_of range (map (λ k. k.now) (drop 0 items))) ≡ items_of range (map (λ k. k.now) items)
items_begin range items runs is = ap (λ r. runs_before r (items_of range (map (λ (k : Bor (List ℕ)). k.now) items))) is ∙ put_none (items_of range (map (λ (k : Bor (List ℕ)). k.now) items))

append_none : (runs : List Run) → runs ++ [] ≡ runs
append_none [] = refl
append_none (run ∷ runs) = ap (λ k. run ∷ k) (append_none runs)

pub items_end : (range : Range) (items : List (Bor (List ℕ))) (i : ℕ) (runs : List Run) (all : Option (List Run)) → length items ≤ i
    → runs_before runs (items_of range (map (λ k. k.now) (drop i items))) ≡ all → Some runs ≡ all
items_end range items i runs all past inv =
    ap Some (sym (append_none runs)) ∙ sym (ap (λ rest. runs_before runs (items_of range (map (λ (k : Bor (List ℕ)). k.now) rest))) (drop_all i items past)) ∙ inv

-- six words stand for any year, and seven for their own
pub six_words : (ws : List (Bor (List ℕ))) (d : Bor (List ℕ)) → 6 ≤ length ws → length ws < 7
    → with_year (map (λ w. w.now) ws)
    ≡ (get_or ws 0 d).now ∷ (get_or ws 1 d).now ∷ (get_or ws 2 d).now ∷ (get_or ws 3 d).now ∷ (get_or ws 4 d).now ∷ (get_or ws 5 d).now ∷ (42 ∷ []) ∷ []
six_words ([]) d low high = absurd (omega (arith, low))
six_words (a ∷ []) d low high = absurd (omega (arith, low))
six_words (a ∷ b ∷ []) d low high = absurd (omega (arith, low))
six_words (a ∷ b ∷ c ∷ []) d low high = absurd (omega (arith, low))
six_words (a ∷ b ∷ c ∷ e ∷ []) d low high = absurd (omega (arith, low))
six_words (a ∷ b ∷ c ∷ e ∷ f ∷ []) d low high = absurd (omega (arith, low))
six_words (a ∷ b ∷ c ∷ e ∷ f ∷ g ∷ []) d low high = refl
six_words (a ∷ b ∷ c ∷ e ∷ f ∷ g ∷ h ∷ more) d low high = absurd (omega (arith, high))

pub seven_words : (ws : List (Bor (List ℕ))) (d : Bor (List ℕ)) → 7 ≤ length ws → length ws < 8
    → with_year (map (λ w. w.now) ws)
    ≡ (get_or ws 0 d).now ∷ (get_or ws 1 d).now ∷ (get_or ws 2 d).now ∷ (get_or ws 3 d).now ∷ (get_or ws 4 d).now ∷ (get_or ws 5 d).now ∷ (get_or ws 6 d).now ∷ []
seven_words ([]) d low high = absurd (omega (arith, low))
seven_words (a ∷ []) d low high = absurd (omega (arith, low))
seven_words (a ∷ b ∷ []) d low high = absurd (omega (arith, low))
seven_words (a ∷ b ∷ c ∷ []) d low high = absurd (omega (arith, low))
seven_words (a ∷ b ∷ c ∷ e ∷ []) d low high = absurd (omega (arith, low))
seven_words (a ∷ b ∷ c ∷ e ∷ f ∷ []) d low high = absurd (omega (arith, low))
seven_words (a ∷ b ∷ c ∷ e ∷ f ∷ g ∷ []) d low high = absurd (omega (arith, low))
seven_words (a ∷ b ∷ c ∷ e ∷ f ∷ g ∷ h ∷ []) d low high = refl
seven_words (a ∷ b ∷ c ∷ e ∷ f ∷ g ∷ h ∷ i ∷ more) d low high = absurd (omega (arith, high))
