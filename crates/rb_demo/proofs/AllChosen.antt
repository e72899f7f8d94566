-- The filter of the demo's jobs matches each text of visible bytes, and so selects each of the
-- demo's nodes.
use Rattle.std.proofs.Common.{◌≡◌, ℕ, zero, suc, ◌+◌, Bool, true, false, List, [], ◌∷◌, length, codes, refl, ap, arith, Some, None, Option, unwrap_or, map, filter, decimal, ◌^◌, ◌∙◌, IsUtf8, inl, ◌<◌, get_or, is_some}
use Rattle.std.proofs.lemmas.Str.{len_utf8_ascii, IsCharBoundary-start}
use Rattle.rb_demo.proofs.Visible.{IsSeen, seen_utf8, digits_seen, decimal_digits}
use Rattle.rb_node.specs.Filters.{selects}
use Rattle.rb_node.specs.declared.node.Node.{Node}
use Rattle.rb_demo.specs.Numbers.{demo_node_name}
use Rattle.rb_demo.specs.Read.{demo_node}
use Rattle.rb_demo.specs.Rights.{demo_nodes, AllAreChosen}
use Rattle.std.proofs.lemmas.Option.{slice_get_past, slice_get-get_or}
use Rattle.std.proofs.lemmas.Bool.{ne_eqb, le-leb, lt-ltb}
use Rattle.std.specs.List.{AllByRecursion as Each}
use Rattle.rb_causes.specs.Numbers.{numbers_from}
use Rattle.regex.proofs.ForCallers.{find_str_complete}
use Rattle.regex.specs.Patterns.{Re, holds}
use Rattle.regex_hir.specs.Looks.{holds_between}
use Rattle.regex_hir.specs.Matches.{Matches, Rounds}
use Rattle.regex_hir.proofs.TextLemmas.{byte_before-zero, char_at_ascii}
use Rattle.regex_syntax.proofs.SetLemmas.{in_ranges-members}
use Rattle.regex_syntax.specs.Brackets.{Nested}
use Rattle.regex_syntax.specs.Grammar.{Names}
use Rattle.rb_text.specs.Matching.{matches_whole, finds, reading, whole_form}
use Rattle.rb_demo.proofs.Computing.{computing}

-- the tree that was read
abbrev tree_of : Option (Nested Re × Names) → Re
tree_of None = Re.empty
tree_of (Some r) = r.0.value

-- as many rounds as there are bytes
all_rounds : (R : ℕ → ℕ → Type 0) (n : ℕ) → ((i : ℕ) → i < suc n → R i (suc i)) → Rounds R 0 (suc n)
all_rounds R zero h = Rounds.one_round 1 (h 0 (omega arith))
all_rounds R (suc n) h = Rounds.next_round (suc n) (suc (suc n)) (all_rounds R n (λ i l. h i (omega (arith, l)))) (h (suc n) (omega arith))

each_at : (P : ℕ → Type 0) (xs : List ℕ) (i : ℕ) → i < length xs → Each P xs → P (get_or xs i 0)
each_at P [] i l h = absurd (omega (arith, l))
each_at P (x ∷ xs) zero l h = h.0
each_at P (x ∷ xs) (suc i) l h = each_at P xs i (omega (arith, l)) h.1

-- any text matches: round by round, a byte at a time
dots_match : (b : ℕ) (bs : List ℕ) → Each IsSeen (b ∷ bs) → Matches (b ∷ bs) (tree_of (reading (whole_form (codes ".*")))) 0 (length (b ∷ bs))
unfolding computing holds holds_between
dots_match b bs h =
    let s : List ℕ = b ∷ bs in
    inl (
      0,
      (rw (byte_before-zero s) refl, refl),
      (
        length s,
        inl (
          length s,
          inl (all_rounds _ (length bs) (λ i l.
              let c : ℕ = get_or s i 0 in let seen : IsSeen c = each_at IsSeen s i l h in (
                c,
                char_at_ascii s i c (slice_get-get_or s i 0 l) (omega (arith, seen.1)),
                rw (in_ranges-members, lt-ltb c 1114112 (omega (arith, seen.1)), le-leb c 1114111 (omega (arith, seen.1)), ne_eqb c 10 (λ e. omega (arith, e, seen.0))) refl,
                omega (arith, len_utf8_ascii c (omega (arith, seen.1))),
              ))),
          refl,
        ),
        (length s, (rw (slice_get_past s (length s) (omega arith)) refl, refl), refl),
      ),
    )

-- what was read finds a text that it matches whole
text_found : (o : Option (Nested Re × Names)) (s : List ℕ) → is_some o ≡ true → IsUtf8 s → Matches s (tree_of o) 0 (length s) → finds o s ≡ true
text_found None s h utf8 m = absurd (cc)
text_found (Some r) s h utf8 m = find_str_complete r.0.value s 0 0 (length s) (omega arith) (IsCharBoundary-start s utf8) m

pattern_read : is_some (reading (whole_form (codes ".*"))) ≡ true
unfolding computing
pattern_read = refl

text_matched : (b : ℕ) (bs : List ℕ) → Each IsSeen (b ∷ bs) → matches_whole (codes ".*") (b ∷ bs) ≡ true
text_matched b bs h = text_found (reading (whole_form (codes ".*"))) (b ∷ bs) pattern_read (seen_utf8 (b ∷ bs) h) (dots_match b bs h)

name_matched : (number : ℕ) → number < 2 ^ 64 → matches_whole (codes ".*") (demo_node_name number) ≡ true
name_matched number small = text_matched 110 (decimal number) ((omega arith, omega arith), digits_seen (decimal number) (decimal_digits number small))

node_selected : (exclude_first : Bool) (number : ℕ) → number < 2 ^ 64 → selects (codes ".*") exclude_first (demo_node number) ≡ true
unfolding computing
node_selected true number small = rw (name_matched number small) refl
node_selected false number small = rw (name_matched number small) refl

filter_all : (f : Node → Bool) (first count : ℕ) → first + count < 2 ^ 64 → ((number : ℕ) → number < 2 ^ 64 → f (demo_node number) ≡ true) →
    filter f (map demo_node (numbers_from first count)) ≡ map demo_node (numbers_from first count)
filter_all f first zero small h = refl
filter_all f first (suc count) small h = rw (h first (omega arith)) (ap (λ nodes. demo_node first ∷ nodes) (filter_all f (first + 1) count (omega arith) h))

pub all_chosen : AllAreChosen
all_chosen nodes ask id name strategy few none =
    ap (λ text. filter (selects (unwrap_or text (codes ".*")) true) (demo_nodes nodes)) none
    ∙ filter_all (selects (codes ".*") true) 1 nodes (omega arith) (node_selected true)
