-- Numbers and callers come out of a row as they went in.
use Rattle.std.proofs.Common.{◌≡◌, ◌∙◌, ◌<◌, ◌+◌, ℕ, List, [], ◌∷◌, ◌++◌, Bool, true, false, not, ◌||◌, nat_eq, ap, refl, arith, if◌then◌else◌}
use Rattle.std.proofs.Math.Nat.{mul-add-div_right, mul-add-mod_self_right, div-eq_of_lt, mod-eq_of_lt}
use Rattle.std.specs.List.{list_all}
use Rattle.std.proofs.lemmas.Bool.{and_parts}
use Rattle.rb_causes.specs.Signs.{line_feed, comma}
use Rattle.rb_causes.specs.Texts.{joined, pieces, onto_first}
use Rattle.rb_causes.specs.declared.row.Row.{Row}
use Rattle.rb_acl.specs.declared.policy.Caller.{Caller}
use Rattle.rb_marks.specs.declared.mark.Leaf.{Leaf}
use Rattle.rb_log.specs.Rows.{who_text, caller_of, row_caller, is_clean, is_clean_caller, leaf_number, leaf_at}

abbrev is_break : ℕ → Bool
is_break b = nat_eq b line_feed

-- ---- callers

no_break : (a b : Bool) → not (a || b) ≡ true → a ≡ false
no_break true b h = absurd (grind (arith, h))
no_break false b h = refl

-- pieces of a clean text and more: the text is on the first piece
piece_step : (p : Bool) (b : ℕ) (text : List ℕ) (rest : List (List ℕ)) → p ≡ false
    → (if p then [] ∷ (text ∷ rest) else onto_first b (text ∷ rest)) ≡ (b ∷ text) ∷ rest
piece_step true b text rest h = absurd (grind (arith, h))
piece_step false b text rest h = refl

clean_alone : (text : List ℕ) → is_clean text ≡ true → pieces is_break text ≡ text ∷ []
clean_alone [] h = refl
clean_alone (b ∷ bs) h =
    let k : (not (nat_eq b line_feed || nat_eq b comma) ≡ true) × (is_clean bs ≡ true) =
    and_parts (not (nat_eq b line_feed || nat_eq b comma)) (is_clean bs) h in
    ap (λ ps. if nat_eq b line_feed then [] ∷ ps else onto_first b ps) (clean_alone bs k.1)
    ∙ piece_step (nat_eq b line_feed) b bs [] (no_break (nat_eq b line_feed) (nat_eq b comma) k.0)

clean_front : (text more : List ℕ) (ps : List (List ℕ)) → is_clean text ≡ true
    → pieces is_break more ≡ ps → pieces is_break (text ++ line_feed ∷ more) ≡ text ∷ ps
clean_front [] more ps h k = ap (λ qs. [] ∷ qs) k
clean_front (b ∷ bs) more ps h k =
    let c : (not (nat_eq b line_feed || nat_eq b comma) ≡ true) × (is_clean bs ≡ true) =
    and_parts (not (nat_eq b line_feed || nat_eq b comma)) (is_clean bs) h in
    ap (λ qs. if nat_eq b line_feed then [] ∷ qs else onto_first b qs)
    (clean_front bs more ps c.1 k)
    ∙ piece_step (nat_eq b line_feed) b bs ps (no_break (nat_eq b line_feed) (nat_eq b comma) c.0)

clean_joined : (text : List ℕ) (texts : List (List ℕ)) → is_clean text ≡ true
    → list_all is_clean texts ≡ true
    → pieces is_break (joined line_feed (text ∷ texts)) ≡ text ∷ texts
clean_joined text [] h k = clean_alone text h
clean_joined text (t ∷ ts) h k =
    let c : (is_clean t ≡ true) × (list_all is_clean ts ≡ true) =
    and_parts (is_clean t) (list_all is_clean ts) k in
    clean_front text (joined line_feed (t ∷ ts)) (t ∷ ts) h (clean_joined t ts c.0 c.1)

pub caller_is_kept : (caller : Caller) → is_clean_caller caller ≡ true
    → caller_of (pieces is_break (who_text caller)) ≡ caller
caller_is_kept caller h =
    let c : (is_clean caller.user ≡ true) × (list_all is_clean caller.groups ≡ true) =
    and_parts (is_clean caller.user) (list_all is_clean caller.groups) h in
    ap caller_of (clean_joined caller.user caller.groups c.0 c.1)

-- ---- leaves

abbrev leaf_of : ℕ → ℕ → Leaf
leaf_of node slot = record { node = node; slot = slot }

same_leaf_by : (node node' slot slot' : ℕ) → node ≡ node' → slot ≡ slot'
    → leaf_of node slot ≡ leaf_of node' slot'
same_leaf_by node node' slot slot' h k = ap (λ n. leaf_of n slot) h ∙ ap (λ s. leaf_of node' s) k

pub leaf_is_kept : (slots : ℕ) (leaf : Leaf) → leaf.slot < slots
    → leaf_at slots (leaf_number slots leaf) ≡ leaf
leaf_is_kept slots leaf h =
    same_leaf_by _ leaf.node _ leaf.slot
    (mul-add-div_right (omega (arith, h)) leaf.node leaf.slot
    ∙ ap (λ k. leaf.node + k) (div-eq_of_lt h) ∙ omega arith)
    (mul-add-mod_self_right leaf.node slots leaf.slot ∙ mod-eq_of_lt h)

pub row_caller_is_kept : (row : Row) (caller : Caller) → is_clean_caller caller ≡ true
    → row.who ≡ who_text caller → row_caller row ≡ caller
row_caller_is_kept row caller h who =
    ap (λ text. caller_of (pieces is_break text)) who ∙ caller_is_kept caller h
