-- The decision with one access line more.
use Rattle.std.proofs.Common.{◌≡◌, ℕ, suc, ◌+◌, Bool, true, false, cond, not, ◌&&◌, bytes_eq, codes, Option, Some, None, List, [], ◌∷◌, ◌++◌, length, refl, ap, sym, ◌∙◌, arith}
use Rattle.std.specs.Prelude.{find, option_map}
use Rattle.std.specs.Option.{option_or}
use Rattle.std.proofs.lemmas.Cmp.{nat_list_eq_equiv}
use Rattle.std.proofs.lemmas.Slice.Eq.{bytes_eq-Decides}
use Rattle.rb_acl.specs.Applying.{question_of, Question}
use Rattle.rb_acl.specs.Deciding.{Placed, placed_docs, first_place, denies, allows, decided}
use Rattle.rb_acl.specs.declared.policy.Clause.{Clause}
use Rattle.rb_acl.specs.declared.policy.Decision.{Decision}
use Rattle.rb_top.specs.Access.{caller_of, the_context, resource_of, line_policies, line_policy, policies_of, run_decision, rule_of}
use Rattle.rb_top.specs.Table.{clause_of, ruled, or_none, ruling_on, ruling_of}
use Rattle.rb_top.specs.declared.access_table.NodeRulings.{NodeRulings}
use Rattle.rb_top.specs.declared.script.AccessLine.{AccessLine}

policies_behind : (n : ℕ) (lines : List AccessLine) (line : AccessLine) → line_policies n (lines ++ line ∷ []) ≡ line_policies n lines ++ line_policy (n + length lines) line ∷ []
policies_behind n [] line = let same : n ≡ n + 0 = omega arith in ap (λ k. line_policy k line ∷ []) same
policies_behind n (x ∷ lines) line =
    let same : (n + 1) + length lines ≡ n + suc (length lines) = omega arith in
    ap (λ rest. line_policy n x ∷ rest) (policies_behind (n + 1) lines line ∙ ap (λ k. line_policies (n + 1) lines ++ line_policy k line ∷ []) same)

-- the one clause of a line's document, with the numbers of both
abbrev placed_line : ℕ → ℕ → AccessLine → Placed
placed_line doc place line = record {
  place = clause_of doc;
  policy = line_policy place line;
  type_name = codes "node";
  rule = rule_of line;
}

module _ (test : Placed → Bool) where
  abbrev first_of : ℕ → ℕ → List AccessLine → Option Clause
  first_of doc place lines = first_place test (placed_docs doc (line_policies place lines))

  -- the last line's clause, where it passes
  abbrev last_of : ℕ → ℕ → AccessLine → Option Clause
  last_of doc place line = cond (test (placed_line doc place line)) (Some (clause_of doc)) None

  first_with_last : (doc place : ℕ) (lines : List AccessLine) (line : AccessLine)
      → first_of doc place (lines ++ line ∷ []) ≡ option_or (first_of doc place lines) (last_of (doc + length lines) (place + length lines) line)
  first_with_last doc place [] line =
      let same_doc : doc + 0 ≡ doc = omega arith in
      let same_place : place + 0 ≡ place = omega arith in
      only (test (placed_line doc place line)) ∙ sym (ap (λ n. last_of n (place + 0) line) same_doc ∙ ap (λ n. last_of doc n line) same_place)
    where
      only : (b : Bool) → option_map (λ (c : Placed). c.place) (cond b (Some (placed_line doc place line)) None) ≡ cond b (Some (clause_of doc)) None
      only true = refl
      only false = refl
  first_with_last doc place (x ∷ lines) line =
      let same_doc : (doc + 1) + length lines ≡ doc + suc (length lines) = omega arith in
      let same_place : (place + 1) + length lines ≡ place + suc (length lines) = omega arith in
      by_first (test (placed_line doc place x))
      (first_with_last (doc + 1) (place + 1) lines line
      ∙ ap (λ n. option_or (first_of (doc + 1) (place + 1) lines) (last_of n ((place + 1) + length lines) line)) same_doc
      ∙ ap (λ n. option_or (first_of (doc + 1) (place + 1) lines) (last_of (doc + suc (length lines)) n line)) same_place)
    where
      by_first : (b : Bool)
          → first_of (doc + 1) (place + 1) (lines ++ line ∷ []) ≡ option_or (first_of (doc + 1) (place + 1) lines) (last_of (doc + suc (length lines)) (place + suc (length lines)) line)
          → option_map (λ (c : Placed). c.place) (cond b (Some (placed_line doc place x)) (find test (placed_docs (doc + 1) (line_policies (place + 1) (lines ++ line ∷ [])))))
          ≡ option_or (option_map (λ (c : Placed). c.place) (cond b (Some (placed_line doc place x)) (find test (placed_docs (doc + 1) (line_policies (place + 1) lines))))) (last_of (doc + suc (length lines)) (place + suc (length lines)) line)
      by_first true later = refl
      by_first false later = later

-- what one more line adds to what the lines before it decide
abbrev added : Bool → Bool → ℕ → Decision → Decision
added speaking denying place before = cond speaking (ruled denying place before) before

with_last : (speaking denying : Bool) (place : ℕ) (denied allowed : Option Clause)
    → decided (option_or denied (cond (speaking && denying) (Some (clause_of place)) None)) (option_or allowed (cond (speaking && not denying) (Some (clause_of place)) None))
    ≡ added speaking denying place (decided denied allowed)
with_last true true place (Some c) allowed = refl
with_last true true place None (Some c) = refl
with_last true true place None None = refl
with_last true false place (Some c) allowed = refl
with_last true false place None (Some c) = refl
with_last true false place None None = refl
with_last false denying place (Some c) (Some d) = refl
with_last false denying place (Some c) None = refl
with_last false denying place None (Some c) = refl
with_last false denying place None None = refl

-- whether a line speaks of a user on a node
abbrev pub speaks : AccessLine → List ℕ → List ℕ → Bool
speaks line user node = bytes_eq line.user user && bytes_eq node line.node

abbrev asked : List ℕ → List ℕ → Question
asked user node = question_of (caller_of user) the_context (resource_of node) (codes "run")

line_denies : (doc place : ℕ) (line : AccessLine) (user node : List ℕ) → denies (asked user node) (placed_line doc place line) ≡ speaks line user node && line.denies
line_denies doc place line user node = by_all (bytes_eq line.user user) (bytes_eq node line.node) line.denies refl refl refl
  where
    by_all : (x y d : Bool) → bytes_eq line.user user ≡ x → bytes_eq node line.node ≡ y → line.denies ≡ d → denies (asked user node) (placed_line doc place line) ≡ speaks line user node && line.denies
    by_all true true true ux ny ld = rw (ux, ny, ld) refl
    by_all true true false ux ny ld = rw (ux, ny, ld) refl
    by_all true false d ux ny ld = rw (ux, ny) refl
    by_all false y d ux ny ld = rw ux refl

line_allows : (doc place : ℕ) (line : AccessLine) (user node : List ℕ) → allows (asked user node) (placed_line doc place line) ≡ speaks line user node && not line.denies
line_allows doc place line user node = by_all (bytes_eq line.user user) (bytes_eq node line.node) line.denies refl refl refl
  where
    by_all : (x y d : Bool) → bytes_eq line.user user ≡ x → bytes_eq node line.node ≡ y → line.denies ≡ d → allows (asked user node) (placed_line doc place line) ≡ speaks line user node && not line.denies
    by_all true true true ux ny ld = rw (ux, ny, ld) refl
    by_all true true false ux ny ld = rw (ux, ny, ld) refl
    by_all true false d ux ny ld = rw (ux, ny) refl
    by_all false y d ux ny ld = rw ux refl

pub one_line_more : (lines : List AccessLine) (line : AccessLine) (user node : List ℕ)
    → run_decision (policies_of (lines ++ line ∷ [])) user node ≡ cond (speaks line user node) (ruled line.denies (length lines) (run_decision (policies_of lines) user node)) (run_decision (policies_of lines) user node)
one_line_more lines line user node =
    let q = asked user node in
    let place = length lines in
    let same : 0 + length lines ≡ length lines = omega arith in
    rw (first_with_last (denies q) 0 1 lines line, first_with_last (allows q) 0 1 lines line, same, line_denies place (1 + place) line user node, line_allows place (1 + place) line user node)
    (with_last (speaks line user node) line.denies place (first_of (denies q) 0 1 lines) (first_of (allows q) 0 1 lines))

-- ---- a table with one line more, seen by what it finds of each user

or_none_of : (b : Bool) (decision : Decision) (before : Option Decision) → or_none (cond b (Some decision) before) ≡ cond b decision (or_none before)
or_none_of true decision before = refl
or_none_of false decision before = refl

-- what is found of each node, where that of one was set
pub node_set : (old new : List ℕ → Option Decision) (node text : List ℕ) (decision : Decision) → text ≡ node → ((q : List ℕ) → new q ≡ cond (bytes_eq text q) (Some decision) (old q))
    → (q : List ℕ) → or_none (new q) ≡ cond (bytes_eq node q) decision (or_none (old q))
node_set old new node text decision same set q =
    ap or_none (set q) ∙ or_none_of (bytes_eq text q) decision (old q) ∙ ap (λ t. cond (bytes_eq t q) decision (or_none (old q))) same

module _ (lines : List AccessLine) (line : AccessLine) (old removed new : List ℕ → Option NodeRulings) (start after : NodeRulings) where
  abbrev before_lines : List ℕ → List ℕ → Decision
  before_lines = run_decision (policies_of lines)

  pub line_noted : ((q : List ℕ) → removed q ≡ cond (bytes_eq line.user q) None (old q)) → ((q : List ℕ) → new q ≡ cond (bytes_eq line.user q) (Some after) (removed q))
      → ((n : List ℕ) → ruling_on start n ≡ ruling_of (old line.user) n)
      → ((n : List ℕ) → ruling_on after n ≡ cond (bytes_eq line.node n) (ruled line.denies (length lines) (ruling_on start line.node)) (ruling_on start n))
      → ((q n : List ℕ) → ruling_of (old q) n ≡ before_lines q n)
      → (q n : List ℕ) → ruling_of (new q) n ≡ run_decision (policies_of (lines ++ line ∷ [])) q n
  line_noted taken put began noted tells q n = by_user (bytes_eq line.user q) refl ∙ sym (one_line_more lines line q n)
    where
      wanted : Bool → Bool → Decision
      wanted user node = cond (user && node) (ruled line.denies (length lines) (before_lines q n)) (before_lines q n)

      start_is : line.user ≡ q → (m : List ℕ) → ruling_on start m ≡ before_lines q m
      start_is same m = began m ∙ tells line.user m ∙ ap (λ u. before_lines u m) same

      by_node : line.user ≡ q → (b : Bool) → bytes_eq line.node n ≡ b → cond b (ruled line.denies (length lines) (ruling_on start line.node)) (ruling_on start n) ≡ wanted true (bytes_eq n line.node)
      by_node same true is =
          let here : line.node ≡ n = (bytes_eq-Decides line.node n).0 is in
          ap (ruled line.denies (length lines)) (start_is same line.node ∙ ap (before_lines q) here)
          ∙ sym (ap (wanted true) (nat_list_eq_equiv.symm n line.node ∙ is))
      by_node same false is = start_is same n ∙ sym (ap (wanted true) (nat_list_eq_equiv.symm n line.node ∙ is))

      by_user : (b : Bool) → bytes_eq line.user q ≡ b → ruling_of (new q) n ≡ wanted (bytes_eq line.user q) (bytes_eq n line.node)
      by_user true is =
          let same : line.user ≡ q = (bytes_eq-Decides line.user q).0 is in
          ap (λ found. ruling_of found n) (put q ∙ ap (λ b. cond b (Some after) (removed q)) is)
          ∙ noted n ∙ by_node same (bytes_eq line.node n) refl
          ∙ sym (ap (λ b. wanted b (bytes_eq n line.node)) is)
      by_user false is =
          ap (λ found. ruling_of found n) (put q ∙ ap (λ b. cond b (Some after) (removed q)) is ∙ taken q ∙ ap (λ b. cond b None (old q)) is)
          ∙ tells q n ∙ sym (ap (λ b. wanted b (bytes_eq n line.node)) is)
