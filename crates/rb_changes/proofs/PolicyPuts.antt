-- A policy file changes the policies in force as it changes what the log says.
use Rattle.std.specs.List.{flat_map}
use Rattle.std.specs.declared.alloc.Global.{Global}
use Rattle.std.specs.Ordering.{nat_cmp, is_gt, is_lt, match_ordering}
use Rattle.std.specs.Cmp.Lexicographic.{slice_cmp, nat_list_cmp_total}
use Rattle.std.specs.declared.cmp.Ordering.{Ordering}
use Rattle.std.specs.declared.cmp.Ordering.TheVariants.{Less, Equal, Greater}
use Rattle.std.proofs.Common.{◌≡◌, ◌∙◌, ◌≤◌, ◌<◌, ◌+◌, ◌-◌, ◌^◌, min, ℕ, zero, suc, ℤ, List, [], ◌∷◌, ◌++◌, length, filter, Bool, true, false, cond, nat_eq, nat_lt, is_some, All, Some, None, Vec, vec_capacity, ◌&&◌, ◌||◌, bytes_eq, slice_get, ap, sym, subst, refl, append_assoc, add-one, arith}
use Rattle.std.proofs.lemmas.Bool.Decides.{nat_tests}
use Rattle.std.proofs.lemmas.List.Elements.{filter-append, All-filter, All-append}
use Rattle.rb_causes.specs.declared.row.Row.{Row}
use Rattle.rb_causes.proofs.Lists.{filter_most}
use Rattle.rb_causes.proofs.Texts.{same_text, text_is, text_order}
use Rattle.rb_yaml.specs.Tree.{YamlTree}
use Rattle.rb_yaml_laws.specs.Sizes.{SizeIsBounded}
use Rattle.rb_acl_doc.specs.Laws.{SmallAreNumbered}
use Rattle.rb_acl_doc.specs.Policies.{policy_of, policies_from}
use Rattle.rb_acl.specs.Numbering.{IsPolicyNumbered}
use Rattle.rb_acl.specs.declared.policy.Policies.{Policies}
use Rattle.rb_acl.specs.declared.policy.Policy.{Policy}
use Rattle.rb_plan.specs.declared.world.World.{World}
use Rattle.rb_log.specs.Imports.{has_place_for_file, most_files}
use Rattle.rb_log.specs.Rows.{counted_bytes, is_policy, policy_kind}
use Rattle.rb_log.specs.World.{Latest, latest, latest_of, count_of, count_of_kind, put_latest, policies_in, policies_of_files, docs_in}
use Rattle.rb_log.specs.Executions.{running_now}
use Rattle.rb_log.specs.Laws.{IsBehind, NamesAscend, CountsAreTold}
use Rattle.rb_log.specs.LogState.{LogState, log_state, world_of}
use Rattle.rb_log.proofs.RoomLaws.{unmarked_all, IsQuiet, either_none}
use Rattle.rb_tables.specs.Changes.{Comes}
use Rattle.rb_tables.specs.Tables.{AreEntries, AreLogTables, owed_among}
use Rattle.rb_tables.specs.declared.change.TableEffect.TheVariants as effect
use Rattle.rb_tables.specs.declared.change.PoliciesEffect.{PoliciesEffect}
use Rattle.rb_tables.specs.declared.tables.Tables.{Tables}
use Rattle.rb_tables.proofs.Marked.{policies_before}
use Rattle.rb_tables.proofs.Projects.{rows_few, number_few}
use Rattle.rb_changes.specs.PolicyFiles.{is_of_earlier_file, is_behind, with_file}
use Rattle.rb_changes.proofs.Puts.{same_name}
use Rattle.rb_changes.proofs.OneMark.{counted_more}
use Rattle.rb_changes.proofs.FewPolicies.{policies_few, row_numbered}

-- ---- the policies of one file

kept : (test : Policy → Bool) (file : List ℕ) (n : ℕ) (docs : List YamlTree)
    → ((p : Policy) → p.file ≡ file → test p ≡ true)
    → filter test (policies_from file n docs) ≡ policies_from file n docs
kept test file n [] h = refl
kept test file n (doc ∷ docs) h =
    let rest : List Policy = policies_from file (n + 1) docs in
    ap (λ b. cond b (policy_of file n doc ∷ filter test rest) (filter test rest))
    (h (policy_of file n doc) refl)
    ∙ ap (λ ps. policy_of file n doc ∷ ps) (kept test file (n + 1) docs h)

dropped : (test : Policy → Bool) (file : List ℕ) (n : ℕ) (docs : List YamlTree)
    → ((p : Policy) → p.file ≡ file → test p ≡ false)
    → filter test (policies_from file n docs) ≡ []
dropped test file n [] h = refl
dropped test file n (doc ∷ docs) h =
    let rest : List Policy = policies_from file (n + 1) docs in
    ap (λ b. cond b (policy_of file n doc ∷ filter test rest) (filter test rest))
    (h (policy_of file n doc) refl)
    ∙ dropped test file (n + 1) docs h

-- ---- files in order of their names

abbrev of_file : Latest → List Policy
of_file l = policies_in l.row

abbrev all_of : List Latest → List Policy
all_of ls = flat_map of_file ls

abbrev order : List ℕ → Latest → Ordering
order name l = slice_cmp nat_cmp name l.row.name

abbrev IsFirst : List ℕ → List Latest → Type 0
IsFirst name [] = Unit {0}
IsFirst name (l ∷ ls) = (order name l ≡ Less) × IsFirst name ls

abbrev Ascend : List Latest → Type 0
Ascend [] = Unit {0}
Ascend (l ∷ ls) = IsFirst l.row.name ls × Ascend ls

first_of : (name : List ℕ) (ls : List Latest)
    → ((j : ℕ) (b : Latest) → slice_get ls j ≡ Some b → order name b ≡ Less) → IsFirst name ls
first_of name [] h = tt
first_of name (l ∷ ls) h = (h zero l refl, first_of name ls (λ j b get. h (suc j) b get))

ascend_of : (ls : List Latest)
    → ((i j : ℕ) (a b : Latest) → slice_get ls i ≡ Some a → slice_get ls j ≡ Some b → i < j
    → IsBehind a.row b.row)
    → Ascend ls
ascend_of [] h = tt
ascend_of (l ∷ ls) h = (
  first_of l.row.name ls (λ j b get. h zero (suc j) l b refl get (omega arith)),
  ascend_of ls (λ i j a b get other less.
      h (suc i) (suc j) a b get other (omega (arith, less))),
)

earlier : (a b : List ℕ) (ls : List Latest) → slice_cmp nat_cmp a b ≡ Less → IsFirst b ls
    → IsFirst a ls
earlier a b [] h k = tt
earlier a b (l ∷ ls) h k =
    (nat_list_cmp_total.trans a b l.row.name h k.0, earlier a b ls h k.1)

-- ---- where the policies of a file stand

-- by the order of the names, the policies of a file are before this one or not, or behind it or not
before_by : (name : List ℕ) (l : Latest) (p : Policy) → p.file ≡ l.row.name
    → is_of_earlier_file name p ≡ is_gt (order name l)
before_by name l p h = ap (λ f. is_gt (slice_cmp nat_cmp name f)) h

behind_by : (name : List ℕ) (l : Latest) (p : Policy) → p.file ≡ l.row.name
    → is_behind name p ≡ is_lt (order name l)
behind_by name l p h = ap (λ f. is_lt (slice_cmp nat_cmp name f)) h

all_before : (name : List ℕ) (l : Latest) → order name l ≡ Greater
    → filter (is_of_earlier_file name) (of_file l) ≡ of_file l
all_before name l h =
    kept (is_of_earlier_file name) l.row.name 1 (docs_in l.row)
    (λ p k. before_by name l p k ∙ ap is_gt h)

none_before : (name : List ℕ) (l : Latest) → is_gt (order name l) ≡ false
    → filter (is_of_earlier_file name) (of_file l) ≡ []
none_before name l h =
    dropped (is_of_earlier_file name) l.row.name 1 (docs_in l.row) (λ p k. before_by name l p k ∙ h)

all_behind : (name : List ℕ) (l : Latest) → order name l ≡ Less
    → filter (is_behind name) (of_file l) ≡ of_file l
all_behind name l h =
    kept (is_behind name) l.row.name 1 (docs_in l.row)
    (λ p k. behind_by name l p k ∙ ap is_lt h)

none_behind : (name : List ℕ) (l : Latest) → is_lt (order name l) ≡ false
    → filter (is_behind name) (of_file l) ≡ []
none_behind name l h =
    dropped (is_behind name) l.row.name 1 (docs_in l.row) (λ p k. behind_by name l p k ∙ h)

-- of two parts
parted : (test : Policy → Bool) (xs ys us vs : List Policy) → filter test xs ≡ us
    → filter test ys ≡ vs → filter test (xs ++ ys) ≡ us ++ vs
parted test xs ys us vs h k =
    filter-append test xs ys ∙ ap (λ zs. zs ++ filter test ys) h ∙ ap (λ zs. us ++ zs) k

rest_before : (name : List ℕ) (ls : List Latest) → IsFirst name ls
    → filter (is_of_earlier_file name) (all_of ls) ≡ []
rest_before name [] h = refl
rest_before name (l ∷ ls) h =
    parted (is_of_earlier_file name) (of_file l) (all_of ls) [] [] (none_before name l (ap is_gt h.0))
    (rest_before name ls h.1)

rest_behind : (name : List ℕ) (ls : List Latest) → IsFirst name ls
    → filter (is_behind name) (all_of ls) ≡ all_of ls
rest_behind name [] h = refl
rest_behind name (l ∷ ls) h =
    parted (is_behind name) (of_file l) (all_of ls) (of_file l) (all_of ls)
    (all_behind name l h.0) (rest_behind name ls h.1)

-- ---- a file is put

abbrev Puts : Row → List Latest → Type 0
Puts row ls =
    with_file row.name (policies_in row) (all_of ls) ≡ all_of (put_latest row ls)

with_parts : (name : List ℕ) (new docs us vs : List Policy) → filter (is_of_earlier_file name) docs ≡ us
    → filter (is_behind name) docs ≡ vs → with_file name new docs ≡ us ++ (new ++ vs)
with_parts name new docs us vs h k =
    ap (λ xs. xs ++ (new ++ filter (is_behind name) docs)) h
    ∙ ap (λ ys. us ++ (new ++ ys)) k

put_by : (row : Row) (l : Latest) (ls : List Latest) (o : Ordering) → order row.name l ≡ o
    → Ascend (l ∷ ls) → Puts row ls
    → with_file row.name (policies_in row) (all_of (l ∷ ls))
    ≡ all_of (match_ordering o (record { row = row; count = 1 } ∷ l ∷ ls)
    (record { row = row; count = l.count + 1 } ∷ ls) (l ∷ put_latest row ls))
put_by row l ls Less is h more =
    let first : IsFirst row.name (l ∷ ls) = (is, earlier row.name l.row.name ls is h.0) in
    with_parts row.name (policies_in row) (all_of (l ∷ ls)) [] (all_of (l ∷ ls))
    (rest_before row.name (l ∷ ls) first) (rest_behind row.name (l ∷ ls) first)
put_by row l ls Equal is h more =
    let same : row.name ≡ l.row.name = same_name row.name l.row.name is in
    let first : IsFirst row.name ls = subst (λ n. IsFirst n ls) (sym same) h.0 in
    with_parts row.name (policies_in row) (all_of (l ∷ ls)) [] (all_of ls)
    (parted (is_of_earlier_file row.name) (of_file l) (all_of ls) [] []
    (none_before row.name l (ap is_gt is)) (rest_before row.name ls first))
    (parted (is_behind row.name) (of_file l) (all_of ls) [] (all_of ls)
    (none_behind row.name l (ap is_lt is)) (rest_behind row.name ls first))
put_by row l ls Greater is h more =
    let us : List Policy = filter (is_of_earlier_file row.name) (all_of ls) in
    let vs : List Policy = filter (is_behind row.name) (all_of ls) in
    with_parts row.name (policies_in row) (all_of (l ∷ ls)) (of_file l ++ us) vs
    (parted (is_of_earlier_file row.name) (of_file l) (all_of ls) (of_file l) us
    (all_before row.name l is) refl)
    (parted (is_behind row.name) (of_file l) (all_of ls) [] vs
    (none_behind row.name l (ap is_lt is)) refl)
    ∙ append_assoc (of_file l) us (policies_in row ++ vs)
    ∙ ap (λ ps. of_file l ++ ps) more

file_put : (row : Row) (ls : List Latest) → Ascend ls → Puts row ls
file_put row [] h = refl
file_put row (l ∷ ls) h =
    put_by row l ls (order row.name l) refl h (file_put row ls h.1)

-- the policies in force behind a row are those before it with those of its file
policies_put : NamesAscend → (past : List Row) (row : Row)
    → let files : List Latest = latest is_policy past in
    with_file row.name (policies_in row) (policies_of_files files).docs
    ≡ (policies_of_files (put_latest row files)).docs
policies_put law past row =
    file_put row (latest is_policy past)
    (ascend_of (latest is_policy past) (law is_policy past))

-- ---- counts

pub count_few : CountsAreTold → (is_kind : Row → Bool) (name : List ℕ) (past : List Row)
    → count_of (latest_of name (latest is_kind past)) ≤ length past
count_few law is_kind name past =
    omega (
      arith,
      law is_kind name past,
      filter_most (λ row. is_kind row && bytes_eq row.name name) past,
    )

-- ---- the numbers of the policies

-- 32 bits number the policies with those of a file, where they number both
with_numbered : (name : List ℕ) (new docs : List Policy) → All IsPolicyNumbered docs
    → All IsPolicyNumbered new → All IsPolicyNumbered (with_file name new docs)
with_numbered name new docs h k =
    All-append IsPolicyNumbered (filter (is_of_earlier_file name) docs)
    (new ++ filter (is_behind name) docs)
    (All-filter (is_of_earlier_file name) IsPolicyNumbered docs h)
    (All-append IsPolicyNumbered new (filter (is_behind name) docs) k
    (All-filter (is_behind name) IsPolicyNumbered docs h))

-- ---- there are few files

differs : (a b : List ℕ) → bytes_eq a b ≡ false → bytes_eq b a ≡ false
differs a b h = by_test (bytes_eq b a) refl
  where
    by_test : (e : Bool) → bytes_eq b a ≡ e → bytes_eq b a ≡ false
    by_test false k = k
    by_test true k =
        let wrong : true ≡ false = sym (same_text a b (sym (text_is b a k))) ∙ h in
        absurd (grind (arith, wrong))

-- of a name before all there is none
none_first : (name : List ℕ) (ls : List Latest) → IsFirst name ls → latest_of name ls ≡ None
none_first name [] h = refl
none_first name (l ∷ ls) h =
    ap (λ b. cond b (Some l) (latest_of name ls))
    (differs name l.row.name (text_order name l.row.name Less h.0))
    ∙ none_first name ls h.1

put_stays : (row : Row) (l : Latest) (ls : List Latest) (o : Ordering) → order row.name l ≡ o
    → Ascend (l ∷ ls) → is_some (latest_of row.name (l ∷ ls)) ≡ true
    → (is_some (latest_of row.name ls) ≡ true → length (put_latest row ls) ≡ length ls)
    → length (match_ordering o (record { row = row; count = 1 } ∷ l ∷ ls)
    (record { row = row; count = l.count + 1 } ∷ ls) (l ∷ put_latest row ls))
    ≡ suc (length ls)
put_stays row l ls Less is h there more =
    absurd (let first : IsFirst row.name (l ∷ ls) = (is, earlier row.name l.row.name ls is h.0) in
    let wrong : false ≡ true = ap is_some (sym (none_first row.name (l ∷ ls) first)) ∙ there in
    grind (arith, wrong))
put_stays row l ls Equal is h there more = refl
put_stays row l ls Greater is h there more =
    ap suc (more (ap (λ b. is_some (cond b (Some l) (latest_of row.name ls)))
    (sym (differs row.name l.row.name (text_order row.name l.row.name Greater is))) ∙ there))

-- one of the name is replaced
replaced : (row : Row) (ls : List Latest) → Ascend ls → is_some (latest_of row.name ls) ≡ true
    → length (put_latest row ls) ≡ length ls
replaced row [] h there = absurd (grind (arith, there))
replaced row (l ∷ ls) h there =
    put_stays row l ls (order row.name l) refl h there (replaced row ls h.1)

one_more : (row : Row) (l : Latest) (ls put : List Latest) (o : Ordering)
    → length put ≤ suc (length ls)
    → length (match_ordering o (record { row = row; count = 1 } ∷ l ∷ ls)
    (record { row = row; count = l.count + 1 } ∷ ls) (l ∷ put)) ≤ suc (suc (length ls))
one_more row l ls put Less h = omega (arith, h)
one_more row l ls put Equal h = omega (arith, h)
one_more row l ls put Greater h = omega (arith, h)

put_most : (row : Row) (ls : List Latest) → length (put_latest row ls) ≤ suc (length ls)
put_most row [] = omega arith
put_most row (l ∷ ls) =
    one_more row l ls (put_latest row ls) (order row.name l) (put_most row ls)

files_by : (row : Row) (ls : List Latest) (there below : Bool) → Ascend ls → length ls ≤ 64
    → is_some (latest_of row.name ls) ≡ there → nat_lt (length ls) most_files ≡ below
    → (there || below) ≡ true → length (put_latest row ls) ≤ 64
unfolding most_files
files_by row ls true below h few is low has = omega (arith, replaced row ls h is, few)
files_by row ls false true h few is low has =
    let less : length ls < 64 = grind (arith, nat_tests, low) in
    omega (arith, put_most row ls, less)
files_by row ls false false h few is low has = absurd (grind (arith, has))

-- also with a file for which there is a place
pub files_few : NamesAscend → (past : List Row) (row : Row) → length (latest is_policy past) ≤ 64
    → has_place_for_file (latest is_policy past) row.name ≡ true
    → length (put_latest row (latest is_policy past)) ≤ 64
files_few law past row few has =
    let ls : List Latest = latest is_policy past in
    files_by row ls (is_some (latest_of row.name ls)) (nat_lt (length ls) most_files)
    (ascend_of ls (law is_policy past)) few refl refl has

-- ---- the tables

abbrev with_policies : Tables → ℤ → ℕ → Vec Latest Global → Policies → Tables
with_policies old at n files policies = record old {
  counted = n;
  last = Some at;
  files = files;
  world = record old.world {
    policies = policies;
    policy_number = old.world.policy_number + 1;
  };
}

abbrev policy_row : Row → Row
policy_row row = record row { kind = policy_kind }

policy_quiet : (row : Row) → IsQuiet (policy_row row)
policy_quiet row = record {
  marks = λ e. either_none (nat_eq row.a e.number) [] refl;
  withdraws = λ p e. refl;
}

module _ (old : Tables) (at : ℤ) (counted : ℕ) (e : PoliciesEffect) (past : List Row) where
  abbrev Comes' : Row → Type 0
  Comes' row = Comes old at counted (effect.Policies e) past row

  pub policy_count_fits : CountsAreTold → (row : Row) → Comes' row
      → count_of (latest_of e.latest.name old.files.items) + 1 < 2 ^ 64
  policy_count_fits law row h =
      let is : count_of (latest_of e.latest.name old.files.items)
      ≡ count_of (latest_of e.latest.name (latest is_policy past)) =
      ap (λ ls. count_of (latest_of e.latest.name ls)) h.tabled.says.files in
      omega (arith, is, count_few law is_policy e.latest.name past, rows_few old past h.tabled)

  pub policy_number_fits : (row : Row) → Comes' row → old.world.policy_number + 1 < 2 ^ 64
  policy_number_fits row h =
      let is : old.world.policy_number ≡ count_of_kind is_policy past =
      ap (λ (w : World). w.policy_number) h.tabled.says.world in
      omega (arith, is, number_few is_policy past, rows_few old past h.tabled)

  pub policy_room : (row : Row) → Comes' row
      → length old.world.policies.docs + length e.new.items ≤ vec_capacity e.room
  policy_room row h =
      omega (
        arith,
        h.effect.memory,
        ap (λ (w : World). length w.policies.docs) h.tabled.says.world,
      )

  pub policy_rest_room : (row : Row) → Comes' row
      → length old.world.policies.docs ≤ vec_capacity e.rest_room
  policy_rest_room row h =
      omega (
        arith,
        h.effect.rest_memory,
        ap (λ (w : World). length w.policies.docs) h.tabled.says.world,
      )

  module _ (sizes : SizeIsBounded) (small : SmallAreNumbered) (law : NamesAscend) (n : ℕ)
      (files : Vec Latest Global) (policies : Policies)
      (more : n ≡ min (old.counted + counted) (2 ^ 64 - 1))
      (latest_put : files.items ≡ put_latest e.latest old.files.items)
      (file_put : policies.docs
      ≡ with_file e.latest.name e.new.items old.world.policies.docs) where
    abbrev Follows : Row → Type 0
    Follows row =
        Comes' row → AreLogTables (with_policies old at n files policies) (log_state (row ∷ past))

    follow_by : (row : Row) → Follows (policy_row row)
    follow_by row h =
        let s : LogState = log_state past in
        let r : Row = policy_row row in
        let says : AreLogTables old s = h.tabled.says in
        let es = unmarked_all (policies_before past) r s.executions (policy_quiet row) in
        let put : policies.docs ≡ (policies_of_files (put_latest r s.files)).docs =
        file_put
        ∙ ap (λ (r : Row). with_file r.name e.new.items old.world.policies.docs)
        h.effect.latest_is
        ∙ ap (λ ps. with_file row.name ps old.world.policies.docs) h.effect.new
        ∙ ap (λ (w : World). with_file row.name (policies_in r) w.policies.docs) says.world
        ∙ policies_put law past r in
        let in_force : policies ≡ policies_of_files (put_latest r s.files) =
        ap (λ docs. record { docs = docs }) put in
        let put_files : files.items ≡ put_latest r s.files =
        latest_put
        ∙ ap (λ x. put_latest x old.files.items) h.effect.latest_is
        ∙ ap (put_latest r) says.files in
        let few : length (put_latest r s.files) ≤ 64 =
        files_few law past r (subst (λ fs. length fs ≤ 64) says.files says.few_files)
        h.effect.place in record {
          counted = counted_more old past (counted_bytes r) counted n says h.counted_is more;
          last = ap Some h.at_is;
          draw = says.draw;
          workers = says.workers;
          checks = says.checks;
          doors = says.doors;
          leaves = says.leaves;
          owed = says.owed ∙ ap owed_among (sym es);
          zones = says.zones;
          zones_number = says.zones_number;
          nodes = says.nodes;
          due = says.due;
          files = put_files;
          few_files = subst (λ fs. length fs ≤ 64) (sym put_files) few;
          jobs_number = says.jobs_number;
          executions = subst (AreEntries old.executions.items) (sym es) says.executions;
          world = ap (λ (w : World). record w {
            policies = policies;
            policy_number = w.policy_number + 1;
          }) says.world
              ∙ ap (λ ps. record (world_of s) {
                policies = ps;
                policy_number = s.policy_number + 1;
              }) in_force
              ∙ ap (λ n. record (world_of s) {
                policies = policies_of_files (put_latest r s.files);
                policy_number = n;
              }) (add-one s.policy_number)
              ∙ ap (λ es. record (world_of s) {
                policies = policies_of_files (put_latest r s.files);
                policy_number = suc s.policy_number;
                running = running_now es;
              }) (sym es);
          numbered = (
            subst (λ docs. length docs < 2 ^ 32) (sym put)
                (omega (arith, policies_few sizes (put_latest r s.files), few)),
            subst (All IsPolicyNumbered) (sym file_put)
                (with_numbered e.latest.name e.new.items old.world.policies.docs says.numbered.1
                (subst (All IsPolicyNumbered) (sym h.effect.new) (row_numbered sizes small r))),
          );
        }

    pub policies_follow : (row : Row) → Follows row
    policies_follow row h =
        subst (λ k. Follows (record row { kind = k })) (sym h.effect.kind) (follow_by row) h

-- the row was noted, and then the rest was put
pub noted_policies_follow : SizeIsBounded → SmallAreNumbered → NamesAscend
    → (old noted : Tables) (at : ℤ) (counted : ℕ)
    (e : PoliciesEffect) (files : Vec Latest Global) (policies : Policies)
    → noted ≡ record old {
      counted = min (old.counted + counted) (2 ^ 64 - 1);
      last = Some at;
    }
    → files.items ≡ put_latest e.latest noted.files.items
    → policies.docs ≡ with_file e.latest.name e.new.items noted.world.policies.docs
    → (past : List Row) (row : Row) → Comes old at counted (effect.Policies e) past row
    → AreLogTables (record noted {
      files = files;
      world = record noted.world {
        policies = policies;
        policy_number = noted.world.policy_number + 1;
      };
    }) (log_state (row ∷ past))
noted_policies_follow sizes small law old noted at counted e files policies is latest file past
    row h =
    subst (λ (t : Tables). files.items ≡ put_latest e.latest t.files.items
    → policies.docs ≡ with_file e.latest.name e.new.items t.world.policies.docs
    → AreLogTables (record t {
      files = files;
      world = record t.world { policies = policies; policy_number = t.world.policy_number + 1 };
    }) (log_state (row ∷ past))) (sym is)
    (λ l f. policies_follow old at counted e past sizes small law
    (min (old.counted + counted) (2 ^ 64 - 1)) files policies refl l f row h) latest file
