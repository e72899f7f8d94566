-- One log, to which all that a server was asked belongs.
use Rattle.std.proofs.Common.{◌≡◌, ◌∙◌, ◌+◌, ◌-◌, ◌<◌, ◌≤◌, ◌⊎◌, ℕ, zero, suc, Bool, true, false, nat_le, List, [], ◌∷◌, ◌++◌, length, map, All, Contains, Some, option_to_list, get_or, ap, sym, subst, refl, arith, inl, inr, append-nil, length-append}
use Rattle.std.proofs.lemmas.Bool.{leb-false, leb-true}
use Rattle.std.proofs.lemmas.List.{get_or-map, length-map}
use Rattle.std.proofs.lemmas.List.Elements.{All-cons, All-from_get_or, All-get_or, All-head, Contains-append_cases, Contains-append_left, Contains-append_right}
use Rattle.std.specs.List.{flat_map}
use Rattle.atomic_table.specs.Seated.{TableId}
use Rattle.rb_acl.specs.declared.policy.Caller.{Caller}
use Rattle.rb_api.specs.declared.token.Token.{Token}
use Rattle.rb_board.specs.Boards.{HasClosed, IsKnown, PassValue, first_passes, seen_of, told_of_pass}
use Rattle.rb_board.specs.History.{IsHistory, entry_record, own}
use Rattle.rb_board.specs.declared.view.Entry.{Entry}
use Rattle.rb_board.specs.declared.view.Opening.{Opening}
use Rattle.rb_causes.specs.declared.row.Row.{Row}
use Rattle.rb_desk.specs.DeskState.{DeskState}
use Rattle.rb_desk.specs.Steps.{told_of}
use Rattle.rb_door.specs.Doors.{AreInOrder}
use Rattle.rb_door.specs.Laws.{ActsAreTrue, TalksFollow, TurnsStayTrue}
use Rattle.rb_log.proofs.Numbers.{below_length}
use Rattle.rb_log.specs.Acted.{Acted, ActsAs}
use Rattle.rb_log.specs.Records.{IsTrueRecord, Record}
use Rattle.rb_log.specs.Steps.{BeginsAreTasks}
use Rattle.rb_log.specs.Sums.{numbers_below}
use Rattle.rb_log.specs.Told.{IsBeginning, added}
use Rattle.rb_log.specs.declared.call.Call.TheVariants as call
use Rattle.rb_serve.proofs.Passes.{count_new, numbered, pass_at}
use Rattle.rb_serve.specs.Roles.{Senses}
use Rattle.rb_serve.specs.Served.{HasServed}
use Rattle.rb_serve.specs.declared.crew_end.CrewEnd.{CrewEnd}
use Rattle.rb_serve_laws.proofs.Parts.{AllActed, all_did}
use Rattle.rb_serve_laws.proofs.Doors.{true_at}
use Rattle.rb_serve_laws.proofs.Splitting.{by_pass, every, of_pass, once, own_has, rows_from, rows_upto, within}
use Rattle.rb_serve_laws.specs.OneLog.{AreRowsOf, HasOneLog, IsRowOf, ServersHaveOneLog, last_of}
use Rattle.rb_session.specs.declared.place.Document.{Document}
use Rattle.rb_session_laws.proofs.Ended.{none_in, save_adds_none, unadded}
use Rattle.rb_work.proofs.Records.{acted_begins, acted_own, acted_room, acted_then, acted_who, begins_longer, begins_then}
use Rattle.rb_work.specs.PumpLaws.{PumpLaws}

-- ---- lists of passes

acted_count : (ps qs : List PassValue) (lists : List (List Record)) → AllActed ps qs lists
    → (length qs ≡ length ps) × (length lists ≡ length ps)
acted_count [] [] [] h = (refl, refl)
acted_count (p ∷ ps) (q ∷ qs) (records ∷ lists) h =
    let more = acted_count ps qs lists h.1 in (ap suc more.0, ap suc more.1)
acted_count [] [] (records ∷ lists) h = absurd h
acted_count [] (q ∷ qs) lists h = absurd h
acted_count (p ∷ ps) [] lists h = absurd h
acted_count (p ∷ ps) (q ∷ qs) [] h = absurd h

acted_at : (ps qs : List PassValue) (lists : List (List Record)) → AllActed ps qs lists
    → (k : ℕ) (d : PassValue) → k < length ps
    → Acted (told_of_pass (get_or ps k d)) (told_of_pass (get_or qs k d)) (get_or lists k [])
acted_at [] qs lists h k d lt = absurd (omega (arith, lt))
acted_at (p ∷ ps) (q ∷ qs) (records ∷ lists) h zero d lt = h.0
acted_at (p ∷ ps) (q ∷ qs) (records ∷ lists) h (suc k) d lt =
    acted_at ps qs lists h.1 k d (omega (arith, lt))
acted_at (p ∷ ps) [] lists h k d lt = absurd h
acted_at (p ∷ ps) (q ∷ qs) [] h k d lt = absurd h

-- an element before the last, or the last
pub at_push : {A : Type 0} (xs : List A) (x : A) (k : ℕ) (d : A) → k < length (xs ++ x ∷ [])
    → ((k < length xs) × ((y : A) → get_or (xs ++ y ∷ []) k d ≡ get_or xs k d))
    ⊎ ((k ≡ length xs) × ((y : A) → get_or (xs ++ y ∷ []) k d ≡ y))
at_push [] x zero d lt = inr (refl, λ y. refl)
at_push [] x (suc k) d lt = absurd (omega (arith, lt))
at_push (z ∷ xs) x zero d lt = inl (omega arith, λ y. refl)
at_push (z ∷ xs) x (suc k) d lt = elim (at_push xs x k d (omega (arith, lt))) [
  | inl h ↦ inl (omega (arith, h.0), h.1)
  | inr h ↦ inr (ap suc h.0, h.1)
]

pub at_last : {A : Type 0} (xs : List A) (x d : A) → get_or (xs ++ x ∷ []) (length xs) d ≡ x
at_last [] x d = refl
at_last (z ∷ xs) x d = at_last xs x d

pub beyond : (lists : List (List Record)) (k : ℕ) → length lists ≤ k → get_or lists k [] ≡ []
beyond [] zero le = refl
beyond [] (suc k) le = refl
beyond (rs ∷ lists) zero le = absurd (omega (arith, le))
beyond (rs ∷ lists) (suc k) le = beyond lists k (omega (arith, le))

pub same_number : (p q : PassValue) (records : List Record)
    → Acted (told_of_pass p) (told_of_pass q) records → q.seen.number ≡ p.seen.number
same_number p q records h =
    ap (λ ns. get_or ns 0 0) (acted_who records (told_of_pass p) (told_of_pass q) h)

order_from : (a b : ℕ) (rs : List Record) → b ≤ a → AreInOrder a rs → AreInOrder b rs
order_from a b [] le h = tt
order_from a b (r ∷ rs) le h = (omega (arith, le, h.0), h.1, h.2)

-- ---- rooms

module _ (board : TableId) (o : Opening) (P : ℕ) (others : List PassValue) (pass : PassValue)
    (was : first_passes board o P ≡ others ++ pass ∷ []) where
  pub count_others : length others + 1 ≡ P
  count_others =
      sym (length-append others (pass ∷ [])) ∙ ap length (sym was) ∙ count_new board o P

  pub first_is : (k : ℕ) → k < P → get_or (others ++ pass ∷ []) k pass ≡ numbered board o k
  first_is k lt = ap (λ ps. get_or ps k pass) (sym was) ∙ pass_at board o P k pass lt

  pub last_first : pass ≡ numbered board o (length others)
  last_first =
      sym (at_last others pass pass) ∙ first_is (length others) (omega (arith, count_others))

  pub room_pass : (told_of_pass pass).room ≡ o.room
  room_pass = ap (λ (p : PassValue). (told_of_pass p).room) last_first

  room_before : (left : PassValue) (imports : List Record)
      → Acted (told_of_pass pass) (told_of_pass left) imports
      → (k : ℕ) → k < length (others ++ left ∷ [])
      → (told_of_pass (get_or (others ++ left ∷ []) k pass)).room ≡ o.room
  room_before left imports did k lt = elim (at_push others left k pass lt) [
    | inl h ↦ ap (λ (p : PassValue). (told_of_pass p).room)
        (h.1 left ∙ sym (h.1 pass) ∙ first_is k (omega (arith, h.0, count_others)))
    | inr h ↦ ap (λ (p : PassValue). (told_of_pass p).room) (h.1 left)
        ∙ acted_room imports (told_of_pass pass) (told_of_pass left) did ∙ room_pass
  ]

-- ---- rows

module _ (true_of : ActsAreTrue) (o : Opening) (past : List Entry) (log : List Row) (count : ℕ)
    (history : IsHistory o past log) (board : TableId) (P : ℕ) (others : List PassValue)
    (pass left : PassValue) (imports : List Record)
    (was : first_passes board o P ≡ others ++ pass ∷ [])
    (did : Acted (told_of_pass pass) (told_of_pass left) imports)
    (passes : List PassValue) (asked : List (List Record))
    (acted : AllActed (others ++ left ∷ []) passes asked)
    (known : All (IsKnown past log count) (map seen_of passes))
    (only : (number : ℕ) → length (map seen_of passes) ≤ number → own number past ≡ []) where
  abbrev before : List PassValue
  before = others ++ left ∷ []

  abbrev lists : List (List Record)
  lists = imports ∷ asked

  one_behind : length others + 1 ≡ P
  one_behind = count_others board o P others pass was

  count_before : length before ≡ P
  count_before = length-append others (left ∷ []) ∙ one_behind

  count_asked : length asked ≡ P
  count_asked = (acted_count before passes asked acted).1 ∙ count_before

  count_passes : length passes ≡ P
  count_passes = (acted_count before passes asked acted).0 ∙ count_before

  pass_is : pass ≡ numbered board o (length others)
  pass_is = last_first board o P others pass was

  -- the pass of the imports, or one that had seen nothing but the opening
  before_at : (k : ℕ) → k < P
      → ((k + 1 ≡ P) × (get_or before k pass ≡ left))
      ⊎ (get_or before k pass ≡ numbered board o k)
  before_at k lt = elim (at_push others left k pass (omega (arith, lt, count_before))) [
    | inl h ↦ inr (h.1 left ∙ sym (h.1 pass) ∙ first_is board o P others pass was k lt)
    | inr h ↦ inl (omega (arith, h.0, one_behind), h.1 left)
  ]

  imports_own : (told_of_pass left).own ≡ flat_map added imports
  imports_own =
      acted_own imports (told_of_pass pass) (told_of_pass left) did
      ∙ ap (λ (p : PassValue). (told_of_pass p).own ++ flat_map added imports) pass_is

  number_before : (k : ℕ) → k < P → (get_or before k pass).seen.number ≡ k
  number_before k lt = elim (before_at k lt) [
    | inl h ↦ ap (λ (p : PassValue). p.seen.number) h.1 ∙ same_number pass left imports did
        ∙ ap (λ (p : PassValue). p.seen.number) pass_is ∙ omega (arith, h.0, one_behind)
    | inr h ↦ ap (λ (p : PassValue). p.seen.number) h
  ]

  abbrev acts : (k : ℕ) → k < P
      → Acted (told_of_pass (get_or before k pass)) (told_of_pass (get_or passes k pass))
      (get_or asked k [])
  acts k lt = acted_at before passes asked acted k pass (omega (arith, lt, count_before))

  number_at : (k : ℕ) → k < P → (get_or passes k pass).seen.number ≡ k
  number_at k lt =
      same_number (get_or before k pass) (get_or passes k pass) (get_or asked k []) (acts k lt)
      ∙ number_before k lt

  known_at : (k : ℕ) → k < P → IsKnown past log count (get_or passes k pass).seen
  known_at k lt =
      let few : k < length passes = omega (arith, lt, count_passes) in
      subst (IsKnown past log count)
      (get_or-map seen_of passes k pass pass.seen few)
      (All-get_or (IsKnown past log count) (map seen_of passes) k pass.seen
      (omega (arith, few, length-map passes seen_of)) known)

  own_at : (k : ℕ) → k < P
      → (told_of_pass (get_or passes k pass)).own
      ≡ (told_of_pass (get_or before k pass)).own ++ flat_map added (get_or asked k [])
  own_at k lt =
      acted_own (get_or asked k []) (told_of_pass (get_or before k pass))
      (told_of_pass (get_or passes k pass)) (acts k lt)

  -- the entry of a row of a pass
  entry_of : (k n : ℕ) → k < P → Contains (told_of_pass (get_or passes k pass)).own n
      → (e : Entry) × Contains past e × (e.pass ≡ k) × Contains (added (entry_record e)) n
  entry_of k n lt h =
      let m = by_pass past log count (get_or passes k pass).seen (known_at k lt) n h in
      (m.0, m.1, m.2 ∙ number_at k lt, m.3)

  asked_in : (k n : ℕ) → IsRowOf lists (suc k) n
      → (k < P) × ((e : Entry) × Contains past e × (e.pass ≡ k)
      × Contains (added (entry_record e)) n)
  asked_in k n h = by (nat_le P k) refl
    where
      by : (b : Bool) → nat_le P k ≡ b
          → (k < P) × ((e : Entry) × Contains past e × (e.pass ≡ k)
          × Contains (added (entry_record e)) n)
      by true large =
          let le : P ≤ k = leb-true P k large in
          absurd (none_in n (subst (λ rs. Contains (flat_map added rs) n)
          (beyond asked k (omega (arith, le, count_asked))) h))
      by false small =
          let lt : k < P = leb-false P k small in (
            lt,
            entry_of k n lt (subst (λ ns. Contains ns n) (sym (own_at k lt))
                (Contains-append_right (told_of_pass (get_or before k pass)).own
                (flat_map added (get_or asked k [])) n h)),
          )

  last_is : get_or before (length others) pass ≡ left
  last_is = at_last others left pass

  last_few : length others < P
  last_few = omega (arith, one_behind)

  import_in : (n : ℕ) → IsRowOf lists 0 n
      → (e : Entry) × Contains past e × (e.pass ≡ length others)
      × Contains (added (entry_record e)) n
  import_in n h =
      entry_of (length others) n last_few
      (subst (λ ns. Contains ns n) (sym (own_at (length others) last_few))
      (Contains-append_left (told_of_pass (get_or before (length others) pass)).own
      (flat_map added (get_or asked (length others) [])) n
      (subst (λ (p : PassValue). Contains (told_of_pass p).own n) (sym last_is)
      (subst (λ ns. Contains ns n) (sym imports_own) h))))

  -- what was imported stands before what the same pass asked later
  apart : (k n : ℕ) → IsRowOf lists 0 n → IsRowOf lists (suc k) n → ⊥
  apart k n h g =
      let i = import_in n h in
      let a = asked_in k n g in
      let same : length others ≡ k =
      sym i.2 ∙ once o past log history i.0 a.1.0 n i.1 i.3 a.1.1 a.1.3 ∙ a.1.2 in
      let is : get_or before k pass ≡ left = ap (λ m. get_or before m pass) (sym same) ∙ last_is in
      let low = rows_upto imports (told_of_pass pass) (told_of_pass left) did n h in
      let order = (true_of (told_of_pass (get_or before k pass))
      (told_of_pass (get_or passes k pass)) (get_or asked k []) (acts k a.0)).later in
      let high = rows_from (length (get_or before k pass).seen.log) (get_or asked k []) order n g in
      let there = ap (λ (p : PassValue). length p.seen.log) is in
      omega (arith, low, high, there)

  row_once : (j k n : ℕ) → IsRowOf lists j n → IsRowOf lists k n → j ≡ k
  row_once zero zero n h g = refl
  row_once zero (suc k) n h g = absurd (apart k n h g)
  row_once (suc j) zero n h g = absurd (apart j n g h)
  row_once (suc j) (suc k) n h g =
      let a = (asked_in j n h).1 in let b = (asked_in k n g).1 in
      ap suc (sym a.2 ∙ once o past log history a.0 b.0 n a.1 a.3 b.1 b.3 ∙ b.2)

  row_behind : (k n : ℕ) → IsRowOf lists k n → (length o.log < n) × (n ≤ length log)
  row_behind zero n h =
      let i = import_in n h in within o past log history i.0 n i.1 i.3
  row_behind (suc k) n h =
      let a = (asked_in k n h).1 in within o past log history a.0 n a.1 a.3

  -- the number of a pass that made an entry
  pass_few : (e : Entry) → Contains past e → e.pass < P
  pass_few e there = by (nat_le P e.pass) refl
    where
      by : (b : Bool) → nat_le P e.pass ≡ b → e.pass < P
      by true large =
          let le : P ≤ e.pass = leb-true P e.pass large in
          let none = only e.pass
          (omega (arith, le, count_passes, length-map passes seen_of)) in
          absurd (none_in e (subst (λ es. Contains es e) none (own_has past e there)))
      by false small = leb-false P e.pass small

  row_every : (n : ℕ) → length o.log < n → n ≤ length log → (k : ℕ) × IsRowOf lists k n
  row_every n low high =
      let m = every o past log history n low high in
      let k = m.0.pass in
      let lt = pass_few m.0 m.1 in
      let there = of_pass past log count (get_or passes k pass).seen (known_at k lt) n m.0 m.1
      (sym (number_at k lt)) m.2 in
      elim (Contains-append_cases (told_of_pass (get_or before k pass)).own
      (flat_map added (get_or asked k [])) n
      (subst (λ ns. Contains ns n) (own_at k lt) there)) [
        | inl h ↦ elim (before_at k lt) [
          | inl is ↦ (
            0,
            subst (λ ns. Contains ns n) imports_own
                (subst (λ (p : PassValue). Contains (told_of_pass p).own n) is.1 h),
          )
          | inr is ↦ absurd (none_in n
              (subst (λ (p : PassValue). Contains (told_of_pass p).own n) is h))
        ]
        | inr h ↦ (suc k, h)
      ]

  pub rows_of : AreRowsOf (length o.log) (length log) lists
  rows_of = record { every = row_every; once = row_once; behind = row_behind }

  -- ---- their order

  first_log : length (told_of_pass pass).log ≡ length o.log
  first_log = ap (λ (p : PassValue). length p.seen.log) pass_is

  left_log : length o.log ≤ length left.seen.log
  left_log =
      let grew = begins_longer pass.seen.log left.seen.log
      (acted_begins imports (told_of_pass pass) (told_of_pass left) did) in
      omega (arith, grew, first_log)

  log_before : (k : ℕ) → k < P → length o.log ≤ length (get_or before k pass).seen.log
  log_before k lt = elim (before_at k lt) [
    | inl h ↦ let same = ap (λ (p : PassValue). length p.seen.log) h.1 in
        omega (arith, same, left_log)
    | inr h ↦ let same = ap (λ (p : PassValue). length p.seen.log) h in omega (arith, same)
  ]

  order_asked : (k : ℕ) → k < P → AreInOrder (length o.log) (get_or asked k [])
  order_asked k lt =
      order_from (length (get_or before k pass).seen.log) (length o.log) (get_or asked k [])
      (log_before k lt)
      (true_of (told_of_pass (get_or before k pass)) (told_of_pass (get_or passes k pass))
      (get_or asked k []) (acts k lt)).later

  pub all_behind : All (AreInOrder (length o.log)) lists
  all_behind =
      All-cons (AreInOrder (length o.log)) imports asked
      (subst (λ n. AreInOrder n imports) first_log
      (true_of (told_of_pass pass) (told_of_pass left) imports did).later)
      (All-from_get_or (AreInOrder (length o.log)) asked []
      (λ k lt. order_asked k (omega (arith, lt, count_asked))))

  abbrev end : PassValue
  end = get_or passes (length others) pass

  abbrev last_asked : List Record
  last_asked = get_or asked (length others) []

  pub import_order : AreInOrder (length o.log) (imports ++ last_of asked)
  import_order =
      let is : length others ≡ length asked - 1 = omega (arith, count_asked, one_behind) in
      let on : Acted (told_of_pass left) (told_of_pass end) last_asked =
      subst (λ (p : PassValue). Acted (told_of_pass p) (told_of_pass end) last_asked) last_is
      (acts (length others) last_few) in
      subst (λ n. AreInOrder (length o.log) (imports ++ get_or asked n [])) is
      (subst (λ n. AreInOrder n (imports ++ last_asked)) first_log
      (true_of (told_of_pass pass) (told_of_pass end) (imports ++ last_asked)
      (acted_then imports last_asked (told_of_pass pass) (told_of_pass left) (told_of_pass end) did
      on)).later)

-- ---- a Save

same_if_long : (xs more : List Row) → length (xs ++ more) ≡ length xs → xs ++ more ≡ xs
same_if_long xs [] h = append-nil xs
same_if_long xs (row ∷ more) h =
    absurd (let long = length-append xs (row ∷ more) in omega (arith, h, long))

own_count : (n : ℕ) → length (map (λ k. k + 1) (numbers_below n)) ≡ n
own_count n = length-map (numbers_below n) (λ k. k + 1) ∙ below_length n

-- the log of a desk stays as it is saved
pub save_stays : {K : Type 0} (faults : K → ℕ) → ActsAreTrue → (old new : DeskState K) (r : Record)
    → ActsAs (told_of faults old) (told_of faults new) r → r.call ≡ call.Save
    → new.log ≡ old.log
save_stays faults true_of old new r h is =
    let a = told_of faults old in
    let b = told_of faults new in
    let acted : Acted a b (r ∷ []) = (b, h, refl) in
    let one =
    All-head (IsTrueRecord new.log old.room) r [] (true_of a b (r ∷ []) acted).each.each in
    let stays = save_adds_none new.log old.room r is one in
    let own = acted_own (r ∷ []) a b acted
    ∙ ap (λ ns. a.own ++ (ns ++ [])) (unadded r stays) ∙ append-nil a.own in
    let long : length new.log ≡ length old.log =
    sym (own_count (length new.log)) ∙ ap length own ∙ own_count (length old.log) in
    let begins = h.acts.log in
    begins.1 ∙ same_if_long old.log begins.0 (ap length (sym begins.1) ∙ long)

-- ---- all of it

begun : (o : Opening) (past : List Entry) (log : List Row) → IsHistory o past log
    → IsBeginning o.log log
begun o [] log h = ([], h ∙ sym (append-nil o.log))
begun o (x ∷ past) log h =
    begins_then o.log h.0 log (begun o past h.0 h.1) (option_to_list h.2.row, h.2.log)

module _ (true_of : ActsAreTrue) (stay : TurnsStayTrue) (follow : TalksFollow)
    (begins : BeginsAreTasks) (laws : PumpLaws) {K L S : Type 0} (faults : K → ℕ)
    (senses : Senses L S) (owner : Caller) (documents : List Document) (o : Opening)
    (lines lines' : List L) (spawners spawners' : List S) (served : DeskState K) where
  pub by_parts : (board : TableId) (P : ℕ) (passes : List PassValue) (said : CrewEnd)
      (h : HasServed senses owner documents (first_passes board o P) passes lines lines' spawners
      spawners' said) → HasClosed faults o (map seen_of passes) served
      → HasOneLog senses owner documents o served.log lines lines' spawners spawners'
  by_parts board P passes said h closed =
      let by = h.imports in
      let played = h.played in
      let before = by.others ++ by.left ∷ [] in
      let log = served.log in
      let known = IsKnown closed.past log (faults served.keeper) in
      let begins_at : All (λ (q : PassValue). IsBeginning q.seen.log log) passes =
      All-from_get_or (λ q. IsBeginning q.seen.log log) passes by.pass
      (λ k lt. (subst known (get_or-map seen_of passes k by.pass by.pass.seen lt)
      (All-get_or known (map seen_of passes) k by.pass.seen
      (omega (arith, lt, length-map passes seen_of)) closed.passes)).beginning) in
      let rooms : All (λ (q : PassValue). (told_of_pass q).room ≡ o.room) before =
      All-from_get_or (λ q. (told_of_pass q).room ≡ o.room) before by.pass
      (room_before board o P by.others by.pass by.was by.left by.did.made by.did.acted) in
      let all = all_did true_of stay follow begins laws senses log o.room played.parts played.ends
      before passes played.played
      (played.cast.passes_are ∙ ap (map Some) by.is) played.passes_back rooms begins_at in
      let count = length by.others in
      let last = acted_at before passes all.asked all.acted count by.pass
      (omega (arith, length-append by.others (by.left ∷ []))) in
      let few : count < length passes =
      omega (
        arith,
        (acted_count before passes all.asked all.acted).0,
        length-append by.others (by.left ∷ []),
      ) in
      record {
        goes_on = begun o closed.past log closed.history;
        parts = played.parts;
        ends = played.ends;
        lines_are = (played.cast.lines_are, played.lines_back);
        spawners_are = (played.cast.spawners_are, played.spawners_back);
        imports = by.did.made;
        imported = by.did.imports;
        imports_true = true_at true_of stay log o.room (told_of_pass by.pass)
            (told_of_pass by.left) by.did.made
            (room_pass board o P by.others by.pass by.was)
            (subst (λ (q : PassValue). IsBeginning q.seen.log log)
            (at_last by.others by.left by.pass)
            (begins_then (get_or before count by.pass).seen.log
            (get_or passes count by.pass).seen.log log
            (acted_begins (get_or all.asked count []) (told_of_pass (get_or before count by.pass))
            (told_of_pass (get_or passes count by.pass)) last)
            (All-get_or (λ (q : PassValue). IsBeginning q.seen.log log) passes count by.pass few
            begins_at)))
            by.did.acted;
        asked = all.asked;
        over = all.over;
        rows = rows_of true_of o closed.past log (faults served.keeper) closed.history board P
            by.others by.pass by.left by.did.made by.was by.did.acted passes all.asked all.acted
            closed.passes closed.only;
        behind = all_behind true_of o closed.past log (faults served.keeper) closed.history board
            P by.others by.pass by.left by.did.made by.was by.did.acted passes all.asked all.acted
            closed.passes closed.only;
        imports_first = import_order true_of o closed.past log (faults served.keeper)
            closed.history board P by.others by.pass by.left by.did.made by.was by.did.acted passes all.asked all.acted
            closed.passes closed.only;
      }

  -- its parts ended as they were played
  pub ends_are : (board : TableId) (P : ℕ) (passes : List PassValue) (said : CrewEnd)
      (h : HasServed senses owner documents (first_passes board o P) passes lines lines' spawners
      spawners' said) (closed : HasClosed faults o (map seen_of passes) served)
      → (by_parts board P passes said h closed).ends ≡ h.played.ends
  unfolding by_parts
  ends_are board P passes said h closed = refl

pub servers_have_one_log : ActsAreTrue → TurnsStayTrue → TalksFollow → BeginsAreTasks → PumpLaws
    → {K L S : Type 0} (faults : K → ℕ) (senses : List Token → Senses L S)
    → ServersHaveOneLog faults senses
servers_have_one_log true_of stay follow begins laws faults senses tokens owner documents o lines
    lines' spawners spawners' desk status sink sink' h =
    subst (λ log. HasOneLog (senses tokens) owner documents o log lines lines' spawners spawners')
    (sym (save_stays faults true_of h.served desk h.saved.0 h.saved.1 h.saved.2))
    (by_parts true_of stay follow begins laws faults (senses tokens) owner documents o lines lines'
    spawners spawners' h.served h.all.board (length lines + length spawners) h.all.passes h.said
    h.all.served h.all.closed)
