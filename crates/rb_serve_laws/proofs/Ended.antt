-- Where all parts ended well, no door is open at the end of the log, and nothing is running.
use Rattle.std.proofs.Common.{◌≡◌, ◌∙◌, ◌+◌, ◌-◌, ◌<◌, ◌≤◌, ◌⊎◌, ℕ, ℤ, zero, suc, pos, Bool, true, false, nat_eq, nat_le, ◌||◌, ◌&&◌, if◌then◌else◌, List, [], ◌∷◌, ◌++◌, length, take, reverse, All, Contains, slice_get, get_or, ap, sym, subst, refl, arith, inl, inr, append_assoc}
use Rattle.std.proofs.lemmas.Bool.{eqb-true, false≢true, leb-false, leb-true}
use Rattle.std.proofs.lemmas.List.{reverse-append, take_more}
use Rattle.std.proofs.lemmas.Option.{slice_get-get_or}
use Rattle.std.proofs.lemmas.List.Concat.{flat_map-append}
use Rattle.std.proofs.lemmas.List.Elements.{All-contains, All-get_or, All-head, All-tail, Contains-append_cases, Contains-append_left, Contains-append_right}
use Rattle.std.specs.List.{flat_map}
use Rattle.rb_api.specs.declared.token.Token.{Token}
use Rattle.rb_causes.specs.declared.row.Row.{Row}
use Rattle.rb_door.specs.Doors.{AreInOrder, AreTrue}
use Rattle.rb_door.specs.Laws.{ActsAreTrue, TalksFollow, TurnsStayTrue}
use Rattle.rb_log.specs.Laws.{ClaimAnswers}
use Rattle.rb_log.specs.Records.{IsTrueRecord, Record, before_record}
use Rattle.rb_log.specs.Rows.{close_row, is_accept, is_close, is_opened, is_skipped}
use Rattle.rb_log.specs.Steps.{BeginsAreTasks, RowsAreOfCalls, is_row_of}
use Rattle.rb_log.specs.Sums.{numbers_below, open_doors, without}
use Rattle.rb_log.specs.Told.{added}
use Rattle.rb_log.specs.declared.call.Call.{Call}
use Rattle.rb_log.specs.declared.call.Call.TheVariants as call
use Rattle.rb_serve.specs.Roles.{Senses, spawner_in, spawners_of}
use Rattle.rb_serve.specs.declared.role.Post.{Post}
use Rattle.rb_serve.specs.declared.role.Post.TheVariants.{Door, Worker}
use Rattle.rb_serve.specs.declared.role.Role.{Role}
use Rattle.rb_serve_laws.proofs.Closings.{one_more}
use Rattle.rb_serve_laws.proofs.OneLog.{beyond, by_parts, ends_are, save_stays}
use Rattle.rb_serve_laws.proofs.Splitting.{grows}
use Rattle.rb_serve_laws.proofs.Well as well
use Rattle.rb_serve_laws.specs.OneLog.{AreRowsOf, IsRowOf, last_of}
use Rattle.rb_serve_laws.specs.Parts.{ArePartsOver, EndsClosed, IsPartOver}
use Rattle.rb_serve_laws.specs.Statuses.{IsWellPlayed, ZeroHasEnded}
use Rattle.rb_session_laws.proofs.Ended.{adds_none, closed_there, ended_there, in_added, none_in, past_before, rows_before, unadded}
use Rattle.rb_session_laws.specs.Statuses.{EndsWith, HasEnded}
use Rattle.rb_work.specs.PumpLaws.{PumpLaws}

-- ---- the rows of calls are no openings

kind_not : (n : ℕ) (row : Row) → nat_eq n 1 ≡ false → nat_eq row.kind n ≡ true
    → is_opened row ≡ false
kind_not n row other is = ap (λ k. nat_eq k 1) (eqb-true row.kind n is) ∙ other

either : (a b : Bool) → a || b ≡ true → (a ≡ true) ⊎ (b ≡ true)
either true b h = inl refl
either false b h = inr h

of_call : (c : Call) (row : Row) → is_row_of c row ≡ true → is_opened row ≡ false
of_call (call.ImportZone name rule at) row h = kind_not 11 row refl h
of_call (call.ImportNodes project body at) row h = kind_not 2 row refl h
of_call (call.ImportPolicy caller checked name body at) row h = kind_not 4 row refl h
of_call (call.ImportJobs caller checked project body at) row h = kind_not 3 row refl h
of_call (call.Run caller ask at) row h = kind_not 5 row refl h
of_call (call.Abort caller execution at) row h = kind_not 7 row refl h
of_call (call.Tick at) row h = elim (either (is_accept row) (is_skipped row) h) [
  | inl k ↦ kind_not 5 row refl k
  | inr k ↦ kind_not 6 row refl k
]
of_call (call.Claim worker at) row h = elim (either (nat_eq row.kind 8) (nat_eq row.kind 12) h) [
  | inl k ↦ kind_not 8 row refl k
  | inr k ↦ kind_not 12 row refl k
]
of_call (call.Report done at) row h = kind_not 9 row refl h
of_call (call.CloseDoor door at) row h = kind_not 10 row refl h
of_call (call.Look caller look) row h = absurd (false≢true h)
of_call call.Save row h = absurd (false≢true h)

-- ---- doors that are not open

left_of : (a b : Bool) → a && b ≡ true → a ≡ true
left_of true b h = refl
left_of false b h = h

none_of : (ds : List ℕ) → length ds ≡ 0 → ds ≡ []
none_of [] h = refl
none_of (d ∷ ds) h = absurd (omega (arith, h))

no_doors : (ds : List ℕ) (more : Bool) → nat_eq (length ds) 0 && more ≡ true → ds ≡ []
no_doors ds more h =
    none_of ds (eqb-true (length ds) 0 (left_of (nat_eq (length ds) 0) more h))

-- where no door is open, a row that is no opening opens none
still_none : (row : Row) (past : List Row) (o c : Bool) → o ≡ false → open_doors past ≡ []
    → (if o then numbers_below row.a
    else if c then without row.a (open_doors past)
    else open_doors past)
    ≡ []
still_none row past true c is none = absurd (false≢true (sym is))
still_none row past false true is none = ap (λ ds. without row.a ds) none
still_none row past false false is none = none

-- ---- records of rows

record_of_row : (rs : List Record) (n : ℕ) → Contains (flat_map added rs) n
    → (r : Record) × Contains rs r × (n ≡ r.after) × (nat_eq r.before r.after ≡ false)
record_of_row [] n h = absurd (none_in n h)
record_of_row (r ∷ rs) n h = elim (Contains-append_cases (added r) (flat_map added rs) n h) [
  | inl k ↦ let is = in_added r n k in (r, (0, omega arith, refl), is.0, is.1)
  | inr k ↦ let m = record_of_row rs n k in
      (m.0, Contains-append_right (r ∷ []) rs m.0 m.1, m.2, m.3)
]

-- rows that stand before a record
front_rows : (past : ℕ) (xs : List Record) (r : Record) (rest : List Record)
    → AreInOrder past (xs ++ r ∷ rest) → (n : ℕ) → Contains (flat_map added xs) n → n ≤ r.before
front_rows past [] r rest order n h = absurd (none_in n h)
front_rows past (x ∷ xs) r rest order n h =
    elim (Contains-append_cases (added x) (flat_map added xs) n h) [
      | inl k ↦ let is = (in_added x n k).0 in
          let on = past_before x.after xs r rest order.2 in omega (arith, is, on)
      | inr k ↦ front_rows x.after xs r rest order.2 n k
    ]

-- ---- parts that ended well

module _ (log : List Row) where
  -- what a part asked ends with the closing of its door, which was open, or with a Claim that was
  -- answered Closed
  pub record ClosesLast (records : List Record) : Type 0 where
    pub close : Record
    pub last : EndsWith records close
    pub door : ℕ
    pub at : ℤ
    pub asked : close.call ≡ call.CloseDoor door at
    pub was_open : Contains (open_doors (before_record log close)) door

  abbrev pub PartEnd : List Record → Type 0
  PartEnd records = ClosesLast records ⊎ EndsClosed records

  module _ {L S : Type 0} (senses : Senses L S) (room : ℕ) where
    part_end : (p q : Post L S) (records : List Record) → IsPartOver senses log room p q records
        → IsWellPlayed q → PartEnd records
    part_end (Door line buffer number e) (Door line' buffer' number' e') records h is =
        inl (record {
          close = h.close;
          last = (_, h.records_are);
          door = number;
          at = h.at;
          asked = h.closes;
          was_open = h.was_open;
        })
    part_end (Worker spawner number said) (Worker spawner' number' said') records h is =
        inr (h.over is)
    part_end (Door line buffer number e) (Worker spawner' number' said') records h is = absurd h
    part_end (Worker spawner number said) (Door line' buffer' number' e') records h is = absurd h

    part_at : (rs ss : List (Role L S)) (asked : List (List Record))
        → ArePartsOver senses log room rs ss asked → All (λ s. IsWellPlayed s.post) ss → (k : ℕ)
        → k < length asked → AreTrue log room (get_or asked k []) × PartEnd (get_or asked k [])
    part_at [] [] [] h all k lt = absurd (omega (arith, lt))
    part_at (r ∷ rs) (s ∷ ss) (records ∷ asked) h all zero lt =
        (h.0, part_end r.post s.post records h.1 (All-head (λ s. IsWellPlayed s.post) s ss all))
    part_at (r ∷ rs) (s ∷ ss) (records ∷ asked) h all (suc k) lt =
        part_at rs ss asked h.2 (All-tail (λ s. IsWellPlayed s.post) s ss all) k
        (omega (arith, lt))
    part_at [] [] (records ∷ asked) h all k lt = absurd h
    part_at [] (s ∷ ss) asked h all k lt = absurd h
    part_at (r ∷ rs) [] asked h all k lt = absurd h
    part_at (r ∷ rs) (s ∷ ss) [] h all k lt = absurd h

    -- the part is a worker, or the spawners are those of others
    worker_or : (p q : Post L S) (rest : List S) (records : List Record)
        → IsPartOver senses log room p q records → IsWellPlayed q
        → 0 < length (spawner_in p rest) → EndsClosed records ⊎ (0 < length rest)
    worker_or (Door line buffer number e) (Door line' buffer' number' e') rest records h is some =
        inr some
    worker_or (Worker spawner number said) (Worker spawner' number' said') rest records h is some =
        inl (h.over is)
    worker_or (Door line buffer number e) (Worker spawner' number' said') rest records h is some =
        absurd h
    worker_or (Worker spawner number said) (Door line' buffer' number' e') rest records h is some =
        absurd h

    some_worker : (rs ss : List (Role L S)) (asked : List (List Record))
        → ArePartsOver senses log room rs ss asked → All (λ s. IsWellPlayed s.post) ss
        → 0 < length (spawners_of rs)
        → (k : ℕ) × (k < length asked) × EndsClosed (get_or asked k [])
    some_worker [] [] [] h all some = absurd (omega (arith, some))
    some_worker (r ∷ rs) (s ∷ ss) (records ∷ asked) h all some =
        elim (worker_or r.post s.post (spawners_of rs) records h.1
        (All-head (λ s. IsWellPlayed s.post) s ss all) some) [
          | inl c ↦ (0, omega arith, c)
          | inr more ↦ let m = some_worker rs ss asked h.2
              (All-tail (λ s. IsWellPlayed s.post) s ss all) more in
              (suc m.0, omega (arith, m.1), m.2)
        ]
    some_worker [] [] (records ∷ asked) h all some = absurd h
    some_worker [] (s ∷ ss) asked h all some = absurd h
    some_worker (r ∷ rs) [] asked h all some = absurd h
    some_worker (r ∷ rs) (s ∷ ss) [] h all some = absurd h

-- ---- the end of the log

module _ (claims : ClaimAnswers) (kinds : RowsAreOfCalls) {L S : Type 0} (senses : Senses L S)
    (log : List Row) (room first : ℕ) (parts ends : List (Role L S)) (imports : List Record)
    (asked : List (List Record)) (over : ArePartsOver senses log room parts ends asked)
    (imported : AreTrue log room imports)
    (rows : AreRowsOf first (length log) (imports ∷ asked))
    (behind : All (AreInOrder first) (imports ∷ asked))
    (imports_first : AreInOrder first (imports ++ last_of asked))
    (all : All (λ s. IsWellPlayed s.post) ends) where
  abbrev lists : List (List Record)
  lists = imports ∷ asked

  at : (k : ℕ) → k < length asked
      → AreTrue log room (get_or asked k []) × PartEnd log (get_or asked k [])
  at k lt = part_at log senses room parts ends asked over all k lt

  -- a list that is none has no row
  few : (k n : ℕ) → IsRowOf lists (suc k) n → k < length asked
  few k n h = by (nat_le (length asked) k) refl
    where
      by : (b : Bool) → nat_le (length asked) k ≡ b → k < length asked
      by true large =
          absurd (none_in n (subst (λ rs. Contains (flat_map added rs) n)
          (beyond asked k (leb-true (length asked) k large)) h))
      by false small = leb-false (length asked) k small

  each_true : (k n : ℕ) → IsRowOf lists k n → All (IsTrueRecord log room) (get_or lists k [])
  each_true zero n h = imported.each
  each_true (suc k) n h = (at k (few k n h)).0.each

  -- ---- no row behind the opening is one

  abbrev some_row : Row
  some_row = close_row (pos 0) 0

  not_opened : (m : ℕ) → first ≤ m → m < length log → is_opened (get_or log m some_row) ≡ false
  not_opened m low high =
      let e = rows.every (m + 1) (omega (arith, low)) (omega (arith, high)) in
      let f = record_of_row (get_or lists e.0 []) (m + 1) e.1 in
      let r = f.0 in
      let is_true = All-contains (IsTrueRecord log room) (get_or lists e.0 []) r
      (each_true e.0 (m + 1) e.1) f.1 in
      let place : r.after - 1 ≡ m = omega (arith, f.2) in
      of_call r.call (get_or log m some_row)
      (kinds log room r (get_or log m some_row) is_true
      (grows r.before r.after f.3 is_true.within.0)
      (ap (λ k. slice_get log k) place ∙ slice_get-get_or log m some_row high))

  -- so where no door is open, none is open later
  none_later : (p m : ℕ) → first ≤ p → p + m ≤ length log
      → open_doors (reverse (take p log)) ≡ [] → open_doors (reverse (take (p + m) log)) ≡ []
  none_later p zero low high none =
      ap (λ k. open_doors (reverse (take k log))) (omega arith) ∙ none
  none_later p (suc m) low high none =
      let row : Row = get_or log (p + m) some_row in
      let past : List Row = reverse (take (p + m) log) in
      let one : p + suc m ≡ p + m + 1 = omega arith in
      let long : p + m < length log = omega (arith, high) in
      let is : reverse (take (p + suc m) log) ≡ row ∷ past =
      ap (λ k. reverse (take k log)) one ∙ ap reverse (take_more log (p + m) some_row long)
      ∙ reverse-append (take (p + m) log) (row ∷ []) in
      ap open_doors is
      ∙ still_none row past (is_opened row) (is_close row)
      (not_opened (p + m) (omega (arith, low)) long)
      (none_later p m low (omega (arith, long)) none)

  -- ---- a list that ends with a Claim that was answered Closed

  module _ (records : List Record) (is_true : AreTrue log room records)
      (order : AreInOrder first records) (c : EndsClosed records) where
    in_order : AreInOrder first (c.1.0 ++ c.0 ∷ [])
    in_order = subst (AreInOrder first) c.1.1 order

    true_claim : IsTrueRecord log room c.0
    true_claim =
        All-contains (IsTrueRecord log room) records c.0 is_true.each
        (subst (λ rs. Contains rs c.0) (sym c.1.1)
        (Contains-append_right c.1.0 (c.0 ∷ []) c.0 (0, omega arith, refl)))

    pub from_first : first ≤ c.0.before
    from_first = past_before first c.1.0 c.0 [] in_order

    pub own_rows : (n : ℕ) → Contains (flat_map added records) n → n ≤ c.0.before
    own_rows n h =
        rows_before first c.1.0 c.0 [] in_order
        (ap (λ ns. ns ++ []) (unadded c.0 (adds_none claims log room c.0 c.2 true_claim))) n
        (subst (λ rs. Contains (flat_map added rs) n) c.1.1 h)

    pub by_claim : length log ≤ c.0.before → HasEnded log
    by_claim le = ended_there claims log room c.0 c.2 true_claim le

    pub none_there : open_doors (reverse (take c.0.before log)) ≡ []
    none_there =
        no_doors (open_doors (reverse (take c.0.before log))) _
        (closed_there claims log room c.0 c.2 true_claim)

  -- ---- a list that ends with the closing of a door

  module _ (records : List Record) (is_true : AreTrue log room records)
      (order : AreInOrder first records) (c : ClosesLast log records) where
    close_in_order : AreInOrder first (c.last.0 ++ c.close ∷ [])
    close_in_order = subst (AreInOrder first) c.last.1 order

    true_close : IsTrueRecord log room c.close
    true_close =
        All-contains (IsTrueRecord log room) records c.close is_true.each
        (subst (λ rs. Contains rs c.close) (sym c.last.1)
        (Contains-append_right c.last.0 (c.close ∷ []) c.close (0, omega arith, refl)))

    pub grew : c.close.after ≡ c.close.before + 1
    grew = one_more log room c.close c.door c.at c.asked true_close

    pub in_log : c.close.after ≤ length log
    in_log = true_close.within.1

    -- the last row of the log is that of the closing
    pub is_last : Contains (flat_map added records) (length log)
        → length log ≡ c.close.before + 1
    is_last h =
        elim (Contains-append_cases (flat_map added c.last.0) (flat_map added (c.close ∷ []))
        (length log) (subst (λ ns. Contains ns (length log))
        (ap (flat_map added) c.last.1 ∙ flat_map-append added c.last.0 (c.close ∷ [])) h)) [
          | inl k ↦ let le =
              front_rows first c.last.0 c.close [] close_in_order (length log) k in
              absurd (omega (arith, le, grew, in_log))
          | inr k ↦ elim (Contains-append_cases (added c.close) [] (length log) k) [
            | inl j ↦ let is = (in_added c.close (length log) j).0 in omega (arith, is, grew)
            | inr j ↦ absurd (none_in (length log) j)
          ]
        ]

  -- ---- the last row

  module _ (some : 0 < length (spawners_of parts)) where
    worker : (k : ℕ) × (k < length asked) × EndsClosed (get_or asked k [])
    worker = some_worker log senses room parts ends asked over all some

    order_at : (k : ℕ) → k < length asked → AreInOrder first (get_or asked k [])
    order_at k lt =
        All-get_or (AreInOrder first) asked k [] lt (All-tail (AreInOrder first) imports asked behind)

    abbrev work : List Record
    work = get_or asked worker.0 []

    true_work : AreTrue log room work
    true_work = (at worker.0 worker.1).0

    order_work : AreInOrder first work
    order_work = order_at worker.0 worker.1

    abbrev claim : Record
    claim = worker.2.0

    by_work : length log ≤ claim.before → HasEnded log
    by_work le = by_claim work true_work order_work worker.2 le

    -- it is that of the closing of a door: then a Claim before it was not answered Closed
    by_door : (records : List Record) (is_true : AreTrue log room records)
        (order : AreInOrder first records) (c : ClosesLast log records)
        → Contains (flat_map added records) (length log) → HasEnded log
    by_door records is_true order c h = by (nat_le (length log) claim.before) refl
      where
        by : (b : Bool) → nat_le (length log) claim.before ≡ b → HasEnded log
        by true le = by_work (leb-true (length log) claim.before le)
        by false gt =
            let lt : claim.before < length log = leb-false (length log) claim.before gt in
            let end = is_last records is_true order c h in
            let low = from_first work true_work order_work worker.2 in
            let p = claim.before in
            let m = c.close.before - p in
            let sum : p + m ≡ c.close.before = omega (arith, lt, end) in
            let none = none_later p m low (omega (arith, sum, end))
            (none_there work true_work order_work worker.2) in
            absurd (none_in c.door (subst (λ ds. Contains ds c.door)
            (ap (λ k. open_doors (reverse (take k log))) (sym sum) ∙ none) c.was_open))

    by_part : (k : ℕ) → IsRowOf lists (suc k) (length log) → HasEnded log
    by_part k h =
        let lt = few k (length log) h in
        let part = at k lt in
        elim part.1 [
          | inl c ↦ by_door (get_or asked k []) part.0 (order_at k lt) c h
          | inr c ↦ by_claim (get_or asked k []) part.0 (order_at k lt) c
              (own_rows (get_or asked k []) part.0 (order_at k lt) c (length log) h)
        ]

    -- it is of the imports: these stand before the end of the last part
    abbrev last : ℕ
    last = length asked - 1

    last_few : last < length asked
    last_few = omega (arith, worker.1)

    -- they stand before a record that ends it
    before_end : (r : Record) → EndsWith (last_of asked) r
        → Contains (flat_map added imports) (length log) → length log ≤ r.before
    before_end r e h =
        front_rows first (imports ++ e.0) r []
        (subst (AreInOrder first) (ap (λ rs. imports ++ rs) e.1
        ∙ sym (append_assoc imports e.0 (r ∷ []))) imports_first) (length log)
        (subst (λ ns. Contains ns (length log)) (sym (flat_map-append added imports e.0))
        (Contains-append_left (flat_map added imports) (flat_map added e.0) (length log) h))

    by_imports : IsRowOf lists zero (length log) → HasEnded log
    by_imports h =
        let part = at last last_few in
        let order = order_at last last_few in
        elim part.1 [
          | inl c ↦ let le = before_end c.close c.last h in
              absurd (omega (
                arith,
                le,
                grew (last_of asked) part.0 order c,
                in_log (last_of asked) part.0 order c,
              ))
          | inr c ↦ by_claim (last_of asked) part.0 order c (before_end c.0 c.1 h)
        ]

    by_list : (k : ℕ) → IsRowOf lists k (length log) → HasEnded log
    by_list zero h = by_imports h
    by_list (suc k) h = by_part k h

    pub has_ended : HasEnded log
    has_ended = by (nat_le (length log) first) refl
      where
        by : (b : Bool) → nat_le (length log) first ≡ b → HasEnded log
        by true short =
            let le = leb-true (length log) first short in
            let low = from_first work true_work order_work worker.2 in
            by_work (omega (arith, le, low))
        by false long =
            let lt = leb-false (length log) first long in
            let e = rows.every (length log) lt (omega arith) in by_list e.0 e.1

pub zero_has_ended : ClaimAnswers → RowsAreOfCalls → ActsAreTrue → TurnsStayTrue → TalksFollow
    → BeginsAreTasks → PumpLaws → {K L S : Type 0} (faults : K → ℕ)
    (senses : List Token → Senses L S) → ZeroHasEnded faults senses
zero_has_ended claims kinds true_of stay follow begins laws faults senses tokens owner documents o
    lines lines' spawners spawners' desk status sink sink' h told some =
    let ends_well = well.zero_is_well faults senses tokens owner documents o lines lines' spawners
    spawners' desk status sink sink' h told in
    let one = by_parts true_of stay follow begins laws faults (senses tokens) owner documents o
    lines lines' spawners spawners' h.served h.all.board (length lines + length spawners)
    h.all.passes h.said h.all.served h.all.closed in
    let same = ends_are true_of stay follow begins laws faults (senses tokens) owner documents o
    lines lines' spawners spawners' h.served h.all.board (length lines + length spawners)
    h.all.passes h.said h.all.served h.all.closed in
    subst HasEnded
    (sym (save_stays faults true_of h.served desk h.saved.0 h.saved.1 h.saved.2))
    (has_ended claims kinds (senses tokens) h.served.log o.room (length o.log) one.parts one.ends
    one.imports one.asked one.over one.imports_true one.rows one.behind one.imports_first
    (subst (All (λ s. IsWellPlayed s.post)) (sym same) ends_well.played)
    (subst (λ xs. 0 < length xs) (sym one.spawners_are.0) some))
