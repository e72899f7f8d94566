-- Documents that the rules take end no session but by a store fault or want of memory.
use Rattle.std.proofs.Common.{
  ◌≡◌,
  ◌∙◌,
  ◌≤◌,
  ◌<◌,
  ◌⊎◌,
  inl,
  inr,
  ◌+◌,
  ◌-◌,
  ℕ,
  zero,
  suc,
  Bool,
  true,
  false,
  nat_eq,
  List,
  [],
  ◌∷◌,
  ◌++◌,
  length,
  take,
  reverse,
  Option,
  Some,
  None,
  option_to_list,
  ap,
  sym,
  subst,
  refl,
  arith,
  append-nil,
  length-append,
}
use Rattle.std.proofs.lemmas.List.{reverse-append, take_all, take_at}
use Rattle.std.proofs.lemmas.Option.{none-some, same_Some}
use Rattle.std.specs.List.{flat_map}
use Rattle.std.specs.Prelude.{if◌then◌else◌}
use Rattle.rb_acl.specs.declared.policy.Caller.{Caller}
use Rattle.rb_causes.specs.Numbers.{numbers_from}
use Rattle.rb_causes.specs.declared.row.Row.{Row}
use Rattle.rb_door.specs.Doors.{AreInOrder}
use Rattle.rb_door.specs.Exchanges.{Moments}
use Rattle.rb_log.specs.Acted.{Acted, ActsAs}
use Rattle.rb_log.specs.LogState.{log_state}
use Rattle.rb_log.specs.Readings.{Reading}
use Rattle.rb_log.specs.Records.{Follows, IsTrueAnswer, Record, without_kept}
use Rattle.rb_log.specs.Told.{Told, added, record_of}
use Rattle.rb_log.specs.Turn.{MayRead, turn_of}
use Rattle.rb_log.specs.declared.answer.Answer.{Answer}
use Rattle.rb_log.specs.declared.answer.Answer.TheVariants as answer
use Rattle.rb_log.specs.declared.call.Call.{Call}
use Rattle.rb_session.specs.Documents.{import_of}
use Rattle.rb_session.specs.Fetching.{name_at}
use Rattle.rb_session.specs.Imports.{
  GoesOnIfTaken,
  ImportsDocuments,
  IsImport,
  stop_by,
  stop_of,
  stop_wanting,
}
use Rattle.rb_session.specs.Lines.{Stop, stop_with, store_line}
use Rattle.rb_session.specs.declared.place.Document.{Document}
use Rattle.rb_session_laws.specs.Steady.{AreTaken, IsTaken}
use Rattle.rb_tables.specs.Tables.{most_rows}

-- ---- the numbers of rows

low_by : (past : ℕ) (r : Record) (x : ℕ) (xs others : List ℕ) (same : Bool) → past ≤ r.before
    → r.before ≤ r.after → nat_eq r.before r.after ≡ same
    → (others ≡ x ∷ xs → r.after < x)
    → (if same then [] else r.after ∷ []) ++ others ≡ x ∷ xs → past < x
low_by past r x xs others true low up same later h = omega (arith, low, up, later h)
low_by past r x xs others false low up same later h = grind (arith, low, up, same, h)

-- a row that is added has a number above those that stood before
low : (past : ℕ) (records : List Record) (x : ℕ) (xs : List ℕ) → AreInOrder past records
    → flat_map added records ≡ x ∷ xs → past < x
low past [] x xs order h = absurd (grind (arith, h))
low past (r ∷ records) x xs order h =
    low_by past r x xs (flat_map added records) (nat_eq r.before r.after) order.0 order.1 refl
    (λ is. low r.after records x xs order.2 is) h

grown : (old new : Told) (records : List Record) → Acted old new records
    → length old.log ≤ length new.log
grown old new [] h = grind (arith, ap (λ (t : Told). length t.log) h)
grown old new (r ∷ records) h =
    let begins = h.1.acts.log in
    omega (
      arith,
      grown h.0 new records h.2,
      ap length begins.1,
      length-append old.log begins.0,
    )

-- the numbers from the next one on begin with it, where there are any
first_by : (m k : ℕ) (before : ℕ) (records : List Record) → AreInOrder before records
    → flat_map added records ≡ numbers_from (m + 1) k → (k ≡ 0 → before ≤ m) → before ≤ m
first_by m zero before records order rows none = none refl
first_by m (suc k) before records order rows none =
    omega (arith, low before records (m + 1) (numbers_from (m + 1 + 1) k) order rows)

tail_by : (m k after : ℕ) (xs : List ℕ) → after ∷ xs ≡ numbers_from (m + 1) k
    → (after ≡ m + 1) × (xs ≡ numbers_from (m + 1 + 1) (k - 1))
tail_by m zero after xs h = absurd (grind (arith, h))
tail_by m (suc k) after xs h = (grind (arith, h), grind (arith, h))

tail_of : (m n before after : ℕ) (xs : List ℕ) (same : Bool) → nat_eq before after ≡ same
    → before ≡ m → before ≤ after
    → (if same then [] else after ∷ []) ++ xs ≡ numbers_from (m + 1) (n - m)
    → xs ≡ numbers_from (after + 1) (n - after)
tail_of m n before after xs true same is up h =
    h ∙ ap (λ k. numbers_from (k + 1) (n - k)) (grind (arith, same, is))
tail_of m n before after xs false same is up h =
    let parts = tail_by m (n - m) after xs h in
    parts.1 ∙ ap (λ k. numbers_from (k + 1) (n - m - 1)) (sym parts.0)
    ∙ ap (λ k. numbers_from (after + 1) k) (left m n after parts.0)
  where
    left : (m n after : ℕ) → after ≡ m + 1 → n - m - 1 ≡ n - after
    left m n after h = omega (arith, h)

-- ---- what the rules say of an answer

data ByRules (log : List Row) (room : ℕ) (r : Record) : Type 0 where
  wanting : r.answer ≡ answer.NoMemory → ByRules log room r
  failed : r.answer ≡ answer.StoreFault → ByRules log room r
  follows : Follows log room r → ByRules log room r

by_rules : (log : List Row) (room : ℕ) (r : Record) (a : Answer) → r.answer ≡ a
    → IsTrueAnswer a log room r → ByRules log room r
by_rules log room r answer.NoMemory is h = wanting is
by_rules log room r answer.StoreFault is h = failed is
by_rules log room r other is h = follows h

taken_ends_none : (file : List ℕ) (a : Answer) → IsTaken (without_kept a) → stop_by file a ≡ None
taken_ends_none file (answer.Imported version jobs) h = refl
taken_ends_none file other h = absurd h

reverse_with : (old : List Row) (row : Option Row)
    → reverse (old ++ option_to_list row) ≡ option_to_list row ++ reverse old
reverse_with old None = ap reverse (append-nil old)
reverse_with old (Some row) = reverse-append old (row ∷ [])

-- what the rules say of a call behind these rows, and the rows behind it
record Ruled (before after : List Row) (room : ℕ) (c : Call) (a : Answer) : Type 0 where
  reading : Reading
  may_read : MayRead (log_state (reverse before)) c reading
  says : without_kept a ≡ (turn_of reading (reverse before) room c).answer
  rows : after ≡ before ++ option_to_list (turn_of reading (reverse before) room c).row

-- ---- one import

module _ (may_be : Moments) (owner : Caller) (d : Document) (ds : List Document) (r : Record)
    (rs : List Record) (old mid new : Told) (acts : ActsAs old mid r) (rest : Acted mid new rs)
    (import : IsImport may_be owner d r) (order : AreInOrder (length old.log) (r ∷ rs))
    (rows : flat_map added (r ∷ rs)
    ≡ numbers_from (length old.log + 1) (length new.log - length old.log)) where
  abbrev m : ℕ
  m = length old.log

  abbrev told : Record
  told = record_of r.call r.answer acts.acts.before mid.log

  behind_none : length new.log - m ≡ 0 → r.before ≤ m
  behind_none h = omega (arith, h, grown mid new rs rest, acts.after, order.1)

  pub before_is : r.before ≡ m
  before_is =
      let high : r.before ≤ m = first_by m (length new.log - m) r.before (r ∷ rs)
      (no_less r.before, order.1, order.2) rows behind_none in
      omega (arith, high, order.0)
    where
      no_less : (n : ℕ) → n ≤ n
      no_less n = omega (arith)

  rows_left : flat_map added rs ≡ numbers_from (r.after + 1) (length new.log - r.after)
  rows_left =
      tail_of m (length new.log) r.before r.after (flat_map added rs)
      (nat_eq r.before r.after) refl before_is order.1 rows

  pub rows_behind : flat_map added rs
      ≡ numbers_from (length mid.log + 1) (length new.log - length mid.log)
  rows_behind =
      rows_left ∙ ap (λ k. numbers_from (k + 1) (length new.log - k)) (sym acts.after)

  pub order_behind : AreInOrder (length mid.log) rs
  order_behind = subst (λ k. AreInOrder k rs) (sym acts.after) order.2

  before_rows : take acts.acts.before mid.log ≡ old.log
  before_rows =
      ap (λ k. take k mid.log) (acts.before ∙ before_is)
      ∙ ap (take m) acts.acts.log.1 ∙ take_at old.log acts.acts.log.0 m refl

  after_rows : take (length mid.log) mid.log ≡ mid.log
  after_rows = take_all (length mid.log) mid.log (omega (arith))

  ruled_before : Follows mid.log old.room told
      → Ruled (take acts.acts.before mid.log) (take (length mid.log) mid.log) old.room r.call
      r.answer
  ruled_before h = record {
    reading = h.reading;
    may_read = h.may_read;
    says = h.says;
    rows = h.rows;
  }

  ruled : old.room ≡ most_rows → Follows mid.log old.room told
      → Ruled old.log mid.log most_rows (import_of owner d import.at) r.answer
  ruled room h =
      subst (λ c. Ruled old.log mid.log most_rows c r.answer) import.asked
      (subst (λ n. Ruled old.log mid.log n r.call r.answer) room
      (subst (λ after. Ruled old.log after old.room r.call r.answer) after_rows
      (subst (λ before. Ruled before (take (length mid.log) mid.log) old.room r.call r.answer)
      before_rows (ruled_before h))))

  -- the import is taken, and the next ones are taken behind it
  record Goes : Type 0 where
    ends_none : stop_of d r ≡ None
    taken : AreTaken may_be owner (reverse mid.log) ds

  goes_by : AreTaken may_be owner (reverse old.log) (d ∷ ds)
      → Ruled old.log mid.log most_rows (import_of owner d import.at) r.answer → Goes
  goes_by taken h =
      let moved = turn_of h.reading (reverse old.log) most_rows (import_of owner d import.at) in
      let next = taken import.at h.reading import.moment h.may_read in
      record {
        ends_none = taken_ends_none (name_at d.place) r.answer
            (subst IsTaken (sym h.says) next.0);
        taken = subst (λ past. AreTaken may_be owner past ds)
            (sym (ap reverse h.rows ∙ reverse_with old.log moved.row)) next.1;
      }

-- ---- all imports

module _ (may_be : Moments) (owner : Caller) (stop : Option Stop) (s : Stop) (is : stop ≡ Some s)
  where
    by_stop : (now : Stop) → (now.status ≡ 6) ⊎ (now.status ≡ 7) → (d : Document) (r : Record)
        (rs : List Record) (on : Type 0) → stop_of d r ≡ Some now
        → GoesOnIfTaken stop (stop_of d r) rs on → (s.status ≡ 6) ⊎ (s.status ≡ 7)
    by_stop now which d r rs on so h =
        let said = (subst (λ o. GoesOnIfTaken stop o rs on) so h).0 in
        subst (λ (t : Stop). (t.status ≡ 6) ⊎ (t.status ≡ 7))
        (same_Some now s (sym said ∙ is)) which

    one_goes : (d : Document) (ds : List Document) (r : Record) (rs : List Record)
        (old mid new : Told) (acts : ActsAs old mid r) → Acted mid new rs
        → ImportsDocuments may_be owner stop (d ∷ ds) (r ∷ rs)
        → AreInOrder (length old.log) (r ∷ rs)
        → flat_map added (r ∷ rs)
        ≡ numbers_from (length old.log + 1) (length new.log - length old.log)
        → old.room ≡ most_rows → AreTaken may_be owner (reverse old.log) (d ∷ ds)
        → (ImportsDocuments may_be owner stop ds rs → AreInOrder (length mid.log) rs
        → flat_map added rs ≡ numbers_from (length mid.log + 1) (length new.log - length mid.log)
        → mid.room ≡ most_rows → AreTaken may_be owner (reverse mid.log) ds
        → (s.status ≡ 6) ⊎ (s.status ≡ 7))
        → ByRules mid.log old.room (record_of r.call r.answer acts.acts.before mid.log)
        → (s.status ≡ 6) ⊎ (s.status ≡ 7)
    one_goes d ds r rs old mid new acts rest h order rows room taken on (wanting w) =
        by_stop stop_wanting (inr refl) d r rs (ImportsDocuments may_be owner stop ds rs)
        (ap (stop_by (name_at d.place)) w) h.1
    one_goes d ds r rs old mid new acts rest h order rows room taken on (failed w) =
        by_stop (stop_with 6 store_line) (inl refl) d r rs
        (ImportsDocuments may_be owner stop ds rs)
        (ap (stop_by (name_at d.place)) w) h.1
    one_goes d ds r rs old mid new acts rest h order rows room taken on (follows f) =
        let goes = goes_by may_be owner d ds r rs old mid new acts rest h.0 order rows taken
        (ruled may_be owner d ds r rs old mid new acts rest h.0 order rows room f) in
        on (subst (λ o. GoesOnIfTaken stop o rs (ImportsDocuments may_be owner stop ds rs))
        goes.ends_none h.1)
        (order_behind may_be owner d ds r rs old mid new acts rest h.0 order rows)
        (rows_behind may_be owner d ds r rs old mid new acts rest h.0 order rows)
        (acts.acts.room ∙ room) goes.taken

    pub imports_go : (ds : List Document) (rs : List Record) (old new : Told) → Acted old new rs
        → ImportsDocuments may_be owner stop ds rs → AreInOrder (length old.log) rs
        → flat_map added rs ≡ numbers_from (length old.log + 1) (length new.log - length old.log)
        → old.room ≡ most_rows → AreTaken may_be owner (reverse old.log) ds
        → (s.status ≡ 6) ⊎ (s.status ≡ 7)
    imports_go [] [] old new acted h order rows room taken = absurd (none-some s (sym h ∙ is))
    imports_go [] (r ∷ rs) old new acted h order rows room taken = absurd h
    imports_go (d ∷ ds) [] old new acted h order rows room taken =
        inr (ap (λ (t : Stop). t.status) (same_Some s stop_wanting (sym is ∙ h)))
    imports_go (d ∷ ds) (r ∷ rs) old new acted h order rows room taken =
        let told : Record = record_of r.call r.answer acted.1.acts.before acted.0.log in
        one_goes d ds r rs old acted.0 new acted.1 acted.2 h order rows room taken
        (λ next order rows room taken.
        imports_go ds rs acted.0 new acted.2 next order rows room taken)
        (by_rules acted.0.log old.room told r.answer refl acted.1.acts.true_record.answer)
