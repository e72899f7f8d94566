-- The rows behind an opening are those of what the desk was asked.
use Rattle.std.proofs.Common.{
  ◌≡◌,
  ◌∙◌,
  ◌+◌,
  ◌-◌,
  ℕ,
  zero,
  suc,
  List,
  [],
  ◌∷◌,
  ◌++◌,
  length,
  map,
  Option,
  Some,
  None,
  ap,
  sym,
  subst,
  refl,
  arith,
  append_assoc,
  append-nil,
  length-append,
}
use Rattle.std.proofs.Math.Numerals.{add-one}
use Rattle.std.proofs.lemmas.List.{append_cancel_left, length-map, map-append}
use Rattle.std.specs.List.{flat_map}
use Rattle.std.specs.Prelude.{All}
use Rattle.rb_causes.specs.Numbers.{numbers_from}
use Rattle.rb_door.specs.Exchanges.{Moments}
use Rattle.rb_door.specs.Laws.{ActsAreTrue, HasActed}
use Rattle.rb_log.specs.Acted.{Acted}
use Rattle.rb_log.specs.Records.{IsTrueRecord, Record}
use Rattle.rb_log.specs.Sums.{numbers_below}
use Rattle.rb_log.specs.Told.{Told, added}
use Rattle.rb_session.specs.Courses.{Course, course_records}
use Rattle.rb_session.specs.Laws.{CoursesAct}
use Rattle.rb_session.specs.Visits.{scene}
use Rattle.rb_session_laws.specs.Origins.{RowsAreAsked, deed_records, records_and_save}
use Rattle.rb_session_top.specs.Sessions.{Headline, IsServed}
use Rattle.rb_session_top.specs.Sights.{CallersSight, DeskSight, Sight, desk_told}
use Rattle.rb_session_top.specs.Stories.{Deeds}
use Rattle.rb_causes.specs.Spawners.{ShownRuns}
use Rattle.rb_manifest.specs.declared.manifest.Manifest.{Manifest}
use Rattle.rb_work.proofs.Records.{acted_then}

-- ---- numbers

-- the numbers from 1 on of so many rows
abbrev pub numbers : ℕ → List ℕ
numbers n = map (λ k. k + 1) (numbers_below n)

below_length : (n : ℕ) → length (numbers_below n) ≡ n
below_length zero = refl
below_length (suc n) = omega (arith, length-append (numbers_below n) (n ∷ []), below_length n)

numbers_length : (n : ℕ) → length (numbers n) ≡ n
numbers_length n = length-map (numbers_below n) (λ k. k + 1) ∙ below_length n

next_number : (n : ℕ) → numbers (suc n) ≡ numbers n ++ (n + 1) ∷ []
next_number n = map-append (λ k. k + 1) (numbers_below n) (n ∷ [])

one_behind : (m k : ℕ) → m + suc k ≡ suc m + k
one_behind m k = omega (arith)

none_more : (m : ℕ) → m + 0 ≡ m
none_more m = omega (arith)

-- behind the numbers of the first rows come those of the others
numbers_go_on : (k m : ℕ) → numbers (m + k) ≡ numbers m ++ numbers_from (m + 1) k
numbers_go_on zero m = ap numbers (none_more m) ∙ sym (append-nil (numbers m))
numbers_go_on (suc k) m =
    ap numbers (one_behind m k)
    ∙ numbers_go_on k (suc m)
    ∙ ap (λ ns. ns ++ numbers_from (suc m + 1) k) (next_number m)
    ∙ append_assoc (numbers m) ((m + 1) ∷ []) (numbers_from (suc m + 1) k)
    ∙ ap (λ n. numbers m ++ (m + 1) ∷ numbers_from (n + 1) k) (sym (add-one m))

counted : (n m k : ℕ) → n ≡ m + k → n - m ≡ k
counted n m k h = omega (arith, h)

-- what stands behind the numbers of the first rows are the numbers of the others
pub numbers_behind : (n m : ℕ) (more : List ℕ) → numbers n ≡ numbers m ++ more
    → more ≡ numbers_from (m + 1) (n - m)
numbers_behind n m more h =
    append_cancel_left (numbers m) more (numbers_from (m + 1) (n - m))
    (sym h ∙ ap numbers whole ∙ numbers_go_on (n - m) m)
  where
    long : n ≡ m + length more
    long =
        sym (numbers_length n) ∙ ap length h ∙ length-append (numbers m) more
        ∙ ap (λ k. k + length more) (numbers_length m)

    whole : n ≡ m + (n - m)
    whole = long ∙ ap (λ k. m + k) (sym (counted n m (length more) long))

-- ---- what the desk was asked

module _ (may_be : Moments) (acts : CoursesAct may_be) where
  -- the course and the Save, where there was one
  served_acts : (m : Manifest) (imported last : Told) (line line' : CallersSight)
      (spawner spawner' : ShownRuns) (course : Option (Course × Record))
      → IsServed may_be m imported last line line' spawner spawner' course
      → Acted imported last (records_and_save course)
  served_acts m imported last line line' spawner spawner' None h = h.0
  served_acts m imported last line line' spawner spawner' (Some done) h =
      acted_then (course_records done.0) (done.1 ∷ []) imported h.served last
      (acts m.tokens m.inline (scene imported spawner line.callers h.pending)
      (scene h.served spawner' line'.callers h.pending') done.0 h.course)
      (last, h.saves, refl)

  -- all that it was asked behind its opening
  pub deeds_act : (name : List ℕ) (draw : ℕ) (old new : Sight) (desk : DeskSight) (deeds : Deeds)
      (headline : Headline may_be name draw old new desk deeds)
      → Acted (desk_told headline.opened headline.faults) (desk_told desk new.kept.faults)
      (deed_records deeds)
  deeds_act name draw old new desk deeds headline =
      let first : Told = desk_told headline.opened headline.faults in
      let last : Told = desk_told desk new.kept.faults in
      let done = headline.done in
      acted_then deeds.imports (records_and_save deeds.course) first done.imported last done.acted
      (served_acts deeds.manifest done.imported last old.line new.line old.spawner new.spawner
      deeds.course done.served)

  pub rows_are_asked : ActsAreTrue → RowsAreAsked may_be
  rows_are_asked true_acts name draw old new desk deeds headline =
      let has : HasActed (desk_told headline.opened headline.faults)
      (desk_told desk new.kept.faults) (deed_records deeds) =
      true_acts (desk_told headline.opened headline.faults) (desk_told desk new.kept.faults)
      (deed_records deeds) (deeds_act name draw old new desk deeds headline) in
      record {
        each = subst (λ room. All (IsTrueRecord desk.log room) (deed_records deeds))
            headline.opening.room has.each.each;
        order = has.later;
        rows = numbers_behind (length desk.log) (length headline.opened.log)
            (flat_map added (deed_records deeds)) has.own;
      }
