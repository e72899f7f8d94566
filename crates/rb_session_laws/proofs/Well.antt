-- A session for which all is there ends well.
use Rattle.std.proofs.Common.{◌≡◌, ◌∙◌, ◌⊎◌, inl, inr, ◌+◌, ◌-◌, ℕ, true, List, [], ◌∷◌, ◌++◌, length, reverse, Option, Some, None, ap, sym, subst, refl, arith, append-nil, append_assoc}
use Rattle.std.proofs.lemmas.Bool.{both_ways, false≢true}
use Rattle.std.proofs.lemmas.List.{reverse-append}
use Rattle.std.proofs.lemmas.Option.{none-some, same_Some}
use Rattle.std.specs.List.{flat_map}
use Rattle.std.specs.Prelude.{is_none, is_some}
use Rattle.rb_causes.specs.Callers.{Callers}
use Rattle.rb_causes.specs.Causes.{Rose}
use Rattle.rb_causes.specs.Numbers.{numbers_from}
use Rattle.rb_causes.specs.declared.row.Row.{Row}
use Rattle.rb_desk.specs.Opening.{IsBadStore, KeeperHolds, has_room_to_open, opening_row}
use Rattle.rb_desk.specs.declared.open_err.OpenErr.{OpenErr}
use Rattle.rb_desk.specs.declared.open_err.OpenErr.TheVariants as open_err
use Rattle.rb_door.specs.Doors.{AreInOrder}
use Rattle.rb_door.specs.Exchanges.{Moments}
use Rattle.rb_door.specs.Guests.{AreServed, Guest, TooMany}
use Rattle.rb_door.specs.Laws.{ActsAreTrue}
use Rattle.rb_log.specs.Laws.{BeginningsAreLegal}
use Rattle.rb_log.specs.Legal.{IsLegalLog}
use Rattle.rb_log.specs.Records.{Record}
use Rattle.rb_log.specs.Told.{Told, added}
use Rattle.rb_manifest.specs.declared.manifest.Manifest.{Manifest}
use Rattle.rb_session.specs.Courses.{Course}
use Rattle.rb_session.specs.Fetching.{AllHad, StopsAtFile}
use Rattle.rb_session.specs.Laws.{CoursesAct}
use Rattle.rb_session.specs.Lines.{Stop}
use Rattle.rb_session.specs.Visits.{most_callers}
use Rattle.rb_session.specs.declared.unread.Unread.{Unread}
use Rattle.rb_session_laws.proofs.Asked as asked
use Rattle.rb_session_laws.proofs.CourseEnds.{
  CourseEnd,
  course_ends,
  ended_well,
  failed,
  status_of,
  too_many,
}
use Rattle.rb_session_laws.proofs.Had.{none_is_refused, same_had}
use Rattle.rb_session_laws.proofs.ImportsTaken.{imports_go}
use Rattle.rb_session_laws.proofs.Told.{
  FileEnd,
  file_ends,
  is_failed,
  is_refused,
  served_so,
  status_told,
}
use Rattle.rb_session_laws.specs.Origins.{deed_records, records_and_save}
use Rattle.rb_session_laws.specs.Statuses.{IsRefusedFile}
use Rattle.rb_session_laws.specs.Steady.{AreFew, AreTaken, IsProvided, IsSteady, SteadyEndsWell}
use Rattle.rb_session_top.specs.Sessions.{
  Happened,
  Headline,
  IfWords,
  IsUnopened,
  Session,
  session_asked,
}
use Rattle.rb_session_top.specs.Sights.{DeskSight, Given, Sight, desk_told}
use Rattle.rb_session_top.specs.Stories.{
  Deeds,
  NoForm,
  Opened,
  Story,
  Unfetched,
  Unopened,
  Wanting,
  stop_done,
  stop_in,
}
use Rattle.rb_session_top.specs.Words.{manifest_words}

-- a count that stands at none has not risen
pub not_risen : (before now : ℕ) → now ≡ 0 → Rose before now → ⊥
not_risen before now none rose = grind (arith, none, rose)

-- a legal log has no row that may not come
pub no_bad_row : BeginningsAreLegal → (held : List Row) (n : ℕ) → IsLegalLog (reverse held)
    → IsBadStore held n → ⊥
no_bad_row law held n good bad =
    bad.refused (subst IsLegalLog (reverse-append bad.before (bad.row ∷ []))
    (law (reverse bad.behind) (reverse (bad.before ++ bad.row ∷ []))
    (subst IsLegalLog whole good))).1
  where
    whole : reverse held ≡ reverse bad.behind ++ reverse (bad.before ++ bad.row ∷ [])
    whole =
        ap reverse (bad.held_are ∙ sym (append_assoc bad.before (bad.row ∷ []) bad.behind))
        ∙ reverse-append (bad.before ++ bad.row ∷ []) bad.behind

-- no caller is one too many
not_many : (old new : Option Callers) (guests : List Guest) → AreFew old
    → AreServed old new guests TooMany → length guests ≡ most_callers → ⊥
not_many None new guests few served all = few
not_many (Some c) new guests few served all = omega (arith, few, served.enough, all)

module _ (may_be : Moments) (legal : BeginningsAreLegal) (true_acts : ActsAreTrue)
    (acts : CoursesAct may_be) (words : List (List ℕ)) (draw : ℕ) (old new : Sight) (given : Given)
    (status : ℕ) (session : Session may_be words draw old new status given)
    (all : IsProvided may_be words draw old) (steady : IsSteady new) where
  abbrev EndsWell : Type 0
  EndsWell = (status ≡ 0) ⊎ (status ≡ 7)

  named : (name : List ℕ) → manifest_words words ≡ Some name → name ≡ all.name
  named name form = same_Some name all.name (sym form ∙ all.form)

  held_is : (held : List Row) → KeeperHolds old.kept.rows held → held ≡ all.held
  held_is held h = subst (λ rows. KeeperHolds rows held) all.rows h

  no_shelf_fault : status ≡ 4 → ⊥
  no_shelf_fault told =
      not_risen old.shelf.faults new.shelf.faults steady.shelf (session.causes.shelf told)

  no_line_fault : status ≡ 5 → ⊥
  no_line_fault told =
      not_risen old.line.faults new.line.faults steady.line (session.causes.line told)

  no_store_fault : status ≡ 6 → ⊥
  no_store_fault told =
      not_risen old.kept.faults new.kept.faults steady.keeper (session.causes.keeper told)

  -- ---- no desk

  no_refused_file : (file : List ℕ) (u : Unread) → IsRefusedFile u
      → IfWords words (λ name. StopsAtFile old.shelf new.shelf name file u) → ⊥
  no_refused_file file u refused h =
      none_is_refused old.shelf new.shelf all.files all.told all.name all.manifest all.documents
      all.had file u refused
      (subst (λ name. StopsAtFile old.shelf new.shelf name file u) (named h.0 h.1) h.2)

  by_file : (file : List ℕ) (u : Unread)
      → IfWords words (λ name. StopsAtFile old.shelf new.shelf name file u) → FileEnd u status
      → EndsWell
  by_file file u h (is_refused told refused) = absurd (no_refused_file file u refused h)
  by_file file u h (is_failed (inl told)) = absurd (no_shelf_fault told)
  by_file file u h (is_failed (inr told)) = inr told

  by_opening : (e : OpenErr) → IfWords words (λ name. IsUnopened may_be name draw old new e)
      → status ≡ status_of (stop_in (Unopened e)) → EndsWell
  by_opening open_err.StoreFault h told = absurd (no_store_fault told)
  by_opening (open_err.BadStore n) h told =
      let cause = h.2.cause in
      absurd (no_bad_row legal cause.held n
      (subst (λ rows. IsLegalLog (reverse rows)) (sym (held_is cause.held cause.holds)) all.good)
      cause.bad)
  by_opening open_err.Full h told =
      let cause = h.2.cause in
      absurd (both_ways _ cause.bad.1 (subst (λ held. has_room_to_open held
      (session_asked draw h.2.at) ≡ true) (sym (held_is cause.held cause.holds)) (all.room h.2.at)))
  by_opening open_err.NoMemory h told = inr told

  -- ---- a desk

  module _ (desk : DeskSight) (deeds : Deeds)
      (headline : Headline may_be all.name draw old new desk deeds) where
    abbrev first : Told
    first = desk_told headline.opened headline.faults

    same : (deeds.manifest ≡ all.manifest) × (deeds.documents ≡ all.documents)
    same =
        same_had all.files all.name deeds.manifest all.manifest deeds.documents all.documents
        (subst (λ files. AllHad files all.name deeds.manifest deeds.documents) all.told
        headline.documents) all.had

    log_is : headline.opened.log
        ≡ all.held ++ opening_row all.held (session_asked draw headline.opening.at) ∷ []
    log_is =
        headline.opening.log
        ∙ ap (λ held. held ++ opening_row held (session_asked draw headline.opening.at) ∷ [])
        (held_is headline.opening.held headline.opening.holds)

    are_taken : AreTaken may_be deeds.manifest.owner (reverse headline.opened.log) deeds.documents
    are_taken =
        subst (λ (m : Manifest). AreTaken may_be m.owner (reverse headline.opened.log)
        deeds.documents) (sym same.0)
        (subst (AreTaken may_be all.manifest.owner (reverse headline.opened.log)) (sym same.1)
        (subst (λ past. AreTaken may_be all.manifest.owner past all.documents)
        (sym (ap reverse log_is ∙ reverse-append all.held (opening_row all.held
        (session_asked draw headline.opening.at) ∷ [])))
        (all.taken headline.opening.at headline.opening.moment)))

    imports_end : deeds.course ≡ None → (s : Stop) → deeds.stop ≡ Some s
        → (s.status ≡ 6) ⊎ (s.status ≡ 7)
    imports_end none s is =
        let last_is = served_so desk deeds status may_be all.name draw old new headline None none in
        let is_all = asked.rows_are_asked may_be acts true_acts all.name draw old new desk deeds
        headline in
        let records : deed_records deeds ≡ deeds.imports =
        ap (λ c. deeds.imports ++ records_and_save c) none ∙ append-nil deeds.imports in
        imports_go may_be deeds.manifest.owner deeds.stop s is deeds.documents deeds.imports first
        headline.done.imported headline.done.acted headline.done.imports
        (subst (AreInOrder (length headline.opened.log)) records is_all.order)
        (ap (flat_map added) (sym records) ∙ is_all.rows
        ∙ ap (λ (t : Told). numbers_from (length headline.opened.log + 1)
        (length t.log - length headline.opened.log)) last_is.0)
        headline.opening.room are_taken

    few : (c : Course × Record) → deeds.course ≡ Some c → c.0.parting ≡ TooMany → ⊥
    few c is many =
        let guests = (served_so desk deeds status may_be all.name draw old new headline
        (Some c) is).guests in
        not_many old.line.callers new.line.callers guests.guests all.few
        (subst (AreServed old.line.callers new.line.callers guests.guests) many guests.served)
        (guests.all many)

    by_course : (c : Course × Record) → deeds.course ≡ Some c → CourseEnd c.0 c.1.answer status
        → EndsWell
    by_course c is (failed (inl told)) = absurd (no_line_fault told)
    by_course c is (failed (inr (inl told))) = absurd (no_store_fault told)
    by_course c is (failed (inr (inr told))) = inr told
    by_course c is (too_many told many) = absurd (few c is many)
    by_course c is (ended_well told left taken replied over kept) = inl told

    by_stop : (s : Stop) → status ≡ s.status → (s.status ≡ 6) ⊎ (s.status ≡ 7) → EndsWell
    by_stop s told (inl six) = absurd (no_store_fault (told ∙ six))
    by_stop s told (inr seven) = inr (told ∙ seven)

    by_deeds : (course : Option (Course × Record)) (stop : Option Stop) → deeds.course ≡ course
        → deeds.stop ≡ stop → is_some course ≡ is_none stop
        → status ≡ status_of (stop_done stop course) → EndsWell
    by_deeds None None is_course is_stop parts told = absurd (false≢true parts)
    by_deeds None (Some s) is_course is_stop parts told =
        by_stop s told (imports_end is_course s is_stop)
    by_deeds (Some c) stop is_course is_stop parts told =
        by_course c is_course (course_ends c.0 c.1.answer status told)

  by_story : (story : Story) → Happened may_be words draw old new given story
      → status ≡ status_of (stop_in story) → EndsWell
  by_story NoForm h told = absurd (none-some all.name (sym h.1 ∙ all.form))
  by_story Wanting h told = inr told
  by_story (Unfetched file u) h told = by_file file u h.2 (file_ends file u status told)
  by_story (Unopened e) h told = by_opening e h.1 told
  by_story (Opened deeds) h told =
      let headline = subst (λ name. Headline may_be name draw old new h.0 deeds)
      (named h.2.0 h.2.1) h.2.2 in
      by_deeds h.0 deeds headline deeds.course deeds.stop refl refl headline.done.stopped told

  pub ends_well : EndsWell
  ends_well =
      by_story session.story session.happened
      (status_told (stop_in session.story) status old.sink new.sink session.ended)

pub steady_ends_well : (may_be : Moments) → BeginningsAreLegal → ActsAreTrue → CoursesAct may_be
    → SteadyEndsWell may_be
steady_ends_well may_be legal true_acts acts words draw old new status given session all steady =
    ends_well may_be legal true_acts acts words draw old new given status session all steady
