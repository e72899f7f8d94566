-- What a status tells of a session.
use Rattle.std.proofs.Common.{◌≡◌, ◌∙◌, ◌⊎◌, inl, inr, ℕ, List, Option, Some, None, ap, sym, subst, refl, arith}
use Rattle.std.proofs.lemmas.Bool.{false≢true}
use Rattle.std.proofs.lemmas.List.{length-map}
use Rattle.std.specs.Prelude.{IfSome, is_none, is_some, length}
use Rattle.rb_causes.specs.Sinks.{SinkState}
use Rattle.rb_desk.specs.declared.open_err.OpenErr.{OpenErr}
use Rattle.rb_desk.specs.declared.open_err.OpenErr.TheVariants as open_err
use Rattle.rb_door.specs.Exchanges.{Moments}
use Rattle.rb_door.specs.Guests.{TooMany}
use Rattle.rb_log.specs.Records.{Record}
use Rattle.rb_log.specs.declared.answer.Answer.{Answer}
use Rattle.rb_log.specs.declared.answer.Answer.TheVariants as answer
use Rattle.rb_session.specs.Courses.{Course}
use Rattle.rb_session.specs.Fetching.{name_at, stop_unread}
use Rattle.rb_session.specs.Imports.{stop_wanting}
use Rattle.rb_session.specs.Lines.{Stop}
use Rattle.rb_session.specs.Statuses.{EndsAsTold}
use Rattle.rb_session.specs.Visits.{most_callers, stay_exchanges}
use Rattle.rb_session.specs.declared.unread.Unread.{Unread}
use Rattle.rb_session.specs.declared.unread.Unread.TheVariants as unread
use Rattle.rb_session_laws.proofs.CourseEnds.{
  CourseEnd,
  course_ends,
  ended_well,
  failed,
  status_of,
  too_many,
}
use Rattle.rb_session_laws.proofs.ImportEnds as import
use Rattle.rb_session_laws.specs.Statuses.{
  EightIsBadRow,
  ElevenIsTooMany,
  EndsAtImport,
  IfOpened,
  IfUnopened,
  IsFull,
  IsNoForm,
  IsRefusedFile,
  IsRefusedFetch,
  IsRefusedImport,
  IsTooMany,
  IsWell,
  TenIsFull,
  ThreeIsRefused,
  TwoIsNoForm,
  ZeroIsWell,
}
use Rattle.rb_session_top.specs.Sessions.{
  Happened,
  Headline,
  IsServed,
  IsUnopened,
  Session,
}
use Rattle.rb_session_top.specs.Sights.{DeskSight, Given, Sight, desk_told}
use Rattle.rb_session_top.specs.Stories.{
  Deeds,
  NoForm,
  Opened,
  Story,
  Unfetched,
  Unopened,
  Wanting,
  stop_done,
  stop_in,
}

-- ---- the status of a story

pub status_told : (stop : Option Stop) (status : ℕ) (before after : SinkState)
    → EndsAsTold stop status before after → status ≡ status_of stop
status_told None status before after h = h.0
status_told (Some stop) status before after h = h.is

-- how a file that was not had ends a session
pub data FileEnd (u : Unread) (n : ℕ) : Type 0 where
  is_refused : n ≡ 3 → IsRefusedFile u → FileEnd u n
  is_failed : (n ≡ 4) ⊎ (n ≡ 7) → FileEnd u n

pub file_ends : (file : List ℕ) (u : Unread) (n : ℕ) → n ≡ (stop_unread file u).status → FileEnd u n
file_ends file unread.Absent n h = is_refused h tt
file_ends file unread.ShelfFailed n h = is_failed (inl h)
file_ends file (unread.NotYaml f) n h = is_refused h tt
file_ends file (unread.NotManifest f) n h = is_refused h tt
file_ends file (unread.NotText f) n h = is_refused h tt
file_ends file unread.NoMemory n h = is_failed (inr h)

-- ---- behind the opening of a desk

-- how a session with a desk ended
pub data DeedsEnd (desk : DeskSight) (deeds : Deeds) (n : ℕ) : Type 0 where
  refuses : n ≡ 3 → EndsAtImport IsRefusedImport deeds → DeedsEnd desk deeds n
  is_full : n ≡ 10 → EndsAtImport IsFull deeds → DeedsEnd desk deeds n
  fails : (n ≡ 5) ⊎ (n ≡ 6) ⊎ (n ≡ 7) → DeedsEnd desk deeds n
  has_many : n ≡ 11 → IsTooMany deeds → DeedsEnd desk deeds n
  goes_well : n ≡ 0 → IsWell desk deeds → DeedsEnd desk deeds n

module _ (desk : DeskSight) (deeds : Deeds) (n : ℕ) where
  -- ---- an import ended it

  module _ (s : Stop) (last : import.IsLast deeds.documents deeds.imports s)
      (none : deeds.course ≡ None) where
    at_import : (IsSo : Answer → Type 0) → IsSo last.r.answer → EndsAtImport IsSo deeds
    at_import IsSo so = record {
      before = last.before;
      document = last.document;
      r = last.r;
      imports = last.made_so;
      at_document = last.at_document;
      is_so = so;
      no_course = none;
    }

    by_answer : n ≡ s.status → import.EndingAnswer last.r.answer s → DeedsEnd desk deeds n
    by_answer told (import.refused at so) = refuses (told ∙ at) (at_import IsRefusedImport so)
    by_answer told (import.full at so) = is_full (told ∙ at) (at_import IsFull so)
    by_answer told (import.failed at) = fails (inr (inl (told ∙ at)))
    by_answer told (import.wanting at) = fails (inr (inr (told ∙ at)))

  by_import : (s : Stop) → deeds.course ≡ None → n ≡ s.status
      → (s ≡ stop_wanting) ⊎ import.IsLast deeds.documents deeds.imports s
      → DeedsEnd desk deeds n
  by_import s none told (inl wanting) =
      fails (inr (inr (told ∙ ap (λ (t : Stop). t.status) wanting)))
  by_import s none told (inr last) =
      by_answer s last none told
      (import.answer_ends (name_at last.document.place) last.r.answer s last.ended)

  -- ---- the callers were served

  by_course : (done : Course × Record) → deeds.course ≡ Some done
      → (done.0.parting ≡ TooMany → length done.0.stays ≡ most_callers)
      → (done.1.answer ≡ answer.Saved → desk.saved ≡ length desk.log)
      → CourseEnd done.0 done.1.answer n → DeedsEnd desk deeds n
  by_course done there all saved (failed h) = fails h
  by_course done there all saved (too_many told many) = has_many told (record {
    course = done.0;
    save = done.1;
    there = there;
    one_more = many;
    stays = all many;
  })
  by_course done there all saved (ended_well told left taken replied over kept) =
      goes_well told (record {
        course = done.0;
        save = done.1;
        there = there;
        callers = left;
        taken = taken;
        replied = replied;
        over = over;
        saved = saved kept;
      })

  module _ (may_be : Moments) (name : List ℕ) (draw : ℕ) (old new : Sight)
      (headline : Headline may_be name draw old new desk deeds) where
    pub served_so : (course : Option (Course × Record)) → deeds.course ≡ course
        → IsServed may_be deeds.manifest headline.done.imported (desk_told desk new.kept.faults)
        old.line new.line old.spawner new.spawner course
    served_so course is =
        subst (IsServed may_be deeds.manifest headline.done.imported
        (desk_told desk new.kept.faults)
        old.line new.line old.spawner new.spawner) is headline.done.served

    saved_so : (course : Option (Course × Record)) → deeds.course ≡ course
        → IfSome course (λ done. done.1.answer ≡ answer.Saved → desk.saved ≡ length desk.log)
    saved_so course is =
        subst (λ c. IfSome c (λ done. done.1.answer ≡ answer.Saved
        → desk.saved ≡ length desk.log)) is headline.kept.saved

    all_stays : (c : Course × Record) → deeds.course ≡ Some c → c.0.parting ≡ TooMany
        → length c.0.stays ≡ most_callers
    all_stays c is many =
        let guests = (served_so (Some c) is).guests in
        sym (length-map c.0.stays stay_exchanges) ∙ ap length (sym guests.stays)
        ∙ length-map guests.guests (λ g. g.exchanges) ∙ guests.all many

    goes : (course : Option (Course × Record)) (stop : Option Stop) → deeds.course ≡ course
        → deeds.stop ≡ stop → is_some course ≡ is_none stop
        → n ≡ status_of (stop_done stop course) → DeedsEnd desk deeds n
    goes None None is_course is_stop parts told = absurd (false≢true parts)
    goes None (Some s) is_course is_stop parts told =
        by_import s is_course told
        (import.imports_end may_be deeds.manifest.owner deeds.stop s is_stop deeds.documents
        deeds.imports headline.done.imports)
    goes (Some c) stop is_course is_stop parts told =
        by_course c is_course (all_stays c is_course) (saved_so (Some c) is_course)
        (course_ends c.0 c.1.answer n told)

    pub deeds_end : n ≡ status_of (stop_done deeds.stop deeds.course) → DeedsEnd desk deeds n
    deeds_end told = goes deeds.course deeds.stop refl refl headline.done.stopped told

-- ---- every session

module _ (may_be : Moments) (words : List (List ℕ)) (draw : ℕ) (old new : Sight) (given : Given)
    (n : ℕ) where
  pub data SessionEnd : Type 0 where
    no_form : n ≡ 2 → IsNoForm words old new given → SessionEnd
    no_file : n ≡ 3 → IsRefusedFetch words old new given → SessionEnd
    bad_row : n ≡ 8 → (row : ℕ) → IfUnopened may_be words draw old new given
        (λ name. IsUnopened may_be name draw old new (open_err.BadStore row)) → SessionEnd
    no_room : n ≡ 10 → IfUnopened may_be words draw old new given
        (λ name. IsUnopened may_be name draw old new open_err.Full) → SessionEnd
    stopped : (n ≡ 4) ⊎ (n ≡ 6) ⊎ (n ≡ 7) → SessionEnd
    opened : IfOpened may_be words draw old new given (λ desk deeds. DeedsEnd desk deeds n)
        → SessionEnd

  of_file : (file : List ℕ) (u : Unread)
      → Happened may_be words draw old new given (Unfetched file u)
      → FileEnd u n → SessionEnd
  of_file file u h (is_refused told refused) = no_file told (record {
    file = file;
    why = u;
    refused = refused;
    first = h.2;
    untouched = h.0;
    kept = h.1;
  })
  of_file file u h (is_failed (inl told)) = stopped (inl told)
  of_file file u h (is_failed (inr told)) = stopped (inr (inr told))

  of_opening : (e : OpenErr) → Happened may_be words draw old new given (Unopened e)
      → n ≡ status_of (stop_in (Unopened e)) → SessionEnd
  of_opening open_err.StoreFault h told = stopped (inr (inl told))
  of_opening (open_err.BadStore row) h told = bad_row told row h
  of_opening open_err.Full h told = no_room told h
  of_opening open_err.NoMemory h told = stopped (inr (inr told))

  ends : (story : Story) → Happened may_be words draw old new given story
      → n ≡ status_of (stop_in story) → SessionEnd
  ends NoForm h told =
      no_form told (record { no_form = h.1; untouched = h.0; kept = h.2; shelf = h.3 })
  ends Wanting h told = stopped (inr (inr told))
  ends (Unfetched file u) h told = of_file file u h (file_ends file u n told)
  ends (Unopened e) h told = of_opening e h told
  ends (Opened deeds) h told =
      let headline = h.2.2 in
      opened (
        h.0,
        deeds,
        h.1,
        h.2,
        deeds_end h.0 deeds n may_be h.2.0 draw old new headline told,
      )

  pub session_ends : (status : ℕ) → Session may_be words draw old new status given → status ≡ n
      → SessionEnd
  session_ends status session is =
      ends session.story session.happened
      (sym is ∙ status_told (stop_in session.story) status old.sink new.sink session.ended)

-- ---- the laws

deeds_two : (desk : DeskSight) (deeds : Deeds) → DeedsEnd desk deeds 2 → ⊥
deeds_two desk deeds (refuses told is) = absurd (omega (arith, told))
deeds_two desk deeds (is_full told is) = absurd (omega (arith, told))
deeds_two desk deeds (has_many told is) = absurd (omega (arith, told))
deeds_two desk deeds (goes_well told is) = absurd (omega (arith, told))
deeds_two desk deeds (fails told) = absurd (grind (arith, told))

deeds_three : (desk : DeskSight) (deeds : Deeds) → DeedsEnd desk deeds 3
    → EndsAtImport IsRefusedImport deeds
deeds_three desk deeds (refuses told is) = is
deeds_three desk deeds (is_full told is) = absurd (omega (arith, told))
deeds_three desk deeds (has_many told is) = absurd (omega (arith, told))
deeds_three desk deeds (goes_well told is) = absurd (omega (arith, told))
deeds_three desk deeds (fails told) = absurd (grind (arith, told))

deeds_eight : (desk : DeskSight) (deeds : Deeds) → DeedsEnd desk deeds 8 → ⊥
deeds_eight desk deeds (refuses told is) = absurd (omega (arith, told))
deeds_eight desk deeds (is_full told is) = absurd (omega (arith, told))
deeds_eight desk deeds (has_many told is) = absurd (omega (arith, told))
deeds_eight desk deeds (goes_well told is) = absurd (omega (arith, told))
deeds_eight desk deeds (fails told) = absurd (grind (arith, told))

deeds_ten : (desk : DeskSight) (deeds : Deeds) → DeedsEnd desk deeds 10 → EndsAtImport IsFull deeds
deeds_ten desk deeds (refuses told is) = absurd (omega (arith, told))
deeds_ten desk deeds (is_full told is) = is
deeds_ten desk deeds (has_many told is) = absurd (omega (arith, told))
deeds_ten desk deeds (goes_well told is) = absurd (omega (arith, told))
deeds_ten desk deeds (fails told) = absurd (grind (arith, told))

deeds_eleven : (desk : DeskSight) (deeds : Deeds) → DeedsEnd desk deeds 11 → IsTooMany deeds
deeds_eleven desk deeds (refuses told is) = absurd (omega (arith, told))
deeds_eleven desk deeds (is_full told is) = absurd (omega (arith, told))
deeds_eleven desk deeds (has_many told is) = is
deeds_eleven desk deeds (goes_well told is) = absurd (omega (arith, told))
deeds_eleven desk deeds (fails told) = absurd (grind (arith, told))

deeds_zero : (desk : DeskSight) (deeds : Deeds) → DeedsEnd desk deeds 0 → IsWell desk deeds
deeds_zero desk deeds (refuses told is) = absurd (omega (arith, told))
deeds_zero desk deeds (is_full told is) = absurd (omega (arith, told))
deeds_zero desk deeds (has_many told is) = absurd (omega (arith, told))
deeds_zero desk deeds (goes_well told is) = is
deeds_zero desk deeds (fails told) = absurd (grind (arith, told))

module _ (may_be : Moments) (words : List (List ℕ)) (draw : ℕ) (old new : Sight) (given : Given)
  where
    -- a desk was opened, of which this holds where that does
    so_opened : {P Q : DeskSight → Deeds → Type 0}
        → ((desk : DeskSight) (deeds : Deeds) → P desk deeds → Q desk deeds)
        → IfOpened may_be words draw old new given P → IfOpened may_be words draw old new given Q
    so_opened f h = (h.0, h.1, h.2, h.3, f h.0 h.1 h.4)

    two : SessionEnd may_be words draw old new given 2
        → IsNoForm words old new given
    two (no_form told is) = is
    two (no_file told is) = absurd (omega (arith, told))
    two (bad_row told row is) = absurd (omega (arith, told))
    two (no_room told is) = absurd (omega (arith, told))
    two (stopped told) = absurd (grind (arith, told))
    two (opened is) = absurd (deeds_two is.0 is.1 is.4)

    three : SessionEnd may_be words draw old new given 3
        → IsRefusedFetch words old new given
        ⊎ IfOpened may_be words draw old new given (λ desk. EndsAtImport IsRefusedImport)
    three (no_form told is) = absurd (omega (arith, told))
    three (no_file told is) = inl is
    three (bad_row told row is) = absurd (omega (arith, told))
    three (no_room told is) = absurd (omega (arith, told))
    three (stopped told) = absurd (grind (arith, told))
    three (opened is) = inr (so_opened deeds_three is)

    eight : SessionEnd may_be words draw old new given 8
        → (row : ℕ) × IfUnopened may_be words draw old new given
        (λ name. IsUnopened may_be name draw old new (open_err.BadStore row))
    eight (no_form told is) = absurd (omega (arith, told))
    eight (no_file told is) = absurd (omega (arith, told))
    eight (bad_row told row is) = (row, is)
    eight (no_room told is) = absurd (omega (arith, told))
    eight (stopped told) = absurd (grind (arith, told))
    eight (opened is) = absurd (deeds_eight is.0 is.1 is.4)

    ten : SessionEnd may_be words draw old new given 10
        → IfUnopened may_be words draw old new given
        (λ name. IsUnopened may_be name draw old new open_err.Full)
        ⊎ IfOpened may_be words draw old new given (λ desk. EndsAtImport IsFull)
    ten (no_form told is) = absurd (omega (arith, told))
    ten (no_file told is) = absurd (omega (arith, told))
    ten (bad_row told row is) = absurd (omega (arith, told))
    ten (no_room told is) = inl is
    ten (stopped told) = absurd (grind (arith, told))
    ten (opened is) = inr (so_opened deeds_ten is)

    eleven : SessionEnd may_be words draw old new given 11
        → IfOpened may_be words draw old new given (λ desk. IsTooMany)
    eleven (no_form told is) = absurd (omega (arith, told))
    eleven (no_file told is) = absurd (omega (arith, told))
    eleven (bad_row told row is) = absurd (omega (arith, told))
    eleven (no_room told is) = absurd (omega (arith, told))
    eleven (stopped told) = absurd (grind (arith, told))
    eleven (opened is) = so_opened deeds_eleven is

    zero : SessionEnd may_be words draw old new given 0
        → IfOpened may_be words draw old new given IsWell
    zero (no_form told is) = absurd (omega (arith, told))
    zero (no_file told is) = absurd (omega (arith, told))
    zero (bad_row told row is) = absurd (omega (arith, told))
    zero (no_room told is) = absurd (omega (arith, told))
    zero (stopped told) = absurd (grind (arith, told))
    zero (opened is) = so_opened deeds_zero is

module _ (may_be : Moments) where
  pub two_is_no_form : TwoIsNoForm may_be
  two_is_no_form words draw old new status given session is =
      two may_be words draw old new given
      (session_ends may_be words draw old new given 2 status session is)

  pub three_is_refused : ThreeIsRefused may_be
  three_is_refused words draw old new status given session is =
      three may_be words draw old new given
      (session_ends may_be words draw old new given 3 status session is)

  pub eight_is_bad_row : EightIsBadRow may_be
  eight_is_bad_row words draw old new status given session is =
      eight may_be words draw old new given
      (session_ends may_be words draw old new given 8 status session is)

  pub ten_is_full : TenIsFull may_be
  ten_is_full words draw old new status given session is =
      ten may_be words draw old new given
      (session_ends may_be words draw old new given 10 status session is)

  pub eleven_is_too_many : ElevenIsTooMany may_be
  eleven_is_too_many words draw old new status given session is =
      eleven may_be words draw old new given
      (session_ends may_be words draw old new given 11 status session is)

  pub zero_is_well : ZeroIsWell may_be
  zero_is_well words draw old new status given session is =
      zero may_be words draw old new given
      (session_ends may_be words draw old new given 0 status session is)
