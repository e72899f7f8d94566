-- What each status of a session means.
use Rattle.std.specs.Prelude.{
  ◌≡◌,
  ◌⊎◌,
  ◌∷◌,
  ◌++◌,
  ℕ,
  ℤ,
  true,
  false,
  List,
  [],
  length,
  reverse,
  slice_get,
  Some,
  None,
}
use Rattle.rb_desk.specs.declared.open_err.OpenErr.TheVariants as open_err
use Rattle.rb_causes.specs.declared.row.Row.{Row}
use Rattle.rb_door.specs.Exchanges.{Moments}
use Rattle.rb_door.specs.Guests.{NoneLeft, TooMany}
use Rattle.rb_log.specs.Claims.{is_closed}
use Rattle.rb_log.specs.LogState.{log_state}
use Rattle.rb_log.specs.Records.{Record}
use Rattle.rb_log.specs.declared.answer.Answer.{Answer}
use Rattle.rb_log.specs.declared.answer.Answer.TheVariants as answer
use Rattle.rb_log.specs.declared.call.Call.TheVariants.{Claim}
use Rattle.rb_session.specs.Courses.{Course}
use Rattle.rb_session.specs.Fetching.{StopsAtFile}
use Rattle.rb_session.specs.Statuses.{any_ended, is_line_fault, is_wanting}
use Rattle.rb_session.specs.Visits.{most_callers}
use Rattle.rb_session.specs.declared.place.Document.{Document}
use Rattle.rb_session.specs.declared.unread.Unread.{Unread}
use Rattle.rb_session.specs.declared.unread.Unread.TheVariants as unread
use Rattle.rb_session_top.specs.Sessions.{Headline, IfWords, IsUnopened, IsUntouched, Session}
use Rattle.rb_session_top.specs.Sights.{DeskSight, Given, GivesDesk, Sight}
use Rattle.rb_session_top.specs.Stories.{Deeds}
use Rattle.rb_session_top.specs.Words.{manifest_words}
use Rattle.rb_work.specs.declared.pumped.Pumped.TheVariants as pumped

-- a session that told this status
abbrev pub IfTold : ℕ → Moments → (List (List ℕ) → ℕ → Sight → Sight → Given → Type 0) → Type 0
IfTold told may_be Is =
    (words : List (List ℕ)) (draw : ℕ) (old new : Sight) (status : ℕ) (given : Given)
    → Session may_be words draw old new status given → status ≡ told
    → Is words draw old new given

-- ---- 2

-- The words are of no form, and nothing was called.
pub record IsNoForm (words : List (List ℕ)) (old new : Sight) (given : Given) : Type 0 where
  pub no_form : manifest_words words ≡ None
  pub untouched : IsUntouched old new given
  pub kept : new.kept ≡ old.kept
  pub shelf : new.shelf ≡ old.shelf

abbrev pub TwoIsNoForm : Moments → Type 0
TwoIsNoForm may_be = IfTold 2 may_be (λ words draw old new given. IsNoForm words old new given)

-- ---- 3 and 10

-- the file is absent or refused; a shelf that failed and want of memory are no refusal of a file
abbrev pub IsRefusedFile : Unread → Type 0
IsRefusedFile unread.ShelfFailed = ⊥
IsRefusedFile unread.NoMemory = ⊥
IsRefusedFile other = Unit {0}

-- An import of a document was answered so; it was the last, and no caller was asked for.
pub record EndsAtImport (IsSo : Answer → Type 0) (deeds : Deeds) : Type 0 where
  pub before : List Record
  pub document : Document
  pub r : Record
  pub imports : deeds.imports ≡ before ++ r ∷ []
  pub at_document : slice_get deeds.documents (length before) ≡ Some document
  pub is_so : IsSo r.answer
  pub no_course : deeds.course ≡ None

-- a desk was opened, and the session came this far
abbrev pub IfOpened : Moments → List (List ℕ) → ℕ → Sight → Sight → Given
    → (DeskSight → Deeds → Type 0) → Type 0
IfOpened may_be words draw old new given Is =
    (desk : DeskSight) × (deeds : Deeds) × (given ≡ GivesDesk desk)
    × IfWords words (λ name. Headline may_be name draw old new desk deeds) × Is desk deeds

-- the first file that was not had was refused, and nothing was opened
pub record IsRefusedFetch (words : List (List ℕ)) (old new : Sight) (given : Given) : Type 0 where
  pub file : List ℕ
  pub why : Unread
  pub refused : IsRefusedFile why
  pub first : IfWords words (λ name. StopsAtFile old.shelf new.shelf name file why)
  pub untouched : IsUntouched old new given
  pub kept : new.kept ≡ old.kept

-- the rules refuse the import for what the document is
abbrev pub IsRefusedImport : Answer → Type 0
IsRefusedImport answer.BadZone = Unit {0}
IsRefusedImport answer.BadName = Unit {0}
IsRefusedImport (answer.BadYaml fault) = Unit {0}
IsRefusedImport (answer.BadNodes fault) = Unit {0}
IsRefusedImport (answer.BadPolicy fault) = Unit {0}
IsRefusedImport (answer.BadJobs fault) = Unit {0}
IsRefusedImport answer.TooManyFiles = Unit {0}
IsRefusedImport answer.NoProject = Unit {0}
IsRefusedImport (answer.IdTaken id) = Unit {0}
IsRefusedImport (answer.NameTaken id) = Unit {0}
IsRefusedImport other = ⊥

abbrev pub ThreeIsRefused : Moments → Type 0
ThreeIsRefused may_be = IfTold 3 may_be (λ words draw old new given.
    IsRefusedFetch words old new given
    ⊎ IfOpened may_be words draw old new given (λ desk. EndsAtImport IsRefusedImport))

abbrev pub IsFull : Answer → Type 0
IsFull a = a ≡ answer.Full

-- all files were had, and no desk was opened for this cause; the rows that were kept stay
abbrev pub IfUnopened : Moments → List (List ℕ) → ℕ → Sight → Sight → Given
    → (List ℕ → Type 0) → Type 0
IfUnopened may_be words draw old new given Is = IsUntouched old new given × IfWords words Is

abbrev pub TenIsFull : Moments → Type 0
TenIsFull may_be = IfTold 10 may_be (λ words draw old new given.
    IfUnopened may_be words draw old new given
    (λ name. IsUnopened may_be name draw old new open_err.Full)
    ⊎ IfOpened may_be words draw old new given (λ desk. EndsAtImport IsFull))

-- ---- 8

abbrev pub EightIsBadRow : Moments → Type 0
EightIsBadRow may_be = IfTold 8 may_be (λ words draw old new given.
    (n : ℕ) × IfUnopened may_be words draw old new given
    (λ name. IsUnopened may_be name draw old new (open_err.BadStore n)))

-- ---- 11

-- The callers of the line were asked for, so many as may be, each was served, and one more came.
pub record IsTooMany (deeds : Deeds) : Type 0 where
  pub course : Course
  pub save : Record
  pub there : deeds.course ≡ Some (course, save)
  pub one_more : course.parting ≡ TooMany
  pub stays : length course.stays ≡ most_callers

abbrev pub ElevenIsTooMany : Moments → Type 0
ElevenIsTooMany may_be = IfTold 11 may_be (λ words draw old new given.
    IfOpened may_be words draw old new given (λ desk. IsTooMany))

-- ---- 0

-- Nobody was left on the line, no exchange failed or wanted memory, the last Claim was answered
-- Closed, and the keeper holds the whole log.
pub record IsWell (desk : DeskSight) (deeds : Deeds) : Type 0 where
  pub course : Course
  pub save : Record
  pub there : deeds.course ≡ Some (course, save)
  pub callers : course.parting ≡ NoneLeft
  pub taken : any_ended is_line_fault course.stays ≡ false
  pub replied : any_ended is_wanting course.stays ≡ false
  pub over : course.last.said ≡ pumped.Closed
  pub saved : desk.saved ≡ length desk.log

abbrev pub ZeroIsWell : Moments → Type 0
ZeroIsWell may_be = IfTold 0 may_be (λ words draw old new given.
    IfOpened may_be words draw old new given IsWell)

-- this record is the last of these
abbrev pub EndsWith : List Record → Record → Type 0
EndsWith records r = (before : List Record) × (records ≡ before ++ r ∷ [])

-- the record is of a Claim that was answered Closed
abbrev pub IsClosedClaim : Record → Type 0
IsClosedClaim r =
    (worker : ℕ) × (at : ℤ) × (r.call ≡ Claim worker at) × (r.answer ≡ answer.Closed)

-- at the end of this log no door is open and nothing is running
abbrev pub HasEnded : List Row → Type 0
HasEnded log = is_closed (log_state (reverse log)) ≡ true

abbrev pub ZeroHasEnded : Moments → Type 0
ZeroHasEnded may_be = IfTold 0 may_be (λ words draw old new given.
    IfOpened may_be words draw old new given (λ desk deeds. HasEnded desk.log))
