-- The fields of a crontab, and which fault of seven fields is told.
use Rattle.std.specs.Prelude.{◌≡◌, ◌⊎◌, ℕ, suc, Bool, true, not, ◌&&◌, ◌||◌, List, [], ◌∷◌, ◌++◌, length, nat_eq, bytes_eq, filter, Option, Some, None, option_map, is_none, if◌then◌else◌}
use Rattle.std.specs.Option.{option_or}
use Rattle.rb_causes.specs.Texts.{pieces, is_empty, is_trimmed_off}
use Rattle.rb_causes.specs.Signs.{asterisk, question_mark}
use Rattle.rb_cron.specs.Fields.{Range, runs_of, seconds, minute, hour, day, month, weekday, year}
use Rattle.rb_cron.specs.declared.fields.Fields.{Fields}
use Rattle.rb_cron.specs.declared.schedule_err.ScheduleErr.{ScheduleErr}
use Rattle.rb_cron.specs.declared.schedule_err.ScheduleErr.TheVariants.{BadField, BothDays, NoMemory}

-- the longest runs of bytes that are no blanks
abbrev pub words_at_blanks : List ℕ → List (List ℕ)
words_at_blanks text = filter (λ word. not (is_empty word)) (pieces is_trimmed_off text)

-- seven words in the order of the fields
abbrev pub fields_in : List (List ℕ) → Option Fields
fields_in (s ∷ m ∷ h ∷ d ∷ mo ∷ w ∷ y ∷ []) = Some (record {
  seconds = s;
  minute = m;
  hour = h;
  day = d;
  month = mo;
  weekday = w;
  year = y;
})
fields_in words = None

-- six words stand for any year
abbrev pub with_year : List (List ℕ) → List (List ℕ)
with_year words = if nat_eq (length words) 6 then words ++ (asterisk ∷ []) ∷ [] else words

-- the fields of a crontab, which has six or seven
abbrev pub fields_of : List ℕ → Option Fields
fields_of text = fields_in (with_year (words_at_blanks text))

abbrev pub is_bad_field : Range → List ℕ → Bool
is_bad_field range text = is_none (runs_of range text)

abbrev pub is_question : List ℕ → Bool
is_question text = bytes_eq text (question_mark ∷ [])

-- a day field that names days by its text
abbrev pub names_days : List ℕ → Bool
names_days text = not (bytes_eq text (asterisk ∷ []) || is_question text)

-- the day of week is no field, or it is `?` as the day of month is
abbrev pub are_bad_weekdays : List ℕ → List ℕ → Bool
are_bad_weekdays on_day on_weekday =
    is_bad_field weekday on_weekday || (is_question on_day && is_question on_weekday)

-- which fields are bad, in their order; `?` in both day fields is a fault of the later one
abbrev pub bad_fields : Fields → List Bool
bad_fields f =
    is_bad_field seconds f.seconds
    ∷ is_bad_field minute f.minute
    ∷ is_bad_field hour f.hour
    ∷ is_bad_field day f.day
    ∷ is_bad_field month f.month
    ∷ are_bad_weekdays f.day f.weekday
    ∷ is_bad_field year f.year
    ∷ []

-- the place of the first true one, where this is the place of the first
abbrev pub first_true : ℕ → List Bool → Option ℕ
first_true n [] = None
first_true n (b ∷ bs) = if b then Some n else first_true (suc n) bs

-- both day fields name days
abbrev pub both_days : Fields → Option ScheduleErr
both_days f = if names_days f.day && names_days f.weekday then Some BothDays else None

-- the fault of seven fields: the first bad one, then both days
abbrev pub fields_fault : Fields → Option ScheduleErr
fields_fault f = option_or (option_map BadField (first_true 1 (bad_fields f))) (both_days f)

abbrev pub fault_in : Option Fields → Option ScheduleErr
fault_in None = Some (BadField 0)
fault_in (Some f) = fields_fault f

-- the fault of a crontab
abbrev pub crontab_fault : List ℕ → Option ScheduleErr
crontab_fault text = fault_in (fields_of text)

-- a refusal tells the fault, unless memory was wanting
abbrev pub IsScheduleFault : Option ScheduleErr → ScheduleErr → Type 0
IsScheduleFault fault NoMemory = Unit {0}
IsScheduleFault fault BothDays = fault ≡ Some BothDays
IsScheduleFault fault (BadField n) = fault ≡ Some (BadField n)

-- a refusal tells that the field in this place is bad, unless memory was wanting
abbrev pub IsBadField : ℕ → Bool → ScheduleErr → Type 0
IsBadField place bad NoMemory = Unit {0}
IsBadField place bad BothDays = ⊥
IsBadField place bad (BadField n) = (n ≡ place) × (bad ≡ true)

-- a text as a word, none where it is empty
abbrev pub kept_word : List ℕ → List (List ℕ)
kept_word text = if is_empty text then [] else text ∷ []

-- the parts of each text between a sign, one behind the other
abbrev pub parts_of_each : ℕ → List (List ℕ) → List (List ℕ)
parts_of_each sign [] = []
parts_of_each sign (text ∷ texts) = pieces (λ b. nat_eq b sign) text ++ parts_of_each sign texts

-- a refusal tells that the text has not six or seven fields, unless memory was wanting
abbrev pub IsNoCrontab : Option Fields → ScheduleErr → Type 0
IsNoCrontab fields e = (e ≡ NoMemory) ⊎ ((e ≡ BadField 0) × (fields ≡ None))
