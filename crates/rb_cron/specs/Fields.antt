-- The values that the text of a field names.
use Rattle.std.specs.Prelude.{ℕ, zero, suc, ◌+◌, ◌-◌, ◌%◌, Bool, true, false, ◌&&◌, ◌||◌, nat_eq, nat_le, List, [], ◌∷◌, codes, bytes_eq, filter, map, Option, Some, None, option_map, if◌then◌else◌}
use Rattle.std.specs.List.{list_any}
use Rattle.std.specs.Char.{to_ascii_lowercase}
use Rattle.rb_causes.specs.Numbers.{decimal_of}
use Rattle.rb_causes.specs.Texts.{pieces}
use Rattle.rb_causes.specs.Signs.{asterisk, comma, hyphen, slash, question_mark}
use Rattle.rb_cron.specs.declared.field.Field.{Field}
use Rattle.rb_cron.specs.declared.field.Field.TheVariants.{Seconds, Minute, Hour, Day, Month, Weekday, Year}
use Rattle.rb_cron.specs.declared.run.Run.{Run}

-- What a field may hold: its range, the names of its values from the least on, whether `?` may
-- stand there, and whether a run may go on from the greatest value to the least.
pub record Range : Type 0 where
  pub least : ℕ
  pub greatest : ℕ
  pub names : List (List ℕ)
  pub takes_any : Bool
  pub goes_round : Bool

abbrev pub numbers : ℕ → ℕ → Range
numbers least greatest = record {
  least = least;
  greatest = greatest;
  names = [];
  takes_any = false;
  goes_round = true;
}

abbrev pub month_names : List (List ℕ)
month_names = codes "JAN" ∷ codes "FEB" ∷ codes "MAR" ∷ codes "APR" ∷ codes "MAY" ∷ codes "JUN"
    ∷ codes "JUL" ∷ codes "AUG" ∷ codes "SEP" ∷ codes "OCT" ∷ codes "NOV" ∷ codes "DEC" ∷ []

abbrev pub weekday_names : List (List ℕ)
weekday_names = codes "SUN" ∷ codes "MON" ∷ codes "TUE" ∷ codes "WED" ∷ codes "THU"
    ∷ codes "FRI" ∷ codes "SAT" ∷ []

-- the seven fields, in the order of a crontab
abbrev pub seconds : Range
seconds = numbers 0 59

abbrev pub minute : Range
minute = numbers 0 59

abbrev pub hour : Range
hour = numbers 0 23

abbrev pub day : Range
day = record (numbers 1 31) { takes_any = true }

abbrev pub month : Range
month = record (numbers 1 12) { names = month_names }

-- Sunday is 1
abbrev pub weekday : Range
weekday = record (numbers 1 7) { names = weekday_names; takes_any = true }

abbrev pub year : Range
year = record (numbers 1970 2199) { goes_round = false }

-- the range of a field
abbrev pub range_of : Field → Range
range_of Seconds = seconds
range_of Minute = minute
range_of Hour = hour
range_of Day = day
range_of Month = month
range_of Weekday = weekday
range_of Year = year

-- its place in a crontab, from 1
abbrev pub field_place : Field → ℕ
field_place Seconds = 1
field_place Minute = 2
field_place Hour = 3
field_place Day = 4
field_place Month = 5
field_place Weekday = 6
field_place Year = 7

abbrev pub in_range : Range → ℕ → Bool
in_range range value = nat_le range.least value && nat_le value range.greatest

-- a number, if it lies in the range
abbrev pub checked : Range → ℕ → Option ℕ
checked range number = if in_range range number then Some number else None

-- the texts are equal but for the case of ASCII letters
abbrev pub same_letters : List ℕ → List ℕ → Bool
same_letters a b = bytes_eq (map to_ascii_lowercase a) (map to_ascii_lowercase b)

-- the value with this name, if one has it; the first name is that of this value
abbrev pub value_named : ℕ → List (List ℕ) → List ℕ → Option ℕ
value_named value [] text = None
value_named value (name ∷ names) text =
    if same_letters name text then Some value else value_named (suc value) names text

abbrev pub number_or_name : Range → List ℕ → Option ℕ → Option ℕ
number_or_name range text (Some number) = checked range number
number_or_name range text None = value_named range.least range.names text

-- a value: a decimal in the range, or a name in any case
abbrev pub value_in_range : Range → List ℕ → Option ℕ
value_in_range range text = number_or_name range text (decimal_of text)

abbrev pub every : ℕ → ℕ → Run
every first last = record { first = first; last = last; step = 1 }

-- all values of a range
abbrev pub whole : Range → Run
whole range = every range.least range.greatest

-- the run from a value to another
abbrev pub run_between : Range → Option ℕ → Option ℕ → Option Run
run_between range (Some a) (Some b) =
    if range.goes_round || nat_le a b then Some (every a b) else None
run_between range None b = None
run_between range (Some a) None = None

-- a value alone; with a step it is a run to the greatest value
abbrev pub run_from : Range → Bool → ℕ → Run
run_from range is_stepped value = every value (if is_stepped then range.greatest else value)

-- what stands between dashes: a value, or two
abbrev pub run_in : Range → Bool → List (List ℕ) → Option Run
run_in range is_stepped (a ∷ []) = option_map (run_from range is_stepped) (value_in_range range a)
run_in range is_stepped (a ∷ b ∷ []) =
    run_between range (value_in_range range a) (value_in_range range b)
run_in range is_stepped parts = None

-- `*`, `a` or `a-b`
abbrev pub field_run : Range → Bool → List ℕ → Option Run
field_run range is_stepped text =
    if bytes_eq text (asterisk ∷ []) then Some (whole range)
    else run_in range is_stepped (pieces (λ b. nat_eq b hyphen) text)

-- a run by its step, which is a decimal other than 0
abbrev pub stepped : Option ℕ → Run → Option Run
stepped None run = None
stepped (Some zero) run = None
stepped (Some (suc n)) run = Some (record run { step = suc n })

abbrev pub stepped_run : Option ℕ → Option Run → Option Run
stepped_run step None = None
stepped_run step (Some run) = stepped step run

-- what stands between slashes: a run, or a run and its step
abbrev pub item_in : Range → List (List ℕ) → Option Run
item_in range (run ∷ []) = field_run range false run
item_in range (run ∷ step ∷ []) = stepped_run (decimal_of step) (field_run range true run)
item_in range parts = None

-- an item of a field
abbrev pub field_item : Range → List ℕ → Option Run
field_item range text = item_in range (pieces (λ b. nat_eq b slash) text)

abbrev pub with_run : Option Run → Option (List Run) → Option (List Run)
with_run (Some run) (Some runs) = Some (run ∷ runs)
with_run None runs = None
with_run (Some run) None = None

-- the runs of items, if all are read
abbrev pub items_of : Range → List (List ℕ) → Option (List Run)
items_of range [] = Some []
items_of range (item ∷ items) = with_run (field_item range item) (items_of range items)

-- the text is `?`, where it may stand
abbrev pub is_any : Range → List ℕ → Bool
is_any range text = range.takes_any && bytes_eq text (question_mark ∷ [])

-- the runs of a field's text, or none where it is no field
abbrev pub runs_of : Range → List ℕ → Option (List Run)
runs_of range text =
    if is_any range text then Some (whole range ∷ [])
    else items_of range (pieces (λ b. nat_eq b comma) text)

-- how many values a range has
abbrev pub size : Range → ℕ
size range = suc range.greatest - range.least

-- how far a value lies behind another, going on from the greatest to the least
abbrev pub distance : Range → ℕ → ℕ → ℕ
distance range from to = if nat_le from to then to - from else (to + size range) - from

-- a run meets the value
abbrev pub run_meets : Range → ℕ → Run → Bool
run_meets range value run =
    let gone : ℕ = distance range run.first value in
    nat_le gone (distance range run.first run.last) && nat_eq (gone % run.step) 0

abbrev pub runs_meet : Range → Option (List Run) → ℕ → Bool
runs_meet range None value = false
runs_meet range (Some runs) value = in_range range value && list_any (run_meets range value) runs

-- the field has the value
abbrev pub field_has : Range → List ℕ → ℕ → Bool
field_has range text value = runs_meet range (runs_of range text) value

-- so many numbers from this one on
abbrev pub counted : ℕ → ℕ → List ℕ
counted zero from = []
counted (suc more) from = from ∷ counted more (suc from)

-- the values of a field in order, none of a text that is no field
abbrev pub field_values : Range → List ℕ → List ℕ
field_values range text =
    let runs : Option (List Run) = runs_of range text in
    filter (runs_meet range runs) (counted (size range) range.least)
