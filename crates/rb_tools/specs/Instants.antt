-- What `next` prints of a schedule, and why it is refused.
use Rattle.std.specs.Prelude.{◌≡◌, ◌≢◌, ◌⊎◌, ℕ, zero, suc, ℤ, List, [], ◌∷◌, ◌++◌, codes, true, false, Option, Some, None, Result, Ok, Err}
use Rattle.std.specs.Fmt.{signed_decimal}
use Rattle.rb_command.specs.Lines.{line_of}
use Rattle.rb_cron.specs.Crontab.{fields_of, crontab_fault, IsScheduleFault}
use Rattle.rb_cron.specs.Due.{Source}
use Rattle.rb_cron.specs.Next.{next_due}
use Rattle.rb_cron.specs.ZoneRules.{is_rule}
use Rattle.rb_cron.specs.declared.schedule_err.ScheduleErr.TheVariants as schedule_errors
use Rattle.rb_tools.specs.declared.refusal.ToolRefusal.{ToolRefusal}
use Rattle.rb_tools.specs.declared.refusal.ToolRefusal.TheVariants as refusals

-- an instant, in seconds since 1970
abbrev pub instant_line : ℤ → List ℕ
instant_line instant = line_of (signed_decimal instant ∷ [])

-- that no instant is left
abbrev pub none_line : List ℕ
none_line = line_of (codes "none" ∷ [])

-- an instant with what stands behind it, or that there is none
abbrev pub found_text : (ℤ → List ℕ) → Option ℤ → List ℕ
found_text behind None = none_line
found_text behind (Some instant) = instant_line instant ++ behind instant

-- so many due instants, each the next behind the one before; where they run out earlier, that
abbrev pub upcoming_text : Source → ℕ → ℤ → List ℕ
upcoming_text source zero after = []
upcoming_text source (suc more) after =
    found_text (upcoming_text source more) (next_due source after)

-- the crontab and the zone are read, as this schedule
pub record IsSchedule (crontab zone : List ℕ) (source : Source) : Type 0 where
  pub fields : fields_of crontab ≡ Some source.fields
  pub good : crontab_fault crontab ≡ None
  pub rule : source.rule ≡ zone
  pub known : is_rule zone ≡ true

-- why a text is no crontab: it has a fault
abbrev pub RefusesCrontab : List ℕ → ToolRefusal → Type 0
RefusesCrontab crontab refusals.NoMemory = Unit {0}
RefusesCrontab crontab (refusals.Crontab error) =
    (error ≢ schedule_errors.NoMemory) × IsScheduleFault (crontab_fault crontab) error
RefusesCrontab crontab refusals.Zone = ⊥
RefusesCrontab crontab (refusals.Yaml fault) = ⊥
RefusesCrontab crontab (refusals.Node fault) = ⊥
RefusesCrontab crontab (refusals.Policy fault) = ⊥
RefusesCrontab crontab (refusals.Job fault) = ⊥
RefusesCrontab crontab (refusals.Filter error) = ⊥

-- both texts are no schedule: the crontab has a fault, or it has none and the zone is no zone rule
abbrev pub RefusesSchedule : List ℕ → List ℕ → ToolRefusal → Type 0
RefusesSchedule crontab zone refusal =
    RefusesCrontab crontab refusal
    ⊎ ((refusal ≡ refusals.Zone) × (crontab_fault crontab ≡ None) × (is_rule zone ≡ false))

-- What is read of a crontab and a zone: so many instants behind one, or why there are none.
abbrev pub ReadsInstants : List ℕ → List ℕ → ℤ → ℕ → Result (List ℕ) ToolRefusal → Type 0
ReadsInstants crontab zone after count (Ok text) =
    (source : Source) × IsSchedule crontab zone source × (text ≡ upcoming_text source count after)
ReadsInstants crontab zone after count (Err refusal) = RefusesSchedule crontab zone refusal
