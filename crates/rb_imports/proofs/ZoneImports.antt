-- What is decided of an import of a zone.
use Rattle.std.proofs.Common.{◌≡◌, ◌∙◌, ◌+◌, ◌-◌, ◌^◌, min, ℕ, ℤ, true, false, not, List, [], Result, Ok, ap, sym, subst, refl, arith}
use Rattle.rb_causes.specs.declared.row.Row.{Row}
use Rattle.rb_yaml.specs.Faults.{◌>>=◌}
use Rattle.rb_cron.specs.ZoneRules.{is_rule}
use Rattle.rb_log.specs.LogState.{log_state, moment, moment_by}
use Rattle.rb_log.specs.Moves.{only, adds, must, has_body, moved_or}
use Rattle.rb_log.specs.Readings.{Reading}
use Rattle.rb_log.specs.Rows.{is_zone, zone_kind, zone_row}
use Rattle.rb_log.specs.World.{latest, latest_of, count_of_kind}
use Rattle.rb_log.specs.declared.answer.Answer.{Answer}
use Rattle.rb_log.specs.declared.answer.Answer.TheVariants as answer
use Rattle.rb_log.specs.declared.answer.ImportedJob.{ImportedJob}
use Rattle.rb_log.specs.declared.call.Call.TheVariants as call
use Rattle.rb_tables.specs.Changes.{Decided, IsRefusal, IsSettled, IsZonesEffect, Makes, IsAnswerOf}
use Rattle.rb_tables.specs.Tables.{IsTabled}
use Rattle.rb_tables.specs.declared.change.Change.{Change}
use Rattle.rb_tables.specs.declared.change.TableEffect.TheVariants.{Zone}
use Rattle.rb_tables.specs.declared.change.ZonesEffect.{ZonesEffect}
use Rattle.rb_tables.specs.declared.change.Outcome.TheVariants as outcome
use Rattle.rb_tables.specs.declared.tables.Tables.{Tables}
use Rattle.rb_tables.proofs.Deciding.{refused_first, settled, decided, refused_moved}
use Rattle.rb_tables.proofs.Projects.{rows_few, number_few}
use Rattle.rb_imports.specs.Importing.{zone_moved}
use Rattle.rb_imports.proofs.NodeImports.{next_is, same_import, new_import, change_is, effect_is}

module _ (t : Tables) (past : List Row) (tabled : IsTabled t past) (at : ℤ)
    (name rule : List ℕ) where
  pub zone_same : (a : Answer) → true ≡ has_body rule (latest_of name t.zones.items)
      → a ≡ answer.Imported t.zones_number []
      → IsAnswerOf (zone_moved (log_state past) at name rule) a
  zone_same a has told =
      subst (IsAnswerOf (zone_moved (log_state past) at name rule)) (sym told)
      (same_import (not (has_body rule (latest_of name (latest is_zone past))))
      (count_of_kind is_zone past) []
      (λ n. zone_row (moment (log_state past) at) n name rule)
      (ap not (sym (has ∙ ap (λ ls. has_body rule (latest_of name ls)) tabled.says.zones)))
      ∙ ap (λ n. only (answer.Imported n [])) (sym tabled.says.zones_number))

  pub zone_new : (c : Change) (version : ℕ) (jobs : List ImportedJob) (row : Row)
      (e : ZonesEffect) (zone : List ℕ)
      → false ≡ has_body rule (latest_of name t.zones.items)
      → version ≡ min (t.zones_number + 1) (2 ^ 64 - 1)
      → row ≡ zone_row (moment_by t.last at) version name rule
      → jobs ≡ []
      → c ≡ record {
        outcome = outcome.Imported version jobs;
        row = row;
        effect = Zone e;
      }
      → (row.kind ≡ zone_kind → zone ≡ row.body → IsZonesEffect past row e)
      → zone ≡ rule
      → Makes past (zone_moved (log_state past) at name rule) (Ok c)
  zone_new c version jobs row e zone has next made none told effect read =
      let few : version ≡ t.zones_number + 1 =
      next_is t.zones_number version next
      (omega (
        arith,
        tabled.says.zones_number,
        number_few is_zone past,
        rows_few t past tabled,
      )) in
      let row_is : row ≡ zone_row (moment (log_state past) at) version name rule =
      made ∙ ap (λ last. zone_row (moment_by last at) version name rule) tabled.says.last in (
        new_import (not (has_body rule (latest_of name (latest is_zone past))))
            (count_of_kind is_zone past) version []
            (λ n. zone_row (moment (log_state past) at) n name rule)
            (ap not (sym (has
            ∙ ap (λ ls. has_body rule (latest_of name ls)) tabled.says.zones)))
            (few ∙ ap (λ n. n + 1) tabled.says.zones_number)
            ∙ ap (λ js. adds 1 (answer.Imported version js)
            (zone_row (moment (log_state past) at) version name rule)) (sym none)
            ∙ ap (λ r. adds 1 (answer.Imported version jobs) r) (sym row_is)
            ∙ change_is c version jobs row (Zone e) refl told,
        effect_is past c version jobs row (Zone e) told
            (effect (ap (λ (r : Row). r.kind) row_is)
            (read ∙ ap (λ (r : Row). r.body) (sym row_is))),
      )

-- ---- the rule of an import of a zone

abbrev zone_reading : Reading
zone_reading = record { policies = Ok []; jobs = Ok [] }

module _ (past : List Row) (at : ℤ) (name rule : List ℕ) where
  pub zone_bad : (a : Answer) → IsRefusal (must (is_rule rule) answer.BadZone) a
      → IsSettled past (call.ImportZone name rule at) a
  zone_bad a h =
      settled past (call.ImportZone name rule at) zone_reading _ a tt refl
      (refused_moved _ a (refused_first (must (is_rule rule) answer.BadZone) _ a h))

  pub zone_decided : (result : Result Change Answer)
      → must (is_rule rule) answer.BadZone ≡ Ok true
      → Makes past (zone_moved (log_state past) at name rule) result
      → Decided past (call.ImportZone name rule at) result
  zone_decided result good h =
      decided past (call.ImportZone name rule at) zone_reading
      (zone_moved (log_state past) at name rule) result tt
      (ap (λ r. moved_or (r >>= λ good. Ok (zone_moved (log_state past) at name rule))) good) h
