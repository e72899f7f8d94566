-- What status 0 means of a server.
use Rattle.std.proofs.Common.{◌≡◌, ◌∙◌, ℕ, Bool, true, false, not, ◌||◌, if◌then◌else◌, List, [], ◌∷◌, All, Option, Some, None, ap, sym, refl, arith}
use Rattle.std.proofs.lemmas.Bool.{or_parts, true≢false}
use Rattle.std.proofs.lemmas.List.Elements.{All-cons, All-nil}
use Rattle.std.specs.List.{list_any}
use Rattle.rb_api.specs.declared.token.Token.{Token}
use Rattle.rb_causes.specs.Sinks.{SinkState}
use Rattle.rb_command.specs.Lines.{memory_line}
use Rattle.rb_serve.specs.Roles.{Senses, is_failed, is_wanting}
use Rattle.rb_serve.specs.Served.{crew_stop}
use Rattle.rb_serve.specs.declared.crew_end.CrewEnd.{CrewEnd}
use Rattle.rb_serve.specs.declared.door_end.DoorEnd.TheVariants as end
use Rattle.rb_serve.specs.declared.role.Post.{Post}
use Rattle.rb_serve.specs.declared.role.Post.TheVariants.{Door, Worker}
use Rattle.rb_serve.specs.declared.role.Role.{Role}
use Rattle.rb_serve_laws.specs.Statuses.{IsWell, IsWellPlayed, ZeroIsWell}
use Rattle.rb_session.specs.Lines.{Stop, line_line, stop_with, store_line}
use Rattle.rb_session.specs.Statuses.{EndsAsTold, is_saved, is_unsaved}
use Rattle.rb_session.specs.declared.saving.Saving.{Saving}
use Rattle.rb_session_laws.proofs.CourseEnds.{saved_is}
use Rattle.rb_work.specs.declared.pumped.Pumped.TheVariants as pumped

-- how a server that served ended: by one of these statuses, and how it comes to 0
pub data CrewEnds (line wanting saved : Bool) (status : ℕ) : Type 0 where
  by_line : status ≡ 5 → CrewEnds line wanting saved status
  by_store : status ≡ 6 → CrewEnds line wanting saved status
  by_memory : status ≡ 7 → CrewEnds line wanting saved status
  well : status ≡ 0 → line ≡ false → wanting ≡ false → saved ≡ true
      → CrewEnds line wanting saved status

-- what ends it, by what was seen
abbrev stop_by : Bool → Bool → Bool → Bool → Bool → Option Stop
stop_by line store unsaved wanting saved =
    if line then Some (stop_with 5 line_line)
    else if store || unsaved then Some (stop_with 6 store_line)
    else if wanting || not saved then Some (stop_with 7 memory_line)
    else None

ends_by : (line store unsaved wanting saved : Bool) (status : ℕ) (sink sink' : SinkState)
    → EndsAsTold (stop_by line store unsaved wanting saved) status sink sink'
    → CrewEnds line wanting saved status
ends_by true store unsaved wanting saved status sink sink' h = by_line h.is
ends_by false true unsaved wanting saved status sink sink' h = by_store h.is
ends_by false false true wanting saved status sink sink' h = by_store h.is
ends_by false false false true saved status sink sink' h = by_memory h.is
ends_by false false false false false status sink sink' h = by_memory h.is
ends_by false false false false true status sink sink' h = well h.0 refl refl refl

pub crew_ends : (said : CrewEnd) (saving : Saving) (status : ℕ) (sink sink' : SinkState)
    → EndsAsTold (crew_stop said saving) status sink sink'
    → CrewEnds said.line_failed said.wanting (is_saved saving) status
crew_ends said saving status sink sink' h =
    ends_by said.line_failed said.store_failed (is_unsaved saving) said.wanting (is_saved saving)
    status sink sink' h

module _ {L S : Type 0} where
  well_played : (p : Post L S) → is_failed p ≡ false → is_wanting p ≡ false → IsWellPlayed p
  well_played (Door line buffer number end.Well) taken there = refl
  well_played (Door line buffer number end.Wanting) taken there = absurd (true≢false there)
  well_played (Door line buffer number end.Failed) taken there = absurd (true≢false taken)
  well_played (Worker spawner number pumped.Closed) taken there = refl
  well_played (Worker spawner number pumped.Idle) taken there = absurd (true≢false there)
  well_played (Worker spawner number pumped.Limit) taken there = absurd (true≢false there)
  well_played (Worker spawner number pumped.StoreFault) taken there = absurd (true≢false there)
  well_played (Worker spawner number pumped.NoMemory) taken there = absurd (true≢false there)

  all_well : (ends : List (Role L S)) → list_any (λ r. is_failed r.post) ends ≡ false
      → list_any (λ r. is_wanting r.post) ends ≡ false → All (λ r. IsWellPlayed r.post) ends
  all_well [] taken there = All-nil (λ r. IsWellPlayed r.post)
  all_well (r ∷ ends) taken there =
      let t = or_parts (is_failed r.post) (list_any (λ r. is_failed r.post) ends) taken in
      let w = or_parts (is_wanting r.post) (list_any (λ r. is_wanting r.post) ends) there in
      All-cons (λ r. IsWellPlayed r.post) r ends (well_played r.post t.0 w.0)
      (all_well ends t.1 w.1)

not_zero : (n m : ℕ) → n ≡ 0 → n ≡ m → m ≡ 0
not_zero n m zero_is is = sym is ∙ zero_is

pub zero_is_well : {K L S : Type 0} (faults : K → ℕ) (senses : List Token → Senses L S)
    → ZeroIsWell faults senses
zero_is_well faults senses tokens owner documents o lines lines' spawners spawners' desk status
    sink sink' h told = by (crew_ends h.said h.saving status sink sink' h.ends)
  where
    by : CrewEnds h.said.line_failed h.said.wanting (is_saved h.saving) status
        → IsWell h.all.served.played.ends desk
    by (by_line is) = absurd (let five = not_zero status 5 told is in omega (arith, five))
    by (by_store is) = absurd (let six = not_zero status 6 told is in omega (arith, six))
    by (by_memory is) = absurd (let seven = not_zero status 7 told is in omega (arith, seven))
    by (well is taken there saved) = record {
      played = all_well h.all.served.played.ends
          (sym h.all.served.played.told.line ∙ taken)
          (sym h.all.served.played.told.wanting ∙ there);
      saved = h.saved.4 (saved_is h.saved.0.answer (ap is_saved (sym h.saved.3) ∙ saved));
    }
