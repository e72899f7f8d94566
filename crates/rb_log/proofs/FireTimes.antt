-- Of two rows that fire one job the later names an instant behind the moment of the earlier.
use Rattle.std.proofs.Common.{◌≡◌, ◌∙◌, ◌≤ℤ◌, ℕ, ℤ, List, [], ◌∷◌, ◌++◌, map, Bool, true, false, ◌&&◌, ◌||◌, nat_eq, bytes_eq, ap, sym, refl, arith, if◌then◌else◌}
use Rattle.std.proofs.lemmas.Bool.{eqb-true}
use Rattle.std.proofs.lemmas.Int.{ints}
use Rattle.rb_causes.specs.declared.row.Row.{Row}
use Rattle.rb_causes.proofs.Texts.{same_text}
use Rattle.rb_cron.specs.Laws.{NextIsLeast}
use Rattle.rb_plan.specs.declared.world.HeldJob.{HeldJob}
use Rattle.rb_log.specs.Rows.{is_nodes, is_jobs, is_zone}
use Rattle.rb_log.specs.Asks.{ask_of, is_due_ask}
use Rattle.rb_log.specs.World.{LoggedProject, with_fire, is_fire, fired_by, projects_at, latest, zones_of}
use Rattle.rb_log.specs.Legal.{IsLegalLog}
use Rattle.rb_log.specs.Fires.{FiresAscend}
use Rattle.rb_log.proofs.ClaimLaws.{beginnings_are_legal}
use Rattle.rb_log.proofs.HeldLaws.{Every, AllHeld, held_has, held_after, moment_is_later}
use Rattle.rb_log.proofs.MomentLaws.{moments_ascend}
use Rattle.rb_log.proofs.TickRows.{timed}

-- a job of this name was looked at no earlier than then
abbrev IsSince : List ℕ → ℤ → HeldJob → Type 0
IsSince name at held = bytes_eq held.id name ≡ true → at ≤ℤ held.looked

-- ---- behind the row that fires it

fired_since : (b : Bool) (row : Row) (held : HeldJob) → bytes_eq held.id row.name ≡ b
    → IsSince row.name row.at (if b then record held { looked = row.at } else held)
fired_since true row held is = λ same. omega (arith, ints)
fired_since false row held is = λ same. absurd (let wrong = sym is ∙ same in grind (arith, wrong))

all_fired : (row : Row) (hs : List HeldJob)
    → Every (IsSince row.name row.at) (map (fired_by row) hs)
all_fired row [] = tt
all_fired row (x ∷ hs) =
    (fired_since (bytes_eq x.id row.name) row x refl, all_fired row hs)

projects_fired : (row : Row) (ps : List LoggedProject)
    → AllHeld (IsSince row.name row.at) (map (with_fire row) ps)
projects_fired row [] = tt
projects_fired row (p ∷ ps) = (all_fired row p.jobs, projects_fired row ps)

-- a row that fires imports neither nodes nor jobs
no_kind : (a b n m : ℕ) (x y : Bool) → nat_eq n a ≡ x → nat_eq n b ≡ y → (x || y) ≡ true
    → nat_eq a m ≡ false → nat_eq b m ≡ false → nat_eq n m ≡ false
no_kind a b n m true y h k e p q = ap (λ c. nat_eq c m) (eqb-true n a h) ∙ p
no_kind a b n m false true h k e p q = ap (λ c. nat_eq c m) (eqb-true n b k) ∙ q
no_kind a b n m false false h k e p q = absurd (grind (arith, e))

either_kind : (x y due : Bool) → (x || (y && due)) ≡ true → (x || y) ≡ true
either_kind true y due h = refl
either_kind false true due h = refl
either_kind false false due h = h

no_import : (n m : ℕ) (due : Bool) → (nat_eq n 6 || (nat_eq n 5 && due)) ≡ true
    → nat_eq 6 m ≡ false → nat_eq 5 m ≡ false → nat_eq n m ≡ false
no_import n m due h p q =
    no_kind 6 5 n m (nat_eq n 6) (nat_eq n 5) refl refl
    (either_kind (nat_eq n 6) (nat_eq n 5) due h) p q

since_by : (row : Row) (n j f : Bool) (a b : List LoggedProject) (ps : List LoggedProject)
    → n ≡ false → j ≡ false → f ≡ true
    → AllHeld (IsSince row.name row.at)
    (if n then a else if j then b else if f then map (with_fire row) ps else ps)
since_by row true j f a b ps h k l = absurd (grind (arith, h))
since_by row false true f a b ps h k l = absurd (grind (arith, k))
since_by row false false true a b ps h k l = projects_fired row ps
since_by row false false false a b ps h k l = absurd (grind (arith, l))

since_fired : (row : Row) (past : List Row) → is_fire row ≡ true
    → AllHeld (IsSince row.name row.at) (projects_at (row ∷ past))
since_fired row past fires =
    let due = is_due_ask (ask_of row.name row.body) in
    since_by row (is_nodes row) (is_jobs row) (is_fire row) _ _ (projects_at past)
    (no_import row.kind 2 due fires refl refl) (no_import row.kind 3 due fires refl refl) fires

-- ---- and behind all rows that follow

-- the rows between are no earlier
no_earlier : (row : Row) (between past : List Row) (earlier : Row)
    → IsLegalLog (row ∷ (between ++ (earlier ∷ past))) → earlier.at ≤ℤ row.at
no_earlier row [] past earlier legal =
    moment_is_later earlier.at row.at (moments_ascend row (earlier ∷ past) legal).1
no_earlier row (last ∷ between) past earlier legal =
    let before = no_earlier last between past earlier legal.0 in
    let here = moment_is_later last.at row.at
    (moments_ascend row (last ∷ (between ++ (earlier ∷ past))) legal).1 in
    omega (arith, ints, before, here)

since_all : (between past : List Row) (earlier : Row) → IsLegalLog (between ++ (earlier ∷ past))
    → is_fire earlier ≡ true
    → AllHeld (IsSince earlier.name earlier.at) (projects_at (between ++ (earlier ∷ past)))
since_all [] past earlier legal fires = since_fired earlier past fires
since_all (row ∷ between) past earlier legal fires =
    let rest = between ++ (earlier ∷ past) in
    let later = no_earlier row between past earlier legal in
    held_after (IsSince earlier.name earlier.at) (zones_of (latest is_zone rest)) (is_nodes row)
    (is_jobs row) (is_fire row) row (projects_at rest) (λ is job same. later)
    (λ is held named before same. later) (since_all between past earlier legal.0 fires)

pub fires_ascend : NextIsLeast → FiresAscend
fires_ascend law newer between past later earlier due h fires same names =
    let legal = beginnings_are_legal newer (later ∷ (between ++ (earlier ∷ past))) h in
    let t = timed law later (between ++ (earlier ∷ past)) due legal names in
    let held = t.of.d.held in
    let since = held_has (IsSince earlier.name earlier.at)
    (projects_at (between ++ (earlier ∷ past))) held (since_all between past earlier legal.0 fires)
    t.held in
    let looked = since (same_text held.id earlier.name (sym t.of.named ∙ same)) in
    omega (arith, ints, looked, t.behind)
