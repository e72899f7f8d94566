-- A pump from its first task to its last Claim.
use Rattle.std.proofs.Common.{◌≡◌, ◌∙◌, ◌≢◌, ◌≤◌, ◌<◌, ◌+◌, ◌-◌, ℕ, zero, suc, ℤ, List, [], ◌∷◌, ◌++◌, length, true, false, Option, Some, None, IfSome, ap, sym, subst, refl, arith, append-nil, append_assoc, length-append}
use Rattle.std.specs.List.{flat_map}
use Rattle.rb_causes.specs.Causes.{Rose}
use Rattle.rb_causes.specs.Outside.{gained}
use Rattle.rb_log.specs.Programs.{programs_at}
use Rattle.rb_log.specs.Records.{Record}
use Rattle.rb_causes.proofs.Written.{rose_since}
use Rattle.rb_log.specs.Told.{Told}
use Rattle.rb_log.specs.Acted.{Acted}
use Rattle.rb_log.specs.declared.answer.Answer.TheVariants as answer
use Rattle.rb_work.specs.PumpLaws.{PumpLaws}
use Rattle.rb_work.specs.Ticks.{HasTicked}
use Rattle.rb_work.specs.Left.{fewer, may_start}
use Rattle.rb_work.specs.Works.{Work, records_of, added_numbers, Outside, HasWorked}
use Rattle.rb_work.specs.Pumping.{Ends, HasPumped, HasWorkedOff, IsLastClaim, IsWithinLimit}
use Rattle.rb_work.specs.OneTask.{HasStopped, HasWorkedOne}
use Rattle.rb_work.specs.declared.pumped.Pumped.{Pumped}
use Rattle.rb_work.specs.declared.pumped.Pumped.TheVariants as pumped
use Rattle.rb_work.proofs.Records.{acted_begins, acted_faults, acted_rose, acted_split}
use Rattle.rb_work.proofs.Worked.{worked_nothing, worked_then}
use Rattle.rb_work.proofs.WorkPrograms.{works_programs}

-- ---- how many are left

-- so many of these are left where so many were started
abbrev pub IsLeft : Option ℕ → ℕ → Option ℕ → Type 0
IsLeft None started left = left ≡ None
IsLeft (Some most) started left = (left ≡ Some (most - started)) × (started ≤ most)

none_less : (n : ℕ) → n - 0 ≡ n
none_less n = omega arith

pub left_first : (limit : Option ℕ) → IsLeft limit 0 limit
left_first None = refl
left_first (Some most) = (ap Some (sym (none_less most)), omega arith)

some_left : (n : ℕ) → may_start (Some n) ≡ true → 0 < n
some_left zero h = absurd (grind (arith, h))
some_left (suc n) h = omega arith

none_left : (n : ℕ) → may_start (Some n) ≡ false → n ≡ 0
none_left zero h = refl
none_left (suc n) h = absurd (grind (arith, h))

pub left_more : (limit left : Option ℕ) (n : ℕ) → IsLeft limit n left → may_start left ≡ true
    → IsLeft limit (n + 1) (fewer left)
left_more None left n h more = ap fewer h
left_more (Some most) left n h more =
    let some : 0 < most - n = some_left (most - n) (sym (ap may_start h.0) ∙ more) in
    (ap fewer h.0 ∙ ap Some (one_less most n), omega (arith, some))
  where
    one_less : (m k : ℕ) → m - k - 1 ≡ m - (k + 1)
    one_less m k = omega arith

below : (limit left : Option ℕ) (n : ℕ) → IsLeft limit n left → may_start left ≡ true
    → IfSome limit (λ most. n < most)
below None left n h more = tt
below (Some most) left n h more =
    let some : 0 < most - n = some_left (most - n) (sym (ap may_start h.0) ∙ more) in
    omega (arith, some)

reached : (limit left : Option ℕ) (n : ℕ) → IsLeft limit n left → may_start left ≡ false
    → limit ≡ Some n
reached None left n h over = absurd (never (sym (ap may_start h) ∙ over))
  where
    never : may_start None ≡ false → ⊥
    never h = grind (arith, h)
reached (Some most) left n h over =
    ap Some (all most n (none_left (most - n) (sym (ap may_start h.0) ∙ over)) h.1)
  where
    all : (m k : ℕ) → m - k ≡ 0 → k ≤ m → m ≡ k
    all m k h within = omega (arith, h, within)

is_within : (limit : Option ℕ) (n : ℕ) (said : Pumped) → said ≢ pumped.Limit
    → IfSome limit (λ most. n < most) → IsWithinLimit limit n said
is_within limit n pumped.Limit h less = absurd (h refl)
is_within limit n other h less = less

-- ---- one task after another

-- these works were done, and so many may still be started
abbrev pub Works : ℤ → ℕ → Option ℕ → Option ℕ → Outside → Outside → Type 0
Works at worker limit left old new =
    (works : List Work) × HasWorked at worker old new works []
    × IsLeft limit (length works) left

pub works_first : (at : ℤ) (worker : ℕ) (limit : Option ℕ) (o : Outside)
    → Works at worker limit limit o o
works_first at worker limit o = ([], worked_nothing at worker o, left_first limit)

pub works_more : PumpLaws → (at : ℤ) (worker : ℕ) (limit left : Option ℕ) (a b c : Outside)
    → Works at worker limit left a b → may_start left ≡ true → HasWorkedOne at worker b c
    → Works at worker limit (fewer left) a c
works_more laws at worker limit left a b c h more one = (
  h.0 ++ one.work ∷ [],
  worked_then laws at worker a b c h.0 (one.work ∷ []) [] h.1 one.worked,
  subst (λ n. IsLeft limit n (fewer left)) (sym (length-append h.0 (one.work ∷ [])))
      (left_more limit left (length h.0) h.2 more),
)

-- ---- the end of a pump

-- the runs of works are the programs of their rows
ran_programs : (at : ℤ) (worker : ℕ) (a b : Outside) (works : List Work) (last : List Record)
    → HasWorked at worker a b works last
    → b.spawner.runs ≡ gained a.spawner.runs (programs_at b.clerk.log (flat_map added_numbers works))
ran_programs at worker a b works last h =
    let parts = acted_split (flat_map records_of works) last a.clerk b.clerk h.acted in
    h.ran.runs
    ∙ ap (λ runs. gained a.spawner.runs runs)
    (sym (works_programs at worker b.clerk.log works a.clerk parts.0 h.each parts.1
    (acted_begins last parts.0 b.clerk parts.2)))

pub limit_reached : (at : ℤ) (worker : ℕ) (limit left : Option ℕ) (a b : Outside)
    → Works at worker limit left a b → may_start left ≡ false
    → HasWorkedOff at worker limit a b pumped.Limit
limit_reached at worker limit left a b h over = record {
  works = h.0;
  last = [];
  worked = h.1;
  programs = ran_programs at worker a b h.0 [] h.1;
  within = reached limit left (length h.0) h.2 over;
  ends = refl;
}

pub stopped : PumpLaws → (at : ℤ) (worker : ℕ) (limit left : Option ℕ)
    (a b c : Outside) (said : Pumped) → Works at worker limit left a b
    → may_start left ≡ true → HasStopped at worker b c said
    → HasWorkedOff at worker limit a c said
stopped laws at worker limit left a b c said h more stop =
    let worked : HasWorked at worker a c h.0 stop.last =
    subst (λ works. HasWorked at worker a c works stop.last) (append-nil h.0)
    (worked_then laws at worker a b c h.0 [] stop.last h.1 stop.worked) in
    record {
      works = h.0;
      last = stop.last;
      worked = worked;
      programs = ran_programs at worker a c h.0 stop.last worked;
      within = is_within limit (length h.0) said stop.unlimited
          (below limit left (length h.0) h.2 more);
      ends = stop.ends;
    }

-- ---- Ticks, and then works

pub has_pumped : (may_be : ℤ → Type 0) (at : ℤ) (worker : ℕ) (limit : Option ℕ) (a b : Outside)
    (mid : Told) (said : Pumped) → may_be at
    → (ticks : List Record) × HasTicked at a.clerk mid ticks
    → HasWorkedOff at worker limit (record a { clerk = mid }) b said
    → HasPumped may_be worker limit a b said
has_pumped may_be at worker limit a b mid said moment h k = record {
  at = at;
  moment = moment;
  ticks = h.0;
  mid = mid;
  ticked = h.1;
  works = k.works;
  last = k.last;
  worked = k.worked;
  programs = k.programs;
  within = k.within;
  ends = k.ends;
}

-- ---- what follows

pub store_rose : (may_be : ℤ → Type 0) (worker : ℕ) (limit : Option ℕ) (a b : Outside)
    (said : Pumped) → HasPumped may_be worker limit a b said → said ≡ pumped.StoreFault
    → Rose a.clerk.faults b.clerk.faults
store_rose may_be worker limit a b said h is =
    let ends : IsLastClaim h.at worker answer.StoreFault h.last =
    subst (λ x. Ends h.at worker h.last x) is h.ends in
    let before : List Record = flat_map records_of h.works ++ ends.withdrawals in
    let rose = acted_rose before ends.claim h.mid b.clerk
    (subst (λ records. Acted h.mid b.clerk records)
    (ap (λ last. flat_map records_of h.works ++ last) ends.behind
    ∙ sym (append_assoc (flat_map records_of h.works) ends.withdrawals (ends.claim ∷ [])))
    h.worked.acted) ends.given in
    rose_since a.clerk.faults h.mid.faults b.clerk.faults
    (acted_faults h.ticks a.clerk h.mid h.ticked.acted) rose
