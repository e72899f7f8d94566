-- The least second of an hour and of a day: numbers by their place in a group, group by group.
use Rattle.std.proofs.Common.{◌≡◌, ℕ, ◌+◌, ◌*◌, ◌/◌, ◌%◌, ◌≤◌, ◌<◌, Bool, true, false, ◌&&◌, nat_le, List, Option, Some, None, arith, refl, ap, ◌∙◌, inl, inr}
use Rattle.std.proofs.lemmas.Bool.{and_parts, and_from, and_left, and_right}
use Rattle.std.proofs.lemmas.Bool.Decides.{leb_tells, nat_tests}
use Rattle.std.specs.List.{list_any}
use Rattle.std.specs.Prelude.{IfSome, IfNone}
use Rattle.rb_cron.specs.Days.{NonePass, IsFirstPass, in_hour_meets, in_day_meets}
use Rattle.rb_cron.specs.Fields.{Range, in_range, run_meets, runs_meet, field_has, seconds, minute, hour}
use Rattle.rb_cron.specs.declared.fields.Fields.{Fields}
use Rattle.rb_cron.specs.declared.run.Run.{Run}

-- what runs meet lies in the range
pub met_most : (range : Range) (runs : Option (List Run)) (v : ℕ) → runs_meet range runs v ≡ true → v ≤ range.greatest
met_most range None v h = absurd (cc)
met_most range (Some runs) v h =
    let inside = (and_parts (in_range range v) _ h).0 in
    let high = (and_parts (nat_le range.least v) (nat_le v range.greatest) inside).1 in
    grind (arith, nat_tests, high)

fails_by : (a c : Bool) → ((a && false) && c) ≡ false
fails_by true true = refl
fails_by true false = refl
fails_by false true = refl
fails_by false false = refl

pub none_over : (range : Range) (runs : List Run) (v : ℕ) → range.greatest < v → runs_meet range (Some runs) v ≡ false
none_over range runs v h =
    let e : nat_le v range.greatest ≡ false = grind (arith, nat_tests, h) in
    ap (λ b. (nat_le range.least v && b) && list_any (run_meets range v) runs) e ∙ fails_by (nat_le range.least v) (list_any (run_meets range v) runs)

-- what follows on what was passed over
pub pass_on : (passes : ℕ → Bool) (from mid end found : ℕ) → from ≤ mid → NonePass passes from mid → IsFirstPass passes mid end found → IsFirstPass passes from end found
pass_on passes from mid end found up before h = record {
  met = h.met;
  later = let at = h.later in omega (arith, at, up);
  before = h.before;
  least = λ v low high. elim (leb_tells mid v) [
    | inl at ↦ h.least v at.1 high
    | inr less ↦ before v low less.1
  ];
}

pub none_on : (passes : ℕ → Bool) (from mid end : ℕ) → NonePass passes from mid → NonePass passes mid end → NonePass passes from end
none_on passes from mid end before behind v low high = elim (leb_tells mid v) [
  | inl at ↦ behind v at.1 high
  | inr less ↦ before v low less.1
]

pub within_end : (passes : ℕ → Bool) (from end most found : ℕ) → end ≤ most → IsFirstPass passes from end found → IsFirstPass passes from most found
within_end passes from end most found less h = record {
  met = h.met;
  later = h.later;
  before = let below = h.before in omega (arith, below, less);
  least = h.least;
}

pub some_on : (passes : ℕ → Bool) (from mid end : ℕ) (r : Option ℕ) → from ≤ mid → NonePass passes from mid
    → IfSome r (IsFirstPass passes mid end) → IfSome r (IsFirstPass passes from end)
some_on passes from mid end None up before h = h
some_on passes from mid end (Some found) up before h = pass_on passes from mid end found up before h

pub nothing_on : (passes : ℕ → Bool) (from mid end : ℕ) (r : Option ℕ) → NonePass passes from mid
    → IfNone r (NonePass passes mid end) → IfNone r (NonePass passes from end)
nothing_on passes from mid end None before h = none_on passes from mid end before h
nothing_on passes from mid end (Some found) before h = h

pub if_none : {P : Type 0} (r : Option ℕ) → r ≡ None → P → IfNone r P
if_none None is h = h
if_none (Some x) is h = absurd (cc)

assoc_by : (a b c : Bool) → (a && b && c) ≡ ((a && b) && c)
assoc_by true b c = refl
assoc_by false true true = refl
assoc_by false true false = refl
assoc_by false false true = refl
assoc_by false false false = refl

-- the fields of times, by hours
pub by_hours : (f : Fields) (v : ℕ) → in_day_meets f v ≡ (in_hour_meets f (v % 3600) && field_has hour f.hour (v / 3600))
by_hours f v =
    let s : v % 60 ≡ v % 3600 % 60 = omega arith in
    let m : v / 60 % 60 ≡ v % 3600 / 60 = omega arith in
    assoc_by (field_has seconds f.seconds (v % 60)) (field_has minute f.minute (v / 60 % 60)) (field_has hour f.hour (v / 3600))
    ∙ ap (λ k. (field_has seconds f.seconds k && field_has minute f.minute (v / 60 % 60)) && field_has hour f.hour (v / 3600)) s
    ∙ ap (λ k. (field_has seconds f.seconds (v % 3600 % 60) && field_has minute f.minute k) && field_has hour f.hour (v / 3600)) m

-- numbers by their place in a group of 60, and the number of the group
pub here_60 : (passes low high : ℕ → Bool) (from s : ℕ) → ((v : ℕ) → passes v ≡ (low (v % 60) && high (v / 60)))
    → high (from / 60) ≡ true → low s ≡ true → s < 60 → from % 60 ≤ s → ((v : ℕ) → from % 60 ≤ v → v < s → low v ≡ false)
    → IsFirstPass passes from ((from / 60 + 1) * 60) (from / 60 * 60 + s)
here_60 passes low high from s is at_high at_low bound later least =
    let low_part : (from / 60 * 60 + s) % 60 ≡ s = omega (arith, bound) in
    let high_part : (from / 60 * 60 + s) / 60 ≡ from / 60 = omega (arith, bound) in
    record {
      met = is (from / 60 * 60 + s) ∙ and_from _ _ (ap low low_part ∙ at_low) (ap high high_part ∙ at_high);
      later = omega (arith, later);
      before = omega (arith, bound);
      least = λ v up less. is v ∙ and_left _ _ (least (v % 60) (omega (arith, up, less, bound)) (omega (arith, up, less, bound)));
    }

pub here_not_60 : (passes low high : ℕ → Bool) (from : ℕ) → ((v : ℕ) → passes v ≡ (low (v % 60) && high (v / 60)))
    → high (from / 60) ≡ false → NonePass passes from ((from / 60 + 1) * 60)
here_not_60 passes low high from is fails v up less =
    let same : v / 60 ≡ from / 60 = omega (arith, up, less) in
    is v ∙ and_right _ _ (ap high same ∙ fails)

pub here_none_60 : (passes low high : ℕ → Bool) (from : ℕ) → ((v : ℕ) → passes v ≡ (low (v % 60) && high (v / 60)))
    → ((v : ℕ) → from % 60 ≤ v → v < 60 → low v ≡ false) → NonePass passes from ((from / 60 + 1) * 60)
here_none_60 passes low high from is fails v up less =
    is v ∙ and_left _ _ (fails (v % 60) (omega (arith, up, less)) (omega arith))

pub from_60 : (passes low high : ℕ → Bool) (k m s : ℕ) → ((v : ℕ) → passes v ≡ (low (v % 60) && high (v / 60)))
    → high m ≡ true → m < 60 → k ≤ m → ((v : ℕ) → k ≤ v → v < m → high v ≡ false)
    → low s ≡ true → s < 60 → ((v : ℕ) → 0 ≤ v → v < s → low v ≡ false)
    → IsFirstPass passes (k * 60) 3600 (m * 60 + s)
from_60 passes low high k m s is at_high most later none at_low bound least =
    let low_part : (m * 60 + s) % 60 ≡ s = omega (arith, bound) in
    let high_part : (m * 60 + s) / 60 ≡ m = omega (arith, bound) in
    record {
      met = is (m * 60 + s) ∙ and_from _ _ (ap low low_part ∙ at_low) (ap high high_part ∙ at_high);
      later = omega (arith, later);
      before = omega (arith, bound, most);
      least = λ v up less. is v ∙ elim (leb_tells m (v / 60)) [
        | inl last ↦ and_left _ _ (least (v % 60) (omega arith) (omega (arith, last.1, less, bound)))
        | inr before ↦ and_right _ _ (none (v / 60) (omega (arith, up)) before.1)
      ];
    }

pub from_not_60 : (passes low high : ℕ → Bool) (k : ℕ) → ((v : ℕ) → passes v ≡ (low (v % 60) && high (v / 60)))
    → ((v : ℕ) → k ≤ v → high v ≡ false) → NonePass passes (k * 60) 3600
from_not_60 passes low high k is fails v up less = is v ∙ and_right _ _ (fails (v / 60) (omega (arith, up)))

pub from_none_60 : (passes low high : ℕ → Bool) (k : ℕ) → ((v : ℕ) → passes v ≡ (low (v % 60) && high (v / 60)))
    → ((v : ℕ) → 0 ≤ v → v < 60 → low v ≡ false) → NonePass passes (k * 60) 3600
from_none_60 passes low high k is fails v up less = is v ∙ and_left _ _ (fails (v % 60) (omega arith) (omega arith))

-- numbers by their place in a group of 3600, and the number of the group
pub here_3600 : (passes low high : ℕ → Bool) (from s : ℕ) → ((v : ℕ) → passes v ≡ (low (v % 3600) && high (v / 3600)))
    → high (from / 3600) ≡ true → low s ≡ true → s < 3600 → from % 3600 ≤ s → ((v : ℕ) → from % 3600 ≤ v → v < s → low v ≡ false)
    → IsFirstPass passes from ((from / 3600 + 1) * 3600) (from / 3600 * 3600 + s)
here_3600 passes low high from s is at_high at_low bound later least =
    let low_part : (from / 3600 * 3600 + s) % 3600 ≡ s = omega (arith, bound) in
    let high_part : (from / 3600 * 3600 + s) / 3600 ≡ from / 3600 = omega (arith, bound) in
    record {
      met = is (from / 3600 * 3600 + s) ∙ and_from _ _ (ap low low_part ∙ at_low) (ap high high_part ∙ at_high);
      later = omega (arith, later);
      before = omega (arith, bound);
      least = λ v up less. is v ∙ and_left _ _ (least (v % 3600) (omega (arith, up, less, bound)) (omega (arith, up, less, bound)));
    }

pub here_not_3600 : (passes low high : ℕ → Bool) (from : ℕ) → ((v : ℕ) → passes v ≡ (low (v % 3600) && high (v / 3600)))
    → high (from / 3600) ≡ false → NonePass passes from ((from / 3600 + 1) * 3600)
here_not_3600 passes low high from is fails v up less =
    let same : v / 3600 ≡ from / 3600 = omega (arith, up, less) in
    is v ∙ and_right _ _ (ap high same ∙ fails)

pub here_none_3600 : (passes low high : ℕ → Bool) (from : ℕ) → ((v : ℕ) → passes v ≡ (low (v % 3600) && high (v / 3600)))
    → ((v : ℕ) → from % 3600 ≤ v → v < 3600 → low v ≡ false) → NonePass passes from ((from / 3600 + 1) * 3600)
here_none_3600 passes low high from is fails v up less =
    is v ∙ and_left _ _ (fails (v % 3600) (omega (arith, up, less)) (omega arith))

pub from_3600 : (passes low high : ℕ → Bool) (k m s : ℕ) → ((v : ℕ) → passes v ≡ (low (v % 3600) && high (v / 3600)))
    → high m ≡ true → m < 24 → k ≤ m → ((v : ℕ) → k ≤ v → v < m → high v ≡ false)
    → low s ≡ true → s < 3600 → ((v : ℕ) → 0 ≤ v → v < s → low v ≡ false)
    → IsFirstPass passes (k * 3600) 86400 (m * 3600 + s)
from_3600 passes low high k m s is at_high most later none at_low bound least =
    let low_part : (m * 3600 + s) % 3600 ≡ s = omega (arith, bound) in
    let high_part : (m * 3600 + s) / 3600 ≡ m = omega (arith, bound) in
    record {
      met = is (m * 3600 + s) ∙ and_from _ _ (ap low low_part ∙ at_low) (ap high high_part ∙ at_high);
      later = omega (arith, later);
      before = omega (arith, bound, most);
      least = λ v up less. is v ∙ elim (leb_tells m (v / 3600)) [
        | inl last ↦ and_left _ _ (least (v % 3600) (omega arith) (omega (arith, last.1, less, bound)))
        | inr before ↦ and_right _ _ (none (v / 3600) (omega (arith, up)) before.1)
      ];
    }

pub from_not_3600 : (passes low high : ℕ → Bool) (k : ℕ) → ((v : ℕ) → passes v ≡ (low (v % 3600) && high (v / 3600)))
    → ((v : ℕ) → k ≤ v → high v ≡ false) → NonePass passes (k * 3600) 86400
from_not_3600 passes low high k is fails v up less = is v ∙ and_right _ _ (fails (v / 3600) (omega (arith, up)))

pub from_none_3600 : (passes low high : ℕ → Bool) (k : ℕ) → ((v : ℕ) → passes v ≡ (low (v % 3600) && high (v / 3600)))
    → ((v : ℕ) → 0 ≤ v → v < 3600 → low v ≡ false) → NonePass passes (k * 3600) 86400
from_none_3600 passes low high k is fails v up less = is v ∙ and_left _ _ (fails (v % 3600) (omega arith) (omega arith))
