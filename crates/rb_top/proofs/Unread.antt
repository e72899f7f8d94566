-- The first line that is not read.
use Rattle.std.proofs.Common.{◌≡◌, ◌<◌, ℕ, zero, suc, ◌+◌, ◌^◌, Bool, true, false, not, cond, ltb, List, [], ◌∷◌, length, take, map, Option, Some, None, is_some, Result, Ok, Err, is_ok, IsOk, IsErr, refl, ap, sym, ◌∙◌, subst, arith}
use Rattle.std.specs.List.{slice_split}
use Rattle.rb_causes.specs.Texts.{is_line_feed}
use Rattle.rb_top.specs.Broken.{broken_after, broken_or, broken, place_rule}
use Rattle.rb_top.specs.Laws.{IsFirstUnread, FirstUnreadIsTold, BrokenIsUnread}
use Rattle.rb_top.specs.Lines.{read_line, read_lines}
use Rattle.rb_top.specs.Reading.{may_come, with_line, script_after, script_of, empty_script}
use Rattle.rb_top.specs.declared.broken.BrokenRule.TheVariants as rule
use Rattle.rb_top.specs.declared.script.DrillLine.{DrillLine}
use Rattle.rb_top.specs.declared.script.Script.{Script}
use Rattle.rb_top.specs.declared.script.ScriptFault.{ScriptFault}
use Rattle.rb_top.specs.declared.script.ScriptFault.TheVariants.{TooLarge, NotRead}
use Rattle.rb_top.proofs.Scripts.{small_file}

abbrev Lines : Type 0
Lines = List (Option DrillLine)

-- so many lines are read, and the next is not
abbrev StopsAt : Script → ℕ → Lines → ℕ → Type 0
StopsAt s k lines i = (i < length lines) × IsOk (script_after s k (take i lines)) × IsErr (script_after s k (take (suc i) lines))

number_of : (k n : ℕ) → ◌≡◌ {A = Result Script ScriptFault} (Err (NotRead k)) (Err (NotRead n)) → n ≡ k
number_of k n same = let equal : k ≡ n = cc in sym equal

ok_is_not_err : (s : Script) (fault : ScriptFault) → ◌≡◌ {A = Result Script ScriptFault} (Ok s) (Err fault) → ⊥
ok_is_not_err s fault same = cc

-- a line that may come is passed over, and one that may not is told
told_at : (s : Script) (k n : ℕ) (line : DrillLine) (lines : Lines) (may : Bool) → may_come s line ≡ may → script_after s k (Some line ∷ lines) ≡ Err (NotRead n)
    → (script_after (with_line s line) (k + 1) lines ≡ Err (NotRead n) → (i : ℕ) × (n ≡ (k + 1) + i) × StopsAt (with_line s line) (k + 1) lines i)
    → (i : ℕ) × (n ≡ k + i) × StopsAt s k (Some line ∷ lines) i
told_at s k n line lines true may told later =
    let rest = later (rw may at told) in
    (suc rest.0, omega (arith, rest.1), (omega (arith, rest.2.0), rw may rest.2.1, rw may rest.2.2))
told_at s k n line lines false may told later =
    (0, number_of k n (rw may at told) ∙ omega arith, (omega arith, refl, rw may refl))

told_stops : (s : Script) (k n : ℕ) (lines : Lines) → script_after s k lines ≡ Err (NotRead n) → (i : ℕ) × (n ≡ k + i) × StopsAt s k lines i
told_stops s k n [] told = absurd (ok_is_not_err s (NotRead n) told)
told_stops s k n (None ∷ lines) told = (0, number_of k n told ∙ omega arith, (omega arith, refl, refl))
told_stops s k n (Some line ∷ lines) told =
    told_at s k n line lines (may_come s line) refl told (told_stops (with_line s line) (k + 1) n lines)

not_ok : (fault : ScriptFault) → IsOk {T = Script} (Err fault) → ⊥
not_ok fault ok = cc

not_err : (s : Script) → IsErr {E = ScriptFault} (Ok s) → ⊥
not_err s err = cc

stops_at : (s : Script) (k : ℕ) (line : DrillLine) (lines : Lines) (i : ℕ) (may : Bool) → may_come s line ≡ may → StopsAt s k (Some line ∷ lines) i
    → ((j : ℕ) → StopsAt (with_line s line) (k + 1) lines j → script_after (with_line s line) (k + 1) lines ≡ Err (NotRead ((k + 1) + j)))
    → script_after s k (Some line ∷ lines) ≡ Err (NotRead (k + i))
stops_at s k line lines zero true may (there, read, unread) later = absurd (not_err (with_line s line) (rw may at unread))
stops_at s k line lines (suc j) true may (there, read, unread) later =
    let at : (k + 1) + j ≡ k + suc j = omega arith in
    rw may (later j (omega (arith, there), rw may at read, rw may at unread) ∙ ap (λ n. Err (NotRead n)) at)
stops_at s k line lines zero false may stops later =
    let at : k ≡ k + 0 = omega arith in
    rw may (ap (λ n. Err (NotRead n)) at)
stops_at s k line lines (suc j) false may (there, read, unread) later = absurd (not_ok (NotRead k) (rw may at read))

stops_told : (s : Script) (k : ℕ) (lines : Lines) (i : ℕ) → StopsAt s k lines i → script_after s k lines ≡ Err (NotRead (k + i))
stops_told s k [] i (there, read, unread) = absurd (omega (arith, there))
stops_told s k (None ∷ lines) zero stops = let at : k ≡ k + 0 = omega arith in ap (λ n. Err (NotRead n)) at
stops_told s k (None ∷ lines) (suc j) (there, read, unread) = absurd (not_ok (NotRead k) read)
stops_told s k (Some line ∷ lines) i stops =
    stops_at s k line lines i (may_come s line) refl stops (λ j. stops_told (with_line s line) (k + 1) lines j)

pub first_unread_is_told : FirstUnreadIsTold
first_unread_is_told bytes n small = (told, back)
  where
    told : script_of bytes ≡ Err (NotRead n) → IsFirstUnread (read_lines bytes) n
    told refused =
        let stops = told_stops empty_script 1 n (read_lines bytes) (sym (small_file bytes small) ∙ refused) in
        record {
          above = stops.0;
          number = omega (arith, stops.1);
          there = stops.2.0;
          read = stops.2.1;
          unread = let next : suc stops.0 ≡ stops.0 + 1 = omega arith in subst (λ i. IsErr (script_after empty_script 1 (take i (read_lines bytes)))) next stops.2.2;
        }

    back : IsFirstUnread (read_lines bytes) n → script_of bytes ≡ Err (NotRead n)
    back first =
        let same : 1 + first.above ≡ n = omega (arith, first.number) in
        let next : first.above + 1 ≡ suc first.above = omega arith in
        small_file bytes small
        ∙ stops_told empty_script 1 (read_lines bytes) first.above
        (first.there, first.read, subst (λ i. IsErr (script_after empty_script 1 (take i (read_lines bytes)))) next first.unread)
        ∙ ap (λ i. Err (NotRead i)) same

-- ---- a broken rule

broken_one : (s : Script) (k : ℕ) (bytes : List ℕ) (found : Option DrillLine) (lines : List (List ℕ)) → ((line : DrillLine) → found ≡ Some line
    → is_some (broken_after (with_line s line) lines) ≡ not (is_ok (script_after (with_line s line) (k + 1) (map read_line lines))))
    → is_some (broken_or s bytes found (λ line. broken_after (with_line s line) lines)) ≡ not (is_ok (script_after s k (found ∷ map read_line lines)))
broken_one s k bytes None lines later = refl
broken_one s k bytes (Some line) lines later = by_case (may_come s line) (later line refl)
  where
    by_case : (may : Bool) → is_some (broken_after (with_line s line) lines) ≡ not (is_ok (script_after (with_line s line) (k + 1) (map read_line lines)))
        → is_some (cond may (broken_after (with_line s line) lines) (broken bytes (place_rule s line)))
        ≡ not (is_ok (cond may (script_after (with_line s line) (k + 1) (map read_line lines)) (Err (NotRead k))))
    by_case true same = same
    by_case false same = refl

broken_lines : (s : Script) (k : ℕ) (lines : List (List ℕ)) → is_some (broken_after s lines) ≡ not (is_ok (script_after s k (map read_line lines)))
broken_lines s k [] = refl
broken_lines s k (bytes ∷ lines) = broken_one s k bytes (read_line bytes) lines (λ line found. broken_lines (with_line s line) (k + 1) lines)

pub broken_is_unread : BrokenIsUnread
broken_is_unread bytes = by_size (ltb (2 ^ 20) (length bytes))
  where
    by_size : (large : Bool) → is_some (cond large (Some (record { rule = rule.TooLarge; has_return = false })) (broken_after empty_script (slice_split is_line_feed bytes)))
        ≡ not (is_ok (cond large (Err TooLarge) (script_after empty_script 1 (read_lines bytes))))
    by_size true = refl
    by_size false = broken_lines empty_script 1 (slice_split is_line_feed bytes)
