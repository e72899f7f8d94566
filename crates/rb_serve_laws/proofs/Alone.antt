-- Where an import was not taken, nobody else asked anything of the board.
use Rattle.std.proofs.Common.{◌≡◌, ◌∙◌, ◌+◌, ◌-◌, ◌<◌, ◌≤◌, ℕ, Bool, true, false, cond, nat_eq, nat_le, List, [], ◌∷◌, ◌++◌, length, map, filter, Contains, get_or, ap, sym, subst, refl, arith, inl, inr, length-append}
use Rattle.std.proofs.lemmas.Bool.{eq-eqb, eqb-true, leb-false, leb-true}
use Rattle.std.proofs.lemmas.List.{get_or-map, length-map}
use Rattle.std.proofs.lemmas.List.Elements.{All-get_or}
use Rattle.std.specs.List.{flat_map}
use Rattle.atomic_table.specs.Seated.{TableId}
use Rattle.rb_board.proofs.Lists.{head_is, in_tail}
use Rattle.rb_board.specs.Boards.{HasClosed, IsKnown, PassValue, first_passes, seen_of, told_of_pass}
use Rattle.rb_board.specs.History.{own, row_numbers}
use Rattle.rb_board.specs.declared.view.Entry.{Entry}
use Rattle.rb_board.specs.declared.view.Opening.{Opening}
use Rattle.rb_causes.specs.Numbers.{numbers_from}
use Rattle.rb_desk.specs.DeskState.{DeskState}
use Rattle.rb_log.specs.Acted.{Acted}
use Rattle.rb_log.specs.Records.{Record}
use Rattle.rb_log.specs.Told.{added}
use Rattle.rb_serve.proofs.Passes.{numbered}
use Rattle.rb_serve_laws.proofs.OneLog.{at_last, at_push, count_others, first_is, last_first, same_number}
use Rattle.rb_serve_laws.proofs.Splitting.{every, of_pass, own_has, rows_upto}
use Rattle.rb_session_laws.proofs.Asked.{numbers_behind}
use Rattle.rb_session_laws.proofs.Ended.{none_in}
use Rattle.rb_work.proofs.Records.{acted_begins, acted_own, begins_longer}

-- where each passes, a filter leaves all
all_pass : {A : Type 0} (p : A → Bool) (xs : List A)
    → ((x : A) → Contains xs x → p x ≡ true) → filter p xs ≡ xs
all_pass p [] h = refl
all_pass p (x ∷ xs) h =
    ap (λ b. cond b (x ∷ filter p xs) (filter p xs)) (h x (head_is x x xs refl))
    ∙ ap (λ l. x ∷ l) (all_pass p xs (λ y there. h y (in_tail x y xs there)))

module _ {K : Type 0} (faults : K → ℕ) (o : Opening) (board : TableId) (P : ℕ)
    (others : List PassValue) (pass left : PassValue) (imports : List Record)
    (was : first_passes board o P ≡ others ++ pass ∷ [])
    (did : Acted (told_of_pass pass) (told_of_pass left) imports) (d : DeskState K)
    (closed : HasClosed faults o (map seen_of (others ++ left ∷ [])) d) where
  abbrev passes : List PassValue
  passes = others ++ left ∷ []

  count : length others + 1 ≡ P
  count = count_others board o P others pass was

  long : length passes ≡ P
  long = length-append others (left ∷ []) ∙ count

  known_at : (k : ℕ) → k < P
      → IsKnown closed.past d.log (faults d.keeper) (get_or passes k pass).seen
  known_at k lt =
      let few : k < length passes = omega (arith, lt, long) in
      subst (IsKnown closed.past d.log (faults d.keeper))
      (get_or-map seen_of passes k pass pass.seen few)
      (All-get_or (IsKnown closed.past d.log (faults d.keeper)) (map seen_of passes) k pass.seen
      (omega (arith, few, length-map passes seen_of)) closed.passes)

  number : left.seen.number ≡ length others
  number =
      same_number pass left imports did
      ∙ ap (λ (p : PassValue). p.seen.number) (last_first board o P others pass was)

  known : IsKnown closed.past d.log (faults d.keeper) left.seen
  known =
      subst (λ (p : PassValue). IsKnown closed.past d.log (faults d.keeper) p.seen)
      (at_last others left pass) (known_at (length others) (omega (arith, count)))

  -- a pass that is not the last one asked nothing
  none_asked : (k : ℕ) → k < length others → own k closed.past ≡ []
  none_asked k few =
      let lt : k < P = omega (arith, few, count) in
      elim (at_push others left k pass (omega (arith, few, long, count))) [
        | inl h ↦ let is = h.1 left ∙ sym (h.1 pass) ∙ first_is board o P others pass was k lt in
            let first : IsKnown closed.past d.log (faults d.keeper) (numbered board o k).seen =
            subst (λ (p : PassValue). IsKnown closed.past d.log (faults d.keeper) p.seen) is
            (known_at k lt) in first.mine
        | inr h ↦ absurd (omega (arith, h.0, few))
      ]

  -- so each entry is the last one's
  is_last : (e : Entry) → Contains closed.past e → nat_eq e.pass left.seen.number ≡ true
  is_last e there = by (nat_le (length others) e.pass) refl
    where
      by : (b : Bool) → nat_le (length others) e.pass ≡ b
          → nat_eq e.pass left.seen.number ≡ true
      by false small =
          absurd (none_in e (subst (λ es. Contains es e)
          (none_asked e.pass (leb-false (length others) e.pass small)) (own_has closed.past e there)))
      by true large = within (nat_le P e.pass) refl
        where
          within : (b : Bool) → nat_le P e.pass ≡ b → nat_eq e.pass left.seen.number ≡ true
          within true over =
              let le : P ≤ e.pass = leb-true P e.pass over in
              absurd (none_in e (subst (λ es. Contains es e)
              (closed.only e.pass (omega (arith, le, long, length-map passes seen_of)))
              (own_has closed.past e there)))
          within false under =
              let le : length others ≤ e.pass = leb-true (length others) e.pass large in
              let lt : e.pass < P = leb-false P e.pass under in
              let is : e.pass ≡ left.seen.number = omega (arith, le, lt, count, number) in
              eq-eqb e.pass left.seen.number is

  all_own : row_numbers closed.past ≡ flat_map added imports
  all_own =
      ap row_numbers (sym (all_pass (λ (e : Entry). nat_eq e.pass left.seen.number) closed.past
      is_last)) ∙ ap row_numbers known.mine
      ∙ acted_own imports (told_of_pass pass) (told_of_pass left) did
      ∙ ap (λ (p : PassValue). (told_of_pass p).own ++ flat_map added imports)
      (last_first board o P others pass was)

  -- the last one has seen all of the log
  all_seen : length left.seen.log ≡ length d.log
  all_seen = by (nat_le (length d.log) (length left.seen.log)) refl
    where
      shorter : length left.seen.log ≤ length d.log
      shorter = begins_longer left.seen.log d.log known.beginning

      from : length o.log ≤ length left.seen.log
      from =
          let grew = begins_longer pass.seen.log left.seen.log
          (acted_begins imports (told_of_pass pass) (told_of_pass left) did) in
          let first = ap (λ (p : PassValue). length p.seen.log)
          (last_first board o P others pass was) in omega (arith, grew, first)

      by : (b : Bool) → nat_le (length d.log) (length left.seen.log) ≡ b
          → length left.seen.log ≡ length d.log
      by true le = let small : length d.log ≤ length left.seen.log =
          leb-true (length d.log) (length left.seen.log) le in
          omega (arith, small, shorter)
      by false gt =
          let large : length left.seen.log < length d.log =
          leb-false (length d.log) (length left.seen.log) gt in
          let m = every o closed.past d.log closed.history (length d.log)
          (omega (arith, large, from)) (omega arith) in
          let there = of_pass closed.past d.log (faults d.keeper) left.seen known (length d.log)
          m.0 m.1 (eqb-true m.0.pass left.seen.number (is_last m.0 m.1)) m.2 in
          let low = rows_upto imports (told_of_pass pass) (told_of_pass left) did (length d.log)
          (subst (λ ns. Contains ns (length d.log))
          (acted_own imports (told_of_pass pass) (told_of_pass left) did
          ∙ ap (λ (p : PassValue). (told_of_pass p).own ++ flat_map added imports)
          (last_first board o P others pass was)) there) in
          absurd (omega (arith, low, large))

  -- the rows of the imports are all rows behind the opening
  pub rows_alone : flat_map added imports
      ≡ numbers_from (length o.log + 1) (length left.seen.log - length o.log)
  rows_alone =
      sym all_own
      ∙ numbers_behind (length d.log) (length o.log) (row_numbers closed.past) closed.rows
      ∙ ap (λ n. numbers_from (length o.log + 1) (n - length o.log)) (sym all_seen)
