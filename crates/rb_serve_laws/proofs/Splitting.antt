-- Rows of a history: each is of one entry, and so of one pass.
use Rattle.std.proofs.Common.{◌≡◌, ◌∙◌, ◌+◌, ◌<◌, ◌≤◌, ℕ, Bool, true, false, nat_eq, nat_le, List, [], ◌∷◌, length, Contains, Option, Some, None, option_to_list, if◌then◌else◌, ap, sym, subst, refl, arith, inl, inr, length-append}
use Rattle.std.proofs.lemmas.Bool.{eq-eqb, eqb-true, leb-false, leb-true}
use Rattle.std.proofs.lemmas.List.Elements.{Contains-append_cases, Contains-append_left, Contains-append_right}
use Rattle.std.specs.List.{flat_map}
use Rattle.rb_board.proofs.Lists.{head_is, head_or_tail, in_filter, in_tail, to_filter}
use Rattle.rb_board.specs.Boards.{IsKnown}
use Rattle.rb_board.specs.History.{IsHistory, IsLawful, entry_record, own, row_numbers}
use Rattle.rb_board.specs.declared.view.Entry.{Entry}
use Rattle.rb_board.specs.declared.view.Opening.{Opening}
use Rattle.rb_board.specs.declared.view.Seen.{Seen}
use Rattle.rb_causes.specs.declared.row.Row.{Row}
use Rattle.rb_door.specs.Doors.{AreInOrder}
use Rattle.rb_log.specs.Acted.{Acted}
use Rattle.rb_log.specs.Records.{Record}
use Rattle.rb_log.specs.Told.{Told, added}
use Rattle.rb_session_laws.proofs.Ended.{in_added, none_in}
use Rattle.rb_work.proofs.Records.{acted_begins, begins_longer}

-- ---- the row of a record

to_added_by : (r : Record) (b : Bool) → nat_eq r.before r.after ≡ b → r.before < r.after
    → Contains (if b then [] else r.after ∷ []) r.after
to_added_by r true same lt = absurd (grind (arith, same, lt))
to_added_by r false same lt = head_is r.after r.after [] refl

to_added : (r : Record) → r.before < r.after → Contains (added r) r.after
to_added r lt = to_added_by r (nat_eq r.before r.after) refl lt

pub grows : (before after : ℕ) → nat_eq before after ≡ false → before ≤ after → before < after
grows before after h le = grind (arith, h, le)

-- ---- the rows of records, in order

pub rows_from : (p : ℕ) (rs : List Record) → AreInOrder p rs → (n : ℕ)
    → Contains (flat_map added rs) n → p < n
rows_from p [] order n h = absurd (none_in n h)
rows_from p (r ∷ rs) order n h = elim (Contains-append_cases (added r) (flat_map added rs) n h) [
  | inl k ↦ let is = in_added r n k in let lt = grows r.before r.after is.1 order.1 in
      omega (arith, is.0, lt, order.0)
  | inr k ↦ let lt = rows_from r.after rs order.2 n k in omega (arith, lt, order.0, order.1)
]

pub rows_upto : (rs : List Record) (a b : Told) → Acted a b rs → (n : ℕ)
    → Contains (flat_map added rs) n → n ≤ length b.log
rows_upto [] a b h n there = absurd (none_in n there)
rows_upto (r ∷ rs) a b h n there =
    elim (Contains-append_cases (added r) (flat_map added rs) n there) [
      | inl k ↦ let is = (in_added r n k).0 in
          let le = begins_longer h.0.log b.log (acted_begins rs h.0 b h.2) in
          omega (arith, is, le, h.1.after)
      | inr k ↦ rows_upto rs h.0 b h.2 n k
    ]

-- ---- rows and entries

in_rows : (past : List Entry) (n : ℕ) → Contains (row_numbers past) n
    → (e : Entry) × Contains past e × Contains (added (entry_record e)) n
in_rows [] n h = absurd (none_in n h)
in_rows (e ∷ past) n h =
    elim (Contains-append_cases (row_numbers past) (added (entry_record e)) n h) [
      | inl k ↦ let m = in_rows past n k in (m.0, in_tail e m.0 past m.1, m.2)
      | inr k ↦ (e, head_is e e past refl, k)
    ]

to_rows : (past : List Entry) (e : Entry) (n : ℕ) → Contains past e
    → Contains (added (entry_record e)) n → Contains (row_numbers past) n
to_rows [] e n there h = absurd (none_in e there)
to_rows (x ∷ past) e n there h = elim (head_or_tail x e past there) [
  | inl is ↦ Contains-append_right (row_numbers past) (added (entry_record x)) n
      (subst (λ y. Contains (added (entry_record y)) n) (sym is) h)
  | inr k ↦ Contains-append_left (row_numbers past) (added (entry_record x)) n
      (to_rows past e n k h)
]

-- ---- a history

few_rows : (row : Option Row) → length (option_to_list row) ≤ 1
few_rows None = omega arith
few_rows (Some row) = omega arith

module _ (o : Opening) where
  both : (past : List Entry) (old log : List Row) (x : Entry) (h : IsLawful o past old log x)
      → length log ≡ length old + length (option_to_list h.row)
  both past old log x h = ap length h.log ∙ length-append old (option_to_list h.row)

  grown : (past : List Entry) (log : List Row) → IsHistory o past log → length o.log ≤ length log
  grown [] log h = let same = ap length h in omega (arith, same)
  grown (x ∷ past) log h =
      let less = grown past h.0 h.1 in let long = both past h.0 log x h.2 in
      omega (arith, less, long)

  new_row : (past : List Entry) (old log : List Row) (x : Entry) → IsLawful o past old log x
      → (n : ℕ) → Contains (added (entry_record x)) n → (length old < n) × (n ≡ length log)
  new_row past old log x h n row =
      let is = in_added (entry_record x) n row in
      let long = both past old log x h in
      let le : x.before ≤ x.after = omega (arith, long, h.before, h.after) in
      let lt : x.before < x.after = grows x.before x.after is.1 le in
      (omega (arith, lt, is.0, h.before), is.0 ∙ h.after)

  pub within : (past : List Entry) (log : List Row) → IsHistory o past log → (e : Entry) (n : ℕ)
      → Contains past e → Contains (added (entry_record e)) n
      → (length o.log < n) × (n ≤ length log)
  within [] log h e n there row = absurd (none_in e there)
  within (x ∷ past) log h e n there row =
      let less = grown past h.0 h.1 in let long = both past h.0 log x h.2 in
      elim (head_or_tail x e past there) [
        | inl is ↦ let w = new_row past h.0 log x h.2 n
            (subst (λ y. Contains (added (entry_record y)) n) (sym is) row) in
            (omega (arith, less, w.0), omega (arith, w.1))
        | inr k ↦ let w = within past h.0 h.1 e n k row in
            (w.0, omega (arith, long, w.1))
      ]

  older : (x : Entry) (past : List Entry) (log : List Row) (h : IsHistory o (x ∷ past) log)
      (y : Entry) (n : ℕ) → Contains past y → Contains (added (entry_record y)) n
      → Contains (added (entry_record x)) n → ⊥
  older x past log h y n k a b =
      let w = (within past h.0 h.1 y n k a).1 in
      let lt = (new_row past h.0 log x h.2 n b).0 in
      omega (arith, w, lt)

  pub once : (past : List Entry) (log : List Row) → IsHistory o past log → (e f : Entry) (n : ℕ)
      → Contains past e → Contains (added (entry_record e)) n
      → Contains past f → Contains (added (entry_record f)) n → e.pass ≡ f.pass
  once [] log h e f n there row also too = absurd (none_in e there)
  once (x ∷ past) log h e f n there row also too = elim (head_or_tail x e past there) [
    | inl is ↦ elim (head_or_tail x f past also) [
      | inl same ↦ ap (λ (y : Entry). y.pass) (sym is ∙ same)
      | inr k ↦ absurd (older x past log h f n k too
          (subst (λ y. Contains (added (entry_record y)) n) (sym is) row))
    ]
    | inr j ↦ elim (head_or_tail x f past also) [
      | inl same ↦ absurd (older x past log h e n j row
          (subst (λ y. Contains (added (entry_record y)) n) (sym same) too))
      | inr k ↦ once past h.0 h.1 e f n j row k too
    ]
  ]

  abbrev IsFound : List Entry → ℕ → Type 0
  IsFound past n = (e : Entry) × Contains past e × Contains (added (entry_record e)) n

  -- a row of before, or the new one
  found : (past : List Entry) (old log : List Row) (x : Entry) → IsLawful o past old log x
      → (n : ℕ) → n ≤ length log → (n ≤ length old → IsFound past n) → (b : Bool)
      → nat_le n (length old) ≡ b → IsFound (x ∷ past) n
  found past old log x h n le more true small =
      let m = more (leb-true n (length old) small) in (m.0, in_tail x m.0 past m.1, m.2)
  found past old log x h n le more false big =
      let long = both past old log x h in
      let few = few_rows h.row in
      let above : length old < n = leb-false n (length old) big in
      let is : x.after ≡ n = omega (arith, long, few, above, le, h.after) in
      let grew : x.before < x.after = omega (arith, is, above, h.before) in (
        x,
        head_is x x past refl,
        subst (Contains (added (entry_record x))) is (to_added (entry_record x) grew),
      )

  pub every : (past : List Entry) (log : List Row) → IsHistory o past log → (n : ℕ)
      → length o.log < n → n ≤ length log
      → (e : Entry) × Contains past e × Contains (added (entry_record e)) n
  every [] log h n lt le = absurd (let same = ap length h in omega (arith, same, lt, le))
  every (x ∷ past) log h n lt le =
      found past h.0 log x h.2 n le (λ small. every past h.0 h.1 n lt small)
      (nat_le n (length h.0)) refl

-- ---- the rows of a pass

pub own_has : (past : List Entry) (e : Entry) → Contains past e → Contains (own e.pass past) e
own_has past e there = to_filter (λ x. nat_eq x.pass e.pass) past e (eq-eqb e.pass e.pass refl) there

module _ (past : List Entry) (log : List Row) (count : ℕ) (seen : Seen)
    (known : IsKnown past log count seen) (n : ℕ) where
  pub by_pass : Contains (row_numbers (own seen.number seen.past)) n
      → (e : Entry) × Contains past e × (e.pass ≡ seen.number)
      × Contains (added (entry_record e)) n
  by_pass h =
      let m = in_rows (own seen.number past) n
      (subst (λ es. Contains (row_numbers es) n) (sym known.mine) h) in
      let f = in_filter (λ e. nat_eq e.pass seen.number) past m.0 m.1 in
      (m.0, f.1, eqb-true m.0.pass seen.number f.0, m.2)

  pub of_pass : (e : Entry) → Contains past e → e.pass ≡ seen.number
      → Contains (added (entry_record e)) n
      → Contains (row_numbers (own seen.number seen.past)) n
  of_pass e there is row =
      subst (λ es. Contains (row_numbers es) n) known.mine
      (to_rows (own seen.number past) e n
      (to_filter (λ x. nat_eq x.pass seen.number) past e (eq-eqb e.pass seen.number is) there) row)
