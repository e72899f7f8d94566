-- A Begin and the End of it, in a legal log.
use Rattle.std.proofs.Common.{◌≡◌, ◌∙◌, ◌<◌, ◌≤◌, ℕ, zero, suc, ℤ, List, [], ◌∷◌, ◌++◌, take, drop, length, reverse, find, true, ◌⊎◌, inl, inr, nat_eq, Option, Some, None, option_map, option_to_list, slice_get, ap, sym, subst, refl, append_assoc}
use Rattle.std.specs.Option.{option_and_then}
use Rattle.std.proofs.Math.Seq.{take-append_seam}
use Rattle.std.proofs.lemmas.Bool.{eq-eqb, and_from}
use Rattle.std.proofs.lemmas.List.{length-take-le}
use Rattle.rb_causes.specs.declared.ending.Ending.{Ending}
use Rattle.rb_causes.specs.declared.row.Row.{Row}
use Rattle.rb_causes.specs.declared.spawner.SpawnRun.{SpawnRun}
use Rattle.rb_marks.specs.First.{first_startable}
use Rattle.rb_marks.specs.declared.mark.Leaf.{Leaf}
use Rattle.rb_log.specs.Rows.{begin_row, end_row, ending_of, ending_number}
use Rattle.rb_log.specs.Tasks.{is_ending}
use Rattle.rb_log.specs.Executions.{Execution, executions}
use Rattle.rb_log.specs.Claims.{execution_words, leaf_number_in}
use Rattle.rb_log.specs.Programs.{is_end_of, is_begun_by, program_at, program_if, program_of, run_begun}
use Rattle.rb_log.specs.Legal.{IsLegalLog}
use Rattle.rb_work.specs.PumpLaws.{PumpLaws}
use Rattle.rb_work.specs.Works.{row_at}
use Rattle.rb_work.proofs.Lists.{IsAt, drop_seam, find_last, get_seam, get_stays, less_one, newest, none_or_at, one_more, reverse_seam}
use Rattle.rb_log.proofs.EndLaws.{found_at}
use Rattle.rb_log.proofs.ReportLaws.{ending_kept}

same_true : (n : ℕ) → nat_eq n n ≡ true
same_true n = eq-eqb n n refl

-- what a Begin runs where this row is the first End of its leaf
abbrev run_by : Row → Option Execution → Option Row → List SpawnRun
run_by begin e found =
    option_to_list
    (option_and_then (λ e. run_begun begin e (option_map (λ row. ending_of row.c) found)) e)

abbrev run_as : List (List ℕ) → Ending → List SpawnRun
run_as words x = record { words = words; ending = x } ∷ []

-- the row of a log's own length is its last
pub last_at : (log : List Row) (row : Row) → row_at (log ++ row ∷ []) (suc (length log)) ≡ Some row
last_at log row = get_seam log [] row

pub row_stays : (log more : List Row) (n : ℕ) (row : Row) → row_at log n ≡ Some row
    → row_at (log ++ more) n ≡ Some row
row_stays log more zero row h = h
row_stays log more (suc n) row h = get_stays log more n row h

-- the row behind those that there were is the last
pub newest_at : (before : ℕ) (log : List Row) (row : Row) → before ≤ length log
    → log ≡ take before log ++ row ∷ [] → row_at log (length log) ≡ Some row
newest_at before log row within is =
    let past : List Row = take before log in
    ap (λ n. row_at log n)
    (one_more before log row within is ∙ sym (ap suc (length-take-le before log within)))
    ∙ ap (λ rows. row_at rows (suc (length past))) is
    ∙ last_at past row

module _ (laws : PumpLaws) (past mid : List Row) (now later : ℤ) (worker place : ℕ)
    (e : Execution) (leaf : Leaf) (ending : Ending)
    (there : slice_get (executions (reverse past)) place ≡ Some e)
    (first : first_startable e.accepted.plan e.marks ≡ Some leaf)
    (is : is_ending ending ≡ true) where
  abbrev pub begin : Row
  begin = begin_row now e.number (leaf_number_in e leaf) worker

  abbrev pub end : Row
  end = end_row later e.number (leaf_number_in e leaf) ending

  abbrev pub whole : List Row
  whole = past ++ begin ∷ (mid ++ end ∷ [])

  newest_first : reverse whole ≡ end ∷ (reverse mid ++ begin ∷ reverse past)
  newest_first =
      reverse_seam past (mid ++ end ∷ []) begin
      ∙ ap (λ rows. rows ++ begin ∷ reverse past) (newest mid end)

  pub begun : is_begun_by worker begin ≡ true
  begun = same_true worker

  pub ended_by : is_end_of begin end ≡ true
  ended_by =
      and_from (nat_eq e.number e.number) (nat_eq (leaf_number_in e leaf) (leaf_number_in e leaf))
      (same_true e.number) (same_true (leaf_number_in e leaf))

  module _ (legal : IsLegalLog (reverse whole)) where
    parted : IsLegalLog (end ∷ (reverse mid ++ begin ∷ reverse past))
    parted = subst IsLegalLog newest_first legal

    past_legal : IsLegalLog (reverse past)
    past_legal =
        let behind : IsLegalLog (begin ∷ reverse past) =
        laws.beginnings (end ∷ reverse mid) (begin ∷ reverse past) parted in
        behind.0

    slot : leaf.slot < e.accepted.plan.slots
    slot =
        laws.slots e.accepted.plan e.marks leaf
        (laws.plans (reverse past) place e past_legal there) first

    -- no leaf ends twice, so that none of the rows between is an End of this one
    twice : IsAt (is_end_of begin) mid → ⊥
    twice h =
        laws.ends [] (reverse h.behind) (reverse h.before ++ begin ∷ reverse past) end h.item
        (subst (λ rows. IsLegalLog (end ∷ rows))
        (ap (λ rows. rows ++ begin ∷ reverse past)
        (ap reverse h.all ∙ reverse_seam h.before h.behind h.item)
        ∙ append_assoc (reverse h.behind) (h.item ∷ reverse h.before) (begin ∷ reverse past))
        parted)
        refl h.passes

    found : find (is_end_of begin) (mid ++ end ∷ []) ≡ Some end
    found = find_last (is_end_of begin) mid end ended_by (none (none_or_at (is_end_of begin) mid))
      where
        none : (find (is_end_of begin) mid ≡ None) ⊎ IsAt (is_end_of begin) mid
            → find (is_end_of begin) mid ≡ None
        none (inl h) = h
        none (inr h) = absurd (twice h)

    -- the program of the Begin is the leaf's words, with the ending of the End
    pub program : program_at whole (suc (length past))
        ≡ record { words = execution_words e leaf; ending = ending } ∷ []
    program =
        ap (λ n. program_if whole (suc (length past)) (slice_get whole n))
        (less_one (length past))
        ∙ ap (λ row. program_if whole (suc (length past)) row)
        (get_seam past (mid ++ end ∷ []) begin)
        ∙ ap (λ n. option_to_list
        (program_of (reverse (take n whole)) begin (drop (suc (length past)) whole)))
        (less_one (length past))
        ∙ ap (λ rows.
        option_to_list (program_of (reverse rows) begin (drop (suc (length past)) whole)))
        (take-append_seam past (begin ∷ (mid ++ end ∷ [])))
        ∙ ap (λ rows. option_to_list (program_of (reverse past) begin rows))
        (drop_seam past (mid ++ end ∷ []) begin)
        ∙ ap (λ o. run_by begin o (find (is_end_of begin) (mid ++ end ∷ [])))
        (found_at (reverse past) place e there)
        ∙ ap (λ row. run_by begin (Some e) row) found
        ∙ ap (λ (l : Leaf). run_as (execution_words e l) (ending_of (ending_number ending)))
        (laws.kept e.accepted.plan.slots leaf slot)
        ∙ ap (λ x. run_as (execution_words e leaf) x) (ending_kept ending is)
