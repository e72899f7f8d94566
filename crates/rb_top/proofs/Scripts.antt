-- Scripts, line by line.
use Rattle.std.proofs.Common.{◌≡◌, ◌≤◌, ℕ, ◌^◌, List, [], ◌∷◌, ◌++◌, length, map, ltb, refl, ap, sym, ◌∙◌, subst, Bor}
use Rattle.std.proofs.lemmas.Bool.{cond-false, le-ltb}
use Rattle.std.specs.List.{slice_split}
use Rattle.rb_causes.specs.Texts.{is_line_feed}
use Rattle.rb_top.specs.Lines.{read_line, read_lines}
use Rattle.rb_top.specs.Names.{HasNames, HasPlaces, ids_of}
use Rattle.rb_top.specs.Reading.{with_step, with_line, script_after, script_of, empty_script}
use Rattle.rb_top.specs.declared.names.Names.{Names}
use Rattle.rb_top.specs.declared.script.DrillJob.{DrillJob}
use Rattle.rb_top.specs.declared.script.DrillLine.TheVariants.{Step}
use Rattle.rb_top.specs.declared.script.Script.{Script}

-- a step is added to the job at the end
with_step-push : (js : List DrillJob) (j : DrillJob) (words : List (List ℕ)) → with_step (js ++ j ∷ []) words ≡ js ++ record j { steps = j.steps ++ words ∷ [] } ∷ []
with_step-push [] j words = refl
with_step-push (x ∷ []) j words = refl
with_step-push (x ∷ y ∷ js) j words = ap (λ rest. x ∷ rest) (with_step-push (y ∷ js) j words)

pub step_added : (old mid new : List DrillJob) (steps : List (List (List ℕ))) (words : List (List ℕ)) (j : DrillJob) →
    old ≡ mid ++ j ∷ [] → steps ≡ j.steps ++ words ∷ [] → new ≡ mid ++ record j { steps = steps } ∷ [] → new ≡ with_step old words
step_added old mid new steps words j last added pushed =
    pushed ∙ ap (λ s. mid ++ record j { steps = s } ∷ []) added ∙ sym (ap (λ js. with_step js words) last ∙ with_step-push mid j words)

-- and no id changes
pub ids-with_step : (jobs : List DrillJob) (words : List (List ℕ)) → ids_of (with_step jobs words) ≡ ids_of jobs
ids-with_step [] words = refl
ids-with_step (j ∷ []) words = refl
ids-with_step (j ∷ k ∷ js) words = ap (λ ids. j.id ∷ ids) (ids-with_step (k ∷ js) words)

-- so a step brings no name
pub step_named : (names : Names) (s : Script) (words : List (List ℕ)) → HasNames names s → HasNames names (with_line s (Step words))
step_named names s words has = record {
  nodes = has.nodes;
  jobs = subst (HasPlaces names.jobs) (sym (ids-with_step s.jobs words)) has.jobs;
}

-- a file that is not too large says what its lines make of nothing
pub small_file : (bytes : List ℕ) → length bytes ≤ 2 ^ 20 → script_of bytes ≡ script_after empty_script 1 (read_lines bytes)
small_file bytes small = cond-false (ltb (2 ^ 20) (length bytes)) _ _ (le-ltb (2 ^ 20) (length bytes) small)

-- where no line was read yet
pub lines_to_read : (bytes : List ℕ) (lines : List (Bor (List ℕ))) (script : Script) → length bytes ≤ 2 ^ 20 → map (λ line. line.now) lines ≡ slice_split is_line_feed bytes → script ≡ empty_script →
    script_after script 1 (map read_line (map (λ line. line.now) lines)) ≡ script_of bytes
lines_to_read bytes lines script small parted empty =
    ap (λ s. script_after s 1 (map read_line (map (λ line. line.now) lines))) empty
    ∙ ap (λ parts. script_after empty_script 1 (map read_line parts)) parted ∙ sym (small_file bytes small)
