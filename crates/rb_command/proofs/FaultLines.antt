-- Fault lines, piece by piece.
use Rattle.std.proofs.Common.{◌≡◌, ◌⊎◌, ◌<◌, ◌≤◌, ◌+◌, ℕ, Option, List, [], ◌∷◌, ◌++◌, length, refl, sym, ◌∙◌, subst, Result, Ok, Err, append_assoc, append-nil, inl, inr, map, drop, get_or, Bor}
use Rattle.std.proofs.lemmas.List.{at_drop_more, at_drop_all}
use Rattle.std.specs.List.{concat}
use Rattle.rb_causes.specs.Sinks.{SinkState, Wrote, Cut, Writes, StopsAtFault}
use Rattle.rb_causes.specs.declared.trouble.Trouble.{Trouble}
use Rattle.rb_causes.proofs.Written.{wrote_nothing, wrote_then, wrote_as, cut_then, cut_as, cut_front, stops_wrote, stops_stopped}
use Rattle.rb_causes.specs.declared.shelf.File.{File}
use Rattle.rb_command.specs.Told.{Tells, IsNotFetched}

-- of all pieces these are left, and what comes before them was written
pub record Told (all left : List (List ℕ)) (s s' : SinkState) : Type 0 where
  pub done : List ℕ
  pub wrote : Wrote done s s'
  pub whole : done ++ concat left ≡ concat all

pub told_nothing : (all : List (List ℕ)) (s : SinkState) → Told all all s s
told_nothing all s = record { done = []; wrote = wrote_nothing s; whole = refl }

pub told_more : {all : List (List ℕ)} (piece : List ℕ) (left : List (List ℕ)) {s0 s1 s2 : SinkState} → Told all (piece ∷ left) s0 s1 → Wrote piece s1 s2 → Told all left s0 s2
told_more piece left told wrote = record {
  done = told.done ++ piece;
  wrote = wrote_then told.wrote wrote;
  whole = append_assoc told.done piece (concat left) ∙ told.whole;
}

-- all of it
pub told_all : {all : List (List ℕ)} {s s' : SinkState} → Told all [] s s' → Wrote (concat all) s s'
told_all told = wrote_as (sym (append-nil told.done) ∙ told.whole) told.wrote

pub told_cut : {all : List (List ℕ)} (piece : List ℕ) (left : List (List ℕ)) {s0 s1 s2 : SinkState} (trouble : Trouble) → Told all (piece ∷ left) s0 s1 → Cut trouble piece s1 s2
    → Cut trouble (concat all) s0 s2
told_cut piece left trouble told cut = cut_as trouble told.whole (cut_then trouble told.wrote (cut_front (concat left) cut))

-- the piece in whose turn it is
pub at_piece : {s s' : SinkState} {all : List (List ℕ)} (pieces : List (Bor (List ℕ))) (i : ℕ) (d : Bor (List ℕ)) → i < length pieces
    → Told all (map (λ p. p.now) (drop i pieces)) s s' → Told all ((get_or pieces i d).now ∷ map (λ p. p.now) (drop (i + 1) pieces)) s s'
at_piece {s} {s'} {all} pieces i d within told = subst (λ left. Told all left s s') (at_drop_more (map (λ p. p.now)) pieces i d within) told

pub no_piece : {s s' : SinkState} {all : List (List ℕ)} (pieces : List (Bor (List ℕ))) (i : ℕ) → length pieces ≤ i
    → Told all (map (λ p. p.now) (drop i pieces)) s s' → Told all [] s s'
no_piece {s} {s'} {all} pieces i past told = subst (λ left. Told all left s s') (at_drop_all (map (λ p. p.now)) pieces i past) told

-- what was written of a line tells it
pub tells_written : {T : Type 0} {line : List ℕ} {s s' : SinkState} (result : Result T Trouble) → Writes line s s' result → Tells line s s'
tells_written (Ok done) wrote = record { told = inl wrote }
tells_written (Err trouble) cut = record { told = inr (trouble, cut) }

-- nothing is taken behind the first failed write of a line
pub stops_told : {line : List ℕ} {s s' : SinkState} → Tells line s s' → StopsAtFault s s'
stops_told {line} {s} {s'} tells = by_case tells.told
  where
    by_case : Wrote line s s' ⊎ ((trouble : Trouble) × Cut trouble line s s') → StopsAtFault s s'
    by_case (inl wrote) = stops_wrote wrote
    by_case (inr (trouble, cut)) = stops_stopped trouble cut.prefix s s' cut.stopped

pub stops_not_fetched : (files : Option (List File)) (name : List ℕ) (f f' : ℕ) {status : ℕ} {s s' : SinkState} → IsNotFetched files name f f' status s s' → StopsAtFault s s'
stops_not_fetched files name f f' (inl absent) = stops_told absent.2
stops_not_fetched files name f f' (inr (inl failed)) = stops_told failed.2
stops_not_fetched files name f f' (inr (inr memory)) = stops_told memory.1
