-- From what stands between two points of a play to its transcript.
use Rattle.std.proofs.Common.{◌≡◌, ◌<◌, ℕ, ◌+◌, true, arith, length-append, List, [], ◌∷◌, ◌++◌, length, take, map, refl, ap, sym, ◌∙◌, subst, append_assoc}
use Rattle.std.proofs.Math.Seq.{take-append-add}
use Rattle.std.proofs.lemmas.List.{take-append-le}
use Rattle.rb_causes.specs.Sinks.{IsProperPrefixOf}
use Rattle.rb_causes.specs.declared.spawner.SpawnRun.{SpawnRun}
use Rattle.rb_causes.proofs.Written.{proper_behind}
use Rattle.rb_top.specs.Outcome.{endings_of, IsPrefixOf}
use Rattle.rb_top.specs.Play.{Play, Over, Print, Run, Start, transcript}
use Rattle.rb_top.specs.Played.{Plays, Breaks, stays, prints, runs, cuts}

abbrev words_of_starts : List Start → List (List (List ℕ))
words_of_starts = map (λ a. a.words)

abbrev words_of_runs : List SpawnRun → List (List (List ℕ))
words_of_runs = map (λ r. r.words)

both_parts : {X : Type 0} {x y : X} {xs ys : List X} → x ≡ y → xs ≡ ys → x ∷ xs ≡ y ∷ ys
both_parts {x = x} {ys = ys} first rest = ap (λ zs. x ∷ zs) rest ∙ ap (λ z. z ∷ ys) first

-- without an ending nothing is started
nothing_started : (p : Play) → (transcript p []).started ≡ []
nothing_started Over = refl
nothing_started (Print text p) = nothing_started p
nothing_started (Run start next) = refl

-- what was run and printed on the way to the end is the transcript
pub plays_started : {p : Play} {gain : List SpawnRun} {text : List ℕ} → Plays p gain text Over → words_of_runs gain ≡ words_of_starts (transcript p (endings_of gain)).started
plays_started stays = refl
plays_started (prints e rest) = plays_started rest
plays_started (runs words rest) = both_parts words (plays_started rest)

pub plays_text : {p : Play} {gain : List SpawnRun} {text : List ℕ} → Plays p gain text Over → text ≡ (transcript p (endings_of gain)).text
plays_text stays = refl
plays_text (prints {text = text} e rest) = e ∙ ap (λ more. text ++ more) (plays_text rest)
plays_text (runs words rest) = plays_text rest

pub plays_enough : {p : Play} {gain : List SpawnRun} {text : List ℕ} → Plays p gain text Over → (transcript p (endings_of gain)).enough ≡ true
plays_enough stays = refl
plays_enough (prints e rest) = plays_enough rest
plays_enough (runs words rest) = plays_enough rest

-- what was run until it was broken off is what the transcript starts
pub breaks_started : {p : Play} {gain : List SpawnRun} {text : List ℕ} → Breaks p gain text → words_of_runs gain ≡ words_of_starts (transcript p (endings_of gain)).started
breaks_started (cuts {p = p} n short e) = ap words_of_starts (sym (nothing_started p))
breaks_started (prints e rest) = breaks_started rest
breaks_started (runs words rest) = both_parts words (breaks_started rest)

front_append : (text more whole : List ℕ) → IsPrefixOf more whole → IsPrefixOf (text ++ more) (text ++ whole)
front_append text more whole (n, e) = (length text + n, ap (λ m. text ++ m) e ∙ sym (take-append-add text whole n))

proper_front : (text behind : List ℕ) (n : ℕ) → n < length text → IsProperPrefixOf (take n text) (text ++ behind)
proper_front text behind n short =
    (n, omega (arith, short, length-append text behind), sym (take-append-le n text behind (omega (arith, short))))

-- and what was printed is a proper prefix of its text
pub breaks_front : {p : Play} {gain : List SpawnRun} {text : List ℕ} → Breaks p gain text → IsProperPrefixOf text (transcript p (endings_of gain)).text
breaks_front (cuts {p = p} {text = text} n short e) =
    subst (λ front. IsProperPrefixOf front (text ++ (transcript p []).text)) (sym e) (proper_front text (transcript p []).text n short)
breaks_front (prints {p = p} {gain = gain} {text = text} {more = more} e rest) =
    subst (λ whole. IsProperPrefixOf whole (text ++ (transcript p (endings_of gain)).text)) (sym e) (proper_behind text more (transcript p (endings_of gain)).text (breaks_front rest))
breaks_front (runs words rest) = breaks_front rest

none_is_last : {X : Type 0} (so_far : List X) (last : X) → [] ≡ so_far ++ last ∷ [] → ⊥
none_is_last [] last e = cc
none_is_last (x ∷ xs) last e = cc

-- the text up to the last program's ending was printed before that program was run
pub breaks_ordered : {p : Play} {gain : List SpawnRun} {text : List ℕ} → Breaks p gain text → (so_far : List SpawnRun) (last : SpawnRun) → gain ≡ so_far ++ last ∷ []
    → IsPrefixOf (transcript p (endings_of so_far)).text text
breaks_ordered (cuts n short cut) so_far last e = absurd (none_is_last so_far last e)
breaks_ordered (prints {p = p} {text = text} {more = more} whole rest) so_far last e =
    subst (λ w. IsPrefixOf (text ++ (transcript p (endings_of so_far)).text) w) (sym whole) (front_append text (transcript p (endings_of so_far)).text more (breaks_ordered rest so_far last e))
breaks_ordered (runs words rest) [] last e = (0, refl)
breaks_ordered (runs {next = next} {run = run} {text = text} words rest) (r ∷ rs) last e =
    let same : run ≡ r = cc in
    subst (λ x. IsPrefixOf (transcript (next x.ending) (endings_of rs)).text text) same (breaks_ordered rest rs last (cc))

-- one stretch behind the other
pub plays_then : {p q r : Play} {gain gain' : List SpawnRun} {text text' : List ℕ} → Plays p gain text q → Plays q gain' text' r → Plays p (gain ++ gain') (text ++ text') r
plays_then stays later = later
plays_then {text' = text'} (prints {text = text} {more = more} e rest) later = prints (ap (λ w. w ++ text') e ∙ append_assoc text more text') (plays_then rest later)
plays_then (runs words rest) later = runs words (plays_then rest later)

pub plays_break : {p q : Play} {gain gain' : List SpawnRun} {text text' : List ℕ} → Plays p gain text q → Breaks q gain' text' → Breaks p (gain ++ gain') (text ++ text')
plays_break stays later = later
plays_break {text' = text'} (prints {text = text} {more = more} e rest) later = prints (ap (λ w. w ++ text') e ∙ append_assoc text more text') (plays_break rest later)
plays_break (runs words rest) later = runs words (plays_break rest later)
