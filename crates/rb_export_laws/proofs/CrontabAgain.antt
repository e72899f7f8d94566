-- Fields that their crontab gives back.
use Rattle.std.proofs.Common.{◌≡◌, ◌∙◌, ℕ, Bool, true, false, cond, not, ◌||◌, List, [], ◌∷◌, ◌++◌, filter, Some, refl, ap}
use Rattle.std.specs.List.{list_any, AllByRecursion as Each}
use Rattle.rb_causes.specs.Signs.{space}
use Rattle.rb_causes.specs.Texts.{joined, onto_first, pieces, is_empty, is_trimmed_off}
use Rattle.rb_cron.specs.Crontab.{fields_in, with_year, fields_of}
use Rattle.rb_cron.specs.declared.fields.Fields.{Fields}
use Rattle.rb_export.specs.Jobs.{crontab_of}
use Rattle.rb_export_laws.specs.ReadJobs.{IsWord, field_texts}

or_none : (a b : Bool) → (a || b) ≡ false → (a ≡ false) × (b ≡ false)
or_none true b h = let never : ⊥ = cc in absurd never
or_none false b h = (refl, h)

one_piece : (p : ℕ → Bool) (w : List ℕ) → list_any p w ≡ false → pieces p w ≡ w ∷ []
one_piece p [] h = refl
one_piece p (c ∷ w) h =
    let parts = or_none (p c) (list_any p w) h in
    ap (λ b. cond b ([] ∷ pieces p w) (onto_first c (pieces p w))) parts.0
    ∙ ap (onto_first c) (one_piece p w parts.1)

piece_and_rest : (p : ℕ → Bool) (b : ℕ) (w rest : List ℕ) → p b ≡ true → list_any p w ≡ false
    → pieces p (w ++ b ∷ rest) ≡ w ∷ pieces p rest
piece_and_rest p b [] rest g h =
    ap (λ t. cond t ([] ∷ pieces p rest) (onto_first b (pieces p rest))) g
piece_and_rest p b (c ∷ w) rest g h =
    let parts = or_none (p c) (list_any p w) h in
    let more = pieces p (w ++ b ∷ rest) in
    ap (λ t. cond t ([] ∷ more) (onto_first c more)) parts.0
    ∙ ap (onto_first c) (piece_and_rest p b w rest g parts.1)

-- words that are joined at blanks are the pieces between these
words_parted : (w : List ℕ) (ws : List (List ℕ)) → Each IsWord (w ∷ ws)
    → pieces is_trimmed_off (joined space (w ∷ ws)) ≡ w ∷ ws
words_parted w [] h = one_piece is_trimmed_off w h.0.bare
words_parted w (v ∷ ws) h =
    piece_and_rest is_trimmed_off space w (joined space (v ∷ ws)) refl h.0.bare
    ∙ ap (λ vs. w ∷ vs) (words_parted v ws h.1)

words_kept : (ws : List (List ℕ)) → Each IsWord ws
    → filter (λ w. not (is_empty w)) ws ≡ ws
words_kept [] h = refl
words_kept (w ∷ ws) h =
    ap (λ b. cond (not b) (w ∷ filter (λ w. not (is_empty w)) ws)
    (filter (λ w. not (is_empty w)) ws)) h.0.some
    ∙ ap (λ vs. w ∷ vs) (words_kept ws h.1)

-- seven words are given back by the crontab that they make
pub crontab_back : (f : Fields) → Each IsWord (field_texts f) → fields_of (crontab_of f) ≡ Some f
crontab_back f h =
    ap (λ ws. fields_in (with_year (filter (λ w. not (is_empty w)) ws)))
    (words_parted f.seconds (f.minute ∷ f.hour ∷ f.day ∷ f.month ∷ f.weekday ∷ f.year ∷ []) h)
    ∙ ap (λ ws. fields_in (with_year ws)) (words_kept (field_texts f) h)
