-- What a sequence comes to, told from its cursor on.
use Rattle.std.proofs.Common.{◌≡◌, ℕ, ◌<◌, ◌≤◌, Bool, true, false, Option, Some, None, option_and_then, List, [], ◌∷◌, length, get_or, drop, zero, suc, ap, ◌∙◌, arith, refl}
use Rattle.rb_marks.specs.View.{Branch, branches_of}
use Rattle.rb_marks.specs.Results.{steps_result, step_result, after}
use Rattle.rb_marks.specs.First.{next_in_steps, or_later}
use Rattle.rb_marks.specs.declared.mark.StepResult.{StepResult}
use Rattle.rb_marks.specs.declared.mark.StepResult.TheVariants.{Undone, Good, Bad}
use Rattle.rb_flow.specs.Cursors.{goes_on, passed}

result_behind : (s : StepResult) (keepgoing bad now : Bool) (rest : Bool → StepResult)
    → goes_on s keepgoing bad ≡ Some now → after s keepgoing (rest bad) (rest true) ≡ rest now
result_behind Undone keepgoing bad now rest e = absurd (cc)
result_behind Good keepgoing bad now rest e = ap rest (let same : Some bad ≡ Some now = e in cc)
result_behind Bad true bad now rest e = ap rest (let same : Some true ≡ Some now = e in cc)
result_behind Bad false bad now rest e = absurd (let none : None ≡ Some now = e in cc)

next_behind : (s : StepResult) (keepgoing bad now : Bool) (here later : Option ℕ)
    → goes_on s keepgoing bad ≡ Some now → or_later s keepgoing here later ≡ later
next_behind Undone keepgoing bad now here later e = absurd (cc)
next_behind Good keepgoing bad now here later e = refl
next_behind Bad true bad now here later e = refl
next_behind Bad false bad now here later e = absurd (let none : None ≡ Some now = e in cc)

-- the first step was passed
pub passed_first : {X : Type 0} (f : Bool → Option X) (o : Option Bool) (x : X)
    → option_and_then f o ≡ Some x → (b : Bool) × (o ≡ Some b) × (f b ≡ Some x)
passed_first f None x e = absurd (cc)
passed_first f (Some b) x e = (b, refl, e)

pub result_from : (command : ℕ → StepResult) (keepgoing bad now : Bool) (steps : List Branch)
    (at : ℕ) → passed command keepgoing bad steps at ≡ Some now
    → steps_result command keepgoing bad (branches_of steps)
    ≡ steps_result command keepgoing now (branches_of (drop at steps))
result_from command keepgoing bad now [] zero e =
    ap (λ b. steps_result command keepgoing b (branches_of []))
    (let same : Some bad ≡ Some now = e in cc)
result_from command keepgoing bad now [] (suc n) e =
    absurd (let none : None ≡ Some now = e in cc)
result_from command keepgoing bad now (b ∷ bs) zero e =
    ap (λ x. steps_result command keepgoing x (branches_of (b ∷ bs)))
    (let same : Some bad ≡ Some now = e in cc)
result_from command keepgoing bad now (b ∷ bs) (suc n) e =
    let s = step_result command keepgoing b.0 b.1 b.2 in
    let first = passed_first (λ was. passed command keepgoing was bs n) (goes_on s keepgoing bad) now e
    in
    result_behind s keepgoing bad first.0
    (λ x. steps_result command keepgoing x (branches_of bs)) first.1
    ∙ result_from command keepgoing first.0 now bs n first.2

pub next_from : (command : ℕ → StepResult) (keepgoing bad now : Bool) (steps : List Branch)
    (at : ℕ) → passed command keepgoing bad steps at ≡ Some now
    → next_in_steps command keepgoing (branches_of steps)
    ≡ next_in_steps command keepgoing (branches_of (drop at steps))
next_from command keepgoing bad now [] zero e = refl
next_from command keepgoing bad now [] (suc n) e =
    absurd (let none : None ≡ Some now = e in cc)
next_from command keepgoing bad now (b ∷ bs) zero e = refl
next_from command keepgoing bad now (b ∷ bs) (suc n) e =
    let s = step_result command keepgoing b.0 b.1 b.2 in
    let first = passed_first (λ was. passed command keepgoing was bs n) (goes_on s keepgoing bad) now e
    in
    next_behind s keepgoing bad first.0 _ (next_in_steps command keepgoing (branches_of bs)) first.1
    ∙ next_from command keepgoing first.0 now bs n first.2

-- a cursor stands in the sequence or at its end
pub passed_within : (command : ℕ → StepResult) (keepgoing bad now : Bool) (steps : List Branch)
    (at : ℕ) → passed command keepgoing bad steps at ≡ Some now → at ≤ length steps
passed_within command keepgoing bad now [] zero e = omega arith
passed_within command keepgoing bad now [] (suc n) e =
    absurd (let none : None ≡ Some now = e in cc)
passed_within command keepgoing bad now (b ∷ bs) zero e = omega arith
passed_within command keepgoing bad now (b ∷ bs) (suc n) e =
    let s = step_result command keepgoing b.0 b.1 b.2 in
    let first = passed_first (λ was. passed command keepgoing was bs n) (goes_on s keepgoing bad) now e
    in
    let r = passed_within command keepgoing first.0 now bs n first.2 in omega (arith, r)

-- one more step is passed
pub passed_more : (command : ℕ → StepResult) (keepgoing bad now later : Bool) (steps : List Branch)
    (at : ℕ) (b : Branch) → passed command keepgoing bad steps at ≡ Some now → at < length steps
    → get_or steps at b ≡ b
    → goes_on (step_result command keepgoing b.0 b.1 b.2) keepgoing now ≡ Some later
    → passed command keepgoing bad steps (suc at) ≡ Some later
passed_more command keepgoing bad now later [] at b e h is g = absurd (omega (arith, h))
passed_more command keepgoing bad now later (x ∷ xs) zero b e h is g =
    let same : bad ≡ now = (let it : Some bad ≡ Some now = e in cc) in
    ap (λ y. option_and_then (λ was. passed command keepgoing was xs zero)
    (goes_on (step_result command keepgoing y.0 y.1 y.2) keepgoing bad)) is
    ∙ ap (λ y. option_and_then (λ was. passed command keepgoing was xs zero)
    (goes_on (step_result command keepgoing b.0 b.1 b.2) keepgoing y)) same
    ∙ ap (option_and_then (λ was. passed command keepgoing was xs zero)) g
passed_more command keepgoing bad now later (x ∷ xs) (suc n) b e h is g =
    let s = step_result command keepgoing x.0 x.1 x.2 in
    let first = passed_first (λ was. passed command keepgoing was xs n) (goes_on s keepgoing bad) now e
    in
    ap (option_and_then (λ was. passed command keepgoing was xs (suc n))) first.1
    ∙ passed_more command keepgoing first.0 now later xs n b first.2 (omega (arith, h)) is g
