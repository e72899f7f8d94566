-- When jobs are due, as one project after another is changed.
use Rattle.std.specs.declared.alloc.Global.{Global}
use Rattle.std.proofs.Common.{◌≡◌, ◌∙◌, ◌<◌, ◌+◌, ℕ, zero, suc, ℤ, List, [], ◌∷◌, map, length, add-one, get_or, Option, Some, option_map, unwrap_or, Vec, slice_get, slice_set, ap, sym, refl, arith}
use Rattle.std.specs.Vec.{with_item}
use Rattle.std.proofs.lemmas.List.{length-map}
use Rattle.std.proofs.lemmas.Option.{slice_get-map, slice_get_read}
use Rattle.rb_plan.specs.declared.world.Project.{Project}
use Rattle.rb_tables.specs.Due.{project_nexts}
use Rattle.rb_changes.specs.Dues.{Dues, dues}
use Rattle.rb_changes.proofs.Stepping.{one_more, still_there, told_set, up_to}

-- something stands at each place
pub at_index : {A : Type 0} (xs : List A) (k : ℕ) → k < length xs
    → (x : A) × (slice_get xs k ≡ Some x)
at_index [] k low = absurd (omega (arith, low))
at_index (x ∷ xs) zero low = (x, refl)
at_index (x ∷ xs) (suc k) low = at_index xs k (omega (arith, low))

-- where it was changed, those up to there are
pub step_at : {A : Type 0} (f : A → A) (xs ys : List A) (k : ℕ) (x : A) (new : List A)
    → ys ≡ up_to f k xs → slice_get ys k ≡ Some x → new ≡ slice_set ys k (f x)
    → new ≡ up_to f (k + 1) xs
step_at f xs ys k x new is get set =
    let there : slice_get xs k ≡ Some x =
    sym (still_there f xs k) ∙ ap (λ zs. slice_get zs k) (sym is) ∙ get in
    set ∙ ap (λ zs. slice_set zs k (f x)) is ∙ one_more f xs k x there
    ∙ ap (λ n. up_to f n xs) (sym (add-one k))

abbrev pub items_of : Vec (Option ℤ) Global → List (Option ℤ)
items_of due = due.items

-- those of the project at a place
pub due_at : (all : Dues) (ps : List Project) (k : ℕ) (d : Vec (Option ℤ) Global) (p : Project)
    → dues all ≡ map project_nexts ps → k < length ps → d ≡ get_or all.items k d
    → p ≡ get_or ps k p → d.items ≡ project_nexts p
due_at all ps k d p is low read at =
    let few : k < length all.items =
    omega (arith, low, ap length is, length-map all.items items_of, length-map ps project_nexts) in
    let there : slice_get (dues all) k ≡ Some d.items =
    slice_get-map items_of all.items k
    ∙ ap (option_map items_of) (slice_get_read all.items (length all.items) k d refl few read) in
    let told : slice_get (dues all) k ≡ Some (project_nexts p) =
    ap (λ ds. slice_get ds k) is ∙ slice_get-map project_nexts ps k
    ∙ ap (option_map project_nexts) (slice_get_read ps (length ps) k p refl low at) in
    ap (λ o. unwrap_or o d.items) (sym there ∙ told)

-- they follow where they were told of the project that was put
pub dues_follow : (all : Dues) (ps : List Project) (k : ℕ) (d : Vec (Option ℤ) Global)
    (p : Project) → dues all ≡ map project_nexts ps → d.items ≡ project_nexts p
    → dues (with_item all k d) ≡ map project_nexts (slice_set ps k p)
dues_follow all ps k d p is told =
    sym (told_set items_of all.items k d)
    ∙ ap (slice_set (dues all) k) told
    ∙ ap (λ ds. slice_set ds k (project_nexts p)) is
    ∙ told_set project_nexts ps k p
