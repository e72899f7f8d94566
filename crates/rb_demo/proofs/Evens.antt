-- The nodes on which ann may run, counted one after another.
use Rattle.std.proofs.Common.{◌≡◌, ◌∙◌, ◌≤◌, ◌+◌, ℕ, zero, suc, [], ◌∷◌, ◌++◌, length, filter, Bool, ap, sym, arith, add-one, append-nil, length-append}
use Rattle.std.proofs.lemmas.List.{length-map}
use Rattle.std.proofs.lemmas.List.Elements.{filter-append}
use Rattle.rb_causes.specs.Numbers.{numbers_from}
use Rattle.rb_plan.specs.Targets.{runnable}
use Rattle.rb_plan.specs.Access.{node_run}
use Rattle.rb_log.specs.LogState.{log_state, world_of}
use Rattle.rb_demo.specs.Numbers.{draw_at, is_even}
use Rattle.rb_demo.specs.Read.{demo_node}
use Rattle.rb_demo.specs.Rights.{EvenAreRunnable, even_numbers, demo_nodes, ann_in}
use Rattle.rb_demo.specs.Settings.{WorldIsDemo, jobs_log, policy_file}
use Rattle.rb_demo.specs.Rounds.{setting_of}
use Rattle.rb_demo.specs.Counting.{allowed_in}
use Rattle.rb_demo.proofs.Counted.{bit, passing}
use Rattle.rb_demo.proofs.ImportedAll.{is_setting}

numbers_more : (first n : ℕ) → numbers_from first (suc n) ≡ numbers_from first n ++ (first + n) ∷ []
numbers_more first zero =
    let e : first ≡ first + zero = omega arith in ap (λ x. x ∷ []) e
numbers_more first (suc n) =
    let e : (first + 1) + n ≡ first + suc n = omega arith in
    ap (λ xs. first ∷ xs) (numbers_more (first + 1) n)
    ∙ ap (λ x. first ∷ numbers_from (first + 1) n ++ x ∷ []) e

pub even_more : (before draw even : ℕ) → draw ≡ draw_at (before + 1)
    → even ≡ length (even_numbers before)
    → even + bit (is_even draw) ≡ length (even_numbers (before + 1))
even_more before draw even d e =
    let p : ℕ → Bool = λ number. is_even (draw_at number) in
    let next : before + 1 ≡ 1 + before = omega arith in
    let behind = passing p (before + 1) (p (before + 1)) (λ i. p (before + 1)) in
    let all : numbers_from 1 (before + 1) ≡ numbers_from 1 before ++ (before + 1) ∷ [] =
    ap (numbers_from 1) (add-one before) ∙ numbers_more 1 before
    ∙ ap (λ x. numbers_from 1 before ++ x ∷ []) (sym next) in
    let split : length (filter p (numbers_from 1 (before + 1)))
    ≡ length (filter p (numbers_from 1 before)) + length (filter p ((before + 1) ∷ [])) =
    ap (λ xs. length (filter p xs)) all
    ∙ ap length (filter-append p (numbers_from 1 before) ((before + 1) ∷ []))
    ∙ length-append (filter p (numbers_from 1 before)) (filter p ((before + 1) ∷ [])) in
    (λ i. e i + bit (is_even (d i)))
    ∙ sym (split ∙ ap (λ k. length (filter p (numbers_from 1 before)) + k) behind)

-- ---- by the world

pub allowed_are_even : WorldIsDemo → EvenAreRunnable → (n : ℕ) → 1 ≤ n → n ≤ 1000
    → allowed_in (world_of (log_state (jobs_log (setting_of n)))) ≡ length (even_numbers n)
allowed_are_even world even n some few =
    ap allowed_in (world (setting_of n) (is_setting n some few))
    ∙ ap length (append-nil (runnable (node_run (ann_in [] policy_file)) (demo_nodes n)))
    ∙ ap length (even n [] policy_file).0
    ∙ length-map (even_numbers n) demo_node
