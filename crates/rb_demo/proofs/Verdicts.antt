-- The verdicts of the demo: each rule of refusal computes, but for those that look at the nodes.
use Rattle.std.proofs.Common.{◌≡◌, ℕ, zero, suc, ◌+◌, ◌*◌, ◌≤◌, Bool, true, false, cond, List, [], ◌∷◌, map, filter, length, Option, None, Some, Err, codes, refl, ap, ◌∙◌, arith}
use Rattle.std.specs.Fmt.{digits}
use Rattle.std.specs.Option.{option_or}
use Rattle.std.specs.Ordering.{is_gt}
use Rattle.std.proofs.lemmas.List.{length-map}
use Rattle.std.proofs.lemmas.Bool.{le-leb}
use Rattle.rb_causes.specs.Causes.{unless}
use Rattle.rb_causes.specs.Numbers.{numbers_from}
use Rattle.rb_acl.specs.declared.policy.Decision.{Decision}
use Rattle.rb_acl.specs.declared.policy.Decision.TheVariants.{NoneAllows}
use Rattle.rb_node.specs.declared.node.Node.{Node}
use Rattle.rb_job.specs.declared.job.Job.{Job}
use Rattle.rb_marks.specs.declared.plan.Strategy.{Strategy}
use Rattle.rb_marks.specs.declared.plan.Strategy.TheVariants.{NodeFirst, Sequential, Parallel}
use Rattle.rb_orch.specs.Ranking.{ranked, ranked_in, rank_cmp}
use Rattle.rb_plan.specs.Targets.{runnable}
use Rattle.rb_plan.specs.Verdict.{accepted_of, verdict_of, rules, first_refusal, runnable_of}
use Rattle.rb_plan.specs.Access.{node_run}
use Rattle.rb_plan.specs.Refusals.{none_selected, none_allowed, too_large}
use Rattle.rb_plan.specs.declared.refusal.Refusal.{Refusal}
use Rattle.rb_plan.specs.declared.refusal.Refusal.TheVariants.{NoNodeAllowed}
use Rattle.rb_demo.specs.Numbers.{is_even, draw_at}
use Rattle.rb_demo.specs.Read.{demo_node, demo_job}
use Rattle.rb_demo.specs.Rights.{ann_in, bob_in, demo_nodes, even_numbers}
use Rattle.rb_demo.specs.Settings.{Setting, IsSetting, policy_file, demo_world}
use Rattle.rb_demo.specs.Verdicts.{user_in, ask_for, asked_in, IsAcceptedIn, AnnIsAccepted, BobIsRefused}
use Rattle.rb_demo.proofs.AllChosen.{all_chosen}
use Rattle.rb_demo.proofs.RightsGiven.{even_runnable}

length_in : (node : Node) (nodes : List Node) → length (ranked_in None false node nodes) ≡ suc (length nodes)
length_in node [] = refl
length_in node (n ∷ ns) = step (is_gt (rank_cmp None false node n)) (length_in node ns)
  where
    step : (t : Bool) → length (ranked_in None false node ns) ≡ suc (length ns) →
        length (cond t (n ∷ ranked_in None false node ns) (node ∷ n ∷ ns)) ≡ suc (suc (length ns))
    step true e = ap suc e
    step false e = refl

length_ranked : (nodes : List Node) → length (ranked None false nodes) ≡ length nodes
length_ranked [] = refl
length_ranked (n ∷ ns) = length_in n (ranked None false ns) ∙ ap suc (length_ranked ns)

-- ---- how many there are

count_numbers : (first count : ℕ) → length (numbers_from first count) ≡ count
count_numbers first zero = refl
count_numbers first (suc count) = ap suc (count_numbers (first + 1) count)

fewer_filtered : (f : ℕ → Bool) (numbers : List ℕ) → length (filter f numbers) ≤ length numbers
fewer_filtered f [] = omega arith
fewer_filtered f (n ∷ ns) = step (f n) (fewer_filtered f ns)
  where
    step : (t : Bool) → length (filter f ns) ≤ length ns → length (cond t (n ∷ filter f ns) (filter f ns)) ≤ suc (length ns)
    step true l = omega (arith, l)
    step false l = omega (arith, l)

count_even : (nodes : ℕ) → length (ranked None false (map demo_node (even_numbers nodes))) ≡ length (even_numbers nodes)
count_even nodes = length_ranked (map demo_node (even_numbers nodes)) ∙ length-map (even_numbers nodes) demo_node

even_few : (nodes : ℕ) → nodes ≤ 1000 → length (even_numbers nodes) ≤ 1000
even_few nodes few = omega (arith, few, count_numbers 1 nodes, fewer_filtered (λ number. is_even (draw_at number)) (numbers_from 1 nodes))

-- ---- the rules that look at the nodes

node_refusal : Job → (Node → Decision) → List Node → List Node → Option Refusal
node_refusal job decide all run =
    option_or (none_selected job all) (option_or (none_allowed decide all run) (option_or (too_large (length (ranked None false run)) 2) None))

small_enough : (run : List Node) → length (ranked None false run) ≤ 1000 → too_large (length (ranked None false run)) 2 ≡ None
small_enough run few = rw (le-leb (length (ranked None false run) * 2) 100000 (omega (arith, few))) refl

-- the first node is there, and its draw is even
ann_nodes : (nodes : ℕ) → 1 ≤ nodes → nodes ≤ 1000 → (job : Job) (decide : Node → Decision) →
    node_refusal job decide (demo_nodes nodes) (map demo_node (even_numbers nodes)) ≡ None
unfolding node_refusal
ann_nodes zero some few job decide = absurd (omega arith)
ann_nodes (suc nodes) some few job decide =
    ap (λ last. option_or last None) (small_enough (map demo_node (even_numbers (suc nodes))) (omega (arith, count_even (suc nodes), even_few (suc nodes) few)))

bob_nodes : (nodes : ℕ) → 1 ≤ nodes → (job : Job) (decide : Node → Decision) → ((node : Node) → decide node ≡ NoneAllows) →
    node_refusal job decide (demo_nodes nodes) [] ≡ Some (NoNodeAllowed (codes "n1") NoneAllows)
unfolding node_refusal digits
bob_nodes zero some job decide h = absurd (omega arith)
bob_nodes (suc nodes) some job decide h = ap (λ decision. Some (NoNodeAllowed (codes "n1") decision)) (h (demo_node 1))

-- ---- all rules

ann_runnable : (d : Setting) → IsSetting d → (groups : List (List ℕ)) (draw : ℕ) (id name : List ℕ) (strategy : Strategy) →
    runnable_of (asked_in d (user_in (codes "ann") groups) draw (demo_job id name strategy)) ≡ map demo_node (even_numbers d.nodes)
ann_runnable d h groups draw id name strategy =
    ap (runnable (node_run (ann_in groups policy_file))) (all_chosen d.nodes (ask_for (demo_job id name strategy)) id name strategy h.few refl)
    ∙ (even_runnable d.nodes groups policy_file).0

bob_runnable : (d : Setting) → IsSetting d → (groups : List (List ℕ)) (draw : ℕ) (id name : List ℕ) (strategy : Strategy) →
    runnable_of (asked_in d (user_in (codes "bob") groups) draw (demo_job id name strategy)) ≡ []
bob_runnable d h groups draw id name strategy =
    ap (runnable (node_run (bob_in groups policy_file))) (all_chosen d.nodes (ask_for (demo_job id name strategy)) id name strategy h.few refl)
    ∙ (even_runnable d.nodes groups policy_file).1

ann_rules : (d : Setting) → IsSetting d → (groups : List (List ℕ)) (draw : ℕ) (id name : List ℕ) (strategy : Strategy) →
    first_refusal (rules (asked_in d (user_in (codes "ann") groups) draw (demo_job id name strategy))) ≡ None
unfolding node_refusal
ann_rules d h groups draw id name strategy =
    let job : Job = demo_job id name strategy in
    let all = all_chosen d.nodes (ask_for job) id name strategy h.few refl in
    (λ i. node_refusal job (node_run (ann_in groups policy_file)) (all i) (ann_runnable d h groups draw id name strategy i))
    ∙ ann_nodes d.nodes h.least h.few job (node_run (ann_in groups policy_file))

pub bob_rules : (d : Setting) → IsSetting d → (groups : List (List ℕ)) (draw : ℕ) (id name : List ℕ) (strategy : Strategy) →
    first_refusal (rules (asked_in d (user_in (codes "bob") groups) draw (demo_job id name strategy))) ≡ Some (NoNodeAllowed (codes "n1") NoneAllows)
unfolding node_refusal
bob_rules d h groups draw id name strategy =
    let job : Job = demo_job id name strategy in
    let all = all_chosen d.nodes (ask_for job) id name strategy h.few refl in
    (λ i. node_refusal job (node_run (bob_in groups policy_file)) (all i) (bob_runnable d h groups draw id name strategy i))
    ∙ bob_nodes d.nodes h.least job (node_run (bob_in groups policy_file)) (λ node. refl)

-- ---- verdicts

is_accepted : (d : Setting) → IsSetting d → (groups : List (List ℕ)) (draw : ℕ) (id name : List ℕ) (strategy : Strategy) →
    verdict_of (demo_world d) (user_in (codes "ann") groups) (ask_for (demo_job id name strategy)) draw
    ≡ unless (first_refusal (rules (asked_in d (user_in (codes "ann") groups) draw (demo_job id name strategy)))) (accepted_of (asked_in d (user_in (codes "ann") groups) draw (demo_job id name strategy))) →
    IsAcceptedIn d groups draw (demo_job id name strategy)
is_accepted d h groups draw id name strategy found =
    let a = asked_in d (user_in (codes "ann") groups) draw (demo_job id name strategy) in
    let nodes = ap (ranked None false) (ann_runnable d h groups draw id name strategy) in
    record {
      verdict = found ∙ ap (λ rule. unless rule (accepted_of a)) (ann_rules d h groups draw id name strategy);
      nodes = nodes;
      count = ap length nodes ∙ count_even d.nodes;
      slots = refl;
    }

pub ann_accepted : AnnIsAccepted
ann_accepted d h groups draw = (
  is_accepted d h groups draw (codes "demo-1") (codes "node-first") NodeFirst refl,
  (
    is_accepted d h groups draw (codes "demo-2") (codes "sequential") Sequential refl,
    (is_accepted d h groups draw (codes "demo-3") (codes "parallel") Parallel refl, tt),
  ),
)

is_refused : (d : Setting) → IsSetting d → (groups : List (List ℕ)) (draw : ℕ) (id name : List ℕ) (strategy : Strategy) →
    verdict_of (demo_world d) (user_in (codes "bob") groups) (ask_for (demo_job id name strategy)) draw
    ≡ unless (first_refusal (rules (asked_in d (user_in (codes "bob") groups) draw (demo_job id name strategy)))) (accepted_of (asked_in d (user_in (codes "bob") groups) draw (demo_job id name strategy))) →
    verdict_of (demo_world d) (user_in (codes "bob") groups) (ask_for (demo_job id name strategy)) draw ≡ Err (NoNodeAllowed (codes "n1") NoneAllows)
is_refused d h groups draw id name strategy found =
    let a = asked_in d (user_in (codes "bob") groups) draw (demo_job id name strategy) in
    found ∙ ap (λ rule. unless rule (accepted_of a)) (bob_rules d h groups draw id name strategy)

pub bob_refused : BobIsRefused
bob_refused d h groups draw = (
  is_refused d h groups draw (codes "demo-1") (codes "node-first") NodeFirst refl,
  (
    is_refused d h groups draw (codes "demo-2") (codes "sequential") Sequential refl,
    (is_refused d h groups draw (codes "demo-3") (codes "parallel") Parallel refl, tt),
  ),
)
