-- Nodes that are some of others, in any order: what holds of those holds of these.
use Rattle.std.proofs.Common.{arith, ◌≡◌, ℕ, ◌+◌, ◌≤◌, Bool, true, false, not, ◌&&◌, ◌||◌, cond, nat_eq, length, map, List, [], ◌∷◌, bytes_eq, Option, refl, sym, subst}
use Rattle.std.specs.List.{filter, list_any, list_all}
use Rattle.std.specs.Ordering.{is_gt}
use Rattle.std.proofs.lemmas.Bool.{true≢false, and_parts, or_parts}
use Rattle.rb_causes.specs.Texts.{differ, has_text}
use Rattle.rb_causes.proofs.Texts.{text_turned}
use Rattle.rb_acl.specs.declared.policy.Decision.{Decision}
use Rattle.rb_job.specs.declared.job.Job.{Job}
use Rattle.rb_job.specs.declared.job.Orchestrator.{Orchestrator}
use Rattle.rb_job.specs.declared.job.Orchestrator.TheVariants.{Plain, Subset, RankTiered, MaxPercentage}
use Rattle.rb_node.specs.declared.node.Node.{Node}
use Rattle.rb_orch.specs.Picking.{standing_at}
use Rattle.rb_orch.specs.Ranking.{rank_cmp, ranked, ranked_in}
use Rattle.rb_plan.specs.Targets.{chosen_nodes, runnable, cut, targets}
use Rattle.rb_plan.specs.declared.world.RunAsk.{RunAsk}

abbrev pub names : List Node → List (List ℕ)
names ns = map (λ node. node.name) ns

pub record IsPart (part whole : List Node) : Type 0 where
  pub few : length part ≤ length whole
  pub absent : (name : List ℕ) → has_text (names whole) name ≡ false → has_text (names part) name ≡ false
  pub apart : differ (names whole) ≡ true → differ (names part) ≡ true
  pub each : (p : Node → Bool) → list_all p whole ≡ true → list_all p part ≡ true

pub part_same : (ns : List Node) → IsPart ns ns
part_same ns = record { few = omega arith; absent = λ name h. h; apart = λ h. h; each = λ p h. h }

pub part_join : (xs ys zs : List Node) → IsPart xs ys → IsPart ys zs → IsPart xs zs
part_join xs ys zs one other = record {
  few = omega (arith, one.few, other.few);
  absent = λ name h. one.absent name (other.absent name h);
  apart = λ h. one.apart (other.apart h);
  each = λ p h. one.each p (other.each p h);
}

both_absent : (a b c : Bool) → (b ≡ false → c ≡ false) → (a || b) ≡ false → (a || c) ≡ false
both_absent true b c h none = none
both_absent false b c h none = h none

both_apart : (a b c d : Bool) → (a ≡ false → b ≡ false) → (c ≡ true → d ≡ true) → (not a && c) ≡ true
    → (not b && d) ≡ true
both_apart true b c d h k so = absurd (true≢false (sym so))
both_apart false b c d h k so = rw (h refl) (k so)

both_each : (a b c : Bool) → (b ≡ true → c ≡ true) → (a && b) ≡ true → (a && c) ≡ true
both_each true b c h so = h so
both_each false b c h so = so

-- one node more on both sides, and one that is left out
with_same : (n : Node) (xs ys : List Node) → IsPart xs ys → IsPart (n ∷ xs) (n ∷ ys)
with_same n xs ys h = record {
  few = omega (arith, h.few);
  absent = λ name. both_absent (bytes_eq n.name name) _ _ (h.absent name);
  apart = both_apart (has_text (names ys) n.name) (has_text (names xs) n.name) _ _ (h.absent n.name) h.apart;
  each = λ p. both_each (p n) _ _ (h.each p);
}

left_out : (n : Node) (ys : List Node) → IsPart ys (n ∷ ys)
left_out n ys = record {
  few = omega arith;
  absent = λ name none. (or_parts (bytes_eq n.name name) (has_text (names ys) name) none).1;
  apart = λ so. (and_parts _ (differ (names ys)) so).1;
  each = λ p so. (and_parts (p n) (list_all p ys) so).1;
}

part_more : (b : Bool) (n : Node) (xs ys : List Node) → IsPart xs ys → IsPart (cond b (n ∷ xs) xs) (n ∷ ys)
part_more true n xs ys h = with_same n xs ys h
part_more false n xs ys h = part_join xs ys (n ∷ ys) h (left_out n ys)

part_filter : (p : Node → Bool) (ns : List Node) → IsPart (filter p ns) ns
part_filter p [] = part_same []
part_filter p (n ∷ ns) = part_more (p n) n (filter p ns) ns (part_filter p ns)

part_standing : (taken : List ℕ) (start : ℕ) (ns : List Node) → IsPart (standing_at taken start ns) ns
part_standing taken start [] = part_same []
part_standing taken start (n ∷ ns) =
    part_more (list_any (λ place. nat_eq place start) taken) n (standing_at taken (start + 1) ns) ns (part_standing taken (start + 1) ns)

turned_absent : (a b c : Bool) → (b || (a || c)) ≡ false → (a || (b || c)) ≡ false
turned_absent true true c none = none
turned_absent true false c none = none
turned_absent false b c none = none

-- m and n differ, n is not among the others, nor is m
turned_apart : (e a b d : Bool) → (not (e || b) && (not a && d)) ≡ true → (not (e || a) && (not b && d)) ≡ true
turned_apart true a b d so = so
turned_apart false true true d so = so
turned_apart false true false d so = so
turned_apart false false true d so = so
turned_apart false false false d so = so

turned_each : (a b c : Bool) → (b && (a && c)) ≡ true → (a && (b && c)) ≡ true
turned_each true b c so = so
turned_each false true c so = so
turned_each false false c so = so

part_turned : (m n : Node) (ns : List Node) → IsPart (m ∷ n ∷ ns) (n ∷ m ∷ ns)
part_turned m n ns = record {
  few = omega arith;
  absent = λ name. turned_absent (bytes_eq m.name name) (bytes_eq n.name name) (has_text (names ns) name);
  apart = λ so. turned_apart (bytes_eq n.name m.name) (has_text (names ns) m.name) (has_text (names ns) n.name) (differ (names ns))
      (subst (λ e. (not (e || has_text (names ns) n.name) && (not (has_text (names ns) m.name) && differ (names ns))) ≡ true)
      (text_turned m.name n.name) so);
  each = λ p. turned_each (p m) (p n) (list_all p ns);
}

placed : (b : Bool) (n m : Node) (xs ms : List Node) → IsPart xs (n ∷ ms) → IsPart (cond b (m ∷ xs) (n ∷ m ∷ ms)) (n ∷ m ∷ ms)
placed true n m xs ms h = part_join (m ∷ xs) (m ∷ n ∷ ms) (n ∷ m ∷ ms) (with_same m xs (n ∷ ms) h) (part_turned m n ms)
placed false n m xs ms h = part_same (n ∷ m ∷ ms)

part_in : (by : Option (List ℕ)) (down : Bool) (n : Node) (ns : List Node) → IsPart (ranked_in by down n ns) (n ∷ ns)
part_in by down n [] = part_same (n ∷ [])
part_in by down n (m ∷ ms) = placed (is_gt (rank_cmp by down n m)) n m (ranked_in by down n ms) ms (part_in by down n ms)

part_ranked : (by : Option (List ℕ)) (down : Bool) (ns : List Node) → IsPart (ranked by down ns) ns
part_ranked by down [] = part_same []
part_ranked by down (n ∷ ns) =
    part_join (ranked_in by down n (ranked by down ns)) (n ∷ ranked by down ns) (n ∷ ns) (part_in by down n (ranked by down ns))
    (with_same n (ranked by down ns) ns (part_ranked by down ns))

part_cut : (orchestrator : Orchestrator) (draw : ℕ) (ns : List Node) → IsPart (cut orchestrator draw ns) ns
part_cut Plain draw ns = part_same ns
part_cut (Subset count) draw ns = part_standing _ 0 ns
part_cut RankTiered draw ns = part_same ns
part_cut (MaxPercentage percent) draw ns = part_same ns

-- the nodes of a run are some of those that may be run
pub part_targets : (job : Job) (draw : ℕ) (ns : List Node) → IsPart (targets job draw ns) ns
part_targets job draw ns =
    part_join (targets job draw ns) (ranked job.rank_by job.rank_down ns) ns (part_cut job.orchestrator draw (ranked job.rank_by job.rank_down ns))
    (part_ranked job.rank_by job.rank_down ns)

-- those that may be run on are a part of all
pub part_runnable : (decide : Node → Decision) (ask : RunAsk) (job : Job) (ns : List Node) → IsPart (runnable decide (chosen_nodes ask job ns)) ns
part_runnable decide ask job ns = part_join _ (chosen_nodes ask job ns) ns (part_filter _ (chosen_nodes ask job ns)) (part_filter _ ns)

-- and so are those of a run
pub part_run : (decide : Node → Decision) (ask : RunAsk) (job : Job) (draw : ℕ) (ns : List Node)
    → IsPart (targets job draw (runnable decide (chosen_nodes ask job ns))) ns
part_run decide ask job draw ns =
    part_join _ (runnable decide (chosen_nodes ask job ns)) ns (part_targets job draw (runnable decide (chosen_nodes ask job ns))) (part_runnable decide ask job ns)
