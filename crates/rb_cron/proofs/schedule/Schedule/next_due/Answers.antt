use Rattle.std.proofs.Common.{pos, neg_ℤ, ◌≤ℤ◌, ◌<ℤ◌, sym, subst, to_z, of_z, w64, inl}
use Rattle.std.specs.Prelude.{◌⊎◌}
use Rattle.std.proofs.lemmas.Int.{to_z-of_z}
use Rattle.rb_cron.specs.Next.{NoneDue, end_of_schedules}
use Rattle.rb_cron.proofs.Edges.{cast_end, Ends}
use Rattle.rb_cron.proofs.Search.{answer_due, due_back, below, fewer_cast, due_passed, later_on, start_back, piece_ends, next_later, next_early}
use Rattle.rb_cron.proofs.schedule.Schedule.next_due.Goals as goal

pub loop-at-init : goal.loop-at-init
loop-at-init c =
    let same = start_back c.first_behind-at.result c.first_behind-at.ensures.early c.first_behind-at.ensures.late in
    record {
      none = subst (λ k. NoneDue c.args.self.now (to_z w64 (of_z w64 c.args.after)) k) (sym same) c.first_behind-at.ensures.passed;
      early = subst (λ k. neg_ℤ (pos 93_599) ≤ℤ k) (sym same) c.first_behind-at.ensures.early;
      later = subst (λ k. (to_z w64 (of_z w64 c.args.after) <ℤ k) ⊎ (end_of_schedules ≤ℤ k)) (sym same) c.first_behind-at.ensures.later;
    }

pub returns-in-Some-clause-due : goal.returns-in-Some-clause-due
returns-in-Some-clause-due c =
    let at = to_z w64 c.loop-at.at-bits in
    (answer_due c.args.self.now c.args.after (to_z w64 (of_z w64 c.args.after)) at c.piece_at-piece.result.end c.in-Some.due _ (to_z-of_z w64 c.args.after c.ranges.after)
    (due_back c.args.self.now at c.piece_at-piece.result.end c.in-Some.due c.in-Some.ensures.found c.loop-at.invariant.early c.piece_at-piece.ensures.before)
    c.loop-at.invariant.none c.loop-at.invariant.later (below at (pos 7258118400) c.loop-at-test.true) c.piece_at-piece.ensures.before c.in-Some.ensures.found).0

pub returns-in-Some-clause-least : goal.returns-in-Some-clause-least
returns-in-Some-clause-least c =
    let at = to_z w64 c.loop-at.at-bits in
    (answer_due c.args.self.now c.args.after (to_z w64 (of_z w64 c.args.after)) at c.piece_at-piece.result.end c.in-Some.due _ (to_z-of_z w64 c.args.after c.ranges.after)
    (due_back c.args.self.now at c.piece_at-piece.result.end c.in-Some.due c.in-Some.ensures.found c.loop-at.invariant.early c.piece_at-piece.ensures.before)
    c.loop-at.invariant.none c.loop-at.invariant.later (below at (pos 7258118400) c.loop-at-test.true) c.piece_at-piece.ensures.before c.in-Some.ensures.found).1

ends : (c : goal.After-struct_told-1) → Ends (to_z w64 c.loop-at.at-bits) c.piece_at-piece.result.end
ends c = piece_ends (to_z w64 c.loop-at.at-bits) c.piece_at-piece.result.end c.loop-at.invariant.early c.piece_at-piece.ensures.after c.piece_at-piece.ensures.before

pub loop-at-smaller : goal.loop-at-smaller
loop-at-smaller c =
    let at = to_z w64 c.loop-at.at-bits in
    fewer_cast at c.piece_at-piece.result.end (to_z w64 (of_z w64 c.piece_at-piece.result.end)) (cast_end at c.piece_at-piece.result.end (ends c)) (ends c).1 (below at (pos 7258118400) c.loop-at-test.true)

pub loop-at-preserved : goal.loop-at-preserved
loop-at-preserved c =
    let at = to_z w64 c.loop-at.at-bits in
    let same = cast_end at c.piece_at-piece.result.end (ends c) in
    record {
      none = subst (λ k. NoneDue c.args.self.now (to_z w64 (of_z w64 c.args.after)) k) (sym same)
          (due_passed c.args.self.now (to_z w64 (of_z w64 c.args.after)) at c.piece_at-piece.result.end c.loop-at.invariant.none c.in_default.ensures.none);
      early = subst (λ k. neg_ℤ (pos 93_599) ≤ℤ k) (sym same) (next_early at c.piece_at-piece.result.end (ends c));
      later = subst (λ k. (to_z w64 (of_z w64 c.args.after) <ℤ k) ⊎ (end_of_schedules ≤ℤ k)) (sym same)
          (inl (next_later (to_z w64 (of_z w64 c.args.after)) at c.piece_at-piece.result.end (later_on (to_z w64 (of_z w64 c.args.after)) at c.piece_at-piece.result.end c.loop-at.invariant.later (below at (pos 7258118400) c.loop-at-test.true)) (ends c)));
    }
