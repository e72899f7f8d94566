use Rattle.std.proofs.Common.{refl, map}
use Rattle.rb_node.specs.Values.{draft_values, drafted_values, clause_of}
use Rattle.rb_node.proofs.Stopping.{made_more, rest_filled, rest_read, rest_stops, here_stops, handed_on, wanting}
use Rattle.rb_node.proofs.compiling.compile_all.Goals as goal

pub returns-in_err-clause-clause-fault : goal.returns-in_err-clause-clause-fault
returns-in_err-clause-clause-fault c =
    handed_on c.from_residual.result c.in_err-clause.field-0.0
    (drafted_values c.args.drafts.now) c.from_residual.ensures.1
    (here_stops draft_values c.args.drafts.now c.loop-draft.draft-index c.draft-item.result
    c.draft-item.result (drafted_values c.args.drafts.now) c.loop-draft-test.true c.draft-item.is
    refl c.loop-draft.invariant.stops
    c.in_err-clause.field-0.0 c.in_err-clause.ensures.fault)

pub returns-in_err-push-clause-fault : goal.returns-in_err-push-clause-fault
returns-in_err-push-clause-fault c =
    wanting c.from_residual-in_err-push.result
    (drafted_values c.args.drafts.now) c.from_residual-in_err-push.ensures.1

pub loop-draft-preserved : goal.loop-draft-preserved
loop-draft-preserved c = record {
  ok = made_more clause_of c.loop-draft.clauses c.push.new.self c.in_ok-clause.field-0
      c.args.drafts.now c.loop-draft.draft-index c.draft-item.result c.draft-item.result
      (map clause_of c.args.drafts.now)
      c.loop-draft-test.true c.draft-item.is refl c.in_ok-clause.ensures.ok c.in_ok-push.ensures.ok
      c.loop-draft.invariant.ok;
  filled = rest_filled draft_values c.args.drafts.now c.loop-draft.draft-index c.draft-item.result
      c.draft-item.result (drafted_values c.args.drafts.now) c.loop-draft-test.true c.draft-item.is refl
      c.in_ok-clause.ensures.filled c.loop-draft.invariant.filled;
  read = rest_read draft_values c.args.drafts.now c.loop-draft.draft-index c.draft-item.result
      c.draft-item.result (drafted_values c.args.drafts.now) c.loop-draft-test.true c.draft-item.is refl
      c.in_ok-clause.ensures.read c.loop-draft.invariant.read;
  stops = rest_stops draft_values c.args.drafts.now c.loop-draft.draft-index c.draft-item.result
      c.draft-item.result (drafted_values c.args.drafts.now) c.loop-draft-test.true c.draft-item.is refl
      c.in_ok-clause.ensures.filled c.in_ok-clause.ensures.read c.loop-draft.invariant.stops;
}
