use Rattle.std.proofs.Common.{map}
use Rattle.rb_node.specs.Values.{alternative_values, in_order}
use Rattle.rb_node.proofs.Stopping.{made_more, rest_filled, rest_read, rest_stops, here_stops, handed_on, wanting}
use Rattle.rb_node.proofs.compiling.listed.Goals as goal

pub returns-in_err-alternative-clause-fault : goal.returns-in_err-alternative-clause-fault
returns-in_err-alternative-clause-fault c =
    handed_on c.from_residual.result c.in_err-alternative.field-0.0
    (in_order (map (alternative_values c.args.attr.now) c.args.texts.now)) c.from_residual.ensures.1
    (here_stops (alternative_values c.args.attr.now) c.args.texts.now c.loop-text.text-index
    c.text-item.result c.as_slice.result.now
    (in_order (map (alternative_values c.args.attr.now) c.args.texts.now)) c.loop-text-test.true
    c.text-item.is c.as_slice.ensures c.loop-text.invariant.stops
    c.in_err-alternative.field-0.0 c.in_err-alternative.ensures.fault)

pub returns-in_err-push-clause-fault : goal.returns-in_err-push-clause-fault
returns-in_err-push-clause-fault c =
    wanting c.from_residual-in_err-push.result
    (in_order (map (alternative_values c.args.attr.now) c.args.texts.now))
    c.from_residual-in_err-push.ensures.1

pub loop-text-preserved : goal.loop-text-preserved
loop-text-preserved c = record {
  ok = made_more (alternative_values c.args.attr.now) c.loop-text.all c.push.new.self
      c.in_ok-alternative.field-0 c.args.texts.now c.loop-text.text-index c.text-item.result
      c.as_slice.result.now (map (alternative_values c.args.attr.now) c.args.texts.now)
      c.loop-text-test.true c.text-item.is c.as_slice.ensures c.in_ok-alternative.ensures.ok
      c.in_ok-push.ensures.ok c.loop-text.invariant.ok;
  filled = rest_filled (alternative_values c.args.attr.now) c.args.texts.now c.loop-text.text-index
      c.text-item.result c.as_slice.result.now
      (in_order (map (alternative_values c.args.attr.now) c.args.texts.now)) c.loop-text-test.true
      c.text-item.is c.as_slice.ensures c.in_ok-alternative.ensures.filled
      c.loop-text.invariant.filled;
  read = rest_read (alternative_values c.args.attr.now) c.args.texts.now c.loop-text.text-index
      c.text-item.result c.as_slice.result.now
      (in_order (map (alternative_values c.args.attr.now) c.args.texts.now)) c.loop-text-test.true
      c.text-item.is c.as_slice.ensures c.in_ok-alternative.ensures.read c.loop-text.invariant.read;
  stops = rest_stops (alternative_values c.args.attr.now) c.args.texts.now c.loop-text.text-index
      c.text-item.result c.as_slice.result.now
      (in_order (map (alternative_values c.args.attr.now) c.args.texts.now)) c.loop-text-test.true
      c.text-item.is c.as_slice.ensures c.in_ok-alternative.ensures.filled
      c.in_ok-alternative.ensures.read c.loop-text.invariant.stops;
}
