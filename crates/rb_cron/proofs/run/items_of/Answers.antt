use Rattle.std.proofs.Common.{◌∙◌, sym}
use Rattle.rb_cron.specs.Fields.{range_of}
use Rattle.rb_cron.proofs.Parts.{item_fails, item_read, items_begin, items_end}
use Rattle.rb_cron.proofs.run.items_of.Goals as goal

pub returns-in_default : goal.returns-in_default
returns-in_default c =
    item_fails (range_of c.args.field) c.args.items.now c.loop-item.item-index _ c.loop-item.runs _ c.loop-item-test.true
    (sym c.in_ok-run.ensures ∙ c.in_default.is) c.loop-item.invariant

pub loop-item-preserved : goal.loop-item-preserved
loop-item-preserved c =
    item_read (range_of c.args.field) c.args.items.now c.loop-item.item-index _ c.loop-item.runs c.push.new.self c.in-Some.run' _ c.loop-item-test.true
    (sym c.in_ok-run.ensures ∙ c.in-Some.is) c.in_ok-push.ensures.ok c.loop-item.invariant

pub loop-item-init : goal.loop-item-init
loop-item-init c = items_begin (range_of c.args.field) c.args.items.now c.new-runs.result c.new-runs.ensures

pub returns : goal.returns
returns c = items_end (range_of c.args.field) c.args.items.now c.loop-item.item-index c.loop-item.runs _ c.loop-item-test.false c.loop-item.invariant
