use Rattle.std.proofs.Common.{◌∙◌, [], ◌∷◌, Some, codes, ap}
use Rattle.rb_canon.specs.Values.{map_of}
use Rattle.rb_export.specs.Jobs.{sequence_slots, nodes_slots}
use Rattle.rb_export.specs.Policies.{under}
use Rattle.rb_export.specs.Slots.{map_with}
use Rattle.rb_export.proofs.Pushed.{pushed_first}
use Rattle.rb_export.proofs.jobs.push_work.Goals as goal

pub returns : goal.returns
returns c =
    let sequence = c.map.ensures ∙ ap map_of c.in_ok-sequence.ensures in
    let nodes = c.map-2.ensures ∙ ap map_of c.in_ok-nodes.ensures in
    pushed_first _ _ _ _ (codes "sequence") (Some (map_with (sequence_slots c.args.job.now)))
    (under (codes "nodefilters") (map_with (nodes_slots c.args.job.now)) ∷ [])
    (rw sequence at c.in_ok-push_value.ensures) (rw nodes at c.push_value-2.ensures)
