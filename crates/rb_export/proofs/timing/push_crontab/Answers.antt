use Rattle.rb_export.proofs.Pushed.{part_first, part_behind}
use Rattle.rb_export.proofs.timing.push_crontab.Goals as goal

pub returns : goal.returns
returns c =
    part_first _ _ _ _ _ _ c.in_ok-push_part.ensures
    (part_behind _ _ _ _ _ _ c.in_ok-push_behind.ensures
    (part_behind _ _ _ _ _ _ c.in_ok-push_behind-2.ensures
    (part_behind _ _ _ _ _ _ c.in_ok-push_behind-3.ensures
    (part_behind _ _ _ _ _ _ c.in_ok-push_behind-4.ensures
    (part_behind _ _ _ _ _ _ c.in_ok-push_behind-5.ensures c.push_behind-6.ensures)))))
