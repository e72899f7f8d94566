-- The worlds on which a verdict is given, and the acceptances whose words can be told.
use Rattle.std.specs.Prelude.{◌≡◌, ◌<◌, Bool, true, not, ◌&&◌, nat_le, length, map}
use Rattle.std.specs.List.{list_all}
use Rattle.rb_causes.specs.Texts.{differ}
use Rattle.rb_inventory.specs.Laws.{is_sound_prop, has_apart_attributes}
use Rattle.rb_node.specs.declared.node.Node.{Node}
use Rattle.rb_job.specs.Sound.{refers, is_sound_job}
use Rattle.rb_marks.specs.declared.mark.Leaf.{Leaf}
use Rattle.rb_plan.specs.Acceptance.{Acceptance}
use Rattle.rb_plan.specs.declared.world.World.{World}
use Rattle.rb_plan.specs.declared.world.Project.{Project}
use Rattle.rb_plan.specs.declared.accepted.Command.{Command}

-- the keys of its attributes differ, none of them names the node or its tags, and no quote of the
-- prefix words is open
abbrev pub is_sound_node : Node → Bool
is_sound_node node = has_apart_attributes node && list_all is_sound_prop node.attrs

-- its nodes are sound, at most 10,000, and have different names; its jobs are sound
abbrev pub is_sound_project : Project → Bool
is_sound_project project =
    (list_all is_sound_node project.inventory.nodes
    && nat_le (length project.inventory.nodes) 10000)
    && (differ (map (λ node. node.name) project.inventory.nodes)
    && list_all (λ held. is_sound_job held.job) project.jobs)

-- each project is sound
abbrev pub IsSoundWorld : World → Type 0
IsSoundWorld world = list_all is_sound_project world.projects ≡ true

-- it is a command or a script, and the names of its values differ
abbrev pub is_sound_command : Command → Bool
is_sound_command command =
    not (refers command.act) && differ (map (λ value. value.key) command.values)

-- there is one sound command for each slot and one sound node for each tier
pub record HasSoundLeaves (a : Acceptance) : Type 0 where
  pub commands : length a.commands ≡ a.plan.slots
  pub nodes : length a.nodes ≡ length a.plan.tiers
  pub sound_commands : list_all is_sound_command a.commands ≡ true
  pub sound_nodes : list_all is_sound_node a.nodes ≡ true

-- the leaf is one of a plan
abbrev pub IsLeafOf : Acceptance → Leaf → Type 0
IsLeafOf a leaf = (leaf.node < length a.plan.tiers) × (leaf.slot < a.plan.slots)
