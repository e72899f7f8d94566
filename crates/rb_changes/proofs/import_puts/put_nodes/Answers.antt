use Rattle.std.proofs.Common.{◌≡◌, ◌∙◌, ◌+◌, ◌-◌, ◌<◌, ◌^◌, min, map, length, vec_len, vec_capacity, Some, ap, sym, subst}
use Rattle.std.proofs.Math.Facts.{to_z-of_z}
use Rattle.rb_log.specs.World.{latest_of, count_of}
use Rattle.rb_tables.specs.Due.{project_nexts}
use Rattle.rb_tables.specs.Worlds.{node_imports_of}
use Rattle.rb_tables.specs.declared.tables.Tables.{Tables}
use Rattle.rb_changes.specs.Dues.{dues}
use Rattle.rb_changes.proofs.NodePuts.{latest_fits, number_fits, room_is, noted_nodes_follow}
use Rattle.rb_changes.proofs.import_puts.put_nodes.Goals as goal

pub put_latest-requires-clause-count : goal.put_latest-requires-clause-count
put_latest-requires-clause-count c =
    let h = c.requires.comes in
    subst (λ (t : Tables). count_of (latest_of c.args.new.latest.name t.nodes.items) + 1 < 2 ^ 64)
    (sym c.note.ensures)
    (latest_fits c.import_laws.ensures.nodes c.args.tables.now c.args.at c.args.counted c.args.new
    h.0 h.1 h.2)

pub put_in_projects-requires-clause-count : goal.put_in_projects-requires-clause-count
put_in_projects-requires-clause-count c =
    let h = c.requires.comes in
    subst (λ (t : Tables). node_imports_of c.args.new.name t.world.projects + 1 < 2 ^ 64)
    (sym c.note.ensures)
    (number_fits c.import_laws.ensures.nodes c.args.tables.now c.args.at c.args.counted c.args.new
    h.0 h.1 h.2)

pub put_in_projects-requires-clause-memory : goal.put_in_projects-requires-clause-memory
put_in_projects-requires-clause-memory c =
    let h = c.requires.comes in
    subst (λ (t : Tables). length t.world.projects < vec_capacity c.args.new.room)
    (sym c.note.ensures)
    (room_is c.import_laws.ensures.nodes c.args.tables.now c.args.at c.args.counted c.args.new
    h.0 h.1 h.2)

pub put_in_projects-requires-clause-empty : goal.put_in_projects-requires-clause-empty
put_in_projects-requires-clause-empty c = c.requires.comes.2.effect.empty

pub put_in_projects-requires-clause-due : goal.put_in_projects-requires-clause-due
put_in_projects-requires-clause-due c =
    subst (λ (t : Tables). dues t.due ≡ map project_nexts t.world.projects) (sym c.note.ensures)
    c.requires.comes.2.tabled.says.due

pub put_in_projects-requires-clause-due_memory : goal.put_in_projects-requires-clause-due_memory
put_in_projects-requires-clause-due_memory c =
    subst (λ (t : Tables). vec_len t.due < vec_capacity t.due) (sym c.note.ensures)
    c.requires.spare.due

pub returns : goal.returns
returns c =
    noted_nodes_follow c.args.tables.now c.note.new.tables c.args.at c.args.counted c.args.new
    c.put_latest.new.all c.put_in_projects.new.due c.put_in_projects.new.projects
    (c.note.ensures ∙ ap (λ z. record c.args.tables.now {
      counted = min (c.args.tables.now.counted + c.args.counted) (2 ^ 64 - 1);
      last = Some z;
    }) (to_z-of_z c.ranges.at))
    c.put_latest.ensures c.put_in_projects.ensures.due c.put_in_projects.ensures.projects
