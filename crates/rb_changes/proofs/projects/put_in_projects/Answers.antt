use Rattle.std.proofs.Common.{◌∙◌, map, ap, sym}
use Rattle.rb_tables.specs.Due.{project_nexts}
use Rattle.rb_changes.proofs.projects.put_in_projects.Goals as goal

pub put_project-requires-clause-due : goal.put_project-requires-clause-due
put_project-requires-clause-due c =
    c.requires.due
    ∙ ap (map project_nexts) (sym (c.moved_into-moved.ensures.held ∙ c.replace.ensures.value))

pub returns-clause-due : goal.returns-clause-due
returns-clause-due c =
    c.put_project.ensures.due ∙ ap (map project_nexts) (sym c.of.ensures)
