use Rattle.std.proofs.Common.{◌≡◌, ◌∙◌, ◌≤◌, ◌+◌, ℕ, ℤ, List, [], map, length, Option, Vec, vec_len, slice_set, ap, sym, arith, rules}
use Rattle.std.specs.List.{insert}
use Rattle.std.specs.declared.alloc.Global.{Global}
use Rattle.std.proofs.lemmas.List.{length-map}
use Rattle.rb_inventory.specs.declared.inventory.Inventory.{Inventory}
use Rattle.rb_plan.specs.declared.world.Project.{Project}
use Rattle.rb_tables.specs.Due.{next_of, project_nexts}
use Rattle.rb_tables.specs.Worlds.{project_name, node_imports_in}
use Rattle.rb_changes.specs.Dues.{Dues, dues}
use Rattle.rb_changes.specs.Places.{IsFreeAt}
use Rattle.rb_changes.proofs.DueSteps.{items_of}
use Rattle.rb_changes.proofs.Stepping.{told_insert, told_kept}
use Rattle.rb_changes.proofs.Puts.{held_is, held_first, held_put, free_put, held_in, free_in}
use Rattle.rb_changes.proofs.projects.put_project.Goals as goal

-- ---- places

due_free : (name : List ℕ) (ps seen : List Project) (due : Dues) (n at : ℕ)
    → IsFreeAt project_name name seen at → seen ≡ ps → dues due ≡ map project_nexts ps
    → n ≡ length due.items → at ≤ n
due_free name ps seen due n at h is told many =
    omega (
      arith,
      h.within,
      ap length is,
      many,
      ap length told,
      length-map due.items items_of,
      length-map ps project_nexts,
    )

free_low : (name : List ℕ) (ps seen : List Project) (n at : ℕ)
    → IsFreeAt project_name name seen at → seen ≡ ps → n ≡ length ps → at ≤ n
free_low name ps seen n at h is many = omega (arith, h.within, ap length is, many)

-- ---- when the jobs are due

-- a project without jobs, put between
put_told : (due put_due : Dues) (ps put : List Project) (at : ℕ) (none : Vec (Option ℤ) Global)
    (p : Project) → none.items ≡ [] → p.jobs ≡ [] → dues due ≡ map project_nexts ps
    → put_due.items ≡ insert due.items at none → put ≡ insert ps at p
    → dues put_due ≡ map project_nexts put
put_told due put_due ps put at none p empty without told is made =
    ap (map items_of) is ∙ sym (told_insert items_of due.items at none)
    ∙ ap (insert (dues due) at) (empty ∙ sym (ap (map next_of) without))
    ∙ ap (λ ds. insert ds at (project_nexts p)) told ∙ told_insert project_nexts ps at p
    ∙ ap (map project_nexts) (sym made)

-- as it is put first, and over one that is there
abbrev fresh : List ℕ → Inventory → Project
fresh name inventory =
    record { name = name; inventory = inventory; inventory_number = 1; jobs = [] }

abbrev renewed : Inventory → Project → Project
renewed inventory p =
    record p { inventory = inventory; inventory_number = p.inventory_number + 1 }

pub overflow_add-project : goal.overflow_add-project
overflow_add-project c =
    let projects : List Project = c.args.projects.now.items in
    let held =
    held_in project_name c.args.name c.as_str.result.now projects c.as_slice.result.now
    c.in-Ok.place c.as_str.ensures c.as_slice.ensures.value c.in-Ok.ensures.ok in
    let is =
    held_is project_name c.args.name projects c.in-Ok.place held c.index_mut-project.result.now
    c.index_mut-project.ensures.value in
    let count =
    ap node_imports_in (held_first project_name c.args.name projects c.in-Ok.place held) in
    let same = ap (λ (p : Project). p.inventory_number) is in
    omega (arith, count, same, c.requires.count)

pub returns-in-Ok-clause-projects : goal.returns-in-Ok-clause-projects
returns-in-Ok-clause-projects c =
    let projects : List Project = c.args.projects.now.items in
    let held =
    held_in project_name c.args.name c.as_str.result.now projects c.as_slice.result.now
    c.in-Ok.place c.as_str.ensures c.as_slice.ensures.value c.in-Ok.ensures.ok in
    let is =
    held_is project_name c.args.name projects c.in-Ok.place held c.index_mut-project.result.now
    c.index_mut-project.ensures.value in
    ap (λ p. slice_set projects c.in-Ok.place (renewed c.args.inventory p)) (sym is)
    ∙ held_put project_name (fresh c.args.name c.args.inventory) (renewed c.args.inventory)
    projects c.in-Ok.place held

pub returns-in-Ok-clause-due : goal.returns-in-Ok-clause-due
returns-in-Ok-clause-due c =
    let projects : List Project = c.args.projects.now.items in
    let held =
    held_in project_name c.args.name c.as_str.result.now projects c.as_slice.result.now
    c.in-Ok.place c.as_str.ensures c.as_slice.ensures.value c.in-Ok.ensures.ok in
    let is =
    held_is project_name c.args.name projects c.in-Ok.place held c.index_mut-project.result.now
    c.index_mut-project.ensures.value in
    c.requires.due
    ∙ sym (told_kept project_nexts projects c.in-Ok.place held.found
    (renewed c.args.inventory c.index_mut-project.result.now) held.get
    (ap project_nexts (sym is)))

pub put_at-requires : goal.put_at-requires
put_at-requires c = record {
  memory = c.requires.due_memory;
  place = due_free c.as_str.result.now c.args.projects.now.items c.as_slice.result.now
      c.args.due.now (vec_len c.args.due.now) c.in-Err.place c.in-Err.ensures.err
      c.as_slice.ensures.value c.requires.due c.args.due.now.ok.0;
}

pub put_at-requires-in-Err : goal.put_at-requires-in-Err
put_at-requires-in-Err c = record {
  memory = c.requires.memory;
  place = free_low c.as_str.result.now c.args.projects.now.items c.as_slice.result.now
      (vec_len c.args.projects.now) c.in-Err.place c.in-Err.ensures.err
      c.as_slice.ensures.value c.args.projects.now.ok.0;
}

pub returns-in-Err-clause-projects : goal.returns-in-Err-clause-projects
returns-in-Err-clause-projects c =
    let projects : List Project = c.args.projects.now.items in
    let free =
    free_in project_name c.args.name c.as_str.result.now projects c.as_slice.result.now
    c.in-Err.place c.as_str.ensures c.as_slice.ensures.value c.in-Err.ensures.err in
    c.put_at-in-Err.ensures.held
    ∙ ap (λ jobs. insert projects c.in-Err.place (record {
      name = c.args.name;
      inventory = c.args.inventory;
      inventory_number = 1;
      jobs = jobs;
    })) c.new-jobs.ensures
    ∙ free_put project_name (fresh c.args.name c.args.inventory) (renewed c.args.inventory)
    projects c.in-Err.place free

pub returns-in-Err-clause-due : goal.returns-in-Err-clause-due
returns-in-Err-clause-due c =
    let none : c.new.result.items ≡ [] = search rules in
    put_told c.args.due.now c.put_at.new.all c.args.projects.now.items c.put_at-in-Err.new.all.items
    c.in-Err.place c.new.result (record {
      name = c.args.name;
      inventory = c.args.inventory;
      inventory_number = 1;
      jobs = c.new-jobs.result;
    }) none c.new-jobs.ensures c.requires.due c.put_at.ensures.held c.put_at-in-Err.ensures.held
