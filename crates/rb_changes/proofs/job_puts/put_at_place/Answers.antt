use Rattle.std.proofs.Common.{◌≡◌, ◌∙◌, ◌<◌, ℕ, List, map, length, vec_len, get_or, Some, slice_get, slice_set, ap, sym, refl, arith}
use Rattle.std.proofs.lemmas.Option.{slice_get_read}
use Rattle.rb_causes.proofs.Lists.{some_is}
use Rattle.rb_plan.specs.declared.world.Project.{Project}
use Rattle.rb_tables.specs.Due.{next_of}
use Rattle.rb_tables.specs.Worlds.{put_each}
use Rattle.rb_changes.proofs.job_puts.put_at_place.Goals as goal
use Rattle.rb_changes.proofs.job_puts.put_at_place.Goals.{After-index_mut}

-- the one that was read among the projects as they were moved
read_there : (ps moved : List Project) (k : ℕ) (p : Project) → moved ≡ ps → k < length ps
    → p ≡ get_or moved k p → slice_get ps k ≡ Some p
read_there ps moved k p is low read =
    let few : k < length moved = omega (arith, low, ap length is) in
    ap (λ xs. slice_get xs k) (sym is) ∙ slice_get_read moved (length moved) k p refl few read

got : (c : After-index_mut)
    → slice_get c.args.projects.now c.args.place ≡ Some c.index_mut.result.now
got c =
    read_there c.args.projects.now c.into_vec-moved.result.items c.args.place
    c.index_mut.result.now (c.into_vec-moved.ensures ∙ c.replace.ensures.value) c.requires.place
    c.index_mut.ensures.value

low_in : (ps moved : List Project) (k n : ℕ) → moved ≡ ps → n ≡ length moved → k < length ps
    → k < n
low_in ps moved k n is many low = omega (arith, ap length is, many, low)

pub index_mut-requires : goal.index_mut-requires
index_mut-requires c =
    low_in c.args.projects.now c.into_vec-moved.result.items c.args.place
    (vec_len c.into_vec-moved.result) (c.into_vec-moved.ensures ∙ c.replace.ensures.value)
    c.into_vec-moved.result.ok.0 c.requires.place

pub put_in-requires : goal.put_in-requires
put_in-requires c =
    let p : Project = c.index_mut.result.now in
    let there = got (goal.at.put_in-requires c).After-index_mut in record {
      empty = c.requires.empty;
      memory = c.requires.memory p there;
      due = c.requires.due p there;
      due_memory = c.requires.due_memory p there;
    }

pub returns-clause-jobs : goal.returns-clause-jobs
returns-clause-jobs c p get =
    let q : Project = c.index_mut.result.now in
    let is : q ≡ p =
    some_is q p (sym (got (goal.at.returns-clause-jobs c).After-index_mut) ∙ get) in
    c.of.ensures
    ∙ ap (λ x. slice_set c.into_vec-moved.result.items c.args.place x) c.put_in.ensures.jobs
    ∙ ap (λ ps. slice_set ps c.args.place (record q { jobs = put_each c.args.new.items q.jobs }))
    (c.into_vec-moved.ensures ∙ c.replace.ensures.value)
    ∙ ap (λ (x : Project). slice_set c.args.projects.now c.args.place
    (record x { jobs = put_each c.args.new.items x.jobs })) is

pub returns-clause-due : goal.returns-clause-due
returns-clause-due c p get =
    let q : Project = c.index_mut.result.now in
    let is : q ≡ p =
    some_is q p (sym (got (goal.at.returns-clause-due c).After-index_mut) ∙ get) in
    c.put_in.ensures.due
    ∙ ap (λ (x : Project). map next_of x.jobs) c.put_in.ensures.jobs
    ∙ ap (λ (x : Project). map next_of (put_each c.args.new.items x.jobs)) is
