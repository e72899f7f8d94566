use Rattle.std.proofs.Common.{◌≡◌, ◌∙◌, ◌<◌, ℕ, List, map, length, vec_len, get_or, Bool, true, false, Option, ℤ, Some, slice_get, slice_set, ap, sym, subst, refl, if◌then◌else◌}
use Rattle.std.proofs.lemmas.Option.{slice_get_read, slice_get_within}
use Rattle.std.proofs.lemmas.List.{length-map}
use Rattle.rb_causes.proofs.Lists.{some_is}
use Rattle.rb_plan.specs.declared.world.HeldJob.{HeldJob}
use Rattle.rb_log.specs.World.{unless_same}
use Rattle.rb_tables.specs.Due.{next_of}
use Rattle.rb_changes.specs.Unchanged.{is_unchanged}
use Rattle.rb_tables.proofs.Lists.{set_same}
use Rattle.rb_changes.proofs.Stepping.{told_set}
use Rattle.rb_changes.proofs.jobs.set_job.Goals as goal

-- what was read at the place stands there, and is the same as the new one or not
same_here : (jobs : List HeldJob) (k : ℕ) (held x new : HeldJob) (b : Bool)
    → slice_get jobs k ≡ Some held → x ≡ get_or jobs k x → b ≡ is_unchanged x new
    → is_unchanged held new ≡ b
same_here jobs k held x new b get read is =
    let this : held ≡ x =
    some_is held x
    (sym get
    ∙ slice_get_read jobs (length jobs) k x refl (slice_get_within jobs k held get) read) in
    ap (λ (y : HeldJob). is_unchanged y new) this ∙ sym is

put_here : (jobs : List HeldJob) (k : ℕ) (held new : HeldJob) → is_unchanged held new ≡ false
    → slice_set jobs k new ≡ slice_set jobs k (unless_same new held)
unfolding is_unchanged
put_here jobs k held new is = sym (ap (λ b. slice_set jobs k (if b then held else new)) is)

stays_here : (jobs : List HeldJob) (k : ℕ) (held new : HeldJob) → slice_get jobs k ≡ Some held
    → is_unchanged held new ≡ true → jobs ≡ slice_set jobs k (unless_same new held)
unfolding is_unchanged
stays_here jobs k held new get is =
    set_same jobs k held get ∙ sym (ap (λ b. slice_set jobs k (if b then held else new)) is)

-- when it is due follows
due_anew : (jobs put : List HeldJob) (due made : List (Option ℤ)) (k : ℕ) (new : HeldJob)
    → put ≡ slice_set jobs k new → made ≡ slice_set due k (next_of new)
    → due ≡ map next_of jobs → made ≡ map next_of put
due_anew jobs put due made k new at is told =
    is ∙ ap (λ ds. slice_set ds k (next_of new)) told ∙ told_set next_of jobs k new
    ∙ ap (map next_of) (sym at)

-- the place is one among these too
due_place : (jobs : List HeldJob) (due : List (Option ℤ)) (n m at : ℕ)
    → due ≡ map next_of jobs → n ≡ length jobs → m ≡ length due → at < n → at < m
due_place jobs due n m at is many also h =
    let same : m ≡ n = also ∙ ap length is ∙ length-map jobs next_of ∙ sym many in
    subst (λ x. at < x) (sym same) h

pub put_over-requires : goal.put_over-requires
put_over-requires c = record {
  place = c.requires.place;
  due_place = due_place c.args.jobs.now.items c.args.due.now.items (vec_len c.args.jobs.now)
      (vec_len c.args.due.now) c.args.place c.requires.due c.args.jobs.now.ok.0
      c.args.due.now.ok.0 c.requires.place;
}

pub returns-else-is_unchanged-clause-held : goal.returns-else-is_unchanged-clause-held
returns-else-is_unchanged-clause-held c held get =
    c.put_over.ensures.held
    ∙ put_here c.args.jobs.now.items c.args.place held c.args.new
    (same_here c.args.jobs.now.items c.args.place held c.index.result.now c.args.new false get
    c.index.ensures c.if-is_unchanged.ensures)

pub returns-else-is_unchanged-clause-due : goal.returns-else-is_unchanged-clause-due
returns-else-is_unchanged-clause-due c =
    due_anew c.args.jobs.now.items c.put_over.new.jobs.items c.args.due.now.items
    c.put_over.new.due.items c.args.place c.args.new c.put_over.ensures.held
    c.put_over.ensures.due c.requires.due

pub returns-else-is_unchanged-clause-memory : goal.returns-else-is_unchanged-clause-memory
returns-else-is_unchanged-clause-memory c = c.put_over.ensures.memory

pub returns-else-is_unchanged-clause-due_memory : goal.returns-else-is_unchanged-clause-due_memory
returns-else-is_unchanged-clause-due_memory c = c.put_over.ensures.due_memory

pub returns-then-is_unchanged-clause-held : goal.returns-then-is_unchanged-clause-held
returns-then-is_unchanged-clause-held c held get =
    stays_here c.args.jobs.now.items c.args.place held c.args.new get
    (same_here c.args.jobs.now.items c.args.place held c.index.result.now c.args.new true get
    c.index.ensures c.if-is_unchanged.ensures)

pub returns-then-is_unchanged-clause-due : goal.returns-then-is_unchanged-clause-due
returns-then-is_unchanged-clause-due c = c.requires.due

pub returns-then-is_unchanged-clause-memory : goal.returns-then-is_unchanged-clause-memory
returns-then-is_unchanged-clause-memory c = refl

pub returns-then-is_unchanged-clause-due_memory : goal.returns-then-is_unchanged-clause-due_memory
returns-then-is_unchanged-clause-due_memory c = refl
