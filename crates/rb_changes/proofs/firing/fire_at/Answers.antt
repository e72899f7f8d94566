use Rattle.std.proofs.Common.{◌≡◌, ◌∙◌, ◌<◌, ℕ, ℤ, List, map, length, get_or, get_or-set_same, true, false, Option, Some, bytes_eq, slice_get, slice_set, vec_len, w64, to_z, of_z, ap, sym, refl, arith, if◌then◌else◌}
use Rattle.std.proofs.Math.Facts.{to_z-of_z}
use Rattle.std.proofs.lemmas.Option.{slice_get_read, slice_get_within}
use Rattle.rb_causes.proofs.Lists.{some_is}
use Rattle.rb_plan.specs.declared.world.HeldJob.{HeldJob}
use Rattle.rb_tables.specs.Due.{next_of}
use Rattle.rb_tables.proofs.Lists.{set_same}
use Rattle.rb_changes.specs.Firing.{fired}
use Rattle.rb_changes.proofs.Stepping.{told_set}
use Rattle.rb_changes.proofs.firing.fire_at.Goals as goal

-- what was read at the place stands there
read_is : (jobs : List HeldJob) (k : ℕ) (held x : HeldJob) → slice_get jobs k ≡ Some held
    → x ≡ get_or jobs k x → held ≡ x
read_is jobs k held x get read =
    some_is held x
    (sym get ∙ slice_get_read jobs (length jobs) k x refl (slice_get_within jobs k held get) read)

-- a job of this id is fired
fired_here : (id read : List ℕ) (at seen : ℤ) (jobs : List HeldJob) (k : ℕ) (held x y : HeldJob)
    → slice_get jobs k ≡ Some held → x ≡ get_or jobs k x → y ≡ get_or jobs k y → read ≡ x.id
    → bytes_eq read id ≡ true → seen ≡ at
    → slice_set jobs k (record y { looked = seen }) ≡ slice_set jobs k (fired id at held)
fired_here id read at seen jobs k held x y get is is_y named same moment =
    let this : held ≡ x = read_is jobs k held x get is in
    let that : held ≡ y = read_is jobs k held y get is_y in
    let here : bytes_eq held.id id ≡ true =
    ap (λ n. bytes_eq n id) (ap (λ (z : HeldJob). z.id) this ∙ sym named) ∙ same in
    ap (λ (z : HeldJob). slice_set jobs k (record z { looked = seen })) (sym that)
    ∙ ap (λ t. slice_set jobs k (record held { looked = t })) moment
    ∙ sym (ap (λ b. slice_set jobs k (if b then record held { looked = at } else held)) here)

-- another stays
stays_here : (id read : List ℕ) (at : ℤ) (jobs : List HeldJob) (k : ℕ) (held x : HeldJob)
    → slice_get jobs k ≡ Some held → x ≡ get_or jobs k x → read ≡ x.id
    → bytes_eq read id ≡ false → jobs ≡ slice_set jobs k (fired id at held)
stays_here id read at jobs k held x get is named apart =
    let this : held ≡ x = read_is jobs k held x get is in
    let here : bytes_eq held.id id ≡ false =
    ap (λ n. bytes_eq n id) (ap (λ (z : HeldJob). z.id) this ∙ sym named) ∙ apart in
    set_same jobs k held get
    ∙ sym (ap (λ b. slice_set jobs k (if b then record held { looked = at } else held)) here)

-- when it is due follows
due_anew : (jobs : List HeldJob) (due : List (Option ℤ)) (k n : ℕ) (w z : HeldJob)
    (next : Option ℤ) → n ≡ length jobs → k < n → z ≡ get_or (slice_set jobs k w) k z
    → next ≡ next_of z → due ≡ map next_of jobs
    → slice_set due k next ≡ map next_of (slice_set jobs k w)
due_anew jobs due k n w z next many low is at told =
    let within : k < length jobs = omega (arith, many, low) in
    let there : get_or (slice_set jobs k w) k z ≡ w = rw get_or-set_same in
    ap (slice_set due k) (at ∙ ap next_of (is ∙ there))
    ∙ ap (λ ds. slice_set ds k (next_of w)) told ∙ told_set next_of jobs k w

pub returns-then-eq-clause-jobs : goal.returns-then-eq-clause-jobs
returns-then-eq-clause-jobs c held get =
    fired_here c.args.id.now c.as_str.result.now c.args.at (to_z w64 (of_z w64 c.args.at))
    c.args.jobs.now.items c.args.place held c.index.result.now c.index_mut.result.now get
    c.index.ensures c.index_mut.ensures.value c.as_str.ensures (sym c.eq.ensures ∙ c.if-eq.true)
    (to_z-of_z c.ranges.at)

pub returns-then-eq-clause-due : goal.returns-then-eq-clause-due
returns-then-eq-clause-due c =
    due_anew c.args.jobs.now.items c.args.due.now.items c.args.place (vec_len c.args.jobs.now)
    (record c.index_mut.result.now { looked = to_z w64 (of_z w64 c.args.at) })
    c.index-then-eq.result.now c.next_of.result c.args.jobs.now.ok.0 c.requires.place
    c.index-then-eq.ensures c.next_of.ensures c.requires.due

pub returns-else-eq-clause-jobs : goal.returns-else-eq-clause-jobs
returns-else-eq-clause-jobs c held get =
    stays_here c.args.id.now c.as_str.result.now c.args.at c.args.jobs.now.items c.args.place
    held c.index.result.now get c.index.ensures c.as_str.ensures
    (sym c.eq.ensures ∙ c.if-eq.false)

pub returns-else-eq-clause-due : goal.returns-else-eq-clause-due
returns-else-eq-clause-due c = c.requires.due
