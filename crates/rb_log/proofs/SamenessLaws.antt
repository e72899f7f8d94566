-- Two jobs are told to be the same exactly where they are.
use Rattle.std.proofs.Common.{◌≡◌, ◌∙◌, ℕ, Bool, false, ◌&&◌, nat_eq, List, [], ◌∷◌, Option, Some, None, bytes_eq, ap, refl, arith, unwrap_or}
use Rattle.std.specs.Bool.{Decides, beq}
use Rattle.std.specs.Cmp.{booleans_Decides}
use Rattle.std.specs.Cmp.Lexicographic.{pointwise}
use Rattle.std.proofs.lemmas.Bool.{and_parts, and_from}
use Rattle.std.proofs.lemmas.Bool.Decides.{Decides-eqb}
use Rattle.std.proofs.lemmas.Slice.Eq.{bytes_eq-Decides, slice_eq-Decides}
use Rattle.rb_causes.specs.declared.items.Prop.{Prop}
use Rattle.rb_cron.specs.Due.{Source}
use Rattle.rb_cron.specs.declared.fields.Fields.{Fields}
use Rattle.rb_option.specs.declared.option_def.OptionDef.{OptionDef}
use Rattle.rb_marks.specs.declared.plan.Strategy.{Strategy}
use Rattle.rb_marks.specs.declared.plan.Strategy.TheVariants.{NodeFirst, Sequential, Parallel}
use Rattle.rb_job.specs.declared.job.Job.{Job}
use Rattle.rb_job.specs.declared.job.JobStep.{JobStep}
use Rattle.rb_job.specs.declared.job.JobAct.{JobAct}
use Rattle.rb_job.specs.declared.job.JobAct.TheVariants.{Exec, Script, Refer}
use Rattle.rb_job.specs.declared.job.Orchestrator.{Orchestrator}
use Rattle.rb_job.specs.declared.job.Orchestrator.TheVariants.{Plain, Subset, RankTiered, MaxPercentage}
use Rattle.rb_plan.specs.Access.{property}
use Rattle.rb_log.specs.Sameness.{same_texts, same_if_any, same_prop, same_act, same_step, same_option, same_strategy, same_orchestrator, same_fields, same_schedule, same_work, same_nodes, same_leave, same_job}

-- ---- tests that decide

-- a test that decides whether two are equal
abbrev Tells : {A : Type 0} → (A → A → Bool) → Type 0
Tells {A} same = (a b : A) → Decides (same a b) (a ≡ b)

both : {P Q : Type 0} (p q : Bool) → Decides p P → Decides q Q → Decides (p && q) (P × Q)
both p q f g = (
  λ h. let parts = and_parts p q h in (f.0 parts.0, g.0 parts.1),
  λ h. and_from p q (f.1 h.0) (g.1 h.1),
)

by_facts : {P Q : Type 0} (p : Bool) → Decides p P → (P → Q) → (Q → P) → Decides p Q
by_facts p f to from = (λ h. to (f.0 h), λ h. f.1 (from h))

never : {P : Type 0} → (P → ⊥) → Decides false P
never h = (λ k. absurd (grind (arith, k)), λ p. absurd (h p))

texts_tell : Tells same_texts
texts_tell xs ys = slice_eq-Decides bytes_eq-Decides xs ys (same_texts xs ys) refl

lists_tell : {A : Type 0} (same : A → A → Bool) → Tells same → Tells (pointwise same)
lists_tell same tells xs ys = slice_eq-Decides tells xs ys (pointwise same xs ys) refl

if_any_tells : {A : Type 0} (same : A → A → Bool) → Tells same → Tells (same_if_any same)
if_any_tells same tells None None = (λ h. refl, λ h. refl)
if_any_tells same tells None (Some y) = never (λ h. grind (arith, h))
if_any_tells same tells (Some x) None = never (λ h. grind (arith, h))
if_any_tells same tells (Some x) (Some y) =
    by_facts (same x y) (tells x y) (λ h. ap Some h) (λ h. ap (λ o. unwrap_or o x) h)

-- ---- of parts

prop_is : (key other_key text other_text : List ℕ) (k : key ≡ other_key) (t : text ≡ other_text)
    → property key text ≡ property other_key other_text
prop_is key other_key text other_text k t = cc

prop_tells : Tells same_prop
prop_tells a b =
    by_facts (same_prop a b)
    (both (bytes_eq a.key b.key) (bytes_eq a.text b.text) (bytes_eq-Decides a.key b.key)
    (bytes_eq-Decides a.text b.text))
    (λ h. prop_is a.key b.key a.text b.text h.0 h.1) (λ h. (ap (λ p. p.key) h, ap (λ p. p.text) h))

-- what stands in an act: its texts, its words and its pairs
abbrev words_in : JobAct → List (List ℕ)
words_in (Exec words) = words
words_in (Script text args) = args
words_in (Refer group name args) = name ∷ []

abbrev text_in : JobAct → List ℕ
text_in (Exec words) = []
text_in (Script text args) = text
text_in (Refer group name args) = group

abbrev pairs_in : JobAct → List Prop
pairs_in (Exec words) = []
pairs_in (Script text args) = []
pairs_in (Refer group name args) = args

abbrev first_or : List ℕ → List (List ℕ) → List ℕ
first_or other [] = other
first_or other (text ∷ texts) = text

script_is : (text other : List ℕ) (args others : List (List ℕ)) → (text ≡ other) × (args ≡ others)
    → Script text args ≡ Script other others
script_is text other args others h = let t = h.0 in let a = h.1 in cc

refer_is : (group other_group name other_name : List ℕ) (args others : List Prop)
    → ((group ≡ other_group) × (name ≡ other_name)) × (args ≡ others)
    → Refer group name args ≡ Refer other_group other_name others
refer_is group other_group name other_name args others h =
    let g = h.0.0 in let n = h.0.1 in let a = h.1 in cc

act_tells : Tells same_act
act_tells (Exec words) (Exec others) =
    by_facts (same_texts words others) (texts_tell words others) (λ h. ap Exec h)
    (λ h. ap words_in h)
act_tells (Script text args) (Script other others) =
    by_facts (bytes_eq text other && same_texts args others)
    (both (bytes_eq text other) (same_texts args others) (bytes_eq-Decides text other)
    (texts_tell args others))
    (script_is text other args others) (λ h. (ap text_in h, ap words_in h))
act_tells (Refer group name args) (Refer other_group other_name others) =
    by_facts ((bytes_eq group other_group && bytes_eq name other_name)
    && pointwise same_prop args others)
    (both (bytes_eq group other_group && bytes_eq name other_name) (pointwise same_prop args others)
    (both (bytes_eq group other_group) (bytes_eq name other_name)
    (bytes_eq-Decides group other_group) (bytes_eq-Decides name other_name))
    (lists_tell same_prop prop_tells args others))
    (refer_is group other_group name other_name args others)
    (λ h. ((ap text_in h, ap (λ a. first_or [] (words_in a)) h), ap pairs_in h))
act_tells (Exec words) (Script text args) = never (λ h. grind (arith, h))
act_tells (Exec words) (Refer group name args) = never (λ h. grind (arith, h))
act_tells (Script text args) (Exec words) = never (λ h. grind (arith, h))
act_tells (Script text args) (Refer group name others) = never (λ h. grind (arith, h))
act_tells (Refer group name args) (Exec words) = never (λ h. grind (arith, h))
act_tells (Refer group name args) (Script text others) = never (λ h. grind (arith, h))

abbrev step_by : JobAct → Option JobAct → Bool → JobStep
step_by act handler keep = record { act = act; handler = handler; keep_on_success = keep }

step_is : (act act' : JobAct) (handler handler' : Option JobAct) (keep keep' : Bool)
    (x : act ≡ act') (y : handler ≡ handler') (z : keep ≡ keep')
    → step_by act handler keep ≡ step_by act' handler' keep'
step_is act act' handler handler' keep keep' x y z = cc

step_tells : Tells same_step
step_tells a b =
    by_facts (same_step a b)
    (both (same_act a.act b.act && same_if_any same_act a.handler b.handler)
    (beq a.keep_on_success b.keep_on_success)
    (both (same_act a.act b.act) (same_if_any same_act a.handler b.handler)
    (act_tells a.act b.act) (if_any_tells same_act act_tells a.handler b.handler))
    (booleans_Decides a.keep_on_success b.keep_on_success))
    (λ h. step_is a.act b.act a.handler b.handler a.keep_on_success b.keep_on_success h.0.0 h.0.1
    h.1)
    (λ h. ((ap (λ s. s.act) h, ap (λ s. s.handler) h), ap (λ s. s.keep_on_success) h))

abbrev option_by : List ℕ → Option (List ℕ) → List (List ℕ) → Bool → Bool → Option (List ℕ) → Bool
    → List ℕ → OptionDef
option_by name default values enforced required pattern multivalued delimiter = record {
  name = name;
  default = default;
  values = values;
  enforced = enforced;
  required = required;
  pattern = pattern;
  multivalued = multivalued;
  delimiter = delimiter;
}

option_is : (name name' : List ℕ) (default default' : Option (List ℕ))
    (values values' : List (List ℕ)) (enforced enforced' required required' : Bool)
    (pattern pattern' : Option (List ℕ)) (multivalued multivalued' : Bool)
    (delimiter delimiter' : List ℕ) (n : name ≡ name') (d : default ≡ default')
    (v : values ≡ values') (e : enforced ≡ enforced') (r : required ≡ required')
    (p : pattern ≡ pattern') (m : multivalued ≡ multivalued') (l : delimiter ≡ delimiter')
    → option_by name default values enforced required pattern multivalued delimiter
    ≡ option_by name' default' values' enforced' required' pattern' multivalued' delimiter'
option_is name name' default default' values values' enforced enforced' required required' pattern
    pattern' multivalued multivalued' delimiter delimiter' n d v e r p m l = cc

option_tells : Tells same_option
option_tells a b =
    by_facts (same_option a b)
    (both _ _
    (both _ _
    (both _ _ (bytes_eq-Decides a.name b.name)
    (if_any_tells bytes_eq bytes_eq-Decides a.default b.default))
    (both _ _ (texts_tell a.values b.values) (booleans_Decides a.enforced b.enforced)))
    (both _ _
    (both _ _ (booleans_Decides a.required b.required)
    (if_any_tells bytes_eq bytes_eq-Decides a.pattern b.pattern))
    (both _ _ (booleans_Decides a.multivalued b.multivalued)
    (bytes_eq-Decides a.delimiter b.delimiter))))
    (λ h. option_is a.name b.name a.default b.default a.values b.values a.enforced b.enforced
    a.required b.required a.pattern b.pattern a.multivalued b.multivalued a.delimiter
    b.delimiter h.0.0.0 h.0.0.1 h.0.1.0 h.0.1.1 h.1.0.0 h.1.0.1 h.1.1.0 h.1.1.1)
    (λ h. (
      ((ap (λ o. o.name) h, ap (λ o. o.default) h), (ap (λ o. o.values) h, ap (λ o. o.enforced) h)),
      (
        (ap (λ o. o.required) h, ap (λ o. o.pattern) h),
        (ap (λ o. o.multivalued) h, ap (λ o. o.delimiter) h),
      ),
    ))

strategy_tells : Tells same_strategy
strategy_tells NodeFirst NodeFirst = (λ h. refl, λ h. refl)
strategy_tells Sequential Sequential = (λ h. refl, λ h. refl)
strategy_tells Parallel Parallel = (λ h. refl, λ h. refl)
strategy_tells NodeFirst Sequential = never (λ h. grind (arith, h))
strategy_tells NodeFirst Parallel = never (λ h. grind (arith, h))
strategy_tells Sequential NodeFirst = never (λ h. grind (arith, h))
strategy_tells Sequential Parallel = never (λ h. grind (arith, h))
strategy_tells Parallel NodeFirst = never (λ h. grind (arith, h))
strategy_tells Parallel Sequential = never (λ h. grind (arith, h))

abbrev number_in : Orchestrator → ℕ
number_in Plain = 0
number_in (Subset count) = count
number_in RankTiered = 0
number_in (MaxPercentage percent) = percent

orchestrator_tells : Tells same_orchestrator
orchestrator_tells Plain Plain = (λ h. refl, λ h. refl)
orchestrator_tells RankTiered RankTiered = (λ h. refl, λ h. refl)
orchestrator_tells (Subset m) (Subset n) =
    by_facts (nat_eq m n) (Decides-eqb m n) (λ h. ap Subset h) (λ h. ap number_in h)
orchestrator_tells (MaxPercentage m) (MaxPercentage n) =
    by_facts (nat_eq m n) (Decides-eqb m n) (λ h. ap MaxPercentage h) (λ h. ap number_in h)
orchestrator_tells Plain (Subset n) = never (λ h. grind (arith, h))
orchestrator_tells Plain RankTiered = never (λ h. grind (arith, h))
orchestrator_tells Plain (MaxPercentage n) = never (λ h. grind (arith, h))
orchestrator_tells (Subset m) Plain = never (λ h. grind (arith, h))
orchestrator_tells (Subset m) RankTiered = never (λ h. grind (arith, h))
orchestrator_tells (Subset m) (MaxPercentage n) = never (λ h. grind (arith, h))
orchestrator_tells RankTiered Plain = never (λ h. grind (arith, h))
orchestrator_tells RankTiered (Subset n) = never (λ h. grind (arith, h))
orchestrator_tells RankTiered (MaxPercentage n) = never (λ h. grind (arith, h))
orchestrator_tells (MaxPercentage m) Plain = never (λ h. grind (arith, h))
orchestrator_tells (MaxPercentage m) (Subset n) = never (λ h. grind (arith, h))
orchestrator_tells (MaxPercentage m) RankTiered = never (λ h. grind (arith, h))

-- ---- of schedules

abbrev fields_by : List ℕ → List ℕ → List ℕ → List ℕ → List ℕ → List ℕ → List ℕ → Fields
fields_by seconds minute hour day month weekday year = record {
  seconds = seconds;
  minute = minute;
  hour = hour;
  day = day;
  month = month;
  weekday = weekday;
  year = year;
}

fields_are : (seconds seconds' minute minute' hour hour' day day' month month' weekday weekday'
    year year' : List ℕ) (s : seconds ≡ seconds') (m : minute ≡ minute') (h : hour ≡ hour')
    (d : day ≡ day') (n : month ≡ month') (w : weekday ≡ weekday') (y : year ≡ year')
    → fields_by seconds minute hour day month weekday year
    ≡ fields_by seconds' minute' hour' day' month' weekday' year'
fields_are seconds seconds' minute minute' hour hour' day day' month month' weekday weekday' year
    year' s m h d n w y = cc

fields_tell : Tells same_fields
fields_tell f g =
    by_facts (same_fields f g)
    (both _ _
    (both _ _
    (both _ _ (bytes_eq-Decides f.seconds g.seconds) (bytes_eq-Decides f.minute g.minute))
    (both _ _ (bytes_eq-Decides f.hour g.hour) (bytes_eq-Decides f.day g.day)))
    (both _ _
    (both _ _ (bytes_eq-Decides f.month g.month) (bytes_eq-Decides f.weekday g.weekday))
    (bytes_eq-Decides f.year g.year)))
    (λ h. fields_are f.seconds g.seconds f.minute g.minute f.hour g.hour f.day g.day f.month g.month
    f.weekday g.weekday f.year g.year h.0.0.0 h.0.0.1 h.0.1.0 h.0.1.1 h.1.0.0 h.1.0.1 h.1.1)
    (λ h. (
      (
        (ap (λ x. x.seconds) h, ap (λ x. x.minute) h),
        (ap (λ x. x.hour) h, ap (λ x. x.day) h),
      ),
      ((ap (λ x. x.month) h, ap (λ x. x.weekday) h), ap (λ x. x.year) h),
    ))

abbrev source_by : Fields → List ℕ → Source
source_by fields rule = record { fields = fields; rule = rule }

schedule_is : (fields fields' : Fields) (rule rule' : List ℕ) (f : fields ≡ fields')
    (r : rule ≡ rule') → source_by fields rule ≡ source_by fields' rule'
schedule_is fields fields' rule rule' f r = cc

schedule_tells : Tells same_schedule
schedule_tells a b =
    by_facts (same_schedule a b)
    (both _ _ (fields_tell a.fields b.fields) (bytes_eq-Decides a.rule b.rule))
    (λ h. schedule_is a.fields b.fields a.rule b.rule h.0 h.1)
    (λ h. (ap (λ s. s.fields) h, ap (λ s. s.rule) h))

-- ---- of jobs

work_tells : (a b : Job) → Decides (same_work a b)
    ((((a.id ≡ b.id) × (a.name ≡ b.name)) × ((a.group ≡ b.group) × (a.strategy ≡ b.strategy)))
    × ((a.keepgoing ≡ b.keepgoing) × ((a.steps ≡ b.steps) × (a.options ≡ b.options))))
work_tells a b =
    both _ _
    (both _ _
    (both _ _ (if_any_tells bytes_eq bytes_eq-Decides a.id b.id) (bytes_eq-Decides a.name b.name))
    (both _ _ (bytes_eq-Decides a.group b.group) (strategy_tells a.strategy b.strategy)))
    (both _ _ (booleans_Decides a.keepgoing b.keepgoing)
    (both _ _ (lists_tell same_step step_tells a.steps b.steps)
    (lists_tell same_option option_tells a.options b.options)))

nodes_tell : (a b : Job) → Decides (same_nodes a b)
    ((((a.filter ≡ b.filter) × (a.threads ≡ b.threads))
    × ((a.keep_nodes ≡ b.keep_nodes) × (a.exclude_first ≡ b.exclude_first)))
    × (((a.success_on_empty ≡ b.success_on_empty) × (a.rank_by ≡ b.rank_by))
    × ((a.rank_down ≡ b.rank_down) × (a.orchestrator ≡ b.orchestrator))))
nodes_tell a b =
    both _ _
    (both _ _
    (both _ _ (bytes_eq-Decides a.filter b.filter) (Decides-eqb a.threads b.threads))
    (both _ _ (booleans_Decides a.keep_nodes b.keep_nodes)
    (booleans_Decides a.exclude_first b.exclude_first)))
    (both _ _
    (both _ _ (booleans_Decides a.success_on_empty b.success_on_empty)
    (if_any_tells bytes_eq bytes_eq-Decides a.rank_by b.rank_by))
    (both _ _ (booleans_Decides a.rank_down b.rank_down)
    (orchestrator_tells a.orchestrator b.orchestrator)))

leave_tells : (a b : Job) → Decides (same_leave a b)
    (((a.multiple ≡ b.multiple) × (a.enabled ≡ b.enabled))
    × ((a.schedule ≡ b.schedule) × (a.schedule_enabled ≡ b.schedule_enabled)))
leave_tells a b =
    both _ _
    (both _ _ (booleans_Decides a.multiple b.multiple) (booleans_Decides a.enabled b.enabled))
    (both _ _ (if_any_tells same_schedule schedule_tells a.schedule b.schedule)
    (booleans_Decides a.schedule_enabled b.schedule_enabled))

abbrev with_work : Option (List ℕ) → List ℕ → List ℕ → Strategy → Bool → List JobStep
    → List OptionDef → Job → Job
with_work id name group strategy keepgoing steps options job = record job {
  id = id;
  name = name;
  group = group;
  strategy = strategy;
  keepgoing = keepgoing;
  steps = steps;
  options = options;
}

work_is : (id id' : Option (List ℕ)) (name name' group group' : List ℕ)
    (strategy strategy' : Strategy) (keepgoing keepgoing' : Bool) (steps steps' : List JobStep)
    (options options' : List OptionDef) (job : Job) (i : id ≡ id') (n : name ≡ name')
    (g : group ≡ group') (s : strategy ≡ strategy') (k : keepgoing ≡ keepgoing')
    (t : steps ≡ steps') (o : options ≡ options')
    → with_work id name group strategy keepgoing steps options job
    ≡ with_work id' name' group' strategy' keepgoing' steps' options' job
work_is id id' name name' group group' strategy strategy' keepgoing keepgoing' steps steps' options
    options' job i n g s k t o = cc

abbrev with_nodes : List ℕ → ℕ → Bool → Bool → Bool → Option (List ℕ) → Bool → Orchestrator → Job
    → Job
with_nodes filter threads keep first empty by down orchestrator job = record job {
  filter = filter;
  threads = threads;
  keep_nodes = keep;
  exclude_first = first;
  success_on_empty = empty;
  rank_by = by;
  rank_down = down;
  orchestrator = orchestrator;
}

nodes_are : (filter filter' : List ℕ) (threads threads' : ℕ)
    (keep keep' first first' empty empty' : Bool) (by by' : Option (List ℕ)) (down down' : Bool)
    (orchestrator orchestrator' : Orchestrator) (job : Job) (f : filter ≡ filter')
    (t : threads ≡ threads') (k : keep ≡ keep') (x : first ≡ first') (e : empty ≡ empty')
    (b : by ≡ by') (d : down ≡ down') (o : orchestrator ≡ orchestrator')
    → with_nodes filter threads keep first empty by down orchestrator job
    ≡ with_nodes filter' threads' keep' first' empty' by' down' orchestrator' job
nodes_are filter filter' threads threads' keep keep' first first' empty empty' by by' down down'
    orchestrator orchestrator' job f t k x e b d o = cc

abbrev with_leave : Bool → Bool → Option Source → Bool → Job → Job
with_leave multiple enabled schedule scheduled job = record job {
  multiple = multiple;
  enabled = enabled;
  schedule = schedule;
  schedule_enabled = scheduled;
}

leave_is : (multiple multiple' enabled enabled' : Bool) (schedule schedule' : Option Source)
    (scheduled scheduled' : Bool) (job : Job) (m : multiple ≡ multiple') (e : enabled ≡ enabled')
    (c : schedule ≡ schedule') (s : scheduled ≡ scheduled')
    → with_leave multiple enabled schedule scheduled job
    ≡ with_leave multiple' enabled' schedule' scheduled' job
leave_is multiple multiple' enabled enabled' schedule schedule' scheduled scheduled' job m e c s =
    cc

pub job_tells : (a b : Job) → Decides (same_job a b) (a ≡ b)
job_tells a b =
    by_facts (same_job a b)
    (both _ _ (work_tells a b) (both _ _ (nodes_tell a b) (leave_tells a b)))
    (λ h.
    work_is a.id b.id a.name b.name a.group b.group a.strategy b.strategy a.keepgoing
    b.keepgoing
    a.steps b.steps a.options b.options a h.0.0.0.0 h.0.0.0.1 h.0.0.1.0 h.0.0.1.1 h.0.1.0
    h.0.1.1.0 h.0.1.1.1
    ∙ nodes_are a.filter b.filter a.threads b.threads a.keep_nodes b.keep_nodes a.exclude_first
    b.exclude_first a.success_on_empty b.success_on_empty a.rank_by b.rank_by a.rank_down
    b.rank_down a.orchestrator b.orchestrator
    (with_work b.id b.name b.group b.strategy b.keepgoing b.steps b.options a)
    h.1.0.0.0.0 h.1.0.0.0.1 h.1.0.0.1.0 h.1.0.0.1.1 h.1.0.1.0.0 h.1.0.1.0.1 h.1.0.1.1.0
    h.1.0.1.1.1
    ∙ leave_is a.multiple b.multiple a.enabled b.enabled a.schedule b.schedule a.schedule_enabled
    b.schedule_enabled
    (with_nodes b.filter b.threads b.keep_nodes b.exclude_first b.success_on_empty b.rank_by
    b.rank_down b.orchestrator
    (with_work b.id b.name b.group b.strategy b.keepgoing b.steps b.options a))
    h.1.1.0.0 h.1.1.0.1 h.1.1.1.0 h.1.1.1.1)
    (λ h. (
      (
        ((ap (λ j. j.id) h, ap (λ j. j.name) h), (ap (λ j. j.group) h, ap (λ j. j.strategy) h)),
        (ap (λ j. j.keepgoing) h, (ap (λ j. j.steps) h, ap (λ j. j.options) h)),
      ),
      (
        (
          (
            (ap (λ j. j.filter) h, ap (λ j. j.threads) h),
            (ap (λ j. j.keep_nodes) h, ap (λ j. j.exclude_first) h),
          ),
          (
            (ap (λ j. j.success_on_empty) h, ap (λ j. j.rank_by) h),
            (ap (λ j. j.rank_down) h, ap (λ j. j.orchestrator) h),
          ),
        ),
        (
          (ap (λ j. j.multiple) h, ap (λ j. j.enabled) h),
          (ap (λ j. j.schedule) h, ap (λ j. j.schedule_enabled) h),
        ),
      ),
    ))
