-- Records whose fields are equal.
use Rattle.std.proofs.Common.{◌≡◌, ◌∙◌, ap}
use Rattle.rb_cron.specs.declared.fields.Fields.{Fields}
use Rattle.rb_option.specs.declared.option_def.OptionDef.{OptionDef}
use Rattle.rb_job.specs.declared.job.Job.{Job}

pub fields_same : (a b : Fields)
    → a.seconds ≡ b.seconds
    → a.minute ≡ b.minute
    → a.hour ≡ b.hour
    → a.day ≡ b.day
    → a.month ≡ b.month
    → a.weekday ≡ b.weekday
    → a.year ≡ b.year
    → a ≡ b
fields_same a b p0 p1 p2 p3 p4 p5 p6 =
    let a1 : Fields = record a { seconds = b.seconds } in
    let a2 : Fields = record a1 { minute = b.minute } in
    let a3 : Fields = record a2 { hour = b.hour } in
    let a4 : Fields = record a3 { day = b.day } in
    let a5 : Fields = record a4 { month = b.month } in
    let a6 : Fields = record a5 { weekday = b.weekday } in
    ap (λ x. record a { seconds = x }) p0
    ∙ ap (λ x. record a1 { minute = x }) p1
    ∙ ap (λ x. record a2 { hour = x }) p2
    ∙ ap (λ x. record a3 { day = x }) p3
    ∙ ap (λ x. record a4 { month = x }) p4
    ∙ ap (λ x. record a5 { weekday = x }) p5
    ∙ ap (λ x. record a6 { year = x }) p6

pub option_same : (a b : OptionDef)
    → a.name ≡ b.name
    → a.default ≡ b.default
    → a.values ≡ b.values
    → a.enforced ≡ b.enforced
    → a.required ≡ b.required
    → a.pattern ≡ b.pattern
    → a.multivalued ≡ b.multivalued
    → a.delimiter ≡ b.delimiter
    → a ≡ b
option_same a b p0 p1 p2 p3 p4 p5 p6 p7 =
    let a1 : OptionDef = record a { name = b.name } in
    let a2 : OptionDef = record a1 { default = b.default } in
    let a3 : OptionDef = record a2 { values = b.values } in
    let a4 : OptionDef = record a3 { enforced = b.enforced } in
    let a5 : OptionDef = record a4 { required = b.required } in
    let a6 : OptionDef = record a5 { pattern = b.pattern } in
    let a7 : OptionDef = record a6 { multivalued = b.multivalued } in
    ap (λ x. record a { name = x }) p0
    ∙ ap (λ x. record a1 { default = x }) p1
    ∙ ap (λ x. record a2 { values = x }) p2
    ∙ ap (λ x. record a3 { enforced = x }) p3
    ∙ ap (λ x. record a4 { required = x }) p4
    ∙ ap (λ x. record a5 { pattern = x }) p5
    ∙ ap (λ x. record a6 { multivalued = x }) p6
    ∙ ap (λ x. record a7 { delimiter = x }) p7

pub job_same : (a b : Job)
    → a.id ≡ b.id
    → a.name ≡ b.name
    → a.group ≡ b.group
    → a.strategy ≡ b.strategy
    → a.keepgoing ≡ b.keepgoing
    → a.steps ≡ b.steps
    → a.options ≡ b.options
    → a.filter ≡ b.filter
    → a.threads ≡ b.threads
    → a.keep_nodes ≡ b.keep_nodes
    → a.exclude_first ≡ b.exclude_first
    → a.success_on_empty ≡ b.success_on_empty
    → a.rank_by ≡ b.rank_by
    → a.rank_down ≡ b.rank_down
    → a.orchestrator ≡ b.orchestrator
    → a.schedule ≡ b.schedule
    → a.multiple ≡ b.multiple
    → a.enabled ≡ b.enabled
    → a.schedule_enabled ≡ b.schedule_enabled
    → a ≡ b
job_same a b p0 p1 p2 p3 p4 p5 p6 p7 p8 p9 p10 p11 p12 p13 p14 p15 p16 p17 p18 =
    let a1 : Job = record a { id = b.id } in
    let a2 : Job = record a1 { name = b.name } in
    let a3 : Job = record a2 { group = b.group } in
    let a4 : Job = record a3 { strategy = b.strategy } in
    let a5 : Job = record a4 { keepgoing = b.keepgoing } in
    let a6 : Job = record a5 { steps = b.steps } in
    let a7 : Job = record a6 { options = b.options } in
    let a8 : Job = record a7 { filter = b.filter } in
    let a9 : Job = record a8 { threads = b.threads } in
    let a10 : Job = record a9 { keep_nodes = b.keep_nodes } in
    let a11 : Job = record a10 { exclude_first = b.exclude_first } in
    let a12 : Job = record a11 { success_on_empty = b.success_on_empty } in
    let a13 : Job = record a12 { rank_by = b.rank_by } in
    let a14 : Job = record a13 { rank_down = b.rank_down } in
    let a15 : Job = record a14 { orchestrator = b.orchestrator } in
    let a16 : Job = record a15 { schedule = b.schedule } in
    let a17 : Job = record a16 { multiple = b.multiple } in
    let a18 : Job = record a17 { enabled = b.enabled } in
    ap (λ x. record a { id = x }) p0
    ∙ ap (λ x. record a1 { name = x }) p1
    ∙ ap (λ x. record a2 { group = x }) p2
    ∙ ap (λ x. record a3 { strategy = x }) p3
    ∙ ap (λ x. record a4 { keepgoing = x }) p4
    ∙ ap (λ x. record a5 { steps = x }) p5
    ∙ ap (λ x. record a6 { options = x }) p6
    ∙ ap (λ x. record a7 { filter = x }) p7
    ∙ ap (λ x. record a8 { threads = x }) p8
    ∙ ap (λ x. record a9 { keep_nodes = x }) p9
    ∙ ap (λ x. record a10 { exclude_first = x }) p10
    ∙ ap (λ x. record a11 { success_on_empty = x }) p11
    ∙ ap (λ x. record a12 { rank_by = x }) p12
    ∙ ap (λ x. record a13 { rank_down = x }) p13
    ∙ ap (λ x. record a14 { orchestrator = x }) p14
    ∙ ap (λ x. record a15 { schedule = x }) p15
    ∙ ap (λ x. record a16 { multiple = x }) p16
    ∙ ap (λ x. record a17 { enabled = x }) p17
    ∙ ap (λ x. record a18 { schedule_enabled = x }) p18
