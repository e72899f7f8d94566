-- What is read of the trees of jobs.
use Rattle.std.proofs.Common.{◌≡◌, ◌∙◌, ℕ, ◌+◌, Bool, true, false, cond, not, nat_eq, List, [], ◌∷◌, ◌++◌, map, codes, decimal, bytes_eq, Option, Some, None, option_map, unwrap_or, Ok, refl, ap, sym, arith}
use Rattle.std.specs.List.{flat_map, AllByRecursion as Each}
use Rattle.std.specs.Option.{option_or}
use Rattle.std.specs.Str.{IsUtf8}
use Rattle.std.proofs.lemmas.Str.{IsUtf8-append}
use Rattle.std.proofs.lemmas.Bool.Decides.{nat_tests}
use lib.Utf8.{encode}
use Rattle.rb_causes.specs.Signs.{hyphen}
use Rattle.rb_causes.specs.Texts.{is_empty}
use Rattle.rb_causes.specs.declared.items.Prop.{Prop}
use Rattle.rb_causes.proofs.Texts.{text_is}
use Rattle.rb_yaml.specs.Tree.{YamlTree}
use Rattle.rb_values.specs.Values.{Entry, scalar_or_empty, sequence_items, map_entries, value_at, text_by, text_at, items_by, entries_by, entries_at}
use Rattle.rb_cron.specs.Due.{Source}
use Rattle.rb_cron.specs.declared.fields.Fields.{Fields}
use Rattle.rb_cron.specs.declared.zone.NamedZone.{NamedZone}
use Rattle.rb_marks.specs.declared.plan.Strategy.{Strategy}
use Rattle.rb_marks.specs.declared.plan.Strategy.TheVariants.{NodeFirst, Sequential, Parallel}
use Rattle.rb_option.specs.Arguments.{dashed_name, pair_onto, paired, pairs_from, pairs_in, args_of}
use Rattle.rb_option.specs.declared.option_def.OptionDef.{OptionDef}
use Rattle.rb_job.specs.Parts.{is_this_text, number_by, orchestrator_in}
use Rattle.rb_job.specs.Schedules.{fields_written, schedule_by}
use Rattle.rb_job.specs.Fields.{text_or, truth_by, truth_or, threads_in, words_by, pairs_or_none, pairs_of, pairs_by, run_act_by, run_act, reference_of, act_by, act_of, handler_by, step_with, step_of, option_with, option_of, strategy_by, schedule_at, job_with, job_of}
use Rattle.rb_job.specs.declared.job.Job.{Job}
use Rattle.rb_job.specs.declared.job.JobStep.{JobStep}
use Rattle.rb_job.specs.declared.job.JobAct.{JobAct}
use Rattle.rb_job.specs.declared.job.JobAct.TheVariants.{Exec, Script, Refer}
use Rattle.rb_job.specs.declared.job.Orchestrator.{Orchestrator}
use Rattle.rb_job.specs.declared.job.Orchestrator.TheVariants.{Plain, Subset, RankTiered, MaxPercentage}
use Rattle.rb_canon.specs.Values.{CanonTree, one_text, list_of}
use Rattle.rb_canon_laws.specs.Trees.{tree_of}
use Rattle.rb_export.specs.Policies.{Entry as Field}
use Rattle.rb_export.specs.Slots.{Slot, present, map_with, text, text_if_any, text_unless, true_if, false_unless, list_if_any, map_if_any}
use Rattle.rb_export.specs.Words.{words_text, dashed, pair_words, pairs_text}
use Rattle.rb_export.specs.Jobs.{args_value, pairs_value, reference_slots, act_slots, handler_slots, handler_value, step_slots, step_value, strategy_value, sequence_slots, rank_order_value, dispatch_slots, nodes_slots, option_slots, option_value, orchestrator_value, schedule_slots, schedule_value, job_slots, job_value}
use Rattle.rb_export_laws.specs.ReadJobs.{IsReadPair, ArePairs, IsReadAct, IsReadHandler, IsReadStep, IsNumber, IsReadOrchestrator, IsReadSchedule, IsReadJob}
use Rattle.rb_export_laws.proofs.SlotFacts.{slot_at, slots_differ, read_slots, present_at, map_with_read}
use Rattle.rb_export_laws.proofs.Values.{read_field, fields_read}
use Rattle.rb_export_laws.proofs.CrontabAgain.{crontab_back}
use Rattle.rb_export_laws.proofs.Records.{option_same, job_same}
use Rattle.rb_export_laws.proofs.NumbersAgain.{number_back}
use Rattle.rb_export_laws.proofs.WordsAgain.{words_again}

-- ---- single values

-- what is written of a value, as a reader finds it
abbrev found : Option CanonTree → Option YamlTree
found value = option_map tree_of value

text_read : (o : Option (List ℕ)) → text_by (found (text_if_any o)) ≡ o
text_read None = refl
text_read (Some t) = refl

same_by : (t default : List ℕ) (b : Bool) → bytes_eq t default ≡ b
    → unwrap_or (text_by (found (cond b None (text t)))) default ≡ t
same_by t default true is = sym (text_is t default is)
same_by t default false is = refl

unless_read : (default t : List ℕ)
    → unwrap_or (text_by (found (text_unless default t))) default ≡ t
unless_read default t = same_by t default (bytes_eq t default) refl

true_read : (b : Bool) → truth_by false (text_by (found (true_if b))) ≡ b
true_read true = refl
true_read false = refl

false_read : (b : Bool) → truth_by true (text_by (found (false_unless b))) ≡ b
false_read true = refl
false_read false = refl

values_read : (vs : List (List ℕ))
    → map scalar_or_empty (sequence_items (tree_of (list_of (map one_text vs)))) ≡ vs
values_read [] = refl
values_read (v ∷ vs) = ap (λ xs. v ∷ xs) (values_read vs)

list_read : (vs : List (List ℕ))
    → map scalar_or_empty (items_by (found (list_if_any (map one_text vs)))) ≡ vs
list_read [] = refl
list_read (v ∷ vs) = values_read (v ∷ vs)

map_read : (fields : List Field) → entries_by (found (map_if_any fields)) ≡ map read_field fields
map_read [] = refl
map_read (f ∷ fs) = fields_read (f ∷ fs)

-- ---- words and pairs

args_read : (args : List (List ℕ)) → Each IsUtf8 args
    → words_by (text_by (found (args_value args))) ≡ args
args_read [] h = refl
args_read (a ∷ more) h = ap (λ o. unwrap_or o []) (words_again (a ∷ more) h)

pair_utf8 : (pair : Prop) → IsReadPair pair → IsUtf8 (dashed pair.key)
unfolding encode
pair_utf8 pair h = IsUtf8-append (hyphen ∷ []) pair.key ((hyphen ∷ []), (refl, refl)) h.key

pairs_utf8 : (pairs : List Prop) → Each IsReadPair pairs
    → Each IsUtf8 (flat_map pair_words pairs)
pairs_utf8 [] h = tt
pairs_utf8 (p ∷ ps) h = (pair_utf8 p h.0, (h.0.value, pairs_utf8 ps h.1))

named_by : (key : List ℕ) → is_empty key ≡ false → dashed_name (dashed key) ≡ Some key
named_by key h = ap (λ b. cond (not b) (Some key) None) h

pairs_back : (n : ℕ) (pairs : List Prop) → Each IsReadPair pairs
    → pairs_from n (flat_map pair_words pairs) ≡ Ok pairs
pairs_back n [] h = refl
pairs_back n (p ∷ ps) h =
    ap (λ o. paired n o p.text (pairs_from (n + 2) (flat_map pair_words ps)))
    (named_by p.key h.0.named)
    ∙ ap (pair_onto p.key p.text) (pairs_back (n + 2) ps h.1)

pairs_text_read : (pairs : List Prop) → ArePairs pairs → pairs_of (pairs_text pairs) ≡ pairs
pairs_text_read pairs h =
    ap (λ b. cond b [] (pairs_or_none (args_of (pairs_text pairs)))) h.short
    ∙ ap (λ o. pairs_or_none (pairs_in o))
    (words_again (flat_map pair_words pairs) (pairs_utf8 pairs h.each))
    ∙ ap pairs_or_none (pairs_back 1 pairs h.each)

pairs_read : (pairs : List Prop) → ArePairs pairs
    → pairs_by (text_by (found (pairs_value pairs))) ≡ pairs
pairs_read [] h = refl
pairs_read (p ∷ ps) h = pairs_text_read (p ∷ ps) h

-- ---- steps

exec_read : (es : List Entry) (words : List (List ℕ)) → Each IsUtf8 words
    → text_at es (codes "exec") ≡ Some (words_text words) → run_act es ≡ Exec words
exec_read es words h found =
    ap (λ o. run_act_by o es) found ∙ ap (λ o. Exec (unwrap_or o [])) (words_again words h)

script_read : (es : List Entry) (script : List ℕ) (args : List (List ℕ)) → Each IsUtf8 args
    → text_at es (codes "exec") ≡ None → text_at es (codes "script") ≡ Some script
    → text_at es (codes "args") ≡ text_by (option_map tree_of (args_value args))
    → run_act es ≡ Script script args
script_read es script args h none found behind =
    ap (λ o. run_act_by o es) none
    ∙ ap (λ o. Script (unwrap_or o []) (words_by (text_at es (codes "args")))) found
    ∙ ap (λ o. Script script (words_by o)) behind
    ∙ ap (Script script) (args_read args h)

-- a text of slots
text_of_slot : (slots : List Slot) (key : List ℕ) → slots_differ slots ≡ true
    → text_at (read_slots slots) key ≡ text_by (found (slot_at slots key))
text_of_slot slots key h = ap text_by (present_at slots key h)

reference_read : (group name : List ℕ) (pairs : List Prop) → ArePairs pairs
    → reference_of (read_slots (reference_slots group name pairs)) ≡ Refer group name pairs
reference_read group name pairs h =
    let slots = reference_slots group name pairs in
    let es = read_slots slots in
    ap (λ o. Refer (unwrap_or o []) (text_or [] es (codes "name"))
    (pairs_by (text_at es (codes "args")))) (text_of_slot slots (codes "group") refl)
    ∙ ap (λ g. Refer g (text_or [] es (codes "name")) (pairs_by (text_at es (codes "args"))))
    (unless_read [] group)
    ∙ ap (λ o. Refer group (unwrap_or o []) (pairs_by (text_at es (codes "args"))))
    (text_of_slot slots (codes "name") refl)
    ∙ ap (λ o. Refer group name (pairs_by o)) (text_of_slot slots (codes "args") refl)
    ∙ ap (Refer group name) (pairs_read pairs h)

-- what stands behind the act of a step
abbrev behind : Option CanonTree → List Slot
behind value = (codes "errorhandler", value) ∷ []

act_read : (act : JobAct) (value : Option CanonTree) → IsReadAct act
    → act_of (read_slots (act_slots act ++ behind value)) ≡ act
act_read (Exec words) value h =
    let slots = act_slots (Exec words) ++ behind value in
    ap (λ v. act_by v (read_slots slots)) (present_at slots (codes "jobref") refl)
    ∙ exec_read (read_slots slots) words h (text_of_slot slots (codes "exec") refl)
act_read (Script script args) value h =
    let slots = act_slots (Script script args) ++ behind value in
    ap (λ v. act_by v (read_slots slots)) (present_at slots (codes "jobref") refl)
    ∙ script_read (read_slots slots) script args h (text_of_slot slots (codes "exec") refl)
    (text_of_slot slots (codes "script") refl) (text_of_slot slots (codes "args") refl)
act_read (Refer group name pairs) value h =
    let slots = act_slots (Refer group name pairs) ++ behind value in
    ap (λ v. act_by v (read_slots slots)) (present_at slots (codes "jobref") refl)
    ∙ ap reference_of (map_with_read (reference_slots group name pairs))
    ∙ reference_read group name pairs h

handler_at : (act : JobAct) (value : Option CanonTree)
    → value_at (read_slots (act_slots act ++ behind value)) (codes "errorhandler") ≡ found value
handler_at (Exec words) value =
    present_at (act_slots (Exec words) ++ behind value) (codes "errorhandler") refl
handler_at (Script script args) value =
    present_at (act_slots (Script script args) ++ behind value) (codes "errorhandler") refl
handler_at (Refer group name pairs) value =
    present_at (act_slots (Refer group name pairs) ++ behind value) (codes "errorhandler") refl

handler_read : (handler : Option JobAct) (keep : Bool) → IsReadHandler handler keep
    → handler_by (found (handler_value handler keep)) ≡ handler
handler_read None keep h = refl
handler_read (Some (Exec words)) keep h =
    let slots = handler_slots (Exec words) keep in
    ap (λ es. Some (run_act es)) (map_with_read slots)
    ∙ ap Some (exec_read (read_slots slots) words h (text_of_slot slots (codes "exec") refl))
handler_read (Some (Script script args)) keep h =
    let slots = handler_slots (Script script args) keep in
    ap (λ es. Some (run_act es)) (map_with_read slots)
    ∙ ap Some (script_read (read_slots slots) script args h
    (text_of_slot slots (codes "exec") refl) (text_of_slot slots (codes "script") refl)
    (text_of_slot slots (codes "args") refl))
handler_read (Some (Refer group name pairs)) keep h = absurd h

abbrev keep_key : List ℕ
keep_key = codes "keepgoingOnSuccess"

keep_of : (slots : List Slot) (keep : Bool) → slots_differ slots ≡ true
    → slot_at slots keep_key ≡ true_if keep
    → truth_or false (map_entries (tree_of (map_with slots))) keep_key ≡ keep
keep_of slots keep differ is =
    ap (λ es. truth_or false es keep_key) (map_with_read slots)
    ∙ ap (truth_by false) (text_of_slot slots keep_key differ)
    ∙ ap (λ v. truth_by false (text_by (found v))) is
    ∙ true_read keep

keep_read : (handler : Option JobAct) (keep : Bool) → IsReadHandler handler keep
    → truth_or false (entries_by (found (handler_value handler keep))) keep_key ≡ keep
keep_read None keep h = sym h
keep_read (Some (Exec words)) keep h = keep_of (handler_slots (Exec words) keep) keep refl refl
keep_read (Some (Script script args)) keep h =
    keep_of (handler_slots (Script script args) keep) keep refl refl
keep_read (Some (Refer group name pairs)) keep h = absurd h

abbrev pub step_made : JobAct → Option JobAct → Bool → JobStep
step_made act handler keep = record { act = act; handler = handler; keep_on_success = keep }

pub step_read : (step : JobStep) → IsReadStep step → step_of (tree_of (step_value step)) ≡ step
step_read step h =
    let value = handler_value step.handler step.keep_on_success in
    let es = read_slots (step_slots step) in
    let at = handler_at step.act value in
    ap step_with (map_with_read (step_slots step))
    ∙ ap (λ a. step_made a (handler_by (value_at es (codes "errorhandler")))
    (truth_or false (entries_at es (codes "errorhandler")) keep_key))
    (act_read step.act value h.act)
    ∙ ap (λ v. step_made step.act (handler_by v) (truth_or false (entries_by v) keep_key)) at
    ∙ ap (λ v. step_made step.act v (truth_or false (entries_by (found value)) keep_key))
    (handler_read step.handler step.keep_on_success h.handler)
    ∙ ap (step_made step.act step.handler)
    (keep_read step.handler step.keep_on_success h.handler)

steps_read : (steps : List JobStep) → Each IsReadStep steps
    → map step_of (sequence_items (tree_of (list_of (map step_value steps)))) ≡ steps
steps_read [] h = refl
steps_read (s ∷ ss) h =
    ap (λ x. x ∷ map step_of (sequence_items (tree_of (list_of (map step_value ss)))))
    (step_read s h.0) ∙ ap (λ xs. s ∷ xs) (steps_read ss h.1)

-- ---- options

-- a truth of slots
truth_of_slot : (slots : List Slot) (key : List ℕ) (b : Bool) → slots_differ slots ≡ true
    → slot_at slots key ≡ true_if b → truth_or false (read_slots slots) key ≡ b
truth_of_slot slots key b differ is =
    ap (truth_by false) (text_of_slot slots key differ)
    ∙ ap (λ v. truth_by false (text_by (found v))) is ∙ true_read b

falsity_of_slot : (slots : List Slot) (key : List ℕ) (b : Bool) → slots_differ slots ≡ true
    → slot_at slots key ≡ false_unless b → truth_or true (read_slots slots) key ≡ b
falsity_of_slot slots key b differ is =
    ap (truth_by true) (text_of_slot slots key differ)
    ∙ ap (λ v. truth_by true (text_by (found v))) is ∙ false_read b

option_slots_read : (option : OptionDef) → option_with (read_slots (option_slots option)) ≡ option
option_slots_read option =
    let slots = option_slots option in
    let es = read_slots slots in
    option_same (option_with es) option
    (ap (λ o. unwrap_or o []) (text_of_slot slots (codes "name") refl))
    (text_of_slot slots (codes "value") refl ∙ text_read option.default)
    (ap (λ v. map scalar_or_empty (items_by v)) (present_at slots (codes "values") refl)
    ∙ list_read option.values)
    (truth_of_slot slots (codes "enforced") option.enforced refl refl)
    (truth_of_slot slots (codes "required") option.required refl refl)
    (text_of_slot slots (codes "regex") refl ∙ text_read option.pattern)
    (truth_of_slot slots (codes "multivalued") option.multivalued refl refl)
    (ap (λ o. unwrap_or o (codes ",")) (text_of_slot slots (codes "delimiter") refl)
    ∙ unless_read (codes ",") option.delimiter)

option_read : (option : OptionDef) → option_of (tree_of (option_value option)) ≡ option
option_read option =
    ap option_with (map_with_read (option_slots option)) ∙ option_slots_read option

option_items_read : (options : List OptionDef)
    → map option_of (sequence_items (tree_of (list_of (map option_value options)))) ≡ options
option_items_read [] = refl
option_items_read (o ∷ os) =
    ap (λ x. x ∷ map option_of (sequence_items (tree_of (list_of (map option_value os)))))
    (option_read o) ∙ ap (λ xs. o ∷ xs) (option_items_read os)

options_read : (options : List OptionDef)
    → map option_of (items_by (found (list_if_any (map option_value options)))) ≡ options
options_read [] = refl
options_read (o ∷ os) = option_items_read (o ∷ os)

-- ---- the sequence, the nodes, the orchestrator and the schedule

strategy_read : (s : Strategy) → strategy_by (text_by (found (strategy_value s))) ≡ s
strategy_read NodeFirst = refl
strategy_read Sequential = refl
strategy_read Parallel = refl

one_by : (n : ℕ) (b : Bool) → nat_eq n 1 ≡ b → IsNumber 1 1000 n
    → unwrap_or (number_by 1 1000 (text_by (found (cond b None (text (decimal n)))))) 1 ≡ n
one_by n true is h = grind (arith, nat_tests)
one_by n false is h = ap (λ o. unwrap_or o 1) (number_back 1 1000 n h (omega arith))

threads_read : (job : Job) → IsNumber 1 1000 job.threads
    → threads_in (read_slots (dispatch_slots job)) ≡ job.threads
threads_read job h =
    let slots = dispatch_slots job in
    ap (λ o. unwrap_or (number_by 1 1000 o) 1) (text_of_slot slots (codes "threadcount") refl)
    ∙ one_by job.threads (nat_eq job.threads 1) refl h

down_read : (b : Bool)
    → is_this_text (text_by (found (rank_order_value b))) (codes "descending") ≡ b
down_read true = refl
down_read false = refl

orchestrator_read : (o : Orchestrator) → IsReadOrchestrator o
    → unwrap_or (orchestrator_in (entries_by (found (orchestrator_value o)))) Plain ≡ o
orchestrator_read Plain h = refl
orchestrator_read (Subset count) h =
    ap (λ n. unwrap_or (option_map Subset n) Plain) (number_back 1 1000000 count h (omega arith))
orchestrator_read RankTiered h = refl
orchestrator_read (MaxPercentage percent) h =
    ap (λ n. unwrap_or (option_map MaxPercentage n) Plain)
    (number_back 1 100 percent h (omega arith))

abbrev pub source_made : Fields → List ℕ → Option Source
source_made fields rule = Some (record { fields = fields; rule = rule })

schedule_read : (zones : List NamedZone) (schedule : Option Source) → IsReadSchedule schedule
    → schedule_by zones None (found (schedule_value schedule)) ≡ schedule
schedule_read zones None h = refl
schedule_read zones (Some source) h =
    ap (λ o. source_made (unwrap_or o (fields_written
    (map_entries (tree_of (map_with (schedule_slots source.fields)))))) (codes "UTC"))
    (crontab_back source.fields h.fields)
    ∙ ap (source_made source.fields) (sym (text_is source.rule (codes "UTC") h.rule))

-- ---- jobs

or_none_left : {A : Type 0} (o : Option A) → option_or o None ≡ o
or_none_left None = refl
or_none_left (Some x) = refl

schedule_at_slots : (zones : List NamedZone) (job : Job) → IsReadSchedule job.schedule
    → schedule_at zones (read_slots (job_slots job)) ≡ job.schedule
schedule_at_slots zones job h =
    let slots = job_slots job in
    ap (λ o. schedule_by zones o (value_at (read_slots slots) (codes "schedule")))
    (text_of_slot slots (codes "timeZone") refl)
    ∙ ap (schedule_by zones None) (present_at slots (codes "schedule") refl)
    ∙ schedule_read zones job.schedule h

sequence_at : (job : Job)
    → entries_at (read_slots (job_slots job)) (codes "sequence") ≡ read_slots (sequence_slots job)
sequence_at job =
    ap entries_by (present_at (job_slots job) (codes "sequence") refl)
    ∙ map_with_read (sequence_slots job)

nodes_at : (job : Job)
    → entries_at (read_slots (job_slots job)) (codes "nodefilters") ≡ read_slots (nodes_slots job)
nodes_at job =
    ap entries_by (present_at (job_slots job) (codes "nodefilters") refl)
    ∙ map_with_read (nodes_slots job)

dispatch_at : (job : Job)
    → entries_at (read_slots (nodes_slots job)) (codes "dispatch")
    ≡ read_slots (dispatch_slots job)
dispatch_at job =
    ap entries_by (present_at (nodes_slots job) (codes "dispatch") refl)
    ∙ map_read (present (dispatch_slots job))

-- the job of these entries, each of which is known
job_with_read : (job : Job) → IsReadJob job
    → job_with job.schedule (read_slots (job_slots job)) (read_slots (sequence_slots job))
    (read_slots (nodes_slots job)) (read_slots (dispatch_slots job)) ≡ job
job_with_read job h =
    let top = job_slots job in
    let steps = sequence_slots job in
    let nodes = nodes_slots job in
    let dispatch = dispatch_slots job in
    job_same (job_with job.schedule (read_slots top) (read_slots steps) (read_slots nodes)
    (read_slots dispatch)) job
    (ap (λ o. option_or o (text_at (read_slots top) (codes "uuid")))
    (text_of_slot top (codes "id") refl ∙ text_read job.id)
    ∙ ap (option_or job.id) (text_of_slot top (codes "uuid") refl) ∙ or_none_left job.id)
    (ap (λ o. unwrap_or o []) (text_of_slot top (codes "name") refl))
    (ap (λ o. unwrap_or o []) (text_of_slot top (codes "group") refl) ∙ unless_read [] job.group)
    (ap strategy_by (text_of_slot steps (codes "strategy") refl) ∙ strategy_read job.strategy)
    (truth_of_slot steps (codes "keepgoing") job.keepgoing refl refl)
    (ap (λ v. map step_of (items_by v)) (present_at steps (codes "commands") refl)
    ∙ steps_read job.steps h.steps)
    (ap (λ v. map option_of (items_by v)) (present_at top (codes "options") refl)
    ∙ options_read job.options)
    (ap (λ o. unwrap_or o (codes "localhost")) (text_of_slot nodes (codes "filter") refl))
    (threads_read job h.threads)
    (truth_of_slot dispatch (codes "keepgoing") job.keep_nodes refl refl)
    (falsity_of_slot dispatch (codes "excludePrecedence") job.exclude_first refl refl)
    (truth_of_slot dispatch (codes "successOnEmptyNodeFilter") job.success_on_empty refl refl)
    (text_of_slot dispatch (codes "rankAttribute") refl ∙ text_read job.rank_by)
    (ap (λ o. is_this_text o (codes "descending")) (text_of_slot dispatch (codes "rankOrder") refl)
    ∙ down_read job.rank_down)
    (ap (λ v. unwrap_or (orchestrator_in (entries_by v)) Plain)
    (present_at top (codes "orchestrator") refl)
    ∙ orchestrator_read job.orchestrator h.orchestrator)
    refl
    (truth_of_slot top (codes "multipleExecutions") job.multiple refl refl)
    (falsity_of_slot top (codes "executionEnabled") job.enabled refl refl)
    (falsity_of_slot top (codes "scheduleEnabled") job.schedule_enabled refl refl)

-- a job that was read is read again of the entries that it is written as, with whatever zones
pub job_read : (zones : List NamedZone) (job : Job) → IsReadJob job
    → job_of zones (map_entries (tree_of (job_value job))) ≡ job
job_read zones job h =
    let es = read_slots (job_slots job) in
    ap (job_of zones) (map_with_read (job_slots job))
    ∙ ap (λ s. job_with s es (entries_at es (codes "sequence"))
    (entries_at es (codes "nodefilters"))
    (entries_at (entries_at es (codes "nodefilters")) (codes "dispatch")))
    (schedule_at_slots zones job h.schedule)
    ∙ ap (λ steps. job_with job.schedule es steps (entries_at es (codes "nodefilters"))
    (entries_at (entries_at es (codes "nodefilters")) (codes "dispatch"))) (sequence_at job)
    ∙ ap (λ nodes. job_with job.schedule es (read_slots (sequence_slots job)) nodes
    (entries_at nodes (codes "dispatch"))) (nodes_at job)
    ∙ ap (job_with job.schedule es (read_slots (sequence_slots job))
    (read_slots (nodes_slots job))) (dispatch_at job)
    ∙ job_with_read job h
