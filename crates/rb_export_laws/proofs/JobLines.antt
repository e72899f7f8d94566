-- The job of entries is that of the entries without lines.
use Rattle.std.proofs.Common.{◌≡◌, ◌∙◌, ℕ, Bool, true, false, cond, List, [], map, codes, bytes_eq, Option, Some, None, option_map, unwrap_or, refl, ap}
use Rattle.std.specs.Option.{option_or}
use Rattle.rb_yaml.specs.Tree.{YamlTree}
use Rattle.rb_values.specs.Values.{Entry, scalar_or_empty, map_entries, value_at, text_at, items_at, entries_at}
use Rattle.rb_cron.specs.Due.{Source}
use Rattle.rb_cron.specs.Crontab.{fields_of}
use Rattle.rb_cron.specs.declared.zone.NamedZone.{NamedZone}
use Rattle.rb_job.specs.Parts.{is_this_text, number_by, orchestrator_by, orchestrator_in}
use Rattle.rb_job.specs.Schedules.{zone_rule, field_or, fields_with, fields_written, fields_by, fields_in_force, schedule_by}
use Rattle.rb_job.specs.Fields.{text_or, truth_by, truth_or, threads_in, words_by, pairs_by, run_act_by, run_act, reference_of, act_by, act_of, handler_by, step_with, step_of, option_with, option_of, strategy_by, schedule_at, job_with, job_of}
use Rattle.rb_job.specs.declared.job.JobAct.TheVariants.{Script, Refer}
use Rattle.rb_job.specs.declared.job.Orchestrator.{Orchestrator}
use Rattle.rb_job.specs.declared.job.Orchestrator.TheVariants.{Plain, Subset, RankTiered, MaxPercentage}
use Rattle.rb_canon_laws.specs.Trees.{lineless}
use Rattle.rb_export_laws.proofs.JobTrees.{step_made, source_made}
use Rattle.rb_export_laws.proofs.Records.{fields_same, option_same, job_same}
use Rattle.rb_export_laws.proofs.Lines.{map_same, entry_lineless, scalar_lineless, map_entries_lineless, value_at_lineless, text_at_lineless, items_at_lineless, entries_at_lineless}

-- entries without lines
abbrev bare : List Entry → List Entry
bare es = map entry_lineless es

text_bare : (d : List ℕ) (es : List Entry) (key : List ℕ) → text_or d (bare es) key
    ≡ text_or d es key
text_bare d es key = ap (λ o. unwrap_or o d) (text_at_lineless es key)

truth_bare : (d : Bool) (es : List Entry) (key : List ℕ)
    → truth_or d (bare es) key ≡ truth_or d es key
truth_bare d es key = ap (truth_by d) (text_at_lineless es key)

-- ---- steps

run_by_bare : (o : Option (List ℕ)) (es : List Entry) → run_act_by o (bare es) ≡ run_act_by o es
run_by_bare (Some words) es = refl
run_by_bare None es =
    ap (λ t. Script t (words_by (text_at (bare es) (codes "args"))))
    (text_bare [] es (codes "script"))
    ∙ ap (λ o. Script (text_or [] es (codes "script")) (words_by o))
    (text_at_lineless es (codes "args"))

run_bare : (es : List Entry) → run_act (bare es) ≡ run_act es
run_bare es =
    ap (λ o. run_act_by o (bare es)) (text_at_lineless es (codes "exec"))
    ∙ run_by_bare (text_at es (codes "exec")) es

reference_bare : (es : List Entry) → reference_of (bare es) ≡ reference_of es
reference_bare es =
    ap (λ g. Refer g (text_or [] (bare es) (codes "name"))
    (pairs_by (text_at (bare es) (codes "args")))) (text_bare [] es (codes "group"))
    ∙ ap (λ n. Refer (text_or [] es (codes "group")) n
    (pairs_by (text_at (bare es) (codes "args")))) (text_bare [] es (codes "name"))
    ∙ ap (λ o. Refer (text_or [] es (codes "group")) (text_or [] es (codes "name"))
    (pairs_by o)) (text_at_lineless es (codes "args"))

act_by_bare : (o : Option YamlTree) (es : List Entry)
    → act_by (option_map lineless o) (bare es) ≡ act_by o es
act_by_bare None es = run_bare es
act_by_bare (Some t) es = ap reference_of (map_entries_lineless t) ∙ reference_bare (map_entries t)

act_bare : (es : List Entry) → act_of (bare es) ≡ act_of es
act_bare es =
    ap (λ o. act_by o (bare es)) (value_at_lineless es (codes "jobref"))
    ∙ act_by_bare (value_at es (codes "jobref")) es

handler_bare : (o : Option YamlTree) → handler_by (option_map lineless o) ≡ handler_by o
handler_bare None = refl
handler_bare (Some t) =
    ap (λ es. Some (run_act es)) (map_entries_lineless t) ∙ ap Some (run_bare (map_entries t))

step_bare : (es : List Entry) → step_with (bare es) ≡ step_with es
step_bare es =
    ap (λ a. step_made a (handler_by (value_at (bare es) (codes "errorhandler")))
    (truth_or false (entries_at (bare es) (codes "errorhandler")) (codes "keepgoingOnSuccess")))
    (act_bare es)
    ∙ ap (λ h. step_made (act_of es) h
    (truth_or false (entries_at (bare es) (codes "errorhandler")) (codes "keepgoingOnSuccess")))
    (ap handler_by (value_at_lineless es (codes "errorhandler"))
    ∙ handler_bare (value_at es (codes "errorhandler")))
    ∙ ap (step_made (act_of es) (handler_by (value_at es (codes "errorhandler"))))
    (ap (λ hs. truth_or false hs (codes "keepgoingOnSuccess"))
    (entries_at_lineless es (codes "errorhandler"))
    ∙ truth_bare false (entries_at es (codes "errorhandler")) (codes "keepgoingOnSuccess"))

step_of_lineless : (t : YamlTree) → step_of (lineless t) ≡ step_of t
step_of_lineless t = ap step_with (map_entries_lineless t) ∙ step_bare (map_entries t)

-- ---- options

option_bare : (es : List Entry) → option_with (bare es) ≡ option_with es
option_bare es =
    option_same (option_with (bare es)) (option_with es)
    (text_bare [] es (codes "name"))
    (text_at_lineless es (codes "value"))
    (ap (map scalar_or_empty) (items_at_lineless es (codes "values"))
    ∙ map_same scalar_or_empty lineless scalar_or_empty scalar_lineless
    (items_at es (codes "values")))
    (truth_bare false es (codes "enforced"))
    (truth_bare false es (codes "required"))
    (text_at_lineless es (codes "regex"))
    (truth_bare false es (codes "multivalued"))
    (text_bare (codes ",") es (codes "delimiter"))

option_of_lineless : (t : YamlTree) → option_of (lineless t) ≡ option_of t
option_of_lineless t = ap option_with (map_entries_lineless t) ∙ option_bare (map_entries t)

-- ---- the orchestrator and the schedule

-- the orchestrator of this name, with the number that it has
abbrev orchestrator_on : List ℕ → Option ℕ → Option ℕ → Option Orchestrator
orchestrator_on name count percent =
    cond (bytes_eq name (codes "subset")) (option_map Subset count)
    (cond (bytes_eq name (codes "rankTiered")) (Some RankTiered)
    (cond (bytes_eq name (codes "maxPercentage")) (option_map MaxPercentage percent) None))

orchestrator_by_bare : (o : Option (List ℕ)) (es : List Entry)
    → orchestrator_by o (bare es) ≡ orchestrator_by o es
orchestrator_by_bare None es = refl
orchestrator_by_bare (Some name) es =
    ap (λ c. orchestrator_on name c (number_by 1 100 (text_at (bare es) (codes "percent"))))
    (ap (number_by 1 1000000) (text_at_lineless es (codes "count")))
    ∙ ap (orchestrator_on name (number_by 1 1000000 (text_at es (codes "count"))))
    (ap (number_by 1 100) (text_at_lineless es (codes "percent")))

orchestrator_bare : (es : List Entry) → orchestrator_in (bare es) ≡ orchestrator_in es
orchestrator_bare es =
    ap (λ o. orchestrator_by o (entries_at (bare es) (codes "configuration")))
    (text_at_lineless es (codes "type"))
    ∙ ap (orchestrator_by (text_at es (codes "type")))
    (entries_at_lineless es (codes "configuration"))
    ∙ orchestrator_by_bare (text_at es (codes "type")) (entries_at es (codes "configuration"))

field_bare : (d : List ℕ) (es : List Entry) (key : List ℕ)
    → field_or d (bare es) key ≡ field_or d es key
field_bare d es key = ap (λ o. unwrap_or o d) (text_at_lineless es key)

fields_with_bare : (s t w m : List Entry)
    → fields_with (bare s) (bare t) (bare w) (bare m) ≡ fields_with s t w m
fields_with_bare s t w m =
    fields_same (fields_with (bare s) (bare t) (bare w) (bare m)) (fields_with s t w m)
    (field_bare (codes "0") t (codes "seconds"))
    (field_bare (codes "0") t (codes "minute"))
    (field_bare (codes "0") t (codes "hour"))
    (field_bare (codes "*") m (codes "day"))
    (field_bare (codes "*") s (codes "month"))
    (field_bare (codes "*") w (codes "day"))
    (field_bare (codes "*") s (codes "year"))

fields_written_bare : (s : List Entry) → fields_written (bare s) ≡ fields_written s
fields_written_bare s =
    ap (λ t. fields_with (bare s) t (entries_at (bare s) (codes "weekday"))
    (entries_at (bare s) (codes "dayofmonth"))) (entries_at_lineless s (codes "time"))
    ∙ ap (λ w. fields_with (bare s) (bare (entries_at s (codes "time"))) w
    (entries_at (bare s) (codes "dayofmonth"))) (entries_at_lineless s (codes "weekday"))
    ∙ ap (fields_with (bare s) (bare (entries_at s (codes "time")))
    (bare (entries_at s (codes "weekday")))) (entries_at_lineless s (codes "dayofmonth"))
    ∙ fields_with_bare s (entries_at s (codes "time")) (entries_at s (codes "weekday"))
    (entries_at s (codes "dayofmonth"))

fields_by_bare : (o : Option (List ℕ)) (s : List Entry) → fields_by o (bare s) ≡ fields_by o s
fields_by_bare None s = fields_written_bare s
fields_by_bare (Some crontab) s =
    ap (unwrap_or (fields_of crontab)) (fields_written_bare s)

fields_bare : (s : List Entry) → fields_in_force (bare s) ≡ fields_in_force s
fields_bare s =
    ap (λ o. fields_by o (bare s)) (text_at_lineless s (codes "crontab"))
    ∙ fields_by_bare (text_at s (codes "crontab")) s

schedule_by_bare : (zones : List NamedZone) (called : Option (List ℕ)) (o : Option YamlTree)
    → schedule_by zones called (option_map lineless o) ≡ schedule_by zones called o
schedule_by_bare zones called None = refl
schedule_by_bare zones called (Some t) =
    ap (λ fields. source_made fields (zone_rule zones called))
    (ap fields_in_force (map_entries_lineless t) ∙ fields_bare (map_entries t))

schedule_bare : (zones : List NamedZone) (es : List Entry)
    → schedule_at zones (bare es) ≡ schedule_at zones es
schedule_bare zones es =
    ap (λ o. schedule_by zones o (value_at (bare es) (codes "schedule")))
    (text_at_lineless es (codes "timeZone"))
    ∙ ap (schedule_by zones (text_at es (codes "timeZone")))
    (value_at_lineless es (codes "schedule"))
    ∙ schedule_by_bare zones (text_at es (codes "timeZone")) (value_at es (codes "schedule"))

-- ---- jobs

threads_bare : (es : List Entry) → threads_in (bare es) ≡ threads_in es
threads_bare es =
    ap (λ o. unwrap_or (number_by 1 1000 o) 1) (text_at_lineless es (codes "threadcount"))

job_with_bare : (schedule : Option Source) (job sequence filters dispatch : List Entry)
    → job_with schedule (bare job) (bare sequence) (bare filters) (bare dispatch)
    ≡ job_with schedule job sequence filters dispatch
job_with_bare schedule job sequence filters dispatch =
    job_same (job_with schedule (bare job) (bare sequence) (bare filters) (bare dispatch))
    (job_with schedule job sequence filters dispatch)
    (ap (λ o. option_or o (text_at (bare job) (codes "uuid"))) (text_at_lineless job (codes "id"))
    ∙ ap (option_or (text_at job (codes "id"))) (text_at_lineless job (codes "uuid")))
    (text_bare [] job (codes "name"))
    (text_bare [] job (codes "group"))
    (ap strategy_by (text_at_lineless sequence (codes "strategy")))
    (truth_bare false sequence (codes "keepgoing"))
    (ap (map step_of) (items_at_lineless sequence (codes "commands"))
    ∙ map_same step_of lineless step_of step_of_lineless (items_at sequence (codes "commands")))
    (ap (map option_of) (items_at_lineless job (codes "options"))
    ∙ map_same option_of lineless option_of option_of_lineless (items_at job (codes "options")))
    (text_bare (codes "localhost") filters (codes "filter"))
    (threads_bare dispatch)
    (truth_bare false dispatch (codes "keepgoing"))
    (truth_bare true dispatch (codes "excludePrecedence"))
    (truth_bare false dispatch (codes "successOnEmptyNodeFilter"))
    (text_at_lineless dispatch (codes "rankAttribute"))
    (ap (λ o. is_this_text o (codes "descending")) (text_at_lineless dispatch (codes "rankOrder")))
    (ap (λ o. unwrap_or o Plain)
    (ap orchestrator_in (entries_at_lineless job (codes "orchestrator"))
    ∙ orchestrator_bare (entries_at job (codes "orchestrator"))))
    refl
    (truth_bare false job (codes "multipleExecutions"))
    (truth_bare true job (codes "executionEnabled"))
    (truth_bare true job (codes "scheduleEnabled"))

job_bare : (zones : List NamedZone) (es : List Entry) → job_of zones (bare es) ≡ job_of zones es
job_bare zones es =
    ap (λ s. job_with s (bare es) (entries_at (bare es) (codes "sequence"))
    (entries_at (bare es) (codes "nodefilters"))
    (entries_at (entries_at (bare es) (codes "nodefilters")) (codes "dispatch")))
    (schedule_bare zones es)
    ∙ ap (λ q. job_with (schedule_at zones es) (bare es) q
    (entries_at (bare es) (codes "nodefilters"))
    (entries_at (entries_at (bare es) (codes "nodefilters")) (codes "dispatch")))
    (entries_at_lineless es (codes "sequence"))
    ∙ ap (λ n. job_with (schedule_at zones es) (bare es)
    (bare (entries_at es (codes "sequence"))) n (entries_at n (codes "dispatch")))
    (entries_at_lineless es (codes "nodefilters"))
    ∙ ap (job_with (schedule_at zones es) (bare es)
    (bare (entries_at es (codes "sequence"))) (bare (entries_at es (codes "nodefilters"))))
    (entries_at_lineless (entries_at es (codes "nodefilters")) (codes "dispatch"))
    ∙ job_with_bare (schedule_at zones es) es (entries_at es (codes "sequence"))
    (entries_at es (codes "nodefilters"))
    (entries_at (entries_at es (codes "nodefilters")) (codes "dispatch"))

-- the job of an item does not look at lines
pub job_lineless : (zones : List NamedZone) (t : YamlTree)
    → job_of zones (map_entries (lineless t)) ≡ job_of zones (map_entries t)
job_lineless zones t = ap (job_of zones) (map_entries_lineless t) ∙ job_bare zones (map_entries t)
