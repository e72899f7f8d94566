-- What holds of each job of a document.
use Rattle.std.proofs.Common.{◌≡◌, ℕ, ◌+◌, Bool, true, false, cond, not, ◌&&◌, nat_eq, nat_le, List, [], ◌∷◌, length, map, codes, bytes_eq, Option, Some, None, option_map, unwrap_or, Result, Ok, Err, refl}
use Rattle.std.specs.List.{AllByRecursion as Each}
use Rattle.std.proofs.lemmas.Bool.{and_parts}
use Rattle.rb_causes.specs.Signs.{hyphen}
use Rattle.rb_causes.specs.Texts.{is_empty}
use Rattle.rb_causes.specs.Words.{words_of}
use Rattle.rb_causes.specs.Numbers.{decimal_of}
use Rattle.rb_causes.specs.declared.items.Prop.{Prop}
use Rattle.rb_yaml.specs.Tree.{YamlTree}
use Rattle.rb_values.specs.Values.{Entry, map_entries, value_at, text_at, items_at, entries_by, entries_at}
use Rattle.rb_cron.specs.declared.zone.NamedZone.{NamedZone}
use Rattle.rb_option.specs.Arguments.{dashed_name, pair_onto, lone, paired, pairs_from, pairs_in, args_of}
use Rattle.rb_option.specs.declared.option_err.ArgsErr.{ArgsErr}
use Rattle.rb_job.specs.Sound.{is_between}
use Rattle.rb_job.specs.TextForms.{within, most_bytes}
use Rattle.rb_job.specs.Parts.{number_by, orchestrator_by}
use Rattle.rb_job.specs.Fields.{truth_or, threads_in, pairs_or_none, pairs_by, run_act_by, act_by, handler_by, step_with, step_of, job_of}
use Rattle.rb_job.specs.Jobs.{listed_job}
use Rattle.rb_job.specs.Listings.{ListedJob}
use Rattle.rb_job.specs.declared.job.Orchestrator.TheVariants.{Plain, Subset, RankTiered, MaxPercentage}
use Rattle.rb_export_laws.specs.ReadJobs.{IsNumber, IsReadOrchestrator}
use Rattle.rb_export_laws.specs.ShapedJobs.{IsNamed, IsShapedAct, IsShapedHandler, IsShapedStep, IsShapedJob}

-- ---- numbers

in_range : (least most n : ℕ) (b : Bool) (d : ℕ) → is_between least most n ≡ b
    → IsNumber least most d → IsNumber least most (unwrap_or (cond b (Some n) None) d)
in_range least most n true d is h = is
in_range least most n false d is h = h

decimal_in : (least most : ℕ) (o : Option ℕ) (d : ℕ) → IsNumber least most d
    → IsNumber least most (unwrap_or (within least most o) d)
decimal_in least most None d h = h
decimal_in least most (Some n) d h = in_range least most n (is_between least most n) d refl h

number_in : (least most : ℕ) (o : Option (List ℕ)) (d : ℕ) → IsNumber least most d
    → IsNumber least most (unwrap_or (number_by least most o) d)
number_in least most None d h = h
number_in least most (Some t) d h = decimal_in least most (decimal_of t) d h

threads_are : (es : List Entry) → IsNumber 1 1000 (threads_in es)
threads_are es = number_in 1 1000 (text_at es (codes "threadcount")) 1 refl

-- an orchestrator of a number that is in a range, if it is there
abbrev IsOrNone : ℕ → ℕ → Option ℕ → Type 0
IsOrNone least most None = Unit {0}
IsOrNone least most (Some n) = IsNumber least most n

some_in : (least most n : ℕ) (b : Bool) → is_between least most n ≡ b
    → IsOrNone least most (cond b (Some n) None)
some_in least most n true is = is
some_in least most n false is = tt

within_in : (least most : ℕ) (o : Option ℕ) → IsOrNone least most (within least most o)
within_in least most None = tt
within_in least most (Some n) = some_in least most n (is_between least most n) refl

by_in : (least most : ℕ) (o : Option (List ℕ)) → IsOrNone least most (number_by least most o)
by_in least most None = tt
by_in least most (Some t) = within_in least most (decimal_of t)

subset_is : (o : Option ℕ) → IsOrNone 1 1000000 o
    → IsReadOrchestrator (unwrap_or (option_map Subset o) Plain)
subset_is None h = tt
subset_is (Some n) h = h

percent_is : (o : Option ℕ) → IsOrNone 1 100 o
    → IsReadOrchestrator (unwrap_or (option_map MaxPercentage o) Plain)
percent_is None h = tt
percent_is (Some n) h = h

named_is : (a b c : Bool) (count percent : Option ℕ) → IsOrNone 1 1000000 count
    → IsOrNone 1 100 percent
    → IsReadOrchestrator (unwrap_or (cond a (option_map Subset count)
    (cond b (Some RankTiered) (cond c (option_map MaxPercentage percent) None))) Plain)
named_is true b c count percent h g = subset_is count h
named_is false true c count percent h g = tt
named_is false false true count percent h g = percent_is percent g
named_is false false false count percent h g = tt

orchestrator_by_is : (o : Option (List ℕ)) (es : List Entry)
    → IsReadOrchestrator (unwrap_or (orchestrator_by o es) Plain)
orchestrator_by_is None es = tt
orchestrator_by_is (Some name) es =
    named_is (bytes_eq name (codes "subset")) (bytes_eq name (codes "rankTiered"))
    (bytes_eq name (codes "maxPercentage"))
    (number_by 1 1000000 (text_at es (codes "count")))
    (number_by 1 100 (text_at es (codes "percent")))
    (by_in 1 1000000 (text_at es (codes "count"))) (by_in 1 100 (text_at es (codes "percent")))

-- ---- steps

abbrev Named : Result (List Prop) ArgsErr → Type 0
Named r = Each IsNamed (pairs_or_none r)

onto_named : (name value : List ℕ) (r : Result (List Prop) ArgsErr) → is_empty name ≡ false
    → Named r → Named (pair_onto name value r)
onto_named name value (Ok pairs) is h = (is, h)
onto_named name value (Err e) is h = tt

not_true : (b : Bool) → not b ≡ true → b ≡ false
not_true true h = let never : ⊥ = cc in absurd never
not_true false h = refl

dashed_by : (n : ℕ) (b : Bool) (name value : List ℕ) (r : Result (List Prop) ArgsErr)
    → (b ≡ true → is_empty name ≡ false) → Named r
    → Named (paired n (cond b (Some name) None) value r)
dashed_by n true name value r is h = onto_named name value r (is refl) h
dashed_by n false name value r is h = tt

word_named : (n : ℕ) (word value : List ℕ) (r : Result (List Prop) ArgsErr) → Named r
    → Named (paired n (dashed_name word) value r)
word_named n [] value r h = tt
word_named n (b ∷ bs) value r h =
    dashed_by n (nat_eq b hyphen && not (is_empty bs)) bs value r
    (λ is. not_true (is_empty bs) (and_parts (nat_eq b hyphen) (not (is_empty bs)) is).1) h

lone_named : (n : ℕ) (o : Option (List ℕ)) → Named (lone n o)
lone_named n None = tt
lone_named n (Some name) = tt

pairs_named : (n : ℕ) (ws : List (List ℕ)) → Named (pairs_from n ws)
pairs_named n [] = tt
pairs_named n (word ∷ []) = lone_named n (dashed_name word)
pairs_named n (word ∷ value ∷ ws) =
    word_named n word value (pairs_from (n + 2) ws) (pairs_named (n + 2) ws)

words_named : (o : Option (List (List ℕ))) → Named (pairs_in o)
words_named None = tt
words_named (Some ws) = pairs_named 1 ws

long_named : (b : Bool) (t : List ℕ) → Each IsNamed (cond b [] (pairs_or_none (args_of t)))
long_named true t = tt
long_named false t = words_named (words_of t)

args_named : (o : Option (List ℕ)) → Each IsNamed (pairs_by o)
args_named None = tt
args_named (Some t) = long_named (nat_le most_bytes (length t)) t

run_by_shaped : (o : Option (List ℕ)) (es : List Entry) → IsShapedAct (run_act_by o es)
run_by_shaped None es = tt
run_by_shaped (Some words) es = tt

act_shaped : (o : Option YamlTree) (es : List Entry) → IsShapedAct (act_by o es)
act_shaped None es = run_by_shaped (text_at es (codes "exec")) es
act_shaped (Some t) es = args_named (text_at (map_entries t) (codes "args"))

run_handles : (o : Option (List ℕ)) (es : List Entry) (keep : Bool)
    → IsShapedHandler (Some (run_act_by o es)) keep
run_handles None es keep = tt
run_handles (Some words) es keep = tt

handler_shaped : (o : Option YamlTree)
    → IsShapedHandler (handler_by o)
    (truth_or false (entries_by o) (codes "keepgoingOnSuccess"))
handler_shaped None = refl
handler_shaped (Some t) =
    run_handles (text_at (map_entries t) (codes "exec")) (map_entries t)
    (truth_or false (map_entries t) (codes "keepgoingOnSuccess"))

step_shaped : (es : List Entry) → IsShapedStep (step_with es)
step_shaped es = record {
  act = act_shaped (value_at es (codes "jobref")) es;
  handler = handler_shaped (value_at es (codes "errorhandler"));
}

steps_shaped : (ts : List YamlTree) → Each IsShapedStep (map step_of ts)
steps_shaped [] = tt
steps_shaped (t ∷ ts) = (step_shaped (map_entries t), steps_shaped ts)

-- ---- jobs

job_shaped : (zones : List NamedZone) (es : List Entry) → IsShapedJob (job_of zones es)
job_shaped zones es =
    let orchestrator = entries_at es (codes "orchestrator") in
    record {
      steps = steps_shaped (items_at (entries_at es (codes "sequence")) (codes "commands"));
      threads = threads_are (entries_at (entries_at es (codes "nodefilters")) (codes "dispatch"));
      orchestrator = orchestrator_by_is (text_at orchestrator (codes "type"))
          (entries_at orchestrator (codes "configuration"));
    }

-- so is each job that is listed
pub listed_shaped : (zones : List NamedZone) (listed : List ListedJob)
    → Each IsShapedJob (map (listed_job zones) listed)
listed_shaped zones [] = tt
listed_shaped zones (l ∷ ls) = (job_shaped zones (entries_by l.1), listed_shaped zones ls)
