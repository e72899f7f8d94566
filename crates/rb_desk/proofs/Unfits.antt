-- What is refused of a row that no call adds.
use Rattle.std.proofs.Common.{◌≡◌, ◌∙◌, ◌≤◌, ℕ, ℤ, List, [], ◌∷◌, ◌++◌, length, Bool, true, false, Option, Some, None, Result, Ok, Err, IsOk, IfOk, ap, sym, subst, refl, inl, inr, chars, nat_le, not, arith, is_some, unwrap_or, map, if◌then◌else◌}
use Rattle.std.proofs.lemmas.Bool.{and_parts, false≢true, leb-true}
use Rattle.rb_text.specs.Causes.{IsCause}
use Rattle.rb_text.specs.Matching.{IsPatternText}
use Rattle.rb_text.specs.declared.pattern_err.PatternErr.{PatternErr}
use Rattle.rb_text.specs.declared.pattern_err.PatternErr.TheVariants as refusal
use Rattle.rb_text.specs.declared.value.Value.{Value}
use Rattle.rb_text.specs.declared.value.Value.TheVariants.{Plain, Pattern}
use Rattle.rb_causes.specs.Words.{Split, words_in}
use Rattle.rb_causes.specs.declared.row.Row.{Row}
use Rattle.rb_yaml.specs.Tree.{YamlTree}
use Rattle.rb_yaml.specs.Documents.{docs_of}
use Rattle.rb_node.specs.Drafts.{drafts_of}
use Rattle.rb_node.specs.Values.{drafted_values, is_filled, are_filled, IsRead, AreRead, IsBad, IsValueFault, IsFirstFaultOf}
use Rattle.rb_node.specs.Filters.{filter_of, of_words, of_end, of_drafts, FailsAtWord, IsFaultOfDrafts, IsFaultOfWords, IsFirstFaultIn, AreReadIn, ArePatternsRead, IsReadFilter}
use Rattle.rb_node.specs.declared.drafting.Draft.{Draft}
use Rattle.rb_node.specs.declared.drafting.Drafts.{Drafts}
use Rattle.rb_node.specs.declared.filter_err.FilterErr.{FilterErr}
use Rattle.rb_node.specs.declared.filter_err.FilterErr.TheVariants as filters
use Rattle.rb_acl_doc.specs.Patterns.{ArePatterns, HasRefused}
use Rattle.rb_acl_doc.specs.Reading.{patterns_in, IsDocFault, IsSoundDoc, RefusesDocs, AreSound}
use Rattle.rb_acl_doc.specs.declared.fault.AclFault.{AclFault}
use Rattle.rb_acl_doc.specs.declared.fault.AclKind.{AclKind}
use Rattle.rb_acl_doc.specs.declared.fault.AclKind.TheVariants as acl
use Rattle.rb_acl_doc.specs.declared.fault.AclErr.TheVariants as acl_err
use Rattle.rb_cron.specs.declared.zone.NamedZone.{NamedZone}
use Rattle.rb_job.specs.TextForms.{Suspicion, certain, pattern, filter, Doubt}
use Rattle.rb_job.specs.Telling.{IsSo, Passes, AllPass, IsFirstDoubt}
use Rattle.rb_job.specs.Listings.{ListedJob}
use Rattle.rb_job.specs.Jobs.{listing_doubts, listed_job, next_job_number, AreFaultless, IsFirstJobFault}
use Rattle.rb_job.specs.declared.job.Job.{Job}
use Rattle.rb_job.specs.declared.fault.JobFault.{JobFault}
use Rattle.rb_job.specs.declared.fault.JobKind.{JobKind}
use Rattle.rb_acl.specs.declared.policy.Caller.{Caller}
use Rattle.rb_acl.specs.declared.policy.Policy.{Policy}
use Rattle.rb_yaml.specs.Faults.{◌>>=◌}
use Rattle.rb_yaml.specs.declared.fault.YamlFault.{YamlFault}
use Rattle.rb_job.specs.Listings.{listings_of}
use Rattle.rb_log.specs.Readings.{Reading, MayReadPolicies, MayReadJobs}
use Rattle.rb_log.specs.Rows.{policy_row, jobs_row}
use Rattle.rb_log.specs.World.{latest_of, latest_nodes, job_id}
use Rattle.rb_log.specs.Claims.{claimed, claim_among, is_closed, refused_again, taken}
use Rattle.rb_log.specs.Executions.{Execution}
use Rattle.rb_log.specs.LogState.{LogState, log_state, zones_in, moment, running_executions}
use Rattle.rb_log.specs.Moves.{Moved, only, limited, must, read_as, moved_or, access_in, is_name, has_body}
use Rattle.rb_log.specs.Imports.{imported, if_checked, may_import_policies, has_place_for_file, ids_free, names_free, may_import_jobs, imported_job, changes_any}
use Rattle.rb_log.specs.Turn.{MayRead, unlimited_turn}
use Rattle.rb_log.specs.declared.answer.Answer.{Answer}
use Rattle.rb_log.specs.declared.answer.Answer.TheVariants as answer
use Rattle.rb_log.specs.declared.answer.ImportedJob.{ImportedJob}
use Rattle.rb_log.specs.declared.call.Call.{Call}
use Rattle.rb_log.specs.declared.call.Call.TheVariants.{ImportPolicy, ImportJobs}
use Rattle.rb_log.specs.Tasks.{TaskValue}
use Rattle.rb_log.proofs.TaskLaws.{is_task, turn_claims}
use Rattle.rb_marks.specs.First.{first_startable}
use Rattle.rb_marks.specs.declared.mark.Leaf.{Leaf}
use Rattle.rb_plan.specs.declared.accepted.Dropped.{Dropped}
use Rattle.rb_tables.specs.Changes.{AreRuled, IsSettled}
use Rattle.rb_desk.specs.Following.{pattern_unfit, policy_unfit, filter_unfit, job_unfit, answer_unfit, AddsRow, IsUnfit, Turns}
use Rattle.rb_desk.specs.declared.unfit.Unfit.{Unfit}
use Rattle.rb_desk.specs.declared.unfit.Unfit.TheVariants.{Illegal}
use Rattle.rb_desk.specs.declared.unfit.Unfit.TheVariants as unfit

memory_is_not_illegal : unfit.NoMemory ≡ Illegal → ⊥
memory_is_not_illegal h = cc

-- ---- patterns

-- by this cause no reading takes a text
no_pattern : (text : List ℕ) (e : PatternErr) → pattern_unfit e ≡ Illegal → IsCause text e
    → IsPatternText text → ⊥
no_pattern text refusal.BadPattern h cause read = elim cause.1 [
  | inl plain ↦ read.1 plain
  | inr whole ↦ read.2 whole
]
no_pattern text refusal.TooLong h cause read = omega (arith, cause, read.0)
no_pattern text refusal.TooBig h cause read = memory_is_not_illegal h
no_pattern text refusal.NoMemory h cause read = memory_is_not_illegal h

-- ---- filters

unread_value : (v : Value) (e : PatternErr) → pattern_unfit e ≡ Illegal → IsRead v → IsBad e v
    → ⊥
unread_value (Plain text) e h read bad = bad
unread_value (Pattern text) e h read bad = no_pattern text e h bad.0 read

sound_value : (v : Value) (e : FilterErr) → filter_unfit e ≡ Illegal → is_filled v ≡ true
    → IsRead v → IsValueFault v e → ⊥
sound_value v filters.EmptyValue h filled read fault = false≢true (sym fault ∙ filled)
sound_value v (filters.BadPattern e) h filled read fault = unread_value v e h read fault
sound_value v filters.NoMemory h filled read fault = memory_is_not_illegal h
sound_value v filters.TooLong h filled read fault = fault
sound_value v (filters.BadClause at) h filled read fault = fault

sound_values : (vs : List Value) (e : FilterErr) → filter_unfit e ≡ Illegal
    → are_filled vs ≡ true → AreRead vs → IsFirstFaultOf vs e → ⊥
sound_values [] e h filled read fault =
    memory_is_not_illegal (subst (λ e. filter_unfit e ≡ Illegal) fault h)
sound_values (v ∷ vs) e h filled read (inl fault) =
    sound_value v e h (and_parts (is_filled v) (are_filled vs) filled).0 read.0 fault
sound_values (v ∷ vs) e h filled read (inr more) =
    sound_values vs e h (and_parts (is_filled v) (are_filled vs) filled).1 read.1 more.2

-- a text whose first fault is this is no filter
unread_end : (drafts : List Draft) (bad : Option ℕ) (e : FilterErr) → FailsAtWord bad e
    → IsOk (of_end drafts bad) → ⊥
unread_end drafts None e fails ok = fails
unread_end drafts (Some at) e fails ok = false≢true ok

if_ok : {A : Type 0} (b : Bool) (x : Result A FilterErr) (e : FilterErr)
    → IsOk (if b then x else Err e) → (b ≡ true) × IsOk x
if_ok true x e h = (refl, h)
if_ok false x e h = absurd (false≢true h)

unread_drafts : (d : Drafts) (e : FilterErr) → filter_unfit e ≡ Illegal → IsFaultOfDrafts d e
    → IsOk (of_drafts d) → AreRead (drafted_values d.drafts) → ⊥
unread_drafts d e h (inl fault) ok read =
    let parts = if_ok (are_filled (drafted_values d.drafts)) (of_end d.drafts d.bad)
    filters.EmptyValue ok in
    sound_values (drafted_values d.drafts) e h parts.0 read fault
unread_drafts d e h (inr fault) ok read =
    let parts = if_ok (are_filled (drafted_values d.drafts)) (of_end d.drafts d.bad)
    filters.EmptyValue ok in
    unread_end d.drafts d.bad e fault.2 parts.1

unread_words : (s : Split) (e : FilterErr) → filter_unfit e ≡ Illegal → IsFaultOfWords s e
    → IsOk (of_words s) → AreReadIn s → ⊥
unread_words (Ok words) e h fault ok read = unread_drafts (drafts_of words) e h fault ok read
unread_words (Err before) e h fault ok read = false≢true ok

pub no_filter_in : (text : List ℕ) (e : FilterErr) → filter_unfit e ≡ Illegal
    → (length text ≤ 1024 → IsFirstFaultIn text e) → IsOk (filter_of text)
    → ArePatternsRead text → ⊥
no_filter_in text e h first ok read =
    let parts = if_ok (nat_le (length text) 1024) (of_words (words_in (chars text)))
    filters.TooLong ok in
    unread_words (words_in (chars text)) e h (first (leb-true (length text) 1024 parts.0)) parts.1
    read

-- ---- policies

none_refused : (texts : List (List ℕ)) (e : PatternErr) → pattern_unfit e ≡ Illegal
    → HasRefused e texts → ArePatterns texts → ⊥
none_refused [] e h refused read = refused
none_refused (text ∷ texts) e h (inl cause) read = no_pattern text e h cause.0 read.0
none_refused (text ∷ texts) e h (inr more) read = none_refused texts e h more read.1

unsound_doc : (doc : YamlTree) (k : AclKind) → policy_unfit k ≡ Illegal → IsDocFault doc k
    → IsSoundDoc doc → ⊥
unsound_doc doc (acl.BadPattern e) h fault sound =
    none_refused (patterns_in doc) e h fault.1 sound.read
unsound_doc doc acl.NoAction h fault sound = cc
unsound_doc doc acl.MissingContext h fault sound = cc
unsound_doc doc acl.MissingBy h fault sound = cc
unsound_doc doc acl.MissingFor h fault sound = cc
unsound_doc doc (acl.UnknownKey key) h fault sound = cc
unsound_doc doc (acl.BadShape key) h fault sound = cc

sound_among : (before : List YamlTree) (doc : YamlTree) (behind : List YamlTree)
    → AreSound (before ++ doc ∷ behind) → IsSoundDoc doc
sound_among [] doc behind sound = sound.0
sound_among (d ∷ before) doc behind sound = sound_among before doc behind sound.1

unsound_docs : (docs : List YamlTree) (fault : AclFault) → policy_unfit fault.kind ≡ Illegal
    → RefusesDocs docs (acl_err.Fault fault) → AreSound docs → ⊥
unsound_docs docs fault h r sound =
    unsound_doc r.doc fault.kind h r.fault.1
    (sound_among r.before r.doc r.behind (subst AreSound r.given sound))

-- ---- jobs

fails_so : (d : Suspicion) (k : JobKind) → job_unfit k ≡ Illegal → IsSo d k → Passes d → ⊥
fails_so (certain told) k h so pass = pass
fails_so (pattern text) k h so pass =
    no_pattern text so.0 (subst (λ k. job_unfit k ≡ Illegal) so.1 h) so.2.0 pass
fails_so (filter text) k h so pass =
    no_filter_in text so.0 (subst (λ k. job_unfit k ≡ Illegal) so.1 h) so.2.fault pass.0 pass.1

first_fails : (ds : List Doubt) (key : List ℕ) (k : JobKind) → job_unfit k ≡ Illegal
    → IsFirstDoubt ds key k → AllPass ds → ⊥
first_fails [] key k h first pass = first
first_fails (d ∷ ds) key k h (inl so) pass = fails_so d.1 k h so.1 pass.0
first_fails (d ∷ ds) key k h (inr more) pass = first_fails ds key k h more.1 pass.1

faulty_jobs : (zones : List NamedZone) (number : ℕ) (before : List Job) (ls : List ListedJob)
    (fault : JobFault) → job_unfit fault.kind ≡ Illegal
    → IsFirstJobFault zones number before ls fault → AreFaultless zones before ls → ⊥
faulty_jobs zones number before [] fault h is pass = is
faulty_jobs zones number before (l ∷ ls) fault h (inl is) pass =
    first_fails (listing_doubts zones before l) fault.key fault.kind h is.1 pass.0
faulty_jobs zones number before (l ∷ ls) fault h (inr more) pass =
    faulty_jobs zones (next_job_number number) (before ++ listed_job zones l ∷ []) ls fault h
    more.1 pass.1

-- ---- an import whose document may be read so and otherwise

-- The document is refused by the one reading, whose fault is told, and read by the other.
record Differs {A E : Type 0} (told : E → Answer) (docs : Result (List YamlTree) YamlFault)
    (this other : Result A E) (a : Answer) : Type 0 where
  read : List YamlTree
  docs_are : docs ≡ Ok read
  fault : E
  this_is : this ≡ Err fault
  told_as : a ≡ told fault
  value : A
  other_is : other ≡ Ok value

-- an import: two rules, its document, what is read of it, and what is left to answer then
abbrev read_moved : {A E : Type 0} → (E → Answer) → Result Bool Answer → Result Bool Answer
    → Result (List YamlTree) YamlFault → Result A E → (A → Result Moved Answer) → Moved
read_moved told first second docs read rest = moved_or (
    first >>= λ held.
    second >>= λ held.
    read_as answer.BadYaml docs >>= λ docs.
    read_as told read >>= rest)

abbrev AreOne : {A E : Type 0} → Result (List YamlTree) YamlFault → Result A E → Result A E
    → Type 0
AreOne {A = A} docs x y =
    (d : List YamlTree) → docs ≡ Ok d → (v w : A) → x ≡ Ok v → y ≡ Ok w → v ≡ w

no_row_left : (this other : Moved) (a : Answer) (row : Row) → this ≡ other → this ≡ only a
    → other.row ≡ Some row → ⊥
no_row_left this other a row same is adds =
    let none : Some row ≡ None = sym adds ∙ ap (λ (m : Moved). m.row) (sym same ∙ is) in cc

differs : {A E : Type 0} (told : E → Answer) (first second : Result Bool Answer)
    (docs : Result (List YamlTree) YamlFault) (x y : Result A E) (rest : A → Result Moved Answer)
    (a : Answer) (row : Row) → AreOne docs x y
    → read_moved told first second docs x rest ≡ only a
    → (read_moved told first second docs y rest).row ≡ Some row → Differs told docs x y a
differs told (Err e) second docs x y rest a row one is adds = cc
differs told (Ok b) (Err e) docs x y rest a row one is adds = cc
differs told (Ok b) (Ok c) (Err e) x y rest a row one is adds = cc
differs told (Ok b) (Ok c) (Ok d) x (Err e) rest a row one is adds = cc
differs told (Ok b) (Ok c) (Ok d) (Err e) (Ok w) rest a row one is adds = record {
  read = d;
  docs_are = refl;
  fault = e;
  this_is = refl;
  told_as = sym (ap (λ (m : Moved). m.answer) is);
  value = w;
  other_is = refl;
}
differs told (Ok b) (Ok c) (Ok d) (Ok v) (Ok w) rest a row one is adds =
    absurd (no_row_left (moved_or (rest v)) (moved_or (rest w)) a row
    (ap (λ v. moved_or (rest v)) (one d refl v w refl refl)) is adds)

-- ---- policies of an import

abbrev ReadsPolicies : List ℕ → List ℕ → Reading → Type 0
ReadsPolicies name body r = IfOk (docs_of body) (λ docs. MayReadPolicies name docs r.policies)

policies_read : (name body : List ℕ) (r : Reading) (docs : List YamlTree)
    (read : Result (List Policy) AclFault) → docs_of body ≡ Ok docs → r.policies ≡ read
    → ReadsPolicies name body r → MayReadPolicies name docs read
policies_read name body r docs read is got may =
    subst (MayReadPolicies name docs) got
    (subst (λ d. IfOk d (λ docs. MayReadPolicies name docs r.policies)) is may)

one_file : (name body : List ℕ) (r q : Reading) → ReadsPolicies name body r
    → ReadsPolicies name body q → AreOne (docs_of body) r.policies q.policies
one_file name body r q may can docs is v w this other =
    (policies_read name body r docs (Ok v) is this may).0
    ∙ sym (policies_read name body q docs (Ok w) is other can).0

differing_file : (name body : List ℕ) (r q : Reading) (a : Answer) → ReadsPolicies name body r
    → ReadsPolicies name body q → answer_unfit a ≡ Illegal
    → Differs answer.BadPolicy (docs_of body) r.policies q.policies a → ⊥
differing_file name body r q a may can h d =
    unsound_docs d.read d.fault (subst (λ a. answer_unfit a ≡ Illegal) d.told_as h)
    (policies_read name body r d.read (Err d.fault) d.docs_are d.this_is may)
    (policies_read name body q d.read (Ok d.value) d.docs_are d.other_is can).1

-- ---- jobs of an import

abbrev ReadsJobs : List NamedZone → List ℕ → Reading → Type 0
ReadsJobs zones body r = IfOk (docs_of body) (λ docs. MayReadJobs zones docs r.jobs)

jobs_read : (zones : List NamedZone) (body : List ℕ) (r : Reading) (docs : List YamlTree)
    (read : Result (List Job) JobFault) → docs_of body ≡ Ok docs → r.jobs ≡ read
    → ReadsJobs zones body r → MayReadJobs zones docs read
jobs_read zones body r docs read is got may =
    subst (MayReadJobs zones docs) got
    (subst (λ d. IfOk d (λ docs. MayReadJobs zones docs r.jobs)) is may)

one_list : (zones : List NamedZone) (body : List ℕ) (r q : Reading) → ReadsJobs zones body r
    → ReadsJobs zones body q → AreOne (docs_of body) r.jobs q.jobs
one_list zones body r q may can docs is v w this other =
    (jobs_read zones body r docs (Ok v) is this may).jobs_are
    ∙ sym (jobs_read zones body q docs (Ok w) is other can).jobs_are

differing_list : (zones : List NamedZone) (body : List ℕ) (r q : Reading) (a : Answer)
    → ReadsJobs zones body r → ReadsJobs zones body q → answer_unfit a ≡ Illegal
    → Differs answer.BadJobs (docs_of body) r.jobs q.jobs a → ⊥
differing_list zones body r q a may can h d =
    faulty_jobs zones 1 [] (listings_of d.read) d.fault
    (subst (λ a. answer_unfit a ≡ Illegal) d.told_as h)
    (jobs_read zones body r d.read (Err d.fault) d.docs_are d.this_is may)
    (jobs_read zones body q d.read (Ok d.value) d.docs_are d.other_is can).faultless

-- ---- any call

-- what is left to answer where the documents are read
abbrev rest_of_policies : LogState → Caller → Bool → List ℕ → List ℕ → ℤ → List Policy
    → Result Moved Answer
rest_of_policies s caller checked name body at policies =
    must (has_place_for_file s.files name) answer.TooManyFiles >>= λ place.
    Ok (imported (not (has_body body (latest_of name s.files))) s.policy_number []
    (λ number. policy_row (moment s at) number checked name caller body))

abbrev rest_of_jobs : LogState → Caller → Bool → List ℕ → List ℕ → ℤ → List Job
    → Result Moved Answer
rest_of_jobs s caller checked project body at jobs =
    ids_free s.projects project [] (map (job_id project) jobs) >>= λ free.
    names_free s.projects project jobs >>= λ unnamed.
    if_checked checked (may_import_jobs (access_in s project caller) project s.projects jobs)
    >>= λ permission.
    let done : List ImportedJob = map (imported_job project s.projects) jobs in
    Ok (imported (changes_any done) s.jobs_number done
    (λ number. jobs_row (moment s at) number checked project caller body))

-- what is refused by one reading, and not for a pattern that grew too big, adds no row by another
no_row : (s : LogState) (call : Call) (r q : Reading) (a : Answer) (row : Row)
    → answer_unfit a ≡ Illegal → MayRead s call r → MayRead s call q
    → unlimited_turn r s call ≡ only a → (unlimited_turn q s call).row ≡ Some row → ⊥
no_row s (ImportPolicy caller checked name body at) r q a row h may can is adds =
    differing_file name body r q a may can h
    (differs answer.BadPolicy (must (is_name name) answer.BadName)
    (if_checked checked (may_import_policies s caller)) (docs_of body) r.policies q.policies
    (rest_of_policies s caller checked name body at) a row (one_file name body r q may can) is adds)
no_row s (ImportJobs caller checked project body at) r q a row h may can is adds =
    differing_list (zones_in s) body r q a may can h
    (differs answer.BadJobs (must (is_some (latest_nodes project s.projects)) answer.NoProject)
    (Ok true) (docs_of body) r.jobs q.jobs
    (rest_of_jobs s caller checked project body at) a row
    (one_list (zones_in s) body r q may can) is adds)
no_row s other r q a row h may can is adds =
    no_row_left (unlimited_turn r s other) (unlimited_turn q s other) a row refl is adds

-- ---- one row for a call

rows_left : (this other : Moved) (a b : Row) → this ≡ other → this.row ≡ Some a
    → other.row ≡ Some b → a ≡ b
rows_left this other a b same is adds =
    ap (λ (o : Option Row). unwrap_or o a) (sym is ∙ ap (λ (m : Moved). m.row) same ∙ adds)

agree : {A E : Type 0} (told : E → Answer) (first second : Result Bool Answer)
    (docs : Result (List YamlTree) YamlFault) (x y : Result A E) (rest : A → Result Moved Answer)
    (a b : Row) → AreOne docs x y → (read_moved told first second docs x rest).row ≡ Some a
    → (read_moved told first second docs y rest).row ≡ Some b → a ≡ b
agree told (Err e) second docs x y rest a b one is adds = cc
agree told (Ok p) (Err e) docs x y rest a b one is adds = cc
agree told (Ok p) (Ok c) (Err e) x y rest a b one is adds = cc
agree told (Ok p) (Ok c) (Ok d) x (Err e) rest a b one is adds = cc
agree told (Ok p) (Ok c) (Ok d) (Err e) (Ok w) rest a b one is adds = cc
agree told (Ok p) (Ok c) (Ok d) (Ok v) (Ok w) rest a b one is adds =
    rows_left (moved_or (rest v)) (moved_or (rest w)) a b
    (ap (λ v. moved_or (rest v)) (one d refl v w refl refl)) is adds

-- whatever the readers give, the rules add one row for a call
pub same_rows : (s : LogState) (call : Call) (r q : Reading) (a b : Row) → MayRead s call r
    → MayRead s call q → (unlimited_turn r s call).row ≡ Some a
    → (unlimited_turn q s call).row ≡ Some b → a ≡ b
same_rows s (ImportPolicy caller checked name body at) r q a b may can is adds =
    agree answer.BadPolicy (must (is_name name) answer.BadName)
    (if_checked checked (may_import_policies s caller)) (docs_of body) r.policies q.policies
    (rest_of_policies s caller checked name body at) a b (one_file name body r q may can) is adds
same_rows s (ImportJobs caller checked project body at) r q a b may can is adds =
    agree answer.BadJobs (must (is_some (latest_nodes project s.projects)) answer.NoProject)
    (Ok true) (docs_of body) r.jobs q.jobs (rest_of_jobs s caller checked project body at) a b
    (one_list (zones_in s) body r q may can) is adds
same_rows s other r q a b may can is adds =
    rows_left (unlimited_turn r s other) (unlimited_turn q s other) a b refl is adds

-- ---- what a row is

ruled : (past : List Row) (call : Call) (a : Answer) → answer_unfit a ≡ Illegal
    → IsSettled past call a → AreRuled past call (only a)
ruled past call answer.NoMemory h s = absurd (memory_is_not_illegal h)
ruled past call other h s = s

unfit_by : (may : Type 0) (u : Unfit) → (u ≡ Illegal → may → ⊥) → IsUnfit may u
unfit_by may Illegal f = f refl
unfit_by may unfit.NoMemory f = tt

pub filter_is_unfit : (text : List ℕ) (e : FilterErr)
    → (length text ≤ 1024 → IsFirstFaultIn text e)
    → IsUnfit (IsReadFilter (Some text)) (filter_unfit e)
filter_is_unfit text e first =
    unfit_by (IsReadFilter (Some text)) (filter_unfit e)
    (λ h read. no_filter_in text e h first read.0 read.1)

-- ---- a task has a row

abbrev GivesNoTask : Moved → Type 0
GivesNoTask m = (t : TaskValue) → m ≡ only (answer.Task t) → ⊥

taken_begins : (s : LogState) (e : Execution) (now : ℤ) (worker : ℕ) (leaf : Leaf)
    (refused : List Dropped) → GivesNoTask (taken s e now worker leaf refused)
taken_begins s e now worker leaf [] t is =
    false≢true (sym (ap (λ (m : Moved). is_some m.row) is))
taken_begins s e now worker leaf (d ∷ ds) t is =
    false≢true (sym (ap (λ (m : Moved). is_some m.row) is))

claimed_begins : (s : LogState) (e : Execution) (now : ℤ) (worker : ℕ) (leaf : Option Leaf)
    (later : Moved) → GivesNoTask later → GivesNoTask (claimed s e now worker leaf later)
claimed_begins s e now worker None later h t is = h t is
claimed_begins s e now worker (Some leaf) later h t is =
    taken_begins s e now worker leaf (refused_again s e leaf) t is

among_begins : (s : LogState) (now : ℤ) (worker : ℕ) (es : List Execution)
    → GivesNoTask (claim_among s now worker es)
among_begins s now worker [] t is =
    false≢true (ap (λ (m : Moved). is_task m.answer) is)
among_begins s now worker (e ∷ es) t is =
    claimed_begins s e now worker (first_startable e.accepted.plan e.marks)
    (claim_among s now worker es) (among_begins s now worker es) t is

closed_begins : (closed : Bool) (m : Moved) → GivesNoTask m
    → GivesNoTask (if closed then only answer.Closed else m)
closed_begins true m h t is = false≢true (ap (λ (m : Moved). is_task m.answer) is)
closed_begins false m h t is = h t is

-- only a claim gives a task, and then with a row
no_task : (s : LogState) (call : Call) (r : Reading) → GivesNoTask (unlimited_turn r s call)
no_task s call r t is =
    let claimed = turn_claims r s 0 call t (ap (λ m. (limited s 0 m).answer) is) in
    let es : List Execution = running_executions s in
    closed_begins (is_closed s) (claim_among s (moment s claimed.1) claimed.0 es)
    (among_begins s (moment s claimed.1) claimed.0 es) t
    (sym (ap (unlimited_turn r s) claimed.2) ∙ is)

pub task_is_not_settled : (past : List Row) (call : Call) (t : TaskValue)
    → IsSettled past call (answer.Task t) → ⊥
task_is_not_settled past call t is = no_task (log_state past) call is.reading t is.says

pub turns : (past : List Row) (call : Call) (a : Answer) → IsSettled past call a
    → Turns past call (Err (answer_unfit a))
turns past call a settled = unfit_by (AddsRow past call) (answer_unfit a)
    (λ h adds. let is = ruled past call a h settled in
    no_row (log_state past) call is.reading adds.reading a adds.row h is.may_read adds.may_read
    is.says adds.added)
