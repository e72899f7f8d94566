-- For all documents there is something that the readers of policies and of jobs may give.
use Rattle.std.proofs.Common.{◌≡◌, ◌≢◌, ◌+◌, ◌⊎◌, inl, inr, ℕ, List, [], ◌∷◌, ◌++◌, length, Bool, true, false, nat_le, Option, Some, None, Result, Ok, Err, IsOk, IfOk, ℤ, chars, ap, sym, subst, refl, arith, if◌then◌else◌}
use Rattle.std.proofs.lemmas.Bool.Decides.{leb_tells}
use Rattle.std.proofs.lemmas.Bool.{and_from}
use Rattle.rb_causes.specs.Words.{Split, words_in}
use Rattle.rb_text.specs.Causes.{MayBeRefused}
use Rattle.rb_text.specs.Matching.{IsPatternText, whole_form}
use Rattle.rb_text.proofs.Meaning.{unread_or}
use Rattle.rb_text.specs.declared.pattern_err.PatternErr.{PatternErr}
use Rattle.rb_text.specs.declared.pattern_err.PatternErr.TheVariants as pattern_err
use Rattle.rb_text.specs.declared.value.Value.{Value}
use Rattle.rb_text.specs.declared.value.Value.TheVariants.{Plain, Pattern}
use Rattle.rb_yaml.specs.Tree.{YamlTree}
use Rattle.rb_node.specs.Drafts.{drafts_of}
use Rattle.rb_node.specs.Filters.{of_end, of_drafts, of_words, filter_of, FailsAtWord, IsFaultOfDrafts, IsFaultOfWords, AreReadIn, ArePatternsRead}
use Rattle.rb_node.specs.Values.{drafted_values, is_filled, are_filled, IsRead, AreRead as AreReadValues, IsValueFault, IsFirstFaultOf}
use Rattle.rb_node.specs.declared.drafting.Drafts.{Drafts}
use Rattle.rb_node.specs.declared.filter_err.FilterErr.{FilterErr}
use Rattle.rb_node.specs.declared.filter_err.FilterErr.TheVariants as filter_err
use Rattle.rb_acl_doc.specs.Keys.{flaws_of}
use Rattle.rb_acl_doc.specs.Patterns.{ArePatterns, HasRefused}
use Rattle.rb_acl_doc.specs.Reading.{patterns_in, IsSoundDoc, IsDocFault, AreSound, RefusesDocs}
use Rattle.rb_acl_doc.specs.Telling.{foremost_kind}
use Rattle.rb_acl_doc.specs.declared.fault.AclErr.TheVariants as acl_err
use Rattle.rb_acl_doc.specs.declared.fault.AclKind.{AclKind}
use Rattle.rb_acl_doc.specs.declared.fault.AclKind.TheVariants as acl_kind
use Rattle.rb_acl_doc.proofs.Structure.{flaw_is_fault}
use Rattle.rb_cron.specs.declared.zone.NamedZone.{NamedZone}
use Rattle.rb_job.specs.Jobs.{AreFaultless, IsFirstJobFault, listing_doubts, listed_job, next_job_number}
use Rattle.rb_job.specs.Listings.{ListedJob, listings_of}
use Rattle.rb_job.specs.Telling.{IsNoFilter, IsSo, Passes, AllPass, IsFirstDoubt}
use Rattle.rb_job.specs.TextForms.{Suspicion, certain, pattern, filter, Doubt}
use Rattle.rb_job.specs.declared.fault.JobFault.{JobFault}
use Rattle.rb_job.specs.declared.fault.JobKind.{JobKind}
use Rattle.rb_job.specs.declared.fault.JobKind.TheVariants as job_kind
use Rattle.rb_job.specs.declared.job.Job.{Job}
use Rattle.rb_yaml.specs.Documents.{docs_of}
use Rattle.rb_yaml.specs.declared.fault.YamlFault.{YamlFault}
use Rattle.rb_acl.specs.declared.policy.Caller.{Caller}
use Rattle.rb_acl.specs.declared.policy.Policy.{Policy}
use Rattle.rb_acl_doc.specs.declared.fault.AclFault.{AclFault}
use Rattle.rb_log.specs.LogState.{LogState, zones_in}
use Rattle.rb_log.specs.Readings.{Reading, MayReadPolicies, MayReadJobs, policies_of, jobs_of}
use Rattle.rb_log.specs.Turn.{MayRead}
use Rattle.rb_log.specs.declared.call.Call.TheVariants as call

-- ---- patterns

pattern_or : (text : List ℕ) → IsPatternText text ⊎ MayBeRefused text
pattern_or text =
    elim (leb_tells (length text) 256) [
      | inr long ↦ inr (pattern_err.TooLong, long.1, (λ x. grind (arith, x)))
      | inl short ↦ elim (unread_or text) [
        | inl u ↦ inr (pattern_err.BadPattern, (short.1, inl u), (λ x. grind (arith, x)))
        | inr plain ↦ elim (unread_or (whole_form text)) [
          | inl u ↦ inr (pattern_err.BadPattern, (short.1, inr u), (λ x. grind (arith, x)))
          | inr whole ↦ inl (short.1, plain, whole)
        ]
      ]
    ]

-- ---- policies

-- one is refused for some cause
abbrev HasSome : List (List ℕ) → Type 0
HasSome ps = (e : PatternErr) × HasRefused e ps

policy_patterns : (ps : List (List ℕ)) → ArePatterns ps ⊎ HasSome ps
policy_patterns [] = inl tt
policy_patterns (p ∷ ps) = by_first (pattern_or p) (policy_patterns ps)
  where
    by_first : IsPatternText p ⊎ MayBeRefused p → ArePatterns ps ⊎ HasSome ps
        → ArePatterns (p ∷ ps) ⊎ HasSome (p ∷ ps)
    by_first (inl h) (inl k) = inl (h, k)
    by_first (inl h) (inr k) = inr (k.0, inr k.1)
    by_first (inr h) k = inr (h.0, inl (h.1, h.2))

abbrev IsFaulty : YamlTree → Type 0
IsFaulty doc = (kind : AclKind) × IsDocFault doc kind

flawless_or : (doc : YamlTree) → foremost_kind (flaws_of doc) ≡ None
    → ArePatterns (patterns_in doc) ⊎ HasSome (patterns_in doc) → IsSoundDoc doc ⊎ IsFaulty doc
flawless_or doc h (inl k) = inl (record { flawless = h; read = k })
flawless_or doc h (inr k) = inr (acl_kind.BadPattern k.0, (inl h, k.1))

no_action_or : (doc : YamlTree) → foremost_kind (flaws_of doc) ≡ Some acl_kind.NoAction
    → ArePatterns (patterns_in doc) ⊎ HasSome (patterns_in doc) → IsSoundDoc doc ⊎ IsFaulty doc
no_action_or doc h (inl k) = inr (acl_kind.NoAction, (h, k))
no_action_or doc h (inr k) = inr (acl_kind.BadPattern k.0, (inr h, k.1))

flaw_or : (doc : YamlTree) (flaw : Option AclKind) → foremost_kind (flaws_of doc) ≡ flaw
    → IsSoundDoc doc ⊎ IsFaulty doc
flaw_or doc None h = flawless_or doc h (policy_patterns (patterns_in doc))
flaw_or doc (Some acl_kind.NoAction) h = no_action_or doc h (policy_patterns (patterns_in doc))
flaw_or doc (Some kind) h = inr (kind, flaw_is_fault doc kind h refl)

-- a first document that is not sound
record HasFaulty (docs : List YamlTree) : Type 0 where
  before : List YamlTree
  doc : YamlTree
  behind : List YamlTree
  given : docs ≡ before ++ doc ∷ behind
  sound : AreSound before
  faulty : IsFaulty doc

policies_or : (docs : List YamlTree) → AreSound docs ⊎ HasFaulty docs
policies_or [] = inl tt
policies_or (doc ∷ docs) =
    by_first (flaw_or doc (foremost_kind (flaws_of doc)) refl) (policies_or docs)
  where
    by_first : IsSoundDoc doc ⊎ IsFaulty doc → AreSound docs ⊎ HasFaulty docs
        → AreSound (doc ∷ docs) ⊎ HasFaulty (doc ∷ docs)
    by_first (inl h) (inl k) = inl (h, k)
    by_first (inl h) (inr k) = inr (record {
      before = doc ∷ k.before;
      doc = k.doc;
      behind = k.behind;
      given = ap (λ ds. doc ∷ ds) k.given;
      sound = (h, k.sound);
      faulty = k.faulty;
    })
    by_first (inr h) k = inr (record {
      before = [];
      doc = doc;
      behind = docs;
      given = refl;
      sound = tt;
      faulty = h;
    })

refusal_of : (docs : List YamlTree) (h : HasFaulty docs)
    → RefusesDocs docs (acl_err.Fault (record { doc = length h.before + 1; kind = h.faulty.0 }))
refusal_of docs h = record {
  before = h.before;
  doc = h.doc;
  behind = h.behind;
  given = h.given;
  sound = h.sound;
  fault = (refl, h.faulty.1);
}

-- ---- jobs

-- a text is refused as a filter
abbrev IsNoFilterText : List ℕ → Type 0
IsNoFilterText text = (e : FilterErr) × IsNoFilter text e

-- each value of a filter is filled and read, or there is a first one that is not
record AreGood (vs : List Value) : Type 0 where
  filled : are_filled vs ≡ true
  read : AreReadValues vs

record HasBad (vs : List Value) : Type 0 where
  e : FilterErr
  cause : e ≢ filter_err.NoMemory
  first : IsFirstFaultOf vs e

abbrev ValueOr : Value → Type 0
ValueOr v =
    ((is_filled v ≡ true) × IsRead v)
    ⊎ ((e : FilterErr) × (e ≢ filter_err.NoMemory) × IsValueFault v e)

plain_or : (text : List ℕ) (b : Bool) → is_filled (Plain text) ≡ b → ValueOr (Plain text)
plain_or text true h = inl (h, tt)
plain_or text false h = inr (filter_err.EmptyValue, (λ x. grind (arith, x)), h)

written_or : (text : List ℕ) → IsPatternText text ⊎ MayBeRefused text → ValueOr (Pattern text)
written_or text (inl h) = inl (refl, h)
written_or text (inr h) =
    inr (filter_err.BadPattern h.0, (λ x. grind (arith, x)), (h.1, h.2))

value_or : (v : Value) → ValueOr v
value_or (Plain text) = plain_or text (is_filled (Plain text)) refl
value_or (Pattern text) = written_or text (pattern_or text)

values_or : (vs : List Value) → AreGood vs ⊎ HasBad vs
values_or [] = inl (record { filled = refl; read = tt })
values_or (v ∷ vs) = by_first (value_or v) (values_or vs)
  where
    by_first : ValueOr v → AreGood vs ⊎ HasBad vs → AreGood (v ∷ vs) ⊎ HasBad (v ∷ vs)
    by_first (inl h) (inl k) = inl (record {
      filled = and_from (is_filled v) (are_filled vs) h.0 k.filled;
      read = (h.1, k.read);
    })
    by_first (inl h) (inr k) =
        inr (record { e = k.e; cause = k.cause; first = inr (h.0, h.1, k.first) })
    by_first (inr h) k = inr (record { e = h.0; cause = h.1; first = inl h.2 })

-- a text of this splitting is a filter, or has a first fault
abbrev SplitOr : Split → Type 0
SplitOr split =
    (IsOk (of_words split) × AreReadIn split)
    ⊎ ((e : FilterErr) × (e ≢ filter_err.NoMemory) × IsFaultOfWords split e)

ended_or : (d : Drafts) (bad : Option ℕ) → d.bad ≡ bad → AreGood (drafted_values d.drafts)
    → (IsOk (of_drafts d) × AreReadValues (drafted_values d.drafts))
    ⊎ ((e : FilterErr) × (e ≢ filter_err.NoMemory) × IsFaultOfDrafts d e)
ended_or d None h k =
    inl (
      subst (λ b. IsOk (if b then of_end d.drafts d.bad else Err filter_err.EmptyValue))
          (sym k.filled)
          (subst (λ o. IsOk (of_end d.drafts o)) (sym h) refl),
      k.read,
    )
ended_or d (Some at) h k =
    inr (
      filter_err.BadClause at,
      (λ x. grind (arith, x)),
      inr (k.filled, k.read, subst (λ o. FailsAtWord o (filter_err.BadClause at)) (sym h) refl),
    )

drafts_or : (d : Drafts) → AreGood (drafted_values d.drafts) ⊎ HasBad (drafted_values d.drafts)
    → (IsOk (of_drafts d) × AreReadValues (drafted_values d.drafts))
    ⊎ ((e : FilterErr) × (e ≢ filter_err.NoMemory) × IsFaultOfDrafts d e)
drafts_or d (inl h) = ended_or d d.bad refl h
drafts_or d (inr h) = inr (h.e, h.cause, inl h.first)

split_or : (split : Split) → SplitOr split
split_or (Ok words) =
    drafts_or (drafts_of words) (values_or (drafted_values (drafts_of words).drafts))
split_or (Err before) =
    inr (filter_err.BadClause (before + 1), (λ x. grind (arith, x)), inl refl)

abbrev FilterOr : List ℕ → Type 0
FilterOr text = (IsOk (filter_of text) × ArePatternsRead text) ⊎ IsNoFilterText text

short_or : (text : List ℕ) → nat_le (length text) 1024 ≡ true
    → SplitOr (words_in (chars text)) → FilterOr text
short_or text h (inl k) =
    inl (
      subst (λ b. IsOk (if b then of_words (words_in (chars text)) else Err filter_err.TooLong))
          (sym h) k.0,
      k.1,
    )
short_or text h (inr k) = inr (
  k.0,
  record {
    cause = k.1;
    long = λ long. absurd (grind (arith, h, long));
    fault = λ short. k.2;
  },
)

filter_by : (text : List ℕ) (b : Bool) → nat_le (length text) 1024 ≡ b → FilterOr text
filter_by text true h = short_or text h (split_or (words_in (chars text)))
filter_by text false h = inr (
  filter_err.TooLong,
  record {
    cause = λ x. grind (arith, x);
    long = λ long. refl;
    fault = λ short. absurd (grind (arith, h, short));
  },
)

abbrev Holding : Suspicion → Type 0
Holding s = (told : JobKind) × IsSo s told

pattern_holds : (text : List ℕ) → IsPatternText text ⊎ MayBeRefused text
    → IsPatternText text ⊎ Holding (pattern text)
pattern_holds text (inl h) = inl h
pattern_holds text (inr h) = inr (job_kind.BadPattern h.0, (h.0, refl, (h.1, h.2)))

filter_holds : (text : List ℕ) → FilterOr text
    → (IsOk (filter_of text) × ArePatternsRead text) ⊎ Holding (filter text)
filter_holds text (inl h) = inl h
filter_holds text (inr h) = inr (job_kind.BadFilter h.0, (h.0, refl, h.1))

suspicion_or : (s : Suspicion) → Passes s ⊎ Holding s
suspicion_or (certain k) = inr (k, refl)
suspicion_or (pattern text) = pattern_holds text (pattern_or text)
suspicion_or (filter text) = filter_holds text (filter_by text (nat_le (length text) 1024) refl)

-- a first doubt that is so
abbrev HasDoubt : List Doubt → Type 0
HasDoubt ds = (key : List ℕ) × (told : JobKind) × IsFirstDoubt ds key told

doubts_or : (ds : List Doubt) → AllPass ds ⊎ HasDoubt ds
doubts_or [] = inl tt
doubts_or (d ∷ ds) = by_first (suspicion_or d.1) (doubts_or ds)
  where
    by_first : Passes d.1 ⊎ Holding d.1 → AllPass ds ⊎ HasDoubt ds
        → AllPass (d ∷ ds) ⊎ HasDoubt (d ∷ ds)
    by_first (inl h) (inl k) = inl (h, k)
    by_first (inl h) (inr k) = inr (k.0, k.1, inr (h, k.2))
    by_first (inr h) k = inr (d.0, h.0, inl (refl, h.1))

abbrev HasFault : List NamedZone → ℕ → List Job → List ListedJob → Type 0
HasFault zones number before ls =
    (fault : JobFault) × IsFirstJobFault zones number before ls fault

jobs_or : (zones : List NamedZone) (number : ℕ) (before : List Job) (ls : List ListedJob)
    → AreFaultless zones before ls ⊎ HasFault zones number before ls
jobs_or zones number before [] = inl tt
jobs_or zones number before (l ∷ ls) =
    by_first (doubts_or (listing_doubts zones before l))
    (jobs_or zones (next_job_number number) (before ++ listed_job zones l ∷ []) ls)
  where
    by_first : AllPass (listing_doubts zones before l) ⊎ HasDoubt (listing_doubts zones before l)
        → AreFaultless zones (before ++ listed_job zones l ∷ []) ls
        ⊎ HasFault zones (next_job_number number) (before ++ listed_job zones l ∷ []) ls
        → AreFaultless zones before (l ∷ ls) ⊎ HasFault zones number before (l ∷ ls)
    by_first (inl h) (inl k) = inl (h, k)
    by_first (inl h) (inr k) = inr (k.0, inr (h, k.1))
    by_first (inr h) k =
        inr (record { job = number; key = h.0; kind = h.1 }, inl (refl, h.2))

-- ---- what the readers may give

policies_by : (file : List ℕ) (docs : List YamlTree) → AreSound docs ⊎ HasFaulty docs
    → (read : Result (List Policy) AclFault) × MayReadPolicies file docs read
policies_by file docs (inl h) = (Ok (policies_of file docs), (refl, h))
policies_by file docs (inr h) =
    (Err (record { doc = length h.before + 1; kind = h.faulty.0 }), refusal_of docs h)

jobs_by : (zones : List NamedZone) (docs : List YamlTree)
    → AreFaultless zones [] (listings_of docs) ⊎ HasFault zones 1 [] (listings_of docs)
    → (read : Result (List Job) JobFault) × MayReadJobs zones docs read
jobs_by zones docs (inl h) = (Ok (jobs_of zones docs), record { faultless = h; jobs_are = refl })
jobs_by zones docs (inr h) = (Err h.0, h.1)

-- for the body of any import there is something
policy_body : (name : List ℕ) (body : Result (List YamlTree) YamlFault)
    → (read : Result (List Policy) AclFault)
    × IfOk body (λ docs. MayReadPolicies name docs read)
policy_body name (Ok docs) = policies_by name docs (policies_or docs)
policy_body name (Err fault) = (Ok [], tt)

pub policy_readable : (s : LogState) (caller : Caller) (checked : Bool) (name body : List ℕ)
    (at : ℤ)
    → (reading : Reading) × MayRead s (call.ImportPolicy caller checked name body at) reading
policy_readable s caller checked name body at =
    let read = policy_body name (docs_of body) in
    (record { policies = read.0; jobs = Ok [] }, read.1)

jobs_body : (zones : List NamedZone) (body : Result (List YamlTree) YamlFault)
    → (read : Result (List Job) JobFault) × IfOk body (λ docs. MayReadJobs zones docs read)
jobs_body zones (Ok docs) = jobs_by zones docs (jobs_or zones 1 [] (listings_of docs))
jobs_body zones (Err fault) = (Ok [], tt)

pub jobs_readable : (s : LogState) (caller : Caller) (checked : Bool) (project body : List ℕ)
    (at : ℤ)
    → (reading : Reading) × MayRead s (call.ImportJobs caller checked project body at) reading
jobs_readable s caller checked project body at =
    let read = jobs_body (zones_in s) (docs_of body) in
    (record { policies = Ok []; jobs = read.0 }, read.1)
