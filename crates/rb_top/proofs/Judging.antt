-- The stretches of a run around its starts.
use Rattle.std.proofs.Common.{◌≡◌, ◌<◌, ◌≤◌, ◌+◌, ◌*◌, ℕ, zero, suc, List, [], ◌∷◌, length, get_or, drop, Bool, true, false, nat_eq, if◌then◌else◌, refl, ap, sym, ◌∙◌, subst, arith, Option, Some, None, map, filter, All, ◌≢◌}
use Rattle.std.proofs.lemmas.Bool.Decides.{nat_tests}
use Rattle.std.proofs.lemmas.List.Elements.{All-head}
use Rattle.std.proofs.lemmas.List.{at_drop_more, at_drop_all}
use Rattle.rb_acl.specs.declared.policy.Policies.{Policies}
use Rattle.rb_acl.specs.Deciding.{is_allowed}
use Rattle.rb_causes.specs.Sinks.{SinkState, Wrote}
use Rattle.rb_causes.specs.Spawners.{ShownRuns}
use Rattle.rb_causes.specs.declared.trouble.Trouble.{Trouble}
use Rattle.rb_causes.specs.declared.trouble.Trouble.TheVariants.{NoMemory}
use Rattle.rb_marks.specs.First.{first_startable, status_of}
use Rattle.rb_marks.specs.Units.{Outline}
use Rattle.rb_marks.specs.declared.mark.Leaf.{Leaf}
use Rattle.rb_marks.specs.declared.mark.Mark.{Mark}
use Rattle.rb_top.specs.Access.{run_decision, node_decisions, allowed_of, job_targets, policies_of, script_policies}
use Rattle.rb_top.specs.Table.{told_on, Tells}
use Rattle.rb_top.specs.declared.access_table.AccessTable.{AccessTable}
use Rattle.rb_top.specs.Drill.{drill_plan, start_of, next_start, executed, accepted, drops, refused, authorized, one_run, all_runs, is_success}
use Rattle.rb_top.specs.Output.{run_line, drop_line, denial_line, over_line}
use Rattle.rb_top.specs.Play.{Play, Print, Start}
use Rattle.rb_top.specs.Played.{Played, BrokenOff, Breaks, cuts}
use Rattle.rb_top.specs.Reading.{job_at, has_steps}
use Rattle.rb_top.specs.declared.access.NodeDecision.{NodeDecision}
use Rattle.rb_top.specs.declared.script.AccessLine.{AccessLine}
use Rattle.rb_top.specs.declared.script.DrillJob.{DrillJob}
use Rattle.rb_top.specs.declared.script.DrillRun.{DrillRun}
use Rattle.rb_top.specs.declared.script.Script.{Script}
use Rattle.rb_top.proofs.PlayedLemmas.{CutBy, played_then, played_broke, played_nothing, broke_here, text_played, text_broke, played_at, played_from, played_to, broke_at, broke_from}

abbrev Runs : Type 0
Runs = ShownRuns

abbrev Bytes : Type 0
Bytes = SinkState

kept_by : (test : Bool) (node : List ℕ) (d : NodeDecision) (ds : List NodeDecision) (nodes : List (List ℕ)) → map (λ d. d.node) ds ≡ nodes → map (λ (e : NodeDecision). e.node) (if test then d ∷ ds else ds) ≡ (if test then d.node ∷ nodes else nodes)
kept_by true node d ds nodes same = ap (λ ns. d.node ∷ ns) same
kept_by false node d ds nodes same = same

-- the nodes that the decisions on a job's nodes allow are its targets
pub allowed_are_targets : (policies : Policies) (user : List ℕ) (nodes : List (List ℕ)) → allowed_of (node_decisions policies user nodes) ≡ filter (λ node. is_allowed (run_decision policies user node)) nodes
allowed_are_targets policies user [] = refl
allowed_are_targets policies user (node ∷ nodes) = kept_by (is_allowed (run_decision policies user node)) node _ _ _ (allowed_are_targets policies user nodes)

-- what a table tells are the decisions of the policies
pub told_are_decided : (policies : Policies) (table : AccessTable) (user : List ℕ) → Tells policies table → (nodes : List (List ℕ)) → told_on table user nodes ≡ node_decisions policies user nodes
told_are_decided policies table user tells [] = refl
told_are_decided policies table user tells (node ∷ nodes) =
    ap (λ decision. record { node = node; decision = decision } ∷ told_on table user nodes) (tells user node)
    ∙ ap (λ ds. record { node = node; decision = run_decision policies user node } ∷ ds) (told_are_decided policies table user tells nodes)

-- the same, of what was decided and of what is allowed
pub decided_nodes : (policies : Policies) (table : AccessTable) (user : List ℕ) → Tells policies table → (job : DrillJob) (nodes : List (List ℕ)) (decisions ds : List NodeDecision) → nodes ≡ job.nodes
    → decisions ≡ told_on table user nodes → ds ≡ decisions → ds ≡ node_decisions policies user job.nodes
decided_nodes policies table user tells job nodes decisions ds same made is = is ∙ made ∙ ap (told_on table user) same ∙ told_are_decided policies table user tells job.nodes

pub decided_targets : (policies : Policies) (user : List ℕ) (job : DrillJob) (ds : List NodeDecision) (allowed ts : List (List ℕ)) → ds ≡ node_decisions policies user job.nodes → allowed ≡ allowed_of ds
    → ts ≡ allowed → ts ≡ job_targets policies user job
decided_targets policies user job ds allowed ts made kept is = is ∙ kept ∙ ap allowed_of made ∙ allowed_are_targets policies user job.nodes

module _ (k : ℕ) where
  refused_is : (ds : List NodeDecision) (d : NodeDecision) (next : Play) → 1 ≤ length ds → d ≡ get_or ds 0 d → Print (denial_line k d.node d.decision) next ≡ refused k ds next
  refused_is [] d next some read = absurd (omega (arith, some))
  refused_is (x ∷ xs) d next some read = ap (λ (e : NodeDecision). Print (denial_line k e.node e.decision) next) read

  refused_none : (ds : List NodeDecision) (next : Play) → length ds < 1 → next ≡ refused k ds next
  refused_none [] next none = refl
  refused_none (x ∷ xs) next none = absurd (omega (arith, none))

  pub refuse_nothing : (ds : List NodeDecision) (r : Runs) (t : Bytes) → length ds < 1 → Played (refused k ds) (λ next. next) r r t t
  refuse_nothing ds r t none = played_from (λ next. refused_none ds next none) (played_nothing (λ next. next) r t)

  pub refuse_played : (ds : List NodeDecision) (d : NodeDecision) (r : Runs) (t t' : Bytes) → 1 ≤ length ds → d ≡ get_or ds 0 d → Wrote (denial_line k d.node d.decision) t t'
      → Played (refused k ds) (λ next. next) r r t t'
  refuse_played ds d r t t' some read wrote = played_from (λ next. refused_is ds d next some read) (text_played (denial_line k d.node d.decision) (λ next. next) r wrote)

  pub refuse_cut : {trouble : Trouble} (ds : List NodeDecision) (d : NodeDecision) (r : Runs) (t t' : Bytes) → 1 ≤ length ds → d ≡ get_or ds 0 d → CutBy trouble (denial_line k d.node d.decision) t t'
      → BrokenOff trouble (refused k ds) r r t t'
  refuse_cut ds d r t t' some read cut = broke_from (λ next. refused_is ds d next some read) (text_broke (denial_line k d.node d.decision) (λ next. next) r cut)

  -- what a node's decision makes of the drops
  abbrev one_drop : NodeDecision → Play → Play
  one_drop d next = if is_allowed d.decision then next else Print (drop_line k d.node d.decision) next

  drops_are : (ds : List NodeDecision) (i : ℕ) (d : NodeDecision) (next : Play) → i < length ds → d ≡ get_or ds i d → drops k (drop i ds) next ≡ one_drop d (drops k (drop (i + 1) ds) next)
  drops_are ds i d next within read =
      at_drop_more (λ xs. drops k xs next) ds i d within ∙ ap (λ e. one_drop e (drops k (drop (i + 1) ds) next)) (sym read)

  module _ (ds : List NodeDecision) (i : ℕ) (d : NodeDecision) (within : i < length ds) (read : d ≡ get_or ds i d) (r : Runs) where
    pub drop_passed : (t0 t : Bytes) → is_allowed d.decision ≡ true → Played (drops k ds) (drops k (drop i ds)) r r t0 t → Played (drops k ds) (drops k (drop (i + 1) ds)) r r t0 t
    drop_passed t0 t allowed so_far =
        played_to (λ next. drops_are ds i d next within read ∙ ap (λ b. if b then drops k (drop (i + 1) ds) next else Print (drop_line k d.node d.decision) (drops k (drop (i + 1) ds) next)) allowed) so_far

    drop_is : is_allowed d.decision ≡ false → (next : Play) → drops k (drop i ds) next ≡ Print (drop_line k d.node d.decision) (drops k (drop (i + 1) ds) next)
    drop_is denied next =
        drops_are ds i d next within read ∙ ap (λ b. if b then drops k (drop (i + 1) ds) next else Print (drop_line k d.node d.decision) (drops k (drop (i + 1) ds) next)) denied

    pub drop_played : (t0 t t' : Bytes) → is_allowed d.decision ≡ false → Played (drops k ds) (drops k (drop i ds)) r r t0 t → Wrote (drop_line k d.node d.decision) t t'
        → Played (drops k ds) (drops k (drop (i + 1) ds)) r r t0 t'
    drop_played t0 t t' denied so_far wrote =
        played_then (played_to (drop_is denied) so_far) (text_played (drop_line k d.node d.decision) (drops k (drop (i + 1) ds)) r wrote)

    pub drop_cut : {trouble : Trouble} (t0 t t' : Bytes) → is_allowed d.decision ≡ false → Played (drops k ds) (drops k (drop i ds)) r r t0 t → CutBy trouble (drop_line k d.node d.decision) t t'
        → BrokenOff trouble (drops k ds) r r t0 t'
    drop_cut t0 t t' denied so_far cut =
        played_broke (played_to (drop_is denied) so_far) (text_broke (drop_line k d.node d.decision) (drops k (drop (i + 1) ds)) r cut)

  pub drops_over : (ds : List NodeDecision) (i : ℕ) (r : Runs) (t0 t : Bytes) → length ds ≤ i → Played (drops k ds) (drops k (drop i ds)) r r t0 t → Played (drops k ds) (λ next. next) r r t0 t
  drops_over ds i r t0 t past so_far = played_to (λ next. at_drop_all (λ xs. drops k xs next) ds i past) so_far

next_start_cut : (found : Option Leaf) (start : Leaf → Start) (marks : List Mark) (more next : List Mark → Play) → ((after : List Mark) → Breaks (next after) [] [])
    → Breaks (next_start found start marks more next) [] []
next_start_cut None start marks more next rest = rest marks
next_start_cut (Some leaf) start marks more next rest = cuts 0 (omega arith) refl

executed_cut : (fuel : ℕ) (user : List ℕ) (nodes : List (List ℕ)) (job : DrillJob) (marks : List Mark) (next : List Mark → Play) → ((after : List Mark) → Breaks (next after) [] [])
    → Breaks (executed fuel user nodes job marks next) [] []
executed_cut zero user nodes job marks next rest = rest marks
executed_cut (suc fuel) user nodes job marks next rest =
    next_start_cut (first_startable (drill_plan nodes job) marks) (start_of user nodes job) marks (λ more. executed fuel user nodes job more next) next rest

module _ (k : ℕ) (user : List ℕ) (nodes : List (List ℕ)) (job : DrillJob) where
  -- how the run ended, and what follows
  abbrev job_over : Play → List Mark → Play
  job_over next marks = Print (over_line k (is_success (status_of (drill_plan nodes job) marks))) next

  pub job_broke : {trouble : Trouble} (marks : List Mark) {r r' : Runs} {t t' : Bytes} → marks ≡ [] → BrokenOff trouble (executed (length nodes * length job.steps) user nodes job marks) r r' t t' → BrokenOff trouble (accepted k user nodes job) r r' t t'
  job_broke marks none broke = broke_from (λ next. ap (λ ms. executed (length nodes * length job.steps) user nodes job ms (job_over next)) none) (broke_at job_over broke)

  -- a run that is not refused prints first of all
  pub accepted_cut : (next : Play) → Breaks (accepted k user nodes job next) [] []
  accepted_cut next = executed_cut (length nodes * length job.steps) user nodes job [] (job_over next) (λ marks. cuts 0 (omega arith) refl)

  job_goes : (marks marks' : List Mark) {r r' : Runs} {t t' : Bytes} → marks ≡ [] → Played (executed (length nodes * length job.steps) user nodes job marks) (λ next. next marks') r r' t t'
      → Played (accepted k user nodes job) (λ next. job_over next marks') r r' t t'
  job_goes marks marks' none played = played_from (λ next. ap (λ ms. executed (length nodes * length job.steps) user nodes job ms (job_over next)) none) (played_at job_over played)

  module _ (marks marks' : List Mark) (plan : Outline) (good : Bool) (none : marks ≡ []) (same : plan ≡ drill_plan nodes job) (judged_good : good ≡ is_success (status_of plan marks')) where
    over_is : (next : Play) → job_over next marks' ≡ Print (over_line k good) next
    over_is next = ap (λ b. Print (over_line k b) next) (sym (judged_good ∙ ap (λ p. is_success (status_of p marks')) same))

    pub job_played : {r r' : Runs} {t t' : Bytes} (t'' : Bytes) → Played (executed (length nodes * length job.steps) user nodes job marks) (λ next. next marks') r r' t t'
        → Wrote (over_line k good) t' t'' → Played (accepted k user nodes job) (λ next. next) r r' t t''
    job_played {r' = r'} {t' = t'} t'' played wrote =
        played_then (played_to over_is (job_goes marks marks' none played)) (text_played (over_line k good) (λ next. next) r' wrote)

    pub job_cut : {trouble : Trouble} {r r' : Runs} {t t' : Bytes} (t'' : Bytes) → Played (executed (length nodes * length job.steps) user nodes job marks) (λ next. next marks') r r' t t'
        → CutBy trouble (over_line k good) t' t'' → BrokenOff trouble (accepted k user nodes job) r r' t t''
    job_cut {r' = r'} {t' = t'} t'' played cut =
        played_broke (played_to over_is (job_goes marks marks' none played)) (text_broke (over_line k good) (λ next. next) r' cut)

module _ (k : ℕ) (user : List ℕ) (job : DrillJob) (ds : List NodeDecision) where
  authorized_none : (ts : List (List ℕ)) (next : Play) → nat_eq (length ts) 0 ≡ true → refused k ds next ≡ authorized k user job ds ts next
  authorized_none [] next none = refl
  authorized_none (x ∷ xs) next none = let never : ⊥ = grind (arith, nat_tests) in absurd never

  authorized_some : (ts : List (List ℕ)) (next : Play) → nat_eq (length ts) 0 ≡ false → drops k ds (accepted k user ts job next) ≡ authorized k user job ds ts next
  authorized_some [] next some = cc
  authorized_some (x ∷ xs) next some = refl

  module _ (ts : List (List ℕ)) where
    pub authorize_refused : {r r' : Runs} {t t' : Bytes} → nat_eq (length ts) 0 ≡ true → Played (refused k ds) (λ next. next) r r' t t' → Played (authorized k user job ds ts) (λ next. next) r r' t t'
    authorize_refused none played = played_from (λ next. authorized_none ts next none) played

    pub authorize_refused_cut : {trouble : Trouble} {r r' : Runs} {t t' : Bytes} → nat_eq (length ts) 0 ≡ true → BrokenOff trouble (refused k ds) r r' t t'
        → BrokenOff trouble (authorized k user job ds ts) r r' t t'
    authorize_refused_cut none broke = broke_from (λ next. authorized_none ts next none) broke

    pub authorize_played : {r r' : Runs} {t t' t'' : Bytes} → nat_eq (length ts) 0 ≡ false → Played (drops k ds) (λ next. next) r r t t'
        → Played (accepted k user ts job) (λ next. next) r r' t' t'' → Played (authorized k user job ds ts) (λ next. next) r r' t t''
    authorize_played some dropped ran = played_from (λ next. authorized_some ts next some) (played_then (played_at (accepted k user ts job) dropped) ran)

    pub authorize_cut : {trouble : Trouble} {r r' : Runs} {t t' t'' : Bytes} → nat_eq (length ts) 0 ≡ false → Played (drops k ds) (λ next. next) r r t t'
        → BrokenOff trouble (accepted k user ts job) r r' t' t'' → BrokenOff trouble (authorized k user job ds ts) r r' t t''
    authorize_cut some dropped broke = broke_from (λ next. authorized_some ts next some) (played_broke (played_at (accepted k user ts job) dropped) broke)

    pub authorize_drops_cut : {trouble : Trouble} {r : Runs} {t t' : Bytes} → nat_eq (length ts) 0 ≡ false → BrokenOff trouble (drops k ds) r r t t'
        → BrokenOff trouble (authorized k user job ds ts) r r t t'
    authorize_drops_cut some broke = broke_from (λ next. authorized_some ts next some) (broke_at (accepted k user ts job) broke)

-- a run of a job that there is
module _ (policies : Policies) (k : ℕ) (r : DrillRun) (found : Option DrillJob) (job : DrillJob) (there : Some job ≡ found) where
  abbrev run_authorized : Play → Play
  run_authorized = authorized k r.user job (node_decisions policies r.user job.nodes) (job_targets policies r.user job)

  run_is : (next : Play) → Print (run_line k r.user r.job) (run_authorized next) ≡ one_run policies k r found next
  run_is next = ap (λ j. one_run policies k r j next) there

  pub run_played : {r0 r1 : Runs} {t0 : Bytes} (t1 : Bytes) {t2 : Bytes} → Wrote (run_line k r.user r.job) t0 t1 → Played run_authorized (λ next. next) r0 r1 t1 t2
      → Played (one_run policies k r found) (λ next. next) r0 r1 t0 t2
  run_played {r0 = r0} {t0 = t0} t1 wrote played = played_from run_is (played_then (text_played (run_line k r.user r.job) run_authorized r0 wrote) played)

  pub run_broke : {trouble : Trouble} {r0 r1 : Runs} {t0 : Bytes} (t1 : Bytes) {t2 : Bytes} → Wrote (run_line k r.user r.job) t0 t1 → BrokenOff trouble run_authorized r0 r1 t1 t2
      → BrokenOff trouble (one_run policies k r found) r0 r1 t0 t2
  run_broke {r0 = r0} {t0 = t0} t1 wrote broke = broke_from run_is (played_broke (text_played (run_line k r.user r.job) run_authorized r0 wrote) broke)

  pub run_cut : {trouble : Trouble} (r0 : Runs) (t0 t1 : Bytes) → CutBy trouble (run_line k r.user r.job) t0 t1 → BrokenOff trouble (one_run policies k r found) r0 r0 t0 t1
  run_cut r0 t0 t1 cut = broke_from run_is (text_broke (run_line k r.user r.job) run_authorized r0 cut)

  -- memory was wanting before its first line
  pub run_unmade : (r0 : Runs) (t0 : Bytes) → BrokenOff NoMemory (one_run policies k r found) r0 r0 t0 t0
  run_unmade r0 t0 = broke_from run_is (broke_here (λ next. Print (run_line k r.user r.job) (run_authorized next)) r0 t0 (λ next. cuts 0 (omega arith) refl))

-- before the first of some runs, of which each is of a job that there is
pub runs_unmade : (policies : Policies) (jobs : List DrillJob) (rs : List DrillRun) (k : ℕ) → length rs ≢ 0 → All (λ r. has_steps (job_at jobs r.job) ≡ true) rs → (next : Play)
    → Breaks (all_runs policies jobs k rs next) [] []
runs_unmade policies jobs [] k some steps next = absurd (some refl)
runs_unmade policies jobs (r ∷ rs) k some steps next =
    first (job_at jobs r.job) (All-head (λ r. has_steps (job_at jobs r.job) ≡ true) r rs steps)
  where
    first : (found : Option DrillJob) → has_steps found ≡ true → Breaks (one_run policies k r found (all_runs policies jobs (k + 1) rs next)) [] []
    first None has = cc
    first (Some job) has = cuts 0 (omega arith) refl

-- the runs so far, and one more
module _ (policies : Policies) (jobs : List DrillJob) (rs : List DrillRun) (i : ℕ) (r : DrillRun) (within : i < length rs) (read : r ≡ get_or rs i r) where
  abbrev runs_left : ℕ → Play → Play
  runs_left n = all_runs policies jobs (n + 1) (drop n rs)

  run_next : (next : Play) → runs_left i next ≡ one_run policies (i + 1) r (job_at jobs r.job) (runs_left (i + 1) next)
  run_next next =
      at_drop_more (λ xs. all_runs policies jobs (i + 1) xs next) rs i r within
      ∙ ap (λ x. one_run policies (i + 1) x (job_at jobs x.job) (runs_left (i + 1) next)) (sym read)

  pub runs_more : (before : Play → Play) {r0 r1 r2 : Runs} {t0 t1 t2 : Bytes} → Played before (runs_left i) r0 r1 t0 t1
      → Played (one_run policies (i + 1) r (job_at jobs r.job)) (λ next. next) r1 r2 t1 t2 → Played before (runs_left (i + 1)) r0 r2 t0 t2
  runs_more before so_far ran = played_then (played_to run_next so_far) (played_at (runs_left (i + 1)) ran)

  pub runs_cut : {trouble : Trouble} (before : Play → Play) {r0 r1 r2 : Runs} {t0 t1 t2 : Bytes} → Played before (runs_left i) r0 r1 t0 t1
      → BrokenOff trouble (one_run policies (i + 1) r (job_at jobs r.job)) r1 r2 t1 t2 → BrokenOff trouble before r0 r2 t0 t2
  runs_cut before so_far broke = played_broke (played_to run_next so_far) (broke_at (runs_left (i + 1)) broke)

-- there is no run
pub runs_none : (policies : Policies) (jobs : List DrillJob) (rs : List DrillRun) (r : Runs) (t : Bytes) → nat_eq (length rs) 0 ≡ true → Played (all_runs policies jobs 1 rs) (λ next. next) r r t t
runs_none policies jobs [] r t none = played_nothing (λ next. next) r t
runs_none policies jobs (x ∷ xs) r t none = let never : ⊥ = grind (arith, nat_tests) in absurd never

pub some_runs : (rs : List DrillRun) → nat_eq (length rs) 0 ≡ false → length rs ≢ 0
some_runs [] some is_none = cc
some_runs (x ∷ xs) some is_none = absurd (omega (arith, is_none))

pub runs_over : (policies : Policies) (jobs : List DrillJob) (rs : List DrillRun) (i : ℕ) (before : Play → Play) {r0 r1 : Runs} {t0 t1 : Bytes} → length rs ≤ i
    → Played before (all_runs policies jobs (i + 1) (drop i rs)) r0 r1 t0 t1 → Played before (λ next. next) r0 r1 t0 t1
runs_over policies jobs rs i before past so_far = played_to (λ next. at_drop_all (λ xs. all_runs policies jobs (i + 1) xs next) rs i past) so_far

-- the same run of jobs that are equal
module _ (policies : Policies) {jobs jobs' : List DrillJob} (k : ℕ) (run : DrillRun) (same_jobs : jobs ≡ jobs') where
  run_at_is : (next : Play) → one_run policies k run (job_at jobs run.job) next ≡ one_run policies k run (job_at jobs' run.job) next
  run_at_is next = ap (λ js. one_run policies k run (job_at js run.job) next) same_jobs

  pub run_at : {r r' : Runs} {t t' : Bytes} → Played (one_run policies k run (job_at jobs run.job)) (λ next. next) r r' t t' → Played (one_run policies k run (job_at jobs' run.job)) (λ next. next) r r' t t'
  run_at played = played_from run_at_is played

  pub run_cut_at : {trouble : Trouble} {r r' : Runs} {t t' : Bytes} → BrokenOff trouble (one_run policies k run (job_at jobs run.job)) r r' t t' → BrokenOff trouble (one_run policies k run (job_at jobs' run.job)) r r' t t'
  run_cut_at broke = broke_from run_at_is broke

-- a table of a script's access lines tells the decisions of its policies
pub tells_script : (access : List AccessLine) (s : Script) (table : AccessTable) → access ≡ s.access → Tells (policies_of access) table → Tells (script_policies s) table
tells_script access s table same tells = subst (λ lines. Tells (policies_of lines) table) same tells

pub same_run : (rs rs' : List DrillRun) (i : ℕ) (r : DrillRun) → rs ≡ rs' → i < length rs → r ≡ get_or rs i r → (i < length rs') × (r ≡ get_or rs' i r)
same_run rs rs' i r same within read = (subst (λ xs. i < length xs) same within, subst (λ xs. r ≡ get_or xs i r) same read)
