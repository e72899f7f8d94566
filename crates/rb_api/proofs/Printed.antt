-- No body has a float.
use Rattle.std.proofs.Common.{◌≡◌, ℕ, ℤ, pos, negsuc, false, ◌||◌, List, [], ◌∷◌, map, Option, Some, None, refl}
use Rattle.std.specs.Cmp.Lexicographic.{slice_cmp}
use Rattle.std.specs.Ordering.{nat_cmp, match_ordering}
use Rattle.std.specs.declared.cmp.Ordering.{Ordering}
use Rattle.std.specs.declared.cmp.Ordering.TheVariants.{Less, Equal, Greater}
use Rattle.std.proofs.lemmas.Bool.{or_from, or_parts}
use Rattle.serde_json.specs.Data as json
use Rattle.serde_json.specs.Find.{is_float, of_integer}
use Rattle.serde_json.specs.View.{items_of}
use Rattle.serde_json.specs.Written.{has_float, items_have_float, members_have_float}
use Rattle.rb_causes.specs.declared.items.Prop.{Prop}
use Rattle.rb_log.specs.declared.answer.Answer.{Answer}
use Rattle.rb_log.specs.declared.answer.Answer.TheVariants as answer
use Rattle.rb_log.specs.declared.answer.ImportedJob.{ImportedJob}
use Rattle.rb_log.specs.declared.answer.Reason.{Reason}
use Rattle.rb_log.specs.declared.shown.NodeState.{NodeState}
use Rattle.rb_log.specs.declared.shown.Shown.{Shown}
use Rattle.rb_log.specs.declared.shown.Shown.TheVariants as shown
use Rattle.rb_log.specs.declared.shown.View.{View}
use Rattle.rb_node.specs.declared.node.Node.{Node}
use Rattle.rb_plan.specs.declared.refusal.Refusal.{Refusal}
use Rattle.rb_plan.specs.declared.refusal.Refusal.TheVariants as refusal
use Rattle.rb_wire.specs.declared.heard.WireFault.{WireFault}
use Rattle.rb_wire.specs.declared.heard.WireFault.TheVariants as wire
use Rattle.rb_reply.specs.Errors.{wire_reply}
use Rattle.rb_api.specs.Faults.{fault_reply}
use Rattle.rb_api.specs.Laws.{BodiesHaveNoFloat}
use Rattle.rb_api.specs.Refusals.{denial_by, refusal_reply}
use Rattle.rb_api.specs.Replies.{imported_reply, reply_on, reply_by, subject_of}
use Rattle.rb_route.specs.Routes.{Asked, asked_of}
use Rattle.rb_reply.specs.Listing.{put_texts, text_data}
use Rattle.rb_api.specs.Views.{dropped_data, view_data, step_data, with_clause, node_state_data, job_data, imported_job_data, node_props, node_data, put_nodes, shown_data}
use Rattle.rb_api.specs.declared.request_fault.RequestFault.{RequestFault}
use Rattle.rb_api.specs.declared.request_fault.RequestFault.TheVariants as fault
use Rattle.rb_route.specs.declared.route.Route.{Route}
use Rattle.rb_route.specs.declared.route.Route.TheVariants as route

-- ---- lists and maps

list_plain : {A : Type 0} (f : A → json.Data) (xs : List A)
    → ((x : A) → has_float (f x) ≡ false) → items_have_float (items_of (map f xs)) ≡ false
list_plain f [] h = refl
list_plain f (x ∷ xs) h =
    or_from (has_float (f x)) (items_have_float (items_of (map f xs))) (h x) (list_plain f xs h)

by_order : (o : Ordering) (a b c : json.Members) → members_have_float a ≡ false
    → members_have_float b ≡ false → members_have_float c ≡ false
    → members_have_float (match_ordering o a b c) ≡ false
by_order Less a b c h k l = h
by_order Equal a b c h k l = k
by_order Greater a b c h k l = l

put_plain : (key : List ℕ) (d : json.Data) (ms : json.Members) → has_float d ≡ false
    → members_have_float ms ≡ false → members_have_float (json.put key d ms) ≡ false
put_plain key d json.no_members h k = or_from (has_float d) false h refl
put_plain key d (json.member l e ms) h k =
    let p = or_parts (has_float e) (members_have_float ms) k in
    by_order (slice_cmp nat_cmp key l) (json.member key d (json.member l e ms)) (json.member l d ms)
    (json.member l e (json.put key d ms))
    (or_from (has_float d) (has_float e || members_have_float ms) h k)
    (or_from (has_float d) (members_have_float ms) h p.1)
    (or_from (has_float e) (members_have_float (json.put key d ms)) p.0
    (put_plain key d ms h p.1))

texts_plain : (props : List Prop) (ms : json.Members) → members_have_float ms ≡ false
    → members_have_float (put_texts props ms) ≡ false
texts_plain [] ms h = h
texts_plain (p ∷ ps) ms h =
    texts_plain ps (json.put p.key (json.string p.text) ms)
    (put_plain p.key (json.string p.text) ms refl h)

node_plain : (n : Node) → has_float (node_data n) ≡ false
node_plain n =
    texts_plain (node_props n) (put_texts n.attrs json.no_members)
    (texts_plain n.attrs json.no_members refl)

nodes_plain : (ns : List Node) (ms : json.Members) → members_have_float ms ≡ false
    → members_have_float (put_nodes ns ms) ≡ false
nodes_plain [] ms h = h
nodes_plain (n ∷ ns) ms h =
    nodes_plain ns (json.put n.name (node_data n) ms)
    (put_plain n.name (node_data n) ms (node_plain n) h)

-- ---- what is shown

integer_plain : (z : ℤ) → is_float (of_integer z) ≡ false
integer_plain (pos n) = refl
integer_plain (negsuc n) = refl

pub view_plain : (v : View) → has_float (view_data v) ≡ false
view_plain v =
    rw (
      list_plain dropped_data v.dropped (λ d. refl),
      list_plain text_data v.nodes (λ t. refl),
      texts_plain v.options json.no_members refl,
      integer_plain v.started,
    ) refl

clause_plain : (clause : Option (List ℕ)) (ms : json.Members) → members_have_float ms ≡ false
    → members_have_float (with_clause clause ms) ≡ false
clause_plain None ms h = h
clause_plain (Some clause) ms h = h

node_state_plain : (n : NodeState) → has_float (node_state_data n) ≡ false
node_state_plain n =
    clause_plain n.clause _ (rw (list_plain step_data n.steps (λ s. refl)) refl)

pub shown_plain : (what : Shown) → has_float (shown_data what) ≡ false
shown_plain (shown.Execution v) = view_plain v
shown_plain (shown.State id nodes status) =
    rw (list_plain node_state_data nodes node_state_plain) refl
shown_plain (shown.Jobs jobs) = list_plain job_data jobs (λ j. refl)
shown_plain (shown.Resources nodes) = nodes_plain nodes json.no_members refl
shown_plain (shown.Executions executions paging) =
    rw (list_plain view_data executions view_plain) refl

pub imported_plain : (r : Route) (subject : List ℕ) (version : ℕ) (jobs : List ImportedJob)
    → has_float (imported_reply r subject version jobs).value ≡ false
imported_plain route.ImportPolicy subject version jobs = refl
imported_plain route.Run subject version jobs =
    rw (list_plain imported_job_data jobs (λ j. refl)) refl
imported_plain route.Execution subject version jobs =
    rw (list_plain imported_job_data jobs (λ j. refl)) refl
imported_plain route.State subject version jobs =
    rw (list_plain imported_job_data jobs (λ j. refl)) refl
imported_plain route.Abort subject version jobs =
    rw (list_plain imported_job_data jobs (λ j. refl)) refl
imported_plain route.Jobs subject version jobs =
    rw (list_plain imported_job_data jobs (λ j. refl)) refl
imported_plain route.ImportJobs subject version jobs =
    rw (list_plain imported_job_data jobs (λ j. refl)) refl
imported_plain route.Resources subject version jobs =
    rw (list_plain imported_job_data jobs (λ j. refl)) refl
imported_plain route.Executions subject version jobs =
    rw (list_plain imported_job_data jobs (λ j. refl)) refl

-- ---- replies

denial_plain : (reason : Option Reason) → has_float (denial_by reason).value ≡ false
denial_plain None = refl
denial_plain (Some reason) = refl

refusal_plain : (job : List ℕ) (r : Refusal) (reason : Option Reason)
    → has_float (refusal_reply job r reason).value ≡ false
refusal_plain job refusal.NoJob reason = refl
refusal_plain job (refusal.JobDenied decision) reason = denial_plain reason
refusal_plain job (refusal.BadReference path cause) reason = refl
refusal_plain job (refusal.ReferenceDenied path decision) reason = denial_plain reason
refusal_plain job refusal.Disabled reason = refl
refusal_plain job (refusal.AlreadyRunning execution) reason = refl
refusal_plain job (refusal.BadOption path f) reason = refl
refusal_plain job refusal.NoNodeSelected reason = refl
refusal_plain job (refusal.NoNodeAllowed node decision) reason = denial_plain reason
refusal_plain job (refusal.TooLarge leaves) reason = refl

reply_plain : (r : Route) (subject : List ℕ) (a : Answer)
    → has_float (reply_on r subject a).value ≡ false
reply_plain r subject answer.NoMemory = refl
reply_plain r subject answer.StoreFault = refl
reply_plain r subject answer.Full = refl
reply_plain r subject (answer.Imported version jobs) = imported_plain r subject version jobs
reply_plain r subject answer.BadZone = refl
reply_plain r subject answer.BadName = refl
reply_plain r subject (answer.BadYaml f) = refl
reply_plain r subject (answer.BadNodes f) = refl
reply_plain r subject (answer.BadPolicy f) = refl
reply_plain r subject (answer.BadJobs f) = refl
reply_plain r subject answer.TooManyFiles = refl
reply_plain r subject answer.NoProject = refl
reply_plain r subject (answer.IdTaken id) = refl
reply_plain r subject (answer.NameTaken id) = refl
reply_plain r subject (answer.Denied reason) = refl
reply_plain r subject (answer.Accepted view) = view_plain view
reply_plain r subject (answer.Refused refusal reason) = refusal_plain subject refusal reason
reply_plain r subject (answer.Aborted status) = refl
reply_plain r subject answer.NoExecution = refl
reply_plain r subject answer.Ended = refl
reply_plain r subject answer.Aborting = refl
reply_plain r subject (answer.Fired execution) = refl
reply_plain r subject answer.Quiet = refl
reply_plain r subject (answer.Task t) = refl
reply_plain r subject (answer.Withdrawn execution node decision) = refl
reply_plain r subject answer.Closed = refl
reply_plain r subject answer.Idle = refl
reply_plain r subject (answer.Reported kept) = refl
reply_plain r subject (answer.DoorClosed kept) = refl
reply_plain r subject (answer.Shown what) = shown_plain what
reply_plain r subject answer.Saved = refl

reply_by_plain : (o : Option Asked) (a : Answer) → has_float (reply_by o a).value ≡ false
reply_by_plain None a = refl
reply_by_plain (Some asked) a = reply_plain asked.route asked.subject a

fault_plain : (subject : List ℕ) (f : RequestFault)
    → has_float (fault_reply subject f).value ≡ false
fault_plain subject fault.Unauthorized = refl
fault_plain subject fault.NoRoute = refl
fault_plain subject fault.NoMethod = refl
fault_plain subject fault.BadVersion = refl
fault_plain subject (fault.BadQuery query) = refl
fault_plain subject fault.BadBody = refl
fault_plain subject fault.BadArgs = refl
fault_plain subject fault.BadFilter = refl
fault_plain subject fault.NoExecution = refl

wire_plain : (f : WireFault) → has_float (wire_reply f).value ≡ false
wire_plain wire.BadHead = refl
wire_plain wire.TransferEncoding = refl
wire_plain wire.BadLength = refl
wire_plain wire.TooLong = refl
wire_plain wire.Cut = refl

pub bodies_have_no_float : BodiesHaveNoFloat
bodies_have_no_float = record {
  answers = λ request a. reply_by_plain (asked_of request.path) a;
  faults = λ request f. fault_plain (subject_of request) f;
  wire = wire_plain;
}
