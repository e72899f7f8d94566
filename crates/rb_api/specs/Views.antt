-- What is shown, as JSON. The keys of an object stand in byte order.
use Rattle.std.specs.Prelude.{ℕ, List, [], ◌∷◌, codes, Option, Some, None}
use Rattle.serde_json.specs.Data as json
use Rattle.serde_json.specs.Find.{of_integer}
use Rattle.rb_causes.specs.Signs.{comma}
use Rattle.rb_causes.specs.Texts.{joined}
use Rattle.rb_causes.specs.declared.items.Prop.{Prop}
use Rattle.rb_log.specs.declared.answer.Action.{Action}
use Rattle.rb_log.specs.declared.answer.Action.TheVariants.{Created, Updated, Same}
use Rattle.rb_log.specs.declared.answer.ImportedJob.{ImportedJob}
use Rattle.rb_log.specs.declared.shown.DroppedView.{DroppedView}
use Rattle.rb_log.specs.declared.shown.JobView.{JobView}
use Rattle.rb_log.specs.declared.shown.NodeState.{NodeState}
use Rattle.rb_log.specs.declared.shown.Paging.{Paging}
use Rattle.rb_log.specs.declared.shown.Shown.{Shown}
use Rattle.rb_log.specs.declared.shown.Shown.TheVariants as shown
use Rattle.rb_log.specs.declared.shown.View.{View}
use Rattle.rb_marks.specs.declared.mark.Status.{Status}
use Rattle.rb_marks.specs.declared.mark.StepResult.{StepResult}
use Rattle.rb_node.specs.declared.node.Node.{Node}
use Rattle.rb_reply.specs.Errors.{number_data}
use Rattle.rb_reply.specs.Listing.{list_data, put_texts, text_data, texts_data}
use Rattle.rb_query.specs.Statuses.{status_text, step_text}

abbrev pub status_data : Status → json.Data
status_data status = json.string (status_text status)

-- ---- executions

abbrev pub dropped_data : DroppedView → json.Data
dropped_data d =
    json.object (json.member (codes "clause") (json.string d.clause)
    (json.member (codes "node") (json.string d.node) json.no_members))

abbrev pub view_data : View → json.Data
view_data v =
    json.object (json.member (codes "dropped") (list_data dropped_data v.dropped)
    (json.member (codes "id") (number_data v.id)
    (json.member (codes "job") (json.string v.job)
    (json.member (codes "nodes") (list_data text_data v.nodes)
    (json.member (codes "options") (texts_data v.options)
    (json.member (codes "project") (json.string v.project)
    (json.member (codes "started") (json.number (of_integer v.started))
    (json.member (codes "status") (status_data v.status)
    (json.member (codes "user") (json.string v.user) json.no_members)))))))))

-- the same, put under their keys one after another: what is run and where
abbrev pub with_work : View → json.Members → json.Members
with_work v members =
    json.put (codes "options") (texts_data v.options)
    (json.put (codes "nodes") (list_data text_data v.nodes)
    (json.put (codes "job") (json.string v.job)
    (json.put (codes "id") (number_data v.id)
    (json.put (codes "dropped") (list_data dropped_data v.dropped) members))))

-- and whose it is, and how far
abbrev pub with_state : View → json.Members → json.Members
with_state v members =
    json.put (codes "user") (json.string v.user)
    (json.put (codes "status") (status_data v.status)
    (json.put (codes "started") (json.number (of_integer v.started))
    (json.put (codes "project") (json.string v.project) members)))

abbrev pub step_data : StepResult → json.Data
step_data step = json.string (step_text step)

-- the clause of a withdrawn node, before the other members
abbrev pub with_clause : Option (List ℕ) → json.Members → json.Members
with_clause None members = members
with_clause (Some clause) members =
    json.member (codes "clause") (json.string clause) members

abbrev pub node_state_data : NodeState → json.Data
node_state_data n =
    json.object (with_clause n.clause (json.member (codes "node") (json.string n.node)
    (json.member (codes "steps") (list_data step_data n.steps) json.no_members)))

abbrev pub state_data : ℕ → List NodeState → Status → json.Data
state_data id nodes status =
    json.object (json.member (codes "id") (number_data id)
    (json.member (codes "nodes") (list_data node_state_data nodes)
    (json.member (codes "status") (status_data status) json.no_members)))

abbrev pub paging_data : Paging → json.Data
paging_data p =
    json.object (json.member (codes "count") (number_data p.count)
    (json.member (codes "max") (number_data p.max)
    (json.member (codes "offset") (number_data p.offset)
    (json.member (codes "total") (number_data p.total) json.no_members))))

abbrev pub executions_data : List View → Paging → json.Data
executions_data views paging =
    json.object (json.member (codes "executions") (list_data view_data views)
    (json.member (codes "paging") (paging_data paging) json.no_members))

-- what an abort has recorded
abbrev pub abort_data : ℕ → Status → json.Data
abort_data id status =
    json.object (json.member (codes "abort") (json.string (codes "recorded"))
    (json.member (codes "id") (number_data id)
    (json.member (codes "status") (status_data status) json.no_members)))

-- ---- jobs

abbrev pub job_data : JobView → json.Data
job_data j =
    json.object (json.member (codes "group") (json.string j.group)
    (json.member (codes "id") (json.string j.id)
    (json.member (codes "name") (json.string j.name)
    (json.member (codes "project") (json.string j.project) json.no_members))))

abbrev pub action_text : Action → List ℕ
action_text Created = codes "created"
action_text Updated = codes "updated"
action_text Same = codes "same"

abbrev pub imported_job_data : ImportedJob → json.Data
imported_job_data j =
    json.object (json.member (codes "action") (json.string (action_text j.action))
    (json.member (codes "id") (json.string j.id) json.no_members))

abbrev pub imported_data : List ImportedJob → ℕ → json.Data
imported_data jobs version =
    json.object (json.member (codes "jobs") (list_data imported_job_data jobs)
    (json.member (codes "version") (number_data version) json.no_members))

-- a policy file of this name
abbrev pub policy_data : List ℕ → ℕ → json.Data
policy_data name version =
    json.object (json.member (codes "name") (json.string name)
    (json.member (codes "version") (number_data version) json.no_members))

-- ---- nodes

abbrev pub prop : List ℕ → List ℕ → Prop
prop key text = record { key = key; text = text }

-- the attributes of a node, its name and its tags
abbrev pub node_props : Node → List Prop
node_props n = prop (codes "nodename") n.name ∷ prop (codes "tags") (joined comma n.tags) ∷ []

abbrev pub node_data : Node → json.Data
node_data n = json.object (put_texts (node_props n) (put_texts n.attrs json.no_members))

abbrev pub put_nodes : List Node → json.Members → json.Members
put_nodes [] members = members
put_nodes (n ∷ ns) members = put_nodes ns (json.put n.name (node_data n) members)

-- nodes under their names
abbrev pub nodes_data : List Node → json.Data
nodes_data nodes = json.object (put_nodes nodes json.no_members)

-- ---- all that is shown

abbrev pub shown_data : Shown → json.Data
shown_data (shown.Execution v) = view_data v
shown_data (shown.State id nodes status) = state_data id nodes status
shown_data (shown.Jobs jobs) = list_data job_data jobs
shown_data (shown.Resources nodes) = nodes_data nodes
shown_data (shown.Executions executions paging) = executions_data executions paging
