-- A small log: three web nodes and two others, a job, and the group ops, which may run it on web
-- nodes.
use Rattle.std.specs.Prelude.{ℕ, ℤ, pos, false, List, [], ◌∷◌, ◌++◌, codes, Option, Some, None, Ok}
use Rattle.rb_causes.specs.Signs.{line_feed}
use Rattle.rb_causes.specs.declared.ending.Ending.TheVariants.{Code}
use Rattle.rb_causes.specs.declared.items.Prop.{Prop}
use Rattle.rb_causes.specs.declared.row.Row.{Row}
use Rattle.rb_yaml.specs.Documents.{docs_of}
use Rattle.rb_acl.specs.declared.policy.Caller.{Caller}
use Rattle.rb_log.specs.Readings.{Reading, policies_of, jobs_of}
use Rattle.rb_log.specs.Rows.{opened_row, nodes_row, jobs_row, policy_row}
use Rattle.rb_log.specs.World.{read_or}
use Rattle.rb_log.specs.Turn.{turn_of}
use Rattle.rb_log.specs.declared.call.Call.{Call}
use Rattle.rb_log.specs.declared.call.Call.TheVariants.{Run, Report}

abbrev pub ann : Caller
ann = record { user = codes "ann"; groups = codes "ops" ∷ [] }

abbrev pub bob : Caller
bob = record { user = codes "bob"; groups = [] }

abbrev pub root : Caller
root = record { user = codes "root"; groups = codes "admin" ∷ [] }

abbrev pub at : ℤ
at = pos 1700000000

-- these lines
abbrev pub lines : List (List ℕ) → List ℕ
lines [] = []
lines (text ∷ texts) = text ++ line_feed ∷ lines texts

abbrev pub nodes_text : List ℕ
nodes_text = lines (
    codes "web1:"
    ∷ codes "  tags: web,prod"
    ∷ codes "web2:"
    ∷ codes "  tags: web,prod"
    ∷ codes "web3:"
    ∷ codes "  tags: web"
    ∷ codes "db1:"
    ∷ codes "  tags: db"
    ∷ codes "bare:"
    ∷ [])

abbrev pub policy_text : List ℕ
policy_text = lines (
    codes "context:"
    ∷ codes "  project: desk"
    ∷ codes "for:"
    ∷ codes "  job:"
    ∷ codes "  - equals:"
    ∷ codes "      group: ops"
    ∷ codes "    allow:"
    ∷ codes "    - read"
    ∷ codes "    - run"
    ∷ codes "    - kill"
    ∷ codes "  node:"
    ∷ codes "  - contains:"
    ∷ codes "      tags: web"
    ∷ codes "    allow:"
    ∷ codes "    - read"
    ∷ codes "    - run"
    ∷ codes "  - equals:"
    ∷ codes "      nodename: web2"
    ∷ codes "    deny: run"
    ∷ codes "by:"
    ∷ codes "  group: ops"
    ∷ [])

abbrev pub jobs_text : List ℕ
jobs_text = lines (
    codes "- group: ops"
    ∷ codes "  id: 7b1f0c2a-0001"
    ∷ codes "  name: restart"
    ∷ codes "  nodefilters:"
    ∷ codes "    dispatch:"
    ∷ codes "      threadcount: '1'"
    ∷ codes "    filter: tags:web"
    ∷ codes "  options:"
    ∷ codes "  - enforced: true"
    ∷ codes "    name: mode"
    ∷ codes "    required: true"
    ∷ codes "    values:"
    ∷ codes "    - soft"
    ∷ codes "    - hard"
    ∷ codes "  sequence:"
    ∷ codes "    commands:"
    ∷ codes "    - exec: echo ${option.mode} ${node.name}"
    ∷ [])

-- a policy that takes web1 away
abbrev pub deny_text : List ℕ
deny_text = lines (
    codes "context:"
    ∷ codes "  project: desk"
    ∷ codes "for:"
    ∷ codes "  node:"
    ∷ codes "  - equals:"
    ∷ codes "      nodename: web1"
    ∷ codes "    deny: run"
    ∷ codes "by:"
    ∷ codes "  group: ops"
    ∷ [])

-- behind this opening, newest first
abbrev pub imported_behind : Row → List Row
imported_behind opening =
    jobs_row at 1 false (codes "desk") root jobs_text
    ∷ nodes_row at 1 (codes "desk") nodes_text
    ∷ policy_row at 1 false (codes "ops.aclpolicy") root policy_text
    ∷ opening ∷ []

abbrev pub imported : List Row
imported = imported_behind (opened_row at 1 1 0)

-- what the readers give for these texts
abbrev pub reading : Reading
reading = record {
  policies = Ok (policies_of (codes "ops.aclpolicy") (read_or [] (docs_of policy_text)));
  jobs = Ok (jobs_of [] (read_or [] (docs_of jobs_text)));
}

abbrev pub with_row : Option Row → List Row → List Row
with_row None past = past
with_row (Some row) past = row ∷ past

-- the log after calls, each with its room
abbrev pub after : ℕ → List Row → List Call → List Row
after room past [] = past
after room past (call ∷ calls) =
    after room (with_row (turn_of reading past room call).row past) calls

-- a run of the job with this id, in the mode soft
abbrev pub run_job : Caller → List ℕ → Call
run_job caller id =
    let mode : Prop = record { key = codes "mode"; text = codes "soft" } in
    Run caller (record { job = id; given = mode ∷ []; filter = None }) at

abbrev pub restart : Caller → Call
restart caller = run_job caller (codes "7b1f0c2a-0001")

abbrev pub reported : ℕ → Call
reported node =
    Report (record {
      claimed = record { execution = 1; leaf = record { node = node; slot = 0 }; worker = 0 };
      ending = Code 0;
    }) at
