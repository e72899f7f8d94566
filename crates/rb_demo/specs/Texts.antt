-- The documents of the demo, as texts.
use Rattle.std.specs.Prelude.{ℕ, List, [], ◌∷◌, ◌++◌, map, codes}
use Rattle.rb_causes.specs.Signs.{line_feed}
use Rattle.rb_causes.specs.Numbers.{numbers_from}
use Rattle.rb_demo.specs.Numbers.{demo_node_name, node_tag}

-- lines, each with its end
abbrev pub lines : List (List ℕ) → List ℕ
lines [] = []
lines (text ∷ texts) = text ++ line_feed ∷ lines texts

-- ---- nodes

-- a line for each node: its name, and a flow map with its tag
abbrev pub demo_node_line : ℕ → List ℕ
demo_node_line number =
    demo_node_name number ++ (codes ": {tags: " ++ (node_tag number ++ codes "}"))

abbrev pub demo_nodes_text : ℕ → List ℕ
demo_nodes_text nodes = lines (map demo_node_line (numbers_from 1 nodes))

-- ---- policies

-- ann's document, and bob's
abbrev pub policy_text : List ℕ
policy_text = lines (
    codes "description: ann runs all jobs on even nodes"
    ∷ codes "context:"
    ∷ codes "  project: demo"
    ∷ codes "for:"
    ∷ codes "  job:"
    ∷ codes "  - allow: [read, run]"
    ∷ codes "  node:"
    ∷ codes "  - contains:"
    ∷ codes "      tags: even"
    ∷ codes "    allow: [read, run]"
    ∷ codes "by:"
    ∷ codes "  username: ann"
    ∷ codes "---"
    ∷ codes "description: bob runs all jobs, but on no node"
    ∷ codes "context:"
    ∷ codes "  project: demo"
    ∷ codes "for:"
    ∷ codes "  job:"
    ∷ codes "  - allow: [read, run]"
    ∷ codes "by:"
    ∷ codes "  username: bob"
    ∷ [])

-- ---- jobs

-- a job of two steps on all nodes, four of them at a time
abbrev pub demo_job_lines : List ℕ → List ℕ → List (List ℕ)
demo_job_lines id strategy =
    (codes "- id: " ++ id)
    ∷ (codes "  name: " ++ strategy)
    ∷ codes "  nodefilters:"
    ∷ codes "    filter: .*"
    ∷ codes "    dispatch:"
    ∷ codes "      threadcount: 4"
    ∷ codes "  sequence:"
    ∷ (codes "    strategy: " ++ strategy)
    ∷ codes "    commands:"
    ∷ codes "    - exec: echo first ${node.name}"
    ∷ codes "    - exec: echo second ${node.name}"
    ∷ []

abbrev pub demo_jobs_text : List ℕ
demo_jobs_text = lines (
    demo_job_lines (codes "demo-1") (codes "node-first")
    ++ (demo_job_lines (codes "demo-2") (codes "sequential")
    ++ demo_job_lines (codes "demo-3") (codes "parallel")))
