-- What many jobs or nodes show to policies, and the decisions on reading them.
use Rattle.std.proofs.Common.{◌≡◌, List, [], ◌∷◌, codes, map, ap, refl}
use Rattle.std.specs.List.{All}
use Rattle.std.proofs.lemmas.List.Elements.{All-nil, All-cons}
use Rattle.rb_acl.specs.declared.policy.Resource.{Resource}
use Rattle.rb_node.specs.declared.node.Node.{Node}
use Rattle.rb_plan.specs.Access.{Access, decision_on, job_decision, job_resource, node_decision, node_resource}
use Rattle.rb_plan.specs.declared.world.HeldJob.{HeldJob}

pub are_jobs : (jobs : List HeldJob)
    → All (λ resource. resource.type_name ≡ codes "job") (map job_resource jobs)
are_jobs [] = All-nil (λ (resource : Resource). resource.type_name ≡ codes "job")
are_jobs (j ∷ js) =
    All-cons (λ (resource : Resource). resource.type_name ≡ codes "job") (job_resource j)
    (map job_resource js) refl (are_jobs js)

pub are_nodes : (nodes : List Node)
    → All (λ resource. resource.type_name ≡ codes "node") (map node_resource nodes)
are_nodes [] = All-nil (λ (resource : Resource). resource.type_name ≡ codes "node")
are_nodes (n ∷ ns) =
    All-cons (λ (resource : Resource). resource.type_name ≡ codes "node") (node_resource n)
    (map node_resource ns) refl (are_nodes ns)

-- the decisions on what they show are those on them
pub job_reads : (access : Access) (jobs : List HeldJob)
    → map (decision_on access (codes "read")) (map job_resource jobs)
    ≡ map (job_decision access (codes "read")) jobs
job_reads access [] = refl
job_reads access (j ∷ js) =
    ap (λ ds. job_decision access (codes "read") j ∷ ds) (job_reads access js)

pub node_reads : (access : Access) (nodes : List Node)
    → map (decision_on access (codes "read")) (map node_resource nodes)
    ≡ map (node_decision access (codes "read")) nodes
node_reads access [] = refl
node_reads access (n ∷ ns) =
    ap (λ ds. node_decision access (codes "read") n ∷ ds) (node_reads access ns)
