-- Where the beginning of a node's attribute stands.
use Rattle.std.proofs.Common.{◌≡◌, ℕ, false, ◌||◌, nat_eq, List, ◌∷◌, codes, ap, sym, ◌∙◌}
use Rattle.std.specs.List.{starts_with}
use Rattle.rb_job.specs.TextForms.{has_node}

pub node_on : (b : ℕ) (left rest all : List ℕ) → left ≡ b ∷ rest → starts_with nat_eq left (codes "${node.") ≡ false → has_node left ≡ has_node all → has_node rest ≡ has_node all
node_on b left rest all is h same =
    sym (ap (λ x. x || has_node rest) (ap (λ bs. starts_with nat_eq bs (codes "${node.")) (sym is) ∙ h)) ∙ sym (ap has_node is) ∙ same
