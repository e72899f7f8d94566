-- Names with their texts, put one behind the other.
use Rattle.std.proofs.Common.{◌≡◌, ◌≤◌, ℕ, length, map, take, codes, List, [], ◌∷◌, ◌++◌, append_assoc, refl, ap, ◌∙◌}
use Rattle.std.proofs.lemmas.List.{take_all}
use Rattle.rb_causes.specs.Signs.{comma}
use Rattle.rb_causes.specs.Texts.{joined}
use Rattle.rb_causes.specs.declared.items.Prop.{Prop}
use Rattle.rb_node.specs.declared.node.Node.{Node}
use Rattle.rb_plan.specs.Access.{property}
use Rattle.rb_plan.specs.Inlined.{Site, option_name, own_names, site_names}
use Rattle.rb_plan.specs.Words.{node_name_prop, node_names}

-- one more behind those that were put behind the front
pub behind : {A : Type 0} (front put before after : List A) (x : A) → before ≡ front ++ put → after ≡ before ++ x ∷ [] → after ≡ front ++ (put ++ x ∷ [])
behind front put before after x is made = made ∙ ap (λ l. l ++ x ∷ []) is ∙ append_assoc front put (x ∷ [])

pub own_told : (n1 n2 n3 n4 : List Prop) (name group id : List ℕ) → n2 ≡ n1 ++ property (codes "job.name") name ∷ []
    → n3 ≡ n2 ++ property (codes "job.group") group ∷ [] → n4 ≡ n3 ++ property (codes "job.id") id ∷ [] → n4 ≡ n1 ++ own_names name group id
own_told n1 n2 n3 n4 name group id one two three =
    behind n1 (property (codes "job.name") name ∷ property (codes "job.group") group ∷ []) n3 n4 (property (codes "job.id") id)
    (behind n1 (property (codes "job.name") name ∷ []) n2 n3 (property (codes "job.group") group) one two) three

same_own : (name group id name' group' id' : List ℕ) → name ≡ name' → group ≡ group' → id ≡ id' → own_names name group id ≡ own_names name' group' id'
same_own name group id name' group' id' n g i = rw (n, g, i) refl

pub site_told : (n1 n2 n3 n4 values : List Prop) (site : Site) (name group id : List ℕ) → n1 ≡ map option_name values → values ≡ site.values
    → n2 ≡ n1 ++ own_names name group id → name ≡ site.held.job.name → group ≡ site.held.job.group → id ≡ site.held.id
    → n3 ≡ n2 ++ property (codes "job.project") site.project ∷ [] → n4 ≡ n3 ++ property (codes "job.username") site.user ∷ [] → n4 ≡ site_names site
site_told n1 n2 n3 n4 values site name group id one vs two n g i three four =
    let front = map option_name site.values in
    let own = own_names site.held.job.name site.held.job.group site.held.id in
    let first : n2 ≡ front ++ own = two ∙ ap (λ l. l ++ own_names name group id) (one ∙ ap (map option_name) vs)
    ∙ ap (λ l. front ++ l) (same_own name group id site.held.job.name site.held.job.group site.held.id n g i) in
    behind front (own ++ property (codes "job.project") site.project ∷ []) n3 n4 (property (codes "job.username") site.user)
    (behind front own n2 n3 (property (codes "job.project") site.project) first three) four

pub job_told : (n1 n2 n3 n4 n5 : List Prop) (name group id name' group' id' project number number' user : List ℕ)
    → n2 ≡ n1 ++ own_names name group id → name ≡ name' → group ≡ group' → id ≡ id'
    → n3 ≡ n2 ++ property (codes "job.project") project ∷ [] → n4 ≡ n3 ++ property (codes "job.execid") number ∷ [] → number ≡ number'
    → n5 ≡ n4 ++ property (codes "job.username") user ∷ []
    → n5 ≡ n1 ++ (own_names name' group' id'
    ++ property (codes "job.project") project ∷ property (codes "job.execid") number' ∷ property (codes "job.username") user ∷ [])
job_told n1 n2 n3 n4 n5 name group id name' group' id' project number number' user two n g i three four same five =
    let own = own_names name' group' id' in
    let p = property (codes "job.project") project in
    let e = property (codes "job.execid") number' in
    let u = property (codes "job.username") user in
    let own_put : n2 ≡ n1 ++ own = two ∙ ap (λ l. n1 ++ l) (same_own name group id name' group' id' n g i) in
    let execid : n4 ≡ n3 ++ e ∷ [] = four ∙ ap (λ x. n3 ++ property (codes "job.execid") x ∷ []) same in
    behind n1 ((own ++ p ∷ []) ++ e ∷ []) n4 n5 u (behind n1 (own ++ p ∷ []) n3 n4 e (behind n1 own n2 n3 p own_put three) execid) five

pub node_told : (n1 n2 n3 n4 n5 items : List Prop) (node : Node) (i : ℕ) (name name' tags : List ℕ) → items ≡ node.attrs → length items ≤ i
    → n2 ≡ n1 ++ map node_name_prop (take i items)
    → name ≡ node.name → n3 ≡ n2 ++ property (codes "node.name") name ∷ []
    → name' ≡ node.name → n4 ≡ n3 ++ property (codes "node.nodename") name' ∷ []
    → tags ≡ joined comma node.tags → n5 ≡ n4 ++ property (codes "node.tags") tags ∷ []
    → n5 ≡ n1 ++ node_names node
node_told n1 n2 n3 n4 n5 items node i name name' tags all over two n three n' four t five =
    let front : List Prop = n1 ++ map node_name_prop node.attrs in
    let one = property (codes "node.name") node.name in
    let other = property (codes "node.nodename") node.name in
    let tagged = property (codes "node.tags") (joined comma node.tags) in
    let begun : n2 ≡ front = two ∙ ap (λ l. n1 ++ map node_name_prop l) (take_all i items over ∙ all) in
    let first : n3 ≡ front ++ one ∷ [] = three ∙ ap (λ x. n2 ++ property (codes "node.name") x ∷ []) n ∙ ap (λ l. l ++ one ∷ []) begun in
    let second : n4 ≡ front ++ (one ∷ other ∷ []) =
    behind front (one ∷ []) n3 n4 other first (four ∙ ap (λ x. n3 ++ property (codes "node.nodename") x ∷ []) n') in
    behind front (one ∷ other ∷ []) n4 n5 tagged second (five ∙ ap (λ x. n4 ++ property (codes "node.tags") x ∷ []) t)
    ∙ append_assoc n1 (map node_name_prop node.attrs) (one ∷ other ∷ tagged ∷ [])
