-- Marks of many at once, as they are put together.
use Rattle.std.proofs.Common.{◌≡◌, ◌∙◌, Bool, true, false, not, ◌&&◌, ◌||◌, cond, List, [], ◌∷◌, map, ap, sym, refl}
use Rattle.std.specs.List.{list_all, list_any}
use Rattle.rb_node.specs.Selection.{shown, clause_holds, includes, excludes, no_clause, included, excluded, heeds_excludes, selected}
use Rattle.rb_text.specs.Truths.{first_true_alone}
use Rattle.rb_text.proofs.Marking.{maps_alike, first_true_alone_maps}
use Rattle.rb_node.specs.Columns.{one_holds, is_included, is_excluded}
use Rattle.rb_node.specs.declared.node.Node.{Node}
use Rattle.rb_node.specs.declared.clause.FilterClause.{FilterClause}

-- the same mark for each
pub same_marks : {A B : Type 0} (f : B → Bool) (view : A → B) (mark : Bool)
    → ((y : B) → mark ≡ f y) → (xs : List A) → map (λ x. mark) xs ≡ map f (map view xs)
same_marks f view mark same [] = refl
same_marks f view mark same (x ∷ xs) =
    ap (λ m. m ∷ map (λ y. mark) xs) (same (view x))
    ∙ ap (λ ms. f (view x) ∷ ms) (same_marks f view mark same xs)

-- the clause holds for the nodes where it holds for what they show
pub shown_holds : (clause : FilterClause) (nodes : List Node)
    → map (one_holds clause.alternatives) (map (λ node. shown node clause.attr) nodes)
    ≡ map (λ node. clause_holds node clause) nodes
shown_holds clause [] = refl
shown_holds clause (node ∷ nodes) =
    ap (λ marks. clause_holds node clause ∷ marks) (shown_holds clause nodes)

includes_by : (exclude holds : Bool) (rest : Bool) (cs : List FilterClause) (p : FilterClause → Bool) (c : FilterClause)
    → p c ≡ holds → list_all p cs ≡ rest →
    list_all p (cond (not exclude) (c ∷ cs) cs) ≡ ((exclude || holds) && rest)
includes_by true holds rest cs p c is so = so
includes_by false holds rest cs p c is so = ap (λ b. b && list_all p cs) is ∙ ap (λ b. holds && b) so

-- all include clauses hold
pub includes_hold : (node : Node) (clauses : List FilterClause)
    → list_all (is_included node) clauses ≡ list_all (clause_holds node) (includes clauses)
includes_hold node [] = refl
includes_hold node (c ∷ cs) =
    sym (includes_by c.exclude (clause_holds node c) (list_all (is_included node) cs) (includes cs) (clause_holds node) c refl (sym (includes_hold node cs)))

excludes_by : (exclude holds : Bool) (rest : Bool) (cs : List FilterClause) (p : FilterClause → Bool) (c : FilterClause)
    → p c ≡ holds → list_any p cs ≡ rest →
    list_any p (cond exclude (c ∷ cs) cs) ≡ ((exclude && holds) || rest)
excludes_by true holds rest cs p c is so = ap (λ b. b || list_any p cs) is ∙ ap (λ b. holds || b) so
excludes_by false holds rest cs p c is so = so

-- some exclude clause holds
pub excludes_hold : (node : Node) (clauses : List FilterClause)
    → list_any (is_excluded node) clauses ≡ list_any (clause_holds node) (excludes clauses)
excludes_hold node [] = refl
excludes_hold node (c ∷ cs) =
    sym (excludes_by c.exclude (clause_holds node c) (list_any (is_excluded node) cs) (excludes cs) (clause_holds node) c refl (sym (excludes_hold node cs)))

-- where there is an include clause, the nodes for which all of them hold are included
pub included_some : (clauses : List FilterClause) (nodes : List Node)
    → no_clause (includes clauses) ≡ false →
    map (λ node. list_all (is_included node) clauses) nodes ≡ map (included clauses) nodes
included_some clauses nodes some =
    maps_alike _ _
    (λ node. includes_hold node clauses
    ∙ sym (ap (λ b. cond b (not (no_clause (excludes clauses)))
    (list_all (clause_holds node) (includes clauses))) some)) nodes

-- the nodes are selected where the exclude clauses count
pub selected_heeding : (clauses : List FilterClause) (exclude_first : Bool) (nodes : List Node)
    (marks others new : List Bool) → heeds_excludes clauses exclude_first ≡ true
    → marks ≡ map (included clauses) nodes
    → others ≡ map (λ node. list_any (is_excluded node) clauses) nodes
    → new ≡ first_true_alone marks others → new ≡ map (selected clauses exclude_first) nodes
selected_heeding clauses exclude_first nodes marks others new heeds so these put =
    put ∙ ap (λ m. first_true_alone m others) so ∙ ap (first_true_alone (map (included clauses) nodes)) these
    ∙ first_true_alone_maps (included clauses) (λ node. list_any (is_excluded node) clauses) nodes
    ∙ maps_alike _ _
    (λ node. ap (λ b. included clauses node && not b) (excludes_hold node clauses)
    ∙ sym (ap (λ b. included clauses node && not (b && excluded clauses node)) heeds)) nodes
