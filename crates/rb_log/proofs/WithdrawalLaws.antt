-- What holds of withdrawn nodes in legal logs.
use Rattle.std.proofs.Common.{◌≡◌, ◌∙◌, ◌≤◌, ◌+◌, ℕ, zero, suc, ℤ, List, [], ◌∷◌, ◌++◌, length, map, find, Bool, true, false, cond, ◌&&◌, ◌||◌, nat_eq, is_some, Option, Some, None, option_map, option_to_list, Result, Ok, Err, slice_get, unwrap_or, ap, sym, subst, refl, arith, inl, inr, if◌then◌else◌}
use Rattle.std.proofs.lemmas.Bool.{eqb-true}
use Rattle.std.proofs.lemmas.Option.{slice_get-map}
use Rattle.std.proofs.lemmas.List.Folds.{list_any-append}
use Rattle.rb_causes.specs.declared.row.Row.{Row}
use Rattle.rb_causes.specs.declared.ending.Ending.{Ending}
use Rattle.rb_causes.proofs.Lists.{from_filter, get_append}
use Rattle.rb_acl.specs.declared.policy.Caller.{Caller}
use Rattle.rb_acl.specs.declared.policy.Policies.{Policies}
use Rattle.rb_marks.specs.First.{is_withdrawn, withdraws}
use Rattle.rb_marks.specs.declared.mark.Leaf.{Leaf}
use Rattle.rb_marks.specs.declared.mark.Mark.{Mark}
use Rattle.rb_marks.specs.declared.mark.Mark.TheVariants.{Begin, End, Abort, Lost, Withdraw}
use Rattle.rb_marks.proofs.Withdrawing.{never_succeeds}
use Rattle.rb_node.specs.declared.node.Node.{Node}
use Rattle.rb_plan.specs.Acceptance.{Acceptance}
use Rattle.rb_plan.specs.Verdict.{verdict_of}
use Rattle.rb_plan.specs.declared.refusal.Refusal.{Refusal}
use Rattle.rb_plan.specs.declared.world.World.{World}
use Rattle.rb_log.specs.Rows.{is_accept, is_opened, is_begin, is_end, is_abort, is_withdraw, row_caller, ending_of, withdraw_row}
use Rattle.rb_log.specs.Asks.{DueAsk, ask_of}
use Rattle.rb_log.specs.Executions.{Execution, WithdrawnNode, leaf_of, executions, execution_among, marked, marks_of, withdrawn_by, withdrawn_node, is_running, asked, started_if, started, world_before, draw_of}
use Rattle.rb_log.specs.LogState.{log_state, moment, owed}
use Rattle.rb_log.specs.Claims.{claim}
use Rattle.rb_log.specs.Legal.{IsLegalLog}
use Rattle.rb_log.specs.Laws.{SlotsAreBounded, PlansAreSound, LeavesAreSound}
use Rattle.rb_log.specs.Withdrawals.{ClausesAreShown, WithdrawalIsOwed, WithdrawnNeverSucceeds}
use Rattle.rb_log.proofs.CheckLaws.{withdraw_claim}
use Rattle.rb_log.proofs.EndLaws.{claim_withdraws, found_at, kind_is, policies_before}
use Rattle.rb_log.proofs.MarkLaws.{all_legal, from_map_by}
use Rattle.rb_log.proofs.RoomLaws.{owed_is}
use Rattle.rb_log.proofs.RoomTurns.{withdrawn_less}
use Rattle.rb_log.proofs.TurnLaws.{IsTaken, IsBegin, claim_row_is}

-- ---- a withdrawn node keeps a run from succeeding

pub withdrawn_never_succeeds : SlotsAreBounded → PlansAreSound → WithdrawnNeverSucceeds
withdrawn_never_succeeds slots plans past k e node legal get is =
    never_succeeds e.accepted.plan e.marks node (plans past k e legal get)
    (all_legal slots plans past legal k e get) is

-- ---- its row is owed

no_begin : (now : ℤ) (worker : ℕ) (row : Row) → row.kind ≡ 12 → IsBegin now worker row → ⊥
no_begin now worker row k is =
    let eight : row.kind ≡ 8 = ap (λ (r : Row). r.kind) is.2 in omega (arith, k, eight)

owed_by_claim : SlotsAreBounded → PlansAreSound → LeavesAreSound → (row : Row) (past : List Row)
    → IsLegalLog past → (now : ℤ) → row.kind ≡ 12
    → (claim (log_state past) now 0).row ≡ Some row → IsTaken (log_state past) now 0 row
    → suc (owed (log_state (row ∷ past))) ≤ owed (log_state past)
owed_by_claim slots plans leaves row past legal now k h (inl is) =
    absurd (no_begin now 0 row k is)
owed_by_claim slots plans leaves row past legal now k h (inr is) =
    let number = (log_state past).policy_number in
    let r : Row = withdraw_row now is.0 is.1 number in
    let w = claim_withdraws (log_state past) now 0 r refl (h ∙ ap Some is.2) in
    let less = withdrawn_less slots plans leaves past legal now is.0 is.1 number w in
    subst (λ r. suc (owed (log_state (r ∷ past))) ≤ owed (log_state past)) (sym is.2)
    (omega (arith, owed_is past, owed_is (r ∷ past), less))

pub withdrawal_is_owed : SlotsAreBounded → PlansAreSound → LeavesAreSound → WithdrawalIsOwed
withdrawal_is_owed slots plans leaves row past legal is =
    let s = log_state past in
    let k : row.kind ≡ 12 = kind_is row 12 is in
    let h = withdraw_claim row past legal.1 k in
    owed_by_claim slots plans leaves row past legal.0 (moment s row.at) k h
    (claim_row_is s (moment s row.at) 0 row h)

-- ---- clauses are kept with the marks

abbrev shown : ℕ → List WithdrawnNode → Bool
shown node ws = is_some (find (λ w. nat_eq w.node node) ws)

-- so many clauses are kept as nodes are withdrawn
abbrev AreTold : List WithdrawnNode → List Mark → Type 0
AreTold ws marks = (node : ℕ) → shown node ws ≡ is_withdrawn marks node

shown_on : (node : ℕ) (b : Bool) (w : WithdrawnNode) (ws more : List WithdrawnNode)
    → shown node (ws ++ more) ≡ (shown node ws || shown node more)
    → is_some (cond b (Some w) (find (λ w. nat_eq w.node node) (ws ++ more)))
    ≡ (is_some (cond b (Some w) (find (λ w. nat_eq w.node node) ws)) || shown node more)
shown_on node true w ws more h = refl
shown_on node false w ws more h = h

shown_more : (node : ℕ) (ws more : List WithdrawnNode)
    → shown node (ws ++ more) ≡ (shown node ws || shown node more)
shown_more node [] more = refl
shown_more node (w ∷ ws) more =
    shown_on node (nat_eq w.node node) w ws more (shown_more node ws more)

told_more : (ws more : List WithdrawnNode) (marks new : List Mark) → AreTold ws marks
    → AreTold more new → AreTold (ws ++ more) (marks ++ new)
told_more ws more marks new h k node =
    shown_more node ws more
    ∙ ap (λ b. b || shown node more) (h node)
    ∙ ap (λ b. is_withdrawn marks node || b) (k node)
    ∙ sym (list_any-append (withdraws node) marks new)

-- ---- what a row adds

-- no clause, and no withdrawal
none_told : (o r s b n ab : Bool) (at : Leaf) (ending : Ending)
    → AreTold []
    (if o then (if r then Lost ∷ [] else []) else if s
    then (if b then Begin at ∷ [] else if n then End at ending ∷ [] else if ab then Abort ∷ []
    else []) else [])
none_told true true s b n ab at ending node = refl
none_told true false s b n ab at ending node = refl
none_told false r false b n ab at ending node = refl
none_told false r true true n ab at ending node = refl
none_told false r true false true ab at ending node = refl
none_told false r true false false true at ending node = refl
none_told false r true false false false at ending node = refl

-- one of each, for a node that is there
one_told : (p : Policies) (e : Execution) (place : ℕ) (found : Option Node) (node : Node)
    → found ≡ Some node
    → AreTold (option_to_list (option_map (withdrawn_node p e place) found)) (Withdraw place ∷ [])
one_told p e place None node h = absurd (grind (arith, h))
one_told p e place (Some x) node h = λ n. one_by n (nat_eq place n)
  where
    one_by : (n : ℕ) (b : Bool)
        → is_some (cond b (Some (withdrawn_node p e place x)) None) ≡ (b || false)
    one_by n true = refl
    one_by n false = refl

-- a row that withdraws
withdraw_told : (p : Policies) (row : Row) (e : Execution) (s : Bool)
    → (s ≡ true → (node : Node) × (slice_get e.accepted.nodes row.b ≡ Some node))
    → AreTold
    (if s then option_to_list (option_map (withdrawn_node p e row.b) (slice_get e.accepted.nodes row.b))
    else []) (if s then Withdraw row.b ∷ [] else [])
withdraw_told p row e true h =
    let n = h refl in one_told p e row.b (slice_get e.accepted.nodes row.b) n.0 n.1
withdraw_told p row e false h = λ n. refl

abbrev one_mark : Row → Execution → Bool → List Mark
one_mark row e w =
    if is_opened row then (if is_running e then Lost ∷ [] else [])
    else if nat_eq row.a e.number
    then (if is_begin row then Begin (leaf_of e row.b) ∷ []
    else if is_end row then End (leaf_of e row.b) (ending_of row.c) ∷ []
    else if is_abort row then Abort ∷ []
    else if w then Withdraw row.b ∷ [] else []) else []

abbrev one_clause : Policies → Row → Execution → Bool → List WithdrawnNode
one_clause p row e w =
    if w && nat_eq row.a e.number
    then option_to_list (option_map (withdrawn_node p e row.b) (slice_get e.accepted.nodes row.b))
    else []

row_told : (p : Policies) (row : Row) (e : Execution) (w : Bool) → is_withdraw row ≡ w
    → (w ≡ true → nat_eq row.a e.number ≡ true
    → (node : Node) × (slice_get e.accepted.nodes row.b ≡ Some node))
    → AreTold (withdrawn_by p row e) (marks_of row e)
row_told p row e true is h =
    let k : row.kind ≡ 12 = eqb-true row.kind 12 is in
    subst (λ n. AreTold (withdrawn_by p (record row { kind = n }) e)
    (marks_of (record row { kind = n }) e)) (sym k)
    (withdraw_told p row e (nat_eq row.a e.number) (h refl))
row_told p row e false is h =
    subst (λ w. AreTold (one_clause p row e w) (one_mark row e w)) (sym is)
    (none_told (is_opened row) (is_running e) (nat_eq row.a e.number) (is_begin row) (is_end row)
    (is_abort row) (leaf_of e row.b) (ending_of row.c))

-- ---- all executions

abbrev AllTold : List Execution → Type 0
AllTold es = (k : ℕ) (e : Execution) → slice_get es k ≡ Some e → AreTold e.withdrawn e.marks

none_all : AllTold []
none_all k e h = absurd (grind (arith, h))

one_all : (x : Execution) → AreTold x.withdrawn x.marks → AllTold (x ∷ [])
one_all x is zero e h =
    subst (λ (o : Option Execution). AreTold (unwrap_or o x).withdrawn (unwrap_or o x).marks) h is
one_all x is (suc k) e h = absurd (grind (arith, h))

started_told : (world : World) (n : ℕ) (at : ℤ) (caller : Caller)
    (r : Result Acceptance Refusal) → AllTold (started_if world n at caller r)
started_told world n at caller (Ok accepted) =
    one_all (started world n at caller accepted) (λ node. refl)
started_told world n at caller (Err refusal) = none_all

asked_told : (world : World) (n draw : ℕ) (row : Row) (ask : Option DueAsk)
    → AllTold (asked world n draw row ask)
asked_told world n draw row None = none_all
asked_told world n draw row (Some ask) =
    started_told world n row.at (row_caller row)
    (verdict_of world (row_caller row) ask.0 (draw + n))

-- the node that a row of a legal log withdraws is one of the plan's
withdrawn_found : (past : List Row) (row : Row) → IsLegalLog (row ∷ past) → is_withdraw row ≡ true
    → (k : ℕ) (x : Execution) → slice_get (executions past) k ≡ Some x
    → nat_eq row.a x.number ≡ true
    → (node : Node) × (slice_get x.accepted.nodes row.b ≡ Some node)
withdrawn_found past row legal is k x get same =
    let kind : row.kind ≡ 12 = kind_is row 12 is in
    let s = log_state past in
    let w = claim_withdraws s (moment s row.at) 0 row kind (withdraw_claim row past legal.1 kind) in
    let j = from_filter is_running (executions past) w.place w.execution w.there in
    let is_x : w.execution ≡ x =
    ap (λ o. unwrap_or o x)
    (sym (found_at past j.0 w.execution j.1)
    ∙ ap (λ n. execution_among n (executions past))
    (sym w.number ∙ eqb-true row.a x.number same)
    ∙ found_at past k x get) in
    (w.node, subst (λ (z : Execution). slice_get z.accepted.nodes row.b ≡ Some w.node) is_x w.found)

told_in : (past : List Row) (row : Row) → IsLegalLog (row ∷ past) → AllTold (executions past)
    → (b : Bool) (new : List Execution) → AllTold new
    → AllTold (if b then executions past ++ new
    else map (marked (policies_before past) row) (executions past))
told_in past row legal before true new fresh k e get =
    elim (get_append (executions past) new k e get) [
      | inl old ↦ before k e old
      | inr here ↦ fresh here.0 e here.1
    ]
told_in past row legal before false new fresh k e get =
    let p = policies_before past in
    let m = from_map_by p row (slice_get (executions past) k) e
    (sym (slice_get-map (marked p row) (executions past) k) ∙ get) in
    let x = m.0 in
    subst (λ (z : Execution). AreTold z.withdrawn z.marks) (sym m.2)
    (told_more x.withdrawn (withdrawn_by p row x) x.marks (marks_of row x) (before k x m.1)
    (row_told p row x (is_withdraw row) refl
    (λ is same. withdrawn_found past row legal is k x m.1 same)))

all_told : (past : List Row) → IsLegalLog past → AllTold (executions past)
all_told [] h k e get = absurd (grind (arith, get))
all_told (row ∷ past) h k e get =
    told_in past row h (all_told past h.0) (is_accept row)
    (asked (world_before past (executions past)) (length (executions past) + 1) (draw_of past) row
    (ask_of row.name row.body))
    (asked_told (world_before past (executions past)) (length (executions past) + 1) (draw_of past)
    row (ask_of row.name row.body)) k e get

some_mapped : (o : Option WithdrawnNode)
    → is_some (option_map (λ (w : WithdrawnNode). w.clause) o) ≡ is_some o
some_mapped None = refl
some_mapped (Some w) = refl

pub clauses_are_shown : ClausesAreShown
clauses_are_shown past k e node legal get =
    some_mapped (find (λ w. nat_eq w.node node) e.withdrawn) ∙ all_told past legal k e get node
