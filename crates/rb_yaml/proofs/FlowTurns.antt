-- Flows, turn by turn.
use Rattle.std.proofs.Common.{◌≡◌, ℕ, zero, suc, ◌+◌, ◌-◌, ◌<◌, Bool, true, false, ◌&&◌, List, [], ◌∷◌, ◌++◌, Result, Ok, Err, refl, ap, sym, ◌∙◌, append_assoc, append-nil, arith}
use Rattle.rb_yaml.specs.declared.flaw.Flaw.{Flaw}
use Rattle.rb_yaml.specs.declared.flaw.Flaw.TheVariants.{Form}
use Rattle.rb_yaml.specs.declared.flaw.Stop.{Stop}
use Rattle.rb_yaml.specs.declared.flaw.Stop.TheVariants.{At, NoMemory}
use Rattle.rb_yaml.specs.Faults.{IsStopOf, ◌>>=◌}
use Rattle.rb_yaml.specs.Flow.{FlowItem, FlowRead, FlowTurn, closes, separates, junk, item, good_if, onto_item, flow_turn, behind_turn, flow_turns, flow_items}

-- a reading with more items before it
abbrev pub with_items : List (List ℕ × List ℕ) → Bool → Result FlowRead Flaw → Result FlowRead Flaw
with_items items good read = read >>= λ r. Ok (record { items = items ++ r.items; good = good && r.good; rest = r.rest })

and_assoc : (a b c : Bool) → (a && (b && c)) ≡ ((a && b) && c)
and_assoc true b c = refl
and_assoc false b c = refl

and_true : (a : Bool) → (a && true) ≡ a
and_true true = refl
and_true false = refl

and_false : (a : Bool) (b : Bool) → (a && (false && b)) ≡ false
and_false true b = refl
and_false false b = refl

if_more : (items : List (List ℕ × List ℕ)) (good after : Bool) (read : Result FlowRead Flaw) → with_items items good (good_if after read) ≡ with_items items (good && after) read
if_more items good after (Ok r) = ap (λ g. let v : FlowRead = record { items = items ++ r.items; good = g; rest = r.rest } in Ok v) (and_assoc good after r.good)
if_more items good after (Err e) = refl

if_spoiled : (items : List (List ℕ × List ℕ)) (good : Bool) (read : Result FlowRead Flaw) → with_items items good (good_if false read) ≡ with_items items false read
if_spoiled items good (Ok r) = ap (λ g. let v : FlowRead = record { items = items ++ r.items; good = g; rest = r.rest } in Ok v) (and_false good r.good)
if_spoiled items good (Err e) = refl

item_onto : (items : List (List ℕ × List ℕ)) (good : Bool) (i : FlowItem) (read : Result FlowRead Flaw) →
    with_items items good (read >>= λ more. Ok (onto_item i more)) ≡ with_items (items ++ (i.key, i.text) ∷ []) (good && i.good) read
item_onto items good i (Ok r) =
    ap (λ g. let v : FlowRead = record { items = items ++ (i.key, i.text) ∷ r.items; good = g; rest = r.rest } in Ok v) (and_assoc good i.good r.good)
    ∙ ap (λ xs. let v : FlowRead = record { items = xs; good = (good && i.good) && r.good; rest = r.rest } in Ok v) (sym (append_assoc items ((i.key, i.text) ∷ []) r.items))
item_onto items good i (Err e) = refl

-- one turn
turned : (fuel close : ℕ) (after : Bool) (text : List ℕ) (turn : FlowTurn) → flow_turn close after text ≡ Ok turn → flow_items (suc fuel) close after text ≡ behind_turn (flow_items fuel close) after turn
unfolding flow_turns
turned fuel close after text turn h = ap (λ t. t >>= behind_turn (flow_items fuel close) after) h

fuel_at : (n at : ℕ) → at < n → n - at ≡ suc (n - (at + 1))
fuel_at n at l = omega arith

turn_at : (n at close : ℕ) (after : Bool) (text : List ℕ) (turn : FlowTurn) → at < n → flow_turn close after text ≡ Ok turn → flow_items (n - at) close after text ≡ behind_turn (flow_items (n - (at + 1)) close) after turn
turn_at n at close after text turn l h = ap (λ fuel. flow_items fuel close after text) (fuel_at n at l) ∙ turned (n - (at + 1)) close after text turn h

stopped : (fuel close : ℕ) (after : Bool) (text : List ℕ) (e : Flaw) → flow_turn close after text ≡ Err e → flow_items (suc fuel) close after text ≡ Err e
unfolding flow_turns
stopped fuel close after text e h = ap (λ t. t >>= behind_turn (flow_items fuel close) after) h

-- the turns' fault is the flow's
pub turn_stops : (n at close : ℕ) (after good : Bool) (text : List ℕ) (items : List (List ℕ × List ℕ)) (all : Result FlowRead Flaw) (e : Flaw) → at < n → flow_turn close after text ≡ Err e →
    with_items items good (flow_items (n - at) close after text) ≡ all → all ≡ Err e
turn_stops n at close after good text items all e l h same =
    sym same ∙ ap (with_items items good) (ap (λ fuel. flow_items fuel close after text) (fuel_at n at l) ∙ stopped (n - (at + 1)) close after text e h)

pub turn_closes : (n at close : ℕ) (after good : Bool) (text rest : List ℕ) (items : List (List ℕ × List ℕ)) (all : Result FlowRead Flaw) → at < n → flow_turn close after text ≡ Ok (closes rest) →
    with_items items good (flow_items (n - at) close after text) ≡ all → all ≡ Ok (record { items = items; good = good; rest = rest })
turn_closes n at close after good text rest items all l h same =
    sym same ∙ ap (with_items items good) (turn_at n at close after text (closes rest) l h)
    ∙ ap (λ xs. let v : FlowRead = record { items = xs; good = good && true; rest = rest } in Ok v) (append-nil items)
    ∙ ap (λ g. let v : FlowRead = record { items = items; good = g; rest = rest } in Ok v) (and_true good)

pub turn_separates : (n at close : ℕ) (after good : Bool) (text rest : List ℕ) (items : List (List ℕ × List ℕ)) (all : Result FlowRead Flaw) → at < n → flow_turn close after text ≡ Ok (separates rest) →
    with_items items good (flow_items (n - at) close after text) ≡ all → with_items items (good && after) (flow_items (n - (at + 1)) close false rest) ≡ all
turn_separates n at close after good text rest items all l h same =
    sym (if_more items good after (flow_items (n - (at + 1)) close false rest)) ∙ ap (with_items items good) (sym (turn_at n at close after text (separates rest) l h)) ∙ same

pub turn_junk : (n at close : ℕ) (after good : Bool) (text rest : List ℕ) (items : List (List ℕ × List ℕ)) (all : Result FlowRead Flaw) → at < n → flow_turn close after text ≡ Ok (junk rest) →
    with_items items good (flow_items (n - at) close after text) ≡ all → with_items items false (flow_items (n - (at + 1)) close true rest) ≡ all
turn_junk n at close after good text rest items all l h same =
    sym (if_spoiled items good (flow_items (n - (at + 1)) close true rest)) ∙ ap (with_items items good) (sym (turn_at n at close after text (junk rest) l h)) ∙ same

pub turn_item : (n at close : ℕ) (after good : Bool) (text : List ℕ) (i : FlowItem) (items more : List (List ℕ × List ℕ)) (all : Result FlowRead Flaw) → at < n → flow_turn close after text ≡ Ok (item i) →
    more ≡ items ++ (i.key, i.text) ∷ [] →
    with_items items good (flow_items (n - at) close after text) ≡ all → with_items more (good && i.good) (flow_items (n - (at + 1)) close true i.rest) ≡ all
turn_item n at close after good text i items more all l h is_more same =
    ap (λ xs. with_items xs (good && i.good) (flow_items (n - (at + 1)) close true i.rest)) is_more
    ∙ sym (item_onto items good i (flow_items (n - (at + 1)) close true i.rest)) ∙ ap (with_items items good) (sym (turn_at n at close after text (item i) l h)) ∙ same

with_none : (items : List (List ℕ × List ℕ)) (good : Bool) (close : ℕ) (after : Bool) (text : List ℕ) → with_items items good (flow_items zero close after text) ≡ Err Form
unfolding flow_turns
with_none items good close after text = refl

-- the turns have run out
pub turns_end : (n at close : ℕ) (after good : Bool) (text : List ℕ) (items : List (List ℕ × List ℕ)) (all : Result FlowRead Flaw) → n - at ≡ zero →
    with_items items good (flow_items (n - at) close after text) ≡ all → all ≡ Err Form
turns_end n at close after good text items all none same =
    sym same ∙ ap (λ fuel. with_items items good (flow_items fuel close after text)) none ∙ with_none items good close after text

-- a turn's stop is the flow's
pub turn_through : (stop : Stop Flaw) (n at close : ℕ) (after good : Bool) (text : List ℕ) (items : List (List ℕ × List ℕ)) (all : Result FlowRead Flaw) → at < n → IsStopOf stop (flow_turn close after text) →
    with_items items good (flow_items (n - at) close after text) ≡ all → IsStopOf stop all
turn_through NoMemory n at close after good text items all l h same = tt
turn_through (At e) n at close after good text items all l h same = turn_stops n at close after good text items all e l h same

-- the same under other names
pub moved : (n close : ℕ) (items' items : List (List ℕ × List ℕ)) (good' good after' after : Bool) (rest' rest : List ℕ) (all : Result FlowRead Flaw) → items' ≡ items → good' ≡ good → after' ≡ after → rest' ≡ rest →
    with_items items good (flow_items n close after rest) ≡ all → with_items items' good' (flow_items n close after' rest') ≡ all
moved n close items' items good' good after' after rest' rest all is_items is_good is_after is_rest same =
    ap (λ xs. with_items xs good' (flow_items n close after' rest')) is_items ∙ ap (λ g. with_items items g (flow_items n close after' rest')) is_good
    ∙ ap (λ a. with_items items good (flow_items n close a rest')) is_after ∙ ap (λ xs. with_items items good (flow_items n close after xs)) is_rest ∙ same
