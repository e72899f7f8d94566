-- Flows, turn by turn: the fuel never runs out, and the reader and the relation agree.
use Rattle.std.proofs.Common.{◌≡◌, ◌⊎◌, inl, inr, ◌<◌, ℕ, zero, suc, ◌-◌, Bool, true, false, ◌&&◌, nat_eq, List, [], ◌∷◌, length, drop, Result, Ok, Err, refl, sym, ap, subst, ◌∙◌, arith}
use Rattle.std.proofs.lemmas.Bool.{eq-eqb, and_parts}
use Rattle.rb_yaml.specs.Faults.{◌>>=◌}
use Rattle.rb_yaml.specs.Rows.{past_blanks, begins}
use Rattle.rb_yaml.specs.Signs.{is_nothing, is_clear}
use Rattle.rb_yaml.specs.FlowScalars.{flow_word}
use Rattle.rb_yaml.specs.Flow.{FlowItem, FlowRead, FlowReading, FlowTurn, closes, separates, junk, item, onto_item, good_if, flow_item, flow_turn, behind_turn, flow_turns, flow_items}
use Rattle.rb_yaml_laws.specs.InFlow as flows
use Rattle.rb_yaml_laws.specs.InFlow.{InFlow}
use Rattle.rb_yaml_laws.proofs.Binds.{bound}
use Rattle.rb_yaml_laws.proofs.BlankFacts.{past_solid, past_le, past_shorter, not_clear, begins_is}
use Rattle.rb_yaml_laws.proofs.FlowScalars.{IsClosing, IsFree, Stands, item_of, word_left}
use Rattle.rb_yaml_laws.proofs.FlowItems.{ItemMeant, item_read, item_stands, item_shrinks}

-- ---- what a turn says

-- what stands at a place where this turn is taken
abbrev pub Turned : ℕ → Bool → List ℕ → FlowTurn → Type 0
Turned close after text (closes rest) = past_blanks text ≡ close ∷ rest
Turned close after text (separates rest) = past_blanks text ≡ 44 ∷ rest
Turned close after text (junk rest) = length rest < length text
Turned close after text (item i) = (after ≡ false) × IsFree close (past_blanks text) × (flow_item close (past_blanks text) ≡ Ok i)

turn_by : (t₁ t₂ t₃ : Bool) (close : ℕ) (after : Bool) (text : List ℕ) (x : FlowTurn) → is_clear text ≡ t₁ → begins close (past_blanks text) ≡ t₂ → begins 44 (past_blanks text) ≡ t₃ →
    flow_turn close after text ≡ Ok x → Turned close after text x
turn_by true t₂ t₃ close after text x h₁ h₂ h₃ e = let never = rw h₁ at e in absurd (cc)
turn_by false true t₃ close after text x h₁ h₂ h₃ e =
    let same : closes (drop 1 (past_blanks text)) ≡ x = let k = rw (h₁, h₂) at e in cc in subst (Turned close after text) same (begins_is close (past_blanks text) h₂)
turn_by false false true close after text x h₁ h₂ h₃ e =
    let same : separates (drop 1 (past_blanks text)) ≡ x = let k = rw (h₁, h₂, h₃) at e in cc in subst (Turned close after text) same (begins_is 44 (past_blanks text) h₃)
turn_by false false false close true text x h₁ h₂ h₃ e =
    let same : junk (drop (length (flow_word false close (past_blanks text))) (past_blanks text)) ≡ x = let k = rw (h₁, h₂, h₃) at e in cc in
    let l = word_left false close (past_blanks text) (past_solid text h₁) in
    let p = past_le text in
    subst (Turned close true text) same (omega (arith, l, p))
turn_by false false false close false text x h₁ h₂ h₃ e =
    let k = bound (flow_item close (past_blanks text)) (λ i. Ok (item i)) x (rw (h₁, h₂, h₃) at e) in
    let same : item k.x ≡ x = let t = k.then_ in cc in
    subst (Turned close false text) same (refl, (past_solid text h₁, h₃, h₂), k.first)

turn_is : (close : ℕ) (after : Bool) (text : List ℕ) (x : FlowTurn) → flow_turn close after text ≡ Ok x → Turned close after text x
turn_is close after text x e = turn_by (is_clear text) (begins close (past_blanks text)) (begins 44 (past_blanks text)) close after text x refl refl refl e

-- ---- the fuel

-- what is left behind the turn is shorter than the text
abbrev Shrinks : List ℕ → FlowTurn → Type 0
Shrinks text (closes rest) = Unit {0}
Shrinks text (separates rest) = length rest < length text
Shrinks text (junk rest) = length rest < length text
Shrinks text (item i) = length i.rest < length text

turn_shrinks : (close : ℕ) (after : Bool) (text : List ℕ) (x : FlowTurn) → Turned close after text x → Shrinks text x
turn_shrinks close after text (closes rest) h = tt
turn_shrinks close after text (separates rest) h = past_shorter text 44 rest h
turn_shrinks close after text (junk rest) h = h
turn_shrinks close after text (item i) h = let l = item_shrinks close (past_blanks text) i h.1.0 h.2 in let p = past_le text in omega (arith, l, p)

bind_same : {A B E : Type 0} (read : Result A E) (f g : A → Result B E) → ((x : A) → read ≡ Ok x → f x ≡ g x) → (read >>= f) ≡ (read >>= g)
bind_same (Ok x) f g h = h x refl
bind_same (Err e) f g h = refl

turn_same : (a b : FlowReading) (f g close : ℕ) (after : Bool) (text : List ℕ) (x : FlowTurn) →
    ((after : Bool) (t : List ℕ) → length t < f → length t < g → flow_turns a f close after t ≡ flow_turns b g close after t) →
    length text < suc f → length text < suc g → Shrinks text x →
    behind_turn (flow_turns a f close) after x ≡ behind_turn (flow_turns b g close) after x
turn_same a b f g close after text (closes rest) h l m s = refl
turn_same a b f g close after text (separates rest) h l m s = ap (good_if after) (h false rest (omega (arith, l, s)) (omega (arith, m, s)))
turn_same a b f g close after text (junk rest) h l m s = ap (good_if false) (h true rest (omega (arith, l, s)) (omega (arith, m, s)))
turn_same a b f g close after text (item i) h l m s = ap (λ r. r >>= λ more. Ok (onto_item i more)) (h true i.rest (omega (arith, l, s)) (omega (arith, m, s)))

-- any two fuels over the length of the text give the same reading, whatever is answered without
-- fuel
pub flow_fuel : (a b : FlowReading) (f g close : ℕ) (after : Bool) (text : List ℕ) → length text < f → length text < g →
    flow_turns a f close after text ≡ flow_turns b g close after text
unfolding flow_turns
flow_fuel a b zero g close after text l m = absurd (omega (arith, l))
flow_fuel a b (suc f) zero close after text l m = absurd (omega (arith, m))
flow_fuel a b (suc f) (suc g) close after text l m =
    bind_same (flow_turn close after text) (behind_turn (flow_turns a f close) after) (behind_turn (flow_turns b g close) after)
    (λ x e. turn_same a b f g close after text x (λ k t p q. flow_fuel a b f g close k t p q) l m (turn_shrinks close after text x (turn_is close after text x e)))

-- ---- what is meant is read

one_turn : (fuel close : ℕ) (after : Bool) (text : List ℕ) (x : FlowTurn) → flow_turn close after text ≡ Ok x → flow_items (suc fuel) close after text ≡ behind_turn (flow_items fuel close) after x
unfolding flow_turns
one_turn fuel close after text x h = ap (λ t. t >>= behind_turn (flow_items fuel close) after) h

turn_at : (fuel close : ℕ) (after : Bool) (text : List ℕ) (x : FlowTurn) → 0 < fuel → flow_turn close after text ≡ Ok x → flow_items fuel close after text ≡ behind_turn (flow_items (fuel - 1) close) after x
turn_at fuel close after text x l h = let e : fuel ≡ suc (fuel - 1) = omega (arith, l) in ap (λ n. flow_items n close after text) e ∙ one_turn (fuel - 1) close after text x h

turn_closes : (close : ℕ) (after : Bool) (text rest : List ℕ) → nat_eq close 35 ≡ false → past_blanks text ≡ close ∷ rest → flow_turn close after text ≡ Ok (closes rest)
turn_closes close after text rest c e = rw (not_clear text (ap is_nothing e ∙ c), e, eq-eqb close close refl) refl

turn_comma : (close : ℕ) (after : Bool) (text rest : List ℕ) → nat_eq 44 close ≡ false → past_blanks text ≡ 44 ∷ rest → flow_turn close after text ≡ Ok (separates rest)
turn_comma close after text rest c e = rw (not_clear text (ap is_nothing e), e, c) refl

turn_item : (close : ℕ) (text : List ℕ) (i : FlowItem) → Stands close (past_blanks text) → flow_item close (past_blanks text) ≡ Ok i → flow_turn close false text ≡ Ok (item i)
turn_item close text i s e = rw (not_clear text s.0, s.2, s.1, e) refl

abbrev pub flow_says : List (List ℕ × List ℕ) → List ℕ → FlowRead
flow_says items rest = record { items = items; good = true; rest = rest }

closes_read : (fuel close : ℕ) (after : Bool) (text rest : List ℕ) → IsClosing close → past_blanks text ≡ close ∷ rest → 0 < fuel → flow_items fuel close after text ≡ Ok (flow_says [] rest)
closes_read fuel close after text rest c e l = turn_at fuel close after text (closes rest) l (turn_closes close after text rest c.0 e)

comma_read : (fuel close : ℕ) (text next rest : List ℕ) (items : List (List ℕ × List ℕ)) → IsClosing close → past_blanks text ≡ 44 ∷ next → 0 < fuel →
    flow_items (fuel - 1) close false next ≡ Ok (flow_says items rest) → flow_items fuel close true text ≡ Ok (flow_says items rest)
comma_read fuel close text next rest items c e l more = turn_at fuel close true text (separates next) l (turn_comma close true text next c.1 e) ∙ ap (good_if true) more

item_turn : (fuel close : ℕ) (text key said behind rest : List ℕ) (items : List (List ℕ × List ℕ)) → flows.IsFlowItem close (past_blanks text) key said behind → 0 < fuel →
    flow_items (fuel - 1) close true behind ≡ Ok (flow_says items rest) → flow_items fuel close false text ≡ Ok (flow_says ((key, said) ∷ items) rest)
item_turn fuel close text key said behind rest items i l more =
    turn_at fuel close false text (item (item_of key said behind)) l (turn_item close text (item_of key said behind) (item_stands i) (item_read i))
    ∙ ap (λ r. r >>= λ x. Ok (onto_item (item_of key said behind) x)) more

item_left : (close : ℕ) (text key said behind : List ℕ) → flows.IsFlowItem close (past_blanks text) key said behind → length behind < length text
item_left close text key said behind i =
    let s = past_solid text (not_clear text (item_stands i).0) in
    let l = item_shrinks close (past_blanks text) (item_of key said behind) s (item_read i) in
    let p = past_le text in
    omega (arith, l, p)

pub in_flow_read : {close : ℕ} {text rest : List ℕ} {items : List (List ℕ × List ℕ)} → InFlow close text items rest → IsClosing close → (fuel : ℕ) → length text < fuel →
    flow_items fuel close false text ≡ Ok (flow_says items rest)
in_flow_read {close} (flows.InFlow.closes {text = text} {rest = rest} e) c fuel l = closes_read fuel close false text rest c e (omega (arith, l))
in_flow_read {close} (flows.InFlow.last {text = text} {key = key} {said = said} {behind = behind} {rest = rest} i e) c fuel l =
    let left = item_left close text key said behind i in
    item_turn fuel close text key said behind rest [] i (omega (arith, l)) (closes_read (fuel - 1) close true behind rest c e (omega (arith, l, left)))
in_flow_read {close} (flows.InFlow.more {text = text} {key = key} {said = said} {behind = behind} {next = next} {rest = rest} {items = items} i e m) c fuel l =
    let left = item_left close text key said behind i in
    let shorter = past_shorter behind 44 next e in
    item_turn fuel close text key said behind rest items i (omega (arith, l))
    (comma_read (fuel - 1) close behind next rest items c e (omega (arith, l, left)) (in_flow_read m c (fuel - 1 - 1) (omega (arith, l, left, shorter))))

-- ---- what is read is meant

-- behind an item stands the closing sign, or a separates and more
abbrev Behind : ℕ → List ℕ → List (List ℕ × List ℕ) → List ℕ → Type 0
Behind close text items rest = ((past_blanks text ≡ close ∷ rest) × (items ≡ [])) ⊎ ((next : List ℕ) × (past_blanks text ≡ 44 ∷ next) × InFlow close next items rest)

abbrev Meant : ℕ → Bool → List ℕ → FlowRead → Type 0
Meant close false text r = InFlow close text r.items r.rest
Meant close true text r = Behind close text r.items r.rest

closes_meant : (close : ℕ) (after : Bool) (text rest : List ℕ) → past_blanks text ≡ close ∷ rest → Meant close after text (flow_says [] rest)
closes_meant close false text rest e = flows.InFlow.closes e
closes_meant close true text rest e = inl (e, refl)

comma_meant : (close : ℕ) (after : Bool) (text rest : List ℕ) (more r : FlowRead) → past_blanks text ≡ 44 ∷ rest → record more { good = after && more.good } ≡ r → r.good ≡ true →
    (more.good ≡ true → InFlow close rest more.items more.rest) → Meant close after text r
comma_meant close false text rest more r e same g h = let never : false ≡ true = ap (λ x. x.good) same ∙ g in absurd (cc)
comma_meant close true text rest more r e same g h = subst (Meant close true text) same (inr (rest, e, h (ap (λ x. x.good) same ∙ g)))

behind_item : (close : ℕ) (text : List ℕ) (i : FlowItem) (more : FlowRead) → flows.IsFlowItem close (past_blanks text) i.key i.text i.rest → Behind close i.rest more.items more.rest →
    InFlow close text ((i.key, i.text) ∷ more.items) more.rest
behind_item close text i more h (inl k) = subst (λ xs. InFlow close text ((i.key, i.text) ∷ xs) more.rest) (sym k.1) (flows.InFlow.last h k.0)
behind_item close text i more h (inr k) = flows.InFlow.more h k.1 k.2

item_meant : (close : ℕ) (after : Bool) (text : List ℕ) (i : FlowItem) (more r : FlowRead) → ItemMeant close → Turned close after text (item i) → onto_item i more ≡ r → r.good ≡ true →
    (more.good ≡ true → Behind close i.rest more.items more.rest) → Meant close after text r
item_meant close true text i more r items h same g k = let never = h.0 in absurd (cc)
item_meant close false text i more r items h same g k =
    let good : (i.good && more.good) ≡ true = ap (λ x. x.good) same ∙ g in
    let is = items (past_blanks text) i h.1 h.2 ((and_parts i.good more.good good).0) in
    subst (Meant close false text) same (behind_item close text i more is (k ((and_parts i.good more.good good).1)))

turn_meant : (x : FlowTurn) (fuel close : ℕ) (after : Bool) (text : List ℕ) (r : FlowRead) → ItemMeant close → Turned close after text x → behind_turn (flow_items fuel close) after x ≡ Ok r → r.good ≡ true →
    ((a : Bool) (t : List ℕ) (m : FlowRead) → flow_items fuel close a t ≡ Ok m → m.good ≡ true → Meant close a t m) → Meant close after text r
turn_meant (closes rest) fuel close after text r items h e g more = let same : flow_says [] rest ≡ r = cc in subst (Meant close after text) same (closes_meant close after text rest h)
turn_meant (separates rest) fuel close after text r items h e g more =
    let k = bound (flow_items fuel close false rest) _ r e in
    let same : record k.x { good = after && k.x.good } ≡ r = let t = k.then_ in cc in
    comma_meant close after text rest k.x r h same g (λ good. more false rest k.x k.first good)
turn_meant (junk rest) fuel close after text r items h e g more =
    let k = bound (flow_items fuel close true rest) _ r e in
    let same : record k.x { good = false } ≡ r = let t = k.then_ in cc in
    let never : false ≡ true = ap (λ x. x.good) same ∙ g in absurd (cc)
turn_meant (item i) fuel close after text r items h e g more =
    let k = bound (flow_items fuel close true i.rest) _ r e in
    let same : onto_item i k.x ≡ r = let t = k.then_ in cc in
    item_meant close after text i k.x r items h same g (λ good. more true i.rest k.x k.first good)

flow_meant : (fuel close : ℕ) (after : Bool) (text : List ℕ) (r : FlowRead) → ItemMeant close → flow_items fuel close after text ≡ Ok r → r.good ≡ true → Meant close after text r
unfolding flow_turns
flow_meant zero close after text r items e g = absurd (cc)
flow_meant (suc fuel) close after text r items e g =
    let k = bound (flow_turn close after text) (behind_turn (flow_items fuel close) after) r e in
    turn_meant k.x fuel close after text r items (turn_is close after text k.x k.first) k.then_ g (λ a t m p q. flow_meant fuel close a t m items p q)

pub in_flow_meant : (fuel close : ℕ) (text : List ℕ) (r : FlowRead) → ItemMeant close → flow_items fuel close false text ≡ Ok r → r.good ≡ true → InFlow close text r.items r.rest
in_flow_meant fuel close text r items e g = flow_meant fuel close false text r items e g
