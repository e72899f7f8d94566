-- Items of flows: the reader and the relation agree.
use Rattle.std.proofs.Common.{◌≡◌, ◌⊎◌, inl, inr, ◌≤◌, ◌<◌, ℕ, Bool, true, false, cond, ◌&&◌, ◌||◌, nat_eq, List, [], ◌∷◌, length, drop, Ok, refl, sym, ap, subst, ◌∙◌, length-drop, arith}
use Rattle.std.proofs.lemmas.Bool.{eqb-true, and_parts, or_parts}
use Rattle.rb_yaml.specs.Rows.{past_blanks, begins}
use Rattle.rb_yaml.specs.Signs.{is_clear, ends_sign, begins_sign}
use Rattle.rb_yaml.specs.FlowScalars.{FlowText, flow_scalar}
use Rattle.rb_yaml.specs.Flow.{FlowItem, flow_value, flow_pair, flow_item}
use Rattle.rb_yaml_laws.specs.InFlow as flows
use Rattle.rb_yaml_laws.specs.InFlow.{BeginsWord, IsWord, FlowScalar, IsColon}
use Rattle.rb_yaml_laws.proofs.Binds.{bound}
use Rattle.rb_yaml_laws.proofs.BlankFacts.{Solid, past_solid, past_le, not_clear}
use Rattle.rb_yaml_laws.proofs.FlowScalars.{item_of, scalar_read, Stands, IsFree, scalar_stands, scalar_meant, scalar_shrinks}

-- ---- items

pub in_sequence_read : {text said rest : List ℕ} → FlowScalar false 93 text said rest → flow_item 93 text ≡ Ok (item_of [] said rest)
in_sequence_read s = rw (scalar_read s) refl

-- a colon stands there as the sign of a key
abbrev is_sign : List ℕ → List ℕ → Bool
is_sign colon text = begins_sign 58 colon || (begins 58 colon && (begins 34 text || begins 39 text))

sign_by : (a b : Bool) → (a ≡ true) ⊎ (b ≡ true) → (a || b) ≡ true
sign_by true b h = refl
sign_by false b (inl h) = absurd (cc)
sign_by false b (inr h) = h

value_read : (key text said rest : List ℕ) → FlowScalar false 125 (past_blanks text) said rest → flow_value 125 key true text ≡ Ok (item_of key said rest)
value_read key text said rest s =
    let at = scalar_stands s (refl, refl, refl, refl) in
    rw (not_clear text at.0, at.1, at.2, scalar_read s) refl

in_map_read : {text key colon behind said rest : List ℕ} → FlowScalar true 125 text key colon → past_blanks colon ≡ 58 ∷ behind → IsColon text behind →
    FlowScalar false 125 (past_blanks behind) said rest → flow_pair 125 text ≡ Ok (item_of key said rest)
in_map_read {text} {key} {colon} {behind} {said} {rest} k c sign v =
    rw (scalar_read k, c, sign_by (ends_sign behind) (begins 34 text || begins 39 text) sign) (value_read key behind said rest v)

pub item_read : {close : ℕ} {text key said rest : List ℕ} → flows.IsFlowItem close text key said rest → flow_item close text ≡ Ok (item_of key said rest)
item_read (flows.IsFlowItem.in_sequence s) = in_sequence_read s
item_read (flows.IsFlowItem.in_map k c sign v) = in_map_read k c sign v

pub item_stands : {close : ℕ} {text key said rest : List ℕ} → flows.IsFlowItem close text key said rest → Stands close text
item_stands (flows.IsFlowItem.in_sequence s) = scalar_stands s (refl, refl, refl, refl)
item_stands (flows.IsFlowItem.in_map k c sign v) = scalar_stands k (refl, refl, refl, refl)

abbrev pub ItemMeant : ℕ → Type 0
ItemMeant close = (text : List ℕ) (i : FlowItem) → IsFree close text → flow_item close text ≡ Ok i → i.good ≡ true → flows.IsFlowItem close text i.key i.text i.rest

pub in_sequence_meant : ItemMeant 93
in_sequence_meant text i s e g =
    let k = bound (flow_scalar false 93 text) _ i e in
    let same : record { key = []; text = k.x.text; good = k.x.good; rest = k.x.rest } ≡ i = let t = k.then_ in cc in
    let good : k.x.good ≡ true = ap (λ x. x.good) same ∙ g in
    subst (λ (x : FlowItem). flows.IsFlowItem 93 text x.key x.text x.rest) same (flows.IsFlowItem.in_sequence (scalar_meant false 93 text k.x s k.first good))

sign_is : (colon text : List ℕ) → is_sign colon text ≡ true → (colon ≡ 58 ∷ drop 1 colon) × IsColon text (drop 1 colon)
sign_is [] text h = absurd (cc)
sign_is (b ∷ bs) text h = by (nat_eq b 58) (ends_sign bs) (begins 34 text || begins 39 text) refl refl refl h
  where
    by : (c e q : Bool) → nat_eq b 58 ≡ c → ends_sign bs ≡ e → (begins 34 text || begins 39 text) ≡ q → (c && e || (c && q)) ≡ true → (b ∷ bs ≡ 58 ∷ bs) × IsColon text bs
    by false e q hc he hq k = absurd (cc)
    by true true q hc he hq k = (ap (λ x. x ∷ bs) (eqb-true b 58 hc), inl he)
    by true false true hc he hq k = (ap (λ x. x ∷ bs) (eqb-true b 58 hc), inr hq)
    by true false false hc he hq k = absurd (cc)

-- the value behind a key
pub record ValueMeant (key text : List ℕ) (good : Bool) (i : FlowItem) : Type 0 where
  pub is_good : good ≡ true
  pub keyed : i.key ≡ key
  pub says : FlowScalar false 125 (past_blanks text) i.text i.rest

free_at : (text : List ℕ) → is_clear text ≡ false → (begins 44 (past_blanks text) || begins 125 (past_blanks text)) ≡ false → IsFree 125 (past_blanks text)
free_at text c h = (past_solid text c, (or_parts (begins 44 (past_blanks text)) (begins 125 (past_blanks text)) h).0, (or_parts (begins 44 (past_blanks text)) (begins 125 (past_blanks text)) h).1)

value_by : (t₁ t₂ : Bool) (key : List ℕ) (good : Bool) (text : List ℕ) (i : FlowItem) → is_clear text ≡ t₁ → (begins 44 (past_blanks text) || begins 125 (past_blanks text)) ≡ t₂ →
    flow_value 125 key good text ≡ Ok i → i.good ≡ true → ValueMeant key text good i
value_by true t₂ key good text i h₁ h₂ e g = let never = rw h₁ at e in absurd (cc)
value_by false true key good text i h₁ h₂ e g =
    let same : record { key = key; text = []; good = false; rest = past_blanks text } ≡ i = let k = rw (h₁, h₂) at e in cc in
    let never : false ≡ true = ap (λ x. x.good) same ∙ g in absurd (cc)
value_by false false key good text i h₁ h₂ e g =
    let k = bound (flow_scalar false 125 (past_blanks text)) _ i (rw (h₁, h₂) at e) in
    let same : record { key = key; text = k.x.text; good = good && k.x.good; rest = k.x.rest } ≡ i = let t = k.then_ in cc in
    let both_good : (good && k.x.good) ≡ true = ap (λ x. x.good) same ∙ g in
    let says = scalar_meant false 125 (past_blanks text) k.x (free_at text h₁ h₂) k.first ((and_parts good k.x.good both_good).1) in
    subst (ValueMeant key text good) same (record { is_good = (and_parts good k.x.good both_good).0; keyed = refl; says = says })

pub value_meant : (key : List ℕ) (good : Bool) (text : List ℕ) (i : FlowItem) → flow_value 125 key good text ≡ Ok i → i.good ≡ true → ValueMeant key text good i
value_meant key good text i e g = value_by (is_clear text) (begins 44 (past_blanks text) || begins 125 (past_blanks text)) key good text i refl refl e g

pair_by : (t : Bool) (text : List ℕ) (k : FlowText) (i : FlowItem) → IsFree 125 text → flow_scalar true 125 text ≡ Ok k → is_sign (past_blanks k.rest) text ≡ t →
    cond t (flow_value 125 k.text k.good (drop 1 (past_blanks k.rest))) (Ok (record { key = k.text; text = []; good = false; rest = k.rest })) ≡ Ok i → i.good ≡ true →
    flows.IsFlowItem 125 text i.key i.text i.rest
pair_by true text k i f e h c g =
    let v = value_meant k.text k.good (drop 1 (past_blanks k.rest)) i c g in
    let sign = sign_is (past_blanks k.rest) text h in
    let says = scalar_meant true 125 text k f e v.is_good in
    subst (λ xs. flows.IsFlowItem 125 text xs i.text i.rest) (sym v.keyed) (flows.IsFlowItem.in_map says sign.0 sign.1 v.says)
pair_by false text k i f e h c g =
    let same : record { key = k.text; text = []; good = false; rest = k.rest } ≡ i = cc in
    let never : false ≡ true = ap (λ x. x.good) same ∙ g in absurd (cc)

pub in_map_meant : ItemMeant 125
in_map_meant text i f e g =
    let k = bound (flow_scalar true 125 text) _ i e in
    pair_by (is_sign (past_blanks k.x.rest) text) text k.x i f k.first refl k.then_ g

-- ---- an item takes a byte at least

value_shrinks_by : (t₁ t₂ : Bool) (close : ℕ) (key : List ℕ) (good : Bool) (text : List ℕ) (i : FlowItem) → is_clear text ≡ t₁ → (begins 44 (past_blanks text) || begins close (past_blanks text)) ≡ t₂ →
    flow_value close key good text ≡ Ok i → length i.rest ≤ length text
value_shrinks_by true t₂ close key good text i h₁ h₂ e = let never = rw h₁ at e in absurd (cc)
value_shrinks_by false true close key good text i h₁ h₂ e =
    let same : record { key = key; text = []; good = false; rest = past_blanks text } ≡ i = let k = rw (h₁, h₂) at e in cc in
    subst (λ (x : FlowItem). length x.rest ≤ length text) same (past_le text)
value_shrinks_by false false close key good text i h₁ h₂ e =
    let k = bound (flow_scalar false close (past_blanks text)) _ i (rw (h₁, h₂) at e) in
    let same : record { key = key; text = k.x.text; good = good && k.x.good; rest = k.x.rest } ≡ i = let t = k.then_ in cc in
    let l = scalar_shrinks false close (past_blanks text) k.x (past_solid text h₁) k.first in
    let p = past_le text in
    subst (λ (x : FlowItem). length x.rest ≤ length text) same (omega (arith, l, p))

pair_shrinks_by : (t : Bool) (close : ℕ) (text : List ℕ) (k : FlowText) (i : FlowItem) → Solid text → flow_scalar true close text ≡ Ok k →
    cond t (flow_value close k.text k.good (drop 1 (past_blanks k.rest))) (Ok (record { key = k.text; text = []; good = false; rest = k.rest })) ≡ Ok i → length i.rest < length text
pair_shrinks_by true close text k i s e c =
    let l = scalar_shrinks true close text k s e in
    let behind = drop 1 (past_blanks k.rest) in
    let v = value_shrinks_by (is_clear behind) (begins 44 (past_blanks behind) || begins close (past_blanks behind)) close k.text k.good behind i refl refl c in
    let n = length-drop 1 (past_blanks k.rest) in
    let p = past_le k.rest in
    omega (arith, l, v, n, p)
pair_shrinks_by false close text k i s e c =
    let l = scalar_shrinks true close text k s e in
    let same : record { key = k.text; text = []; good = false; rest = k.rest } ≡ i = cc in
    subst (λ (x : FlowItem). length x.rest < length text) same l

item_shrinks_by : (t : Bool) (close : ℕ) (text : List ℕ) (i : FlowItem) → Solid text → nat_eq close 125 ≡ t → flow_item close text ≡ Ok i → length i.rest < length text
item_shrinks_by true close text i s h e =
    let k = bound (flow_scalar true close text) _ i (rw h at e) in
    pair_shrinks_by (is_sign (past_blanks k.x.rest) text) close text k.x i s k.first k.then_
item_shrinks_by false close text i s h e =
    let k = bound (flow_scalar false close text) _ i (rw h at e) in
    let same : record { key = []; text = k.x.text; good = k.x.good; rest = k.x.rest } ≡ i = let t = k.then_ in cc in
    subst (λ (x : FlowItem). length x.rest < length text) same (scalar_shrinks false close text k.x s k.first)

pub item_shrinks : (close : ℕ) (text : List ℕ) (i : FlowItem) → Solid text → flow_item close text ≡ Ok i → length i.rest < length text
item_shrinks close text i s e = item_shrinks_by (nat_eq close 125) close text i s refl e
