-- Scalars of flows: the reader and the relation agree.
use Rattle.std.proofs.Common.{◌≡◌, inl, inr, ◌≤◌, ◌<◌, ℕ, Bool, true, false, not, cond, ◌&&◌, ◌||◌, nat_eq, List, [], ◌∷◌, ◌++◌, length, take, drop, Option, Some, None, Ok, refl, sym, ap, subst, ◌∙◌, length-drop, arith}
use Rattle.std.proofs.lemmas.Bool.Decides.{nat_tests}
use Rattle.std.specs.List.{list_any}
use Rattle.std.proofs.lemmas.Bool.{and_parts, and_from, or_parts, not-true}
use Rattle.rb_causes.specs.Causes.{unless}
use Rattle.rb_causes.specs.Texts.{is_blank}
use Rattle.rb_yaml.proofs.FlowFacts.{end_split}
use Rattle.rb_yaml.specs.Rows.{begins}
use Rattle.rb_yaml.specs.Signs.{is_nothing, has_colon, excluded_start, is_ill_start}
use Rattle.rb_yaml.specs.Quotes.{single_from, double_from}
use Rattle.rb_yaml.specs.Keys.{is_lone_sign}
use Rattle.rb_yaml.specs.FlowScalars.{FlowText, flow_word, flow_scalar, plain_flow, plain_is_good, plain_len, is_bracket}
use Rattle.rb_yaml.specs.Flow.{FlowItem}
use Rattle.rb_yaml_laws.specs.InFlow as flows
use Rattle.rb_yaml_laws.specs.InFlow.{BeginsWord, IsWord, FlowScalar, IsColon}
use Rattle.rb_yaml_laws.proofs.Binds.{only_none}
use Rattle.rb_yaml_laws.proofs.QuoteFacts.{single_read, double_read, single_meant, double_meant}
use Rattle.rb_yaml_laws.proofs.BlankFacts.{Solid, begins_is, end_some, single_left, double_left}

abbrev pub text_of : List ℕ → List ℕ → FlowText
text_of said rest = record { text = said; good = true; rest = rest }

abbrev pub item_of : List ℕ → List ℕ → List ℕ → FlowItem
item_of key said rest = record { key = key; text = said; good = true; rest = rest }

-- ---- what is meant is read: scalars

abbrev pub word_of : Bool → ℕ → List ℕ → List ℕ
word_of key close text = flow_word key close text

abbrev pub rest_of : Bool → ℕ → List ℕ → List ℕ
rest_of key close text = drop (length (flow_word key close text)) text

abbrev is_lone : Bool → ℕ → List ℕ → Bool
is_lone key close text = key && is_lone_sign (word_of key close text) && begins 58 (rest_of key close text)

word_is : (key : Bool) (close : ℕ) (text : List ℕ) → (begins 91 text || begins 123 text) ≡ false → begins 34 text ≡ false → begins 39 text ≡ false →
    flow_scalar key close text ≡ cond (is_lone key close text) (Ok (text_of (word_of key close text) (rest_of key close text))) (plain_flow (word_of key close text) (rest_of key close text))
word_is key close text b c d = rw (b, c, d) refl

word_by : (t : Bool) (key : Bool) (word rest : List ℕ) → (key && is_lone_sign word && begins 58 rest) ≡ t → IsWord key word rest → cond t (Ok (text_of word rest)) (plain_flow word rest) ≡ Ok (text_of word rest)
word_by true key word rest e h = refl
word_by false key word rest e (inl h) =
    let lone = and_from (key && is_lone_sign word) (begins 58 rest) (and_from key (is_lone_sign word) h.0 h.1) h.2 in absurd (cc)
word_by false key word rest e (inr h) = rw (h.0, h.1) refl

word_read : (key : Bool) (close : ℕ) (text word rest : List ℕ) → BeginsWord close text → word ≡ flow_word key close text → rest ≡ drop (length word) text → IsWord key word rest →
    flow_scalar key close text ≡ Ok (text_of word rest)
word_read key close text word rest b w r h =
    let is_rest : rest ≡ rest_of key close text = r ∙ ap (λ xs. drop (length xs) text) w in
    let said = subst (λ xs. IsWord key (word_of key close text) xs) is_rest (subst (λ xs. IsWord key xs rest) w h) in
    word_is key close text b.3 b.4 b.5 ∙ word_by (is_lone key close text) key (word_of key close text) (rest_of key close text) refl said
    ∙ ap (λ xs. Ok (text_of xs (rest_of key close text))) (sym w) ∙ ap (λ xs. Ok (text_of word xs)) (sym is_rest)

pub scalar_read : {key : Bool} {close : ℕ} {text said rest : List ℕ} → FlowScalar key close text said rest → flow_scalar key close text ≡ Ok (text_of said rest)
scalar_read {key} {close} (flows.FlowScalar.single s) = rw (single_read s) refl
scalar_read {key} {close} (flows.FlowScalar.double d) = rw (double_read d) refl
scalar_read {key} {close} (flows.FlowScalar.plain {text = text} {word = word} {rest = rest} b w r h) = word_read key close text word rest b w r h

-- a closing sign is no other sign
abbrev pub IsClosing : ℕ → Type 0
IsClosing close = (nat_eq close 35 ≡ false) × (nat_eq 44 close ≡ false) × (nat_eq 34 close ≡ false) × (nat_eq 39 close ≡ false)

abbrev pub Stands : ℕ → List ℕ → Type 0
Stands close text = (is_nothing text ≡ false) × (begins 44 text ≡ false) × (begins close text ≡ false)

-- no separates and no closing sign stands there
abbrev pub IsFree : ℕ → List ℕ → Type 0
IsFree close text = Solid text × (begins 44 text ≡ false) × (begins close text ≡ false)

pub scalar_stands : {key : Bool} {close : ℕ} {text said rest : List ℕ} → FlowScalar key close text said rest → IsClosing close → Stands close text
scalar_stands (flows.FlowScalar.single s) c = (refl, refl, c.3)
scalar_stands (flows.FlowScalar.double d) c = (refl, refl, c.2)
scalar_stands (flows.FlowScalar.plain b w r h) c = (b.0, b.1, b.2)

-- ---- what is read is meant: scalars

word_some : (key : Bool) (close : ℕ) (text : List ℕ) → Solid text → 1 ≤ length (flow_word key close text)
word_some key close text s =
    let n = plain_len key close (is_blank s.first) s.more in
    let some : 1 ≤ length (flow_word key close (s.first ∷ s.more)) = end_some s.first (take n s.more) s.dark in
    subst (λ xs. 1 ≤ length (flow_word key close xs)) (sym s.is) some

pub word_left : (key : Bool) (close : ℕ) (text : List ℕ) → Solid text → length (rest_of key close text) < length text
word_left key close text s =
    let some = word_some key close text s in
    let n = length-drop (length (flow_word key close text)) text in
    let l : 1 ≤ length text = subst (λ xs. 1 ≤ length xs) (sym s.is) (omega arith) in
    omega (arith, some, n, l)

first_by : (c b : ℕ) (xs word ws : List ℕ) → 1 ≤ length word → b ∷ xs ≡ word ++ ws → begins c (b ∷ xs) ≡ begins c word
first_by c b xs [] ws h e = absurd (omega (arith, h))
first_by c b xs (w ∷ word) ws h e = let same : b ≡ w = cc in ap (λ x. nat_eq x c) same

-- a plain scalar begins as the text does
word_begins : (key : Bool) (close c : ℕ) (text : List ℕ) → Solid text → begins c text ≡ begins c (flow_word key close text)
word_begins key close c text s =
    let front = take (plain_len key close (is_blank s.first) s.more) s.more in
    let split = end_split (s.first ∷ front) in
    let same : begins c (s.first ∷ s.more) ≡ begins c (flow_word key close (s.first ∷ s.more)) =
    first_by c s.first front (flow_word key close (s.first ∷ s.more)) split.0 (end_some s.first front s.dark) split.1 in
    subst (λ xs. begins c xs ≡ begins c (flow_word key close xs)) (sym s.is) same

lone_at : (b : ℕ) → (nat_eq b 63 || nat_eq b 45) ≡ true → nat_eq b 35 ≡ false
lone_at b h = grind (arith, nat_tests)

lone_by : (word : List ℕ) → is_lone_sign word ≡ true → begins 35 word ≡ false
lone_by [] h = refl
lone_by (b ∷ []) h = lone_at b h
lone_by (b ∷ c ∷ bs) h = absurd (cc)

good_at : (word : List ℕ) → plain_is_good word ≡ true → begins 35 word ≡ false
good_at word h =
    let two = (and_parts (not (is_ill_start word) && not (begins 35 word || begins 124 word)) (not (list_any is_bracket word || has_colon word)) h).0 in
    (or_parts (begins 35 word) (begins 124 word) (not-true (begins 35 word || begins 124 word) ((and_parts (not (is_ill_start word)) (not (begins 35 word || begins 124 word)) two).1))).0

no_comment : (key : Bool) (word rest : List ℕ) → IsWord key word rest → begins 35 word ≡ false
no_comment key word rest (inl h) = lone_by word h.1
no_comment key word rest (inr h) = good_at word h.1

solid_nothing : (text : List ℕ) → Solid text → is_nothing text ≡ begins 35 text
solid_nothing text s = subst (λ xs. is_nothing xs ≡ begins 35 xs) (sym s.is) refl

word_stands : (key : Bool) (close : ℕ) (text rest : List ℕ) → Solid text → IsWord key (flow_word key close text) rest → is_nothing text ≡ false
word_stands key close text rest s h = solid_nothing text s ∙ word_begins key close 35 text s ∙ no_comment key (flow_word key close text) rest h

abbrev ScalarGoal : Bool → ℕ → List ℕ → FlowText → Type 0
ScalarGoal key close text v = FlowScalar key close text v.text v.rest

double_by : (o : Option (List ℕ)) (key : Bool) (close : ℕ) (text : List ℕ) (v : FlowText) → (double_from false text).rest ≡ o → flow_scalar key close (34 ∷ text) ≡ Ok v → v.good ≡ true → ScalarGoal key close (34 ∷ text) v
double_by None key close text v h e g = let never = rw h at e in absurd (cc)
double_by (Some rest) key close text v h e g =
    let q = double_from false text in
    let same : record { text = q.text; good = q.good; rest = rest } ≡ v = let k = rw h at e in cc in
    let good : q.good ≡ true = ap (λ x. x.good) same ∙ g in
    subst (ScalarGoal key close (34 ∷ text)) same (flows.FlowScalar.double (double_meant text rest good h))

single_by : (o : Option (List ℕ)) (key : Bool) (close : ℕ) (text : List ℕ) (v : FlowText) → (single_from false text).rest ≡ o → flow_scalar key close (39 ∷ text) ≡ Ok v → ScalarGoal key close (39 ∷ text) v
single_by None key close text v h e = let never = rw h at e in absurd (cc)
single_by (Some rest) key close text v h e =
    let q = single_from false text in
    let same : record { text = q.text; good = q.good; rest = rest } ≡ v = let k = rw h at e in cc in
    subst (ScalarGoal key close (39 ∷ text)) same (flows.FlowScalar.single (single_meant text rest h))

abbrev Others : List ℕ → Type 0
Others text = ((begins 91 text || begins 123 text) ≡ false) × (begins 34 text ≡ false) × (begins 39 text ≡ false)

plain_by : (t : Bool) (key : Bool) (close : ℕ) (text : List ℕ) (v : FlowText) → IsFree close text → Others text → is_lone key close text ≡ t →
    cond t (Ok (text_of (word_of key close text) (rest_of key close text))) (plain_flow (word_of key close text) (rest_of key close text)) ≡ Ok v → v.good ≡ true → ScalarGoal key close text v
plain_by true key close text v f b h e g =
    let word = word_of key close text in
    let rest = rest_of key close text in
    let same : text_of word rest ≡ v = cc in
    let two = (and_parts (key && is_lone_sign word) (begins 58 rest) h).0 in
    let is : IsWord key word rest = inl ((and_parts key (is_lone_sign word) two).0, (and_parts key (is_lone_sign word) two).1, (and_parts (key && is_lone_sign word) (begins 58 rest) h).1) in
    subst (ScalarGoal key close text) same (flows.FlowScalar.plain (word_stands key close text rest f.0 is, f.1, f.2, b.0, b.1, b.2) refl refl is)
plain_by false key close text v f b h e g =
    let word = word_of key close text in
    let rest = rest_of key close text in
    let only = only_none (λ o. unless {A = FlowText} o (record { text = word; good = plain_is_good word; rest = rest })) (excluded_start word) v (λ x k. cc) e in
    let same : record { text = word; good = plain_is_good word; rest = rest } ≡ v = let k = only.1 in cc in
    let good : plain_is_good word ≡ true = ap (λ x. x.good) same ∙ g in
    let is : IsWord key word rest = inr (only.0, good) in
    subst (ScalarGoal key close text) same (flows.FlowScalar.plain (word_stands key close text rest f.0 is, f.1, f.2, b.0, b.1, b.2) refl refl is)

scalar_by : (t₁ t₂ t₃ : Bool) (key : Bool) (close : ℕ) (text : List ℕ) (v : FlowText) → IsFree close text → (begins 91 text || begins 123 text) ≡ t₁ → begins 34 text ≡ t₂ → begins 39 text ≡ t₃ →
    flow_scalar key close text ≡ Ok v → v.good ≡ true → ScalarGoal key close text v
scalar_by true t₂ t₃ key close text v s h₁ h₂ h₃ e g = let never = rw h₁ at e in absurd (cc)
scalar_by false true t₃ key close text v s h₁ h₂ h₃ e g =
    let is = begins_is 34 text h₂ in
    subst (λ xs. ScalarGoal key close xs v) (sym is)
    (double_by (double_from false (drop 1 text)).rest key close (drop 1 text) v refl (subst (λ xs. flow_scalar key close xs ≡ Ok v) is e) g)
scalar_by false false true key close text v s h₁ h₂ h₃ e g =
    let is = begins_is 39 text h₃ in
    subst (λ xs. ScalarGoal key close xs v) (sym is)
    (single_by (single_from false (drop 1 text)).rest key close (drop 1 text) v refl (subst (λ xs. flow_scalar key close xs ≡ Ok v) is e))
scalar_by false false false key close text v s h₁ h₂ h₃ e g =
    plain_by (is_lone key close text) key close text v s (h₁, h₂, h₃) refl (sym (word_is key close text h₁ h₂ h₃) ∙ e) g

pub scalar_meant : (key : Bool) (close : ℕ) (text : List ℕ) (v : FlowText) → IsFree close text → flow_scalar key close text ≡ Ok v → v.good ≡ true → FlowScalar key close text v.text v.rest
scalar_meant key close text v s e g = scalar_by (begins 91 text || begins 123 text) (begins 34 text) (begins 39 text) key close text v s refl refl refl e g

-- ---- how much a scalar leaves

double_shrinks : (o : Option (List ℕ)) (key : Bool) (close : ℕ) (text : List ℕ) (v : FlowText) → (double_from false text).rest ≡ o → flow_scalar key close (34 ∷ text) ≡ Ok v → length v.rest < length (34 ∷ text)
double_shrinks None key close text v h e = let never = rw h at e in absurd (cc)
double_shrinks (Some rest) key close text v h e =
    let q = double_from false text in
    let same : record { text = q.text; good = q.good; rest = rest } ≡ v = let k = rw h at e in cc in
    let l = double_left false text rest h in
    subst (λ (x : FlowText). length x.rest < length (34 ∷ text)) same (omega (arith, l))

single_shrinks : (o : Option (List ℕ)) (key : Bool) (close : ℕ) (text : List ℕ) (v : FlowText) → (single_from false text).rest ≡ o → flow_scalar key close (39 ∷ text) ≡ Ok v → length v.rest < length (39 ∷ text)
single_shrinks None key close text v h e = let never = rw h at e in absurd (cc)
single_shrinks (Some rest) key close text v h e =
    let q = single_from false text in
    let same : record { text = q.text; good = q.good; rest = rest } ≡ v = let k = rw h at e in cc in
    let l = single_left false text rest h in
    subst (λ (x : FlowText). length x.rest < length (39 ∷ text)) same (omega (arith, l))

plain_rest : (t : Bool) (word rest : List ℕ) (v : FlowText) → cond t (Ok (text_of word rest)) (plain_flow word rest) ≡ Ok v → v.rest ≡ rest
plain_rest true word rest v e = let same : text_of word rest ≡ v = cc in sym (ap (λ x. x.rest) same)
plain_rest false word rest v e =
    let only = only_none (λ o. unless {A = FlowText} o (record { text = word; good = plain_is_good word; rest = rest })) (excluded_start word) v (λ x k. cc) e in
    let same : record { text = word; good = plain_is_good word; rest = rest } ≡ v = let k = only.1 in cc in
    sym (ap (λ x. x.rest) same)

shrinks_by : (t₁ t₂ t₃ : Bool) (key : Bool) (close : ℕ) (text : List ℕ) (v : FlowText) → Solid text → (begins 91 text || begins 123 text) ≡ t₁ → begins 34 text ≡ t₂ → begins 39 text ≡ t₃ →
    flow_scalar key close text ≡ Ok v → length v.rest < length text
shrinks_by true t₂ t₃ key close text v s h₁ h₂ h₃ e = let never = rw h₁ at e in absurd (cc)
shrinks_by false true t₃ key close text v s h₁ h₂ h₃ e =
    let is = begins_is 34 text h₂ in
    subst (λ xs. length v.rest < length xs) (sym is) (double_shrinks (double_from false (drop 1 text)).rest key close (drop 1 text) v refl (subst (λ xs. flow_scalar key close xs ≡ Ok v) is e))
shrinks_by false false true key close text v s h₁ h₂ h₃ e =
    let is = begins_is 39 text h₃ in
    subst (λ xs. length v.rest < length xs) (sym is) (single_shrinks (single_from false (drop 1 text)).rest key close (drop 1 text) v refl (subst (λ xs. flow_scalar key close xs ≡ Ok v) is e))
shrinks_by false false false key close text v s h₁ h₂ h₃ e =
    let left = word_left key close text s in
    let same = plain_rest (is_lone key close text) (word_of key close text) (rest_of key close text) v (sym (word_is key close text h₁ h₂ h₃) ∙ e) in
    omega (arith, left, ap length same)

pub scalar_shrinks : (key : Bool) (close : ℕ) (text : List ℕ) (v : FlowText) → Solid text → flow_scalar key close text ≡ Ok v → length v.rest < length text
scalar_shrinks key close text v s e = shrinks_by (begins 91 text || begins 123 text) (begins 34 text) (begins 39 text) key close text v s refl refl refl e
