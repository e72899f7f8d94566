-- How reading values stops, one list behind the other.
use Rattle.std.proofs.Common.{◌≡◌, ◌⊎◌, ◌<◌, ◌+◌, ℕ, Bool, true, false, not, cond, nat_eq, List, [], ◌∷◌, ◌++◌, length, map, drop, get_or, refl, sym, ap, subst, ◌∙◌, append_assoc, inl, inr, arith, Result, Ok, Err, IfErr}
use Rattle.std.specs.Result.{IsErrAnd}
use Rattle.std.proofs.lemmas.List.{append-nil}
use Rattle.std.proofs.lemmas.Bool.{eqb-true, and_parts}
use Rattle.rb_causes.specs.Texts.{is_empty, pieces, onto_first}
use Rattle.rb_causes.proofs.Lists.{drop_item}
use Rattle.rb_text.specs.Causes.{IsCause}
use Rattle.rb_text.specs.Matching.{IsPatternText}
use Rattle.rb_text.specs.Values.{is_plain, value_of}
use Rattle.rb_text.specs.declared.pattern_err.PatternErr.{PatternErr}
use Rattle.rb_text.specs.declared.pattern_err.PatternErr.TheVariants as refusal
use Rattle.rb_text.specs.declared.value.Value.{Value}
use Rattle.rb_text.specs.declared.value.Value.TheVariants.{Plain, Pattern}
use Rattle.rb_node.specs.declared.filter_err.FilterErr.{FilterErr}
use Rattle.rb_node.specs.declared.filter_err.FilterErr.TheVariants.{EmptyValue, NoMemory}
use Rattle.rb_node.specs.Values.{is_filled, are_filled, IsRead, AreRead, IsValueFault, IsFirstFaultOf, told_as, onto_piece, in_order}

pub stops_memory : (vs : List Value) → IsFirstFaultOf vs NoMemory
stops_memory [] = refl
stops_memory (v ∷ vs) = inl tt

pub stops_memory_at : (vs : List Value) (e : FilterErr) → e ≡ NoMemory → IsFirstFaultOf vs e
stops_memory_at vs e is = subst (IsFirstFaultOf vs) (sym is) (stops_memory vs)

-- a list of one value
pub stops_one : (v : Value) (e : FilterErr) → IsValueFault v e → IsFirstFaultOf (v ∷ []) e
stops_one v e h = inl h

stops_or_front : (v : Value) (vs ws : List Value) (e : FilterErr)
    → (IsFirstFaultOf vs e → IsFirstFaultOf (vs ++ ws) e) → IsValueFault v e
    ⊎ ((is_filled v ≡ true) × IsRead v × IsFirstFaultOf vs e) → IsValueFault v e
    ⊎ ((is_filled v ≡ true) × IsRead v × IsFirstFaultOf (vs ++ ws) e)
stops_or_front v vs ws e f (inl h) = inl h
stops_or_front v vs ws e f (inr h) = inr (h.0, h.1, f h.2)

-- in the front of a list
pub stops_front : (vs ws : List Value) (e : FilterErr) → IsFirstFaultOf vs e
    → IsFirstFaultOf (vs ++ ws) e
stops_front [] ws e h = stops_memory_at ws e h
stops_front (v ∷ vs) ws e h = stops_or_front v vs ws e (stops_front vs ws e) h

-- behind a front that is filled and read
pub stops_behind : (vs ws : List Value) (e : FilterErr) → are_filled vs ≡ true → AreRead vs
    → IsFirstFaultOf ws e → IsFirstFaultOf (vs ++ ws) e
stops_behind [] ws e h r s = s
stops_behind (v ∷ vs) ws e h r s = let parts = and_parts (is_filled v) (are_filled vs) h in
    inr (parts.0, r.0, stops_behind vs ws e parts.1 r.1 s)

pub read_both : (vs ws : List Value) → AreRead vs → AreRead ws → AreRead (vs ++ ws)
read_both [] ws r q = q
read_both (v ∷ vs) ws r q = (r.0, read_both vs ws r.1 q)

read_by : (p : Bool) (text : List ℕ) → (p ≡ false → IsPatternText text)
    → IsRead (cond p (Plain text) (Pattern text))
read_by true text h = tt
read_by false text h = h refl

-- a value that is read
pub value_read : (text : List ℕ) → (is_plain text ≡ false → IsPatternText text)
    → IsRead (value_of text)
value_read text h = read_by (is_plain text) text h

pub filled_both : (vs ws : List Value) → are_filled vs ≡ true → are_filled ws ≡ true
    → are_filled (vs ++ ws) ≡ true
filled_both [] ws h g = g
filled_both (v ∷ vs) ws h g = let parts = and_parts (is_filled v) (are_filled vs) h in
    simp (parts.0, filled_both vs ws parts.1 g)

-- a value that is read
none_filled : (text : List ℕ) → nat_eq (length text) 0 ≡ true → is_filled (value_of text) ≡ false
none_filled [] h = refl
none_filled (b ∷ bs) h = let none : length (b ∷ bs) ≡ 0 = eqb-true (length (b ∷ bs)) 0 h in
    absurd (omega (arith, none))

pub empty_faults : (text : List ℕ) → nat_eq (length text) 0 ≡ true
    → IsValueFault (value_of text) EmptyValue
empty_faults text h = none_filled text h

some_text : (text : List ℕ) → nat_eq (length text) 0 ≡ false → not (is_empty text) ≡ true
some_text [] h = let never : ⊥ = cc in absurd never
some_text (b ∷ bs) h = refl

filled_by : (p : Bool) (text : List ℕ) → not (is_empty text) ≡ true
    → is_filled (cond p (Plain text) (Pattern text)) ≡ true
filled_by true text h = h
filled_by false text h = refl

pub value_filled : (text : List ℕ) → nat_eq (length text) 0 ≡ false → is_filled (value_of text)
    ≡ true
value_filled text h = filled_by (is_plain text) text (some_text text h)

-- a value that is refused
pub pattern_faults : (text : List ℕ) (e : PatternErr) → IsCause text e
    → IsValueFault (Pattern text) (told_as e)
pattern_faults text refusal.NoMemory h = tt
pattern_faults text refusal.BadPattern h = (h, λ e. cc)
pattern_faults text refusal.TooLong h = (h, λ e. cc)
pattern_faults text refusal.TooBig h = (h, λ e. cc)

faults_by : (p : Bool) (text : List ℕ) (e : PatternErr) → (p ≡ true → e ≡ refusal.NoMemory)
    → (p ≡ false → IsCause text e) → IsValueFault (cond p (Plain text) (Pattern text)) (told_as e)
faults_by true text e plain cause =
    subst (λ x. IsValueFault (Plain text) (told_as x)) (sym (plain refl)) tt
faults_by false text e plain cause = pattern_faults text e (cause refl)

pub value_faults : (text : List ℕ) (e : PatternErr) (f : FilterErr)
    → (is_plain text ≡ true → e ≡ refusal.NoMemory) → (is_plain text ≡ false → IsCause text e) → f
    ≡ told_as e → IsValueFault (value_of text) f
value_faults text e f plain cause is =
    subst (IsValueFault (value_of text)) (sym is) (faults_by (is_plain text) text e plain cause)

pub built_faults : (text : List ℕ) (e : PatternErr) (f : FilterErr) → IsCause text e → f ≡ told_as e
    → IsValueFault (Pattern text) f
built_faults text e f cause is =
    subst (IsValueFault (Pattern text)) (sym is) (pattern_faults text e cause)

-- pieces
pub piece_more : (p : List ℕ) (c : ℕ) (qs : List (List ℕ)) → onto_piece (p ++ c ∷ []) qs
    ≡ onto_piece p (onto_first c qs)
piece_more p c [] = refl
piece_more p c (x ∷ xs) = ap (λ y. y ∷ xs) (append_assoc p (c ∷ []) x)

onto_first_none : (c : ℕ) (ps : List (List ℕ)) → onto_piece [] (onto_first c ps) ≡ onto_first c ps
onto_first_none c [] = refl
onto_first_none c (p ∷ ps) = refl

pieces_none_by : (b : Bool) (c : ℕ) (ps : List (List ℕ))
    → onto_piece [] (cond b ([] ∷ ps) (onto_first c ps)) ≡ cond b ([] ∷ ps) (onto_first c ps)
pieces_none_by true c ps = refl
pieces_none_by false c ps = onto_first_none c ps

-- there is a first piece
pub pieces_none : (f : ℕ → Bool) (cs : List ℕ) → onto_piece [] (pieces f cs) ≡ pieces f cs
pieces_none f [] = refl
pieces_none f (c ∷ cs) = pieces_none_by (f c) c (pieces f cs)

cut_by : (b : Bool) (done : List (List ℕ)) (p : List ℕ) (c : ℕ) (ps : List (List ℕ))
    → onto_piece [] ps ≡ ps →
    cond b (done ++ p ∷ []) done ++ onto_piece (cond b [] (p ++ c ∷ [])) ps ≡ done
    ++ onto_piece p (cond b ([] ∷ ps) (onto_first c ps))
cut_by true done p c ps some =
    append_assoc done (p ∷ []) (onto_piece [] ps) ∙ ap (λ x. done ++ p ∷ x) some
    ∙ ap (λ x. done ++ x ∷ ps) (sym (append-nil p))
cut_by false done p c ps some = ap (λ x. done ++ x) (piece_more p c ps)

-- one character of the text
pub cut_at : (done done' : List (List ℕ)) (p p' : List ℕ) (f : ℕ → Bool) (cs : List ℕ) (i c : ℕ)
    (whole : List (List ℕ)) →
    i < length cs → c ≡ get_or cs i c → done' ≡ cond (f c) (done ++ p ∷ []) done → p'
    ≡ cond (f c) [] (p ++ c ∷ []) →
    done ++ onto_piece p (pieces f (drop i cs)) ≡ whole → done'
    ++ onto_piece p' (pieces f (drop (i + 1) cs)) ≡ whole
cut_at done done' p p' f cs i c whole below is e g inv =
    rw (e, g)
    (cut_by (f c) done p c (pieces f (drop (i + 1) cs)) (pieces_none f (drop (i + 1) cs))
    ∙ ap (λ rest. done ++ onto_piece p (pieces f rest)) (sym (drop_item cs i c below is)) ∙ inv)

pub cut_start : (done : List (List ℕ)) (p : List ℕ) (f : ℕ → Bool) (cs : List ℕ) → done ≡ [] → p
    ≡ [] → done ++ onto_piece p (pieces f cs) ≡ pieces f cs
cut_start done p f cs e g = rw (e, g) (pieces_none f cs)

-- one item of a list whose items each give values; y is that item
pub made_more : {A B : Type 0} (F : A → B) (all new : List B) (v : B) (xs : List A) (i : ℕ)
    (x y : A) (whole : List B) →
    i < length xs → x ≡ get_or xs i x → y ≡ x → v ≡ F y → new ≡ all ++ v ∷ [] → all
    ++ map F (drop i xs) ≡ whole → new ++ map F (drop (i + 1) xs) ≡ whole
made_more F all new v xs i x y whole below is same e g inv =
    ap (λ l. l ++ map F (drop (i + 1) xs)) g ∙ append_assoc all (v ∷ []) (map F (drop (i + 1) xs))
    ∙ ap (λ w. all ++ w ∷ map F (drop (i + 1) xs)) (e ∙ ap F same)
    ∙ ap (λ l. all ++ map F l) (sym (drop_item xs i x below is)) ∙ inv

pub rest_filled : {A : Type 0} (F : A → List Value) (xs : List A) (i : ℕ) (x y : A)
    (whole : List Value) →
    i < length xs → x ≡ get_or xs i x → y ≡ x → are_filled (F y) ≡ true →
    (are_filled (in_order (map F (drop i xs))) ≡ true → are_filled whole ≡ true) →
    are_filled (in_order (map F (drop (i + 1) xs))) ≡ true → are_filled whole ≡ true
rest_filled F xs i x y whole below is same h inv rest =
    inv (ap (λ l. are_filled (in_order (map F l))) (drop_item xs i x below is)
    ∙ filled_both (F x) (in_order (map F (drop (i + 1) xs)))
    (ap (λ z. are_filled (F z)) (sym same) ∙ h) rest)

pub rest_read : {A : Type 0} (F : A → List Value) (xs : List A) (i : ℕ) (x y : A)
    (whole : List Value) →
    i < length xs → x ≡ get_or xs i x → y ≡ x → AreRead (F y) →
    (AreRead (in_order (map F (drop i xs))) → AreRead whole) →
    AreRead (in_order (map F (drop (i + 1) xs))) → AreRead whole
rest_read F xs i x y whole below is same r inv rest =
    inv (subst (λ l. AreRead (in_order (map F l))) (sym (drop_item xs i x below is))
    (read_both (F x) (in_order (map F (drop (i + 1) xs))) (subst (λ z. AreRead (F z)) same r) rest))

pub rest_stops : {A : Type 0} (F : A → List Value) (xs : List A) (i : ℕ) (x y : A)
    (whole : List Value) →
    i < length xs → x ≡ get_or xs i x → y ≡ x → are_filled (F y) ≡ true → AreRead (F y) →
    ((e : FilterErr) → IsFirstFaultOf (in_order (map F (drop i xs))) e → IsFirstFaultOf whole e) →
    (e : FilterErr) → IsFirstFaultOf (in_order (map F (drop (i + 1) xs))) e → IsFirstFaultOf whole e
rest_stops F xs i x y whole below is same h r inv e rest =
    inv e (subst (λ l. IsFirstFaultOf (in_order (map F l)) e) (sym (drop_item xs i x below is))
    (stops_behind (F x) (in_order (map F (drop (i + 1) xs))) e
    (ap (λ z. are_filled (F z)) (sym same) ∙ h) (subst (λ z. AreRead (F z)) same r) rest))

pub here_stops : {A : Type 0} (F : A → List Value) (xs : List A) (i : ℕ) (x y : A)
    (whole : List Value) →
    i < length xs → x ≡ get_or xs i x → y ≡ x →
    ((e : FilterErr) → IsFirstFaultOf (in_order (map F (drop i xs))) e → IsFirstFaultOf whole e) →
    (e : FilterErr) → IsFirstFaultOf (F y) e → IsFirstFaultOf whole e
here_stops F xs i x y whole below is same inv e h =
    inv e (subst (λ l. IsFirstFaultOf (in_order (map F l)) e) (sym (drop_item xs i x below is))
    (stops_front (F x) (in_order (map F (drop (i + 1) xs))) e
    (subst (λ z. IsFirstFaultOf (F z) e) same h)))

-- a fault that is handed on, and want of memory
pub handed_on : {T : Type 0} (r : Result T FilterErr) (f : FilterErr) (vs : List Value)
    → IsErrAnd r (λ e. e ≡ f) → IsFirstFaultOf vs f → IfErr r (IsFirstFaultOf vs)
handed_on (Ok x) f vs h s = tt
handed_on (Err e) f vs h s = subst (IsFirstFaultOf vs) (sym h) s

pub wanting : {T : Type 0} (r : Result T FilterErr) (vs : List Value)
    → IsErrAnd r (λ e. e ≡ NoMemory) → IfErr r (IsFirstFaultOf vs)
wanting (Ok x) vs h = tt
wanting (Err e) vs h = stops_memory_at vs e h
