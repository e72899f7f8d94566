-- The end of a literal's text: the reader and the relation agree.
use Rattle.std.proofs.Common.{◌≡◌, ◌≢◌, ◌⊎◌, inl, inr, ℕ, Bool, true, false, ◌&&◌, cond, nat_eq, List, [], ◌∷◌, ◌++◌, reverse, refl, sym, ap, subst, ◌∙◌, append_assoc, append-nil}
use Rattle.std.proofs.lemmas.List.{reverse-append, reverse-reverse}
use Rattle.std.proofs.Math.Bool.{and-false}
use Rattle.std.proofs.lemmas.Bool.{eqb-true, eqb-false, eq-eqb, ne_eqb}
use Rattle.std.specs.List.{AllByRecursion as Each}
use Rattle.rb_causes.specs.Texts.{is_empty}
use Rattle.rb_yaml.specs.Literals.{past_feeds, without_feeds, literal_text}
use Rattle.rb_yaml_laws.specs.Literal as lit
use Rattle.rb_yaml_laws.specs.Literal.{Ended}
use Rattle.rb_yaml_laws.proofs.RowFacts.{each_append}

abbrev IsFeed : ℕ → Type 0
IsFeed b = b ≡ 10

-- ---- what is meant is read

past_fed : (feeds xs : List ℕ) → Each IsFeed feeds → past_feeds (feeds ++ xs) ≡ past_feeds xs
past_fed [] xs h = refl
past_fed (b ∷ feeds) xs h = rw (eq-eqb b 10 h.0) (past_fed feeds xs h.1)

reverse_cons : (b : ℕ) (bs : List ℕ) → reverse (b ∷ bs) ≡ reverse bs ++ b ∷ []
reverse_cons b bs = reverse-append (b ∷ []) bs

each_reverse : (xs : List ℕ) → Each IsFeed xs → Each IsFeed (reverse xs)
each_reverse [] h = tt
each_reverse (x ∷ xs) h = subst (Each IsFeed) (sym (reverse_cons x xs)) (each_append IsFeed (reverse xs) (x ∷ []) (each_reverse xs h.1) (h.0, tt))

only_feeds : (feeds : List ℕ) → Each IsFeed feeds → without_feeds feeds ≡ []
only_feeds feeds h = ap reverse (ap past_feeds (sym (append-nil (reverse feeds))) ∙ past_fed (reverse feeds) [] (each_reverse feeds h))

kept_first : (b : ℕ) (bs : List ℕ) → b ≢ 10 → past_feeds (b ∷ bs) ≡ b ∷ bs
kept_first b bs n = rw (ne_eqb b 10 n) refl

turned : (front : List ℕ) (b : ℕ) (feeds : List ℕ) → reverse (front ++ b ∷ feeds) ≡ reverse feeds ++ (b ∷ reverse front)
turned front b feeds = reverse-append front (b ∷ feeds) ∙ ap (λ xs. xs ++ reverse front) (reverse_cons b feeds) ∙ append_assoc (reverse feeds) (b ∷ []) (reverse front)

without_end_feeds : (front : List ℕ) (b : ℕ) (feeds : List ℕ) → b ≢ 10 → Each IsFeed feeds → without_feeds (front ++ b ∷ feeds) ≡ front ++ b ∷ []
without_end_feeds front b feeds n h =
    ap reverse (ap past_feeds (turned front b feeds) ∙ past_fed (reverse feeds) (b ∷ reverse front) (each_reverse feeds h) ∙ kept_first b (reverse front) n)
    ∙ reverse_cons b (reverse front) ∙ ap (λ xs. xs ++ b ∷ []) (reverse-reverse front)

some_text : (front : List ℕ) (b : ℕ) (bs : List ℕ) → is_empty (front ++ b ∷ bs) ≡ false
some_text [] b bs = refl
some_text (x ∷ front) b bs = refl

and_true : (a : Bool) → (a && true) ≡ a
and_true true = refl
and_true false = refl

pub ended_read : {keep : Bool} {text said : List ℕ} → Ended keep text said → literal_text keep text ≡ said
ended_read {keep} (lit.Ended.empty {feeds = feeds} h) = rw (only_feeds feeds h, and-false keep) refl
ended_read {keep} (lit.Ended.text front b feeds n h) =
    rw (without_end_feeds front b feeds n h, some_text front b [], and_true keep) (append_assoc front (b ∷ []) (cond keep (10 ∷ []) []))

-- ---- what is read is meant

-- a text as its line feeds at the front, and what stands behind them
pub record Fed (text : List ℕ) : Type 0 where
  pub feeds : List ℕ
  pub rest : List ℕ
  pub each : Each IsFeed feeds
  pub all : text ≡ feeds ++ rest
  pub first : (rest ≡ []) ⊎ ((b : ℕ) × (bs : List ℕ) × (rest ≡ b ∷ bs) × (b ≢ 10))

fed_by : (t : Bool) (b : ℕ) (bs : List ℕ) → nat_eq b 10 ≡ t → Fed bs → Fed (b ∷ bs)
fed_by true b bs h m = record { feeds = b ∷ m.feeds; rest = m.rest; each = (eqb-true b 10 h, m.each); all = ap (λ xs. b ∷ xs) m.all; first = m.first }
fed_by false b bs h m = record { feeds = []; rest = b ∷ bs; each = tt; all = refl; first = inr (b, bs, refl, eqb-false b 10 h) }

fed : (text : List ℕ) → Fed text
fed [] = record { feeds = []; rest = []; each = tt; all = refl; first = inl refl }
fed (b ∷ bs) = fed_by (nat_eq b 10) b bs refl (fed bs)

ended_as : (keep : Bool) (text said : List ℕ) → Ended keep text said → Ended keep text (literal_text keep text)
ended_as keep text said e = subst (Ended keep text) (sym (ended_read e)) e

ended_by : (keep : Bool) (text feeds rest : List ℕ) → Each IsFeed feeds → text ≡ reverse (feeds ++ rest) → (rest ≡ []) ⊎ ((b : ℕ) × (bs : List ℕ) × (rest ≡ b ∷ bs) × (b ≢ 10)) → Ended keep text (literal_text keep text)
ended_by keep text feeds rest h e (inl none) =
    let is : text ≡ reverse feeds = e ∙ ap reverse (ap (λ xs. feeds ++ xs) none ∙ append-nil feeds) in
    ended_as keep text [] (subst (λ xs. Ended keep xs []) (sym is) (lit.Ended.empty (each_reverse feeds h)))
ended_by keep text feeds rest h e (inr some) =
    let b = some.0 in
    let bs = some.1 in
    let is : text ≡ reverse bs ++ b ∷ reverse feeds =
    e ∙ ap reverse (ap (λ xs. feeds ++ xs) some.2) ∙ reverse-append feeds (b ∷ bs) ∙ ap (λ xs. xs ++ reverse feeds) (reverse_cons b bs) ∙ append_assoc (reverse bs) (b ∷ []) (reverse feeds) in
    let said = reverse bs ++ b ∷ (cond keep (10 ∷ []) []) in
    ended_as keep text said (subst (λ xs. Ended keep xs said) (sym is) (lit.Ended.text (reverse bs) b (reverse feeds) some.3 (each_reverse feeds h)))

pub ended_meant : (keep : Bool) (text : List ℕ) → Ended keep text (literal_text keep text)
ended_meant keep text =
    let m = fed (reverse text) in ended_by keep text m.feeds m.rest m.each (sym (reverse-reverse text) ∙ ap reverse m.all) m.first
