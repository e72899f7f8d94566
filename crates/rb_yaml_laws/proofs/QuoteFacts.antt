-- Texts in quotes: the reader and the relation agree.
use Rattle.std.proofs.Common.{◌≡◌, ◌≢◌, ℕ, Bool, true, false, cond, nat_eq, List, [], ◌∷◌, Option, Some, None, refl, sym, ap, subst, ◌∙◌}
use Rattle.std.proofs.lemmas.Bool.{eqb-true, eqb-false, ne_eqb}
use Rattle.rb_yaml.specs.Rows.{begins}
use Rattle.rb_yaml.specs.Quotes.{Quoted, single_from, double_from, closed, onto, escaped, onto_escaped}
use Rattle.rb_yaml_laws.specs.Quotes as quotes
use Rattle.rb_yaml_laws.specs.Quotes.{Single, SingleOpen, Double}

abbrev pub quoted : List ℕ → Option (List ℕ) → Quoted
quoted said rest = record { text = said; good = true; rest = rest }

-- ---- single quotes

closed_at : (rest : List ℕ) → begins 39 rest ≡ false → single_from true rest ≡ closed rest
closed_at [] h = refl
closed_at (b ∷ bs) h = ap (λ t. cond t (onto 39 (single_from false bs)) (closed (b ∷ bs))) h

kept_at : (b : ℕ) (bs : List ℕ) → b ≢ 39 → single_from false (b ∷ bs) ≡ onto b (single_from false bs)
kept_at b bs h = ap (λ t. cond t (single_from true bs) (onto b (single_from false bs))) (ne_eqb b 39 h)

pub single_read : {text said rest : List ℕ} → Single text said rest → single_from false text ≡ quoted said (Some rest)
single_read (quotes.Single.closing {rest = rest} h) = closed_at rest h
single_read (quotes.Single.quote s) = ap (onto 39) (single_read s)
single_read (quotes.Single.other {b = b} {text = text} h s) = kept_at b text h ∙ ap (onto b) (single_read s)

pub open_read : {text said : List ℕ} → SingleOpen text said → single_from false text ≡ quoted said None
open_read quotes.SingleOpen.at_end = refl
open_read (quotes.SingleOpen.quote s) = ap (onto 39) (open_read s)
open_read (quotes.SingleOpen.other {b = b} {text = text} h s) = kept_at b text h ∙ ap (onto b) (open_read s)

as_quote : (P : List ℕ → Type 0) (b : ℕ) (bs : List ℕ) → nat_eq b 39 ≡ true → P (39 ∷ bs) → P (b ∷ bs)
as_quote P b bs h p = subst (λ x. P (x ∷ bs)) (sym (eqb-true b 39 h)) p

single_first : (t : Bool) (b : ℕ) (bs rest : List ℕ) → nat_eq b 39 ≡ t →
    ((single_from true bs).rest ≡ Some rest → Single (39 ∷ bs) (single_from true bs).text rest) →
    ((single_from false bs).rest ≡ Some rest → Single bs (single_from false bs).text rest) →
    (cond t (single_from true bs) (onto b (single_from false bs))).rest ≡ Some rest →
    Single (b ∷ bs) (cond t (single_from true bs) (onto b (single_from false bs))).text rest
single_first true b bs rest h quote other e = as_quote (λ xs. Single xs (single_from true bs).text rest) b bs h (quote e)
single_first false b bs rest h quote other e = quotes.Single.other (eqb-false b 39 h) (other e)

single_second : (t : Bool) (b : ℕ) (bs rest : List ℕ) → nat_eq b 39 ≡ t →
    ((single_from false bs).rest ≡ Some rest → Single bs (single_from false bs).text rest) →
    (cond t (onto 39 (single_from false bs)) (closed (b ∷ bs))).rest ≡ Some rest →
    Single (39 ∷ b ∷ bs) (cond t (onto 39 (single_from false bs)) (closed (b ∷ bs))).text rest
single_second true b bs rest h quote e = as_quote (λ xs. Single (39 ∷ xs) (39 ∷ (single_from false bs).text) rest) b bs h (quotes.Single.quote (quote e))
single_second false b bs rest h quote e = subst (λ xs. Single (39 ∷ b ∷ bs) [] xs) (cc) (quotes.Single.closing {rest = b ∷ bs} h)

mutual
  pub single_meant : (text rest : List ℕ) → (single_from false text).rest ≡ Some rest → Single text (single_from false text).text rest
  single_meant [] rest e = absurd (cc)
  single_meant (b ∷ bs) rest e = single_first (nat_eq b 39) b bs rest refl (single_behind bs rest) (single_meant bs rest) e

  single_behind : (text rest : List ℕ) → (single_from true text).rest ≡ Some rest → Single (39 ∷ text) (single_from true text).text rest
  single_behind [] rest e = subst (λ xs. Single (39 ∷ []) [] xs) (cc) (quotes.Single.closing {rest = []} refl)
  single_behind (b ∷ bs) rest e = single_second (nat_eq b 39) b bs rest refl (single_meant bs rest) e

open_first : (t : Bool) (b : ℕ) (bs : List ℕ) → nat_eq b 39 ≡ t →
    ((single_from true bs).rest ≡ None → SingleOpen (39 ∷ bs) (single_from true bs).text) →
    ((single_from false bs).rest ≡ None → SingleOpen bs (single_from false bs).text) →
    (cond t (single_from true bs) (onto b (single_from false bs))).rest ≡ None →
    SingleOpen (b ∷ bs) (cond t (single_from true bs) (onto b (single_from false bs))).text
open_first true b bs h quote other e = as_quote (λ xs. SingleOpen xs (single_from true bs).text) b bs h (quote e)
open_first false b bs h quote other e = quotes.SingleOpen.other (eqb-false b 39 h) (other e)

open_second : (t : Bool) (b : ℕ) (bs : List ℕ) → nat_eq b 39 ≡ t →
    ((single_from false bs).rest ≡ None → SingleOpen bs (single_from false bs).text) →
    (cond t (onto 39 (single_from false bs)) (closed (b ∷ bs))).rest ≡ None →
    SingleOpen (39 ∷ b ∷ bs) (cond t (onto 39 (single_from false bs)) (closed (b ∷ bs))).text
open_second true b bs h quote e = as_quote (λ xs. SingleOpen (39 ∷ xs) (39 ∷ (single_from false bs).text)) b bs h (quotes.SingleOpen.quote (quote e))
open_second false b bs h quote e = absurd (cc)

mutual
  pub open_meant : (text : List ℕ) → (single_from false text).rest ≡ None → SingleOpen text (single_from false text).text
  open_meant [] e = quotes.SingleOpen.at_end
  open_meant (b ∷ bs) e = open_first (nat_eq b 39) b bs refl (open_behind bs) (open_meant bs) e

  open_behind : (text : List ℕ) → (single_from true text).rest ≡ None → SingleOpen (39 ∷ text) (single_from true text).text
  open_behind [] e = absurd (cc)
  open_behind (b ∷ bs) e = open_second (nat_eq b 39) b bs refl (open_meant bs) e

-- ---- double quotes

plain_at : (b : ℕ) (bs : List ℕ) → b ≢ 34 → b ≢ 92 → double_from false (b ∷ bs) ≡ onto b (double_from false bs)
plain_at b bs h k =
    ap (λ t. cond t (closed bs) (cond (nat_eq b 92) (double_from true bs) (onto b (double_from false bs)))) (ne_eqb b 34 h)
    ∙ ap (λ t. cond t (double_from true bs) (onto b (double_from false bs))) (ne_eqb b 92 k)

pub double_read : {text said rest : List ℕ} → Double text said rest → double_from false text ≡ quoted said (Some rest)
double_read quotes.Double.closing = refl
double_read (quotes.Double.escape {b = b} {c = c} {text = text} h d) =
    ap (λ o. onto_escaped b o (double_from false text)) h ∙ ap (onto c) (double_read d)
double_read (quotes.Double.other {b = b} {text = text} h k d) = plain_at b text h k ∙ ap (onto b) (double_read d)

abbrev DoubleGoal : List ℕ → Quoted → List ℕ → Type 0
DoubleGoal text q rest = q.good ≡ true → q.rest ≡ Some rest → Double text q.text rest

escaped_to : (o : Option ℕ) (b : ℕ) (bs rest : List ℕ) → escaped b ≡ o → DoubleGoal bs (double_from false bs) rest →
    DoubleGoal (92 ∷ b ∷ bs) (onto_escaped b o (double_from false bs)) rest
escaped_to None b bs rest h more g e = absurd (cc)
escaped_to (Some c) b bs rest h more g e = quotes.Double.escape h (more g e)

closing_to : (b : ℕ) (bs rest : List ℕ) → b ≡ 34 → DoubleGoal (b ∷ bs) (closed bs) rest
closing_to b bs rest h g e = subst (λ x. Double (x ∷ bs) [] rest) (sym h) (subst (λ xs. Double (34 ∷ bs) [] xs) (cc) (quotes.Double.closing {rest = bs}))

double_second : (s : Bool) (b : ℕ) (bs rest : List ℕ) → b ≢ 34 → nat_eq b 92 ≡ s → DoubleGoal bs (double_from false bs) rest →
    DoubleGoal (92 ∷ bs) (double_from true bs) rest →
    DoubleGoal (b ∷ bs) (cond s (double_from true bs) (onto b (double_from false bs))) rest
double_second true b bs rest n h more back g e = subst (λ x. Double (x ∷ bs) (double_from true bs).text rest) (sym (eqb-true b 92 h)) (back g e)
double_second false b bs rest n h more back g e = quotes.Double.other n (eqb-false b 92 h) (more g e)

double_first : (t : Bool) (b : ℕ) (bs rest : List ℕ) → nat_eq b 34 ≡ t → DoubleGoal bs (double_from false bs) rest →
    DoubleGoal (92 ∷ bs) (double_from true bs) rest →
    DoubleGoal (b ∷ bs) (cond t (closed bs) (cond (nat_eq b 92) (double_from true bs) (onto b (double_from false bs)))) rest
double_first true b bs rest h more back g e = closing_to b bs rest (eqb-true b 34 h) g e
double_first false b bs rest h more back g e = double_second (nat_eq b 92) b bs rest (eqb-false b 34 h) refl more back g e

mutual
  pub double_meant : (text rest : List ℕ) → DoubleGoal text (double_from false text) rest
  double_meant [] rest g e = absurd (cc)
  double_meant (b ∷ bs) rest g e = double_first (nat_eq b 34) b bs rest refl (double_meant bs rest) (double_behind bs rest) g e

  double_behind : (text rest : List ℕ) → DoubleGoal (92 ∷ text) (double_from true text) rest
  double_behind [] rest g e = absurd (cc)
  double_behind (b ∷ bs) rest g e = escaped_to (escaped b) b bs rest refl (double_meant bs rest) g e
