-- How the reading of patterns ends, one list behind the other.
use Rattle.std.proofs.Common.{◌≡◌, ◌⊎◌, ℕ, Bool, true, false, cond, List, [], ◌∷◌, ◌++◌, inl, inr, refl, sym, subst, Result, Ok, Err, OnOk, IfErr}
use Rattle.std.specs.Result.{IsErrAnd}
use Rattle.rb_text.specs.Causes.{IsCause}
use Rattle.rb_text.specs.Matching.{IsPatternText}
use Rattle.rb_text.specs.Values.{is_plain, value_of}
use Rattle.rb_text.specs.declared.pattern_err.PatternErr.{PatternErr}
use Rattle.rb_text.specs.declared.pattern_err.PatternErr.TheVariants as refusal
use Rattle.rb_text.specs.declared.value.Value.{Value}
use Rattle.rb_text.specs.declared.value.Value.TheVariants.{Plain, Pattern}
use Rattle.rb_acl_doc.specs.Patterns.{ArePatterns, HasRefused, EndsOn, value_patterns}

pub read_both : (xs ys : List (List ℕ)) → ArePatterns xs → ArePatterns ys → ArePatterns (xs ++ ys)
read_both [] ys r q = q
read_both (x ∷ xs) ys r q = (r.0, read_both xs ys r.1 q)

pub refused_front : (e : PatternErr) (xs ys : List (List ℕ)) → HasRefused e xs
    → HasRefused e (xs ++ ys)
refused_front e [] ys h = absurd h
refused_front e (x ∷ xs) ys (inl h) = inl h
refused_front e (x ∷ xs) ys (inr h) = inr (refused_front e xs ys h)

pub refused_behind : (e : PatternErr) (xs ys : List (List ℕ)) → HasRefused e ys
    → HasRefused e (xs ++ ys)
refused_behind e [] ys h = h
refused_behind e (x ∷ xs) ys h = inr (refused_behind e xs ys h)

abbrev pub Ended : PatternErr → List (List ℕ) → Type 0
Ended e patterns = (e ≡ refusal.NoMemory) ⊎ HasRefused e patterns

-- all are read where those that are left are, and one is refused where one of those is
pub record Kept (left whole : List (List ℕ)) : Type 0 where
  pub read : ArePatterns left → ArePatterns whole
  pub refused : (e : PatternErr) → HasRefused e left → HasRefused e whole

pub kept_all : (whole : List (List ℕ)) → Kept whole whole
kept_all whole = record { read = λ r. r; refused = λ e h. h }

pub kept_on : (now rest left whole : List (List ℕ)) → left ≡ now ++ rest → ArePatterns now
    → Kept left whole → Kept rest whole
kept_on now rest left whole split read kept = record {
  read = λ r. kept.read (subst ArePatterns (sym split) (read_both now rest read r));
  refused = λ e h.
      kept.refused e (subst (HasRefused e) (sym split) (refused_behind e now rest h));
}

pub ended_here : (now rest left whole : List (List ℕ)) (e : PatternErr) → left ≡ now ++ rest
    → Kept left whole → Ended e now → Ended e whole
ended_here now rest left whole e split kept (inl h) = inl h
ended_here now rest left whole e split kept (inr h) =
    inr (kept.refused e (subst (HasRefused e) (sym split) (refused_front e now rest h)))

pub kept_over : (left whole : List (List ℕ)) → left ≡ [] → Kept left whole → ArePatterns whole
kept_over left whole none kept = kept.read (subst ArePatterns (sym none) tt)

-- a refusal that is handed on, and want of memory
pub handed_on : {T : Type 0} (r : Result T PatternErr) (e : PatternErr) (whole : List (List ℕ))
    → IsErrAnd r (λ x. x ≡ e) → Ended e whole → EndsOn whole r
handed_on (Ok x) e whole h s = absurd h
handed_on (Err x) e whole h s = subst (λ y. Ended y whole) (sym h) s

pub wanting : {T : Type 0} (r : Result T PatternErr) (whole : List (List ℕ))
    → IsErrAnd r (λ x. x ≡ refusal.NoMemory) → EndsOn whole r
wanting (Ok x) whole h = absurd h
wanting (Err x) whole h = inl h

-- one text that is refused, or was read
pub refused_as : (text : List ℕ) (e : PatternErr) → IsCause text e → Ended e (text ∷ [])
refused_as text refusal.NoMemory h = inl refl
refused_as text refusal.BadPattern h = inr (inl (h, λ e. cc))
refused_as text refusal.TooLong h = inr (inl (h, λ e. cc))
refused_as text refusal.TooBig h = inr (inl (h, λ e. cc))

read_by : (plain : Bool) (text : List ℕ) → (plain ≡ false → IsPatternText text)
    → ArePatterns (value_patterns (cond plain (Plain text) (Pattern text)))
read_by true text h = tt
read_by false text h = (h refl, tt)

ended_by : (plain : Bool) (text : List ℕ) (e : PatternErr) → (plain ≡ true → e ≡ refusal.NoMemory)
    → (plain ≡ false → IsCause text e)
    → Ended e (value_patterns (cond plain (Plain text) (Pattern text)))
ended_by true text e memory cause = inl (memory refl)
ended_by false text e memory cause = refused_as text e (cause refl)

-- a value
pub value_ends : (text : List ℕ) (r : Result Value PatternErr) →
    OnOk r (is_plain text ≡ false → IsPatternText text)
    → IfErr r (λ e. is_plain text ≡ true → e ≡ refusal.NoMemory)
    → IfErr r (λ e. is_plain text ≡ false → IsCause text e)
    → EndsOn (value_patterns (value_of text)) r
value_ends text (Ok v) reads memory cause = read_by (is_plain text) text reads
value_ends text (Err e) reads memory cause = ended_by (is_plain text) text e memory cause

-- three lists, one behind the other
pub three_read : (xs ys zs : List (List ℕ)) → ArePatterns xs → ArePatterns ys → ArePatterns zs
    → ArePatterns (xs ++ (ys ++ zs))
three_read xs ys zs r q p = read_both xs (ys ++ zs) r (read_both ys zs q p)

pub second_ended : (xs ys zs : List (List ℕ)) (e : PatternErr) → Ended e ys
    → Ended e (xs ++ (ys ++ zs))
second_ended xs ys zs e (inl h) = inl h
second_ended xs ys zs e (inr h) =
    inr (refused_behind e xs (ys ++ zs) (refused_front e ys zs h))

pub third_ended : (xs ys zs : List (List ℕ)) (e : PatternErr) → Ended e zs
    → Ended e (xs ++ (ys ++ zs))
third_ended xs ys zs e (inl h) = inl h
third_ended xs ys zs e (inr h) =
    inr (refused_behind e xs (ys ++ zs) (refused_behind e ys zs h))
