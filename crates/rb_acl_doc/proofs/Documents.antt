-- The documents before the one at hand.
use Rattle.std.proofs.Common.{◌≡◌, ◌<◌, ◌≤◌, ℕ, ◌+◌, List, [], ◌∷◌, ◌++◌, length, get_or, map, take, drop, take-append-drop, take_all, length-take-le, arith, sym, ap, subst, ◌∙◌, Result, Ok, Err, IfErr}
use Rattle.std.specs.Result.{IsErrAnd}
use Rattle.std.proofs.lemmas.List.{take-map, take_more, map_push}
use Rattle.rb_yaml.specs.Tree.{YamlTree}
use Rattle.rb_acl_doc.specs.Reading.{IsSoundDoc, IsDocRefusal, AreSound, RefusesDocs}
use Rattle.rb_acl_doc.specs.declared.fault.AclErr.{AclErr}
use Rattle.rb_acl_doc.specs.declared.fault.AclErr.TheVariants as errors

pub sound_more : (docs : List YamlTree) (doc : YamlTree) → AreSound docs → IsSoundDoc doc
    → AreSound (docs ++ doc ∷ [])
sound_more [] doc h s = (s, tt)
sound_more (d ∷ docs) doc h s = (h.0, sound_more docs doc h.1 s)

pub taken_more : {A B : Type 0} (view : A → B) (xs : List A) (i : ℕ) (x : A) → i < length xs
    → x ≡ get_or xs i x → take (i + 1) (map view xs) ≡ take i (map view xs) ++ view x ∷ []
taken_more view xs i x below is =
    take-map view (i + 1) xs
    ∙ ap (map view) (take_more xs i x below ∙ ap (λ y. take i xs ++ y ∷ []) (sym is))
    ∙ map_push view (take i xs) x ∙ ap (λ ys. ys ++ view x ∷ []) (sym (take-map view i xs))

pub sound_all : (docs : List YamlTree) (i : ℕ) → length docs ≤ i → AreSound (take i docs)
    → AreSound docs
sound_all docs i past h = subst AreSound (take_all i docs past) h

refused_by : (docs before behind : List YamlTree) (doc : YamlTree) (n : ℕ) (e : AclErr)
    → docs ≡ before ++ doc ∷ behind → AreSound before → length before + 1 ≡ n → IsDocRefusal n doc e
    → RefusesDocs docs e
refused_by docs before behind doc n errors.NoMemory split sound count h = tt
refused_by docs before behind doc n (errors.Fault fault) split sound count h = record {
  before = before;
  doc = doc;
  behind = behind;
  given = split;
  sound = sound;
  fault = subst (λ k. IsDocRefusal k doc (errors.Fault fault)) (sym count) h;
}

-- the refusal of the document at this index is that of all
pub refused_at : {T : Type 0} (r : Result T AclErr) (docs behind : List YamlTree) (doc : YamlTree)
    (i : ℕ) (e : AclErr) → IsErrAnd r (λ x. x ≡ e) → i < length docs → drop i docs ≡ doc ∷ behind
    → AreSound (take i docs) → IsDocRefusal (i + 1) doc e → IfErr r (RefusesDocs docs)
refused_at (Ok x) docs behind doc i e h below left sound refusal = tt
refused_at (Err x) docs behind doc i e h below left sound refusal =
    subst (RefusesDocs docs) (sym h)
    (refused_by docs (take i docs) behind doc (i + 1) e
    (sym (take-append-drop i docs) ∙ ap (λ ys. take i docs ++ ys) left) sound
    (ap (λ n. n + 1) (length-take-le i docs (omega (arith, below)))) refusal)
