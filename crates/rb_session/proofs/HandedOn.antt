-- A status that is handed on.
use Rattle.std.proofs.Common.{◌≡◌, ℕ, Result, Ok, Err, IfErr, IsErrAnd, subst, sym}

pub handed_on : {T : Type 0} (r : Result T ℕ) (status : ℕ) (Is : ℕ → Type 0)
    → IsErrAnd r (λ x. x ≡ status) → Is status → IfErr r Is
handed_on (Ok x) status Is h is = tt
handed_on (Err x) status Is h is = subst Is (sym h) is
