use Rattle.std.proofs.Common.{◌≡◌, ◌∙◌, ◌-◌, ℕ, zero, suc, List, [], ◌∷◌, length, Some, slice_get, unwrap_or, ap, arith}
use Rattle.rb_log.specs.Runs.{last_of}
use Rattle.rb_runs.proofs.refusing.last_of.Goals as goal

last_at : (xs : List (List ℕ)) (k : ℕ) (x : List ℕ) → suc k ≡ length xs → Some x ≡ slice_get xs k
    → x ≡ last_of xs
last_at [] k x h get = absurd (omega (arith, h))
last_at (y ∷ []) zero x h get = ap (λ o. unwrap_or o x) get
last_at (y ∷ []) (suc k) x h get = absurd (omega (arith, h))
last_at (y ∷ z ∷ zs) zero x h get = absurd (omega (arith, h))
last_at (y ∷ z ∷ zs) (suc k) x h get = last_at (z ∷ zs) k x (omega (arith, h)) get

pub returns-in-Some : goal.returns-in-Some
returns-in-Some c =
    let some = c.in-Some.ensures.item.3.0 in
    c.as_str.ensures
    ∙ last_at c.args.path.now (length c.args.path.now - 1) c.in-Some.last.now
    (omega (arith, some)) c.in-Some.ensures.value
