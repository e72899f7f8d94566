-- How a door ends, caller by caller.
use Rattle.std.proofs.Common.{◌≡◌, ◌≤◌, ◌⊎◌, ℕ, refl, subst, arith, inl, inr}
use Rattle.rb_api.specs.declared.ended.Ended.{Ended}
use Rattle.rb_api.specs.declared.ended.Ended.TheVariants as ended
use Rattle.rb_causes.specs.Causes.{Rose}
use Rattle.rb_serve.specs.Ends.{ends_by, wanting_by}
use Rattle.rb_serve.specs.declared.door_end.DoorEnd.{DoorEnd}
use Rattle.rb_serve.specs.declared.door_end.DoorEnd.TheVariants as end

wanting_failed : (before : DoorEnd) → wanting_by before ≡ end.Failed → before ≡ end.Failed
wanting_failed end.Well h = absurd (grind (arith, h))
wanting_failed end.Wanting h = absurd (grind (arith, h))
wanting_failed end.Failed h = refl

-- it failed before, or with this caller
failed_by : (e : Ended) (before : DoorEnd) → ends_by e before ≡ end.Failed
    → (before ≡ end.Failed) ⊎ (e ≡ ended.LineFault)
failed_by ended.LineFault before h = inr refl
failed_by ended.NoMemory before h = inl (wanting_failed before h)
failed_by ended.More before h = inl h
failed_by ended.Done before h = inl h

rose_either : (start asking serving last : ℕ) (before : DoorEnd) (e : Ended)
    → start ≤ asking → asking ≤ serving → serving ≤ last
    → (before ≡ end.Failed → Rose start asking) → (e ≡ ended.LineFault → Rose serving last)
    → (before ≡ end.Failed) ⊎ (e ≡ ended.LineFault) → Rose start last
rose_either start asking serving last before e a b c was is (inl h) =
    let rose = was h in omega (arith, a, b, c, rose)
rose_either start asking serving last before e a b c was is (inr h) =
    let rose = is h in omega (arith, a, b, c, rose)

-- a line whose door failed has a fault more
pub rose_by : (start asking serving last : ℕ) (before : DoorEnd) (e : Ended) (now : DoorEnd)
    → start ≤ asking → asking ≤ serving → serving ≤ last
    → (before ≡ end.Failed → Rose start asking) → (e ≡ ended.LineFault → Rose serving last)
    → now ≡ ends_by e before → now ≡ end.Failed → Rose start last
rose_by start asking serving last before e now a b c was is by failed =
    rose_either start asking serving last before e a b c was is
    (failed_by e before (subst (λ n. n ≡ end.Failed) by failed))
