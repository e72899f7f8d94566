-- What is printed of a value.
use Rattle.std.proofs.Common.{◌≡◌, ◌∙◌, ℕ, false, Result, Ok, Err, IfOk, ap}
use Rattle.serde_json.specs.Data.{Data}
use Rattle.serde_json.specs.Written.{has_float}
use Rattle.rb_reply.specs.Errors.{printed, reply}
use Rattle.rb_reply.specs.declared.response.Response.{Response}

-- A value that is this one has its text, since no float stands in it.
pub printed_as : {E : Type 0} (result : Result Response E) (s status : ℕ) (d value : Data)
    → s ≡ status → d ≡ value → has_float value ≡ false
    → IfOk result (λ r. has_float d ≡ false → r ≡ printed (reply s d))
    → IfOk result (λ r. r ≡ printed (reply status value))
printed_as (Ok r) s status d value same is plain h =
    h (ap has_float is ∙ plain) ∙ ap (λ n. printed (reply n d)) same
    ∙ ap (λ v. printed (reply status v)) is
printed_as (Err e) s status d value same is plain h = tt
