-- What holds whatever a call answers.
use Rattle.std.specs.Prelude.{Result, Ok, Err, IfOk, OnErr}

pub in_ok : {T E : Type 0} (result : Result T E) (P : T → Type 0) → ((value : T) → P value)
    → IfOk result P
in_ok (Ok value) P always = always value
in_ok (Err fault) P always = tt

pub on_err : {T E : Type 0} (result : Result T E) (P : Type 0) → P → OnErr result P
on_err (Ok value) P always = tt
on_err (Err fault) P always = always
