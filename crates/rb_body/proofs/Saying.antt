-- What bytes say, and what members give.
use Rattle.std.proofs.Common.{◌≡◌, ℕ, Bool, true, false, cond, List, ◌++◌, Option, Some, None, refl}
use Rattle.std.proofs.lemmas.Str.{IsUtf8-from_is_utf8, is_utf8-from_IsUtf8}
use Rattle.std.specs.Prelude.{IsUtf8}
use Rattle.std.specs.Str.{is_utf8}
use Rattle.serde_json.specs.Data.{Data}
use Rattle.serde_json.specs.Read.{read as read_text}
use Rattle.rb_body.specs.Bodies.{value_in}

-- items in front of those that are given, if any are
abbrev pub behind : {A : Type 0} → List A → Option (List A) → Option (List A)
behind xs None = None
behind xs (Some ys) = Some (xs ++ ys)

pub text_says : (bytes : List ℕ) (d : Data) → IsUtf8 bytes → read_text bytes ≡ Some d
    → value_in bytes ≡ Some d
text_says bytes d text read = rw (is_utf8-from_IsUtf8 bytes text) read

by_text : (bytes : List ℕ) (b : Bool) → is_utf8 bytes ≡ b
    → (IsUtf8 bytes → read_text bytes ≡ None) → cond b (read_text bytes) None ≡ None
by_text bytes true e h = h (IsUtf8-from_is_utf8 bytes e)
by_text bytes false e h = refl

pub nothing_read : (bytes : List ℕ) → (IsUtf8 bytes → read_text bytes ≡ None)
    → value_in bytes ≡ None
nothing_read bytes h = by_text bytes (is_utf8 bytes) refl h
