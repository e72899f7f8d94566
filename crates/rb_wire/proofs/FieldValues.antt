-- The values of fields, where they stand in the bytes.
use Rattle.std.proofs.Common.{◌≡◌, ◌<◌, refl, arith, ap, sym, ℕ, Bool, true, false, ◌&&◌, nat_eq, eq-eqb, eqb-true, List, [], ◌∷◌, map, filter, take, Option, Some, None, option_and_then, IsUtf8, if◌then◌else◌}
use Rattle.std.specs.List.{list_all}
use Rattle.std.specs.Str.{is_utf8, str_eq_ignore_ascii_case}
use Rattle.std.proofs.lemmas.Bool.Decides.{nat_tests}
use Rattle.std.proofs.lemmas.List.Elements.{All-weaker}
use Rattle.std.proofs.lemmas.Str.Ascii.{IsAscii-from_all}
use Rattle.std.proofs.lemmas.List.Sums.{AllPass-from_list_all}
use Rattle.std.proofs.lemmas.Str.{is_utf8-from_IsUtf8, IsUtf8-from_is_utf8, IsUtf8-from_ascii}
use Rattle.std.proofs.lemmas.Bool.{and_parts}
use Rattle.httparse.specs.Grammar.{Field, RequestHead, field_value}
use Rattle.httparse.specs.Spans.{span_bytes, name_and_value, AreFieldsAt}
use Rattle.httparse.specs.declared.spans.HeaderSpan.{HeaderSpan}
use Rattle.rb_causes.specs.Numbers.{is_digit, is_decimal, decimal_of}
use Rattle.rb_wire.specs.Fields.{span_values, same_number, length_behind}
use Rattle.rb_wire.specs.Heads.{text_if, header_values}
use Rattle.rb_wire.specs.Lengths.{is_this_number, length_with, one_length}

-- ---- one field

pub named : (name bytes : List ℕ) (field : HeaderSpan) (fields : List HeaderSpan)
    → str_eq_ignore_ascii_case (span_bytes bytes field.name) name ≡ true
    → span_values name bytes (field ∷ fields)
    ≡ span_bytes bytes field.value ∷ span_values name bytes fields
named name bytes field fields e = rw e refl

pub not_named : (name bytes : List ℕ) (field : HeaderSpan) (fields : List HeaderSpan)
    → str_eq_ignore_ascii_case (span_bytes bytes field.name) name ≡ false
    → span_values name bytes (field ∷ fields) ≡ span_values name bytes fields
not_named name bytes field fields e = rw e refl

-- ---- texts

text_if_not : (bytes : List ℕ) (b : Bool) → is_utf8 bytes ≡ b → (IsUtf8 bytes → ⊥)
    → text_if bytes ≡ None
text_if_not bytes true e fails = absurd (fails (IsUtf8-from_is_utf8 bytes e))
text_if_not bytes false e fails = rw e refl

pub no_text : (bytes : List ℕ) → (IsUtf8 bytes → ⊥) → text_if bytes ≡ None
no_text bytes fails = text_if_not bytes (is_utf8 bytes) refl fails

pub is_text : (bytes : List ℕ) → IsUtf8 bytes → text_if bytes ≡ Some bytes
is_text bytes holds = rw (is_utf8-from_IsUtf8 bytes holds) refl

-- ---- numbers

digit_is_ascii : (b : ℕ) → is_digit b ≡ true → b < 128
digit_is_ascii b e = grind (arith, nat_tests)

pub decimal_is_text : (bytes : List ℕ) → is_decimal bytes ≡ true → IsUtf8 bytes
decimal_is_text bytes e =
    IsUtf8-from_ascii bytes (IsAscii-from_all bytes
    (All-weaker (λ b. is_digit b ≡ true) (λ b. b < 128) digit_is_ascii bytes
    (AllPass-from_list_all is_digit bytes ((and_parts _ _ e).1))))

decimal_if_not : (bytes : List ℕ) (b : Bool) → is_decimal bytes ≡ b → (IsUtf8 bytes → ⊥)
    → decimal_of bytes ≡ None
decimal_if_not bytes true e fails = absurd (fails (decimal_is_text bytes e))
decimal_if_not bytes false e fails = rw e refl

pub no_decimal : (bytes : List ℕ) → (IsUtf8 bytes → ⊥) → decimal_of bytes ≡ None
no_decimal bytes fails = decimal_if_not bytes (is_decimal bytes) refl fails

-- ---- lengths

-- the one length of these values behind the one that was found, if there was one
abbrev pub length_from : Option ℕ → List (List ℕ) → Option ℕ
length_from None values = one_length values
length_from (Some n) values = length_with values n

first_length : (values : List (List ℕ)) (number : Option ℕ)
    → option_and_then (length_with values) number
    ≡ option_and_then (λ n. length_from (Some n) values)
    (option_and_then (same_number None) number)
first_length values None = refl
first_length values (Some n) = refl

later_test : (a b : Bool) (n m : ℕ) (values : List (List ℕ)) → nat_eq m n ≡ a → nat_eq n m ≡ b
    → (if (a && list_all (λ other. is_this_number n (decimal_of other)) values) then Some n else None)
    ≡ option_and_then (λ k. length_from (Some k) values) (if b then Some m else None)
later_test true true n m values e f = let same : m ≡ n = eqb-true m n e in rw same refl
later_test false false n m values e f = refl
later_test true false n m values e f =
    let same : m ≡ n = eqb-true m n e in
    let never : nat_eq n m ≡ true = eq-eqb n m (sym same) in
    let wrong : ⊥ = cc in absurd wrong
later_test false true n m values e f =
    let same : n ≡ m = eqb-true n m f in
    let never : nat_eq m n ≡ true = eq-eqb m n (sym same) in
    let wrong : ⊥ = cc in absurd wrong

later_length : (n : ℕ) (values : List (List ℕ)) (number : Option ℕ)
    → (if (is_this_number n number && list_all (λ other. is_this_number n (decimal_of other)) values)
    then Some n else None)
    ≡ option_and_then (λ k. length_from (Some k) values)
    (option_and_then (same_number (Some n)) number)
later_length n values None = refl
later_length n values (Some m) = later_test (nat_eq m n) (nat_eq n m) n m values refl refl

pub length_more : (found : Option ℕ) (value : List ℕ) (values : List (List ℕ))
    → length_from found (value ∷ values)
    ≡ option_and_then (λ n. length_from (Some n) values) (length_behind found value)
length_more None value values = first_length values (decimal_of value)
length_more (Some n) value values = later_length n values (decimal_of value)

-- ---- the fields of a head

abbrev by_pair : List ℕ → List Field → List (List ℕ)
by_pair name fields =
    map (λ field. field.1)
    (filter (λ field. str_eq_ignore_ascii_case field.0 name) (map name_and_value fields))

abbrev by_field : List ℕ → List Field → List (List ℕ)
by_field name fields =
    map field_value (filter (λ field. str_eq_ignore_ascii_case field.name name) fields)

one_more : (name : List ℕ) (f : Field) (fs : List Field) (b : Bool)
    → str_eq_ignore_ascii_case f.name name ≡ b → by_pair name fs ≡ by_field name fs
    → by_pair name (f ∷ fs) ≡ by_field name (f ∷ fs)
one_more name f fs true e same = rw e (ap (λ vs. field_value f ∷ vs) same)
one_more name f fs false e same = rw e same

filtered : (name : List ℕ) (fields : List Field) → by_pair name fields ≡ by_field name fields
filtered name [] = refl
filtered name (f ∷ fs) =
    one_more name f fs (str_eq_ignore_ascii_case f.name name) refl (filtered name fs)

pub values_are : (name bytes : List ℕ) (spans : List HeaderSpan) (count : ℕ) (head : RequestHead)
    → AreFieldsAt bytes spans count head.fields
    → span_values name bytes (take count spans) ≡ header_values name head
values_are name bytes spans count head at = rw at (filtered name head.fields)
