-- Documents: the steps of their reader.
use Rattle.std.proofs.Common.{◌≡◌, ℕ, suc, ◌+◌, ◌-◌, ◌<◌, ◌≤◌, ◌^◌, Bool, false, ◌||◌, nat_lt, List, [], ◌∷◌, ◌++◌, length, get_or, take, drop, count_by, Some, None, Result, Ok, Err, IsUtf8, IsCharBoundary, refl, ap, sym, ◌∙◌, append_assoc, arith}
use lib.Utf8.{encode}
use Rattle.std.specs.Str.{is_utf8}
use Rattle.std.specs.Str.Lossy.{utf8_valid_len}
use Rattle.std.proofs.lemmas.Bool.Decides.{nat_tests}
use Rattle.std.proofs.lemmas.List.{at_drop_more, take_rest}
use Rattle.std.proofs.lemmas.Str.{IsUtf8-past_char, IsCharBoundary-from_drop, IsUtf8-from_is_utf8, is_utf8-from_IsUtf8}
use Rattle.std.proofs.lemmas.Bool.{false_from_ne_true}
use Rattle.rb_causes.specs.Texts.{is_line_feed}
use Rattle.rb_yaml.specs.declared.fault.YamlFault.{YamlFault}
use Rattle.rb_yaml.specs.declared.fault.YamlKind.TheVariants as kinds
use Rattle.rb_yaml.specs.declared.flaw.Fault.{Fault}
use Rattle.rb_yaml.specs.declared.flaw.Stop.{Stop}
use Rattle.rb_yaml.specs.declared.flaw.Stop.TheVariants.{At, NoMemory}
use Rattle.rb_yaml.specs.Faults.{◌>>=◌, IsStopOf}
use Rattle.rb_yaml.specs.Rows.{Row}
use Rattle.rb_yaml.specs.Tree.{YamlTree}
use Rattle.rb_yaml.specs.Telling.{whole_fault, yaml_fault, reported}
use Rattle.rb_yaml.specs.Documents.{begins_control, has_control, marked_doc, with_docs, marked_docs, docs_of_text, docs_of}

-- ---- control characters

control_cons : (b : ℕ) (bs : List ℕ) → begins_control (b ∷ bs) ≡ false → has_control (b ∷ bs) ≡ has_control bs
control_cons b bs h = ap (λ t. t || has_control bs) h

pub control_more : (text bytes : List ℕ) (at : ℕ) (sign : Bool) → bytes ≡ text → at < length bytes → sign ≡ begins_control (take (length bytes - at) (drop at bytes)) → sign ≡ false →
    has_control (drop at text) ≡ has_control text → has_control (drop (at + 1) text) ≡ has_control text
control_more text bytes at sign same_text l is_sign no_sign same =
    let here : begins_control (get_or bytes at 0 ∷ drop (at + 1) bytes) ≡ false =
    sym (at_drop_more begins_control bytes at 0 l) ∙ ap begins_control (sym (take_rest bytes at)) ∙ sym is_sign ∙ no_sign in
    let step : has_control (drop at bytes) ≡ has_control (drop (at + 1) bytes) = at_drop_more has_control bytes at 0 l ∙ control_cons (get_or bytes at 0) (drop (at + 1) bytes) here in
    ap (λ xs. has_control (drop (at + 1) xs)) (sym same_text) ∙ sym step ∙ ap (λ xs. has_control (drop at xs)) same_text ∙ same

-- ---- the byte order mark

mark_bytes : encode 65279 ≡ 239 ∷ 187 ∷ 191 ∷ []
unfolding encode
mark_bytes = refl

-- a text may be cut behind its byte order mark
pub mark_cut : (text : List ℕ) → IsUtf8 text → 3 ≤ length text → get_or text 0 0 ≡ 239 → get_or text 1 0 ≡ 187 → get_or text 2 0 ≡ 191 → IsCharBoundary text 3
mark_cut [] u l a b c = absurd (omega (arith, l))
mark_cut (x ∷ []) u l a b c = absurd (omega (arith, l))
mark_cut (x ∷ y ∷ []) u l a b c = absurd (omega (arith, l))
mark_cut (x ∷ y ∷ z ∷ rest) u l a b c =
    let whole : x ∷ y ∷ z ∷ rest ≡ encode 65279 ++ rest =
    ap (λ n. n ∷ y ∷ z ∷ rest) a ∙ ap (λ n. 239 ∷ n ∷ z ∷ rest) b ∙ ap (λ n. 239 ∷ 187 ∷ n ∷ rest) c ∙ sym (ap (λ xs. xs ++ rest) mark_bytes) in
    IsCharBoundary-from_drop (x ∷ y ∷ z ∷ rest) 3 l (IsUtf8-past_char (x ∷ y ∷ z ∷ rest) rest 65279 u whole)

-- ---- documents behind markers

docs_twice : (before docs : List YamlTree) (read : Result (List YamlTree) Fault) → with_docs before (with_docs docs read) ≡ with_docs (before ++ docs) read
docs_twice before docs (Ok more) = ap Ok (sym (append_assoc before docs more))
docs_twice before docs (Err e) = refl

pub docs_more : (before more docs : List YamlTree) (part : Row × List Row) (rest : List (Row × List Row)) (all : Result (List YamlTree) Fault) → marked_doc part ≡ Ok docs → more ≡ before ++ docs →
    with_docs before (marked_docs (part ∷ rest)) ≡ all → with_docs more (marked_docs rest) ≡ all
docs_more before more docs part rest all h is_more same =
    ap (λ xs. with_docs xs (marked_docs rest)) is_more ∙ sym (docs_twice before docs (marked_docs rest))
    ∙ sym (ap (λ r. with_docs before (r >>= λ ds. with_docs ds (marked_docs rest))) h) ∙ same

pub docs_stop : (stop : Stop Fault) (before : List YamlTree) (part : Row × List Row) (rest : List (Row × List Row)) (all : Result (List YamlTree) Fault) → IsStopOf stop (marked_doc part) →
    with_docs before (marked_docs (part ∷ rest)) ≡ all → IsStopOf stop all
docs_stop NoMemory before part rest all h same = tt
docs_stop (At e) before part rest all h same = sym same ∙ ap (λ r. with_docs before (r >>= λ ds. with_docs ds (marked_docs rest))) h

-- ---- what comes before the lines

pub whole_of_utf8 : (bytes : List ℕ) → length bytes ≤ 2 ^ 20 → IsUtf8 bytes → whole_fault bytes ≡ None
whole_of_utf8 bytes le u =
    let small : nat_lt (2 ^ 20) (length bytes) ≡ false = grind (arith, nat_tests) in
    rw (small, is_utf8-from_IsUtf8 bytes u) refl

-- the line of the first byte that is not UTF-8
abbrev pub bad_line : List ℕ → ℕ
bad_line bytes = suc (count_by is_line_feed (take (utf8_valid_len bytes) bytes))

pub whole_of_bad : (bytes : List ℕ) → length bytes ≤ 2 ^ 20 → (IsUtf8 bytes → ⊥) →
    whole_fault bytes ≡ Some (yaml_fault kinds.NotUtf8 (bad_line bytes))
whole_of_bad bytes le bad =
    let small : nat_lt (2 ^ 20) (length bytes) ≡ false = grind (arith, nat_tests) in
    let no_text = false_from_ne_true (is_utf8 bytes) (λ t. bad (IsUtf8-from_is_utf8 bytes t)) in
    rw (small, no_text) refl

pub docs_of_utf8 : (bytes : List ℕ) → whole_fault bytes ≡ None →
    docs_of bytes ≡ reported (docs_of_text bytes)
docs_of_utf8 bytes h = rw h refl

pub docs_of_bad : (bytes : List ℕ) (fault : YamlFault) → whole_fault bytes ≡ Some fault →
    docs_of bytes ≡ Err fault
docs_of_bad bytes fault h = rw h refl
