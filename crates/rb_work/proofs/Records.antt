-- Records of a clerk, one list behind another.
use Rattle.std.proofs.Common.{◌≡◌, ◌∙◌, ◌≤◌, List, [], ◌∷◌, ◌++◌, length, ap, sym, subst, refl, arith, append-nil, append_assoc, length-append}
use Rattle.std.specs.List.{flat_map}
use Rattle.rb_causes.specs.Causes.{Rose}
use Rattle.rb_causes.proofs.Written.{rose_since}
use Rattle.rb_log.specs.Records.{Record}
use Rattle.rb_causes.specs.declared.row.Row.{Row}
use Rattle.rb_log.specs.Told.{Told, Acts, IsBeginning, added, record_of, tells_fault}
use Rattle.rb_log.specs.Acted.{Acted}
use Rattle.rb_log.specs.declared.answer.Answer.{Answer}
use Rattle.rb_log.specs.declared.answer.Answer.TheVariants as answer
use Rattle.rb_log.specs.declared.call.Call.{Call}

pub acted_then : (xs ys : List Record) (a b c : Told) → Acted a b xs → Acted b c ys
    → Acted a c (xs ++ ys)
acted_then [] ys a b c h k = subst (λ t. Acted t c ys) h k
acted_then (r ∷ xs) ys a b c h k = (h.0, h.1, acted_then xs ys h.0 b c h.2 k)

-- the log grows
pub acted_begins : (xs : List Record) (a b : Told) → Acted a b xs → IsBeginning a.log b.log
acted_begins [] a b h = ([], ap (λ (t : Told). t.log) h ∙ sym (append-nil a.log))
acted_begins (r ∷ xs) a b h =
    let first = h.1.acts.log in
    let rest = acted_begins xs h.0 b h.2 in (
      first.0 ++ rest.0,
      rest.1 ∙ ap (λ rows. rows ++ rest.0) first.1 ∙ append_assoc a.log first.0 rest.0,
    )

-- the count of faults does not fall
pub acted_faults : (xs : List Record) (a b : Told) → Acted a b xs → a.faults ≤ b.faults
acted_faults [] a b h =
    let same : b.faults ≡ a.faults = ap (λ (t : Told). t.faults) h in omega (arith, same)
acted_faults (r ∷ xs) a b h =
    let rest = acted_faults xs h.0 b h.2 in omega (arith, h.1.acts.faults, rest)

-- and rose where the last was answered by a fault
pub acted_rose : (xs : List Record) (r : Record) (a b : Told) → Acted a b (xs ++ r ∷ [])
    → r.answer ≡ answer.StoreFault → Rose a.faults b.faults
acted_rose [] r a b h is =
    let same : b.faults ≡ h.0.faults = ap (λ (t : Told). t.faults) h.2 in
    subst (λ n. Rose a.faults n) (sym same) (h.1.acts.cause (ap tells_fault is))
acted_rose (x ∷ xs) r a b h is =
    let rest = acted_rose xs r h.0 b h.2 is in
    rose_since a.faults h.0.faults b.faults h.1.acts.faults rest

pub acted_split : (xs ys : List Record) (a c : Told) → Acted a c (xs ++ ys)
    → (b : Told) × Acted a b xs × Acted b c ys
acted_split [] ys a c h = (a, refl, h)
acted_split (r ∷ xs) ys a c h =
    let rest = acted_split xs ys h.0 c h.2 in (rest.0, (h.0, h.1, rest.1), rest.2)

pub begins_then : (a b c : List Row) → IsBeginning a b → IsBeginning b c → IsBeginning a c
begins_then a b c h k =
    (h.0 ++ k.0, k.1 ∙ ap (λ rows. rows ++ k.0) h.1 ∙ append_assoc a h.0 k.0)

pub begins_longer : (a b : List Row) → IsBeginning a b → length a ≤ length b
begins_longer a b h = let both = ap length h.1 in omega (arith, both, length-append a h.0)

-- the numbers of the own rows are those of the records
pub acted_own : (xs : List Record) (a b : Told) → Acted a b xs → b.own ≡ a.own ++ flat_map added xs
acted_own [] a b h = ap (λ (t : Told). t.own) h ∙ sym (append-nil a.own)
acted_own (r ∷ xs) a b h =
    let rest = acted_own xs h.0 b h.2 in
    rest
    ∙ ap (λ ns. ns ++ flat_map added xs) (own_as h.1.acts.own)
    ∙ append_assoc a.own (added r) (flat_map added xs)
  where
    record_as : record_of r.call r.answer h.1.acts.before h.0.log ≡ r
    record_as =
        ap (λ n. record_of r.call r.answer n h.0.log) h.1.before
        ∙ ap (λ n. record { call = r.call; answer = r.answer; before = r.before; after = n })
        h.1.after

    own_as : h.0.own ≡ a.own ++ added (record_of r.call r.answer h.1.acts.before h.0.log)
        → h.0.own ≡ a.own ++ added r
    own_as own = own ∙ ap (λ (x : Record). a.own ++ added x) record_as

pub acted_room : (xs : List Record) (a b : Told) → Acted a b xs → b.room ≡ a.room
acted_room [] a b h = ap (λ (t : Told). t.room) h
acted_room (r ∷ xs) a b h = acted_room xs h.0 b h.2 ∙ h.1.acts.room

-- the clerk stays the same one
pub acted_who : (rs : List Record) (a b : Told) → Acted a b rs → b.who ≡ a.who
acted_who [] a b h = ap (λ (t : Told). t.who) h
acted_who (r ∷ rs) a b h = acted_who rs h.0 b h.2 ∙ h.1.acts.who

-- one record more
pub acted_one : (xs : List Record) (a b c : Told) (call : Call) (word : Answer) → Acted a b xs
    → (acts : Acts b c call word)
    → Acted a c (xs ++ record_of call word acts.before c.log ∷ [])
acted_one xs a b c call word h acts =
    acted_then xs (record_of call word acts.before c.log ∷ []) a b c h
    (c, record { acts = acts; before = refl; after = refl }, refl)
