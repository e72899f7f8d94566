-- What stands alone: the reader and the relation agree.
use Rattle.std.proofs.Common.{◌≡◌, ◌≢◌, ◌≤◌, ℕ, suc, ◌+◌, Bool, true, false, cond, ◌||◌, nat_eq, List, [], ◌∷◌, ◌++◌, length, drop, map, Option, Some, None, Result, Ok, Err, refl, sym, subst, ◌∙◌, arith}
use Rattle.std.proofs.lemmas.Bool.Decides.{nat_tests}
use Rattle.std.proofs.lemmas.Bool.{eqb-false, ne_eqb, and_parts, or_parts, or_from}
use Rattle.rb_causes.specs.Texts.{are_new, is_blank}
use Rattle.rb_yaml.specs.Faults.{flaw_or}
use Rattle.rb_yaml.specs.Rows.{Row, begins, past_blanks}
use Rattle.rb_yaml.specs.Signs.{is_nothing, is_clear, has_comment, has_colon, plain_part, without_end, start_flaw}
use Rattle.rb_yaml.specs.Quotes.{single_from, double_from}
use Rattle.rb_yaml.specs.Flow.{FlowRead, flow_items}
use Rattle.rb_yaml.specs.Scalars.{plain_flaw, plain_of, has_closing_quote}
use Rattle.rb_yaml.specs.Tree.{YamlTree, scalar, seq, mapping, trees_of, entries_of}
use Rattle.rb_yaml.specs.Alone.{alone}
use Rattle.rb_yaml_laws.specs.Bare.{Bare}
use Rattle.rb_yaml_laws.specs.Plain.{IsPlain, begins_other, PlainOver}
use Rattle.rb_yaml_laws.specs.Says as says
use Rattle.rb_yaml_laws.specs.Says.{Says, Alone}
use Rattle.rb_yaml_laws.specs.Nodes.{depth, items_depth, entries_depth}
use Rattle.rb_yaml_laws.proofs.RowFacts.{complete_read, complete_meant}
use Rattle.rb_yaml_laws.proofs.QuoteFacts.{single_read, open_read, double_read, single_meant, open_meant, double_meant}
use Rattle.rb_yaml_laws.proofs.PlainFacts.{plain_read, plain_meant}
use Rattle.rb_yaml_laws.proofs.SingleFacts.{single_over_read, closes_read, closed_read, closed_meant, single_over_meant}
use Rattle.rb_yaml_laws.proofs.LiteralReads.{literal_read}
use Rattle.rb_yaml_laws.proofs.LiteralMeants.{literal_meant}
use Rattle.rb_yaml_laws.proofs.BlankFacts.{begins_is}
use Rattle.rb_yaml_laws.proofs.Binds.{only_none}
use Rattle.rb_yaml_laws.proofs.FlawFacts.{none_if, either_none}
use Rattle.rb_yaml_laws.proofs.FlowItems.{in_sequence_meant, in_map_meant}
use Rattle.rb_yaml_laws.proofs.DifferFacts.{differ_read, differ_meant}
use Rattle.rb_yaml_laws.proofs.FlowTurns.{in_flow_read, in_flow_meant, flow_says}

abbrev pub row : ℕ → ℕ → List ℕ → Row
row number indent text = record { number = number; indent = indent; text = text }

-- ---- what is meant is read

blank_not : (b : ℕ) → is_blank b ≡ true → nat_eq b 45 ≡ false
blank_not b h = grind (arith, nat_tests)

clear_starts : (rest : List ℕ) → is_clear rest ≡ true → begins 45 rest ≡ false
clear_starts [] h = refl
clear_starts (b ∷ bs) h = blank_not b ((and_parts (is_blank b) (is_nothing (past_blanks (b ∷ bs))) h).0)

plain_at : (left floor number indent : ℕ) (text : List ℕ) (rows : List Row) → IsPlain text → alone left floor (row number indent text) rows ≡ plain_of (row number indent text) rows
plain_at left floor number indent text rows h =
    let o₁ = (or_parts (begins 124 text || begins 39 text) (begins 34 text || (begins 91 text || begins 123 text)) h.0).0 in
    let o₂ = (or_parts (begins 124 text || begins 39 text) (begins 34 text || (begins 91 text || begins 123 text)) h.0).1 in
    rw (
      (or_parts (begins 124 text) (begins 39 text) o₁).0,
      (or_parts (begins 124 text) (begins 39 text) o₁).1,
      (or_parts (begins 34 text) (begins 91 text || begins 123 text) o₂).0,
      (or_parts (begins 34 text) (begins 91 text || begins 123 text) o₂).1,
      h.1,
      h.2,
    ) refl

plain_says : (left floor number indent : ℕ) (text : List ℕ) (rows : List Row) → IsPlain text → has_comment text ≡ true → Bare rows →
    alone left floor (row number indent text) rows ≡ Ok (scalar number (plain_part text))
plain_says left floor number indent text rows h c bare = plain_at left floor number indent text rows h ∙ rw c (complete_read (scalar number (plain_part text)) rows bare)

over_says : (left floor number indent : ℕ) (text said : List ℕ) (rows : List Row) → IsPlain text → has_comment text ≡ false → PlainOver rows said →
    alone left floor (row number indent text) rows ≡ Ok (scalar number (plain_part text ++ said))
over_says left floor number indent text said rows h c over = plain_at left floor number indent text rows h ∙ rw c (plain_read over number (plain_part text))

pub says_read : {floor : ℕ} {text said : List ℕ} {rows : List Row} → Says floor text rows said → (left number indent : ℕ) → alone left floor (row number indent text) rows ≡ Ok (scalar number said)
says_read {floor} (says.Says.plain {text = text} {rows = rows} h c bare) left number indent = plain_says left floor number indent text rows h c bare
says_read {floor} (says.Says.plain_over {text = text} {said = said} {rows = rows} h c over) left number indent = over_says left floor number indent text said rows h c over
says_read {floor} (says.Says.single {said = said} {rest = rest} {rows = rows} s c bare) left number indent = rw (single_read s) (closed_read number number said rest rows c bare)
says_read {floor} (says.Says.single_over {part = part} s over) left number indent = rw (open_read s, closes_read over) (single_over_read over number (without_end part))
says_read {floor} (says.Says.double {said = said} {rest = rest} {rows = rows} d c bare) left number indent = rw (double_read d) (closed_read number number said rest rows c bare)
says_read {floor} (says.Says.literal {rest = rest} c l) left number indent = rw (clear_starts rest c, c) (literal_read l number)
says_read {floor} (says.Says.stripped {rest = rest} c l) left number indent = rw c (literal_read l number)

flow_sequence_read : (text rest : List ℕ) (items : List (List ℕ × List ℕ)) (left floor number indent : ℕ) (rows : List Row) → flow_items (length text + 2) 93 false text ≡ Ok (flow_says items rest) → is_clear rest ≡ true → Bare rows →
    nat_eq left 0 ≡ false → alone left floor (row number indent (91 ∷ text)) rows ≡ Ok (seq number (trees_of (map (λ item. scalar number item.1) items)))
flow_sequence_read text rest items left floor number indent rows e c bare l = rw (e, c, l) (complete_read (seq number (trees_of (map (λ item. scalar number item.1) items))) rows bare)

flow_map_read : (text rest : List ℕ) (items : List (List ℕ × List ℕ)) (left floor number indent : ℕ) (rows : List Row) → flow_items (length text + 2) 125 false text ≡ Ok (flow_says items rest) → is_clear rest ≡ true → Bare rows →
    are_new [] (map (λ item. item.0) items) ≡ true → nat_eq left 0 ≡ false →
    alone left floor (row number indent (123 ∷ text)) rows ≡ Ok (mapping number (entries_of (map (λ item. (item.0, scalar number item.1)) items)))
flow_map_read text rest items left floor number indent rows e c bare d l = rw (e, c, d, l) (complete_read (mapping number (entries_of (map (λ item. (item.0, scalar number item.1)) items))) rows bare)

flat_items : (line : ℕ) (items : List (List ℕ × List ℕ)) → items_depth (trees_of (map (λ item. scalar line item.1) items)) ≡ 0
unfolding depth
flat_items line [] = refl
flat_items line (item ∷ items) = rw (flat_items line items) refl

flat_entries : (line : ℕ) (items : List (List ℕ × List ℕ)) → entries_depth (entries_of (map (λ item. (item.0, scalar line item.1)) items)) ≡ 0
unfolding depth
flat_entries line [] = refl
flat_entries line (item ∷ items) = rw (flat_entries line items) refl

pub seq_depth : (line : ℕ) (items : _) → depth (seq line items) ≡ suc (items_depth items)
unfolding depth
seq_depth line items = refl

pub map_depth : (line : ℕ) (entries : _) → depth (mapping line entries) ≡ suc (entries_depth entries)
unfolding depth
map_depth line entries = refl

pub scalar_depth : (line : ℕ) (text : List ℕ) → depth (scalar line text) ≡ 0
unfolding depth
scalar_depth line text = refl

some_left : (left n d : ℕ) → d ≡ suc n → d ≤ left → nat_eq left 0 ≡ false
some_left left n d e h = ne_eqb left 0 (λ z. absurd (omega (arith, e, h, z)))

pub alone_read : {floor line : ℕ} {text : List ℕ} {rows : List Row} {value : YamlTree} → Alone floor line text rows value → (left indent : ℕ) → depth value ≤ left → alone left floor (row line indent text) rows ≡ Ok value
alone_read {floor} {line} (says.Alone.one s) left indent h = says_read s left line indent
alone_read {floor} {line} (says.Alone.flow_sequence {text = text} {rest = rest} {items = items} {rows = rows} f c bare) left indent h =
    let l = some_left left (items_depth (trees_of (map (λ item. scalar line item.1) items))) (depth (seq line (trees_of (map (λ item. scalar line item.1) items)))) (seq_depth line (trees_of (map (λ item. scalar line item.1) items))) h in
    flow_sequence_read text rest items left floor line indent rows (in_flow_read f (refl, refl, refl, refl) (length text + 2) (omega arith)) c bare l
alone_read {floor} {line} (says.Alone.flow_map {text = text} {rest = rest} {items = items} {rows = rows} f c bare d) left indent h =
    let l = some_left left (entries_depth (entries_of (map (λ item. (item.0, scalar line item.1)) items))) (depth (mapping line (entries_of (map (λ item. (item.0, scalar line item.1)) items)))) (map_depth line (entries_of (map (λ item. (item.0, scalar line item.1)) items))) h in
    flow_map_read text rest items left floor line indent rows (in_flow_read f (refl, refl, refl, refl) (length text + 2) (omega arith)) c bare (differ_read (map (λ item. item.0) items) d) l

-- ---- what is read is meant

-- the value that is read is meant, and no deeper than the levels that are left
pub record AloneMeant (left floor line : ℕ) (text : List ℕ) (rows : List Row) (value : YamlTree) : Type 0 where
  pub means : Alone floor line text rows value
  pub within : depth value ≤ left

a_scalar : (left floor line : ℕ) (text said : List ℕ) (rows : List Row) (value : YamlTree) → value ≡ scalar line said → Says floor text rows said → AloneMeant left floor line text rows value
a_scalar left floor line text said rows value e s =
    let d = scalar_depth line said in
    subst (AloneMeant left floor line text rows) (sym e) (record { means = says.Alone.one s; within = omega (arith, d) })

-- a literal, from behind its bar on
literal_by : (t c : Bool) (left floor line indent : ℕ) (text : List ℕ) (rows : List Row) (value : YamlTree) → begins 45 text ≡ t → is_clear (cond t (drop 1 text) text) ≡ c →
    alone left floor (row line indent (124 ∷ text)) rows ≡ Ok value → AloneMeant left floor line (124 ∷ text) rows value
literal_by true false left floor line indent text rows value h k e = let never = rw (h, k) at e in absurd (cc)
literal_by false false left floor line indent text rows value h k e = let never = rw (h, k) at e in absurd (cc)
literal_by true true left floor line indent text rows value h k e =
    let m = literal_meant floor line false rows value (rw (h, k) at e) in
    subst (λ xs. AloneMeant left floor line (124 ∷ xs) rows value) (sym (begins_is 45 text h))
    (a_scalar left floor line (124 ∷ 45 ∷ drop 1 text) m.said rows value m.is (says.Says.stripped k m.lines))
literal_by false true left floor line indent text rows value h k e =
    let m = literal_meant floor line true rows value (rw (h, k) at e) in
    a_scalar left floor line (124 ∷ text) m.said rows value m.is (says.Says.literal k m.lines)

single_open : (t : Bool) (left floor line indent : ℕ) (text : List ℕ) (rows : List Row) (value : YamlTree) → (single_from false text).rest ≡ None → has_closing_quote floor rows ≡ t →
    alone left floor (row line indent (39 ∷ text)) rows ≡ Ok value → AloneMeant left floor line (39 ∷ text) rows value
single_open false left floor line indent text rows value h c e = let never = rw (h, c) at e in absurd (cc)
single_open true left floor line indent text rows value h c e =
    let m = single_over_meant rows floor line (without_end (single_from false text).text) value c (rw (h, c) at e) in
    a_scalar left floor line (39 ∷ text) (without_end (single_from false text).text ++ m.said) rows value m.is (says.Says.single_over (open_meant text h) m.over)

single_by : (o : Option (List ℕ)) (left floor line indent : ℕ) (text : List ℕ) (rows : List Row) (value : YamlTree) → (single_from false text).rest ≡ o →
    alone left floor (row line indent (39 ∷ text)) rows ≡ Ok value → AloneMeant left floor line (39 ∷ text) rows value
single_by None left floor line indent text rows value h e = single_open (has_closing_quote floor rows) left floor line indent text rows value h refl e
single_by (Some rest) left floor line indent text rows value h e =
    let m = closed_meant (is_clear rest) line line (single_from false text).text rest rows value refl (rw h at e) in
    a_scalar left floor line (39 ∷ text) (single_from false text).text rows value m.1 (says.Says.single (single_meant text rest h) m.0 m.2)

double_by : (o : Option (List ℕ)) (g : Bool) (left floor line indent : ℕ) (text : List ℕ) (rows : List Row) (value : YamlTree) → (double_from false text).rest ≡ o → (double_from false text).good ≡ g →
    alone left floor (row line indent (34 ∷ text)) rows ≡ Ok value → AloneMeant left floor line (34 ∷ text) rows value
double_by None g left floor line indent text rows value h k e = let never = rw h at e in absurd (cc)
double_by (Some rest) false left floor line indent text rows value h k e = let never = rw (h, k) at e in absurd (cc)
double_by (Some rest) true left floor line indent text rows value h k e =
    let m = closed_meant (is_clear rest) line line (double_from false text).text rest rows value refl (rw (h, k) at e) in
    a_scalar left floor line (34 ∷ text) (double_from false text).text rows value m.1 (says.Says.double (double_meant text rest k h) m.0 m.2)

one_deep : (left n d : ℕ) → left ≢ 0 → n ≡ 0 → d ≡ suc n → d ≤ left
one_deep left n d some flat deep = grind arith

-- a flow sequence that has been read
sequence_of : (t₁ t₂ t₃ : Bool) (left floor line indent : ℕ) (text : List ℕ) (rows : List Row) (value : YamlTree) (r : FlowRead) → flow_items (length text + 2) 93 false text ≡ Ok r → r.good ≡ t₁ → is_clear r.rest ≡ t₂ → nat_eq left 0 ≡ t₃ →
    alone left floor (row line indent (91 ∷ text)) rows ≡ Ok value → AloneMeant left floor line (91 ∷ text) rows value
sequence_of false t₂ t₃ left floor line indent text rows value r f h₁ h₂ h₃ e = let never = rw (f, h₁) at e in absurd (cc)
sequence_of true false t₃ left floor line indent text rows value r f h₁ h₂ h₃ e = let never = rw (f, h₁, h₂) at e in absurd (cc)
sequence_of true true true left floor line indent text rows value r f h₁ h₂ h₃ e = let never = rw (f, h₁, h₂, h₃) at e in absurd (cc)
sequence_of true true false left floor line indent text rows value r f h₁ h₂ h₃ e =
    let made = trees_of (map (λ item. scalar line item.1) r.items) in
    let m = complete_meant (seq line made) value rows (rw (f, h₁, h₂, h₃) at e) in
    let means = in_flow_meant (length text + 2) 93 text r in_sequence_meant f h₁ in
    let flat = flat_items line r.items in
    let deep = seq_depth line made in
    let some = eqb-false left 0 h₃ in
    subst (AloneMeant left floor line (91 ∷ text) rows) (sym m.0) (record { means = says.Alone.flow_sequence means h₂ m.1; within = one_deep left (items_depth made) (depth (seq line made)) some flat deep })

map_of : (t₁ t₂ t₃ t₄ : Bool) (left floor line indent : ℕ) (text : List ℕ) (rows : List Row) (value : YamlTree) (r : FlowRead) → flow_items (length text + 2) 125 false text ≡ Ok r → r.good ≡ t₁ → is_clear r.rest ≡ t₂ →
    are_new [] (map (λ item. item.0) r.items) ≡ t₃ → nat_eq left 0 ≡ t₄ →
    alone left floor (row line indent (123 ∷ text)) rows ≡ Ok value → AloneMeant left floor line (123 ∷ text) rows value
map_of false t₂ t₃ t₄ left floor line indent text rows value r f h₁ h₂ h₃ h₄ e = let never = rw (f, h₁) at e in absurd (cc)
map_of true false t₃ t₄ left floor line indent text rows value r f h₁ h₂ h₃ h₄ e = let never = rw (f, h₁, h₂) at e in absurd (cc)
map_of true true false t₄ left floor line indent text rows value r f h₁ h₂ h₃ h₄ e = let never = rw (f, h₁, h₂, h₃) at e in absurd (cc)
map_of true true true true left floor line indent text rows value r f h₁ h₂ h₃ h₄ e = let never = rw (f, h₁, h₂, h₃, h₄) at e in absurd (cc)
map_of true true true false left floor line indent text rows value r f h₁ h₂ h₃ h₄ e =
    let made = entries_of (map (λ item. (item.0, scalar line item.1)) r.items) in
    let m = complete_meant (mapping line made) value rows (rw (f, h₁, h₂, h₃, h₄) at e) in
    let means = in_flow_meant (length text + 2) 125 text r in_map_meant f h₁ in
    let flat = flat_entries line r.items in
    let deep = map_depth line made in
    let some = eqb-false left 0 h₄ in
    subst (AloneMeant left floor line (123 ∷ text) rows) (sym m.0) (record { means = says.Alone.flow_map means h₂ m.1 (differ_meant (map (λ item. item.0) r.items) h₃); within = one_deep left (entries_depth made) (depth (mapping line made)) some flat deep })

sequence_by : (left floor line indent : ℕ) (text : List ℕ) (rows : List Row) (value : YamlTree) (r : Result FlowRead _) → flow_items (length text + 2) 93 false text ≡ r →
    alone left floor (row line indent (91 ∷ text)) rows ≡ Ok value → AloneMeant left floor line (91 ∷ text) rows value
sequence_by left floor line indent text rows value (Ok r) f e = sequence_of r.good (is_clear r.rest) (nat_eq left 0) left floor line indent text rows value r f refl refl refl e
sequence_by left floor line indent text rows value (Err g) f e = let never = rw f at e in absurd (cc)

map_by : (left floor line indent : ℕ) (text : List ℕ) (rows : List Row) (value : YamlTree) (r : Result FlowRead _) → flow_items (length text + 2) 125 false text ≡ r →
    alone left floor (row line indent (123 ∷ text)) rows ≡ Ok value → AloneMeant left floor line (123 ∷ text) rows value
map_by left floor line indent text rows value (Ok r) f e = map_of r.good (is_clear r.rest) (are_new [] (map (λ item. item.0) r.items)) (nat_eq left 0) left floor line indent text rows value r f refl refl refl refl e
map_by left floor line indent text rows value (Err g) f e = let never = rw f at e in absurd (cc)

-- a plain text
plain_more : (c : Bool) (left floor line indent : ℕ) (text : List ℕ) (rows : List Row) (value : YamlTree) → IsPlain text → has_comment text ≡ c → plain_of (row line indent text) rows ≡ Ok value → AloneMeant left floor line text rows value
plain_more true left floor line indent text rows value p c e =
    let m = complete_meant (scalar line (plain_part text)) value rows (rw c at e) in
    a_scalar left floor line text (plain_part text) rows value m.0 (says.Says.plain p c m.1)
plain_more false left floor line indent text rows value p c e =
    let m = plain_meant rows line (plain_part text) value (rw c at e) in
    a_scalar left floor line text (plain_part text ++ m.said) rows value m.is (says.Says.plain_over p c m.over)

plain_by : (left floor line indent : ℕ) (text : List ℕ) (rows : List Row) (value : YamlTree) → begins_other text ≡ false → flaw_or (plain_flaw text) line (plain_of (row line indent text) rows) ≡ Ok value → AloneMeant left floor line text rows value
plain_by left floor line indent text rows value o e =
    let only = only_none (λ f. flaw_or {A = YamlTree} f line (plain_of (row line indent text) rows)) (plain_flaw text) value (λ x k. cc) e in
    let two = either_none (start_flaw text) _ only.0 in
    plain_more (has_comment text) left floor line indent text rows value (o, two.0, none_if (has_colon (plain_part text)) _ two.1) refl only.1

alone_by : (t₁ t₂ t₃ t₄ t₅ : Bool) (left floor line indent : ℕ) (text : List ℕ) (rows : List Row) (value : YamlTree) → begins 124 text ≡ t₁ → begins 39 text ≡ t₂ → begins 34 text ≡ t₃ → begins 91 text ≡ t₄ → begins 123 text ≡ t₅ →
    alone left floor (row line indent text) rows ≡ Ok value → AloneMeant left floor line text rows value
alone_by true t₂ t₃ t₄ t₅ left floor line indent text rows value h₁ h₂ h₃ h₄ h₅ e =
    let is = begins_is 124 text h₁ in
    let t = begins 45 (drop 1 text) in
    subst (λ xs. AloneMeant left floor line xs rows value) (sym is)
    (literal_by t (is_clear (cond t (drop 1 (drop 1 text)) (drop 1 text))) left floor line indent (drop 1 text) rows value refl refl (subst (λ xs. alone left floor (row line indent xs) rows ≡ Ok value) is e))
alone_by false true t₃ t₄ t₅ left floor line indent text rows value h₁ h₂ h₃ h₄ h₅ e =
    let is = begins_is 39 text h₂ in
    subst (λ xs. AloneMeant left floor line xs rows value) (sym is)
    (single_by (single_from false (drop 1 text)).rest left floor line indent (drop 1 text) rows value refl (subst (λ xs. alone left floor (row line indent xs) rows ≡ Ok value) is e))
alone_by false false true t₄ t₅ left floor line indent text rows value h₁ h₂ h₃ h₄ h₅ e =
    let is = begins_is 34 text h₃ in
    subst (λ xs. AloneMeant left floor line xs rows value) (sym is)
    (double_by (double_from false (drop 1 text)).rest (double_from false (drop 1 text)).good left floor line indent (drop 1 text) rows value refl refl (subst (λ xs. alone left floor (row line indent xs) rows ≡ Ok value) is e))
alone_by false false false true t₅ left floor line indent text rows value h₁ h₂ h₃ h₄ h₅ e =
    let is = begins_is 91 text h₄ in
    subst (λ xs. AloneMeant left floor line xs rows value) (sym is)
    (sequence_by left floor line indent (drop 1 text) rows value (flow_items (length (drop 1 text) + 2) 93 false (drop 1 text)) refl (subst (λ xs. alone left floor (row line indent xs) rows ≡ Ok value) is e))
alone_by false false false false true left floor line indent text rows value h₁ h₂ h₃ h₄ h₅ e =
    let is = begins_is 123 text h₅ in
    subst (λ xs. AloneMeant left floor line xs rows value) (sym is)
    (map_by left floor line indent (drop 1 text) rows value (flow_items (length (drop 1 text) + 2) 125 false (drop 1 text)) refl (subst (λ xs. alone left floor (row line indent xs) rows ≡ Ok value) is e))
alone_by false false false false false left floor line indent text rows value h₁ h₂ h₃ h₄ h₅ e =
    let other : begins_other text ≡ false =
    or_from (begins 124 text || begins 39 text) (begins 34 text || (begins 91 text || begins 123 text)) (or_from (begins 124 text) (begins 39 text) h₁ h₂)
    (or_from (begins 34 text) (begins 91 text || begins 123 text) h₃ (or_from (begins 91 text) (begins 123 text) h₄ h₅)) in
    plain_by left floor line indent text rows value other (rw (h₁, h₂, h₃, h₄, h₅) at e)

pub alone_meant : (left floor line indent : ℕ) (text : List ℕ) (rows : List Row) (value : YamlTree) → alone left floor (row line indent text) rows ≡ Ok value → AloneMeant left floor line text rows value
alone_meant left floor line indent text rows value e =
    alone_by (begins 124 text) (begins 39 text) (begins 34 text) (begins 91 text) (begins 123 text) left floor line indent text rows value refl refl refl refl refl e
