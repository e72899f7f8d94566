-- Texts that stand alone begin no collection: the reader and the relation agree.
use Rattle.std.proofs.Common.{◌≡◌, ℕ, true, false, nat_eq, is_some, List, [], ◌∷◌, ◌++◌, drop, Option, Some, None, refl, sym, ap, ◌∙◌, arith}
use Rattle.std.proofs.lemmas.Bool.Decides.{nat_tests}
use Rattle.std.proofs.lemmas.Bool.{and_parts, or_parts, or_from}
use Rattle.rb_causes.specs.Texts.{is_blank}
use Rattle.rb_yaml.specs.Rows.{past_blanks}
use Rattle.rb_yaml.specs.Signs.{begins_item, begins_sign, is_nothing, is_clear, colon_at}
use Rattle.rb_yaml.specs.Keys.{plain_key_part, begins_with_key, begins_collection}
use Rattle.rb_yaml.specs.Rows.{Row}
use Rattle.rb_yaml.specs.Tree.{YamlTree}
use Rattle.rb_yaml_laws.specs.Plain.{begins_other}
use Rattle.rb_yaml_laws.specs.Keys.{IsFirstColon}
use Rattle.rb_yaml_laws.specs.Says as says
use Rattle.rb_yaml_laws.specs.Says.{Says, Alone}
use Rattle.rb_yaml_laws.specs.Nodes.{StandsAlone}
use Rattle.rb_yaml_laws.proofs.QuoteFacts.{single_read, open_read, double_read}
use Rattle.rb_yaml_laws.proofs.ColonFacts.{colon_read, colon_meant}
use Rattle.rb_yaml_laws.proofs.KeyFacts.{plain_part_read}

-- ---- no key

hash_is : (c : ℕ) → nat_eq c 35 ≡ true → nat_eq c 58 ≡ false
hash_is c h = grind (arith, nat_tests)

nothing_no_colon : (text : List ℕ) → is_nothing text ≡ true → begins_sign 58 text ≡ false
nothing_no_colon [] h = refl
nothing_no_colon (c ∷ cs) h = rw (hash_is c h) refl

clear_no_colon : (rest : List ℕ) → is_clear rest ≡ true → begins_sign 58 (past_blanks rest) ≡ false
clear_no_colon [] h = refl
clear_no_colon (b ∷ bs) h = nothing_no_colon (past_blanks (b ∷ bs)) ((and_parts (is_blank b) (is_nothing (past_blanks (b ∷ bs))) h).1)

abbrev NoColon : List ℕ → Type 0
NoColon text = (first : ℕ) (front behind : List ℕ) → text ≡ first ∷ front ++ 58 ∷ behind → IsFirstColon front behind → ⊥

part_by : (o : Option ℕ) (xs text : List ℕ) → text ≡ xs → NoColon text → colon_at false (drop 1 text) ≡ o → is_some (plain_key_part text) ≡ false
part_by None xs text e n h = rw h refl
part_by (Some at) [] text e n h = let never : colon_at false [] ≡ Some at = sym (ap (λ xs. colon_at false (drop 1 xs)) e) ∙ h in absurd (cc)
part_by (Some at) (first ∷ bs) text e n h =
    let m = colon_meant bs at (sym (ap (λ xs. colon_at false (drop 1 xs)) e) ∙ h) in
    absurd (n first m.front m.behind (e ∙ ap (λ xs. first ∷ xs) m.is) m.colon)

plain_no_key : (text : List ℕ) → begins_other text ≡ false → NoColon text → begins_with_key text ≡ false
plain_no_key text o n = ap is_some (plain_part_read text o) ∙ part_by (colon_at false (drop 1 text)) text text refl n refl

says_no_key : {floor : ℕ} {text said : List ℕ} {rows : List Row} → Says floor text rows said → (begins_other text ≡ false → NoColon text) → begins_with_key text ≡ false
says_no_key (says.Says.plain {text = text} p c b) n = plain_no_key text p.0 (n p.0)
says_no_key (says.Says.plain_over {text = text} p c o) n = plain_no_key text p.0 (n p.0)
says_no_key (says.Says.single {rest = rest} s c b) n = rw (single_read s, clear_no_colon rest c) refl
says_no_key (says.Says.single_over s o) n = rw (open_read s) refl
says_no_key (says.Says.double {rest = rest} d c b) n = rw (double_read d, clear_no_colon rest c) refl
says_no_key (says.Says.literal c l) n = refl
says_no_key (says.Says.stripped c l) n = refl

alone_no_key : {floor line : ℕ} {text : List ℕ} {rows : List Row} {value : YamlTree} → Alone floor line text rows value → (begins_other text ≡ false → NoColon text) → begins_with_key text ≡ false
alone_no_key (says.Alone.one s) n = says_no_key s n
alone_no_key (says.Alone.flow_sequence f c b) n = refl
alone_no_key (says.Alone.flow_map f c b d) n = refl

pub alone_begins : {floor line : ℕ} {text : List ℕ} {rows : List Row} {value : YamlTree} → Alone floor line text rows value → StandsAlone text → begins_collection text ≡ false
alone_begins {text = text} a s = or_from (begins_item text) (begins_with_key text) s.0 (alone_no_key a s.1)

-- ---- what begins no collection stands alone

key_found : (text : List ℕ) (first : ℕ) (front behind : List ℕ) → begins_other text ≡ false → text ≡ first ∷ front ++ 58 ∷ behind → IsFirstColon front behind → begins_with_key text ≡ true
key_found text first front behind o e c = ap is_some (plain_part_read text o) ∙ ap (λ xs. is_some (plain_key_part xs)) e ∙ rw (colon_read front behind c) refl

pub stands_alone : (text : List ℕ) → begins_collection text ≡ false → StandsAlone text
stands_alone text h = (
  (or_parts (begins_item text) (begins_with_key text) h).0,
  λ o first front behind e c. (let yes = key_found text first front behind o e c in let no = (or_parts (begins_item text) (begins_with_key text) h).1 in absurd (cc)),
)
