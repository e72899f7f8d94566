-- Each line of a value is read as it stands.
use Rattle.std.proofs.Common.{◌≡◌, ◌<◌, ℕ, zero, suc, ◌+◌, Bool, true, false, ◌||◌, nat_lt, codes, List, [], ◌∷◌, ◌++◌, replicate, refl, sym, subst, ◌∙◌, arith, append-nil}
use Rattle.std.proofs.lemmas.Bool.{and_parts, and_from, or_from}
use Rattle.std.proofs.lemmas.Bool.Decides.{nat_tests}
use Rattle.std.proofs.lemmas.List.Folds.{list_all-append}
use Rattle.std.proofs.lemmas.Str.{IsUtf8-append, IsUtf8-from_is_utf8, IsUtf8-nil}
use Rattle.std.specs.Str.{IsUtf8}
use Rattle.std.specs.List.{list_all, AllByRecursion as Each}
use Rattle.rb_causes.specs.Numbers.{is_letter}
use Rattle.rb_yaml.specs.Rows.{begins}
use Rattle.rb_yaml.specs.Markers.{is_mark}
use Rattle.rb_yaml.specs.Documents.{begins_control, has_control}
use Rattle.rb_yaml_laws.proofs.RowFacts.{each_append}
use Rattle.rb_canon.specs.Values.{CanonKey, plain, quoted, CanonTree, one_text, items_in, fields_in, Canons, no_canon, canon, Fields, no_field, field}
use Rattle.rb_canon.specs.Layout.{escapes, in_quotes, key_shown, Line, line_bytes, lines_bytes, marked, lines_of, item_lines, field_lines, lines_behind}
use Rattle.rb_canon_laws.specs.Writable.{is_clean, IsWritable, IsWritableKey, IsGood, AreGood, HaveGood}
use Rattle.rb_canon_laws.proofs.KeyLines.{unlike, key_end, quote_end, Leads, key_leads, lead_unlike}
use Rattle.rb_canon_laws.proofs.RowsRead.{stays, all_stay, Reads}
use Rattle.rb_canon_laws.proofs.Clean.{ascii_byte, quotes_utf8, utf8_ends, control_escapes, escapes_stay}

-- the text is a marker of documents, or a form that is not read
abbrev pub marks : List ℕ → Bool
marks text = begins 37 text || (is_mark 46 text || is_mark 45 text)

-- a text that may stand anywhere in a line
pub record Inside (text : List ℕ) : Type 0 where
  pub whole : all_stay text ≡ true
  pub control : has_control text ≡ false
  pub encoded : IsUtf8 text

-- the text of a line
pub record SoundText (text : List ℕ) : Type 0 where
  pub lead : begins 32 text ≡ false
  pub mark : marks text ≡ false
  pub inside : Inside text

abbrev pub Sound : Line → Type 0
Sound l = SoundText l.text

-- ---- texts in double quotes

quotes_whole : (text rest : List ℕ) → is_clean text ≡ true → all_stay rest ≡ true → all_stay (escapes text ++ 34 ∷ rest) ≡ true
quotes_whole text rest h k = list_all-append stays (escapes text) (34 ∷ rest) ∙ and_from (all_stay (escapes text)) (all_stay rest) (escapes_stay text h) k

quotes_inside : (text : List ℕ) → IsWritable text → Inside (in_quotes text)
quotes_inside text w =
    let u = IsUtf8-from_is_utf8 text w.encoded in
    record {
      whole = quotes_whole text [] w.clean refl;
      control = control_escapes text (34 ∷ []) w.clean (utf8_ends text u) refl;
      encoded = quotes_utf8 text u;
    }

quotes_sound : (text : List ℕ) → IsWritable text → SoundText (in_quotes text)
quotes_sound text w = record { lead = refl; mark = refl; inside = quotes_inside text w }

two_ascii : (a b : ℕ) → a < 128 → b < 128 → IsUtf8 (a ∷ b ∷ [])
two_ascii a b h k = IsUtf8-append (a ∷ []) (b ∷ []) (ascii_byte a h) (ascii_byte b k)

no_items_sound : SoundText (codes "[]")
no_items_sound = record { lead = refl; mark = refl; inside = record { whole = refl; control = refl; encoded = two_ascii 91 93 (omega arith) (omega arith) } }

no_fields_sound : SoundText (codes "{}")
no_fields_sound = record { lead = refl; mark = refl; inside = record { whole = refl; control = refl; encoded = two_ascii 123 125 (omega arith) (omega arith) } }

item_sound : (text : List ℕ) → SoundText text → SoundText (45 ∷ 32 ∷ text)
item_sound text s = record {
  lead = refl;
  mark = refl;
  inside = record {
    whole = s.inside.whole;
    control = s.inside.control;
    encoded = IsUtf8-append (45 ∷ 32 ∷ []) text (two_ascii 45 32 (omega arith) (omega arith)) s.inside.encoded;
  };
}

-- ---- keys

letter_high : (b : ℕ) → is_letter b ≡ true → nat_lt b 32 ≡ false
letter_high b h = grind (arith, nat_tests)

letter_ascii : (b : ℕ) → is_letter b ≡ true → b < 128
letter_ascii b h = grind (arith, nat_tests)

letters_whole : (bs rest : List ℕ) → list_all is_letter bs ≡ true → all_stay rest ≡ true → all_stay (bs ++ rest) ≡ true
letters_whole [] rest h k = k
letters_whole (b ∷ bs) rest h k =
    let parts = and_parts (is_letter b) (list_all is_letter bs) h in
    and_from (stays b) (all_stay (bs ++ rest)) (rw (unlike b 10 parts.0 refl, unlike b 13 parts.0 refl) refl) (letters_whole bs rest parts.1 k)

letters_control : (bs rest : List ℕ) → list_all is_letter bs ≡ true → has_control rest ≡ false → has_control (bs ++ rest) ≡ false
letters_control [] rest h k = k
letters_control (b ∷ bs) rest h k =
    let parts = and_parts (is_letter b) (list_all is_letter bs) h in
    or_from (begins_control (b ∷ (bs ++ rest))) (has_control (bs ++ rest))
    (rw (letter_high b parts.0, unlike b 127 parts.0 refl, unlike b 194 parts.0 refl) refl) (letters_control bs rest parts.1 k)

letters_utf8 : (bs : List ℕ) → list_all is_letter bs ≡ true → IsUtf8 bs
letters_utf8 [] h = IsUtf8-nil
letters_utf8 (b ∷ bs) h =
    let parts = and_parts (is_letter b) (list_all is_letter bs) h in
    IsUtf8-append (b ∷ []) bs (ascii_byte b (letter_ascii b parts.0)) (letters_utf8 bs parts.1)

key_whole : (key : CanonKey) (behind : List ℕ) → IsWritableKey key → all_stay behind ≡ true → all_stay ((key_shown key ++ 58 ∷ []) ++ behind) ≡ true
key_whole (plain key) behind g h = subst (λ (xs : List ℕ). all_stay xs ≡ true) (sym (key_end key behind)) (letters_whole key (58 ∷ behind) g.1 h)
key_whole (quoted key) behind g h = subst (λ (xs : List ℕ). all_stay xs ≡ true) (sym (quote_end (escapes key) behind)) (quotes_whole key (58 ∷ behind) g.clean h)

key_control : (key : CanonKey) (behind : List ℕ) → IsWritableKey key → has_control behind ≡ false → has_control ((key_shown key ++ 58 ∷ []) ++ behind) ≡ false
key_control (plain key) behind g h = subst (λ (xs : List ℕ). has_control xs ≡ false) (sym (key_end key behind)) (letters_control key (58 ∷ behind) g.1 h)
key_control (quoted key) behind g h =
    subst (λ (xs : List ℕ). has_control xs ≡ false) (sym (quote_end (escapes key) behind))
    (control_escapes key (34 ∷ 58 ∷ behind) g.clean (utf8_ends key (IsUtf8-from_is_utf8 key g.encoded)) h)

shown_utf8 : (key : CanonKey) → IsWritableKey key → IsUtf8 (key_shown key)
shown_utf8 (plain key) g = letters_utf8 key g.1
shown_utf8 (quoted key) g = quotes_utf8 key (IsUtf8-from_is_utf8 key g.encoded)

lead_is : (text : List ℕ) → Leads text → (begins 32 text ≡ false) × (marks text ≡ false)
lead_is text h =
    subst (λ (t : List ℕ). (begins 32 t ≡ false) × (marks t ≡ false)) (sym h.is)
    (lead_unlike h.first 32 h.leads refl, rw (lead_unlike h.first 37 h.leads refl, lead_unlike h.first 46 h.leads refl, lead_unlike h.first 45 h.leads refl) refl)

key_sound : (key : CanonKey) (behind : List ℕ) → IsWritableKey key → Inside behind → SoundText ((key_shown key ++ 58 ∷ []) ++ behind)
key_sound key behind g h =
    let l = lead_is ((key_shown key ++ 58 ∷ []) ++ behind) (key_leads key g behind) in
    record {
      lead = l.0;
      mark = l.1;
      inside = record {
        whole = key_whole key behind g h.whole;
        control = key_control key behind g h.control;
        encoded = IsUtf8-append (key_shown key ++ 58 ∷ []) behind (IsUtf8-append (key_shown key) (58 ∷ []) (shown_utf8 key g) (ascii_byte 58 (omega arith))) h.encoded;
      };
    }

nothing_inside : Inside []
nothing_inside = record { whole = refl; control = refl; encoded = IsUtf8-nil }

blank_inside : (text : List ℕ) → Inside text → Inside (32 ∷ text)
blank_inside text h = record { whole = h.whole; control = h.control; encoded = IsUtf8-append (32 ∷ []) text (ascii_byte 32 (omega arith)) h.encoded }

alone_sound : (key : CanonKey) → IsWritableKey key → SoundText (key_shown key ++ 58 ∷ [])
alone_sound key g = subst SoundText (append-nil (key_shown key ++ 58 ∷ [])) (key_sound key [] g nothing_inside)

-- ---- all lines

marked_sound : (i : ℕ) (ls : List Line) → Each Sound ls → Each Sound (marked i ls)
marked_sound i [] h = tt
marked_sound i (l ∷ ls) h = (item_sound l.text h.0, h.1)

mutual
  pub sound_lines : (i : ℕ) (value : CanonTree) → IsGood value → Each Sound (lines_of i value)
  sound_lines i (one_text text) g = (quotes_sound text g, tt)
  sound_lines i (items_in no_canon) g = (no_items_sound, tt)
  sound_lines i (items_in (canon value values)) g = sound_items i (canon value values) g
  sound_lines i (fields_in no_field) g = (no_fields_sound, tt)
  sound_lines i (fields_in (field key value fields)) g = sound_fields i (field key value fields) g.1

  sound_items : (i : ℕ) (values : Canons) → AreGood values → Each Sound (item_lines i values)
  sound_items i no_canon g = tt
  sound_items i (canon value values) g =
      each_append Sound (marked i (lines_of (i + 2) value)) (item_lines i values)
      (marked_sound i (lines_of (i + 2) value) (sound_lines (i + 2) value g.0)) (sound_items i values g.1)

  sound_fields : (i : ℕ) (fields : Fields) → HaveGood fields → Each Sound (field_lines i fields)
  sound_fields i no_field g = tt
  sound_fields i (field key value fields) g =
      each_append Sound (lines_behind i (key_shown key ++ 58 ∷ []) value) (field_lines i fields)
      (sound_behind i key value g.0 g.1) (sound_fields i fields g.2)

  sound_behind : (i : ℕ) (key : CanonKey) (value : CanonTree) → IsWritableKey key → IsGood value → Each Sound (lines_behind i (key_shown key ++ 58 ∷ []) value)
  sound_behind i key (one_text text) k g = (key_sound key (32 ∷ in_quotes text) k (blank_inside (in_quotes text) (quotes_inside text g)), tt)
  sound_behind i key (items_in no_canon) k g = (key_sound key (codes " []") k (blank_inside (codes "[]") no_items_sound.inside), tt)
  sound_behind i key (items_in (canon value values)) k g = (alone_sound key k, sound_items (i + 2) (canon value values) g)
  sound_behind i key (fields_in no_field) k g = (key_sound key (codes " {}") k (blank_inside (codes "{}") no_fields_sound.inside), tt)
  sound_behind i key (fields_in (field first value fields)) k g = (alone_sound key k, sound_fields (i + 2) (field first value fields) g.1)

-- ---- what follows for lists of lines

pub sound_reads : (ls : List Line) → Each Sound ls → Each Reads ls
sound_reads [] h = tt
sound_reads (l ∷ ls) h = (record { lead = h.0.lead; whole = h.0.inside.whole }, sound_reads ls h.1)

blanks_utf8 : (i : ℕ) → IsUtf8 (replicate i 32)
blanks_utf8 zero = IsUtf8-nil
blanks_utf8 (suc i) = IsUtf8-append (32 ∷ []) (replicate i 32) (ascii_byte 32 (omega arith)) (blanks_utf8 i)

pub sound_utf8 : (ls : List Line) → Each Sound ls → IsUtf8 (lines_bytes ls)
sound_utf8 [] h = IsUtf8-nil
sound_utf8 (l ∷ ls) h =
    IsUtf8-append (line_bytes l) (lines_bytes ls)
    (IsUtf8-append (replicate l.indent 32 ++ l.text) (10 ∷ [])
    (IsUtf8-append (replicate l.indent 32) l.text (blanks_utf8 l.indent) h.0.inside.encoded) (ascii_byte 10 (omega arith))) (sound_utf8 ls h.1)
