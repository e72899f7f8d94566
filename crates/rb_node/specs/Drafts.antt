-- How the words of a filter make clauses: each with its attribute and the text of its value.
use Rattle.std.specs.Prelude.{ℕ, ◌+◌, ◌-◌, Bool, false, not, ◌||◌, ◌&&◌, nat_eq, List, [], ◌∷◌, ◌++◌, length, map, Option, Some, None, codes, slice_get, encode_utf8, if◌then◌else◌}
use Rattle.rb_causes.specs.Signs.{colon, comma, exclamation_mark}
use Rattle.rb_causes.specs.declared.letter.Letter.{Letter}
use Rattle.rb_node.specs.declared.drafting.Draft.{Draft}
use Rattle.rb_node.specs.declared.drafting.Drafts.{Drafts}

-- the bytes of a text of these characters
abbrev pub spelled : List ℕ → List ℕ
spelled [] = []
spelled (c ∷ cs) = encode_utf8 c ++ spelled cs

-- the characters of a word
abbrev pub letters : List Letter → List ℕ
letters word = map (λ l. l.sign) word

-- this character, and no quote holds it
abbrev pub is_bare : ℕ → Letter → Bool
is_bare c l = nat_eq l.sign c && not l.is_quoted

-- the word begins with a bare !
abbrev pub excludes_nodes : List Letter → Bool
excludes_nodes [] = false
excludes_nodes (l ∷ ls) = is_bare exclamation_mark l

-- the word behind that !
abbrev pub body_of : List Letter → List Letter
body_of [] = []
body_of (l ∷ ls) = if is_bare exclamation_mark l then ls else l ∷ ls

-- what stands before the first bare colon
abbrev pub before_colon : List Letter → List Letter
before_colon [] = []
before_colon (l ∷ ls) = if is_bare colon l then [] else l ∷ before_colon ls

-- what stands behind it, if there is one
abbrev pub letters_behind_colon : List Letter → Option (List Letter)
letters_behind_colon [] = None
letters_behind_colon (l ∷ ls) = if is_bare colon l then Some ls else letters_behind_colon ls

-- an attribute with its value, which the next word is where this one has none; an empty attribute
-- is no clause
abbrev pub named_draft : Bool → List ℕ → List Letter → Option Draft
named_draft exclude attr rest =
    if nat_eq (length attr) 0 then None
    else Some (record {
      exclude = exclude;
      attr = attr;
      value = letters rest;
      lacks_value = nat_eq (length rest) 0;
    })

-- a word without a bare colon is a value for the name
abbrev pub begun_by : Bool → List Letter → Option (List Letter) → Option Draft
begun_by exclude body None =
    Some (record {
      exclude = exclude;
      attr = codes "name";
      value = letters body;
      lacks_value = false;
    })
begun_by exclude body (Some rest) = named_draft exclude (spelled (letters (before_colon body))) rest

-- what a word begins; a lone ! is no clause
abbrev pub draft_begun : List Letter → Option Draft
draft_begun word =
    if excludes_nodes word && nat_eq (length (body_of word)) 0 then None
    else begun_by (excludes_nodes word) (body_of word) (letters_behind_colon (body_of word))

abbrev pub is_comma : Option ℕ → Bool
is_comma None = false
is_comma (Some c) = nat_eq c comma

-- it takes the next word: it has no value yet, or one that ends with a comma
abbrev pub wants_more : Draft → Bool
wants_more d = d.lacks_value || is_comma (slice_get d.value (length d.value - 1))

-- with the next word joined to its value
abbrev pub joined_with : Draft → List Letter → Draft
joined_with d word = record {
  exclude = d.exclude;
  attr = d.attr;
  value = d.value ++ letters word;
  lacks_value = false;
}

-- the clause at hand behind a word: the one that is to go on, or a new one
abbrev pub next_draft : Option Draft → List Letter → Option Draft
next_draft None word = draft_begun word
next_draft (Some d) word = Some (joined_with d word)

-- drafts before others
abbrev pub drafts_before : List Draft → Drafts → Drafts
drafts_before ds rest = record { drafts = ds ++ rest.drafts; bad = rest.bad }

-- no clause at this word, or a clause that goes on, or one that is whole
abbrev pub drafts_at : ℕ → Option Draft → (Option Draft → Drafts) → Drafts
drafts_at at None later = record { drafts = []; bad = Some at }
drafts_at at (Some d) later =
    if wants_more d then later (Some d) else drafts_before (d ∷ []) (later None)

-- the end of the words: a clause that would go on ends
abbrev pub last_draft : Option Draft → Drafts
last_draft None = record { drafts = []; bad = None }
last_draft (Some d) = record { drafts = d ∷ []; bad = None }

-- the clauses from a word with this number on, as far as the first word that is none
abbrev pub drafts_from : ℕ → Option Draft → List (List Letter) → Drafts
drafts_from at pending [] = last_draft pending
drafts_from at pending (w ∷ ws) =
    drafts_at at (next_draft pending w) (λ p. drafts_from (at + 1) p ws)

abbrev pub drafts_of : List (List Letter) → Drafts
drafts_of words = drafts_from 1 None words
