-- Worked texts.
use Rattle.std.proofs.Common.{◌≡◌, [], ◌∷◌, codes, refl}
use Rattle.rb_canon.specs.Values.{plain, quoted, CanonTree, one_text, list_of, map_of}
use Rattle.rb_canon.specs.Layout.{canon_of, canon_docs_of}

abbrev job : CanonTree
job =
    map_of ((plain (codes "name"), one_text (codes "hello"))
    ∷ (plain (codes "sequence"), map_of ((plain (codes "commands"), list_of (map_of ((plain (codes "exec"), one_text (codes "\"echo\" \"hi\"")) ∷ []) ∷ [])) ∷ []))
    ∷ (plain (codes "nodefilters"), map_of ((plain (codes "filter"), one_text (codes "localhost")) ∷ [])) ∷ [])

-- a list of maps, a list in a map in a list
pub one_job : canon_docs_of (list_of (job ∷ []) ∷ [])
    ≡ codes "- name: \"hello\"\n  sequence:\n    commands:\n      - exec: \"\\\"echo\\\" \\\"hi\\\"\"\n  nodefilters:\n    filter: \"localhost\"\n"
one_job = refl

-- no documents, and two
pub no_documents : canon_docs_of [] ≡ []
no_documents = refl

pub two_documents : canon_docs_of (list_of [] ∷ map_of ((quoted (codes "a b"), map_of []) ∷ (plain (codes "c"), list_of []) ∷ []) ∷ [])
    ≡ codes "[]\n---\n\"a b\": {}\nc: []\n"
two_documents = refl

-- the four escapes
pub escaped : canon_of (one_text (codes "a\tb\nc\\d\"e")) ≡ codes "\"a\\tb\\nc\\\\d\\\"e\"\n"
escaped = refl
