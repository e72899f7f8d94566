-- What documents are read as, and which fault is told.
use Rattle.std.specs.Prelude.{◌≡◌, ◌⊎◌, ℕ, ◌+◌, Bool, true, false, List, [], ◌∷◌, ◌++◌, length, Some, None}
use Rattle.rb_text.specs.declared.pattern_err.PatternErr.{PatternErr}
use Rattle.rb_text.specs.declared.pattern_err.PatternErr.TheVariants as refusal
use Rattle.rb_yaml.specs.Tree.{YamlTree}
use Rattle.rb_acl_doc.specs.Keys.{flaws_of}
use Rattle.rb_acl_doc.specs.Telling.{foremost_kind}
use Rattle.rb_acl_doc.specs.Policies.{policy_of}
use Rattle.rb_acl_doc.specs.Patterns.{patterns_of, ArePatterns, HasRefused}
use Rattle.rb_acl_doc.specs.declared.fault.AclKind.{AclKind}
use Rattle.rb_acl_doc.specs.declared.fault.AclKind.TheVariants.{MissingContext, MissingBy, MissingFor, UnknownKey, BadPattern, NoAction, BadShape}
use Rattle.rb_acl_doc.specs.declared.fault.AclErr.{AclErr}
use Rattle.rb_acl_doc.specs.declared.fault.AclErr.TheVariants as errors

-- the patterns that a document holds
abbrev pub patterns_in : YamlTree → List (List ℕ)
patterns_in doc = patterns_of (policy_of [] 0 doc)

-- A document is sound: it has no flaw, and its patterns are read.
pub record IsSoundDoc (doc : YamlTree) : Type 0 where
  pub flawless : foremost_kind (flaws_of doc) ≡ None
  pub read : ArePatterns (patterns_in doc)

-- The fault of a document is the foremost of its flaws. A pattern that is refused comes before a
-- rule without an action, and behind all else.
abbrev pub IsDocFault : YamlTree → AclKind → Type 0
IsDocFault doc (BadPattern e) =
    ((foremost_kind (flaws_of doc) ≡ None) ⊎ (foremost_kind (flaws_of doc) ≡ Some NoAction))
    × HasRefused e (patterns_in doc)
IsDocFault doc NoAction =
    (foremost_kind (flaws_of doc) ≡ Some NoAction) × ArePatterns (patterns_in doc)
IsDocFault doc MissingContext = foremost_kind (flaws_of doc) ≡ Some MissingContext
IsDocFault doc MissingBy = foremost_kind (flaws_of doc) ≡ Some MissingBy
IsDocFault doc MissingFor = foremost_kind (flaws_of doc) ≡ Some MissingFor
IsDocFault doc (UnknownKey key) = foremost_kind (flaws_of doc) ≡ Some (UnknownKey key)
IsDocFault doc (BadShape key) = foremost_kind (flaws_of doc) ≡ Some (BadShape key)

-- why the document of this number is refused: for its fault, or for want of memory
abbrev pub IsDocRefusal : ℕ → YamlTree → AclErr → Type 0
IsDocRefusal place doc errors.NoMemory = Unit {0}
IsDocRefusal place doc (errors.Fault fault) = (fault.doc ≡ place) × IsDocFault doc fault.kind

abbrev pub is_no_action : AclKind → Bool
is_no_action NoAction = true
is_no_action (BadPattern e) = false
is_no_action MissingContext = false
is_no_action MissingBy = false
is_no_action MissingFor = false
is_no_action (UnknownKey key) = false
is_no_action (BadShape key) = false

-- a pattern of this document is refused for this cause
abbrev pub bad_pattern : ℕ → PatternErr → AclErr
bad_pattern place e = errors.Fault (record { doc = place; kind = BadPattern e })

-- how the refusal of a pattern of this document is told
abbrev pub pattern_refusal : ℕ → PatternErr → AclErr
pattern_refusal place refusal.NoMemory = errors.NoMemory
pattern_refusal place refusal.BadPattern = bad_pattern place refusal.BadPattern
pattern_refusal place refusal.TooLong = bad_pattern place refusal.TooLong
pattern_refusal place refusal.TooBig = bad_pattern place refusal.TooBig

abbrev pub AreSound : List YamlTree → Type 0
AreSound [] = Unit {0}
AreSound (doc ∷ docs) = IsSoundDoc doc × AreSound docs

-- An error tells of the first document that is not sound, of those numbered from 1.
pub record IsFirstRefusal (docs : List YamlTree) (e : AclErr) : Type 0 where
  pub before : List YamlTree
  pub doc : YamlTree
  pub behind : List YamlTree
  pub given : docs ≡ before ++ doc ∷ behind
  pub sound : AreSound before
  pub fault : IsDocRefusal (length before + 1) doc e

-- why documents are refused: for the first fault, or for want of memory
abbrev pub RefusesDocs : List YamlTree → AclErr → Type 0
RefusesDocs docs errors.NoMemory = Unit {0}
RefusesDocs docs (errors.Fault fault) = IsFirstRefusal docs (errors.Fault fault)
