-- What is known of the policies of documents by the size of these, and of the flaw that is told.
use Rattle.std.specs.Prelude.{◌≡◌, ◌≤◌, ◌<◌, ◌^◌, ℕ, List, [], ◌∷◌, ◌++◌, All, Some, None}
use Rattle.rb_yaml.specs.Tree.{YamlTree}
use Rattle.rb_yaml.specs.TreeSizes.{docs_size}
use Rattle.rb_acl.specs.Numbering.{AreNumbered}
use Rattle.rb_acl_doc.specs.Policies.{policies_from}
use Rattle.rb_acl_doc.specs.Telling.{foremost_kind, kind_rank}
use Rattle.rb_acl_doc.specs.declared.fault.AclKind.{AclKind}

-- 32 bits number the policies of documents that have fewer than 2^32 values
abbrev pub SmallAreNumbered : Type 0
SmallAreNumbered =
    (file : List ℕ) (docs : List YamlTree) → docs_size docs < 2 ^ 32 →
    AreNumbered (record { docs = policies_from file 1 docs })

-- One of these flaws: those written before it are of later kinds, and those behind it of no earlier
-- one.
pub record IsForemost (flaws : List AclKind) (told : AclKind) : Type 0 where
  pub before : List AclKind
  pub behind : List AclKind
  pub there : flaws ≡ before ++ told ∷ behind
  pub later : All (λ k. kind_rank told < kind_rank k) before
  pub no_earlier : All (λ k. kind_rank told ≤ kind_rank k) behind

-- The flaw that is told is the foremost of them, and none is told only where there is none.
pub record ForemostIsTold : Type 0 where
  pub told : (flaws : List AclKind) (k : AclKind) → foremost_kind flaws ≡ Some k
      → IsForemost flaws k
  pub none : (flaws : List AclKind) → foremost_kind flaws ≡ None → flaws ≡ []
