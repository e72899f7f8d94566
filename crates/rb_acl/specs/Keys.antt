-- The one nodename or name that a rule asks for.
use Rattle.std.specs.Prelude.{List, [], ◌∷◌, ℕ, bytes_eq, codes, if◌then◌else◌}
use Rattle.rb_acl.specs.declared.policy.Test.{Test}
use Rattle.rb_acl.specs.declared.policy.Test.TheVariants.{Match, Equals, Contains, Subset}
use Rattle.rb_acl.specs.declared.keys.Key.{Key}
use Rattle.rb_acl.specs.declared.keys.Key.TheVariants.{Nodename, Name, Neither}

-- the property of a node's name, and that of other resources
abbrev pub the_nodename : List ℕ
the_nodename = codes "nodename"

abbrev pub the_name : List ℕ
the_name = codes "name"

-- a test that the property has this text
abbrev pub key_under : List ℕ → List ℕ → Key
key_under key text =
    if bytes_eq key the_nodename then Nodename text
    else (if bytes_eq key the_name then Name text else Neither)

-- a test that lists one text asks for it
abbrev pub key_in : Test → Key
key_in (Match key patterns) = Neither
key_in (Equals key []) = Neither
key_in (Equals key (text ∷ [])) = key_under key text
key_in (Equals key (text ∷ other ∷ texts)) = Neither
key_in (Contains key texts) = Neither
key_in (Subset key texts) = Neither

abbrev pub key_or : Key → Key → Key
key_or (Nodename text) other = Nodename text
key_or (Name text) other = Name text
key_or Neither other = other

-- the first that one of the tests asks for
abbrev pub index_key : List Test → Key
index_key [] = Neither
index_key (test ∷ tests) = key_or (key_in test) (index_key tests)
