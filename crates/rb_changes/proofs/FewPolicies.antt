-- A file has few policies, and so have all that are in force.
use Rattle.std.proofs.Common.{◌≡◌, ◌∙◌, ◌≤◌, ◌+◌, ◌*◌, ◌^◌, ℕ, suc, nat_lt, List, [], ◌∷◌, length, length-append, Bool, true, false, All, Some, Result, Ok, Err, ap, sym, refl, arith}
use Rattle.std.proofs.lemmas.Bool.Decides.{nat_tests}
use Rattle.rb_causes.specs.declared.row.Row.{Row}
use Rattle.rb_yaml.specs.Documents.{docs_of}
use Rattle.rb_yaml.specs.Telling.{whole_fault, yaml_fault}
use Rattle.rb_yaml.specs.Tree.{YamlTree}
use Rattle.rb_yaml.specs.TreeSizes.{docs_size}
use Rattle.rb_yaml.specs.declared.fault.YamlFault.{YamlFault}
use Rattle.rb_yaml.specs.declared.fault.YamlKind.TheVariants as kinds
use Rattle.rb_yaml.proofs.DocFacts.{docs_of_bad}
use Rattle.rb_yaml.proofs.SizeFacts.{docs_count}
use Rattle.rb_yaml_laws.specs.Sizes.{SizeIsBounded}
use Rattle.rb_acl.specs.Numbering.{IsPolicyNumbered}
use Rattle.rb_acl.specs.declared.policy.Policy.{Policy}
use Rattle.rb_acl_doc.specs.Laws.{SmallAreNumbered}
use Rattle.rb_acl_doc.specs.Policies.{policies_from}
use Rattle.rb_log.specs.World.{Latest, docs_in, policies_in, policies_of_files, read_or}

-- ---- the policies of a row

-- a text that is read is no larger than 2^20 bytes
read_small : (b : Bool) (body : List ℕ) (docs : List YamlTree) → nat_lt (2 ^ 20) (length body) ≡ b
    → docs_of body ≡ Ok docs → length body ≤ 2 ^ 20
read_small true body docs is read =
    absurd (let large : whole_fault body ≡ Some (yaml_fault kinds.TooLarge 1) = rw is refl in
    let wrong = sym (docs_of_bad body (yaml_fault kinds.TooLarge 1) large) ∙ read in
    grind (arith, wrong))
read_small false body docs is read = grind (arith, nat_tests, is)

docs_small_by : SizeIsBounded → (body : List ℕ) (read : Result (List YamlTree) YamlFault)
    → docs_of body ≡ read → docs_size (read_or [] read) ≤ 2 ^ 20 + 1
docs_small_by law body (Ok docs) is =
    omega (
      arith,
      law body docs is,
      read_small (nat_lt (2 ^ 20) (length body)) body docs refl is,
    )
docs_small_by law body (Err fault) is = omega arith

docs_small : SizeIsBounded → (row : Row) → docs_size (docs_in row) ≤ 2 ^ 20 + 1
docs_small law row = docs_small_by law row.body (docs_of row.body) refl

policies_many : (file : List ℕ) (n : ℕ) (docs : List YamlTree)
    → length (policies_from file n docs) ≡ length docs
policies_many file n [] = refl
policies_many file n (doc ∷ docs) = ap suc (policies_many file (n + 1) docs)

pub row_few : SizeIsBounded → (row : Row) → length (policies_in row) ≤ 2 ^ 20 + 1
row_few law row =
    omega (
      arith,
      policies_many row.name 1 (docs_in row),
      docs_count (docs_in row),
      docs_small law row,
    )

-- 32 bits number them
pub row_numbered : SizeIsBounded → SmallAreNumbered → (row : Row)
    → All IsPolicyNumbered (policies_in row)
row_numbered sizes small row =
    (small row.name (docs_in row) (omega (arith, docs_small sizes row))).1

-- ---- the policies in force

abbrev all_of : List Latest → List Policy
all_of files = (policies_of_files files).docs

-- so many for each file at most
pub policies_few : SizeIsBounded → (files : List Latest)
    → length (all_of files) ≤ (2 ^ 20 + 1) * length files
policies_few law [] = omega arith
policies_few law (l ∷ ls) =
    omega (
      arith,
      length-append (policies_in l.row) (all_of ls),
      row_few law l.row,
      policies_few law ls,
    )
