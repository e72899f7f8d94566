-- The way out of each rule of YAML that a file may break.
use Rattle.std.specs.Prelude.{ℕ, List, [], ◌∷◌, bytes_eq, codes, if◌then◌else◌}
use Rattle.rb_remarks.specs.Tables.{text_by}
use Rattle.rb_yaml.specs.declared.fault.YamlKind.{YamlKind}
use Rattle.rb_yaml.specs.declared.fault.YamlKind.TheVariants.{TooLarge, NotUtf8, Tab, Indent, Form, DuplicateKey, TooDeep, OutOfProfile}

-- what to write instead of a form of YAML that is not read
abbrev pub form_ways : List (List ℕ × List ℕ)
form_ways =
    (codes "anchor", codes "write the value out at each place: anchors and aliases are not read")
    ∷ (codes "alias", codes "quote a text that begins with `*`; anchors and aliases are not read")
    ∷ (codes "tag", codes "quote a text that begins with `!`; tags are not read")
    ∷ (codes "folded scalar", codes "write a literal (`|`), or the text on one line")
    ∷ (codes "complex key", codes "write KEY: VALUE")
    ∷ (codes "literal form", codes "write a literal as `|`, `|-` or `|+` alone, without a number behind it")
    ∷ (codes "nested flow", codes "write all but one level of { } and [ ] over lines")
    ∷ (codes "multi-line flow", codes "write all between { } or [ ] on one line, or all over lines")
    ∷ (codes "multi-line double quote", codes "write all between the quotes on one line, or behind `|`")
    ∷ (codes "inline document", codes "write what stands behind --- on the next line")
    ∷ (codes "document end", codes "take ... out, or write --- there")
    ∷ (codes "directive", codes "take the line that begins with % out")
    ∷ []

abbrev pub form_way : List ℕ → List ℕ
form_way form = text_by form_ways (codes "take it out") form

-- the way out of a rule that is broken
abbrev pub fault_way : YamlKind → List ℕ
fault_way TooLarge = codes "the file has over a megabyte: write it as several"
fault_way NotUtf8 = codes "the file is no UTF-8 here: write it in UTF-8"
fault_way Tab = codes "a tab stands where spaces indent: write spaces"
fault_way Indent = codes "write as many spaces before the line as before its like"
fault_way Form = codes "quote a text with signs in it, and close each quote"
fault_way DuplicateKey = codes "the key stands twice in its map: take one of them out"
fault_way TooDeep = codes "maps and lists are nested over 32 deep"
fault_way (OutOfProfile form) = form_way form
