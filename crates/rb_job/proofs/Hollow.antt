-- Values without anything in them, one more of a list that a loop looks through.
use Rattle.std.proofs.Common.{◌≡◌, true, false, ◌&&◌, List, ◌∷◌, ap, sym, ◌∙◌}
use Rattle.rb_yaml.specs.Tree.{YamlTree, trees_of, entries_of}
use Rattle.rb_values.specs.Values.{Entry}
use Rattle.rb_job.specs.Parts.{is_hollow, are_hollow, have_hollow}

pub item_filled : (v : YamlTree) (left rest all : List YamlTree) → left ≡ v ∷ rest → is_hollow v ≡ false → are_hollow (trees_of left) ≡ are_hollow (trees_of all) → false ≡ are_hollow (trees_of all)
item_filled v left rest all is h same =
    sym (ap (λ b. b && are_hollow (trees_of rest)) h) ∙ sym (ap (λ ts. are_hollow (trees_of ts)) is) ∙ same

pub item_hollow : (v : YamlTree) (left rest all : List YamlTree) → left ≡ v ∷ rest → is_hollow v ≡ true → are_hollow (trees_of left) ≡ are_hollow (trees_of all) → are_hollow (trees_of rest) ≡ are_hollow (trees_of all)
item_hollow v left rest all is h same =
    sym (ap (λ b. b && are_hollow (trees_of rest)) h) ∙ sym (ap (λ ts. are_hollow (trees_of ts)) is) ∙ same

pub entry_filled : (e : Entry) (left rest all : List Entry) → left ≡ e ∷ rest → is_hollow e.1 ≡ false → have_hollow (entries_of left) ≡ have_hollow (entries_of all) → false ≡ have_hollow (entries_of all)
entry_filled e left rest all is h same =
    sym (ap (λ b. b && have_hollow (entries_of rest)) h) ∙ sym (ap (λ es. have_hollow (entries_of es)) is) ∙ same

pub entry_hollow : (e : Entry) (left rest all : List Entry) → left ≡ e ∷ rest → is_hollow e.1 ≡ true → have_hollow (entries_of left) ≡ have_hollow (entries_of all) → have_hollow (entries_of rest) ≡ have_hollow (entries_of all)
entry_hollow e left rest all is h same =
    sym (ap (λ b. b && have_hollow (entries_of rest)) h) ∙ sym (ap (λ es. have_hollow (entries_of es)) is) ∙ same
