use Rattle.std.proofs.Common.{◌∙◌, ap, map, sym}
use Rattle.rb_log.specs.Imports.{most_files}
use Rattle.rb_values.specs.Values.{scalar_or_empty}
use Rattle.rb_yaml.specs.Tree.{YamlTree, yaml_tree}
use Rattle.rb_manifest.specs.Forms.{form_flaws, is_list_with, number_flaws}
use Rattle.rb_manifest.specs.Keys.{any_text, item_texts}
use Rattle.rb_manifest.proofs.Firsts.{behind, first, told_on}
use Rattle.rb_manifest.proofs.flaws.file_flaw.Goals as goal

pub returns-in_ok-names-in-None : goal.returns-in_ok-names-in-None
unfolding most_files
returns-in_ok-names-in-None c =
    let value : YamlTree = yaml_tree c.args.value.now in
    told_on c.number_flaw.result _ _
    (ap (λ ns. first (number_flaws c.args.key.now 64 ns)) (c.as_slice.ensures
    ∙ c.in_ok-names-in-None.ensures ∙ ap (map scalar_or_empty) c.sequence_items.ensures)
    ∙ behind (form_flaws (is_list_with any_text) c.args.key.now value)
    (number_flaws c.args.key.now most_files (item_texts value))
    (sym c.in-None.is ∙ c.in_ok-flaw.ensures))
    c.number_flaw.ensures
