use Rattle.std.proofs.Common.{◌≡◌, ◌∙◌, ◌++◌, Option, Some, None, ap, map, sym}
use Rattle.std.specs.List.{flat_map}
use Rattle.rb_values.specs.Values.{items_in, map_entries, sequence_items}
use Rattle.rb_yaml.specs.Tree.{YamlTree, yaml_tree}
use Rattle.rb_manifest.specs.Forms.{Flaws, are_formed, bad_names, entry_names, form_flaws, number_flaws, unknown_keys, unknown_of}
use Rattle.rb_manifest.specs.Rules.{form_of}
use Rattle.rb_manifest.proofs.Firsts.{behind, first, first_in_front, told_on, unknown_flat}
use Rattle.rb_manifest.proofs.flaws.entry_flaw.Goals as goal

pub returns-in-Some : goal.returns-in-Some
returns-in-Some c =
    let form = form_of c.args.kind in
    let value : YamlTree = yaml_tree c.args.value.now in
    first_in_front (unknown_keys form value) _ c.in-Some.flaw
    (sym c.in-Some.is ∙ c.in_ok-flaw.ensures
    ∙ ap (λ items. first (flat_map (λ (item : YamlTree). unknown_of form.keys
    (map_entries item)) items)) c.sequence_items.ensures
    ∙ ap first (sym (unknown_flat form.keys (sequence_items value))))

pub returns-in-None : goal.returns-in-None
returns-in-None c =
    let form = form_of c.args.kind in
    let value : YamlTree = yaml_tree c.args.value.now in
    let rest : Flaws =
    form_flaws (λ v. are_formed form (items_in v)) c.args.key.now value
    ++ (bad_names form.is_strict (entry_names form value)
    ++ number_flaws c.args.key.now form.most (entry_names form value)) in
    told_on c.formed_flaw.result (first rest) _
    (behind (unknown_keys form value) rest
    (sym c.in-None.is ∙ c.in_ok-flaw.ensures
    ∙ ap (λ items. first (flat_map (λ (item : YamlTree). unknown_of form.keys
    (map_entries item)) items)) c.sequence_items.ensures
    ∙ ap first (sym (unknown_flat form.keys (sequence_items value)))))
    c.formed_flaw.ensures
