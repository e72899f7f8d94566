use Rattle.std.proofs.Common.{◌≡◌, ◌+◌, ◌++◌, [], drop, take, map, ap, sym, subst, ◌∙◌}
use Rattle.std.specs.Option.{option_to_list}
use Rattle.rb_causes.specs.SeenTexts.{HasSeen}
use Rattle.rb_causes.proofs.Lists.{item_at}
use Rattle.rb_yaml.specs.Tree.{yaml_tree, pair_tree, seq, mapping, trees_of, entries_of}
use Rattle.rb_job.specs.Doubts.{entry_place, inner_place, list_doubts, map_doubts, value_doubts, items_doubts, entries_doubts}
use Rattle.rb_job.specs.Parts.{are_hollow, have_hollow}
use Rattle.rb_job.specs.Telling.{AllPass, Halts, TellsFirst}
use Rattle.rb_job.specs.Table.{form_of}
use Rattle.rb_job.proofs.Looking.{items_on, items_halt, entries_on, entries_halt, same_doubts, before_more}
use Rattle.rb_values.proofs.Trees.{tree-Seq, tree-Map, pair_value}
use Rattle.rb_job.proofs.Valued.{tells_handed, list_halts, list_passes, list_alone, map_halts, map_passes}
use Rattle.rb_job.proofs.checking.+checking.Goals as goal

pub check_value-returns-in_err-check_items-in-Some : goal.check_value-returns-in_err-check_items-in-Some
check_value-returns-in_err-check_items-in-Some t c =
    let vs = map yaml_tree c.in-Seq.items.items in
    let value_is : yaml_tree c.args.value.now ≡ seq c.in-Seq.line (trees_of (map yaml_tree c.in-Seq.items.items)) = ap yaml_tree c.in-Seq.is ∙ tree-Seq c.in-Seq.line c.in-Seq.items in
    let e = c.in_err-check_items-in-Some.field-0.0 in
    tells_handed c.from_residual.result e (value_doubts c.args.place c.args.form c.args.key.now (yaml_tree c.args.value.now)) c.from_residual.ensures.1
    (list_halts c.args.place c.args.form c.args.key.now (yaml_tree c.args.value.now) c.in-Seq.line vs value_is c.in-Some.part e (sym c.item_part.ensures ∙ c.in-Some.is)
    (subst (λ xs. Halts (items_doubts c.in-Some.part [] c.args.key.now (trees_of (map yaml_tree xs))) e) c.as_slice-in-Some.ensures.value c.in_err-check_items-in-Some.ensures))

pub check_value-returns-in_ok-check_items-in-Some : goal.check_value-returns-in_ok-check_items-in-Some
check_value-returns-in_ok-check_items-in-Some t c =
    let vs = map yaml_tree c.in-Seq.items.items in
    let value_is : yaml_tree c.args.value.now ≡ seq c.in-Seq.line (trees_of (map yaml_tree c.in-Seq.items.items)) = ap yaml_tree c.in-Seq.is ∙ tree-Seq c.in-Seq.line c.in-Seq.items in
    list_passes c.args.place c.args.form c.args.key.now (yaml_tree c.args.value.now) c.in-Seq.line vs value_is c.in-Some.part c.check_list-in-Some.result (sym c.item_part.ensures ∙ c.in-Some.is)
    (subst (λ xs. AllPass (items_doubts c.in-Some.part [] c.args.key.now (trees_of (map yaml_tree xs)))) c.as_slice-in-Some.ensures.value c.in_ok-check_items-in-Some.ensures)
    (subst (λ xs. TellsFirst (list_doubts c.args.place c.args.form c.args.key.now (map yaml_tree xs) (are_hollow (trees_of (map yaml_tree xs)))) c.check_list-in-Some.result) c.as_slice-in-Some-2.ensures.value c.check_list-in-Some.ensures)

pub check_value-returns-in-None : goal.check_value-returns-in-None
check_value-returns-in-None t c =
    let vs = map yaml_tree c.in-Seq.items.items in
    let value_is : yaml_tree c.args.value.now ≡ seq c.in-Seq.line (trees_of (map yaml_tree c.in-Seq.items.items)) = ap yaml_tree c.in-Seq.is ∙ tree-Seq c.in-Seq.line c.in-Seq.items in
    list_alone c.args.place c.args.form c.args.key.now (yaml_tree c.args.value.now) c.in-Seq.line vs value_is c.check_list.result (sym c.item_part.ensures ∙ c.in-None.is)
    (subst (λ xs. TellsFirst (list_doubts c.args.place c.args.form c.args.key.now (map yaml_tree xs) (are_hollow (trees_of (map yaml_tree xs)))) c.check_list.result) c.as_slice.ensures.value c.check_list.ensures)

pub check_value-returns-in_err-check_entries-in-Some-map_part : goal.check_value-returns-in_err-check_entries-in-Some-map_part
check_value-returns-in_err-check_entries-in-Some-map_part t c =
    let es = map pair_tree c.in-Map.entries.items in
    let value_is : yaml_tree c.args.value.now ≡ mapping c.in-Map.line (entries_of (map pair_tree c.in-Map.entries.items)) = ap yaml_tree c.in-Map.is ∙ tree-Map c.in-Map.line c.in-Map.entries in
    let e = c.in_err-check_entries-in-Some-map_part.field-0.0 in
    let part = c.in-Some-map_part.part in
    tells_handed c.from_residual-in_err-check_entries-in-Some-map_part.result e (value_doubts c.args.place c.args.form c.args.key.now (yaml_tree c.args.value.now)) c.from_residual-in_err-check_entries-in-Some-map_part.ensures.1
    (map_halts c.args.place c.args.form c.args.key.now (yaml_tree c.args.value.now) c.in-Map.line es value_is part e (sym c.map_part.ensures ∙ c.in-Some-map_part.is)
    (subst (λ p. Halts (entries_doubts part p [] (entries_of es)) e) (c.inner_place-place_inside.ensures ∙ ap (λ xs. inner_place c.args.place (map pair_tree xs)) c.as_slice-in-Some-map_part.ensures.value)
    (subst (λ xs. Halts (entries_doubts part c.inner_place-place_inside.result [] (entries_of (map pair_tree xs))) e) c.as_slice-in-Some-map_part-2.ensures.value c.in_err-check_entries-in-Some-map_part.ensures)))

pub check_value-returns-in_ok-check_entries-in-Some-map_part : goal.check_value-returns-in_ok-check_entries-in-Some-map_part
check_value-returns-in_ok-check_entries-in-Some-map_part t c =
    let es = map pair_tree c.in-Map.entries.items in
    let value_is : yaml_tree c.args.value.now ≡ mapping c.in-Map.line (entries_of (map pair_tree c.in-Map.entries.items)) = ap yaml_tree c.in-Map.is ∙ tree-Map c.in-Map.line c.in-Map.entries in
    let part = c.in-Some-map_part.part in
    map_passes c.args.place c.args.form c.args.key.now (yaml_tree c.args.value.now) c.in-Map.line es value_is part c.check_map-in-Some-map_part.result (sym c.map_part.ensures ∙ c.in-Some-map_part.is)
    (subst (λ p. AllPass (entries_doubts part p [] (entries_of es))) (c.inner_place-place_inside.ensures ∙ ap (λ xs. inner_place c.args.place (map pair_tree xs)) c.as_slice-in-Some-map_part.ensures.value)
    (subst (λ xs. AllPass (entries_doubts part c.inner_place-place_inside.result [] (entries_of (map pair_tree xs)))) c.as_slice-in-Some-map_part-2.ensures.value c.in_ok-check_entries-in-Some-map_part.ensures))
    (subst (λ xs. TellsFirst (map_doubts c.args.place c.args.form c.args.key.now (map pair_tree xs) (have_hollow (entries_of (map pair_tree xs)))) c.check_map-in-Some-map_part.result) c.as_slice-in-Some-map_part-3.ensures.value c.check_map-in-Some-map_part.ensures)

pub check_items-returns-in_err-check_value : goal.check_items-returns-in_err-check_value
check_items-returns-in_err-check_value t c =
    let vs = c.args.items.now in
    let item = yaml_tree c.item-item.result in
    let look = c.loop-item.invariant in
    let here = item_at yaml_tree vs c.loop-item.item-index c.item-item.result c.loop-item-test.true c.item-item.is in
    let e = c.in_err-check_value.field-0.0 in
    tells_handed c.from_residual.result e (items_doubts c.args.part [] c.args.key.now (trees_of (map yaml_tree vs))) c.from_residual.ensures.1
    (items_halt c.args.part c.args.key.now (map yaml_tree vs) (drop c.loop-item.item-index (map yaml_tree vs)) (drop (c.loop-item.item-index + 1) (map yaml_tree vs)) c.loop-item.seen item c.item_place.result e
    here look (c.item_place.ensures look.names look.held) c.in_err-check_value.ensures)

pub check_items-loop-item-preserved : goal.check_items-loop-item-preserved
check_items-loop-item-preserved t c =
    let vs = c.args.items.now in
    let item = yaml_tree c.item-item.result in
    let look = c.loop-item.invariant in
    let here = item_at yaml_tree vs c.loop-item.item-index c.item-item.result c.loop-item-test.true c.item-item.is in
    items_on c.args.part c.args.key.now (map yaml_tree vs) (drop c.loop-item.item-index (map yaml_tree vs)) (drop (c.loop-item.item-index + 1) (map yaml_tree vs)) c.loop-item.seen c.note_name.new.seen item c.item_place.result
    here look (c.item_place.ensures look.names look.held) c.in_ok-check_value.ensures
    (subst (λ n. HasSeen c.note_name.new.seen (look.names ++ option_to_list n)) c.name_in.ensures (c.in_ok-note_name.ensures look.names look.held))

pub check_entries-returns-in_err-check_value : goal.check_entries-returns-in_err-check_value
check_entries-returns-in_err-check_value t c =
    let es = c.args.entries.now in
    let i = c.loop-i.i in
    let x = c.index-entries-i.result in
    let e = c.in_err-check_value.field-0.0 in
    let here = item_at pair_tree es i x c.loop-i-test.true c.index-entries-i.is in
    let entry = pair_tree x in
    let same = same_doubts c.entry_place-place.result (entry_place c.args.place (map pair_tree (take i es)) entry.0 entry.1) c.form_of-form.result (form_of c.args.part entry.0) c.key_of-in-loop-i.result.now entry.0 (yaml_tree x.value) entry.1
    c.entry_place-place.ensures (c.form_of-form.ensures ∙ ap (form_of c.args.part) c.key_of.ensures) c.key_of-in-loop-i.ensures (sym (pair_value x)) in
    tells_handed c.from_residual.result e (entries_doubts c.args.part c.args.place [] (entries_of (map pair_tree es))) c.from_residual.ensures.1
    (entries_halt c.args.part c.args.place (map pair_tree es) (map pair_tree (take i es)) (drop i (map pair_tree es)) (drop (i + 1) (map pair_tree es)) entry e here
    (subst (λ ds. Halts ds e) same c.in_err-check_value.ensures) c.loop-i.invariant)

pub check_entries-loop-i-preserved : goal.check_entries-loop-i-preserved
check_entries-loop-i-preserved t c =
    let es = c.args.entries.now in
    let i = c.loop-i.i in
    let x = c.index-entries-i.result in
    let here = item_at pair_tree es i x c.loop-i-test.true c.index-entries-i.is in
    let entry = pair_tree x in
    let same = same_doubts c.entry_place-place.result (entry_place c.args.place (map pair_tree (take i es)) entry.0 entry.1) c.form_of-form.result (form_of c.args.part entry.0) c.key_of-in-loop-i.result.now entry.0 (yaml_tree x.value) entry.1
    c.entry_place-place.ensures (c.form_of-form.ensures ∙ ap (form_of c.args.part) c.key_of.ensures) c.key_of-in-loop-i.ensures (sym (pair_value x)) in
    entries_on c.args.part c.args.place (map pair_tree es) (map pair_tree (take i es)) (map pair_tree (take (i + 1) es)) (drop i (map pair_tree es)) (drop (i + 1) (map pair_tree es)) entry
    here (before_more pair_tree es i x c.loop-i-test.true c.index-entries-i.is) (subst AllPass same c.in_ok-check_value.ensures) c.loop-i.invariant
