use Rattle.std.proofs.Common.{◌≡◌, List, ℕ, ◌+◌, [], ◌∷◌, length, map, subst, sym, ap, ◌∙◌, arith}
use Rattle.std.proofs.lemmas.Bool.Decides.{nat_tests}
use Rattle.std.proofs.lemmas.Result.{err_from_is_err_and}
use Rattle.rb_canon.specs.Values.{one_text, canons_of, fields_of, list_of, map_of}
use Rattle.rb_canon.specs.Views.{canon_tree, canon_trees, field_view}
use Rattle.rb_canon.specs.Puts.{Puts, value_piece, items_piece, item_piece, fields_piece, behind_piece, text_piece}
use Rattle.rb_canon.proofs.SoFar.{SoFar, so_far_none, so_far_more, so_far_stop, so_far_last}
use Rattle.rb_canon.proofs.Pieces.{item_is, value_text, behind_text}
use Rattle.rb_canon.proofs.Turns.{items_turn, items_stop, items_stop_later, items_end, fields_turn, fields_stop, fields_stop_key, fields_stop_behind, fields_end, list_none, list_some, map_none, map_some, list_behind_none, list_behind_some, map_behind_none, map_behind_some, tree_text}
use Rattle.rb_canon.proofs.print.+print.Goals as goal

pub put_items-loop-item-preserved : goal.put_items-loop-item-preserved
put_items-loop-item-preserved t c =
    let l = c.loop-item in
    items_turn (items_piece c.args.lead c.args.indent (canons_of (canon_trees c.args.items.now))) c.args.out.now.items l.out.items c.put_blanks.new.out.items c.put_item.new.out.items
    l.blanks c.args.indent l.item-index c.args.items.now c.item-item.result
    c.in_ok-put_blanks.field-0 c.in_ok-put_item.field-0 c.loop-item-test.true c.item-item.is l.invariant c.in_ok-put_blanks.ensures c.in_ok-put_item.ensures

pub put_items-returns-in_err-put_blanks : goal.put_items-returns-in_err-put_blanks
put_items-returns-in_err-put_blanks t c =
    let l = c.loop-item in
    let p = err_from_is_err_and c.from_residual.result c.from_residual.ensures.1 in
    rw (p.1, p.2) (items_stop (items_piece c.args.lead c.args.indent (canons_of (canon_trees c.args.items.now))) c.args.out.now.items l.out.items c.put_blanks.new.out.items
    l.blanks c.args.indent l.item-index c.args.items.now c.item-item.result
    c.in_err-put_blanks.field-0.0 c.loop-item-test.true c.item-item.is l.invariant c.in_err-put_blanks.ensures)

pub put_items-returns-in_err-put_item : goal.put_items-returns-in_err-put_item
put_items-returns-in_err-put_item t c =
    let l = c.loop-item in
    let p = err_from_is_err_and c.from_residual-in_err-put_item.result c.from_residual-in_err-put_item.ensures.1 in
    rw (p.1, p.2) (items_stop_later (items_piece c.args.lead c.args.indent (canons_of (canon_trees c.args.items.now))) c.args.out.now.items l.out.items c.put_blanks.new.out.items c.put_item.new.out.items
    l.blanks c.args.indent l.item-index c.args.items.now c.item-item.result
    c.in_ok-put_blanks.field-0 c.in_err-put_item.field-0.0 c.loop-item-test.true c.item-item.is l.invariant c.in_ok-put_blanks.ensures c.in_err-put_item.ensures)

pub put_items-returns : goal.put_items-returns
put_items-returns t c =
    let l = c.loop-item in
    items_end (items_piece c.args.lead c.args.indent (canons_of (canon_trees c.args.items.now))) c.args.out.now.items l.out.items l.blanks c.args.indent l.item-index c.args.items.now tt (omega arith) l.invariant

pub put_fields-loop-field-preserved : goal.put_fields-loop-field-preserved
put_fields-loop-field-preserved t c =
    let l = c.loop-field in
    fields_turn (fields_piece c.args.lead c.args.indent (fields_of (map field_view c.args.fields.now))) c.args.out.now.items l.out.items c.put_blanks.new.out.items c.put_key.new.out.items c.put_behind.new.out.items
    l.blanks c.args.indent l.field-index c.args.fields.now c.field-item.result
    c.in_ok-put_blanks.field-0 c.in_ok-put_key.field-0 c.in_ok-put_behind.field-0 c.loop-field-test.true c.field-item.is l.invariant c.in_ok-put_blanks.ensures c.in_ok-put_key.ensures c.in_ok-put_behind.ensures

pub put_fields-returns-in_err-put_blanks : goal.put_fields-returns-in_err-put_blanks
put_fields-returns-in_err-put_blanks t c =
    let l = c.loop-field in
    let p = err_from_is_err_and c.from_residual.result c.from_residual.ensures.1 in
    rw (p.1, p.2) (fields_stop (fields_piece c.args.lead c.args.indent (fields_of (map field_view c.args.fields.now))) c.args.out.now.items l.out.items c.put_blanks.new.out.items
    l.blanks c.args.indent l.field-index c.args.fields.now c.field-item.result
    c.in_err-put_blanks.field-0.0 c.loop-field-test.true c.field-item.is l.invariant c.in_err-put_blanks.ensures)

pub put_fields-returns-in_err-put_key : goal.put_fields-returns-in_err-put_key
put_fields-returns-in_err-put_key t c =
    let l = c.loop-field in
    let p = err_from_is_err_and c.from_residual-in_err-put_key.result c.from_residual-in_err-put_key.ensures.1 in
    rw (p.1, p.2) (fields_stop_key (fields_piece c.args.lead c.args.indent (fields_of (map field_view c.args.fields.now))) c.args.out.now.items l.out.items c.put_blanks.new.out.items c.put_key.new.out.items
    l.blanks c.args.indent l.field-index c.args.fields.now c.field-item.result
    c.in_ok-put_blanks.field-0 c.in_err-put_key.field-0.0 c.loop-field-test.true c.field-item.is l.invariant c.in_ok-put_blanks.ensures c.in_err-put_key.ensures)

pub put_fields-returns-in_err-put_behind : goal.put_fields-returns-in_err-put_behind
put_fields-returns-in_err-put_behind t c =
    let l = c.loop-field in
    let p = err_from_is_err_and c.from_residual-in_err-put_behind.result c.from_residual-in_err-put_behind.ensures.1 in
    rw (p.1, p.2) (fields_stop_behind (fields_piece c.args.lead c.args.indent (fields_of (map field_view c.args.fields.now))) c.args.out.now.items l.out.items c.put_blanks.new.out.items c.put_key.new.out.items c.put_behind.new.out.items
    l.blanks c.args.indent l.field-index c.args.fields.now c.field-item.result
    c.in_ok-put_blanks.field-0 c.in_ok-put_key.field-0 c.in_err-put_behind.field-0.0 c.loop-field-test.true c.field-item.is l.invariant c.in_ok-put_blanks.ensures c.in_ok-put_key.ensures c.in_err-put_behind.ensures)

pub put_fields-returns : goal.put_fields-returns
put_fields-returns t c =
    let l = c.loop-field in
    fields_end (fields_piece c.args.lead c.args.indent (fields_of (map field_view c.args.fields.now))) c.args.out.now.items l.out.items l.blanks c.args.indent l.field-index c.args.fields.now tt (omega arith) l.invariant

pub put_item-returns-in_err-put : goal.put_item-returns-in_err-put
put_item-returns-in_err-put t c =
    let value = canon_tree c.args.item.now in
    let whole = item_piece c.args.indent value in
    let before = c.args.out.now.items in
    let start = subst (λ (r : List ℕ). SoFar whole r before before) (item_is c.args.indent value) (so_far_none whole before) in
    let p = err_from_is_err_and c.from_residual-in_err-put.result c.from_residual-in_err-put.ensures.1 in
    rw (p.1, p.2) (so_far_stop whole (45 ∷ 32 ∷ []) (value_piece (c.args.indent + 2) value) before before c.put.new.out.items c.in_err-put.field-0.0 start c.in_err-put.ensures)

pub put_item-returns : goal.put_item-returns
put_item-returns t c =
    let value = canon_tree c.args.item.now in
    let whole = item_piece c.args.indent value in
    let before = c.args.out.now.items in
    let start = subst (λ (r : List ℕ). SoFar whole r before before) (item_is c.args.indent value) (so_far_none whole before) in
    so_far_last whole (value_piece (c.args.indent + 2) value) before c.put.new.out.items c.put_value.new.out.items c.put_value.result
    (so_far_more whole (45 ∷ 32 ∷ []) (value_piece (c.args.indent + 2) value) before before c.put.new.out.items c.in_ok-put.field-0 start c.in_ok-put.ensures)
    (subst (λ (n : ℕ). Puts (value_piece n value) c.put.new.out.items c.put_value.new.out.items c.put_value.result) c.in_ok-inner.ensures.deeper c.put_value.ensures)

pub put_list-returns-then-is_empty : goal.put_list-returns-then-is_empty
put_list-returns-then-is_empty t c =
    let none : length c.args.items.now ≡ 0 = grind (arith, nat_tests) in
    subst (λ (w : List ℕ). Puts w c.args.out.now.items c.put.new.out.items c.put.result) (sym (list_none c.args.indent c.args.items.now none)) c.put.ensures

pub put_list-returns : goal.put_list-returns
put_list-returns t c =
    let some : length c.args.items.now ≡ 0 → ⊥ = λ e. grind (arith, nat_tests) in
    subst (λ (w : List ℕ). Puts w c.args.out.now.items c.put_items.new.out.items c.put_items.result) (sym (list_some c.args.indent c.args.items.now some)) c.put_items.ensures

pub put_map-returns-then-is_empty : goal.put_map-returns-then-is_empty
put_map-returns-then-is_empty t c =
    let none : length c.args.fields.now ≡ 0 = grind (arith, nat_tests) in
    subst (λ (w : List ℕ). Puts w c.args.out.now.items c.put.new.out.items c.put.result) (sym (map_none c.args.indent c.args.fields.now none)) c.put.ensures

pub put_map-returns : goal.put_map-returns
put_map-returns t c =
    let some : length c.args.fields.now ≡ 0 → ⊥ = λ e. grind (arith, nat_tests) in
    subst (λ (w : List ℕ). Puts w c.args.out.now.items c.put_fields.new.out.items c.put_fields.result) (sym (map_some c.args.indent c.args.fields.now some)) c.put_fields.ensures

pub put_list_behind-returns-then-is_empty : goal.put_list_behind-returns-then-is_empty
put_list_behind-returns-then-is_empty t c =
    let none : length c.args.items.now ≡ 0 = grind (arith, nat_tests) in
    subst (λ (w : List ℕ). Puts w c.args.out.now.items c.put.new.out.items c.put.result) (sym (list_behind_none c.args.indent c.args.items.now none)) c.put.ensures

pub put_list_behind-returns-in_err-put : goal.put_list_behind-returns-in_err-put
put_list_behind-returns-in_err-put t c =
    let some : length c.args.items.now ≡ 0 → ⊥ = λ e. grind (arith, nat_tests) in
    let whole = behind_piece c.args.indent (list_of (canon_trees c.args.items.now)) in
    let before = c.args.out.now.items in
    let start = subst (λ (r : List ℕ). SoFar whole r before before) (list_behind_some c.args.indent c.args.items.now some) (so_far_none whole before) in
    let p = err_from_is_err_and c.from_residual-in_err-put.result c.from_residual-in_err-put.ensures.1 in
    rw (p.1, p.2) (so_far_stop whole (10 ∷ []) (items_piece (c.args.indent + 2) (c.args.indent + 2) (canons_of (canon_trees c.args.items.now))) before before c.put-2.new.out.items c.in_err-put.field-0.0 start c.in_err-put.ensures)

pub put_list_behind-returns : goal.put_list_behind-returns
put_list_behind-returns t c =
    let some : length c.args.items.now ≡ 0 → ⊥ = λ e. grind (arith, nat_tests) in
    let whole = behind_piece c.args.indent (list_of (canon_trees c.args.items.now)) in
    let before = c.args.out.now.items in
    let start = subst (λ (r : List ℕ). SoFar whole r before before) (list_behind_some c.args.indent c.args.items.now some) (so_far_none whole before) in
    so_far_last whole (items_piece (c.args.indent + 2) (c.args.indent + 2) (canons_of (canon_trees c.args.items.now))) before c.put-2.new.out.items c.put_items.new.out.items c.put_items.result
    (so_far_more whole (10 ∷ []) (items_piece (c.args.indent + 2) (c.args.indent + 2) (canons_of (canon_trees c.args.items.now))) before before c.put-2.new.out.items c.in_ok-put.field-0 start c.in_ok-put.ensures)
    (subst (λ (n : ℕ). Puts (items_piece n n (canons_of (canon_trees c.args.items.now))) c.put-2.new.out.items c.put_items.new.out.items c.put_items.result) c.in_ok-inner.ensures.deeper c.put_items.ensures)

pub put_map_behind-returns-then-is_empty : goal.put_map_behind-returns-then-is_empty
put_map_behind-returns-then-is_empty t c =
    let none : length c.args.fields.now ≡ 0 = grind (arith, nat_tests) in
    subst (λ (w : List ℕ). Puts w c.args.out.now.items c.put.new.out.items c.put.result) (sym (map_behind_none c.args.indent c.args.fields.now none)) c.put.ensures

pub put_map_behind-returns-in_err-put : goal.put_map_behind-returns-in_err-put
put_map_behind-returns-in_err-put t c =
    let some : length c.args.fields.now ≡ 0 → ⊥ = λ e. grind (arith, nat_tests) in
    let whole = behind_piece c.args.indent (map_of (map field_view c.args.fields.now)) in
    let before = c.args.out.now.items in
    let start = subst (λ (r : List ℕ). SoFar whole r before before) (map_behind_some c.args.indent c.args.fields.now some) (so_far_none whole before) in
    let p = err_from_is_err_and c.from_residual-in_err-put.result c.from_residual-in_err-put.ensures.1 in
    rw (p.1, p.2) (so_far_stop whole (10 ∷ []) (fields_piece (c.args.indent + 2) (c.args.indent + 2) (fields_of (map field_view c.args.fields.now))) before before c.put-2.new.out.items c.in_err-put.field-0.0 start c.in_err-put.ensures)

pub put_map_behind-returns : goal.put_map_behind-returns
put_map_behind-returns t c =
    let some : length c.args.fields.now ≡ 0 → ⊥ = λ e. grind (arith, nat_tests) in
    let whole = behind_piece c.args.indent (map_of (map field_view c.args.fields.now)) in
    let before = c.args.out.now.items in
    let start = subst (λ (r : List ℕ). SoFar whole r before before) (map_behind_some c.args.indent c.args.fields.now some) (so_far_none whole before) in
    so_far_last whole (fields_piece (c.args.indent + 2) (c.args.indent + 2) (fields_of (map field_view c.args.fields.now))) before c.put-2.new.out.items c.put_fields.new.out.items c.put_fields.result
    (so_far_more whole (10 ∷ []) (fields_piece (c.args.indent + 2) (c.args.indent + 2) (fields_of (map field_view c.args.fields.now))) before before c.put-2.new.out.items c.in_ok-put.field-0 start c.in_ok-put.ensures)
    (subst (λ (n : ℕ). Puts (fields_piece n n (fields_of (map field_view c.args.fields.now))) c.put-2.new.out.items c.put_fields.new.out.items c.put_fields.result) c.in_ok-inner.ensures.deeper c.put_fields.ensures)

pub put_value-returns-in-Text : goal.put_value-returns-in-Text
put_value-returns-in-Text t c =
    let text = c.as_str.result.now in
    let e : canon_tree c.args.value.now ≡ one_text text = ap canon_tree c.in-Text.is ∙ tree_text _ ∙ ap one_text (sym c.as_str.ensures) in
    let piece : value_piece c.args.indent (canon_tree c.args.value.now) ≡ text_piece text = ap (value_piece c.args.indent) e ∙ value_text c.args.indent text in
    subst (λ (w : List ℕ). Puts w c.args.out.now.items c.put_text.new.out.items c.put_text.result) (sym piece) c.put_text.ensures

pub put_behind-returns-in-Text : goal.put_behind-returns-in-Text
put_behind-returns-in-Text t c =
    let text = c.as_str.result.now in
    let e : canon_tree c.args.value.now ≡ one_text text = ap canon_tree c.in-Text.is ∙ tree_text _ ∙ ap one_text (sym c.as_str.ensures) in
    let piece : behind_piece c.args.indent (canon_tree c.args.value.now) ≡ 32 ∷ text_piece text = ap (behind_piece c.args.indent) e ∙ behind_text c.args.indent text in
    subst (λ (w : List ℕ). Puts w c.args.out.now.items c.put_text_behind.new.out.items c.put_text_behind.result) (sym piece) c.put_text_behind.ensures
