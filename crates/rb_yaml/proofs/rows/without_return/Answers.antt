use Rattle.std.proofs.Common.{◌≡◌, ◌≢◌, ℕ, ◌-◌, length, get_or, take, ◌∙◌, sym, subst, List, rules}
use Rattle.rb_yaml.proofs.RowFacts.{return_kept, return_dropped, last_place}
use Rattle.rb_yaml.proofs.rows.without_return.Goals as goal

pub returns-then-bytes-last-ne13 : goal.returns-then-bytes-last-ne13
returns-then-bytes-last-ne13 c =
    let same = c.as_bytes-bytes.ensures.value in
    let e = last_place c.as_bytes-bytes.result.now c.args.text.now c.is_empty.result same c.is_empty.ensures c.if-is_empty.false in
    let other = subst (λ (bytes : List ℕ). get_or bytes (length bytes - 1) 0 ≢ 13) same c.if-bytes-last-ne13.true in
    sym (return_kept c.args.text.now (length c.args.text.now - 1) e other)

pub returns : goal.returns
returns c =
    let same = c.as_bytes-bytes.ensures.value in
    let e = last_place c.as_bytes-bytes.result.now c.args.text.now c.is_empty.result same c.is_empty.ensures c.if-is_empty.false in
    let cr = subst (λ (bytes : List ℕ). get_or bytes (length bytes - 1) 0 ≡ 13) same c.if-bytes-last-ne13.false in
    let cut : c.range.result.now ≡ take (length c.args.text.now - 1) c.args.text.now = search rules in
    cut ∙ sym (return_dropped c.args.text.now (length c.args.text.now - 1) e cr)
