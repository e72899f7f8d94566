use Rattle.std.proofs.Common.{◌∙◌, sym}
use Rattle.rb_acl.proofs.Joins.{joined_behind, joined_apart}
use Rattle.rb_acl.proofs.joining.is_joined.Goals as goal

pub returns-in-Some-behind : goal.returns-in-Some-behind
returns-in-Some-behind c =
    c.is_joined_rest.ensures
    ∙ joined_behind _ _ _ _ c.args.whole.now _ c.in-Some.ensures.cases.0
    (c.as_bytes-in-Some.ensures.value ∙ c.as_str.ensures)
    (sym c.as_bytes.ensures.value ∙ c.in-Some-behind.ensures)

pub returns-in-None-behind : goal.returns-in-None-behind
returns-in-None-behind c =
    joined_apart _ _ _ _ c.args.whole.now c.in-Some.ensures.cases.0
    (c.as_bytes-in-Some.ensures.value ∙ c.as_str.ensures)
    (λ rest e. c.in-None-behind.ensures rest (c.as_bytes.ensures.value ∙ e))
