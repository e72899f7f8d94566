use Rattle.std.proofs.Common.{◌≡◌, ℕ, zero, suc, ap, ◌∙◌, subst}
use Rattle.std.proofs.lemmas.Result.{IfOk-weaker}
use Rattle.rb_yaml.specs.declared.flaw.Flaw.TheVariants.{TooDeep}
use Rattle.rb_yaml.specs.Faults.{Reads, fault_at, sooner_fault}
use Rattle.rb_yaml.specs.Tree.{yaml_tree}
use Rattle.rb_yaml.specs.Alone.{alone}
use Rattle.rb_yaml.proofs.deep.deep_item.Goals as goal

pub returns : goal.returns
returns c =
    let read = alone zero (suc c.args.line.now.indent) c.args.behind.now c.args.lines.now in
    let reads = subst (λ (n : ℕ). Reads yaml_tree c.alone.result (alone zero n c.args.behind.now c.args.lines.now)) c.floor.ensures c.alone.ensures in
    let fault : c.fault_at-fault.result ≡ fault_at c.args.line.now.number TooDeep = c.fault_at-fault.ensures ∙ ap (λ n. fault_at n TooDeep) c.number.ensures in
    IfOk-weaker c.sooner_fault.result _ _ (λ f h. h read reads ∙ ap (λ g. sooner_fault g read) fault) c.sooner_fault.ensures
