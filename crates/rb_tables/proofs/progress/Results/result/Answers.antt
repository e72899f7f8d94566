use Rattle.std.proofs.Common.{◌∙◌, ◌<◌, ◌+◌, ◌*◌, ap, arith, get_or, length, subst, sym, vec_len}
use Rattle.std.proofs.lemmas.Nat.{mul-add-lt}
use Rattle.rb_log.specs.Executions.{Execution}
use Rattle.rb_tables.proofs.Ended.{result_at, results_many}
use Rattle.rb_tables.proofs.progress.Results.result.Goals as goal

pub index-requires : goal.index-requires
index-requires c =
    let l : Execution = c.requires.0 in
    let ended = c.requires.1 in
    let p = l.accepted.plan in
    subst (λ s. c.args.node * s + c.args.step < vec_len c.args.self.now.results) (sym ended.steps)
    (omega (
      arith,
      c.args.self.now.results.ok.0,
      ap length ended.results,
      results_many p l.marks (length p.tiers),
      mul-add-lt c.args.node (length p.steps) c.args.step (length p.tiers) c.requires.2
          c.requires.3,
    ))

pub returns : goal.returns
returns c l ended here low =
    let p = l.accepted.plan in
    let d = c.index.result.now in
    c.index.ensures
    ∙ ap (λ s. get_or c.args.self.now.results.items (c.args.node * s + c.args.step) d) ended.steps
    ∙ ap (λ rs. get_or rs (c.args.node * length p.steps + c.args.step) d) ended.results
    ∙ result_at p l.marks (length p.tiers) c.args.node c.args.step d here low
