use Rattle.std.proofs.Common.{rules, is_lt}
use Rattle.std.proofs.lemmas.List.Sorted.{ranks_by}
use Rattle.std.proofs.lemmas.Fn.{always_returns_same}
use Rattle.std.specs.Option.{option_copied}
use Rattle.rb_orch.specs.Ranking.{rank_cmp, ranked}
use Rattle.rb_orch.proofs.Inserted.{ranked_is_sorted}
use Rattle.rb_orch.proofs.Orders.{rank_total}
use Rattle.rb_orch.proofs.RankLaws.{ranking_is_one}
use Rattle.rb_orch.proofs.ranking.rank.Goals as goal

pub returns-clause-sorted : goal.returns-clause-sorted
returns-clause-sorted c =
    let by = option_copied c.args.by in
    c.in_ok-sort_by.ensures.sorted (λ a b. is_lt (rank_cmp by c.args.down a b))
    (ranks_by (rank_total by c.args.down) (λ x. x))
    (always_returns_same _ _ _ (λ a r f k. search rules))

pub returns-clause-stable : goal.returns-clause-stable
returns-clause-stable c =
    let by = option_copied c.args.by in
    c.sort_by.ensures.stable (λ a b. is_lt (rank_cmp by c.args.down a b))
    (ranks_by (rank_total by c.args.down) (λ x. x))
    (always_returns_same _ _ _ (λ a r f k. search rules))

pub returns-clause-exact : goal.returns-clause-exact
returns-clause-exact c =
    let by = option_copied c.args.by in
    let nodes = c.args.nodes.items in
    let made = ranked_is_sorted by c.args.down nodes in
    let ranks = ranks_by (rank_total by c.args.down) (λ x. x) in
    let answers = always_returns_same _ _ _ (λ a r f k. search rules) in
    ranking_is_one by c.args.down nodes c.sort_by.new.self.items (ranked by c.args.down nodes)
    (c.in_ok-sort_by.ensures.sorted (λ a b. is_lt (rank_cmp by c.args.down a b)) ranks answers)
    (c.sort_by.ensures.stable (λ a b. is_lt (rank_cmp by c.args.down a b)) ranks answers)
    made.1 made.2
