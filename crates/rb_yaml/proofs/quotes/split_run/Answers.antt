use Rattle.std.proofs.Common.{◌≡◌, ◌≤◌, length, rules}
use Rattle.rb_yaml.specs.Quotes.{run_len}
use Rattle.rb_yaml.proofs.QuoteFacts.{run_cut, run_small_at}
use Rattle.rb_yaml.proofs.quotes.split_run.Goals as goal

pub split_at-requires : goal.split_at-requires
split_at-requires c =
    let n : c.run_len-at.result ≡ run_len c.args.stop c.args.other c.args.text.now = search rules in
    let le : c.run_len-at.result ≤ length c.args.text.now = search rules in
    run_cut c.args.stop c.args.other c.args.text.now c.run_len-at.result c.requires.stop c.requires.other n le

pub returns-clause-small : goal.returns-clause-small
returns-clause-small c =
    let n : c.run_len-at.result ≡ run_len c.args.stop c.args.other c.args.text.now = search rules in
    run_small_at c.args.stop c.args.other c.args.text.now c.run_len-at.result c.split_at.result.1.now c.requires.stop c.requires.other n c.split_at.ensures.back
