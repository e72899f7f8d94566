use Rattle.std.proofs.Common.{◌≡◌, ◌≤◌, length, take, rules}
use Rattle.rb_yaml.specs.Signs.{without_end}
use Rattle.rb_yaml.specs.FlowScalars.{word_len}
use Rattle.rb_yaml.proofs.FlowFacts.{word_cut, word_end_cut}
use Rattle.rb_yaml.proofs.flow_scalars.split_word.Goals as goal

pub range-requires-clause-end_boundary : goal.range-requires-clause-end_boundary
range-requires-clause-end_boundary c =
    let n : c.word_len-end.result ≡ word_len c.args.key c.args.close c.args.text.now = search rules in
    let le : c.word_len-end.result ≤ length c.args.text.now = search rules in
    word_cut c.args.key c.args.close c.args.text.now c.word_len-end.result c.requires n le

pub range_from-requires : goal.range_from-requires
range_from-requires c =
    let le : c.word_len-end.result ≤ length c.args.text.now = search rules in
    let word : c.without_end-word.result.now ≡ without_end (take c.word_len-end.result c.args.text.now) = search rules in
    λ some. word_end_cut c.args.text.now c.without_end-word.result.now c.word_len-end.result c.utf8.text c.without_end-word.utf8 le word
