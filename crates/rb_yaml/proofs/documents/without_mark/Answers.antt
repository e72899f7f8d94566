use Rattle.std.proofs.Common.{◌≡◌, ◌≤◌, length, get_or, rules}
use Rattle.rb_yaml.proofs.DocFacts.{mark_cut}
use Rattle.rb_yaml.proofs.documents.without_mark.Goals as goal

pub range_from-requires : goal.range_from-requires
range_from-requires c =
    let l : 3 ≤ length c.args.text.now = search rules in
    let first : get_or c.args.text.now 0 0 ≡ 239 = search rules in
    let second : get_or c.args.text.now 1 0 ≡ 187 = search rules in
    let third : get_or c.args.text.now 2 0 ≡ 191 = search rules in
    λ some. mark_cut c.args.text.now c.utf8.text l first second third
