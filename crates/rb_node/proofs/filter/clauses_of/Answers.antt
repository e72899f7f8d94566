use Rattle.std.proofs.Common.{◌≡◌, ◌≤◌, length, ap, sym, subst, chars, arith}
use Rattle.rb_causes.specs.Words.{words_in}
use Rattle.rb_node.specs.Filters.{IsFaultOfWords}
use Rattle.rb_node.proofs.Filtering.{memory_fault, open_fault, open_counted, words_counted}
use Rattle.rb_node.proofs.filter.clauses_of.Goals as goal

pub draft_all-requires : goal.draft_all-requires
draft_all-requires c =
    let few : length c.in-Ok.words.items ≤ 1025 =
    words_counted c.args.text.now c.in-Ok.words.items c.utf8.text c.requires c.in-Ok.ensures.words
    in
    let same : length c.as_slice.result.now ≡ length c.in-Ok.words.items =
    ap length c.as_slice.ensures.value
    in
    omega (arith, few, same)

pub returns-in-Ok-clause-fault : goal.returns-in-Ok-clause-fault
returns-in-Ok-clause-fault c = memory_fault (words_in (chars c.args.text.now))

pub split_fault-requires : goal.split_fault-requires
split_fault-requires c =
    open_counted c.args.text.now c.in-Err.error c.utf8.text c.requires c.in-Err.ensures.quote

pub returns-clause-fault : goal.returns-clause-fault
returns-clause-fault c =
    subst (IsFaultOfWords (words_in (chars c.args.text.now))) (sym c.split_fault.ensures)
    (open_fault (words_in (chars c.args.text.now)) c.in-Err.error c.in-Err.ensures.quote)
