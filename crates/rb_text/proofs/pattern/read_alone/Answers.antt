use Rattle.rb_text.proofs.Meaning.{read_of, unread_of}
use Rattle.rb_text.proofs.pattern.read_alone.Goals as goal
use Rattle.rb_text.proofs.pattern.read_alone.Goals.{in-Ok, in-Err}

pub returns-clause-ok : goal.returns-clause-ok
returns-clause-ok c =
    elim c.match-parse.branch [
      | in-Ok w ↦ rw w.result-is
          (read_of c.args.text.now _ _ (rw c.default.ensures at w.in-Ok.ensures.ok))
      | in-Err w ↦ rw w.result-is tt
    ]

pub returns-clause-err : goal.returns-clause-err
returns-clause-err c =
    elim c.match-parse.branch [
      | in-Ok w ↦ rw w.result-is tt
      | in-Err w ↦ rw w.result-is
          (unread_of c.args.text.now w.in-Err.error.kind w.unread.result
          (rw c.default.ensures at w.in-Err.ensures.err) w.unread.ensures)
    ]
