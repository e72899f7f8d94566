use Rattle.rb_causes.specs.declared.trouble.Trouble.TheVariants.{Failed, NoMemory}
use Rattle.rb_wire.specs.Responses.{response_text}
use Rattle.std.proofs.Common.{refl}
use Rattle.rb_door.proofs.Exchanging.{given_part, given_whole}
use Rattle.rb_door.proofs.answering.give.Goals as goal

pub returns-in-Ok-clause-given : goal.returns-in-Ok-clause-given
returns-in-Ok-clause-given g c =
    given_whole (response_text c.args.status c.args.body.now c.args.close) c.args.close
    (g.L.Line.callers c.args.line.now) (g.L.Line.callers c.write_response.new.line)
    c.ended_written.result c.in-Ok.ensures.ok c.ended_written.ensures

pub returns-in-Err-Failed-clause-given : goal.returns-in-Err-Failed-clause-given
returns-in-Err-Failed-clause-given g c =
    given_part (response_text c.args.status c.args.body.now c.args.close) c.args.close
    (g.L.Line.callers c.args.line.now) (g.L.Line.callers c.write_response.new.line) _ Failed
    c.in-Err-Failed.ensures.err refl

pub returns-in-Err-NoMemory-clause-given : goal.returns-in-Err-NoMemory-clause-given
returns-in-Err-NoMemory-clause-given g c =
    given_part (response_text c.args.status c.args.body.now c.args.close) c.args.close
    (g.L.Line.callers c.args.line.now) (g.L.Line.callers c.write_response.new.line) _ NoMemory
    c.in-Err-NoMemory.ensures.err refl
