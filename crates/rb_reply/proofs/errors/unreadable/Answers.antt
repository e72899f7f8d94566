use Rattle.rb_reply.proofs.errors.unreadable.Goals as goal

pub returns-in-BadHead : goal.returns-in-BadHead
returns-in-BadHead c = rw c.in-BadHead.is c.error_reply.ensures

pub returns-in-BadLength : goal.returns-in-BadLength
returns-in-BadLength c = rw c.in-BadLength.is c.error_reply-in-BadLength.ensures

pub returns-in-TooLong : goal.returns-in-TooLong
returns-in-TooLong c = rw c.in-TooLong.is c.error_reply-in-TooLong.ensures

pub returns-in-Cut : goal.returns-in-Cut
returns-in-Cut c = rw c.in-Cut.is c.error_reply-in-Cut.ensures
