use Rattle.rb_api.proofs.replying.reply_on.Goals as goal

pub returns-in-BadName-clause-ok : goal.returns-in-BadName-clause-ok
returns-in-BadName-clause-ok c = rw c.in-BadName.is c.error_reply.ensures

pub returns-in-TooManyFiles-clause-ok : goal.returns-in-TooManyFiles-clause-ok
returns-in-TooManyFiles-clause-ok c =
    rw c.in-TooManyFiles.is c.error_reply-in-TooManyFiles.ensures
