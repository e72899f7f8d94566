use Rattle.rb_api.proofs.refusing.refusal_reply.Goals as goal

pub returns-in-Disabled : goal.returns-in-Disabled
returns-in-Disabled c = rw c.in-Disabled.is c.error_reply.ensures
