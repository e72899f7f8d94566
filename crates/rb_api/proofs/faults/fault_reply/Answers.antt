use Rattle.rb_api.proofs.faults.fault_reply.Goals as goal

pub returns-in-Unauthorized : goal.returns-in-Unauthorized
returns-in-Unauthorized c = rw c.in-Unauthorized.is c.error_reply.ensures

pub returns-in-NoMethod : goal.returns-in-NoMethod
returns-in-NoMethod c = rw c.in-NoMethod.is c.error_reply-in-NoMethod.ensures

pub returns-in-BadBody : goal.returns-in-BadBody
returns-in-BadBody c = rw c.in-BadBody.is c.error_reply-in-BadBody.ensures

pub returns-in-BadArgs : goal.returns-in-BadArgs
returns-in-BadArgs c = rw c.in-BadArgs.is c.error_reply-in-BadArgs.ensures

pub returns-in-BadFilter : goal.returns-in-BadFilter
returns-in-BadFilter c = rw c.in-BadFilter.is c.error_reply-in-BadFilter.ensures
