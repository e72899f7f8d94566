-- What is given to a caller for a request, and for bytes that are none.
use Rattle.std.specs.Prelude.{◌≡◌, ℕ, Bool, List, Option, Some, None, option_map, option_to_list, if◌then◌else◌}
use Rattle.rb_causes.specs.Callers.{Callers, after_write}
use Rattle.rb_causes.specs.declared.trouble.Trouble.{Trouble}
use Rattle.rb_log.specs.Acted.{Acted}
use Rattle.rb_log.specs.Records.{Record}
use Rattle.rb_log.specs.Told.{Told}
use Rattle.rb_wire.specs.declared.heard.Request.{Request}
use Rattle.rb_reply.specs.Errors.{Reply, printed}
use Rattle.rb_api.specs.Replies.{reply_bytes}
use Rattle.rb_api.specs.declared.ended.Ended.{Ended}
use Rattle.rb_api.specs.declared.ended.Ended.TheVariants as ended
use Rattle.rb_reply.specs.declared.response.Response.{Response as Printed}
use Rattle.rb_api.specs.declared.token.Token.{Token}
use Rattle.rb_door.specs.Exchanges.{Moments, IsReplyTo, IsWritten, ended_unwritten}

-- The desk was asked the one call of the request, or nothing, and this is printed of the reply.
pub record IsReplyMade (may_be : Moments) (tokens : List Token) (r : Request) (old new : Told)
    (given : Printed) : Type 0 where
  pub turn : Option Record
  pub reply : Reply
  pub acted : Acted old new (option_to_list turn)
  pub is_reply : IsReplyTo may_be tokens r turn reply
  pub is_printed : given ≡ printed reply

-- how an exchange ended, by what stopped the writing and whether the reply closes
abbrev pub ended_given : Option Trouble → Bool → Ended
ended_given (Some t) close = ended_unwritten t
ended_given None close = if close then ended.Done else ended.More

-- The caller was given these bytes, or a part of them where the writing was stopped.
pub record IsGiven (bytes : List ℕ) (close : Bool) (old new : Option Callers) (said : Ended)
    : Type 0 where
  pub written : List ℕ
  pub trouble : Option Trouble
  pub is_written : IsWritten bytes trouble written
  pub gives : new ≡ option_map (after_write written) old
  pub ends : said ≡ ended_given trouble close

-- what is told of a clerk and of its callers
pub record Counter : Type 0 where
  pub clerk : Told
  pub callers : Option Callers

-- The request was answered: with its desk call, and its reply.
pub record IsRequestMet (may_be : Moments) (tokens : List Token) (r : Request) (old new : Counter)
    (said : Ended) : Type 0 where
  pub turn : Option Record
  pub reply : Reply
  pub acted : Acted old.clerk new.clerk (option_to_list turn)
  pub is_reply : IsReplyTo may_be tokens r turn reply
  pub given : IsGiven (reply_bytes reply r.close) r.close old.callers new.callers said
