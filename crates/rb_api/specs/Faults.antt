-- The reply to a request for which the desk is not asked.
use Rattle.std.specs.Prelude.{ℕ, List, ◌++◌, codes}
use Rattle.rb_query.specs.Queries.{query_name}
use Rattle.rb_query.specs.declared.query.Query.{Query}
use Rattle.rb_reply.specs.Errors.{Reply, error_reply, no_execution}
use Rattle.rb_reply.specs.declared.error_code.ErrorCode.TheVariants as code
use Rattle.rb_api.specs.declared.request_fault.RequestFault.{RequestFault}
use Rattle.rb_api.specs.declared.request_fault.RequestFault.TheVariants as fault

abbrev pub query_message : Query → List ℕ
query_message query = codes "query " ++ query_name query ++ codes " not read"

-- a request that asks the desk for nothing; the number is that of the path
abbrev pub fault_reply : List ℕ → RequestFault → Reply
fault_reply number fault.Unauthorized = error_reply code.Unauthorized (codes "no listed token")
fault_reply number fault.NoRoute = error_reply code.NoRoute (codes "no such route")
fault_reply number fault.NoMethod = error_reply code.NoMethod (codes "method not allowed")
fault_reply number fault.BadVersion = error_reply code.BadVersion (codes "version not served")
fault_reply number (fault.BadQuery query) = error_reply code.BadQuery (query_message query)
fault_reply number fault.BadBody = error_reply code.BadBody (codes "body not read")
fault_reply number fault.BadArgs = error_reply code.BadArgs (codes "argString not read")
fault_reply number fault.BadFilter = error_reply code.BadFilter (codes "filter not read")
fault_reply number fault.NoExecution = no_execution number
