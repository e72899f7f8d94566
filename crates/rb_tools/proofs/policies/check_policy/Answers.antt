use Rattle.std.proofs.Common.{string_bytes}
use Rattle.rb_command.proofs.FaultLines.{stops_not_fetched}
use Rattle.rb_tools.proofs.Checks.{checks_read}
use Rattle.rb_tools.proofs.policies.check_policy.Goals as goal

pub returns-in-Ok-clause-check : goal.returns-in-Ok-clause-check
returns-in-Ok-clause-check g c =
    checks_read string_bytes _ _ _ _ c.in-Ok.ensures.bytes c.in-Ok.ensures.steady
    (rw c.as_slice.ensures.value at c.documents_text.ensures.ok) (rw c.as_slice.ensures.value at c.documents_text.ensures.refused) c.give.ensures.gives c.in-Ok.ensures.silent

pub returns-in-Err-clause-out : goal.returns-in-Err-clause-out
returns-in-Err-clause-out g c = stops_not_fetched _ _ _ _ c.in-Err.ensures.told
