use Rattle.std.proofs.Common.{refl}
use Rattle.std.specs.Fmt.{digits}
use Rattle.serde_json.proofs.OnLiterals.{serde_json_on_literals}
use Rattle.rb_door.proofs.answering.fault_body.Goals as goal

pub returns-in-BadHead : goal.returns-in-BadHead
unfolding digits serde_json_on_literals
returns-in-BadHead c = rw (c.as_slice.ensures, c.in-BadHead.is) refl

pub returns-in-TransferEncoding : goal.returns-in-TransferEncoding
unfolding digits serde_json_on_literals
returns-in-TransferEncoding c = rw (c.as_slice-in-TransferEncoding.ensures, c.in-TransferEncoding.is) refl

pub returns-in-BadLength : goal.returns-in-BadLength
unfolding digits serde_json_on_literals
returns-in-BadLength c = rw (c.as_slice-in-BadLength.ensures, c.in-BadLength.is) refl

pub returns-in-TooLong : goal.returns-in-TooLong
unfolding digits serde_json_on_literals
returns-in-TooLong c = rw (c.as_slice-in-TooLong.ensures, c.in-TooLong.is) refl

pub returns-in-Cut : goal.returns-in-Cut
unfolding digits serde_json_on_literals
returns-in-Cut c = rw (c.as_slice-in-Cut.ensures, c.in-Cut.is) refl
