-- What the rules answer to a call, and the row that they add.
use Rattle.std.specs.Prelude.{ℕ, Bool, true, false, ◌&&◌, ◌||◌, nat_eq, nat_le, List, [], ◌∷◌, ◌++◌, length, Option, Some, None, Result, Ok, Err, bytes_eq, codes, if◌then◌else◌}
use Rattle.std.specs.List.{list_all}
use Rattle.rb_causes.specs.Numbers.{is_digit, is_letter}
use Rattle.rb_causes.specs.Signs.{slash, underscore, full_stop, hyphen}
use Rattle.rb_causes.specs.declared.row.Row.{Row}
use Rattle.rb_acl.specs.declared.policy.Caller.{Caller}
use Rattle.rb_acl.specs.declared.policy.Context.TheVariants.{Project, Application}
use Rattle.rb_acl.specs.declared.policy.Policies.{Policies}
use Rattle.rb_acl.specs.declared.policy.Decision.{Decision}
use Rattle.rb_acl.specs.declared.policy.Resource.{Resource}
use Rattle.rb_acl.specs.Deciding.{is_allowed}
use Rattle.rb_job.specs.declared.job.Job.{Job}
use Rattle.rb_plan.specs.Access.{Access, property, decision_on}
use Rattle.rb_log.specs.Readings.{decision_text}
use Rattle.rb_log.specs.World.{Latest}
use Rattle.rb_log.specs.LogState.{LogState, policies_in_force, has_room}
use Rattle.rb_log.specs.declared.answer.Answer.{Answer}
use Rattle.rb_log.specs.declared.answer.Answer.TheVariants as answer
use Rattle.rb_log.specs.declared.answer.Reason.{Reason}

-- An answer; the row that it adds, if it adds one; and for how many rows there has to be room,
-- where that is asked.
pub record Moved : Type 0 where
  pub answer : Answer
  pub row : Option Row
  pub need : Option ℕ

-- an answer without a row
abbrev pub only : Answer → Moved
only a = record { answer = a; row = None; need = None }

-- an answer with a row that needs room
abbrev pub adds : ℕ → Answer → Row → Moved
adds need a row = record { answer = a; row = Some row; need = Some need }

-- an answer with a row for which there is room, as it is owed
abbrev pub adds_owed : Answer → Row → Moved
adds_owed a row = record { answer = a; row = Some row; need = None }

abbrev pub full_unless : Bool → Moved → Moved
full_unless fits moved = if fits then moved else only answer.Full

abbrev pub limited_by : LogState → ℕ → Moved → Option Row → Option ℕ → Moved
limited_by s room moved (Some row) (Some need) = full_unless (has_room s room need row) moved
limited_by s room moved row need = moved

-- Full in place of a row that has no room
abbrev pub limited : LogState → ℕ → Moved → Moved
limited s room moved = limited_by s room moved moved.row moved.need

-- ---- refusals, one after another

-- what has to hold, or else the answer
abbrev pub must : Bool → Answer → Result Bool Answer
must holds a = if holds then Ok true else Err a

-- what was read, or the answer that holds its fault
abbrev pub read_as : {A E : Type 0} → (E → Answer) → Result A E → Result A Answer
read_as refused (Ok a) = Ok a
read_as refused (Err e) = Err (refused e)

-- what is left to answer where nothing was refused
abbrev pub moved_or : Result Moved Answer → Moved
moved_or (Ok moved) = moved
moved_or (Err a) = only a

-- ---- permissions

-- a caller in a project, by the policies in force
abbrev pub access_in : LogState → List ℕ → Caller → Access
access_in s project caller =
    record { policies = policies_in_force s; caller = caller; here = Project project }

-- the same above all projects
abbrev pub access_above : LogState → Caller → Access
access_above s caller =
    record { policies = policies_in_force s; caller = caller; here = Application }

abbrev pub reason_of : Policies → Decision → List ℕ → List ℕ → Reason
reason_of policies decision action thing = record {
  decision = decision;
  action = action;
  thing = thing;
  clause = decision_text policies decision;
}

-- the action is allowed, or else denied on the thing
abbrev pub permitted : Policies → Decision → List ℕ → List ℕ → Result Bool Answer
permitted policies decision action thing =
    must (is_allowed decision) (answer.Denied (reason_of policies decision action thing))

abbrev pub kind_resource : List ℕ → Resource
kind_resource kind =
    record { type_name = codes "resource"; props = property (codes "kind") kind ∷ []; tags = [] }

-- what a denial is on
abbrev pub job_thing : Job → List ℕ
job_thing job = codes "job " ++ job.group ++ slash ∷ job.name

abbrev pub kind_thing : List ℕ → List ℕ
kind_thing kind = codes "kind " ++ kind

abbrev pub node_thing : List ℕ → List ℕ
node_thing name = codes "node " ++ name

-- the action is allowed on all things of a kind
abbrev pub permitted_on_kind : Access → List ℕ → List ℕ → Result Bool Answer
permitted_on_kind access action kind =
    permitted access.policies (decision_on access action (kind_resource kind)) action
    (kind_thing kind)

-- ---- names and bodies

-- a letter, a digit or one of _ . -
abbrev pub is_name_byte : ℕ → Bool
is_name_byte b =
    (is_letter b || is_digit b)
    || (nat_eq b underscore || (nat_eq b full_stop || nat_eq b hyphen))

-- a project's or a policy file's name: 1 to 64 of such bytes
abbrev pub is_name : List ℕ → Bool
is_name text = (nat_le 1 (length text) && nat_le (length text) 64) && list_all is_name_byte text

-- the last row has this body
abbrev pub has_body : List ℕ → Option Latest → Bool
has_body body None = false
has_body body (Some l) = bytes_eq l.row.body body
