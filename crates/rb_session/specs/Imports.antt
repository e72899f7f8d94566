-- The imports of a manifest's documents.
use Rattle.std.specs.Prelude.{◌≡◌, ℕ, ℤ, List, [], ◌∷◌, codes, Option, Some, None}
use Rattle.rb_acl.specs.declared.policy.Caller.{Caller}
use Rattle.rb_causes.specs.Sinks.{SinkState}
use Rattle.rb_command.specs.Lines.{memory_line}
use Rattle.rb_door.specs.Exchanges.{Moments}
use Rattle.rb_fault_lines.specs.Lines.{yaml_line, node_line, policy_line, job_line}
use Rattle.rb_log.specs.Acted.{Acted, ActsAs}
use Rattle.rb_log.specs.Records.{Record}
use Rattle.rb_log.specs.Told.{Told}
use Rattle.rb_log.specs.declared.answer.Answer.{Answer}
use Rattle.rb_log.specs.declared.answer.Answer.TheVariants as answer
use Rattle.rb_session.specs.Documents.{import_of}
use Rattle.rb_session.specs.Fetching.{EndsBy, name_at}
use Rattle.rb_session.specs.Lines.{Stop, stop_with, kind_line, full_line, store_line}
use Rattle.rb_session.specs.declared.place.Document.{Document}

-- ---- how an import ends a session

abbrev pub refused_as : List ℕ → List ℕ → Option (List ℕ) → Option Stop
refused_as file kind text = Some (stop_with 3 (kind_line file kind text))

abbrev pub stop_wanting : Stop
stop_wanting = stop_with 7 memory_line

-- by the answer to the import of this file; an import that is taken ends nothing. What no import
-- answers stands with want of memory.
abbrev pub stop_by : List ℕ → Answer → Option Stop
stop_by file (answer.Imported version jobs) = None
stop_by file answer.Full = Some (stop_with 10 full_line)
stop_by file answer.StoreFault = Some (stop_with 6 store_line)
stop_by file (answer.BadYaml fault) = Some (stop_with 3 (yaml_line file fault))
stop_by file (answer.BadNodes fault) = Some (stop_with 3 (node_line file fault))
stop_by file (answer.BadPolicy fault) = Some (stop_with 3 (policy_line file fault))
stop_by file (answer.BadJobs fault) = Some (stop_with 3 (job_line file fault))
stop_by file answer.BadZone = refused_as file (codes "BadZone") None
stop_by file answer.BadName = refused_as file (codes "BadName") None
stop_by file answer.TooManyFiles = refused_as file (codes "TooManyFiles") None
stop_by file answer.NoProject = refused_as file (codes "NoProject") None
stop_by file (answer.IdTaken id) = refused_as file (codes "IdTaken") (Some id)
stop_by file (answer.NameTaken id) = refused_as file (codes "NameTaken") (Some id)
stop_by file other = Some stop_wanting

-- how the import of this document ended the session, if it did
abbrev pub stop_of : Document → Record → Option Stop
stop_of document r = stop_by (name_at document.place) r.answer

-- ---- the imports

-- this document was imported, at a moment of the clock
pub record IsImport (may_be : Moments) (owner : Caller) (document : Document) (r : Record)
    : Type 0 where
  pub at : ℤ
  pub moment : may_be at
  pub asked : r.call ≡ import_of owner document at

-- behind a document that was taken the next one comes; one that was not ends them
abbrev pub GoesOnIfTaken : Option Stop → Option Stop → List Record → Type 0 → Type 0
GoesOnIfTaken stop None rs on = on
GoesOnIfTaken stop (Some now) rs on = (stop ≡ Some now) × (rs ≡ [])

-- The documents were imported one after another, and each was taken; or the last of these was not,
-- or memory was wanting for one more call, and no later one is imported.
abbrev pub ImportsDocuments : Moments → Caller → Option Stop → List Document → List Record → Type 0
ImportsDocuments may_be owner stop [] [] = stop ≡ None
ImportsDocuments may_be owner stop [] (r ∷ rs) = ⊥
ImportsDocuments may_be owner stop (d ∷ ds) [] = stop ≡ Some stop_wanting
ImportsDocuments may_be owner stop (d ∷ ds) (r ∷ rs) =
    IsImport may_be owner d r
    × GoesOnIfTaken stop (stop_of d r) rs (ImportsDocuments may_be owner stop ds rs)

-- The imports of these documents, made by a clerk: each was taken.
pub record ImportsAll (may_be : Moments) (owner : Caller) (documents : List Document)
    (old new : Told) : Type 0 where
  pub made : List Record
  pub acted : Acted old new made
  pub imports : ImportsDocuments may_be owner None documents made

-- One of them was not, which is told.
pub record ImportsStop (may_be : Moments) (owner : Caller) (documents : List Document)
    (old new : Told) (status : ℕ) (before after : SinkState) : Type 0 where
  pub made : List Record
  pub stop : Stop
  pub acted : Acted old new made
  pub imports : ImportsDocuments may_be owner (Some stop) documents made
  pub ends : EndsBy stop status before after

-- ---- one import

-- it was made, and taken
pub record ImportsOne (may_be : Moments) (owner : Caller) (document : Document) (old new : Told)
    : Type 0 where
  pub r : Record
  pub acts : ActsAs old new r
  pub import : IsImport may_be owner document r
  pub taken : stop_of document r ≡ None

-- it was not taken; or memory was wanting for the call, and the clerk was not asked
abbrev pub IsStopped : Moments → Caller → Document → Told → Told → Stop → List Record → Type 0
IsStopped may_be owner document old new stop made =
    Acted old new made × ImportsDocuments may_be owner (Some stop) (document ∷ []) made

pub record StopsAtOne (may_be : Moments) (owner : Caller) (document : Document) (old new : Told)
    (status : ℕ) (before after : SinkState) : Type 0 where
  pub made : List Record
  pub stop : Stop
  pub stopped : IsStopped may_be owner document old new stop made
  pub ends : EndsBy stop status before after
