-- The jobs of a body, with the zones of the tables and with those of the log.
use Rattle.std.proofs.Common.{◌≡◌, inl, inr, ℕ, ℤ, Bool, List, Result, Ok, Err, IfErr, IsErrAnd, sym, subst}
use Rattle.rb_causes.specs.declared.row.Row.{Row}
use Rattle.rb_acl.specs.declared.policy.Caller.{Caller}
use Rattle.rb_cron.specs.declared.zone.NamedZone.{NamedZone}
use Rattle.rb_yaml.specs.Documents.{docs_of}
use Rattle.rb_yaml.specs.Tree.{YamlTree}
use Rattle.rb_log.specs.Moves.{read_as}
use Rattle.rb_log.specs.declared.answer.Answer.{Answer}
use Rattle.rb_log.specs.declared.answer.Answer.TheVariants as answer
use Rattle.rb_log.specs.declared.call.Call.TheVariants as call
use Rattle.rb_tables.specs.Changes.{IsRefusal, IsSettled}
use Rattle.rb_tables.specs.Tables.{IsTabled}
use Rattle.rb_tables.specs.declared.tables.Tables.{Tables}
use Rattle.rb_imports.specs.Bodies.{IsBodyUnread}
use Rattle.rb_imports.specs.Importing.{JobsUnread}
use Rattle.rb_imports.specs.JobImports.{IsPlaceOf}
use Rattle.rb_imports.proofs.JobImports.{jobs_unread, jobs_bad, unread_there}

-- an answer that is handed on, for the body or for its documents
pub body_unread : {A : Type 0} (zones : List NamedZone) (body : List ℕ) (r : Result A Answer)
    (a : Answer)
    → IsErrAnd r (λ x. x ≡ a) → IsRefusal (read_as answer.BadYaml (docs_of body)) a
    → IfErr r (IsBodyUnread zones body)
body_unread zones body (Ok x) a h is = tt
body_unread zones body (Err x) a h is =
    inl (subst (IsRefusal (read_as answer.BadYaml (docs_of body))) (sym h) is)

pub docs_unread : {A : Type 0} (zones : List NamedZone) (body : List ℕ) (docs : List YamlTree)
    (r : Result A Answer)
    → docs_of body ≡ Ok docs → IfErr r (JobsUnread zones docs) → IfErr r (IsBodyUnread zones body)
docs_unread zones body docs (Ok x) is h = tt
docs_unread zones body docs (Err x) is h =
    inr (record { docs = docs; docs_are = is; unread = h })

-- what was not read with the zones of the tables is not read with those of the log
pub jobs_settled : (t : Tables) (past : List Row) (tabled : IsTabled t past) (at : ℤ)
    (caller : Caller) (checked : Bool) (project body : List ℕ) (a : Answer) (place : ℕ)
    → IsPlaceOf t.world.projects project place → IsBodyUnread t.world.zones body a
    → IsSettled past (call.ImportJobs caller checked project body at) a
jobs_settled t past tabled at caller checked project body a place k (inl h) =
    jobs_unread t past tabled at caller checked project body a place k h
jobs_settled t past tabled at caller checked project body a place k (inr h) =
    jobs_bad t past tabled at caller checked project body a h.docs place k h.docs_are
    (unread_there t past tabled h.docs a h.unread)
