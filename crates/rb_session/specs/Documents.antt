-- The zones of a manifest and the documents that it names, in the order in which they are fetched
-- and imported: zones, policy files, and then project by project its nodes and its jobs.
use Rattle.std.specs.Prelude.{◌≡◌, ℕ, ℤ, false, List, [], ◌∷◌, ◌++◌, map, All, Option, Some, None}
use Rattle.std.specs.List.{flat_map}
use Rattle.rb_acl.specs.declared.policy.Caller.{Caller}
use Rattle.rb_causes.specs.Outside.{Fetched}
use Rattle.rb_causes.specs.declared.items.Prop.{Prop}
use Rattle.rb_causes.specs.declared.shelf.File.{File}
use Rattle.rb_log.specs.declared.call.Call.{Call}
use Rattle.rb_log.specs.declared.call.Call.TheVariants as call
use Rattle.rb_yaml.specs.Telling.{whole_fault}
use Rattle.rb_manifest.specs.declared.manifest.Manifest.{Manifest}
use Rattle.rb_manifest.specs.declared.manifest.ProjectDocs.{ProjectDocs}
use Rattle.rb_session.specs.declared.place.Document.{Document}
use Rattle.rb_session.specs.declared.place.Place.{Place}
use Rattle.rb_session.specs.declared.place.Place.TheVariants.{Zone, Policy, Nodes, Jobs}

-- ---- places

-- a zone of the manifest in this file
abbrev pub zone_place : List ℕ → Prop → Place
zone_place file zone = Zone file zone.key zone.text

abbrev pub places_of_project : ProjectDocs → List Place
places_of_project project =
    Nodes project.name project.nodes ∷ map (λ file. Jobs project.name file) project.jobs

-- the places of the manifest in this file
abbrev pub places_of : List ℕ → Manifest → List Place
places_of file m =
    (map (zone_place file) m.zones ++ map Policy m.policies)
    ++ flat_map places_of_project m.projects

-- the file that is named there; a zone has none, and a project without one has no nodes
abbrev pub file_at : Place → Option (List ℕ)
file_at (Zone file name rule) = None
file_at (Policy file) = Some file
file_at (Nodes project file) = file
file_at (Jobs project file) = Some file

-- ---- documents

-- The file is there with this text, which is UTF-8 and not too large; other faults of it are found
-- at its import.
pub record IsFetched (files : Option (List File)) (name text : List ℕ) : Type 0 where
  pub fetched : Fetched files name (Some text)
  pub sound : whole_fault text ≡ None

abbrev pub IsDocument : Option (List File) → Option (List ℕ) → List ℕ → Type 0
IsDocument files None text = text ≡ []
IsDocument files (Some name) text = IsFetched files name text

-- the document has the text of the file at its place
abbrev pub IsHad : Option (List File) → Document → Type 0
IsHad files document = IsDocument files (file_at document.place) document.body

-- These documents stand at these places; where no file is named the text is empty.
pub record AreDocuments (files : Option (List File)) (places : List Place)
    (documents : List Document) : Type 0 where
  pub standing_at : map (λ d. d.place) documents ≡ places
  pub texts : All (IsHad files) documents

-- ---- imports

-- how a document is imported: by the owner, and nobody's permission is asked; a zone by its rule
abbrev pub import_at : Caller → Place → List ℕ → ℤ → Call
import_at owner (Zone file name rule) body at = call.ImportZone name rule at
import_at owner (Policy file) body at = call.ImportPolicy owner false file body at
import_at owner (Nodes project file) body at = call.ImportNodes project body at
import_at owner (Jobs project file) body at = call.ImportJobs owner false project body at

abbrev pub import_of : Caller → Document → ℤ → Call
import_of owner document at = import_at owner document.place document.body at
