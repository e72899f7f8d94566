-- The manifest's file and the files that it names: what is had of them, or the first that is not.
use Rattle.std.specs.Prelude.{
  ◌≡◌,
  ◌⊎◌,
  ℕ,
  List,
  [],
  ◌∷◌,
  ◌++◌,
  map,
  All,
  codes,
  Option,
  Some,
  None,
  unwrap_or,
  Ok,
  Err,
}
use Rattle.rb_causes.specs.Causes.{Rose}
use Rattle.rb_causes.specs.Outside.{Fetched}
use Rattle.rb_causes.specs.declared.shelf.File.{File}
use Rattle.rb_causes.specs.Sinks.{SinkState}
use Rattle.rb_command.specs.Lines.{absent_line, memory_line, shelf_line}
use Rattle.rb_command.specs.Told.{Tells}
use Rattle.rb_fault_lines.specs.Lines.{yaml_line}
use Rattle.rb_yaml.specs.Documents.{docs_of}
use Rattle.rb_yaml.specs.Telling.{whole_fault}
use Rattle.rb_yaml.specs.Tree.{YamlTree}
use Rattle.rb_manifest.specs.Manifests.{manifest_of}
use Rattle.rb_manifest.specs.declared.manifest.Manifest.{Manifest}
use Rattle.rb_manifest.specs.declared.manifest_err.ManifestFault.{ManifestFault}
use Rattle.rb_manifest.specs.declared.manifest_err.ManifestFault.TheVariants as fault
use Rattle.rb_session.specs.Documents.{AreDocuments, IsHad, file_at, places_of}
use Rattle.rb_session.specs.Lines.{Stop, stop_with, kind_line}
use Rattle.rb_session.specs.declared.place.Document.{Document}
use Rattle.rb_session.specs.declared.place.Place.{Place}
use Rattle.rb_session.specs.declared.place.Place.TheVariants.{Zone, Policy, Nodes, Jobs}
use Rattle.rb_session.specs.declared.unread.Unread.{Unread}
use Rattle.rb_session.specs.declared.unread.Unread.TheVariants as unread

-- the files and the shelf's count of faults
pub record ShelfSight : Type 0 where
  pub files : Option (List File)
  pub faults : ℕ

abbrev pub sight : Option (List File) → ℕ → ShelfSight
sight files faults = record { files = files; faults = faults }

-- ---- what is told

abbrev pub manifest_kind : ManifestFault → List ℕ
manifest_kind (fault.OutOfProfile text) = codes "OutOfProfile"
manifest_kind (fault.BadShape text) = codes "BadShape"
manifest_kind (fault.BadName text) = codes "BadName"
manifest_kind (fault.TooMany text) = codes "TooMany"
manifest_kind (fault.Twice text) = codes "Twice"

abbrev pub manifest_text : ManifestFault → List ℕ
manifest_text (fault.OutOfProfile text) = text
manifest_text (fault.BadShape text) = text
manifest_text (fault.BadName text) = text
manifest_text (fault.TooMany text) = text
manifest_text (fault.Twice text) = text

-- how a session ends by a file that was not had
abbrev pub stop_unread : List ℕ → Unread → Stop
stop_unread file unread.Absent = stop_with 3 (absent_line file)
stop_unread file unread.ShelfFailed = stop_with 4 shelf_line
stop_unread file (unread.NotYaml f) = stop_with 3 (yaml_line file f)
stop_unread file (unread.NotManifest f) =
    stop_with 3 (kind_line file (manifest_kind f) (Some (manifest_text f)))
stop_unread file (unread.NotText f) = stop_with 3 (yaml_line file f)
stop_unread file unread.NoMemory = stop_with 7 memory_line

-- ---- what is had

-- the file of this name holds this manifest
pub record HoldsManifest (files : Option (List File)) (name : List ℕ) (m : Manifest) : Type 0 where
  pub text : List ℕ
  pub docs : List YamlTree
  pub fetched : Fetched files name (Some text)
  pub yaml : docs_of text ≡ Ok docs
  pub read : manifest_of docs ≡ Ok m

-- ---- what is not had

-- Why a shelf gave no bytes of this name. Want of memory needs no cause, here and below.
abbrev pub IsShelfUnread : ShelfSight → ShelfSight → List ℕ → Unread → Type 0
IsShelfUnread old new name unread.Absent = Fetched old.files name None
IsShelfUnread old new name unread.ShelfFailed = Rose old.faults new.faults
IsShelfUnread old new name unread.NoMemory = Unit {0}
IsShelfUnread old new name other = ⊥

-- why bytes are no documents
abbrev pub IsDocsUnread : List ℕ → Unread → Type 0
IsDocsUnread bytes (unread.NotYaml f) = docs_of bytes ≡ Err f
IsDocsUnread bytes unread.NoMemory = Unit {0}
IsDocsUnread bytes other = ⊥

-- why documents are no manifest
abbrev pub IsReadUnread : List YamlTree → Unread → Type 0
IsReadUnread docs (unread.NotManifest f) = manifest_of docs ≡ Err f
IsReadUnread docs unread.NoMemory = Unit {0}
IsReadUnread docs other = ⊥

-- why bytes are no text of a document
abbrev pub IsTextUnread : List ℕ → Unread → Type 0
IsTextUnread bytes (unread.NotText f) = whole_fault bytes ≡ Some f
IsTextUnread bytes unread.NoMemory = Unit {0}
IsTextUnread bytes other = ⊥

-- the file is there with a text of which this holds
abbrev pub HasText : Option (List File) → List ℕ → (List ℕ → Type 0) → Type 0
HasText files name Is = (text : List ℕ) × Fetched files name (Some text) × Is text

-- the text is one of documents of which this holds
abbrev pub HasDocs : List ℕ → (List YamlTree → Type 0) → Type 0
HasDocs text Is = (docs : List YamlTree) × (docs_of text ≡ Ok docs) × Is docs

-- why the manifest's own file was not had
abbrev pub IsManifestUnread : ShelfSight → ShelfSight → List ℕ → Unread → Type 0
IsManifestUnread old new name (unread.NotYaml f) =
    HasText old.files name (λ text. docs_of text ≡ Err f)
IsManifestUnread old new name (unread.NotManifest f) =
    HasText old.files name (λ text. HasDocs text (λ docs. manifest_of docs ≡ Err f))
IsManifestUnread old new name other = IsShelfUnread old new name other

-- why the file of a document was not had
abbrev pub IsDocumentUnread : ShelfSight → ShelfSight → List ℕ → Unread → Type 0
IsDocumentUnread old new name (unread.NotText f) =
    HasText old.files name (λ text. whole_fault text ≡ Some f)
IsDocumentUnread old new name other = IsShelfUnread old new name other

-- where no file is named, only memory can be wanting
abbrev pub IsPlaceUnread : ShelfSight → ShelfSight → Option (List ℕ) → Unread → Type 0
IsPlaceUnread old new None u = u ≡ unread.NoMemory
IsPlaceUnread old new (Some file) u = IsDocumentUnread old new file u

-- the file that is told of a place: the one that is named there, and for a zone the manifest's; it
-- is empty where no file is named
abbrev pub name_at : Place → List ℕ
name_at (Zone file name rule) = file
name_at (Policy file) = file
name_at (Nodes project file) = unwrap_or file []
name_at (Jobs project file) = file

-- The documents at the places before this one were had, and the one here was not.
pub record StopsAmong (old new : ShelfSight) (places : List Place) (file : List ℕ) (u : Unread)
    : Type 0 where
  pub before : List Document
  pub place : Place
  pub behind : List Place
  pub parted : places ≡ map (λ d. d.place) before ++ place ∷ behind
  pub had : All (IsHad old.files) before
  pub named : file ≡ name_at place
  pub cause : IsPlaceUnread old new (file_at place) u

-- The manifest is read, and one of the documents that it names is the first that was not had.
pub record StopsAtDocument (old new : ShelfSight) (name file : List ℕ) (u : Unread) : Type 0 where
  pub manifest : Manifest
  pub holds : HoldsManifest old.files name manifest
  pub stops : StopsAmong old new (places_of name manifest) file u

-- The first file in order that was not had: the manifest's, or one that it names.
abbrev pub StopsAtFile : ShelfSight → ShelfSight → List ℕ → List ℕ → Unread → Type 0
StopsAtFile old new name file u =
    ((file ≡ name) × IsManifestUnread old new name u) ⊎ StopsAtDocument old new name file u

-- ---- how that is told

-- the status and the line are those of this end
pub record EndsBy (stop : Stop) (status : ℕ) (before after : SinkState) : Type 0 where
  pub is : status ≡ stop.status
  pub told : Tells stop.line before after

-- a file was not had for a cause of this kind, which is told
abbrev pub EndsUnread : (List ℕ → Unread → Type 0) → ℕ → SinkState → SinkState → Type 0
EndsUnread IsCause status before after =
    (file : List ℕ) × (u : Unread) × IsCause file u
    × EndsBy (stop_unread file u) status before after

abbrev pub IsManifestNotHad : ShelfSight → ShelfSight → List ℕ → ℕ → SinkState → SinkState
    → Type 0
IsManifestNotHad old new name =
    EndsUnread (λ file u. (file ≡ name) × IsManifestUnread old new name u)

abbrev pub IsPlaceNotHad : ShelfSight → ShelfSight → Place → ℕ → SinkState → SinkState → Type 0
IsPlaceNotHad old new place =
    EndsUnread (λ file u. (file ≡ name_at place) × IsPlaceUnread old new (file_at place) u)

abbrev pub StopsIn : ShelfSight → ShelfSight → List Place → ℕ → SinkState → SinkState → Type 0
StopsIn old new places = EndsUnread (StopsAmong old new places)

-- The first file that was not had, and why, is told.
abbrev pub IsNotHad : ShelfSight → ShelfSight → List ℕ → ℕ → SinkState → SinkState → Type 0
IsNotHad old new name = EndsUnread (StopsAtFile old new name)

-- ---- what is had, of all

-- All files were had: the manifest, and the documents that it names.
pub record AllHad (files : Option (List File)) (name : List ℕ) (m : Manifest)
    (documents : List Document) : Type 0 where
  pub manifest : HoldsManifest files name m
  pub at_places : AreDocuments files (places_of name m) documents
