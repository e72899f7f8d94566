-- Why a file was not had, from the part of its reading that refused it.
use Rattle.std.proofs.Common.{◌≡◌, ◌∙◌, ◌++◌, List, [], ◌∷◌, ℕ, map, All, Option, Some, None, Ok, refl, ap, sym, append-nil, append_assoc}
use Rattle.std.proofs.lemmas.List.{map-append}
use Rattle.std.proofs.lemmas.List.Elements.{All-nil, All-cons, All-append}
use Rattle.rb_causes.specs.Outside.{Fetched}
use Rattle.rb_causes.specs.Sinks.{SinkState}
use Rattle.rb_causes.specs.declared.shelf.File.{File}
use Rattle.rb_yaml.specs.Documents.{docs_of}
use Rattle.rb_yaml.specs.Tree.{YamlTree}
use Rattle.rb_session.specs.Documents.{AreDocuments, IsHad, file_at}
use Rattle.rb_session.specs.Fetching.{IsDocsUnread, IsDocumentUnread, IsManifestUnread, IsPlaceNotHad, IsPlaceUnread, IsReadUnread, IsShelfUnread, IsTextUnread, ShelfSight, StopsIn}
use Rattle.rb_session.specs.declared.place.Document.{Document}
use Rattle.rb_session.specs.declared.place.Place.{Place}
use Rattle.rb_session.specs.declared.unread.Unread.{Unread}
use Rattle.rb_session.specs.declared.unread.Unread.TheVariants as unread

module _ (old new : ShelfSight) (name : List ℕ) where
  pub by_shelf : (u : Unread) → IsShelfUnread old new name u → IsManifestUnread old new name u
  by_shelf unread.Absent h = h
  by_shelf unread.ShelfFailed h = h
  by_shelf (unread.NotYaml f) h = absurd h
  by_shelf (unread.NotManifest f) h = absurd h
  by_shelf (unread.NotText f) h = absurd h
  by_shelf unread.NoMemory h = h

  pub by_docs : (text : List ℕ) (u : Unread) → Fetched old.files name (Some text)
      → IsDocsUnread text u → IsManifestUnread old new name u
  by_docs text unread.Absent there h = absurd h
  by_docs text unread.ShelfFailed there h = absurd h
  by_docs text (unread.NotYaml f) there h = (text, there, h)
  by_docs text (unread.NotManifest f) there h = absurd h
  by_docs text (unread.NotText f) there h = absurd h
  by_docs text unread.NoMemory there h = tt

  pub by_manifest : (text : List ℕ) (docs : List YamlTree) (u : Unread)
      → Fetched old.files name (Some text) → docs_of text ≡ Ok docs → IsReadUnread docs u
      → IsManifestUnread old new name u
  by_manifest text docs unread.Absent there yaml h = absurd h
  by_manifest text docs unread.ShelfFailed there yaml h = absurd h
  by_manifest text docs (unread.NotYaml f) there yaml h = absurd h
  by_manifest text docs (unread.NotManifest f) there yaml h = (text, there, (docs, yaml, h))
  by_manifest text docs (unread.NotText f) there yaml h = absurd h
  by_manifest text docs unread.NoMemory there yaml h = tt

  pub document_by_shelf : (u : Unread) → IsShelfUnread old new name u
      → IsDocumentUnread old new name u
  document_by_shelf unread.Absent h = h
  document_by_shelf unread.ShelfFailed h = h
  document_by_shelf (unread.NotYaml f) h = absurd h
  document_by_shelf (unread.NotManifest f) h = absurd h
  document_by_shelf (unread.NotText f) h = absurd h
  document_by_shelf unread.NoMemory h = h

  pub document_by_text : (text : List ℕ) (u : Unread) → Fetched old.files name (Some text)
      → IsTextUnread text u → IsDocumentUnread old new name u
  document_by_text text unread.Absent there h = absurd h
  document_by_text text unread.ShelfFailed there h = absurd h
  document_by_text text (unread.NotYaml f) there h = absurd h
  document_by_text text (unread.NotManifest f) there h = absurd h
  document_by_text text (unread.NotText f) there h = (text, there, h)
  document_by_text text unread.NoMemory there h = tt

-- ---- the documents so far

places_more : (before : List Document) (d : Document) (behind places : List Place) (place : Place)
    → d.place ≡ place → map (λ d. d.place) before ++ place ∷ behind ≡ places
    → map (λ d. d.place) (before ++ d ∷ []) ++ behind ≡ places
places_more before d behind places place is h =
    ap (λ ps. ps ++ behind) (map-append (λ d. d.place) before (d ∷ []))
    ∙ append_assoc (map (λ d. d.place) before) (d.place ∷ []) behind
    ∙ ap (λ p. map (λ d. d.place) before ++ p ∷ behind) is ∙ h

-- what was had so far, and the places that are left
pub record HadSoFar (files : Option (List File)) (places : List Place) (before : List Document)
    (behind : List Place) : Type 0 where
  pub parted : map (λ d. d.place) before ++ behind ≡ places
  pub had : All (IsHad files) before

pub had_none : (files : Option (List File)) (places : List Place) → HadSoFar files places [] places
had_none files places = record { parted = refl; had = All-nil (IsHad files) }

pub had_more : (files : Option (List File)) (places : List Place) (before : List Document)
    (place : Place) (behind : List Place) (d : Document)
    → HadSoFar files places before (place ∷ behind) → d.place ≡ place → IsHad files d
    → HadSoFar files places (before ++ d ∷ []) behind
had_more files places before place behind d h is had = record {
  parted = places_more before d behind places place is h.parted;
  had = All-append (IsHad files) before (d ∷ []) h.had
      (All-cons (IsHad files) d [] had (All-nil (IsHad files)));
}

pub had_all : (files : Option (List File)) (places : List Place) (before : List Document)
    → HadSoFar files places before [] → AreDocuments files places before
had_all files places before h = record {
  standing_at = sym (append-nil (map (λ d. d.place) before)) ∙ h.parted;
  texts = h.had;
}

pub stops_here : (old new : ShelfSight) (places : List Place) (before : List Document)
    (place : Place) (behind : List Place) (status : ℕ) (told told' : SinkState)
    → HadSoFar old.files places before (place ∷ behind)
    → IsPlaceNotHad old new place status told told' → StopsIn old new places status told told'
stops_here old new places before place behind status told told' so_far h = (
  h.0,
  h.1,
  record {
    before = before;
    place = place;
    behind = behind;
    parted = sym so_far.parted;
    had = so_far.had;
    named = h.2.0;
    cause = h.2.1;
  },
  h.3,
)

no_memory_at : (old new : ShelfSight) (file : Option (List ℕ))
    → IsPlaceUnread old new file unread.NoMemory
no_memory_at old new None = refl
no_memory_at old new (Some name) = tt

pub no_memory_there : (old new : ShelfSight) (place : Place)
    → IsPlaceUnread old new (file_at place) unread.NoMemory
no_memory_there old new place = no_memory_at old new (file_at place)
