-- Where all files are had, none is refused.
use Rattle.std.proofs.Common.{◌≡◌, ◌∙◌, inl, inr, ℕ, List, [], ◌∷◌, ◌++◌, map, Option, Some, None, Ok, Err, ap, sym, subst, refl, arith}
use Rattle.std.proofs.lemmas.List.Elements.{All-head, All-tail}
use Rattle.std.proofs.lemmas.Option.{none-some, same_Some}
use Rattle.std.specs.Prelude.{All, Result}
use Rattle.rb_causes.specs.Outside.{Fetched}
use Rattle.rb_causes.specs.declared.shelf.File.{File}
use Rattle.rb_yaml.specs.Documents.{docs_of}
use Rattle.rb_yaml.specs.Telling.{whole_fault}
use Rattle.rb_manifest.specs.Manifests.{manifest_of}
use Rattle.rb_manifest.specs.declared.manifest.Manifest.{Manifest}
use Rattle.rb_session.specs.Documents.{IsDocument, IsHad, file_at, places_of}
use Rattle.rb_session.specs.Fetching.{
  AllHad,
  HoldsManifest,
  IsDocumentUnread,
  IsManifestUnread,
  IsPlaceUnread,
  ShelfSight,
  StopsAtDocument,
  StopsAtFile,
}
use Rattle.rb_session.specs.declared.place.Document.{Document}
use Rattle.rb_session.specs.declared.place.Place.{Place}
use Rattle.rb_session.specs.declared.unread.Unread.{Unread}
use Rattle.rb_session.specs.declared.unread.Unread.TheVariants as unread
use Rattle.rb_session_laws.specs.Statuses.{IsRefusedFile}

ok_err : {A B : Type 0} (x : A) (y : B) → ◌≡◌ {A = Result A B} (Ok x) (Err y) → ⊥
ok_err x y h = absurd (grind (arith, h))

same_ok : {A B : Type 0} (x y : A) → ◌≡◌ {A = Result A B} (Ok x) (Ok y) → x ≡ y
same_ok x y h = grind (arith, h)

-- two texts that a shelf has under one name are one
one_text : (files : List File) (name : List ℕ) (x y : Option (List ℕ))
    → Fetched (Some files) name x → Fetched (Some files) name y → x ≡ y
one_text files name x y h k = h ∙ sym k

module _ (old new : ShelfSight) (files : List File) (told : old.files ≡ Some files)
    (name : List ℕ) where
  fetched : (x : Option (List ℕ)) → Fetched old.files name x → Fetched (Some files) name x
  fetched x h = subst (λ o. Fetched o name x) told h

  -- the manifest was had
  not_unread : (m : Manifest) → HoldsManifest (Some files) name m → (u : Unread) → IsRefusedFile u
      → IsManifestUnread old new name u → ⊥
  not_unread m holds unread.Absent refused h =
      none-some holds.text (one_text files name None (Some holds.text)
      (fetched None h) holds.fetched)
  not_unread m holds unread.ShelfFailed refused h = refused
  not_unread m holds (unread.NotYaml f) refused h =
      let same = same_Some h.0 holds.text (one_text files name (Some h.0) (Some holds.text)
      (fetched (Some h.0) h.1) holds.fetched) in
      ok_err holds.docs f (sym holds.yaml ∙ ap docs_of (sym same) ∙ h.2)
  not_unread m holds (unread.NotManifest f) refused h =
      let same = same_Some h.0 holds.text (one_text files name (Some h.0) (Some holds.text)
      (fetched (Some h.0) h.1) holds.fetched) in
      let docs = same_ok h.2.0 holds.docs (sym h.2.1 ∙ ap docs_of same ∙ holds.yaml) in
      ok_err m f (sym holds.read ∙ ap manifest_of (sym docs) ∙ h.2.2)
  not_unread m holds (unread.NotText f) refused h = h
  not_unread m holds unread.NoMemory refused h = refused

  -- a document was had
  not_refused : (text : List ℕ) → IsDocument (Some files) (Some name) text → (u : Unread)
      → IsRefusedFile u → IsDocumentUnread old new name u → ⊥
  not_refused text had unread.Absent refused h =
      none-some text (one_text files name None (Some text) (fetched None h) had.fetched)
  not_refused text had unread.ShelfFailed refused h = refused
  not_refused text had (unread.NotYaml f) refused h = h
  not_refused text had (unread.NotManifest f) refused h = h
  not_refused text had (unread.NotText f) refused h =
      let same = same_Some h.0 text (one_text files name (Some h.0) (Some text)
      (fetched (Some h.0) h.1) had.fetched) in
      none-some f (sym had.sound ∙ ap whole_fault (sym same) ∙ h.2)
  not_refused text had unread.NoMemory refused h = refused

  -- one manifest
  one_manifest : (m n : Manifest) → HoldsManifest (Some files) name m
      → HoldsManifest old.files name n → n ≡ m
  one_manifest m n holds other =
      let same = same_Some other.text holds.text (one_text files name (Some other.text)
      (Some holds.text) (fetched (Some other.text) other.fetched) holds.fetched) in
      let docs = same_ok other.docs holds.docs (sym other.yaml ∙ ap docs_of same ∙ holds.yaml) in
      same_ok n m (sym other.read ∙ ap manifest_of docs ∙ holds.read)

memory_alone : (u : Unread) → IsRefusedFile u → u ≡ unread.NoMemory → ⊥
memory_alone u refused is = subst IsRefusedFile is refused

place_had : (old new : ShelfSight) (files : List File) → old.files ≡ Some files
    → (file : Option (List ℕ)) (text : List ℕ) → IsDocument (Some files) file text → (u : Unread)
    → IsRefusedFile u → IsPlaceUnread old new file u → ⊥
place_had old new files told None text had u refused h = memory_alone u refused h
place_had old new files told (Some name) text had u refused h =
    not_refused old new files told name text had u refused h

-- the document that stands behind as many as these is had
had_at : (files : List File) (before : List Document) (place : Place) (behind : List Place)
    (documents : List Document)
    → map (λ d. d.place) documents ≡ map (λ d. d.place) before ++ place ∷ behind
    → All (IsHad (Some files)) documents
    → (text : List ℕ) × IsDocument (Some files) (file_at place) text
had_at files [] place behind [] h had = absurd (grind (arith, h))
had_at files [] place behind (d ∷ documents) h had = (
  d.body,
  subst (λ p. IsDocument (Some files) (file_at p) d.body) (first h)
      (All-head (IsHad (Some files)) d documents had),
)
  where
    first : (d.place ∷ map (λ e. e.place) documents) ≡ place ∷ behind → d.place ≡ place
    first h = grind (arith, h)
had_at files (b ∷ before) place behind [] h had = absurd (grind (arith, h))
had_at files (b ∷ before) place behind (d ∷ documents) h had =
    had_at files before place behind documents (rest h)
    (All-tail (IsHad (Some files)) d documents had)
  where
    rest : (d.place ∷ map (λ e. e.place) documents)
        ≡ b.place ∷ map (λ e. e.place) before ++ place ∷ behind
        → map (λ e. e.place) documents ≡ map (λ e. e.place) before ++ place ∷ behind
    rest h = grind (arith, h)

module _ (old new : ShelfSight) (files : List File) (told : old.files ≡ Some files)
    (name : List ℕ) (m : Manifest) (documents : List Document)
    (had : AllHad (Some files) name m documents) (file : List ℕ) (u : Unread)
    (refused : IsRefusedFile u) where
  at_document : StopsAtDocument old new name file u → ⊥
  at_document h =
      let same = one_manifest old new files told name m h.manifest had.manifest h.holds in
      let places = had.at_places.standing_at ∙ ap (places_of name) (sym same) ∙ h.stops.parted in
      let found = had_at files h.stops.before h.stops.place h.stops.behind documents places
      had.at_places.texts in
      place_had old new files told (file_at h.stops.place) found.0 found.1 u refused h.stops.cause

  pub none_is_refused : StopsAtFile old new name file u → ⊥
  none_is_refused (inl h) = not_unread old new files told name m had.manifest u refused h.1
  none_is_refused (inr h) = at_document h

-- ---- one list of documents

same_body : (files : List File) (file : Option (List ℕ)) (x y : List ℕ)
    → IsDocument (Some files) file x → IsDocument (Some files) file y → x ≡ y
same_body files None x y h k = h ∙ sym k
same_body files (Some name) x y h k =
    same_Some x y (one_text files name (Some x) (Some y) h.fetched k.fetched)

abbrev document_of : Place → List ℕ → Document
document_of place body = record { place = place; body = body }

same_document : (files : List File) (d e : Document) → d.place ≡ e.place
    → IsHad (Some files) d → IsHad (Some files) e → d ≡ e
same_document files d e place h k =
    let body : d.body ≡ e.body = same_body files (file_at d.place) d.body e.body h
    (subst (λ p. IsDocument (Some files) (file_at p) e.body) (sym place) k) in
    ap (λ p. document_of p d.body) place ∙ ap (λ b. document_of e.place b) body

same_documents : (files : List File) (ds es : List Document)
    → map (λ d. d.place) ds ≡ map (λ d. d.place) es
    → All (IsHad (Some files)) ds → All (IsHad (Some files)) es → ds ≡ es
same_documents files [] [] h had hers = refl
same_documents files [] (e ∷ es) h had hers = absurd (grind (arith, h))
same_documents files (d ∷ ds) [] h had hers = absurd (grind (arith, h))
same_documents files (d ∷ ds) (e ∷ es) h had hers =
    ap (λ x. x ∷ ds) (same_document files d e (first h)
    (All-head (IsHad (Some files)) d ds had) (All-head (IsHad (Some files)) e es hers))
    ∙ ap (λ xs. e ∷ xs) (same_documents files ds es (rest h)
    (All-tail (IsHad (Some files)) d ds had) (All-tail (IsHad (Some files)) e es hers))
  where
    first : (d.place ∷ map (λ x. x.place) ds) ≡ e.place ∷ map (λ x. x.place) es
        → d.place ≡ e.place
    first h = grind (arith, h)

    rest : (d.place ∷ map (λ x. x.place) ds) ≡ e.place ∷ map (λ x. x.place) es
        → map (λ x. x.place) ds ≡ map (λ x. x.place) es
    rest h = grind (arith, h)

-- the manifest and its documents are those that are had
pub same_had : (files : List File) (name : List ℕ) (m n : Manifest) (ds es : List Document)
    → AllHad (Some files) name m ds → AllHad (Some files) name n es → (m ≡ n) × (ds ≡ es)
same_had files name m n ds es h k =
    let shelf : ShelfSight = record { files = Some files; faults = 0 } in
    let same = one_manifest shelf shelf files refl name n m k.manifest h.manifest in (
      same,
      same_documents files ds es
          (h.at_places.standing_at ∙ ap (places_of name) same ∙ sym k.at_places.standing_at)
          h.at_places.texts k.at_places.texts,
    )
