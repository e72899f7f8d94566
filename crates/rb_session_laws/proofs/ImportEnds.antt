-- How the imports of a session end it.
use Rattle.std.proofs.Common.{◌≡◌, ◌∙◌, ◌⊎◌, inl, inr, ℕ, List, [], ◌∷◌, ◌++◌, length, Option, Some, None, ap, sym, refl}
use Rattle.std.proofs.lemmas.Option.{none-some, same_Some}
use Rattle.std.specs.Prelude.{slice_get}
use Rattle.rb_acl.specs.declared.policy.Caller.{Caller}
use Rattle.rb_door.specs.Exchanges.{Moments}
use Rattle.rb_log.specs.Records.{Record}
use Rattle.rb_log.specs.declared.answer.Answer.{Answer}
use Rattle.rb_log.specs.declared.answer.Answer.TheVariants as answer
use Rattle.rb_session.specs.Imports.{GoesOnIfTaken, ImportsDocuments, stop_by, stop_of, stop_wanting}
use Rattle.rb_session.specs.Lines.{Stop}
use Rattle.rb_session.specs.declared.place.Document.{Document}
use Rattle.rb_session_laws.specs.Statuses.{IsRefusedImport}

-- ---- the answer to an import that was not taken

-- how an import that ends the session was answered, by the status
pub data EndingAnswer (a : Answer) (s : Stop) : Type 0 where
  refused : s.status ≡ 3 → IsRefusedImport a → EndingAnswer a s
  full : s.status ≡ 10 → a ≡ answer.Full → EndingAnswer a s
  failed : s.status ≡ 6 → EndingAnswer a s
  wanting : s.status ≡ 7 → EndingAnswer a s

status_is : (x s : Stop) → Some x ≡ Some s → s.status ≡ x.status
status_is x s h = ap (λ (t : Stop). t.status) (sym (same_Some x s h))

pub answer_ends : (file : List ℕ) (a : Answer) (s : Stop) → stop_by file a ≡ Some s
    → EndingAnswer a s
answer_ends file (answer.Imported version jobs) s h = absurd (none-some s h)
answer_ends file answer.Full s h = full (status_is _ s h) refl
answer_ends file answer.StoreFault s h = failed (status_is _ s h)
answer_ends file (answer.BadYaml fault) s h = refused (status_is _ s h) tt
answer_ends file (answer.BadNodes fault) s h = refused (status_is _ s h) tt
answer_ends file (answer.BadPolicy fault) s h = refused (status_is _ s h) tt
answer_ends file (answer.BadJobs fault) s h = refused (status_is _ s h) tt
answer_ends file answer.BadZone s h = refused (status_is _ s h) tt
answer_ends file answer.BadName s h = refused (status_is _ s h) tt
answer_ends file answer.TooManyFiles s h = refused (status_is _ s h) tt
answer_ends file answer.NoProject s h = refused (status_is _ s h) tt
answer_ends file (answer.IdTaken id) s h = refused (status_is _ s h) tt
answer_ends file (answer.NameTaken id) s h = refused (status_is _ s h) tt
answer_ends file other s h = wanting (status_is _ s h)

-- ---- the last import

-- the last of these imports was of this document, and ended the session so
pub record IsLast (documents : List Document) (made : List Record) (s : Stop) : Type 0 where
  pub before : List Record
  pub document : Document
  pub r : Record
  pub made_so : made ≡ before ++ r ∷ []
  pub at_document : slice_get documents (length before) ≡ Some document
  pub ended : stop_of document r ≡ Some s

later : (d : Document) (r : Record) (documents : List Document) (made : List Record) (s : Stop)
    → (s ≡ stop_wanting) ⊎ IsLast documents made s
    → (s ≡ stop_wanting) ⊎ IsLast (d ∷ documents) (r ∷ made) s
later d r documents made s (inl is) = inl is
later d r documents made s (inr last) = inr (record {
  before = r ∷ last.before;
  document = last.document;
  r = last.r;
  made_so = ap (λ rs. r ∷ rs) last.made_so;
  at_document = last.at_document;
  ended = last.ended;
})

module _ (may_be : Moments) (owner : Caller) (stop : Option Stop) (s : Stop) (is : stop ≡ Some s)
  where
    ends_here : (d : Document) (r : Record) (documents : List Document) (made : List Record)
        (now : Stop) → stop_of d r ≡ Some now → stop ≡ Some now → made ≡ []
        → IsLast (d ∷ documents) (r ∷ made) s
    ends_here d r documents made now so ended none = record {
      before = [];
      document = d;
      r = r;
      made_so = ap (λ rs. r ∷ rs) none;
      at_document = refl;
      ended = so ∙ sym ended ∙ is;
    }

    one_ends : (d : Document) (r : Record) (documents : List Document) (made : List Record)
        → (ImportsDocuments may_be owner stop documents made
        → (s ≡ stop_wanting) ⊎ IsLast documents made s)
        → (now : Option Stop) → stop_of d r ≡ now
        → GoesOnIfTaken stop now made (ImportsDocuments may_be owner stop documents made)
        → (s ≡ stop_wanting) ⊎ IsLast (d ∷ documents) (r ∷ made) s
    one_ends d r documents made on None so h = later d r documents made s (on h)
    one_ends d r documents made on (Some now) so h =
        inr (ends_here d r documents made now so h.0 h.1)

    pub imports_end : (documents : List Document) (made : List Record)
        → ImportsDocuments may_be owner stop documents made
        → (s ≡ stop_wanting) ⊎ IsLast documents made s
    imports_end [] [] h = absurd (none-some s (sym h ∙ is))
    imports_end [] (r ∷ made) h = absurd h
    imports_end (d ∷ documents) [] h = inl (same_Some s stop_wanting (sym is ∙ h))
    imports_end (d ∷ documents) (r ∷ made) h =
        one_ends d r documents made (λ next. imports_end documents made next) (stop_of d r) refl h.1
