-- Imports behind imports.
use Rattle.std.proofs.Common.{
  ◌≡◌,
  ◌∙◌,
  ℕ,
  ℤ,
  List,
  [],
  ◌∷◌,
  ◌++◌,
  Option,
  Some,
  None,
  ap,
  refl,
  sym,
  subst,
  append_assoc,
  append-nil,
  arith,
  option_map,
}
use Rattle.rb_acl.specs.declared.policy.Caller.{Caller}
use Rattle.rb_causes.specs.Sinks.{SinkState}
use Rattle.rb_door.specs.Exchanges.{Moments}
use Rattle.rb_log.specs.Acted.{Acted, ActsAs}
use Rattle.rb_log.specs.Records.{Record}
use Rattle.rb_log.specs.Told.{Acts, Told, record_of}
use Rattle.rb_log.specs.declared.answer.Answer.{Answer}
use Rattle.rb_log.specs.declared.call.Call.{Call}
use Rattle.rb_work.proofs.Records.{acted_then}
use Rattle.rb_session.specs.Documents.{import_of}
use Rattle.rb_session.specs.Fetching.{EndsBy, name_at}
use Rattle.rb_session.specs.Imports.{
  GoesOnIfTaken,
  ImportsAll,
  ImportsDocuments,
  ImportsOne,
  ImportsStop,
  IsImport,
  IsStopped,
  StopsAtOne,
  stop_by,
  stop_of,
}
use Rattle.rb_session.specs.Lines.{Stop}
use Rattle.rb_session.specs.Stopping.{stop_told}
use Rattle.rb_session.specs.declared.place.Document.{Document}
use Rattle.rb_session.specs.declared.stopping.ImportStop.{ImportStop}

-- ---- one import

module _ (may_be : Moments) (owner : Caller) (document : Document) (at : ℤ) (moment : may_be at)
    (call : Call) (is : call ≡ import_of owner document at) (old new : Told) (a : Answer)
    (acts : Acts old new call a) where
  abbrev made : Record
  made = record_of call a acts.before new.log

  abbrev made_so : ActsAs old new made
  made_so = record { acts = acts; before = refl; after = refl }

  is_import : IsImport may_be owner document made
  is_import = record { at = at; moment = moment; asked = is }

  pub taken : (stop : Option ImportStop)
      → ((file : List ℕ) → stop_by file a ≡ option_map (stop_told file) stop)
      → stop ≡ None → ImportsOne may_be owner document old new
  taken stop told none = record {
    r = made;
    acts = made_so;
    import = is_import;
    taken = told (name_at document.place)
        ∙ ap (λ s. option_map (stop_told (name_at document.place)) s) none;
  }

  not_taken : (stop : Option ImportStop) (s : ImportStop)
      → ((file : List ℕ) → stop_by file a ≡ option_map (stop_told file) stop)
      → stop ≡ Some s → IsStopped may_be owner document old new
      (stop_told (name_at document.place) s) (made ∷ [])
  not_taken stop s told some =
      let end : Stop = stop_told (name_at document.place) s in
      let ends : stop_of document made ≡ Some end =
      told (name_at document.place)
      ∙ ap (λ o. option_map (stop_told (name_at document.place)) o) some in (
        (new, made_so, refl),
        (
          is_import,
          subst (λ o. GoesOnIfTaken (Some end) o []
              (ImportsDocuments may_be owner (Some end) [] [])) (sym ends) (refl, refl),
        ),
      )

  pub stopped : (stop : Option ImportStop) (s : ImportStop) (status : ℕ)
      (before after : SinkState)
      → ((file : List ℕ) → stop_by file a ≡ option_map (stop_told file) stop)
      → stop ≡ Some s → EndsBy (stop_told (name_at document.place) s) status before after
      → StopsAtOne may_be owner document old new status before after
  stopped stop s status before after told some ends = record {
    made = made ∷ [];
    stop = stop_told (name_at document.place) s;
    stopped = not_taken stop s told some;
    ends = ends;
  }

-- ---- all of them

module _ (may_be : Moments) (owner : Caller) where
  -- The imports so far, each of which was taken, and the documents that are left.
  pub record TakenSoFar (documents rest : List Document) (old now : Told) : Type 0 where
    pub made : List Record
    pub acted : Acted old now made
    pub goes_on : (stop : Option Stop) (rs : List Record)
        → ImportsDocuments may_be owner stop rest rs
        → ImportsDocuments may_be owner stop documents (made ++ rs)

  pub taken_none : (documents : List Document) (old : Told)
      → TakenSoFar documents documents old old
  taken_none documents old = record { made = []; acted = refl; goes_on = λ stop rs h. h }

  pub taken_more : (documents rest : List Document) (d : Document) (old now new : Told)
      → TakenSoFar documents (d ∷ rest) old now → ImportsOne may_be owner d now new
      → TakenSoFar documents rest old new
  taken_more documents rest d old now new so_far one = record {
    made = so_far.made ++ one.r ∷ [];
    acted = acted_then so_far.made (one.r ∷ []) old now new so_far.acted (new, one.acts, refl);
    goes_on = λ stop rs h.
        subst (λ xs. ImportsDocuments may_be owner stop documents xs)
        (sym (append_assoc so_far.made (one.r ∷ []) rs))
        (so_far.goes_on stop (one.r ∷ rs) (
          one.import,
          subst (λ o. GoesOnIfTaken stop o rs
              (ImportsDocuments may_be owner stop rest rs)) (sym one.taken) h,
        ));
  }

  pub taken_all : (documents : List Document) (old now : Told)
      → TakenSoFar documents [] old now → ImportsAll may_be owner documents old now
  taken_all documents old now so_far = record {
    made = so_far.made;
    acted = so_far.acted;
    imports = subst (λ xs. ImportsDocuments may_be owner None documents xs)
        (append-nil so_far.made) (so_far.goes_on None [] refl);
  }

  none_behind : (s : Stop) (rs : List Record) → ImportsDocuments may_be owner (Some s) [] rs → ⊥
  none_behind s [] h = absurd (grind (arith, h))
  none_behind s (r ∷ rs) h = h

  ends_here : (s : Stop) (o : Option Stop) (rs : List Record) (On : Type 0)
      → GoesOnIfTaken (Some s) o rs (ImportsDocuments may_be owner (Some s) [] rs)
      → GoesOnIfTaken (Some s) o rs On
  ends_here s None rs On h = absurd (none_behind s rs h)
  ends_here s (Some now) rs On h = h

  -- the documents behind the last are not looked at
  none_is_looked_at : (s : Stop) (d : Document) (rest : List Document) (rs : List Record)
      → ImportsDocuments may_be owner (Some s) (d ∷ []) rs
      → ImportsDocuments may_be owner (Some s) (d ∷ rest) rs
  none_is_looked_at s d rest [] h = h
  none_is_looked_at s d rest (r ∷ rs) h =
      (h.0, ends_here s (stop_of d r) rs (ImportsDocuments may_be owner (Some s) rest rs) h.1)

  pub stopped_at : (documents rest : List Document) (d : Document) (old now new : Told)
      (status : ℕ) (before after : SinkState) → TakenSoFar documents (d ∷ rest) old now
      → StopsAtOne may_be owner d now new status before after
      → ImportsStop may_be owner documents old new status before after
  stopped_at documents rest d old now new status before after so_far one = record {
    made = so_far.made ++ one.made;
    stop = one.stop;
    acted = acted_then so_far.made one.made old now new so_far.acted one.stopped.0;
    imports = so_far.goes_on (Some one.stop) one.made
        (none_is_looked_at one.stop d rest one.made one.stopped.1);
    ends = one.ends;
  }
