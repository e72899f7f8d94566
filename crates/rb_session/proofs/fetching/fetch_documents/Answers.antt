use Rattle.std.proofs.Common.{[], ◌∷◌, ◌++◌, ◌≡◌, ◌∙◌, refl, rules, subst, sym}
use Rattle.std.proofs.lemmas.List.{nil_from_length}
use Rattle.std.specs.Vec.Iter.{into_iter_items}
use Rattle.rb_command.specs.Lines.{memory_line}
use Rattle.rb_command.specs.Told.{Tells}
use Rattle.rb_session.specs.Documents.{IsHad}
use Rattle.rb_session.specs.Fetching.{IsPlaceNotHad, StopsIn, name_at, sight}
use Rattle.rb_session.specs.declared.unread.Unread.TheVariants.{NoMemory}
use Rattle.rb_session.proofs.HandedOn.{handed_on}
use Rattle.rb_session.proofs.Unreads.{
  HadSoFar,
  had_all,
  had_more,
  had_none,
  no_memory_there,
  stops_here,
}
use Rattle.rb_session.proofs.fetching.fetch_documents.Goals as goal

pub loop-place-init : goal.loop-place-init
loop-place-init g c =
    let files = g.F.Shelf.files c.args.shelf.now in
    let given : into_iter_items c.into_iter-place-iterator.result
    ≡ c.into_vec-place-items.result.items =
    c.into_iter-place-iterator.ensures.into_iter_gives.0 in
    let places : into_iter_items c.into_iter-place-iterator.result ≡ c.args.places =
    given ∙ c.into_vec-place-items.ensures in
    record {
      so_far = subst (λ ds. HadSoFar files c.args.places ds
          (into_iter_items c.into_iter-place-iterator.result))
          (sym c.new-documents.ensures.items)
          (subst (λ ps. HadSoFar files c.args.places [] ps) (sym places)
          (had_none files c.args.places));
      silent = refl;
      files = refl;
      faults = refl;
    }

pub loop-place-preserved : goal.loop-place-preserved
loop-place-preserved g c =
    let files = g.F.Shelf.files c.args.shelf.now in
    let document = c.in_ok-document.document in
    let before = c.loop-place.documents.items in
    let behind = into_iter_items c.next.new.self in
    let pushed : c.push.new.self.items ≡ before ++ document ∷ [] = search rules in
    record {
      so_far = subst (λ ds. HadSoFar files c.args.places ds behind) (sym pushed)
          (had_more files c.args.places before c.in-Some.place behind document
          (subst (λ ps. HadSoFar files c.args.places before ps) c.in-Some.ensures.steps.0
          c.loop-place.invariant.so_far)
          c.in_ok-document.ensures.place
          (subst (λ fs. IsHad fs document) c.loop-place.invariant.files
          c.in_ok-document.ensures.had));
      silent = c.in_ok-document.ensures.silent ∙ c.loop-place.invariant.silent;
      files = c.fetch_document.ensures.files ∙ c.loop-place.invariant.files;
      faults = c.in_ok-document.ensures.steady ∙ c.loop-place.invariant.faults;
    }

pub returns-in_err-document-clause-told : goal.returns-in_err-document-clause-told
returns-in_err-document-clause-told g c =
    let was = c.loop-place.invariant in
    let new = sight (g.F.Shelf.files c.fetch_document.new.shelf)
    (g.F.Shelf.faults c.fetch_document.new.shelf) in
    let old = sight (g.F.Shelf.files c.args.shelf.now) (g.F.Shelf.faults c.args.shelf.now) in
    let status = c.in_err-document.field-0.0 in
    let after = g.O.Sink.shown c.fetch_document.new.out in
    handed_on c.from_residual.result status
    (λ x. StopsIn old new c.args.places x (g.O.Sink.shown c.args.out.now) after)
    c.from_residual.ensures.1
    (stops_here old new c.args.places c.loop-place.documents.items c.in-Some.place
    (into_iter_items c.next.new.self) status (g.O.Sink.shown c.args.out.now) after
    (subst (λ ps. HadSoFar (g.F.Shelf.files c.args.shelf.now) c.args.places
    c.loop-place.documents.items ps) c.in-Some.ensures.steps.0 was.so_far)
    (subst (λ before. IsPlaceNotHad old new c.in-Some.place status before after) was.silent
    (subst (λ fs. IsPlaceNotHad (sight fs (g.F.Shelf.faults c.args.shelf.now)) new
    c.in-Some.place status (g.O.Sink.shown c.loop-place.out) after) was.files
    (subst (λ n. IsPlaceNotHad (sight (g.F.Shelf.files c.loop-place.shelf) n) new
    c.in-Some.place status (g.O.Sink.shown c.loop-place.out) after) was.faults
    c.in_err-document.ensures.told))))

pub returns-then-is_err-clause-told : goal.returns-then-is_err-clause-told
returns-then-is_err-clause-told g c = (
  name_at c.in-Some.place,
  NoMemory,
  record {
    before = c.loop-place.documents.items;
    place = c.in-Some.place;
    behind = into_iter_items c.next.new.self;
    parted = sym (subst (λ ps. HadSoFar (g.F.Shelf.files c.args.shelf.now) c.args.places
        c.loop-place.documents.items ps) c.in-Some.ensures.steps.0
        c.loop-place.invariant.so_far).parted;
    had = c.loop-place.invariant.so_far.had;
    named = refl;
    cause = no_memory_there
        (sight (g.F.Shelf.files c.args.shelf.now) (g.F.Shelf.faults c.args.shelf.now))
        (sight (g.F.Shelf.files c.fetch_document.new.shelf)
        (g.F.Shelf.faults c.fetch_document.new.shelf)) c.in-Some.place;
  },
  record {
    is = c.tell_unread.ensures.is;
    told = subst (λ before. Tells memory_line before (g.O.Sink.shown c.tell_unread.new.out))
        (c.in_ok-document.ensures.silent ∙ c.loop-place.invariant.silent)
        c.tell_unread.ensures.told;
  },
)

pub returns-clause-had : goal.returns-clause-had
returns-clause-had g c =
    let files = g.F.Shelf.files c.args.shelf.now in
    let none = nil_from_length (into_iter_items c.loop-place.place-iterator) (search rules) in
    had_all files c.args.places c.loop-place.documents.items
    (subst (λ ps. HadSoFar files c.args.places c.loop-place.documents.items ps) none
    c.loop-place.invariant.so_far)
