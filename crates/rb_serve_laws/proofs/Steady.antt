-- A server for which all is there ends well.
use Rattle.std.proofs.Common.{◌≡◌, ◌∙◌, ◌+◌, ◌-◌, ◌⊎◌, ℕ, true, List, [], ◌∷◌, ◌++◌, length, map, reverse, All, Option, Some, Result, ap, sym, subst, refl, inl, inr}
use Rattle.std.proofs.lemmas.Bool.{both_ways}
use Rattle.std.proofs.lemmas.List.{reverse-append}
use Rattle.std.proofs.lemmas.List.Elements.{All-head, All-tail}
use Rattle.std.proofs.lemmas.Option.{none-some, same_Some}
use Rattle.rb_api.specs.declared.token.Token.{Token}
use Rattle.std.specs.List.{flat_map}
use Rattle.rb_board.specs.Boards.{HasClosed, PassValue, seen_of, told_of_pass}
use Rattle.rb_board.specs.Plays.{opening_of}
use Rattle.rb_causes.specs.Callers.{Callers}
use Rattle.rb_causes.specs.Numbers.{numbers_from}
use Rattle.rb_causes.specs.Spawners.{ShownRuns}
use Rattle.rb_causes.specs.declared.row.Row.{Row}
use Rattle.rb_desk.specs.DeskState.{DeskState}
use Rattle.rb_desk.specs.Opening.{KeeperHolds, has_room_to_open, opening_row}
use Rattle.rb_desk.specs.declared.open_err.OpenErr.{OpenErr}
use Rattle.rb_desk.specs.declared.open_err.OpenErr.TheVariants as open_err
use Rattle.rb_door.specs.Exchanges.{Moments}
use Rattle.rb_door.specs.Laws.{ActsAreTrue}
use Rattle.rb_log.specs.Laws.{BeginningsAreLegal}
use Rattle.rb_log.specs.Legal.{IsLegalLog}
use Rattle.rb_log.specs.Told.{added}
use Rattle.rb_manifest.specs.declared.manifest.Manifest.{Manifest}
use Rattle.rb_serve.specs.Crews.{CrewSight, Fails, Happened, IfCrew, IsServed, NoForm, Opened, Reach, Unfetched, Unopened, Wanting}
use Rattle.rb_serve.specs.Roles.{OneRose, Senses, senses_of}
use Rattle.rb_serve.specs.Served.{ServesCrew, StopsOn}
use Rattle.rb_serve_laws.proofs.Alone.{rows_alone}
use Rattle.rb_serve_laws.proofs.OneLog.{last_first, room_pass}
use Rattle.rb_serve_laws.proofs.Well.{CrewEnds, by_line, by_memory, by_store, crew_ends, well}
use Rattle.rb_serve_laws.specs.Steady.{HasEnded, IsProvided, IsSteady, SteadyEndsWell, opening_asked}
use Rattle.rb_session.specs.Fetching.{AllHad, StopsAtFile}
use Rattle.rb_session.specs.Lines.{Stop}
use Rattle.rb_session.specs.Statuses.{is_saved}
use Rattle.rb_session.specs.declared.place.Document.{Document}
use Rattle.rb_session.specs.declared.unread.Unread.{Unread}
use Rattle.rb_session_laws.proofs.Had.{none_is_refused, same_had}
use Rattle.rb_session_laws.proofs.ImportsTaken.{imports_go}
use Rattle.rb_session_laws.proofs.Told.{FileEnd, file_ends, is_failed, is_refused}
use Rattle.rb_session_laws.proofs.Well.{no_bad_row, not_risen}
use Rattle.rb_session_laws.specs.Steady.{AreTaken}
use Rattle.rb_session_top.specs.Sights.{keeper_of}

none_rose : {A : Type 0} (faults : A → ℕ) (xs ys : List A) → All (λ y. faults y ≡ 0) ys
    → OneRose faults xs ys → ⊥
none_rose faults [] ys none h = absurd h
none_rose faults (x ∷ xs) [] none h = absurd h
none_rose faults (x ∷ xs) (y ∷ ys) none (inl rose) =
    not_risen (faults x) (faults y) (All-head (λ z. faults z ≡ 0) y ys none) rose
none_rose faults (x ∷ xs) (y ∷ ys) none (inr more) =
    none_rose faults xs ys (All-tail (λ z. faults z ≡ 0) y ys none) more

module _ {K L S : Type 0} (rows : K → Option (List Row)) (faults : K → ℕ) (may_be : Moments)
    (callers : L → Option Callers) (line_faults : L → ℕ) (shown : S → ShownRuns)
    (legal : BeginningsAreLegal) (true_of : ActsAreTrue) (words : List (List ℕ)) (draw : ℕ)
    (keeper : K) (given : Result (DeskState K) K) (old new : CrewSight L S) (status : ℕ)
    (ended : HasEnded rows faults line_faults
    (λ tokens. senses_of may_be tokens callers line_faults shown) words draw keeper given old new
    status)
    (all : IsProvided may_be words draw (rows keeper) old)
    (steady : IsSteady line_faults (faults (keeper_of given)) new) where
  abbrev senses : List Token → Senses L S
  senses tokens = senses_of may_be tokens callers line_faults shown

  abbrev EndsWell : Type 0
  EndsWell = (status ≡ 0) ⊎ (status ≡ 7)

  held_is : (held : List Row) → KeeperHolds (rows keeper) held → held ≡ all.held
  held_is held h = subst (λ kept. KeeperHolds kept held) all.rows h

  no_shelf_fault : status ≡ 4 → ⊥
  no_shelf_fault told =
      not_risen old.shelf.faults new.shelf.faults steady.shelf (ended.shelf_fault told)

  no_line_fault : status ≡ 5 → ⊥
  no_line_fault told = none_rose line_faults old.lines new.lines steady.lines (ended.line told)

  no_store_fault : status ≡ 6 → ⊥
  no_store_fault told =
      not_risen (faults keeper) (faults (keeper_of given)) steady.keeper (ended.store told)

  -- what is told of the name of the manifest is told of the one that is there
  named : (Is : List ℕ → Type 0) → IfCrew words Is → Is all.crew.manifest
  named Is h =
      subst Is (ap (λ c. c.manifest) (same_Some h.0 all.crew (sym h.1 ∙ all.form))) h.2

  -- ---- no desk

  by_file : (file : List ℕ) (u : Unread)
      → IfCrew words (λ name. StopsAtFile old.shelf new.shelf name file u) → FileEnd u status
      → EndsWell
  by_file file u h (is_refused told refused) =
      absurd (none_is_refused old.shelf new.shelf all.files all.told all.crew.manifest all.manifest
      all.documents all.had file u refused
      (named (λ name. StopsAtFile old.shelf new.shelf name file u) h))
  by_file file u h (is_failed (inl told)) = absurd (no_shelf_fault told)
  by_file file u h (is_failed (inr told)) = inr told

  by_opening : (e : OpenErr)
      → Fails rows faults may_be draw keeper old.lines new.lines old.spawners new.spawners given
      status old.sink new.sink e → EndsWell
  by_opening open_err.StoreFault h = absurd (no_store_fault h.2.is)
  by_opening (open_err.BadStore n) h =
      let cause = h.0.cause in
      absurd (no_bad_row legal cause.held n
      (subst (λ held. IsLegalLog (reverse held)) (sym (held_is cause.held cause.holds)) all.good)
      cause.bad)
  by_opening open_err.Full h =
      let cause = h.0.cause in
      absurd (both_ways _ cause.bad.1 (subst (λ held. has_room_to_open held
      (opening_asked old draw h.0.at) ≡ true) (sym (held_is cause.held cause.holds))
      (all.room h.0.at)))
  by_opening open_err.NoMemory h = inr h.2.is

  -- ---- a desk

  module _ (m : Manifest) (documents : List Document)
      (had : AllHad old.shelf.files all.crew.manifest m documents)
      (served : IsServed rows faults (senses m.tokens) m.owner documents draw keeper given
      old.lines new.lines old.spawners new.spawners status old.sink new.sink) where
    same : (m ≡ all.manifest) × (documents ≡ all.documents)
    same =
        same_had all.files all.crew.manifest m all.manifest documents all.documents
        (subst (λ files. AllHad files all.crew.manifest m documents) all.told had) all.had

    log_is : served.opened.log
        ≡ all.held ++ opening_row all.held (opening_asked old draw served.at) ∷ []
    log_is =
        served.opens.log
        ∙ ap (λ held. held ++ opening_row held (opening_asked old draw served.at) ∷ [])
        (held_is served.opens.held served.opens.holds)

    are_taken : AreTaken may_be m.owner (reverse served.opened.log) documents
    are_taken =
        subst (λ (n : Manifest). AreTaken may_be n.owner (reverse served.opened.log) documents)
        (sym same.0)
        (subst (AreTaken may_be all.manifest.owner (reverse served.opened.log)) (sym same.1)
        (subst (λ past. AreTaken may_be all.manifest.owner past all.documents)
        (sym (ap reverse log_is ∙ reverse-append all.held (opening_row all.held
        (opening_asked old draw served.at) ∷ [])))
        (all.taken served.at served.moment)))

    by_stop : StopsOn faults (senses m.tokens) m.owner documents (opening_of faults served.opened)
        old.lines new.lines old.spawners new.spawners served.desk status old.sink new.sink
        → EndsWell
    by_stop h =
        let o = opening_of faults served.opened in
        let P = length old.lines + length old.spawners in
        let by = h.stopped in
        let s = by.did in
        let log : by.pass.seen.log ≡ o.log =
        ap (λ (p : PassValue). p.seen.log) (last_first h.board o P by.others by.pass by.was) in
        let alone = rows_alone faults o h.board P by.others by.pass by.left s.made by.was s.acted
        served.desk (subst (λ ps. HasClosed faults o (map seen_of ps) served.desk) by.is h.closed) in
        ends s.stop s.ends.is (imports_go may_be m.owner (Some s.stop) s.stop refl documents s.made
        (told_of_pass by.pass) (told_of_pass by.left) s.acted s.imports
        (true_of (told_of_pass by.pass) (told_of_pass by.left) s.made s.acted).later
        (subst (λ rs. flat_map added s.made
        ≡ numbers_from (length rs + 1) (length by.left.seen.log - length rs)) (sym log) alone)
        (room_pass h.board o P by.others by.pass by.was ∙ served.opens.room)
        (subst (λ rs. AreTaken may_be m.owner (reverse rs) documents) (sym log) are_taken))
      where
        ends : (s : Stop) → status ≡ s.status → (s.status ≡ 6) ⊎ (s.status ≡ 7) → EndsWell
        ends s told (inl six) = absurd (no_store_fault (told ∙ six))
        ends s told (inr seven) = inr (told ∙ seven)

    by_crew : ServesCrew faults (senses m.tokens) m.owner documents
        (opening_of faults served.opened) old.lines new.lines old.spawners new.spawners served.desk
        status old.sink new.sink → EndsWell
    by_crew h = ends (crew_ends h.said h.saving status old.sink new.sink h.ends)
      where
        ends : CrewEnds h.said.line_failed h.said.wanting (is_saved h.saving) status → EndsWell
        ends (by_line is) = absurd (no_line_fault is)
        ends (by_store is) = absurd (no_store_fault is)
        ends (by_memory is) = inr is
        ends (well is taken there saved) = inl is

    by_served : EndsWell
    by_served = elim served.serves [
      | inl h ↦ inr h.ends.is
      | inr h ↦ elim h [
        | inl s ↦ by_stop s
        | inr c ↦ by_crew c
      ]
    ]

  by_reach : (reach : Reach)
      → Happened rows faults senses words draw keeper given old new status reach → EndsWell
  by_reach NoForm h = absurd (none-some all.crew (sym h.0 ∙ all.form))
  by_reach (Unfetched file u) h = by_file file u h.0 (file_ends file u status h.2.is)
  by_reach Wanting h = inr h.1.is
  by_reach (Unopened e) h = by_opening e h
  by_reach (Opened m documents) h =
      by_served m documents
      (named (λ name. AllHad old.shelf.files name m documents) h.0) h.1

  pub ends_well : EndsWell
  ends_well = by_reach ended.reach ended.happened

pub steady_ends_well : BeginningsAreLegal → ActsAreTrue → {K L S : Type 0}
    (rows : K → Option (List Row)) (faults : K → ℕ) (may_be : Moments)
    (callers : L → Option Callers) (line_faults : L → ℕ) (shown : S → ShownRuns)
    → SteadyEndsWell rows faults may_be callers line_faults shown
steady_ends_well legal true_of rows faults may_be callers line_faults shown words draw keeper given
    old new status ended all steady =
    ends_well rows faults may_be callers line_faults shown legal true_of words draw keeper given
    old new status ended all steady
