-- Where the store is told to have failed, the keeper's count rose.
use Rattle.std.proofs.Common.{◌≡◌, ◌∙◌, ◌≤◌, ◌+◌, ◌⊎◌, ◌||◌, ℕ, Bool, true, false, not, if◌then◌else◌, List, [], ◌∷◌, length, map, All, Some, None, ap, refl, sym, subst, arith, inl, inr}
use Rattle.std.proofs.lemmas.Bool.{false≢true}
use Rattle.std.proofs.lemmas.List.Elements.{All-head, All-pop, All-push, All-tail, All-weaker}
use Rattle.std.proofs.lemmas.List.{get_or-map, length-map}
use Rattle.std.specs.List.{list_any}
use Rattle.atomic_table.specs.Seated.{TableId}
use Rattle.rb_acl.specs.declared.policy.Caller.{Caller}
use Rattle.rb_board.specs.Boards.{HasClosed, IsKnown, PassValue, first_passes, seen_of}
use Rattle.rb_board.specs.declared.view.Opening.{Opening}
use Rattle.rb_board.specs.declared.view.Seen.{Seen}
use Rattle.rb_causes.specs.Causes.{Rose}
use Rattle.rb_causes.specs.Sinks.{SinkState}
use Rattle.rb_command.specs.Lines.{memory_line}
use Rattle.rb_desk.specs.DeskState.{DeskState}
use Rattle.rb_log.specs.Told.{Told, tells_fault}
use Rattle.rb_log.specs.declared.answer.Answer.{Answer}
use Rattle.rb_log.specs.declared.answer.Answer.TheVariants as answer
use Rattle.rb_serve.proofs.Passes.{first_faults}
use Rattle.rb_serve.proofs.Roles.{either, head_is, some_is, tail_is}
use Rattle.rb_serve.specs.Roles.{AllPlayed, HasPlayed, IsTaken, Senses, is_store_fault, passes_of}
use Rattle.rb_serve.specs.Served.{ByLast, HasImported, ServesOn, crew_stop}
use Rattle.rb_serve.specs.declared.crew_end.CrewEnd.{CrewEnd}
use Rattle.rb_serve.specs.declared.role.Post.{Post}
use Rattle.rb_serve.specs.declared.role.Post.TheVariants.{Door, Worker}
use Rattle.rb_serve.specs.declared.role.Role.{Role}
use Rattle.rb_session.specs.Lines.{line_line, stop_with, store_line}
use Rattle.rb_session.specs.Statuses.{EndsAsTold, is_saved, is_unsaved, saving_of}
use Rattle.rb_session.specs.declared.place.Document.{Document}
use Rattle.rb_session.specs.declared.saving.Saving.{Saving}
use Rattle.rb_session.specs.declared.saving.Saving.TheVariants as saving
use Rattle.rb_session_top.specs.Sessions.{IsSaved}
use Rattle.rb_work.proofs.Records.{acted_faults}
use Rattle.rb_work.specs.declared.pumped.Pumped.{Pumped}
use Rattle.rb_work.specs.declared.pumped.Pumped.TheVariants as pumped

rose_within : (low before now high : ℕ) → low ≤ before → Rose before now → now ≤ high
    → Rose low high
rose_within low before now high a rose b = omega arith

-- no pass knew of fewer faults
abbrev pub AreFrom : ℕ → List PassValue → Type 0
AreFrom low passes = All (λ (p : PassValue). low ≤ p.seen.faults) passes

-- and none knows of more
abbrev pub AreUpTo : ℕ → List PassValue → Type 0
AreUpTo high passes = All (λ (p : PassValue). p.seen.faults ≤ high) passes

known_up_to : (ps : List PassValue) (high : ℕ)
    → All (λ (seen : Seen). seen.faults ≤ high) (map seen_of ps) → AreUpTo high ps
known_up_to ps high h k p lt =
    subst (λ (seen : Seen). seen.faults ≤ high) (get_or-map seen_of ps k p (seen_of p) lt)
    (h k (seen_of p) (omega (arith, lt, length-map ps seen_of)))

closed_up_to : {K : Type 0} (faults : K → ℕ) (o : Opening) (passes : List PassValue)
    (d : DeskState K) → HasClosed faults o (map seen_of passes) d
    → AreUpTo (faults d.keeper) passes
closed_up_to faults o passes d closed =
    known_up_to passes (faults d.keeper)
    (All-weaker (IsKnown closed.past d.log (faults d.keeper))
    (λ (seen : Seen). seen.faults ≤ faults d.keeper)
    (λ seen known. known.faults) (map seen_of passes) closed.passes)

module _ {L S : Type 0} (senses : Senses L S) where
  store_is : (s : S) (n : ℕ) (said : Pumped)
      → is_store_fault {L = L} {S = S} (Worker s n said) ≡ true → said ≡ pumped.StoreFault
  store_is s n pumped.Idle h = absurd (false≢true h)
  store_is s n pumped.Closed h = absurd (false≢true h)
  store_is s n pumped.Limit h = absurd (false≢true h)
  store_is s n pumped.StoreFault h = refl
  store_is s n pumped.NoMemory h = absurd (false≢true h)

  rose_by : (p q : Post L S) (old new : Told) → IsTaken senses old new p q
      → is_store_fault q ≡ true → Rose old.faults new.faults
  rose_by (Door l b n e) (Door l' b' n' e') old new t is = absurd (false≢true is)
  rose_by (Door l b n e) (Worker s m said) old new t is = absurd t
  rose_by (Worker s m said) (Door l b n e) old new t is = absurd t
  rose_by (Worker s m said) (Worker s' m' said') old new t is = t.3 (store_is s' m' said' is)

  one_rose : (x y : Role L S) (p q : PassValue) (low high : ℕ) → HasPlayed senses x y
      → x.pass ≡ Some p → y.pass ≡ Some q → low ≤ p.seen.faults → q.seen.faults ≤ high
      → is_store_fault y.post ≡ true → Rose low high
  one_rose x y p q low high h was is a b said =
      rose_within low h.pass.seen.faults h.left.seen.faults high
      (subst (λ (r : PassValue). low ≤ r.seen.faults) (some_is p h.pass (sym was ∙ h.had)) a)
      (rose_by x.post y.post _ _ h.taken said)
      (subst (λ (r : PassValue). r.seen.faults ≤ high) (some_is q h.left (sym is ∙ h.has)) b)

  rose_from : (x y : Role L S) (ys : List (Role L S)) (p q : PassValue) (low high : ℕ)
      → HasPlayed senses x y → x.pass ≡ Some p → y.pass ≡ Some q → low ≤ p.seen.faults
      → q.seen.faults ≤ high
      → (list_any (λ (r : Role L S). is_store_fault r.post) ys ≡ true → Rose low high)
      → (is_store_fault y.post ≡ true)
      ⊎ (list_any (λ (r : Role L S). is_store_fault r.post) ys ≡ true) → Rose low high
  rose_from x y ys p q low high h was is a b later (inl said) =
      one_rose x y p q low high h was is a b said
  rose_from x y ys p q low high h was is a b later (inr said) = later said

  store_rose : (xs ys : List (Role L S)) (ps qs : List PassValue) (low high : ℕ)
      → AllPlayed senses xs ys → passes_of xs ≡ map Some ps → passes_of ys ≡ map Some qs
      → AreFrom low ps → AreUpTo high qs
      → list_any (λ (r : Role L S). is_store_fault r.post) ys ≡ true → Rose low high
  store_rose [] [] ps qs low high h was is a b said = absurd (false≢true said)
  store_rose [] (y ∷ ys) ps qs low high h was is a b said = absurd h
  store_rose (x ∷ xs) [] ps qs low high h was is a b said = absurd h
  store_rose (x ∷ xs) (y ∷ ys) [] qs low high h was is a b said =
      absurd (let n = ap length was in omega (arith, n))
  store_rose (x ∷ xs) (y ∷ ys) (p ∷ ps) [] low high h was is a b said =
      absurd (let n = ap length is in omega (arith, n))
  store_rose (x ∷ xs) (y ∷ ys) (p ∷ ps) (q ∷ qs) low high h was is a b said =
      rose_from x y ys p q low high h.0 (head_is _ _ _ _ was) (head_is _ _ _ _ is)
      (All-head (λ (r : PassValue). low ≤ r.seen.faults) p ps a)
      (All-head (λ (r : PassValue). r.seen.faults ≤ high) q qs b)
      (store_rose xs ys ps qs low high h.1 (tail_is _ _ _ _ was) (tail_is _ _ _ _ is)
      (All-tail (λ (r : PassValue). low ≤ r.seen.faults) p ps a)
      (All-tail (λ (r : PassValue). r.seen.faults ≤ high) q qs b))
      (either (is_store_fault y.post)
      (list_any (λ (r : Role L S). is_store_fault r.post) ys) said)

  -- ---- what the passes knew

  imported_from : (owner : Caller) (documents : List Document) (passes imported : List PassValue)
      (low : ℕ) → HasImported senses owner documents passes imported → AreFrom low passes
      → AreFrom low imported
  imported_from owner documents passes imported low h all =
      let parts = All-pop (λ (p : PassValue). low ≤ p.seen.faults) passes h.others (Some h.pass)
      h.was all in
      let last = acted_faults h.did.made _ _ h.did.acted in
      let first = parts.1 in
      subst (AreFrom low) (sym h.is)
      (All-push (λ (p : PassValue). low ≤ p.seen.faults) h.others h.left parts.0
      (omega (arith, last, first)))

  pub crew_rose : {K : Type 0} (faults : K → ℕ) (owner : Caller) (documents : List Document)
      (o : Opening) (lines lines' : List L) (spawners spawners' : List S) (said : CrewEnd)
      (d : DeskState K)
      → ServesOn faults senses owner documents o lines lines' spawners spawners' said d
      → said.store_failed ≡ true → Rose o.faults (faults d.keeper)
  crew_rose faults owner documents o lines lines' spawners spawners' said d s failed =
      let count = length lines + length spawners in
      let h = s.served.played in
      store_rose h.parts h.ends s.served.imported s.passes o.faults (faults d.keeper) h.played
      h.cast.passes_are (sym h.passes_back)
      (imported_from owner documents (first_passes s.board o count) s.served.imported o.faults
      s.served.imports (first_faults s.board o count))
      (closed_up_to faults o s.passes d s.closed)
      (sym h.told.store ∙ failed)

-- ---- an import that the store refused

pub import_rose : {K : Type 0} (faults : K → ℕ) (board : TableId) (o : Opening) (count : ℕ)
    (passes : List PassValue) (d : DeskState K)
    → ByLast (first_passes board o count) passes (λ old new. Rose old.faults new.faults)
    → HasClosed faults o (map seen_of passes) d → Rose o.faults (faults d.keeper)
import_rose faults board o count passes d h closed =
    let before = All-pop (λ (p : PassValue). o.faults ≤ p.seen.faults)
    (first_passes board o count) h.others (Some h.pass) h.was (first_faults board o count) in
    let behind = All-pop (λ (p : PassValue). p.seen.faults ≤ faults d.keeper) passes h.others
    (Some h.left) h.is (closed_up_to faults o passes d closed) in
    rose_within o.faults h.pass.seen.faults h.left.seen.faults (faults d.keeper) before.1 h.did
    behind.1

-- ---- the end

save_fault : (a : Answer) → saving_of a ≡ saving.StoreFault → tells_fault a ≡ true
save_fault answer.StoreFault h = refl
save_fault other h = absurd (false≢true (ap is_unsaved h))

-- a Save that the store refused
save_rose : {K : Type 0} (faults : K → ℕ) (old new : DeskState K) (s : Saving)
    → IsSaved faults old new s → s ≡ saving.StoreFault
    → Rose (faults old.keeper) (faults new.keeper)
save_rose faults old new s h is = h.1.acts.cause (save_fault h.0.answer (sym h.3 ∙ is))

save_later : {K : Type 0} (faults : K → ℕ) (old new : DeskState K) (s : Saving)
    → IsSaved faults old new s → faults old.keeper ≤ faults new.keeper
save_later faults old new s h = h.1.acts.faults

unsaved_is : (s : Saving) → is_unsaved s ≡ true → s ≡ saving.StoreFault
unsaved_is saving.StoreFault h = refl
unsaved_is other h = absurd (false≢true h)

-- who tells of the store at the end: a worker, or the last Save
told_store : (line store wanting unsaved lost : Bool) (status : ℕ) (before after : SinkState)
    → EndsAsTold (if line then Some (stop_with 5 line_line)
    else if store || unsaved then Some (stop_with 6 store_line)
    else if wanting || lost then Some (stop_with 7 memory_line)
    else None) status before after → status ≡ 6 → (store ≡ true) ⊎ (unsaved ≡ true)
told_store true store wanting unsaved lost status before after h six =
    absurd (grind (arith, h.is, six))
told_store false true wanting unsaved lost status before after h six = inl refl
told_store false false wanting true lost status before after h six = inr refl
told_store false false true false lost status before after h six =
    absurd (grind (arith, h.is, six))
told_store false false false false true status before after h six =
    absurd (grind (arith, h.is, six))
told_store false false false false false status before after h six =
    absurd (grind (arith, h.0, six))

module _ {K L S : Type 0} (faults : K → ℕ) (senses : Senses L S) (owner : Caller)
    (documents : List Document) (o : Opening) (lines lines' : List L) (spawners spawners' : List S)
  where
    end_rose : (said : CrewEnd) (s : Saving) (served desk : DeskState K)
        → ServesOn faults senses owner documents o lines lines' spawners spawners' said served
        → IsSaved faults served desk s → o.faults ≤ faults served.keeper
        → (said.store_failed ≡ true) ⊎ (is_unsaved s ≡ true) → Rose o.faults (faults desk.keeper)
    end_rose said s served desk all saved later (inl failed) =
        rose_within o.faults o.faults (faults served.keeper) (faults desk.keeper) (omega arith)
        (crew_rose senses faults owner documents o lines lines' spawners spawners' said served all
        failed) (save_later faults served desk s saved)
    end_rose said s served desk all saved later (inr unsaved) =
        rose_within o.faults (faults served.keeper) (faults desk.keeper) (faults desk.keeper) later
        (save_rose faults served desk s saved (unsaved_is s unsaved)) (omega arith)

    -- the server ended because of the store
    pub served_rose : (said : CrewEnd) (s : Saving) (served desk : DeskState K) (status : ℕ)
        (before after : SinkState)
        → ServesOn faults senses owner documents o lines lines' spawners spawners' said served
        → IsSaved faults served desk s → o.faults ≤ faults served.keeper
        → EndsAsTold (crew_stop said s) status before after → status ≡ 6
        → Rose o.faults (faults desk.keeper)
    served_rose said s served desk status before after all saved later ends six =
        end_rose said s served desk all saved later
        (told_store said.line_failed said.store_failed said.wanting (is_unsaved s)
        (not (is_saved s)) status before after ends six)
