-- What all parts did, over the log that is there at the end.
use Rattle.std.proofs.Common.{◌≡◌, ◌∙◌, ℕ, List, [], ◌∷◌, map, All, Some, sym, subst, arith}
use Rattle.std.proofs.lemmas.List.Elements.{All-head, All-tail}
use Rattle.rb_board.specs.Boards.{PassValue, told_of_pass}
use Rattle.rb_causes.specs.declared.row.Row.{Row}
use Rattle.rb_door.specs.Laws.{ActsAreTrue, TalksFollow, TurnsStayTrue}
use Rattle.rb_log.specs.Acted.{Acted}
use Rattle.rb_log.specs.Records.{Record}
use Rattle.rb_log.specs.Steps.{BeginsAreTasks}
use Rattle.rb_log.specs.Told.{IsBeginning, Told}
use Rattle.rb_serve.proofs.Roles.{head_is, some_is, tail_is}
use Rattle.rb_serve.specs.Roles.{AllPlayed, HasPlayed, IsTaken, Senses, passes_of}
use Rattle.rb_serve.specs.declared.role.Post.{Post}
use Rattle.rb_serve.specs.declared.role.Post.TheVariants.{Door, Worker}
use Rattle.rb_serve.specs.declared.role.Role.{Role}
use Rattle.rb_serve_laws.proofs.Doors.{door_over, true_at}
use Rattle.rb_serve_laws.proofs.Workers.{worker_over}
use Rattle.rb_serve_laws.specs.Parts.{ArePartsOver, IsPartOver}
use Rattle.rb_work.specs.PumpLaws.{PumpLaws}

-- each pass went on from the one to the other by these records
abbrev pub AllActed : List PassValue → List PassValue → List (List Record) → Type 0
AllActed [] [] [] = Unit {0}
AllActed (p ∷ ps) (q ∷ qs) (records ∷ others) =
    Acted (told_of_pass p) (told_of_pass q) records × AllActed ps qs others
AllActed ps qs others = ⊥

module _ (true_of : ActsAreTrue) (stay : TurnsStayTrue) (follow : TalksFollow)
    (begins : BeginsAreTasks) (laws : PumpLaws) {L S : Type 0} (senses : Senses L S)
    (log : List Row) (room : ℕ) where
  -- what a part asked, and that it is this
  record Did (old new : Told) (before after : Post L S) : Type 0 where
    pub records : List Record
    pub acted : Acted old new records
    pub over : IsPartOver senses log room before after records

  part : (old new : Told) (before after : Post L S) → IsTaken senses old new before after
      → old.room ≡ room → IsBeginning new.log log → Did old new before after
  part old new (Door line buffer number e) (Door line' buffer' number' e') h same more =
      let did = door_over true_of stay log room follow senses.may_be senses.tokens number old new
      (senses.callers line) (senses.callers line') e' h.1 same more in
      record { records = did.records; acted = did.acted; over = did.over }
  part old new (Worker spawner number said) (Worker spawner' number' said') h same more =
      let did = worker_over true_of stay begins laws senses.may_be number log
      (record { clerk = old; spawner = senses.shown spawner })
      (record { clerk = new; spawner = senses.shown spawner' }) said' h.1 more in
      record { records = did.records; acted = did.acted; over = did.over }
  part old new (Door line buffer number e) (Worker spawner' number' said') h same more = absurd h
  part old new (Worker spawner number said) (Door line' buffer' number' e') h same more = absurd h

  abbrev HasRoom : PassValue → Type 0
  HasRoom p = (told_of_pass p).room ≡ room

  abbrev Begins : PassValue → Type 0
  Begins q = IsBeginning q.seen.log log

  -- what all parts asked
  pub record AllDid (ps qs : List PassValue) (rs ss : List (Role L S)) : Type 0 where
    pub asked : List (List Record)
    pub acted : AllActed ps qs asked
    pub over : ArePartsOver senses log room rs ss asked

  one_did : (p q : PassValue) (r s : Role L S) → HasPlayed senses r s → r.pass ≡ Some p
      → Some q ≡ s.pass → HasRoom p → Begins q
      → Did (told_of_pass p) (told_of_pass q) r.post s.post
  one_did p q r s h had has same more =
      let first : h.pass ≡ p = some_is h.pass p (sym h.had ∙ had) in
      let last : h.left ≡ q = some_is h.left q (sym h.has ∙ sym has) in
      part (told_of_pass p) (told_of_pass q) r.post s.post
      (subst (λ x. IsTaken senses (told_of_pass p) (told_of_pass x) r.post s.post) last
      (subst (λ x. IsTaken senses (told_of_pass x) (told_of_pass h.left) r.post s.post) first
      h.taken)) same more

  pub all_did : (rs ss : List (Role L S)) (ps qs : List PassValue) → AllPlayed senses rs ss
      → passes_of rs ≡ map Some ps → map Some qs ≡ passes_of ss → All HasRoom ps
      → All Begins qs → AllDid ps qs rs ss
  all_did [] [] [] [] h had has rooms more = record { asked = []; acted = tt; over = tt }
  all_did [] [] (p ∷ ps) qs h had has rooms more = absurd (grind (arith, had))
  all_did [] [] [] (q ∷ qs) h had has rooms more = absurd (grind (arith, has))
  all_did [] (s ∷ ss) ps qs h had has rooms more = absurd h
  all_did (r ∷ rs) [] ps qs h had has rooms more = absurd h
  all_did (r ∷ rs) (s ∷ ss) [] qs h had has rooms more = absurd (grind (arith, had))
  all_did (r ∷ rs) (s ∷ ss) (p ∷ ps) [] h had has rooms more = absurd (grind (arith, has))
  all_did (r ∷ rs) (s ∷ ss) (p ∷ ps) (q ∷ qs) h had has rooms more =
      let same = All-head HasRoom p ps rooms in
      let longer = All-head Begins q qs more in
      let did = one_did p q r s h.0 (head_is r.pass (Some p) (passes_of rs) (map Some ps) had)
      (head_is (Some q) s.pass (map Some qs) (passes_of ss) has) same longer in
      let others = all_did rs ss ps qs h.1
      (tail_is r.pass (Some p) (passes_of rs) (map Some ps) had)
      (tail_is (Some q) s.pass (map Some qs) (passes_of ss) has)
      (All-tail HasRoom p ps rooms) (All-tail Begins q qs more) in
      record {
        asked = did.records ∷ others.asked;
        acted = (did.acted, others.acted);
        over = (
          true_at true_of stay log room (told_of_pass p) (told_of_pass q) did.records same
              longer did.acted,
          did.over,
          others.over,
        );
      }
