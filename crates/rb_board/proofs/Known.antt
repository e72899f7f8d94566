-- By what a pass is known.
use Rattle.std.proofs.Common.{◌≡◌, ◌∙◌, ℕ, List, ◌∷◌, ap, refl, sym}
use Rattle.atomic_table.specs.Seated.{TableId}
use Rattle.rb_log.specs.Told.{Acts}
use Rattle.rb_log.specs.declared.answer.Answer.{Answer}
use Rattle.rb_log.specs.declared.call.Call.{Call}
use Rattle.rb_board.specs.Boards.{HasActed, PassValue, table_numbers, told_of_pass}

-- a pass acts as a clerk that is known by its number and its board
pub pass_acts : (old new : PassValue) (c : Call) (a : Answer) → new.id ≡ old.id
    → HasActed old.seen new.seen c a → Acts (told_of_pass old) (told_of_pass new) c a
pass_acts old new c a id acted =
    let acts = acted.acts in
    record {
      before = acts.before;
      later = acts.later;
      log = acts.log;
      true_record = acts.true_record;
      legal = acts.legal;
      within = acts.within;
      room = acts.room;
      rights = acts.rights;
      own = acts.own;
      who = ap (λ (n : ℕ). n ∷ table_numbers new.id) acted.number
          ∙ ap (λ (t : TableId). old.seen.number ∷ table_numbers t) id;
      faults = acts.faults;
      cause = acts.cause;
    }

-- a table is known by its numbers
numbered : ℕ → ℕ → ℕ → ℕ → ℕ → ℕ → List ℕ → TableId
numbered words slots views_name atom block offset slot_names = record {
  words = words;
  slots = slots;
  views_name = views_name;
  atom = atom;
  block = block;
  offset = offset;
  slot_names = slot_names;
}

by_numbers : TableId → TableId
by_numbers t = numbered t.words t.slots t.views_name t.atom t.block t.offset t.slot_names

itself : (t : TableId) → by_numbers t ≡ t
unfolding by_numbers numbered
itself t = refl

same_table : (s t : TableId) → table_numbers s ≡ table_numbers t → s ≡ t
unfolding by_numbers
same_table s t same =
    let both : numbered s.words s.slots s.views_name s.atom s.block s.offset s.slot_names
    ≡ numbered t.words t.slots t.views_name t.atom t.block t.offset t.slot_names = cc in
    sym (itself s) ∙ both ∙ itself t

-- passes that are known by the same are of one board, with one number
pub same_pass : (p q : PassValue) → (told_of_pass p).who ≡ (told_of_pass q).who
    → (p.id ≡ q.id) × (p.seen.number ≡ q.seen.number)
same_pass p q same =
    let number : p.seen.number ≡ q.seen.number = cc in
    let table : table_numbers p.id ≡ table_numbers q.id = cc in
    (same_table p.id q.id table, number)
