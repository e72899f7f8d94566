-- Passes as a board makes them, and behind the imports.
use Rattle.std.proofs.Common.{◌≡◌, ◌∙◌, ◌+◌, ◌<◌, ◌≤◌, ℕ, zero, suc, List, [], ◌∷◌, ◌++◌, length, map, drop, filter, nat_eq, get_or, reverse, All, Contains, Option, ap, sym, subst, refl, arith}
use Rattle.std.proofs.lemmas.Bool.{eq-eqb}
use Rattle.std.proofs.lemmas.List.{get_or-append-add, get_or-drop, get_or-map, length-append, length-drop, length-map, map-append}
use Rattle.atomic_table.specs.Seated.{TableId}
use Rattle.rb_causes.specs.declared.row.Row.{Row}
use Rattle.rb_desk.proofs.Growing.{newest}
use Rattle.rb_desk.specs.DeskState.{DeskState}
use Rattle.rb_desk.specs.Opening.{OpeningAsked, Opens, opening_row}
use Rattle.rb_door.specs.Standing.{GoesOn}
use Rattle.rb_log.specs.LogState.{log_state, moment}
use Rattle.rb_log.specs.Rows.{opened_row}
use Rattle.rb_log.specs.Sums.{numbers_below, open_doors, workers_of}
use Rattle.rb_log.proofs.Numbers.{below_at, below_length}
use Rattle.rb_board.specs.Boards.{BoardValue, HasClosed, PassValue, first_passes, told_of_pass}
use Rattle.rb_board.specs.History.{door_count, faults_after, IsHistory}
use Rattle.rb_board.specs.Plays.{opening_of}
use Rattle.rb_board.specs.Seats.{first_seen}
use Rattle.rb_board.specs.declared.view.Entry.{Entry}
use Rattle.rb_board.specs.declared.view.Opening.{Opening}
use Rattle.rb_board.specs.declared.view.Seen.{Seen}
use Rattle.rb_board.proofs.Known.{same_pass}
use Rattle.rb_board.proofs.Lists.{to_filter}
use Rattle.rb_serve.proofs.Roles.{AllSame}
use Rattle.rb_serve.specs.Passes.{IsJustOpened, Standing, standing}
use Rattle.rb_serve.specs.Roles.{AreAll, AreReady, MayClose, MayEach, MayWork}

-- ---- lists

below_contains : (n k : ℕ) → k < n → Contains (numbers_below n) k
below_contains n k lt = (k, omega (arith, lt, below_length n), below_at n k k lt)

map_map : {A B C : Type 0} (f : A → B) (g : B → C) (xs : List A)
    → map (λ x. g (f x)) xs ≡ map g (map f xs)
map_map f g [] = refl
map_map f g (x ∷ xs) = ap (λ l. g (f x) ∷ l) (map_map f g xs)

-- ---- passes as they are made

-- the pass of a number
abbrev pub numbered : TableId → Opening → ℕ → PassValue
numbered id o n = record { id = id; seen = first_seen o n }

pub count_new : (id : TableId) (o : Opening) (n : ℕ) → length (first_passes id o n) ≡ n
count_new id o n = length-map (numbers_below n) (numbered id o) ∙ below_length n

pub pass_at : (id : TableId) (o : Opening) (n k : ℕ) (d : PassValue) → k < n
    → get_or (first_passes id o n) k d ≡ numbered id o k
pass_at id o n k d lt =
    get_or-map (numbered id o) (numbers_below n) k 0 d (omega (arith, lt, below_length n))
    ∙ ap (numbered id o) (below_at n k 0 lt)

pub first_faults : (id : TableId) (o : Opening) (n : ℕ)
    → All (λ (p : PassValue). o.faults ≤ p.seen.faults) (first_passes id o n)
first_faults id o n k p lt =
    let same = ap (λ (q : PassValue). q.seen.faults)
    (pass_at id o n k p (omega (arith, lt, count_new id o n))) in
    omega (arith, same)

numbers_new : (id : TableId) (o : Opening) (ns : List ℕ)
    → map (λ (p : PassValue). p.seen.number) (map (numbered id o) ns) ≡ ns
numbers_new id o [] = refl
numbers_new id o (n ∷ ns) = ap (λ ms. n ∷ ms) (numbers_new id o ns)

abbrev Works : List Row → ℕ → ℕ → Type 0
Works rows number worker =
    Contains (filter (λ w. nat_eq (w + door_count rows) number) (numbers_below (workers_of rows)))
    worker

abbrev Closes : List Row → ℕ → Type 0
Closes rows number = Contains (filter (λ d. nat_eq d number) (open_doors rows)) number

module _ (id : TableId) (o : Opening) (doors workers : ℕ)
    (opened : IsJustOpened doors workers o.log) where
  abbrev held : List Row
  held = opened.0

  abbrev row : Row
  row = opened_row opened.1 doors workers opened.2

  last_first : row ∷ reverse held ≡ reverse o.log
  last_first = sym (ap reverse opened.3 ∙ newest held row)

  closes : (n : ℕ) → n < doors → MayClose (numbered id o n) n
  closes n lt =
      subst (λ rows. Closes rows n) last_first
      (to_filter (λ d. nat_eq d n) (numbers_below doors) n (eq-eqb n n refl)
      (below_contains doors n lt))

  works : (k : ℕ) → k < workers → MayWork (numbered id o (doors + k)) k
  works k lt =
      subst (λ rows. Works rows (doors + k) k) last_first
      (to_filter (λ w. nat_eq (w + doors) (doors + k)) (numbers_below workers) k
      (eq-eqb (k + doors) (doors + k) (omega arith)) (below_contains workers k lt))

  abbrev new : List PassValue
  new = first_passes id o (doors + workers)

  closing : MayEach MayClose doors new
  closing k d few lt =
      subst (λ p. MayClose p k)
      (sym (pass_at id o (doors + workers) k d (omega (arith, few)))) (closes k few)

  working : MayEach MayWork workers (drop doors new)
  working k d few lt =
      subst (λ p. MayWork p k)
      (sym (get_or-drop doors new k d
      ∙ pass_at id o (doors + workers) (doors + k) d (omega (arith, few)))) (works k few)

  new_ids : (n k : ℕ) (d : PassValue) → k < length (first_passes id o n)
      → (get_or (first_passes id o n) k d).id ≡ id
  new_ids n k d lt =
      ap (λ (p : PassValue). p.id) (pass_at id o n k d (omega (arith, lt, count_new id o n)))

  -- the passes that a board made are ready
  pub new_ready : (board : BoardValue) (passes : List PassValue) → passes ≡ new → board.id ≡ id
      → board.made ≡ doors + workers → AreReady board doors workers passes
  new_ready board passes is same made =
      subst (AreReady board doors workers) (sym is) (record {
        all = record {
          ids = λ k d lt. new_ids (doors + workers) k d lt ∙ sym same;
          numbers = numbers_new id o (numbers_below (doors + workers))
              ∙ ap numbers_below (sym made);
        };
        count = count_new id o (doors + workers);
        closing = closing;
        working = working;
      })

-- ---- behind the imports

pub goes_standing : (old new : PassValue) → GoesOn (told_of_pass old) (told_of_pass new)
    → standing new ≡ standing old
goes_standing old new goes =
    let same = same_pass new old goes.who in
    λ i. record {
      id = same.0 i;
      number = same.1 i;
      workers = goes.workers i;
      doors = goes.doors i;
    }

standing_at : (xs ys : List PassValue) → map standing ys ≡ map standing xs → (k : ℕ)
    (d : PassValue) → k < length xs → standing (get_or ys k d) ≡ standing (get_or xs k d)
standing_at [] ys h k d lt = absurd (omega (arith, lt))
standing_at (x ∷ xs) [] h k d lt = absurd (let n = ap length h in omega (arith, n))
standing_at (x ∷ xs) (y ∷ ys) h zero d lt = ap (λ l. get_or l 0 (standing x)) h
standing_at (x ∷ xs) (y ∷ ys) h (suc k) d lt =
    standing_at xs ys (ap (λ l. drop 1 l) h) k d (omega (arith, lt))

module _ (board : BoardValue) (doors workers : ℕ) (old new : List PassValue)
    (kept : map standing new ≡ map standing old) where
  long : length new ≡ length old
  long = sym (length-map new standing) ∙ (ap length kept ∙ length-map old standing)

  abbrev number_of : Standing → ℕ
  number_of s = s.number

  pub still_all : AreAll board old → AreAll board new
  still_all all = record {
    ids = λ k d lt.
        ap (λ (s : Standing). s.id) (standing_at old new kept k d (omega (arith, lt, long)))
        ∙ all.ids k d (omega (arith, lt, long));
    numbers = map_map standing number_of new
        ∙ (ap (map number_of) kept ∙ (sym (map_map standing number_of old) ∙ all.numbers));
  }

  still_closing : MayEach MayClose doors old → MayEach MayClose doors new
  still_closing may k d few lt =
      subst (λ (s : Standing). Contains s.doors k)
      (sym (standing_at old new kept k d (omega (arith, lt, long))))
      (may k d few (omega (arith, lt, long)))

  left : (k : ℕ) → k < length (drop doors new) → doors + k < length old
  left k lt = omega (arith, lt, length-drop doors new, long)

  there : (k : ℕ) → k < length (drop doors new) → k < length (drop doors old)
  there k lt = omega (arith, lt, length-drop doors new, length-drop doors old, long)

  still_working : MayEach MayWork workers (drop doors old)
      → MayEach MayWork workers (drop doors new)
  still_working may k d few lt =
      subst (λ (p : PassValue). MayWork p k) (sym (get_or-drop doors new k d))
      (subst (λ (s : Standing). Contains s.workers k)
      (sym (standing_at old new kept (doors + k) d (left k lt)))
      (subst (λ (p : PassValue). MayWork p k) (get_or-drop doors old k d)
      (may k d few (there k lt))))

  pub still_ready : AreReady board doors workers old → AreReady board doors workers new
  still_ready ready = record {
    all = still_all ready.all;
    count = long ∙ ready.count;
    closing = still_closing ready.closing;
    working = still_working ready.working;
  }

-- ---- behind all

same_ids : (id : TableId) (ps qs : List PassValue) → AllSame ps qs
    → All (λ (p : PassValue). p.id ≡ id) ps → All (λ (p : PassValue). p.id ≡ id) qs
same_ids id [] [] h all k d lt = absurd (omega (arith, lt))
same_ids id [] (q ∷ qs) h all k d lt = absurd h
same_ids id (p ∷ ps) [] h all k d lt = absurd h
same_ids id (p ∷ ps) (q ∷ qs) h all zero d lt = h.0.id ∙ all 0 p (omega arith)
same_ids id (p ∷ ps) (q ∷ qs) h all (suc k) d lt =
    same_ids id ps qs h.1 (λ j e low. all (suc j) e (omega (arith, low))) k d (omega (arith, lt))

same_numbers : (ps qs : List PassValue) → AllSame ps qs
    → map (λ (p : PassValue). p.seen.number) qs ≡ map (λ (p : PassValue). p.seen.number) ps
same_numbers [] [] h = refl
same_numbers [] (q ∷ qs) h = absurd h
same_numbers (p ∷ ps) [] h = absurd h
same_numbers (p ∷ ps) (q ∷ qs) h = λ i. h.0.number i ∷ same_numbers ps qs h.1 i

pub same_all : (board : BoardValue) (ps qs : List PassValue) → AllSame ps qs
    → AreAll board ps → AreAll board qs
same_all board ps qs h all = record {
  ids = same_ids board.id ps qs h all.ids;
  numbers = same_numbers ps qs h ∙ all.numbers;
}

-- the keeper's count does not fall over a history
pub count_later : (o : Opening) (past : List Entry) (log : List Row) → IsHistory o past log
    → o.faults ≤ faults_after o past
count_later o [] log h = omega arith
count_later o (e ∷ past) log h =
    let before = count_later o past h.0 h.1 in
    let later = h.2.later in
    omega (arith, before, later)

pub closed_later : {K : Type 0} (faults : K → ℕ) (old now : Opening) (seens : List Seen)
    (d : DeskState K) → now ≡ old → HasClosed faults now seens d → old.faults ≤ faults d.keeper
closed_later faults old now seens d same h =
    let later = count_later now h.past d.log h.history in
    let count = h.count in
    let opening = ap (λ (o : Opening). o.faults) same in
    omega (arith, later, count, opening)

-- a board that was opened with a desk which was just opened
pub opened_on : {K : Type 0} (faults : K → ℕ) (d : DeskState K) (o : Opening)
    (doors workers : ℕ) → o ≡ opening_of faults d → IsJustOpened doors workers d.log
    → IsJustOpened doors workers o.log
opened_on faults d o doors workers is h =
    subst (λ (p : Opening). IsJustOpened doors workers p.log) (sym is) h

-- ---- the pass that was lent

pass_is : (a b : PassValue) → a.id ≡ b.id → a.seen ≡ b.seen → a ≡ b
pass_is a b id seen = λ i. record { id = id i; seen = seen i }

pub lent_standing : (pass hand hand' left : PassValue)
    → (hand.id ≡ pass.id) × (hand.seen ≡ pass.seen)
    → GoesOn (told_of_pass hand) (told_of_pass hand')
    → (left.id ≡ hand'.id) × (left.seen ≡ hand'.seen) → standing left ≡ standing pass
lent_standing pass hand hand' left made goes back =
    ap standing (pass_is left hand' back.0 back.1)
    ∙ (goes_standing hand hand' goes ∙ ap standing (pass_is hand pass made.0 made.1))

pub kept_last : (rest old later : List PassValue) (pass left : PassValue)
    → old ≡ rest ++ pass ∷ [] → later ≡ rest ++ left ∷ [] → standing left ≡ standing pass
    → map standing later ≡ map standing old
kept_last rest old later pass left was is same =
    ap (map standing) is
    ∙ (map-append standing rest (left ∷ [])
    ∙ (ap (λ s. map standing rest ++ s ∷ []) same
    ∙ (sym (map-append standing rest (pass ∷ [])) ∙ sym (ap (map standing) was))))

pub last_of : (id : TableId) (rest all : List PassValue) (p : PassValue) → all ≡ rest ++ p ∷ []
    → All (λ (q : PassValue). q.id ≡ id) all → p.id ≡ id
last_of id rest all p is h =
    ap (λ (q : PassValue). q.id) (sym (get_or-append-add rest (p ∷ []) 0 p))
    ∙ subst (All (λ (q : PassValue). q.id ≡ id)) is h (length rest + 0) p
    (omega (arith, length-append rest (p ∷ [])))

-- ---- the row of the opening

pub just_opened : (log held : List Row) (asked : OpeningAsked) (doors workers : ℕ)
    → log ≡ held ++ opening_row held asked ∷ [] → asked.doors ≡ doors → asked.workers ≡ workers
    → IsJustOpened doors workers log
just_opened log rows asked doors workers is same_doors same_workers =
    subst (λ n. IsJustOpened n workers log) same_doors
    (subst (λ n. IsJustOpened asked.doors n log) same_workers
    (rows, moment (log_state (reverse rows)) asked.at, asked.draw, is))

pub opened_just : {K : Type 0} (rows : K → Option (List Row)) (keeper : K)
    (asked : OpeningAsked) (d : DeskState K) (doors workers : ℕ) → Opens rows keeper asked d
    → asked.doors ≡ doors → asked.workers ≡ workers → IsJustOpened doors workers d.log
opened_just rows keeper asked d doors workers opens same_doors same_workers =
    just_opened d.log opens.held asked doors workers opens.log same_doors same_workers
