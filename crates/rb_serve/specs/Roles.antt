-- Parts on a board: what they may ask, and what is left of them.
use Rattle.std.specs.List.{list_any}
use Rattle.std.specs.Prelude.{◌≡◌, ◌≤◌, ◌<◌, ◌+◌, ◌⊎◌, ℕ, Bool, true, false, List, [], ◌∷◌, ◌++◌, length, map, drop, get_or, All, Contains, Option, Some}
use Rattle.atomic_table.specs.Seated.{TableId}
use Rattle.rb_api.specs.declared.token.Token.{Token}
use Rattle.rb_causes.specs.Callers.{Callers}
use Rattle.rb_causes.specs.Causes.{Rose}
use Rattle.rb_causes.specs.Spawners.{ShownRuns}
use Rattle.rb_door.specs.Exchanges.{Moments}
use Rattle.rb_log.specs.Sums.{numbers_below}
use Rattle.rb_log.specs.Told.{Told}
use Rattle.rb_board.specs.Boards.{BoardValue, PassValue, told_of_pass}
use Rattle.rb_serve.specs.Doors.{IsDoor}
use Rattle.rb_serve.specs.declared.crew_end.CrewEnd.{CrewEnd}
use Rattle.rb_serve.specs.declared.door_end.DoorEnd.TheVariants as end
use Rattle.rb_serve.specs.declared.role.Post.{Post}
use Rattle.rb_serve.specs.declared.role.Post.TheVariants.{Door, Worker}
use Rattle.rb_serve.specs.declared.role.Role.{Role}
use Rattle.rb_work.specs.Working.{HasWorkedOn}
use Rattle.rb_work.specs.declared.pumped.Pumped.TheVariants as pumped

-- ---- passes

-- they are all passes of the board, in order
pub record AreAll (board : BoardValue) (passes : List PassValue) : Type 0 where
  pub ids : All (λ p. p.id ≡ board.id) passes
  pub numbers : map (λ p. p.seen.number) passes ≡ numbers_below board.made

-- the pass may close the door, or work for the worker
abbrev pub MayClose : PassValue → ℕ → Type 0
MayClose p door = Contains (told_of_pass p).rights.doors door

abbrev pub MayWork : PassValue → ℕ → Type 0
MayWork p worker = Contains (told_of_pass p).rights.workers worker

-- of the passes so many from the first on may close a door each, or work for a worker each
abbrev pub MayEach : (PassValue → ℕ → Type 0) → ℕ → List PassValue → Type 0
MayEach May count passes =
    (k : ℕ) (d : PassValue) → k < count → k < length passes → May (get_or passes k d) k

-- They are all passes of the board, the first close a door each, and those behind them work for a
-- worker each.
pub record AreReady (board : BoardValue) (doors workers : ℕ) (passes : List PassValue)
    : Type 0 where
  pub all : AreAll board passes
  pub count : length passes ≡ doors + workers
  pub closing : MayEach MayClose doors passes
  pub working : MayEach MayWork workers (drop doors passes)

-- ---- what a part may do

-- a door may be closed, and a worker may work
abbrev pub MayTake : {L S : Type 0} → Told → Post L S → Type 0
MayTake told (Door line buffer number end) = Contains told.rights.doors number
MayTake told (Worker spawner number said) = Contains told.rights.workers number

-- the part has a pass of this board
abbrev pub IsOf : {L S : Type 0} → TableId → Role L S → Type 0
IsOf id role = (p : PassValue) × (role.pass ≡ Some p) × (p.id ≡ id)

-- it has a pass
abbrev pub IsWhole : {L S : Type 0} → Role L S → Type 0
IsWhole role = (p : PassValue) × (role.pass ≡ Some p)

-- it has a pass by which it may act
abbrev pub CanPlay : {L S : Type 0} → Role L S → Type 0
CanPlay role = (p : PassValue) × (role.pass ≡ Some p) × MayTake (told_of_pass p) role.post

-- ---- what was done

-- what is seen of lines and spawners, which moments the clock may tell, and whose tokens are known
pub record Senses (L S : Type 0) : Type 1 where
  pub may_be : Moments
  pub tokens : List Token
  pub callers : L → Option Callers
  pub line_faults : L → ℕ
  pub shown : S → ShownRuns

abbrev pub senses_of : {L S : Type 0} → Moments → List Token → (L → Option Callers) → (L → ℕ)
    → (S → ShownRuns) → Senses L S
senses_of may_be tokens callers line_faults shown = record {
  may_be = may_be;
  tokens = tokens;
  callers = callers;
  line_faults = line_faults;
  shown = shown;
}

-- A door served its line, or a worker worked with its spawner, by a clerk that told this before and
-- tells that now.
abbrev pub IsTaken : {L S : Type 0} → Senses L S → Told → Told → Post L S → Post L S → Type 0
IsTaken senses old new (Door line buffer number e) (Door line' buffer' number' e') =
    (number' ≡ number)
    × IsDoor senses.may_be senses.tokens number old new (senses.callers line)
    (senses.callers line') e'
    × (senses.line_faults line ≤ senses.line_faults line')
    × (e' ≡ end.Failed → Rose (senses.line_faults line) (senses.line_faults line'))
IsTaken senses old new (Worker spawner number said) (Worker spawner' number' said') =
    (number' ≡ number)
    × HasWorkedOn senses.may_be number
    (record { clerk = old; spawner = senses.shown spawner })
    (record { clerk = new; spawner = senses.shown spawner' }) said'
    × ((senses.shown spawner).faults ≤ (senses.shown spawner').faults)
    × (said' ≡ pumped.StoreFault → Rose old.faults new.faults)
IsTaken senses old new before after = ⊥

-- it is a pass of the same board, with the same number, and knows of no fewer faults
pub record IsSame (old new : PassValue) : Type 0 where
  pub id : new.id ≡ old.id
  pub number : new.seen.number ≡ old.seen.number
  pub later : old.seen.faults ≤ new.seen.faults

-- The part was played, and has the pass that it had.
pub record HasPlayed {L S : Type 0} (senses : Senses L S) (old new : Role L S) : Type 0 where
  pub pass : PassValue
  pub left : PassValue
  pub had : old.pass ≡ Some pass
  pub has : new.pass ≡ Some left
  pub same : IsSame pass left
  pub taken : IsTaken senses (told_of_pass pass) (told_of_pass left) old.post new.post

-- all of them played
abbrev pub AllPlayed : {L S : Type 0} → Senses L S → List (Role L S) → List (Role L S) → Type 0
AllPlayed senses [] [] = Unit {0}
AllPlayed senses (r ∷ rs) (s ∷ ss) = HasPlayed senses r s × AllPlayed senses rs ss
AllPlayed senses olds news = ⊥

-- ---- what all of them have

abbrev pub line_in : {L S : Type 0} → Post L S → List L → List L
line_in (Door line buffer number end) rest = line ∷ rest
line_in (Worker spawner number said) rest = rest

abbrev pub lines_of : {L S : Type 0} → List (Role L S) → List L
lines_of [] = []
lines_of (r ∷ rs) = line_in r.post (lines_of rs)

abbrev pub spawner_in : {L S : Type 0} → Post L S → List S → List S
spawner_in (Door line buffer number end) rest = rest
spawner_in (Worker spawner number said) rest = spawner ∷ rest

abbrev pub spawners_of : {L S : Type 0} → List (Role L S) → List S
spawners_of [] = []
spawners_of (r ∷ rs) = spawner_in r.post (spawners_of rs)

abbrev pub passes_of : {L S : Type 0} → List (Role L S) → List (Option PassValue)
passes_of roles = map (λ r. r.pass) roles

-- More parts were given, behind those that there were: with the first passes, lines and spawners of
-- these, each once. Those that are left stand behind them.
pub record AreGiven {L S : Type 0} (olds news : List (Role L S)) (passes passes' : List PassValue)
    (lines lines' : List L) (spawners spawners' : List S) : Type 0 where
  pub passes_are : passes_of news ++ map Some passes' ≡ passes_of olds ++ map Some passes
  pub lines_are : lines_of news ++ lines' ≡ lines_of olds ++ lines
  pub spawners_are : spawners_of news ++ spawners' ≡ spawners_of olds ++ spawners
  pub may : All CanPlay news

-- Each pass, line and spawner stands in one part, in order, and each part may be played.
pub record AreCast {L S : Type 0} (passes : List PassValue) (lines : List L) (spawners : List S)
    (roles : List (Role L S)) : Type 0 where
  pub passes_are : passes_of roles ≡ map Some passes
  pub lines_are : lines_of roles ≡ lines
  pub spawners_are : spawners_of roles ≡ spawners
  pub may : All CanPlay roles

-- ---- how they ended

-- the line of a door failed
abbrev pub is_failed : {L S : Type 0} → Post L S → Bool
is_failed (Door line buffer number end.Failed) = true
is_failed other = false

-- the store failed, as a worker says
abbrev pub is_store_fault : {L S : Type 0} → Post L S → Bool
is_store_fault (Worker spawner number pumped.StoreFault) = true
is_store_fault other = false

-- a reply of a door wanted memory, or a worker ended before all was over, as they say
abbrev pub is_wanting : {L S : Type 0} → Post L S → Bool
is_wanting (Door line buffer number end.Wanting) = true
is_wanting (Door line buffer number other) = false
is_wanting (Worker spawner number pumped.Closed) = false
is_wanting (Worker spawner number other) = true

-- this is what is told of them all
pub record EndsSo {L S : Type 0} (ends : List (Role L S)) (said : CrewEnd) : Type 0 where
  pub line : said.line_failed ≡ list_any (λ r. is_failed r.post) ends
  pub store : said.store_failed ≡ list_any (λ r. is_store_fault r.post) ends
  pub wanting : said.wanting ≡ list_any (λ r. is_wanting r.post) ends

-- Each pass was played once, with a line or a spawner, and all of them went back in order.
pub record HavePlayed {L S : Type 0} (senses : Senses L S) (passes passes' : List PassValue)
    (lines lines' : List L) (spawners spawners' : List S) (said : CrewEnd) : Type 0 where
  pub parts : List (Role L S)
  pub ends : List (Role L S)
  pub cast : AreCast passes lines spawners parts
  pub played : AllPlayed senses parts ends
  pub passes_back : map Some passes' ≡ passes_of ends
  pub lines_back : lines' ≡ lines_of ends
  pub spawners_back : spawners' ≡ spawners_of ends
  pub told : EndsSo ends said

-- ---- counts of faults

-- no count fell
abbrev pub NoneFell : {A : Type 0} → (A → ℕ) → List A → List A → Type 0
NoneFell faults [] [] = Unit {0}
NoneFell faults (x ∷ xs) (y ∷ ys) = (faults x ≤ faults y) × NoneFell faults xs ys
NoneFell faults olds news = ⊥

-- one of them rose
abbrev pub OneRose : {A : Type 0} → (A → ℕ) → List A → List A → Type 0
OneRose faults [] news = ⊥
OneRose faults (x ∷ xs) [] = ⊥
OneRose faults (x ∷ xs) (y ∷ ys) = Rose (faults x) (faults y) ⊎ OneRose faults xs ys
