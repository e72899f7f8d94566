-- What the top call does by its words: a session, a tool, a drill.
use Rattle.std.specs.Prelude.{
  ◌≡◌,
  ◌≤◌,
  ◌||◌,
  ◌⊎◌,
  ℕ,
  Bool,
  true,
  false,
  List,
  [],
  ◌∷◌,
  bytes_eq,
  codes,
  is_some,
  map,
  Option,
}
use Rattle.rb_causes.specs.Callers.{Callers}
use Rattle.rb_causes.specs.Sinks.{SinkState, StopsAtFault}
use Rattle.rb_causes.specs.Spawners.{ShownRuns}
use Rattle.rb_door.specs.Exchanges.{Moments}
use Rattle.rb_session.specs.Fetching.{ShelfSight}
use Rattle.rb_session_top.specs.Sessions.{Session}
use Rattle.rb_session_top.specs.Sights.{
  CallersSight,
  Given,
  GivesKeeper,
  KeptSight,
  Sight,
  callers_sight,
  sights,
}
use Rattle.rb_session_top.specs.Words.{manifest_words}
use Rattle.rb_tools.specs.Answers as tools
use Rattle.rb_top.specs.Outcome as drills

-- ---- what the top call looks at

-- each of its lines and spawners too
pub record TopSight : Type 0 where
  pub shelf : ShelfSight
  pub lines : List CallersSight
  pub spawners : List ShownRuns
  pub kept : KeptSight
  pub sink : SinkState

abbrev pub top_sights : ShelfSight → List CallersSight → List ShownRuns → KeptSight → SinkState
    → TopSight
top_sights shelf lines spawners kept sink =
    record { shelf = shelf; lines = lines; spawners = spawners; kept = kept; sink = sink }

-- what is told of each line
abbrev pub lines_sight : {L : Type 0} → (L → Option Callers) → (L → ℕ) → List L
    → List CallersSight
lines_sight callers faults lines = map (λ line. callers_sight (callers line) (faults line)) lines

-- what a session looks at, with this line and this spawner
abbrev pub sight_of : TopSight → CallersSight → ShownRuns → Sight
sight_of s line spawner = sights s.shelf line spawner s.kept s.sink

-- ---- what it did

-- The first is this one, and then that one; all others stand as before.
pub record FirstAlone {A : Type 0} (old new : List A) (before after : A) : Type 0 where
  pub others : List A
  pub was : old ≡ before ∷ others
  pub is : new ≡ after ∷ others

-- A session was served, on the first line and with the first spawner.
pub record ServesSession (may_be : Moments) (words : List (List ℕ)) (draw : ℕ)
    (old new : TopSight) (status : ℕ) (given : Given) : Type 0 where
  pub line : CallersSight
  pub line' : CallersSight
  pub spawner : ShownRuns
  pub spawner' : ShownRuns
  pub first_line : FirstAlone old.lines new.lines line line'
  pub first_spawner : FirstAlone old.spawners new.spawners spawner spawner'
  pub session : Session may_be words draw (sight_of old line spawner)
      (sight_of new line' spawner') status given

-- No line was called, and the keeper is given back as it was. What a session alone may answer was
-- not answered; the shelf tells the same files, its count did not fall, and nothing was written
-- behind a failed write.
pub record IsWithoutDesk (old new : TopSight) (status : ℕ) (given : Given) : Type 0 where
  pub no_desk : given ≡ GivesKeeper
  pub lines : new.lines ≡ old.lines
  pub kept : new.kept ≡ old.kept
  pub files : new.shelf.files ≡ old.shelf.files
  pub faults : old.shelf.faults ≤ new.shelf.faults
  pub out : StopsAtFault old.sink new.sink
  pub statuses : (status ≡ 0) ⊎ (status ≡ 2) ⊎ (status ≡ 3) ⊎ (status ≡ 4)
      ⊎ (status ≡ 7) ⊎ (status ≡ 9)

-- A drill was run, with the first spawner, whose count did not fall.
pub record RunsDrill (words : List (List ℕ)) (old new : TopSight) (status : ℕ) (given : Given)
    : Type 0 where
  pub spawner : ShownRuns
  pub spawner' : ShownRuns
  pub first : FirstAlone old.spawners new.spawners spawner spawner'
  pub counted : spawner.faults ≤ spawner'.faults
  pub without : IsWithoutDesk old new status given
  pub drill : drills.Answers old.shelf.files words old.shelf.faults new.shelf.faults status
      spawner spawner' old.sink new.sink

-- A tool was used, which starts nothing.
pub record UsesTool (words : List (List ℕ)) (old new : TopSight) (status : ℕ) (given : Given)
    : Type 0 where
  pub spawners : new.spawners ≡ old.spawners
  pub without : IsWithoutDesk old new status given
  pub tool : tools.ToolAnswers old.shelf.files words old.shelf.faults new.shelf.faults status
      old.sink new.sink

-- ---- which of them, by the words

-- the word is that of a tool
abbrev pub is_tool : List ℕ → Bool
is_tool word =
    bytes_eq word (codes "check") || bytes_eq word (codes "explain") || bytes_eq word (codes "next")
    || bytes_eq word (codes "demo")

-- the words are for the tools, which start nothing: the first of them is that of one
abbrev pub is_for_tools : List (List ℕ) → Bool
is_for_tools [] = false
is_for_tools (word ∷ words) = is_tool word

-- the words are a session's, on whatever line
abbrev pub is_session : List (List ℕ) → Bool
is_session words = is_some (manifest_words words)

-- a session, else a tool, else a drill: words of no form are a drill's, which tells them as such
abbrev pub OneOf : (session tool : Bool) → Type 0 → Type 0 → Type 0 → Type 0
OneOf true tool OfSession OfTool OfDrill = OfSession
OneOf false true OfSession OfTool OfDrill = OfTool
OneOf false false OfSession OfTool OfDrill = OfDrill

-- What the top call does, by its words.
abbrev pub DeskTop : Moments → List (List ℕ) → ℕ → TopSight → TopSight → ℕ → Given → Type 0
DeskTop may_be words draw old new status given =
    OneOf (is_session words) (is_for_tools words)
    (ServesSession may_be words draw old new status given)
    (UsesTool words old new status given)
    (RunsDrill words old new status given)
