-- What the tests have of passes, over their turns.
use Rattle.std.specs.Prelude.{◌≡◌, ◌≤◌, ◌<◌, ◌-◌, ◌+◌, ℕ, pos, List, [], ◌∷◌, length, map, All, Contains}
use Rattle.atomic_table.specs.Seated.{TableId}
use Rattle.rb_causes.specs.declared.row.Row.{Row}
use Rattle.rb_log.specs.Legal.{Rights, MayAsk}
use Rattle.rb_log.specs.Rows.{opened_row}
use Rattle.rb_log.specs.Sums.{numbers_below}
use Rattle.rb_log.specs.Told.{rights_after}
use Rattle.rb_log.specs.declared.answer.Answer.{Answer}
use Rattle.rb_log.specs.declared.call.Call.{Call}
use Rattle.rb_board.specs.Boards.{BoardValue, PassValue, first_passes}
use Rattle.rb_board.specs.History.{told_of_seen}
use Rattle.rb_board.specs.declared.view.Opening.{Opening}

-- ---- passes

-- what may be asked, but for leaves, stays
pub record HasKept (old new : Rights) : Type 0 where
  pub workers : new.workers ≡ old.workers
  pub doors : new.doors ≡ old.doors

-- Anybody may make the call, and it takes no door away.
pub record IsOpenToAll (call : Call) : Type 0 where
  pub may : (rights : Rights) → MayAsk rights call
  pub keeps : (a : Answer) (rights : Rights) → HasKept rights (rights_after call a rights)

-- it is a pass of the same board, with the same number
pub record IsSame (old new : PassValue) : Type 0 where
  pub id : new.id ≡ old.id
  pub number : new.seen.number ≡ old.seen.number

-- The pass may ask what it might ask, but for leaves.
pub record IsKept (old new : PassValue) : Type 0 where
  pub same : IsSame old new
  pub rights : HasKept (told_of_seen old.seen).rights (told_of_seen new.seen).rights

abbrev pub MayWork : PassValue → ℕ → Type 0
MayWork pass worker = Contains (told_of_seen pass.seen).rights.workers worker

abbrev pub MayClose : PassValue → ℕ → Type 0
MayClose pass door = Contains (told_of_seen pass.seen).rights.doors door

-- ---- parts

-- a pass, its place among all, and how many doors there are
pub record RoleValue : Type 0 where
  pub pass : PassValue
  pub place : ℕ
  pub doors : ℕ

abbrev pub pass_of : RoleValue → PassValue
pass_of r = r.pass

-- A door may close, and a worker may work.
pub record MayPlay (r : RoleValue) : Type 0 where
  pub door : r.place < r.doors → MayClose r.pass r.place
  pub worker : r.doors ≤ r.place → MayWork r.pass (r.place - r.doors)

-- the part has the same pass
abbrev pub IsPlayed : RoleValue → RoleValue → Type 0
IsPlayed old new = IsSame old.pass new.pass

-- it asked what anybody may ask
pub record HasPlayed (old new : RoleValue) : Type 0 where
  pub kept : IsKept old.pass new.pass
  pub place : new.place ≡ old.place
  pub doors : new.doors ≡ old.doors

-- They have all passes of the board, in order.
pub record AreOf (board : BoardValue) (roles : List RoleValue) : Type 0 where
  pub ids : All (λ r. r.pass.id ≡ board.id) roles
  pub numbers : map (λ r. r.pass.seen.number) roles ≡ numbers_below board.made

-- They may play their parts too.
pub record AreReady (board : BoardValue) (roles : List RoleValue) : Type 0 where
  pub all : AreOf board roles
  pub may : All MayPlay roles

-- ---- openings

-- the log of a desk of so many doors and workers behind its opening
abbrev pub opened_log : ℕ → ℕ → List Row
opened_log doors workers = opened_row (pos 1700000000) doors workers 0 ∷ []

-- they are the first passes of a board that was opened with that log
abbrev pub AreNew : ℕ → List PassValue → Type 0
AreNew doors passes =
    (id : TableId) × (o : Opening) × (workers : ℕ)
    × (o.log ≡ opened_log doors workers) × (doors + workers ≤ 80)
    × (passes ≡ first_passes id o (doors + workers))

-- they have these passes, and may play their parts
abbrev pub AreCast : List PassValue → List RoleValue → Type 0
AreCast passes roles = (map pass_of roles ≡ passes) × All MayPlay roles
