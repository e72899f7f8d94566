-- The programs that Begin rows stand for, with how they ended. A log is given oldest first.
use Rattle.std.specs.Prelude.{ℕ, ◌+◌, ◌-◌, Bool, nat_eq, ◌&&◌, List, [], ◌∷◌, take, drop, reverse, slice_get, find, Option, Some, None, option_map, option_to_list, if◌then◌else◌}
use Rattle.std.specs.Option.{option_and_then}
use Rattle.std.specs.List.{flat_map}
use Rattle.rb_causes.specs.declared.ending.Ending.{Ending}
use Rattle.rb_causes.specs.declared.row.Row.{Row}
use Rattle.rb_causes.specs.declared.spawner.SpawnRun.{SpawnRun}
use Rattle.rb_log.specs.Rows.{is_begin, is_end, ending_of}
use Rattle.rb_log.specs.Executions.{Execution, leaf_of, executions, execution_among}
use Rattle.rb_log.specs.Claims.{execution_words}

-- an End of the leaf of this Begin
abbrev pub is_end_of : Row → Row → Bool
is_end_of begin row = is_end row && (nat_eq row.a begin.a && nat_eq row.b begin.b)

-- the ending of the first End of its leaf among the rows behind it
abbrev pub end_among : Row → List Row → Option Ending
end_among begin later = option_map (λ row. ending_of row.c) (find (is_end_of begin) later)

-- the words of the leaf of a Begin row
abbrev pub words_of_row : Row → Execution → List (List ℕ)
words_of_row begin e = execution_words e (leaf_of e begin.b)

-- what a Begin of an execution runs, where it ends
abbrev pub run_begun : Row → Execution → Option Ending → Option SpawnRun
run_begun begin e ended =
    option_map (λ ending. record { words = words_of_row begin e; ending = ending }) ended

-- the program of a Begin with these rows before it, newest first, and those behind it
abbrev pub program_of : List Row → Row → List Row → Option SpawnRun
program_of past begin later =
    option_and_then (λ e. run_begun begin e (end_among begin later))
    (execution_among begin.a (executions past))

abbrev pub program_if : List Row → ℕ → Option Row → List SpawnRun
program_if log n None = []
program_if log n (Some row) =
    if is_begin row
    then option_to_list (program_of (reverse (take (n - 1) log)) row (drop n log))
    else []

-- the program of the row of this number, from 1, where it is a Begin that has its End
abbrev pub program_at : List Row → ℕ → List SpawnRun
program_at log n = program_if log n (slice_get log (n - 1))

-- the programs of the rows of these numbers, in order
abbrev pub programs_at : List Row → List ℕ → List SpawnRun
programs_at log numbers = flat_map (program_at log) numbers

-- a Begin of this worker
abbrev pub is_begun_by : ℕ → Row → Bool
is_begun_by worker row = is_begin row && nat_eq row.c worker

-- the numbers, from n on, of the Begins of a worker among these rows
abbrev pub begun_numbers : ℕ → ℕ → List Row → List ℕ
begun_numbers worker n [] = []
begun_numbers worker n (row ∷ rows) =
    if is_begun_by worker row
    then n ∷ begun_numbers worker (n + 1) rows
    else begun_numbers worker (n + 1) rows

-- the programs of a worker behind row n
abbrev pub programs_of : List Row → ℕ → ℕ → List SpawnRun
programs_of log n worker = programs_at log (begun_numbers worker (n + 1) (drop n log))
