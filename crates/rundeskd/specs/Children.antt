-- What is told of a child's end.
use Rattle.std.specs.Prelude.{◌≡◌, ℕ, MatchOption, pos}
use Rattle.std.specs.Process.{exit_code}
use Rattle.std.specs.declared.process.status.ExitStatus.{ExitStatus}

-- its exit code, or 256 where it has none, as after a signal
abbrev pub IsCodeOf : ExitStatus → ℕ → Type 0
IsCodeOf status told = MatchOption (exit_code status) (told ≡ 256) (λ code. code ≡ pos told)
