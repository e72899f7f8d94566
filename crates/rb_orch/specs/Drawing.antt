-- The numbers by which a subset is drawn.
use Rattle.std.specs.Prelude.{ℕ, ◌+◌, ◌*◌, ◌%◌, ◌^◌}

-- the number that follows x: below 2 ^ 31
abbrev pub next_draw : ℕ → ℕ
next_draw x = (x * 1103515245 + 12345) % 2 ^ 31
