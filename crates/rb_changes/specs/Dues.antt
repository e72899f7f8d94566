-- When the jobs of each project are due next, as memory has it.
use Rattle.std.specs.Prelude.{ℤ, List, map, Option, Vec}
use Rattle.std.specs.declared.alloc.Global.{Global}

abbrev pub Dues : Type 0
Dues = Vec (Vec (Option ℤ) Global) Global

abbrev pub dues : Dues → List (List (Option ℤ))
dues all = map (λ due. due.items) all.items
