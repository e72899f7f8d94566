use Rattle.std.proofs.Common.{◌≡◌, ◌∷◌, drop, string_bytes}
use Rattle.rb_causes.specs.Signs.{line_feed}
use Rattle.rb_causes.specs.Texts.{joined}
use Rattle.rb_tables.proofs.who.who_text.Given as goal

-- what is joined and what is left to be joined are all
abbrev pub invariant-loop-group : goal.invariant-loop-group
invariant-loop-group l =
    joined line_feed (string_bytes l.who ∷ drop l.group-index l.caller.groups)
    ≡ joined line_feed (l.caller.user ∷ l.caller.groups)
