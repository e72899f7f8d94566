use Rattle.std.proofs.Common.{◌≡◌, ◌++◌, drop, string_bytes}
use Rattle.rb_api.specs.Joining.{behind_each, joined}
use Rattle.rb_api.proofs.joining.joined.Given as goal

-- the text so far, and what the texts that are left add to it, are all texts
abbrev pub invariant-loop-other : goal.invariant-loop-other
invariant-loop-other l =
    string_bytes l.text ++ behind_each l.between (drop l.other-index l.others)
    ≡ joined l.between l.texts
