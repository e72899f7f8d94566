use Rattle.std.proofs.Common.{◌≡◌, ◌+◌, map, drop}
use Rattle.rb_cron.specs.Fields.{value_named}
use Rattle.rb_cron.proofs.field.place_of.Given as goal

-- the names so far are others
abbrev pub invariant-loop-name : goal.invariant-loop-name
invariant-loop-name l = record {
  at : l.place ≡ l.name-index + 1;
  rest : value_named l.place (map (λ name. name.now) (drop l.name-index l.names)) l.text ≡ value_named 1 (map (λ name. name.now) l.names) l.text;
}
