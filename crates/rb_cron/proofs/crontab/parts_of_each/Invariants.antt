use Rattle.std.proofs.Common.{◌≡◌, ◌++◌, map, drop}
use Rattle.rb_cron.specs.Crontab.{parts_of_each}
use Rattle.rb_cron.proofs.crontab.parts_of_each.Given as goal

-- the parts so far, and those of the texts that are left, are all parts
abbrev pub invariant-loop-text : goal.invariant-loop-text
invariant-loop-text l =
    map (λ p. p.now) l.all.items ++ parts_of_each l.sign (map (λ t. t.now) (drop l.text-index l.texts)) ≡ parts_of_each l.sign (map (λ t. t.now) l.texts)

-- and so within the parts of one
abbrev pub invariant-loop-part : goal.invariant-loop-part
invariant-loop-part l =
    map (λ p. p.now) l.all.items ++ map (λ p. p.now) (drop l.part-index l.part-items) ≡ map (λ p. p.now) l.initial.all.items ++ map (λ p. p.now) l.part-items
