use Rattle.std.proofs.Common.{◌≡◌, ◌++◌, not, map, drop, filter}
use Rattle.rb_causes.specs.Texts.{is_empty}
use Rattle.rb_cron.specs.Crontab.{words_at_blanks}
use Rattle.rb_cron.proofs.crontab.words.Given as goal

-- the words so far, and those of the parts that are left, are all words
abbrev pub invariant-loop-part : goal.invariant-loop-part
invariant-loop-part l =
    map (λ w. w.now) l.words.items ++ filter (λ word. not (is_empty word)) (map (λ p. p.now) (drop l.part-index l.part-items)) ≡ words_at_blanks l.text
