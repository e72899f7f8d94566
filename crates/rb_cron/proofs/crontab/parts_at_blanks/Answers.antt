use Rattle.std.proofs.Common.{◌≡◌, ◌∙◌, map, ap}
use Rattle.std.proofs.lemmas.Result.{IfOk-weaker}
use Rattle.rb_causes.specs.Texts.{pieces, is_trimmed_off}
use Rattle.rb_cron.specs.Crontab.{parts_of_each}
use Rattle.rb_cron.proofs.Parts.{all_blanks}
use Rattle.rb_cron.proofs.crontab.parts_at_blanks.Goals as goal

pub returns : goal.returns
returns c =
    IfOk-weaker c.parts_of_each-3.result
    (λ ps. map (λ p. p.now) ps.items ≡ parts_of_each 10 (map (λ p. p.now) c.as_slice-3.result.now))
    (λ ps. map (λ p. p.now) ps.items ≡ pieces is_trimmed_off c.args.text.now)
    (λ ps e. e ∙ all_blanks c.args.text.now (map (λ p. p.now) c.as_slice.result.now) (map (λ p. p.now) c.as_slice-2.result.now) (map (λ p. p.now) c.as_slice-3.result.now)
    (ap (map (λ p. p.now)) c.as_slice.ensures.value ∙ c.in_ok-at_spaces.ensures)
    (ap (map (λ p. p.now)) c.as_slice-2.ensures.value ∙ c.in_ok-at_tabs.ensures)
    (ap (map (λ p. p.now)) c.as_slice-3.ensures.value ∙ c.in_ok-at_returns.ensures))
    c.parts_of_each-3.ensures
