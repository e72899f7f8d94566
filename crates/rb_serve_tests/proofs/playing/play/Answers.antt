use Rattle.std.proofs.Common.{◌∙◌, ap, option_map, subst, sym}
use Rattle.rb_serve.specs.Serving.{AreEnough}
use Rattle.rb_serve.specs.Words.{crew_words_of}
use Rattle.rb_serve_tests.proofs.playing.play.Goals as goal

pub serve_top-status-requires-clause-enough : goal.serve_top-status-requires-clause-enough
serve_top-status-requires-clause-enough g c κs within =
    let crew = sym c.crew_in.ensures
    ∙ ap (λ o. option_map (λ crew. crew_words_of crew.manifest.now
    (option_map (λ file. file.now) crew.store) crew.workers crew.callers crew.addresses.now) o)
    c.in-Some.is in
    subst (λ words. AreEnough words c.in_ok-lines.lines.items c.in_ok-spawners.spawners.items)
    (sym crew) (c.in_ok-lines.ensures, c.in_ok-spawners.ensures)
