use Rattle.std.proofs.Common.{arith}
use Rattle.rb_marks.specs.Units.{outline}
use Rattle.rb_flow.proofs.Fitting.{length-works, fits_anew, fits_again}
use Rattle.rb_flow.proofs.choosing.fits.Goals as goal

pub index-requires : goal.index-requires
index-requires c =
    let t = c.args.tally.now in
    let l = length-works t c.requires.is in
    let ok = t.works.ok.0 in
    omega (arith, l, ok, c.requires.node)

pub returns-then-index-eq0 : goal.returns-then-index-eq0
returns-then-index-eq0 c =
    fits_anew (outline c.args.plan.now) c.args.tally.now c.requires.is c.requires.nodes c.args.node
    c.index.result.now c.requires.node c.index.ensures c.if-index-eq0.true

pub returns-else-index-eq0 : goal.returns-else-index-eq0
returns-else-index-eq0 c =
    fits_again (outline c.args.plan.now) c.args.tally.now c.requires.is c.requires.nodes c.args.node
    c.index.result.now c.requires.node c.index.ensures (λ e. c.if-index-eq0.false e)
