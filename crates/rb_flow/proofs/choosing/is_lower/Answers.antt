use Rattle.std.proofs.Common.{◌<◌, length, arith}
use Rattle.rb_flow.proofs.InWork.{place_within, lower_at}
use Rattle.rb_flow.proofs.choosing.is_lower.Goals as goal

pub index-requires : goal.index-requires
index-requires c =
    let t = c.args.tally.now in
    let listed = t.places.ok.0 in
    let l : c.args.at < length t.places.items =
    omega (arith, c.if-at-len.false, c.len.ensures, listed) in
    let w = place_within t c.requires c.args.at c.index-place.result.now l c.index-place.ensures in
    let states = t.states.ok.0 in
    omega (arith, w, states)

pub returns : goal.returns
returns c =
    let t = c.args.tally.now in
    let listed = t.places.ok.0 in
    let l : c.args.at < length t.places.items =
    omega (arith, c.if-at-len.false, c.len.ensures, listed) in
    let w = place_within t c.requires c.args.at c.index-place.result.now l c.index-place.ensures in
    lower_at t c.requires c.args.at c.index-place.result.now c.args.end c.args.tier
    c.index.result.now l c.index-place.ensures c.if-place-end.false w c.index.ensures
