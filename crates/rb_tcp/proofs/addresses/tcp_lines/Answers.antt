use Rattle.std.proofs.Common.{◌≡◌, [], ◌∷◌, All, ap, arith, length, subst, sym}
use Rattle.std.proofs.lemmas.List.{length-append}
use Rattle.std.proofs.lemmas.List.Elements.{All-push}
use Rattle.rb_tcp.specs.LineState.{LineState, unserved}
use Rattle.rb_tcp.proofs.addresses.tcp_lines.Goals as goal

pub loop-address-preserved : goal.loop-address-preserved
loop-address-preserved g c =
    let i = c.loop-address.invariant in
    let lines = c.loop-address.lines.items in
    let added = c.push_reserved.ensures.items in
    record {
      count = omega (arith, i.count, ap length added, length-append lines (c.over.result ∷ []));
      room = omega (arith, i.room, c.push_reserved.ensures.capacity);
      unserved = subst (All (λ (line : LineState). line ≡ unserved c.args.left 0)) (sym added)
          (All-push (λ (line : LineState). line ≡ unserved c.args.left 0) lines c.over.result
          i.unserved c.over.ensures);
    }
