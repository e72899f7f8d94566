use Rattle.std.proofs.Common.{◌≡◌, ◌+◌, ◌-◌, ◌&&◌, true, ◌++◌, ◌∷◌, [], Ok, map, length, zero, false, refl, ap, ◌∙◌, rules, arith}
use Rattle.std.proofs.lemmas.Result.{err_from_is_err_and}
use Rattle.std.proofs.lemmas.List.{map_push}
use Rattle.rb_yaml.specs.Flow.{flow_turn, flow_items, closes, separates, junk, item}
use Rattle.rb_yaml.specs.FlowView.{pair_view, item_view}
use Rattle.rb_yaml.proofs.FlowTurns.{turn_through, turn_closes, turn_separates, turn_junk, turn_item, turns_end, moved}
use Rattle.rb_yaml.proofs.flow.flow_items.Goals as goal
use Rattle.rb_yaml.proofs.flow.flow_items.Goals.{in-Separates, in-Junk, in-Item+in_ok-push-in-Item}

pub returns-in_err-rest : goal.returns-in_err-rest
returns-in_err-rest c =
    let p = err_from_is_err_and c.from_residual.result c.from_residual.ensures.1 in
    rw (p.1, p.2) (turn_through c.in_err-rest.field-0.0 (length c.args.text.now + 2) c.loop-turn._turn c.args.close c.loop-turn.after c.loop-turn.good c.loop-turn.rest.now
    (map pair_view c.loop-turn.items.items) (flow_items (length c.args.text.now + 2) c.args.close false c.args.text.now) c.loop-turn-test.true c.in_err-rest.ensures c.loop-turn.invariant.same)

pub returns-in-Closes : goal.returns-in-Closes
returns-in-Closes c =
    let turn : flow_turn c.args.close c.loop-turn.after c.loop-turn.rest.now ≡ Ok (closes c.in-Closes.rest.now) = search rules in
    turn_closes (length c.args.text.now + 2) c.loop-turn._turn c.args.close c.loop-turn.after c.loop-turn.good c.loop-turn.rest.now c.in-Closes.rest.now
    (map pair_view c.loop-turn.items.items) (flow_items (length c.args.text.now + 2) c.args.close false c.args.text.now) c.loop-turn-test.true turn c.loop-turn.invariant.same

pub loop-turn-preserved : goal.loop-turn-preserved
loop-turn-preserved c =
    let n = length c.args.text.now + 2 in
    let all = flow_items (length c.args.text.now + 2) c.args.close false c.args.text.now in
    let items = map pair_view c.loop-turn.items.items in
    elim c.match-branch-2.branch [
      | in-Separates w ↦
          let turn : flow_turn c.args.close c.loop-turn.after c.loop-turn.rest.now ≡ Ok (separates w.in-Separates.behind.now) = search rules in
          record {
            text = search rules;
            same = moved (n - (c.loop-turn._turn + 1)) c.args.close (map pair_view c.match-branch-2.items.items) items c.match-branch-2.good (c.loop-turn.good && c.loop-turn.after)
                c.match-branch-2.after false c.match-branch-2.rest.now w.in-Separates.behind.now all (ap (λ v. map pair_view v.items) w.items-is) (w.good-is ∙ w.both-good.ensures) w.after-is (ap (λ r. r.now) w.rest-is)
                (turn_separates n c.loop-turn._turn c.args.close c.loop-turn.after c.loop-turn.good c.loop-turn.rest.now w.in-Separates.behind.now items all c.loop-turn-test.true turn c.loop-turn.invariant.same);
          }
      | in-Junk w ↦
          let turn : flow_turn c.args.close c.loop-turn.after c.loop-turn.rest.now ≡ Ok (junk w.in-Junk.behind.now) = search rules in
          record {
            text = search rules;
            same = moved (n - (c.loop-turn._turn + 1)) c.args.close (map pair_view c.match-branch-2.items.items) items c.match-branch-2.good false
                c.match-branch-2.after true c.match-branch-2.rest.now w.in-Junk.behind.now all (ap (λ v. map pair_view v.items) w.items-is) w.good-is w.after-is (ap (λ r. r.now) w.rest-is)
                (turn_junk n c.loop-turn._turn c.args.close c.loop-turn.after c.loop-turn.good c.loop-turn.rest.now w.in-Junk.behind.now items all c.loop-turn-test.true turn c.loop-turn.invariant.same);
          }
      | in-Item+in_ok-push-in-Item w ↦
          let turn : flow_turn c.args.close c.loop-turn.after c.loop-turn.rest.now ≡ Ok (item (item_view w.in-Item.item)) = search rules in
          let pushed : w.push.new.self.items ≡ c.loop-turn.items.items ++ record { key = w.in-Item.item.key; text = w.in-Item.item.text } ∷ [] = w.in_ok-push-in-Item.ensures.items in
          let more : map pair_view c.match-branch-2.items.items ≡ items ++ (w.in-Item.item.key, w.in-Item.item.text) ∷ [] =
          ap (λ v. map pair_view v.items) w.items-is ∙ ap (map pair_view) pushed ∙ map_push pair_view c.loop-turn.items.items (record { key = w.in-Item.item.key; text = w.in-Item.item.text }) in
          record {
            text = search rules;
            same = moved (n - (c.loop-turn._turn + 1)) c.args.close (map pair_view c.match-branch-2.items.items) (items ++ (w.in-Item.item.key, w.in-Item.item.text) ∷ []) c.match-branch-2.good (c.loop-turn.good && w.in-Item.item.good)
                c.match-branch-2.after true c.match-branch-2.rest.now w.in-Item.item.rest.now all more (w.good-is ∙ w.both-good-in-Item.ensures) w.after-is (ap (λ r. r.now) w.rest-is)
                (turn_item n c.loop-turn._turn c.args.close c.loop-turn.after c.loop-turn.good c.loop-turn.rest.now (item_view w.in-Item.item) items (items ++ (w.in-Item.item.key, w.in-Item.item.text) ∷ []) all c.loop-turn-test.true turn refl c.loop-turn.invariant.same);
          }
    ]

pub returns : goal.returns
returns c =
    let none : length c.args.text.now + 2 - c.loop-turn._turn ≡ zero = omega arith in
    turns_end (length c.args.text.now + 2) c.loop-turn._turn c.args.close c.loop-turn.after c.loop-turn.good c.loop-turn.rest.now
    (map pair_view c.loop-turn.items.items) (flow_items (length c.args.text.now + 2) c.args.close false c.args.text.now) none c.loop-turn.invariant.same
