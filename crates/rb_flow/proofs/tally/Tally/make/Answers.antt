use Rattle.std.proofs.Common.{ap, sym, ◌∙◌, arith, length, ◌*◌}
use Rattle.std.proofs.lemmas.List.{length-replicate}
use Rattle.rb_flow.specs.Tally.{busy_count, groups_of}
use Rattle.rb_flow.proofs.TallyIdle.{none_bad, none_good, none_running, no_places, no_works, none_busy, no_groups}
use Rattle.rb_flow.proofs.tally.Tally.make.Goals as goal

pub returns-clause-is : goal.returns-clause-is
returns-clause-is c =
    let states = c.args.states.items in
    let idle = c.requires.idle in
    let works = c.in_ok-vec.ensures.items_if_clones_equal (λ y h. h) in
    let groups = c.in_ok-vec-2.ensures.items_if_clones_equal (λ y h. h) in
    let many = ap length groups ∙ length-replicate c.args.groups _ in
    record {
      places = c.in_ok-with_capacity.ensures.items ∙ no_places 0 states idle;
      room = omega (arith, c.in_ok-with_capacity.ensures.capacity, c.len.ensures);
      works = works ∙ no_works states 0 c.args.nodes idle;
      busy = none_busy c.args.nodes ∙ ap busy_count (sym works);
      bad = none_bad states idle;
      good = none_good states idle;
      running = none_running states idle;
      groups = groups ∙ no_groups c.args.nodes c.args.groups states idle
          ∙ ap (λ n. groups_of c.args.nodes n states) (sym many);
      size = c.requires.size ∙ ap (λ n. n * c.args.nodes) (sym many);
    }
