use Rattle.std.proofs.Common.{◌≡◌, true, length, ap, subst, arith}
use Rattle.rb_log.specs.Imports.{has_place_for_file}
use Rattle.rb_imports.proofs.PolicyImports.{in_force}
use Rattle.rb_imports.proofs.policy_imports.policies_effect.Goals as goal

pub returns : goal.returns
returns c past tabled kind place is =
    let there = in_force c.args.tables.now past tabled in
    let held = ap length c.as_slice-held.ensures in record {
      kind = kind;
      place = subst (λ ls. has_place_for_file ls c.args.row.now.name ≡ true)
          tabled.says.files place;
      latest_is = c.in_ok-latest.ensures;
      new = is;
      empty = c.in_ok-room.ensures.items;
      rest_empty = c.in_ok-rest_room.ensures.items;
      memory = omega (
        arith,
        there,
        held,
        c.len.ensures,
        c.args.new.ok.0,
        c.in_ok-room.ensures.capacity,
      );
      rest_memory = omega (arith, there, held, c.in_ok-rest_room.ensures.capacity);
    }
