use Rattle.std.proofs.Common.{◌≡◌, ◌∙◌, ◌≤◌, ◌+◌, ◌++◌, ℕ, List, [], Bool, filter, length, length-append, ap, arith}
use Rattle.rb_acl.specs.declared.policy.Policy.{Policy}
use Rattle.rb_changes.specs.PolicyFiles.{is_of_earlier_file, is_behind}
use Rattle.rb_changes.proofs.Parting.{filter_few, parted_few}
use Rattle.rb_changes.proofs.policy_files.put_file.Goals as goal

moved : (room kept docs : List Policy) (p : Policy → Bool) → kept ≡ room ++ filter p docs
    → room ≡ [] → length kept ≤ length docs
moved room kept docs p h empty =
    omega (arith, ap length (h ∙ ap (λ xs. xs ++ filter p docs) empty), filter_few p docs)

both_moved : (file : List ℕ) (room rest before behind docs : List Policy)
    → before ≡ room ++ filter (is_of_earlier_file file) docs → room ≡ []
    → behind ≡ rest ++ filter (is_behind file) docs → rest ≡ []
    → length before + length behind ≤ length docs
both_moved file room rest before behind docs h empty k rest_empty =
    omega (
      arith,
      ap length (h ∙ ap (λ xs. xs ++ filter (is_of_earlier_file file) docs) empty),
      ap length (k ∙ ap (λ xs. xs ++ filter (is_behind file) docs) rest_empty),
      parted_few file docs,
    )

pub move_behind-requires-2 : goal.move_behind-requires-2
move_behind-requires-2 c =
    let docs : List Policy = c.into_vec-docs.result.items in
    let few = both_moved c.args.file.now c.args.room.items c.args.rest.items
    c.part.new.before.items c.part.new.behind.items docs c.part.ensures.before c.requires.empty
    c.part.ensures.behind c.requires.rest_empty in
    record {
      memory = omega (
        arith,
        few,
        c.move_behind.new.room.ok.0,
        c.part.new.behind.ok.0,
        c.args.new.ok.0,
        ap length c.move_behind.ensures.held,
        length-append c.part.new.before.items c.args.new.items,
        c.move_behind.ensures.memory,
        c.part.ensures.before_memory,
        ap length c.into_vec-docs.ensures,
        ap length c.replace.ensures.value,
        c.requires.memory,
      );
    }

pub move_behind-requires : goal.move_behind-requires
move_behind-requires c =
    let docs : List Policy = c.into_vec-docs.result.items in
    let few = moved c.args.room.items c.part.new.before.items docs (is_of_earlier_file c.args.file.now)
    c.part.ensures.before c.requires.empty in
    record {
      memory = omega (
        arith,
        few,
        c.part.new.before.ok.0,
        c.part.ensures.before_memory,
        ap length c.into_vec-docs.ensures,
        ap length c.replace.ensures.value,
        c.requires.memory,
      );
    }
