use denote.Builtin.{u32}
use denote.Param.Send.{IsSync, sendable}
use Rattle.std.proofs.Common.{◌≡◌, length, rules}
use Rattle.std.proofs.Crossing.{sync}
use Rattle.rb_board_tests.proofs.Roles.{played, same_parts}
use Rattle.rb_crossing.proofs.Boards.{board_sync}
use Rattle.rb_board_tests.proofs.hammering.hammer.Goals as goal

number_sync : IsSync u32
number_sync = search sendable

-- the closure borrows, in this order, the handle, the allocator, the board and the count of turns
pub for_each_mut-requires-sync-F : goal.for_each_mut-requires-sync-F
for_each_mut-requires-sync-F g c κs within =
    let handle = c.type_bounds.sync-R in
    let board = board_sync g.row.K g.K.Keeper c.type_bounds.send-K in
    record {
      shared = λ d place at ν. (
        (
          ((λ q. tt), handle.shared d.0.now d.0.ref_ptr.0 d.0.ref_ptr.1 _),
          (
            ((λ q. tt), sync.shared d.1.now d.1.ref_ptr.0 d.1.ref_ptr.1 ν),
            (
              ((λ q. tt), board.shared d.2.now d.2.ref_ptr.0 d.2.ref_ptr.1 _),
              (((λ q. tt), number_sync.shared d.3.now d.3.ref_ptr.0 d.3.ref_ptr.1 ν), tt),
            ),
          ),
        ),
        λ q. tt,
      );
    }

pub returns-clause-same : goal.returns-clause-same
returns-clause-same g c =
    let len : length c.for_each_mut.new.s ≡ length c.args.roles.now = search rules in
    same_parts c.args.board.now c.args.roles.now c.for_each_mut.new.s len
    (λ k d lt.
    let at = (c.for_each_mut.ensures k d lt).1 in
    played _ _ at.argument.now at.after_call.now at.argument_is at.left at.call)
    c.requires.ready.all
