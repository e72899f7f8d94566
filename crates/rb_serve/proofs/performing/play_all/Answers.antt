use denote.Param.Send.{IsSync, array_sync, sendable}
use Rattle.std.proofs.Common.{◌≡◌, length, rules, subst, sym}
use Rattle.std.proofs.Crossing.{crosses, sync}
use Rattle.std.specs.contracts.time.Duration as Duration
use Rattle.rb_api.specs.contracts.token.Token as Token
use Rattle.rb_crossing.proofs.Boards.{board_sync}
use Rattle.rb_serve.specs.Roles.{CanPlay, IsOf, senses_of}
use Rattle.rb_serve.proofs.Roles.{all_played, played_at}
use Rattle.rb_serve.proofs.performing.play_all.Goals as goal

token_sync : IsSync Token.the_row
token_sync = search (crosses, sendable) depth 60 fits 20000

rest_sync : IsSync Duration.the_row
rest_sync = search sendable depth 20

-- the closure borrows, in this order, the handle, the allocator, the board, the clock, the tokens
-- and the rest between two pumps
pub for_each_mut-requires-sync-F : goal.for_each_mut-requires-sync-F
for_each_mut-requires-sync-F g c κs within =
    let handle = c.type_bounds.sync-R in
    let board = board_sync g.row.K g.K.Keeper c.type_bounds.send-K in
    let clock = c.type_bounds.sync-T in
    let tokens = array_sync Token.the_row 0 token_sync in
    record {
      shared = λ d place at ν. (
        (
          ((λ q. tt), handle.shared d.0.now d.0.ref_ptr.0 d.0.ref_ptr.1 _),
          (
            ((λ q. tt), sync.shared d.1.now d.1.ref_ptr.0 d.1.ref_ptr.1 ν),
            (
              ((λ q. tt), board.shared d.2.now d.2.ref_ptr.0 d.2.ref_ptr.1 _),
              (
                ((λ q. tt), clock.shared d.3.now d.3.ref_ptr.0 d.3.ref_ptr.1 _),
                (
                  (
                    (λ q. (tt, (tt, tt))),
                    (tokens.shared d.4.now d.4.ref_ptr.0 d.4.ref_ptr.1 _).1,
                  ),
                  (((λ q. tt), rest_sync.shared d.5.now d.5.ref_ptr.0 d.5.ref_ptr.1 ν), tt),
                ),
              ),
            ),
          ),
        ),
        λ q. tt,
      );
    }

pub for_each_mut-requires-clause-accepts : goal.for_each_mut-requires-clause-accepts
for_each_mut-requires-clause-accepts g c κs within = λ i p lt is. (
  c.requires.tokens,
  subst (IsOf c.args.board.now.id) (sym is) (c.requires.boards i p.now lt),
  subst CanPlay (sym is) (c.requires.parts i p.now lt),
)

pub returns : goal.returns
returns g c =
    let len : length c.for_each_mut.new.s ≡ length c.args.roles.now = search rules in
    let senses = senses_of (g.T.Clock.may_be c.args.clock.now) c.args.tokens.now
    g.L.Line.callers g.L.Line.faults g.S.Spawner.shown in
    all_played senses c.args.roles.now c.for_each_mut.new.s len
    (λ k d lt.
    let at = (c.for_each_mut.ensures k d lt).1 in
    played_at senses _ _ at.argument.now at.after_call.now at.argument_is at.left at.call)
