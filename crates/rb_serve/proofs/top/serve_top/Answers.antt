use Rattle.std.proofs.Common.{◌∙◌, ap, option_map, refl, subst, sym}
use Rattle.rb_serve.specs.Words.{crew_words_of}
use Rattle.rb_serve.proofs.Bounds.{enough_bounded, is_crew}
use Rattle.rb_serve.proofs.Roles.{none_fell}
use Rattle.rb_serve.proofs.Statuses.{shelf_rose, unread_not_five, unread_not_six, unread_not_two, unread_status}
use Rattle.rb_serve.proofs.Reaching.{reached}
use Rattle.rb_serve.specs.Crews.{NoForm, OpensOrNot, Unfetched}
use Rattle.rb_serve.specs.Roles.{senses_of}
use Rattle.rb_serve.proofs.top.serve_top.Goals as goal

pub returns-in_default-clause-lines : goal.returns-in_default-clause-lines
returns-in_default-clause-lines g c = none_fell g.L.Line.faults c.args.lines.now.items

pub returns-in_default-clause-spawners : goal.returns-in_default-clause-spawners
returns-in_default-clause-spawners g c =
    none_fell (λ s. (g.S.Spawner.shown s).faults) c.args.spawners.now.items

pub returns-in-Err-clause-words : goal.returns-in-Err-clause-words
returns-in-Err-clause-words g c =
    let told = c.in-Err.ensures.told in
    let crew = sym c.crew_in.ensures
    ∙ ap (λ o. option_map (λ crew. crew_words_of crew.manifest.now
    (option_map (λ file. file.now) crew.store) crew.workers crew.callers crew.addresses.now) o)
    c.in-Some.is in (
      λ two. absurd (unread_not_two told.0 c.in-Err.status _ _ told.1 told.3 two),
      λ none. absurd (is_crew c.args.words.now _ crew none),
    )

pub returns-in-Err-clause-status : goal.returns-in-Err-clause-status
returns-in-Err-clause-status g c =
    let told = c.in-Err.ensures.told in
    unread_status told.0 c.in-Err.status _ _ told.1 told.3

pub returns-in-Err-clause-line : goal.returns-in-Err-clause-line
returns-in-Err-clause-line g c = λ five.
    let told = c.in-Err.ensures.told in
    absurd (unread_not_five told.0 c.in-Err.status _ _ told.1 told.3 five)

pub returns-in-Err-clause-lines : goal.returns-in-Err-clause-lines
returns-in-Err-clause-lines g c = none_fell g.L.Line.faults c.args.lines.now.items

pub returns-in-Err-clause-spawners : goal.returns-in-Err-clause-spawners
returns-in-Err-clause-spawners g c =
    none_fell (λ s. (g.S.Spawner.shown s).faults) c.args.spawners.now.items

pub serve_opened-requires-clause-lines : goal.serve_opened-requires-clause-lines
serve_opened-requires-clause-lines g c κs within =
    let crew = sym c.crew_in.ensures
    ∙ ap (λ o. option_map (λ crew. crew_words_of crew.manifest.now
    (option_map (λ file. file.now) crew.store) crew.workers crew.callers crew.addresses.now) o)
    c.in-Some.is in
    (enough_bounded c.args.words.now _ c.args.lines.now.items c.args.spawners.now.items crew
    c.requires.enough).0

pub serve_opened-requires-clause-spawners : goal.serve_opened-requires-clause-spawners
serve_opened-requires-clause-spawners g c κs within =
    let crew = sym c.crew_in.ensures
    ∙ ap (λ o. option_map (λ crew. crew_words_of crew.manifest.now
    (option_map (λ file. file.now) crew.store) crew.workers crew.callers crew.addresses.now) o)
    c.in-Some.is in
    (enough_bounded c.args.words.now _ c.args.lines.now.items c.args.spawners.now.items crew
    c.requires.enough).1

pub returns-clause-words : goal.returns-clause-words
returns-clause-words g c =
    let crew = sym c.crew_in.ensures
    ∙ ap (λ o. option_map (λ crew. crew_words_of crew.manifest.now
    (option_map (λ file. file.now) crew.store) crew.workers crew.callers crew.addresses.now) o)
    c.in-Some.is in (
      λ two. absurd (c.serve_opened.ensures.form two),
      λ none. absurd (is_crew c.args.words.now _ crew none),
    )

pub returns-in_default-clause-happened : goal.returns-in_default-clause-happened
returns-in_default-clause-happened g c = (
  NoForm,
  (
    sym c.crew_in.ensures
        ∙ ap (λ o. option_map (λ crew. crew_words_of crew.manifest.now
        (option_map (λ file. file.now) crew.store) crew.workers crew.callers crew.addresses.now) o)
        c.in_default.is,
    record {
      keeper = c.args.keeper;
      given_is = refl;
      uncalled = record { lines_stand = refl; spawners_stand = refl };
    },
    refl,
    record { is = refl; told = c.tell_usage.ensures },
  ),
)

pub returns-in-Err-clause-happened : goal.returns-in-Err-clause-happened
returns-in-Err-clause-happened g c =
    let crew = sym c.crew_in.ensures
    ∙ ap (λ o. option_map (λ crew. crew_words_of crew.manifest.now
    (option_map (λ file. file.now) crew.store) crew.workers crew.callers crew.addresses.now) o)
    c.in-Some.is in
    let told = c.in-Err.ensures.told in (
      Unfetched told.0 told.1,
      (
        (_, crew, told.2),
        record {
          keeper = c.args.keeper;
          given_is = refl;
          uncalled = record { lines_stand = refl; spawners_stand = refl };
        },
        told.3,
      ),
    )

pub returns-clause-happened : goal.returns-clause-happened
returns-clause-happened g c =
    let crew = sym c.crew_in.ensures
    ∙ ap (λ o. option_map (λ crew. crew_words_of crew.manifest.now
    (option_map (λ file. file.now) crew.store) crew.workers crew.callers crew.addresses.now) o)
    c.in-Some.is in
    reached _ _ (g.C.Clock.may_be c.args.clock.now) _ _ _ c.args.words.now c.args.draw
    c.args.keeper c.serve_opened.result.1 _ _ c.serve_opened.result.0 c.in-Ok.had.0
    c.in-Ok.had.1.items (_, crew, c.in-Ok.ensures.had)
    (subst (λ before. OpensOrNot g.K.Keeper.rows g.K.Keeper.faults
    (senses_of (g.C.Clock.may_be c.args.clock.now) c.in-Ok.had.0.tokens g.L.Line.callers
    g.L.Line.faults g.S.Spawner.shown) c.in-Ok.had.0.owner c.in-Ok.had.1.items c.args.draw
    c.args.keeper c.serve_opened.result.1 c.args.lines.now.items c.serve_opened.new.lines.items
    c.args.spawners.now.items c.serve_opened.new.spawners.items c.serve_opened.result.0 before
    (g.O.Sink.shown c.serve_opened.new.out)) c.in-Ok.ensures.silent
    c.serve_opened.ensures.happened)

pub returns-in-Err-clause-shelf_fault : goal.returns-in-Err-clause-shelf_fault
returns-in-Err-clause-shelf_fault g c = λ four.
    let told = c.in-Err.ensures.told in
    shelf_rose _ _ _ told.0 c.in-Err.status _ _ told.1 told.2 told.3 four

pub returns-in-Err-clause-store : goal.returns-in-Err-clause-store
returns-in-Err-clause-store g c = λ six.
    let told = c.in-Err.ensures.told in
    absurd (unread_not_six told.0 c.in-Err.status _ _ told.1 told.3 six)
