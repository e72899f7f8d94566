use Rattle.std.proofs.Common.{inl, refl, subst}
use Rattle.rb_command.specs.Lines.{memory_line}
use Rattle.rb_command.specs.Told.{Tells}
use Rattle.rb_session.specs.declared.unread.Unread.TheVariants.{NoMemory}
use Rattle.rb_session.proofs.fetching.fetch_all.Goals as goal

pub returns-in_default-clause-told : goal.returns-in_default-clause-told
returns-in_default-clause-told g c = (
  c.args.name.now,
  NoMemory,
  inl (refl, tt),
  record {
    is = c.tell_unread.ensures.is;
    told = subst (λ before. Tells memory_line before (g.O.Sink.shown c.tell_unread.new.out))
        c.in_ok-manifest.ensures.silent c.tell_unread.ensures.told;
  },
)
