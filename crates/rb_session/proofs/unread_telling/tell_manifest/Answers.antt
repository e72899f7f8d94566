use Rattle.rb_session.proofs.unread_telling.tell_manifest.Goals as goal

pub returns-in-OutOfProfile : goal.returns-in-OutOfProfile
returns-in-OutOfProfile g c =
    rw (c.in-OutOfProfile.is, ← c.as_str.ensures)
    c.tell_kind_of.ensures

pub returns-in-BadShape : goal.returns-in-BadShape
returns-in-BadShape g c =
    rw (c.in-BadShape.is, ← c.as_str-in-BadShape.ensures) c.tell_kind_of-in-BadShape.ensures
