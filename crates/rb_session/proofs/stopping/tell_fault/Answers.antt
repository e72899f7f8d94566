use Rattle.rb_session.proofs.stopping.tell_fault.Goals as goal

pub returns-in-TooManyFiles : goal.returns-in-TooManyFiles
returns-in-TooManyFiles g c = rw (c.in-TooManyFiles.is) c.tell_kind-in-TooManyFiles.ensures

pub returns-in-NameTaken : goal.returns-in-NameTaken
returns-in-NameTaken g c =
    rw (c.in-NameTaken.is, ← c.as_str-in-NameTaken.ensures) c.tell_kind_of-in-NameTaken.ensures
