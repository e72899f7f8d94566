use Rattle.rb_store_laws.proofs.a_database_holds_what_was_told.Goals as goal

pub returns-clause-stops : goal.returns-clause-stops
returns-clause-stops c = λ count most.
    c.stops_lose_nothing_told.ensures c.args.desk.now.log c.args.desk.now.saved count
    c.log-log.ensures.desk.legal c.log-log.ensures.desk.waiting most
