use Rattle.std.specs.declared.alloc.Global.{Global}
use Rattle.std.proofs.Common.{◌≡◌, ◌∙◌, ◌<◌, ℕ, List, map, length, get_or, Vec, slice_set, ap, refl, arith, rules}
use Rattle.std.proofs.lemmas.Option.{slice_get_read}
use Rattle.rb_log.specs.Executions.{Execution as LoggedExecution}
use Rattle.rb_tables.specs.Tables.{AreEntries, IsEntry, execution_of, withdrawn_of}
use Rattle.rb_tables.specs.declared.execution.Execution.{Execution}
use Rattle.rb_tables.specs.declared.execution.WithdrawnNode.{WithdrawnNode}
use Rattle.rb_tables.proofs.Entries.{entries_anew}
use Rattle.rb_tables.proofs.Lists.{set_there}
use Rattle.rb_changes.proofs.room.reserve_withdrawn.Goals as goal

-- with other memory for the same nodes it is the same
same_entry : (x : Execution) (w : Vec WithdrawnNode Global) (l : LoggedExecution)
    → w.items ≡ x.withdrawn.items → IsEntry x l → IsEntry (record x { withdrawn = w }) l
same_entry x w l is h = record {
  is = record {
    same = ap (λ ws. record (execution_of x l) { withdrawn = map withdrawn_of ws }) is
        ∙ h.is.same;
    names = h.is.names;
    progress = h.is.progress;
  };
  over = h.over;
}

same_all : (all : List Execution) (k : ℕ) (x : Execution) (w : Vec WithdrawnNode Global)
    → k < length all → x ≡ get_or all k x → w.items ≡ x.withdrawn.items
    → (ls : List LoggedExecution) → AreEntries all ls
    → AreEntries (slice_set all k (record x { withdrawn = w })) ls
same_all all k x w low read is ls are =
    entries_anew all ls are k x (record x { withdrawn = w })
    (slice_get_read all (length all) k x refl low read) (λ l h. same_entry x w l is h)

pub returns-in_err-reserve-clause-same : goal.returns-in_err-reserve-clause-same
returns-in_err-reserve-clause-same c =
    same_all c.args.executions.now.items c.args.place c.index_mut.result.now c.reserve.new.self
    c.requires c.index_mut.ensures.value c.reserve.ensures.items

pub returns-clause-same : goal.returns-clause-same
returns-clause-same c =
    same_all c.args.executions.now.items c.args.place c.index_mut.result.now c.reserve.new.self
    c.requires c.index_mut.ensures.value c.reserve.ensures.items

pub returns-clause-room : goal.returns-clause-room
returns-clause-room c = record {
  execution = record c.index_mut.result.now { withdrawn = c.reserve.new.self };
  found = set_there c.args.executions.now.items c.args.place
      (record c.index_mut.result.now { withdrawn = c.reserve.new.self }) c.requires;
  room = first_of (omega (arith, c.in_ok-reserve.ensures.ok, c.in_ok-reserve.ensures.len), search rules);
}
