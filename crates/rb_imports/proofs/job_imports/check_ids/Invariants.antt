use Rattle.std.proofs.Common.{◌≡◌, [], drop, take}
use Rattle.rb_causes.specs.SeenTexts.{HasSeen}
use Rattle.rb_imports.specs.JobImports.{ids_free}
use Rattle.rb_imports.proofs.job_imports.check_ids.Given as goal

-- the ids so far were seen, and those that are left decide
abbrev pub invariant-loop-id : goal.invariant-loop-id
invariant-loop-id l = record {
  seen : HasSeen l.earlier (take l.id-index l.ids);
  rest : ids_free l.projects l.project (take l.id-index l.ids) (drop l.id-index l.ids)
      ≡ ids_free l.projects l.project [] l.ids;
}
