use Rattle.std.proofs.Common.{◌∙◌, Some, sym, ap}
use Rattle.std.proofs.lemmas.Option.{slice_get-get_or}
use Rattle.rb_causes.proofs.Texts.{text_is}
use Rattle.rb_imports.proofs.job_imports.place_of.Goals as goal

pub returns-then-is_called : goal.returns-then-is_called
returns-then-is_called c = record {
  project = c.index-projects-place.result;
  found = slice_get-get_or c.args.projects.now c.loop-place.place c.index-projects-place.result
      c.loop-place-test.true
      ∙ ap Some (sym c.index-projects-place.is);
  named = text_is c.index-projects-place.result.name c.args.name.now
      (sym c.is_called.ensures ∙ c.if-is_called.true);
}
