-- The parts of a list of rows as the code holds them.
use Rattle.std.specs.Prelude.{List}
use Rattle.rb_yaml.specs.declared.parts.BlockPart as code
use Rattle.rb_yaml.specs.Rows.{Row}

abbrev pub part_view : code.BlockPart → Row × List Row
part_view part = (part.first, part.body.now)
