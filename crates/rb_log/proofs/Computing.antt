-- What has to be unfolded so that the definitions compute on written logs.
use Rattle.std.specs.Prelude.{⊤}
use Rattle.std.specs.Str.{chars, is_utf8}
use Rattle.std.specs.Fmt.{digits}
use lib.Utf8.{encode}
use Rattle.json.proofs.OnLiterals.{json_on_literals}
use Rattle.rb_yaml.specs.Documents.{levels}
use Rattle.rb_inventory.specs.Inventories.{most_nodes}
use Rattle.rb_log.specs.LogState.{most_counted}
use Rattle.rb_log.specs.Imports.{most_files}

unfoldable pub computing : ⊤
unfolding digits chars is_utf8 encode json_on_literals levels most_nodes most_counted most_files
computing = tt
