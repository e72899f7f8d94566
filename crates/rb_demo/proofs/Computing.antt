-- What has to be unfolded so that the definitions of the readers compute on written texts.
use Rattle.std.specs.Prelude.{⊤}
use Rattle.std.specs.Str.{chars, is_utf8}
use Rattle.std.specs.Fmt.{digits}
use lib.Utf8.{encode}
use Rattle.regex.proofs.OnLiterals.{regex_on_literals}
use Rattle.rb_yaml.specs.Flow.{flow_turns}
use Rattle.rb_yaml.specs.Documents.{levels}

unfoldable pub computing : ⊤
unfolding digits chars is_utf8 encode levels flow_turns regex_on_literals
computing = tt
