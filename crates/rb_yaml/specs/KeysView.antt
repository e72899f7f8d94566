-- Keys as the code holds them.
use Rattle.rb_yaml.specs.declared.keys.KeyPart as code
use Rattle.rb_yaml.specs.Keys.{KeyPart}

abbrev pub key_view : code.KeyPart → KeyPart
key_view part = record { key = part.key; behind = part.behind.now }
