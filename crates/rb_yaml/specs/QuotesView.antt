-- Quoted texts and keys as the code holds them.
use Rattle.std.specs.Prelude.{option_copied}
use Rattle.rb_yaml.specs.declared.quotes.Quoted as code
use Rattle.rb_yaml.specs.Quotes.{Quoted}

abbrev pub quoted_view : code.Quoted → Quoted
quoted_view q = record { text = q.text; good = q.good; rest = option_copied q.rest }
