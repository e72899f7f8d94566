-- The rules and forms by their names.
use Rattle.std.specs.Prelude.{ℕ, List}
use Rattle.rb_causes.specs.Numbers.{is_decimal}
use Rattle.rb_log.specs.Rows.{is_clean}
use Rattle.rb_manifest.specs.Forms.{EntryForm, TextTest}
use Rattle.rb_manifest.specs.Keys.{any_text, project_form, token_form, zone_form}
use Rattle.rb_manifest.specs.declared.entry_kind.EntryKind.{EntryKind}
use Rattle.rb_manifest.specs.declared.entry_kind.EntryKind.TheVariants.{Tokens, Zones, Projects}
use Rattle.rb_manifest.specs.declared.text_rule.TextRule.{TextRule}
use Rattle.rb_manifest.specs.declared.text_rule.TextRule.TheVariants.{Any, Clean, Decimal}

-- which texts a rule lets stand
abbrev pub test_of : TextRule → TextTest
test_of Any = any_text
test_of Clean = is_clean
test_of Decimal = is_decimal

-- the form of the entries of this kind
abbrev pub form_of : EntryKind → EntryForm
form_of Tokens = token_form
form_of Zones = zone_form
form_of Projects = project_form
