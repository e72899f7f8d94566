-- What is the matter with a value of a form as such, whatever stands inside it.
use Rattle.std.specs.Prelude.{ℕ, nat_le, Bool, false, List, Option, Some, None, is_none, if◌then◌else◌}
use Rattle.rb_causes.specs.Texts.{is_empty}
use Rattle.rb_yaml.specs.Tree.{YamlTree}
use Rattle.rb_values.specs.Values.{is_text, text_in, entries_in}
use Rattle.rb_job.specs.Parts.{is_no_value, is_hollow}
use Rattle.rb_remarks.specs.Keys.{any_text}
use Rattle.rb_remarks.specs.declared.form.Form.{Form}
use Rattle.rb_remarks.specs.declared.form.Form.TheVariants as forms
use Rattle.rb_remarks.specs.declared.form.Part.{Part}
use Rattle.rb_remarks.specs.declared.form.Part.TheVariants as parts
use Rattle.rb_remarks.specs.declared.remark.Matter.{Matter}
use Rattle.rb_remarks.specs.declared.remark.Matter.TheVariants.{Unread, PluginValues, NoText, NoTexts, NoList, NoMap, NoMaps, NoAttribute, NoNode, NoItems, ManyItems}

abbrev pub matter_unless : Bool → Matter → Option Matter
matter_unless holds matter = if holds then None else Some matter

-- a text that is no value
abbrev pub is_no_value_in : Option (List ℕ) → Bool
is_no_value_in None = false
is_no_value_in (Some text) = is_no_value text

abbrev pub is_blank : YamlTree → Bool
is_blank value = is_no_value_in (text_in value)

-- an empty text
abbrev pub is_empty_in : Option (List ℕ) → Bool
is_empty_in None = false
is_empty_in (Some text) = is_empty text

abbrev pub is_empty_text : YamlTree → Bool
is_empty_text value = is_empty_in (text_in value)

-- what is the matter with a value of a form as such
abbrev pub shape_matter : Form → YamlTree → Option Matter
shape_matter (forms.Text form) value = matter_unless (is_text value) NoText
shape_matter (forms.Attribute form) value = matter_unless (is_text value) NoAttribute
shape_matter (forms.Texts form) value = matter_unless (is_none (entries_in value)) NoTexts
shape_matter forms.List value = Some NoList
shape_matter (forms.Map part) value = Some NoMap
shape_matter (forms.Maps part least most) value = Some NoMaps
shape_matter forms.Node value = matter_unless (is_empty_text value) NoNode
shape_matter forms.Passed value = None
shape_matter forms.Hollow value = matter_unless (is_hollow value) PluginValues
shape_matter forms.Blank value = matter_unless (is_blank value) Unread
shape_matter forms.Unread value = Some Unread

-- what the items of a sequence have to be, where a value of the form may be one
abbrev pub item_form : Form → Option Form
item_form (forms.Text form) = None
item_form (forms.Attribute form) = None
item_form (forms.Texts form) = Some (forms.Text form)
item_form forms.List = Some (forms.Text any_text)
item_form (forms.Map part) = None
item_form (forms.Maps part least most) = Some (forms.Map part)
item_form forms.Node = None
item_form forms.Passed = None
item_form forms.Hollow = None
item_form forms.Blank = None
item_form forms.Unread = None

-- what a map has to be, where a value of the form may be one
abbrev pub map_part : Form → Option Part
map_part (forms.Text form) = None
map_part (forms.Attribute form) = None
map_part (forms.Texts form) = None
map_part forms.List = None
map_part (forms.Map part) = Some part
map_part (forms.Maps part least most) = None
map_part forms.Node = Some parts.Attributes
map_part forms.Passed = None
map_part forms.Hollow = None
map_part forms.Blank = None
map_part forms.Unread = None

-- what is the matter with so many items of a sequence
abbrev pub count_matter : Form → ℕ → Option Matter
count_matter (forms.Text form) count = None
count_matter (forms.Attribute form) count = None
count_matter (forms.Texts form) count = None
count_matter forms.List count = None
count_matter (forms.Map part) count = None
count_matter (forms.Maps part least most) count =
    if nat_le least count then matter_unless (nat_le count most) ManyItems else Some NoItems
count_matter forms.Node count = None
count_matter forms.Passed count = None
count_matter forms.Hollow count = None
count_matter forms.Blank count = None
count_matter forms.Unread count = None
