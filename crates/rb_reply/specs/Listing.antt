-- Lists and texts as JSON values.
use Rattle.std.specs.Prelude.{ℕ, List, [], ◌∷◌, map}
use Rattle.serde_json.specs.Data as json
use Rattle.serde_json.specs.View.{items_of}
use Rattle.rb_causes.specs.declared.items.Prop.{Prop}

abbrev pub list_data : {A : Type 0} → (A → json.Data) → List A → json.Data
list_data item_data items = json.array (items_of (map item_data items))

abbrev pub text_data : List ℕ → json.Data
text_data text = json.string text

-- the members, with these texts under their keys, one after another
abbrev pub put_texts : List Prop → json.Members → json.Members
put_texts [] members = members
put_texts (p ∷ ps) members = put_texts ps (json.put p.key (json.string p.text) members)

-- texts under their keys
abbrev pub texts_data : List Prop → json.Data
texts_data props = json.object (put_texts props json.no_members)
