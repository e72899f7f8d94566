-- Small texts, cut and expanded by the definitions.
use Rattle.std.proofs.Common.{refl}
use Rattle.std.specs.Prelude.{◌≡◌, ℕ, List, [], ◌∷◌, codes}
use Rattle.std.specs.Str.{chars}
use Rattle.rb_causes.specs.declared.items.Prop.{Prop}
use Rattle.rb_expand.specs.Expanded.{words_expanded, script_expanded}

abbrev prop : List ℕ → List ℕ → Prop
prop key text = record { key = key; text = text }

abbrev x : List Prop
x = prop (codes "option.x") (codes "1 2") ∷ []

words : words_expanded x (codes "a${option.x}b" ∷ codes "${node.no}" ∷ codes "${other}" ∷ []) ≡ codes "a1 2b" ∷ [] ∷ codes "${other}" ∷ []
unfolding chars lib.Utf8.encode
words = refl

script : script_expanded (prop (codes "option.mode") (codes "soft") ∷ []) (codes "echo @option.mode@") ≡ codes "echo soft"
unfolding chars lib.Utf8.encode
script = refl

-- a sign that opens no replaced name closes none
abbrev a : List Prop
a = prop (codes "option.a") (codes "A") ∷ prop (codes "node.a") (codes "N") ∷ prop (codes "node.b") (codes "B") ∷ []

other_name : script_expanded a (codes "@x@option.a@") ≡ codes "@xA"
unfolding chars lib.Utf8.encode
other_name = refl

-- of two that overlap the left one is replaced
overlap : script_expanded a (codes "@node.a@node.b@") ≡ codes "Nnode.b@"
unfolding chars lib.Utf8.encode
overlap = refl

-- the empty name of a kind is a name; the kind alone is none
kinds : words_expanded a (codes "${option.}" ∷ codes "${option}" ∷ codes "${${option.a}" ∷ codes "${option.a" ∷ codes "$${option.a}}" ∷ [])
    ≡ [] ∷ codes "${option}" ∷ codes "${A" ∷ codes "${option.a" ∷ codes "$A}" ∷ []
unfolding chars lib.Utf8.encode
kinds = refl

-- what is put in is not read again
once : words_expanded (prop (codes "option.x") (codes "${option.x}") ∷ []) (codes "${option.x}" ∷ []) ≡ codes "${option.x}" ∷ []
unfolding chars lib.Utf8.encode
once = refl
