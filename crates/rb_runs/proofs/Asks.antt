-- The value of an ask, and its text.
use Rattle.std.proofs.Common.{ℕ, ◌≡◌, ◌∙◌, ◌||◌, List, [], ◌∷◌, map, Bool, false, Option, Some, None, ap, refl}
use Rattle.serde_json.specs.Data.{item}
use Rattle.serde_json.specs.View.{items_of}
use Rattle.serde_json.specs.Written.{has_float, items_have_float}
use Rattle.rb_causes.specs.declared.items.Prop.{Prop}
use Rattle.rb_log.specs.Asks.{pair_data, given_items, instant_or_null, text_or_null, ask_data}
use Rattle.rb_plan.specs.declared.world.RunAsk.{RunAsk}

-- the items of what is given
pub given_is : (given : List Prop) → items_of (map pair_data given) ≡ given_items given
given_is [] = refl
given_is (p ∷ ps) = ap (item (pair_data p)) (given_is ps)

-- no number stands in it that is no whole one
given_floats : (given : List Prop) → items_have_float (given_items given) ≡ false
given_floats [] = refl
given_floats (p ∷ ps) = given_floats ps

filter_floats : (filter : Option (List ℕ)) → has_float (text_or_null filter) ≡ false
filter_floats None = refl
filter_floats (Some text) = refl

due_floats : (due : Option ℕ) → has_float (instant_or_null due) ≡ false
due_floats None = refl
due_floats (Some instant) = refl

pub ask_floats : (ask : RunAsk) (due : Option ℕ) → has_float (ask_data ask due) ≡ false
ask_floats ask due =
    let given : Bool = items_have_float (given_items ask.given) in
    ap (λ b. b || (has_float (text_or_null ask.filter) || (given || false))) (due_floats due)
    ∙ ap (λ b. b || (given || false)) (filter_floats ask.filter)
    ∙ ap (λ b. b || false) (given_floats ask.given)
