-- Flow sequences and maps on one row, from behind the opening sign on.
use Rattle.std.specs.Prelude.{ℕ, zero, suc, Bool, true, false, ◌||◌, ◌&&◌, nat_eq, List, [], ◌∷◌, drop, length, Result, Ok, Err, if◌then◌else◌}
use Rattle.rb_causes.specs.Signs.{double_quote, single_quote, comma, colon, closing_brace}
use Rattle.rb_yaml.specs.declared.flaw.Excluded.TheVariants.{MultiLineFlow}
use Rattle.rb_yaml.specs.declared.flaw.Flaw.{Flaw}
use Rattle.rb_yaml.specs.declared.flaw.Flaw.TheVariants.{OutOfProfile, Form}
use Rattle.rb_yaml.specs.Faults.{◌>>=◌}
use Rattle.rb_yaml.specs.Rows.{past_blanks, begins}
use Rattle.rb_yaml.specs.Signs.{begins_sign, is_clear}
use Rattle.rb_yaml.specs.FlowScalars.{flow_word, flow_scalar}

-- An item of a flow: a scalar, or a key with its scalar. A scalar alone has the empty key.
pub record FlowItem : Type 0 where
  pub key : List ℕ
  pub text : List ℕ
  pub good : Bool
  pub rest : List ℕ

abbrev pub item_with : List ℕ → List ℕ → Bool → List ℕ → FlowItem
item_with key text good rest = record { key = key; text = text; good = good; rest = rest }

-- a value behind a key and its colon; none there is ill, and so is the end of the row
abbrev pub flow_value : ℕ → List ℕ → Bool → List ℕ → Result FlowItem Flaw
flow_value close key good text =
    if is_clear text then Err (OutOfProfile MultiLineFlow)
    else if begins comma (past_blanks text) || begins close (past_blanks text)
    then Ok (item_with key [] false (past_blanks text))
    else flow_scalar false close (past_blanks text)
    >>= λ v. Ok (item_with key v.text (good && v.good) v.rest)

-- the colon of a key that this text begins. Behind a quoted key it needs no blank behind it
abbrev pub is_key_colon : List ℕ → List ℕ → Bool
is_key_colon key text =
    begins_sign colon text
    || (begins colon text && (begins double_quote key || begins single_quote key))

-- a key and its value
abbrev pub flow_pair : ℕ → List ℕ → Result FlowItem Flaw
flow_pair close text =
    flow_scalar true close text >>= λ k.
    if is_key_colon text (past_blanks k.rest)
    then flow_value close k.text k.good (drop 1 (past_blanks k.rest))
    else Ok (item_with k.text [] false k.rest)

abbrev pub flow_item : ℕ → List ℕ → Result FlowItem Flaw
flow_item close text =
    if nat_eq close closing_brace then flow_pair close text
    else flow_scalar false close text >>= λ v. Ok (item_with [] v.text v.good v.rest)

-- What a flow has read: its items as keys and texts, whether all of it has a form, and what follows
-- its closing sign.
pub record FlowRead : Type 0 where
  pub items : List (List ℕ × List ℕ)
  pub good : Bool
  pub rest : List ℕ

abbrev pub FlowReading : Type 0
FlowReading = Result FlowRead Flaw

abbrev pub onto_item : FlowItem → FlowRead → FlowRead
onto_item item read =
    record read { items = (item.key, item.text) ∷ read.items; good = item.good && read.good }

-- a reading that is good only where this is, too
abbrev pub good_if : Bool → FlowReading → FlowReading
good_if good read = read >>= λ r. Ok (record r { good = good && r.good })

-- What stands at a place of a flow: its closing sign, a comma, what may not stand behind an item,
-- or an item; each with what follows it.
pub data FlowTurn : Type 0 where
  closes : List ℕ → FlowTurn
  separates : List ℕ → FlowTurn
  junk : List ℕ → FlowTurn
  item : FlowItem → FlowTurn

-- what stands there, behind an item or not
abbrev pub flow_turn : ℕ → Bool → List ℕ → Result FlowTurn Flaw
flow_turn close after text =
    if is_clear text then Err (OutOfProfile MultiLineFlow)
    else if begins close (past_blanks text) then Ok (closes (drop 1 (past_blanks text)))
    else if begins comma (past_blanks text) then Ok (separates (drop 1 (past_blanks text)))
    else if after
    then Ok (junk (drop (length (flow_word false close (past_blanks text))) (past_blanks text)))
    else flow_item close (past_blanks text) >>= λ i. Ok (item i)

-- the reading behind a turn. A comma that is behind no item spoils it, and so does junk
abbrev pub behind_turn : (Bool → List ℕ → FlowReading) → Bool → FlowTurn → FlowReading
behind_turn read after (closes rest) = Ok (record { items = []; good = true; rest = rest })
behind_turn read after (separates rest) = good_if after (read false rest)
behind_turn read after (junk rest) = good_if false (read true rest)
behind_turn read after (item i) = read true i.rest >>= λ more. Ok (onto_item i more)

-- The items from a place on, behind an item or not. The fuel is more than the bytes that are left,
-- of which each turn takes one at least; the answer without fuel is never given.
unfoldable pub flow_turns : FlowReading → ℕ → ℕ → Bool → List ℕ → FlowReading
flow_turns spent zero close after text = spent
flow_turns spent (suc fuel) close after text =
    flow_turn close after text >>= behind_turn (flow_turns spent fuel close) after

abbrev pub flow_items : ℕ → ℕ → Bool → List ℕ → FlowReading
flow_items = flow_turns (Err Form)
