-- The words of `explain`: who asks, where, and about what.
use Rattle.std.specs.Prelude.{ℕ, ◌+◌, Bool, not, ◌&&◌, ◌||◌, nat_eq, nat_lt, List, [], ◌∷◌, length, drop, filter, map, Option, Some, None, bytes_eq, codes, take_while, is_some, unwrap_or, if◌then◌else◌}
use Rattle.std.specs.List.{list_all, list_any, starts_with}
use Rattle.rb_causes.specs.Signs.{comma, equals_sign, line_feed}
use Rattle.rb_causes.specs.Texts.{pieces, is_tags}
use Rattle.rb_causes.specs.declared.items.Prop.{Prop}
use Rattle.rb_acl.specs.Applying.{prop_text}
use Rattle.rb_acl.specs.declared.policy.Caller.{Caller}
use Rattle.rb_acl.specs.declared.policy.Context.{Context}
use Rattle.rb_acl.specs.declared.policy.Context.TheVariants.{Project, Application}
use Rattle.rb_acl.specs.declared.policy.Resource.{Resource}
use Rattle.rb_node.specs.Tags.{tags_in}
use Rattle.rb_command.specs.declared.command.Command.{Command}
use Rattle.rb_command.specs.declared.command.Command.TheVariants.{Explain}

-- ---- who asks

abbrev pub has_byte : ℕ → List ℕ → Bool
has_byte byte word = list_any (λ b. nat_eq b byte) word

-- USER: without a line feed and without a comma
abbrev pub is_user : List ℕ → Bool
is_user word = not (has_byte line_feed word) && not (has_byte comma word)

-- GROUPS: without a line feed
abbrev pub are_groups : List ℕ → Bool
are_groups word = not (has_byte line_feed word)

-- none for `-`, else what stands between the commas, as it stands
abbrev pub groups_in_word : List ℕ → List (List ℕ)
groups_in_word word =
    if bytes_eq word (codes "-") then [] else pieces (λ b. nat_eq b comma) word

abbrev pub caller_of : List ℕ → List ℕ → Caller
caller_of user groups = record { user = user; groups = groups_in_word groups }

-- ---- where

abbrev pub is_application : List ℕ → Bool
is_application word = bytes_eq word (codes "application")

-- what the word of a project begins with
abbrev pub project_mark : List ℕ
project_mark = codes "project:"

-- the NAME of `project:NAME`
abbrev pub project_in : List ℕ → Option (List ℕ)
project_in word =
    if starts_with nat_eq word project_mark then Some (drop (length project_mark) word) else None

-- CONTEXT: `application` or `project:NAME`
abbrev pub is_context : List ℕ → Bool
is_context word = is_application word || is_some (project_in word)

abbrev pub context_of : List ℕ → Context
context_of word =
    if is_application word then Application else Project (unwrap_or (project_in word) [])

-- ---- about what

-- KEY: what stands before the first equals sign
abbrev pub key_of : List ℕ → List ℕ
key_of word = take_while (λ b. not (nat_eq b equals_sign)) word

-- TEXT: what stands behind it
abbrev pub prop_in_word : List ℕ → Prop
prop_in_word word = record { key = key_of word; text = drop (length (key_of word) + 1) word }

-- KEY=TEXT: an equals sign stands behind a key that is not empty
abbrev pub is_pair : List ℕ → Bool
is_pair word = nat_lt 0 (length (key_of word)) && nat_lt (length (key_of word)) (length word)

-- the tags are those of the text under `tags`, read as that of a node is
abbrev pub resource_of : List ℕ → List Prop → Resource
resource_of type_name props = record {
  type_name = type_name;
  props = filter (λ p. not (is_tags p.key)) props;
  tags = tags_in (prop_text props (codes "tags"));
}

-- ---- all of it

-- whether they are of this form
abbrev pub are_explained : (user groups here : List ℕ) → List (List ℕ) → Bool
are_explained user groups here pairs =
    is_user user && are_groups groups && is_context here && list_all is_pair pairs

-- FILE USER GROUPS CONTEXT TYPE ACTION KEY=TEXT ..
abbrev pub explain_of : List (List ℕ) → Option Command
explain_of [] = None
explain_of (file ∷ []) = None
explain_of (file ∷ user ∷ []) = None
explain_of (file ∷ user ∷ groups ∷ []) = None
explain_of (file ∷ user ∷ groups ∷ here ∷ []) = None
explain_of (file ∷ user ∷ groups ∷ here ∷ type_name ∷ []) = None
explain_of (file ∷ user ∷ groups ∷ here ∷ type_name ∷ action ∷ pairs) =
    if are_explained user groups here pairs
    then Some (Explain file (caller_of user groups) (context_of here)
    (resource_of type_name (map prop_in_word pairs)) action)
    else None
