-- Signs in the text of one row: comments, items, colons, and how a plain text may begin.
use Rattle.std.specs.Prelude.{ℕ, suc, Bool, true, false, ◌||◌, ◌&&◌, nat_eq, nat_lt, List, [], ◌∷◌, reverse, take, length, Option, Some, None, option_map, if◌then◌else◌}
use Rattle.std.specs.Option.{option_or}
use Rattle.rb_causes.specs.Signs.{tab, space, exclamation_mark, hash, percent, ampersand, asterisk, comma, hyphen, colon, greater_than, question_mark, at_sign, closing_bracket, backquote, closing_brace}
use Rattle.rb_causes.specs.Texts.{is_blank}
use Rattle.rb_yaml.specs.declared.flaw.Excluded.TheVariants.{Anchor, Alias, Tag, FoldedScalar, ComplexKey}
use Rattle.rb_yaml.specs.declared.flaw.Flaw.{Flaw}
use Rattle.rb_yaml.specs.declared.flaw.Flaw.TheVariants.{OutOfProfile, Form}
use Rattle.rb_yaml.specs.Rows.{past_blanks, begins}

-- the text is at its end, or goes on with a blank
abbrev pub ends_sign : List ℕ → Bool
ends_sign [] = true
ends_sign (b ∷ bs) = is_blank b

-- the byte as a sign: a blank or the end follows
abbrev pub begins_sign : ℕ → List ℕ → Bool
begins_sign c [] = false
begins_sign c (b ∷ bs) = nat_eq b c && ends_sign bs

abbrev pub begins_item : List ℕ → Bool
begins_item text = begins_sign hyphen text

-- the end, or a comment
abbrev pub is_nothing : List ℕ → Bool
is_nothing [] = true
is_nothing (b ∷ bs) = nat_eq b hash

-- nothing but blanks and a comment behind them
abbrev pub is_clear : List ℕ → Bool
is_clear [] = true
is_clear (b ∷ bs) = is_blank b && is_nothing (past_blanks (b ∷ bs))

-- a tab stands among the blanks that the text begins with
abbrev pub tab_leads : List ℕ → Bool
tab_leads [] = false
tab_leads (b ∷ bs) = nat_eq b tab || nat_eq b space && tab_leads bs

-- how many bytes stand before the comment; is a blank before the text?
abbrev pub comment_at : Bool → List ℕ → ℕ
comment_at blank [] = 0
comment_at blank (b ∷ bs) =
    if blank && nat_eq b hash then 0 else suc (comment_at (is_blank b) bs)

abbrev pub has_comment : List ℕ → Bool
has_comment text = nat_lt (comment_at false text) (length text)

-- a text without the blanks at its end
abbrev pub without_end : List ℕ → List ℕ
without_end text = reverse (past_blanks (reverse text))

-- the text before a comment
abbrev pub plain_part : List ℕ → List ℕ
plain_part text = without_end (take (comment_at false text) text)

-- the sign of a key stands somewhere in the text
abbrev pub has_colon : List ℕ → Bool
has_colon [] = false
has_colon (b ∷ bs) = begins_sign colon (b ∷ bs) || has_colon bs

-- the place of the first sign of a key before a comment
abbrev pub colon_at : Bool → List ℕ → Option ℕ
colon_at blank [] = None
colon_at blank (b ∷ bs) =
    if blank && nat_eq b hash then None
    else if begins_sign colon (b ∷ bs) then Some 0
    else option_map suc (colon_at (is_blank b) bs)

abbrev pub excluded_start : List ℕ → Option Flaw
excluded_start text =
    if begins ampersand text then Some (OutOfProfile Anchor)
    else if begins asterisk text then Some (OutOfProfile Alias)
    else if begins exclamation_mark text then Some (OutOfProfile Tag)
    else if begins greater_than text then Some (OutOfProfile FoldedScalar)
    else if begins_sign question_mark text then Some (OutOfProfile ComplexKey)
    else None

-- no plain text begins so, whatever follows
abbrev pub begins_reserved : List ℕ → Bool
begins_reserved text =
    ((begins percent text || begins at_sign text) || (begins backquote text || begins comma text))
    || (begins closing_bracket text || begins closing_brace text)

-- a plain text with this beginning has no form
abbrev pub is_ill_start : List ℕ → Bool
is_ill_start text = begins_reserved text || (begins_sign colon text || begins_sign hyphen text)

-- what is wrong with the beginning of a plain text
abbrev pub start_flaw : List ℕ → Option Flaw
start_flaw text = option_or (excluded_start text) (if is_ill_start text then Some Form else None)
