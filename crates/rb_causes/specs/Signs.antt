-- The signs of ASCII by name: the bytes, and the characters, that formats speak of.
use Rattle.std.specs.Prelude.{ℕ}

-- \t
abbrev pub tab : ℕ
tab = 9

-- \n
abbrev pub line_feed : ℕ
line_feed = 10

-- \r
abbrev pub carriage_return : ℕ
carriage_return = 13

-- a blank
abbrev pub space : ℕ
space = 32

-- !
abbrev pub exclamation_mark : ℕ
exclamation_mark = 33

-- "
abbrev pub double_quote : ℕ
double_quote = 34

-- #
abbrev pub hash : ℕ
hash = 35

-- $
abbrev pub dollar : ℕ
dollar = 36

-- %
abbrev pub percent : ℕ
percent = 37

-- &
abbrev pub ampersand : ℕ
ampersand = 38

-- '
abbrev pub single_quote : ℕ
single_quote = 39

-- )
abbrev pub closing_parenthesis : ℕ
closing_parenthesis = 41

-- *
abbrev pub asterisk : ℕ
asterisk = 42

-- +
abbrev pub plus : ℕ
plus = 43

-- ,
abbrev pub comma : ℕ
comma = 44

-- -
abbrev pub hyphen : ℕ
hyphen = 45

-- .
abbrev pub full_stop : ℕ
full_stop = 46

-- /
abbrev pub slash : ℕ
slash = 47

-- 0
abbrev pub digit_zero : ℕ
digit_zero = 48

-- 9
abbrev pub digit_nine : ℕ
digit_nine = 57

-- :
abbrev pub colon : ℕ
colon = 58

-- <
abbrev pub less_than : ℕ
less_than = 60

-- =
abbrev pub equals_sign : ℕ
equals_sign = 61

-- >
abbrev pub greater_than : ℕ
greater_than = 62

-- ?
abbrev pub question_mark : ℕ
question_mark = 63

-- @
abbrev pub at_sign : ℕ
at_sign = 64

-- A
abbrev pub capital_a : ℕ
capital_a = 65

-- Z
abbrev pub capital_z : ℕ
capital_z = 90

-- [
abbrev pub opening_bracket : ℕ
opening_bracket = 91

-- \
abbrev pub backslash : ℕ
backslash = 92

-- ]
abbrev pub closing_bracket : ℕ
closing_bracket = 93

-- _
abbrev pub underscore : ℕ
underscore = 95

-- `
abbrev pub backquote : ℕ
backquote = 96

-- a
abbrev pub small_a : ℕ
small_a = 97

-- z
abbrev pub small_z : ℕ
small_z = 122

-- {
abbrev pub opening_brace : ℕ
opening_brace = 123

-- |
abbrev pub vertical_bar : ℕ
vertical_bar = 124

-- }
abbrev pub closing_brace : ℕ
closing_brace = 125
