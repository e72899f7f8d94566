-- What the program does with the words of its command line.
use Rattle.std.specs.Prelude.{
  ◌≡◌,
  ℕ,
  List,
  [],
  ◌∷◌,
  Option,
  Some,
  None,
  bytes_eq,
  codes,
  length,
  take,
  if◌then◌else◌,
}
use Rattle.rb_door.specs.Exchanges.{Moments}
use Rattle.rb_forms.specs.Forms.{DeskTop, IsWithoutDesk, TopSight}
use Rattle.rb_session_top.specs.Sights.{Given}
use Rattle.rb_tools.specs.Printing.{Prints}
use Rattle.rundeskd.specs.declared.own_text.OwnText.{OwnText}
use Rattle.rundeskd.specs.declared.own_text.OwnText.TheVariants.{Help, Version}

-- the text of the program's own that a word asks for
abbrev pub text_asked : List ℕ → Option OwnText
text_asked word =
    if bytes_eq word (codes "--help") then Some Help
    else if bytes_eq word (codes "--version") then Some Version
    else None

-- the text that the words ask for: one of the two words alone
abbrev pub own_text : List (List ℕ) → Option OwnText
own_text [] = None
own_text (word ∷ []) = text_asked word
own_text (word ∷ more ∷ words) = None

-- what the help begins with
abbrev pub help_title : List ℕ
help_title = codes "rundeskd: an operations desk's runbook server\n"

-- The text is this one: the version is known whole, the help by its first line.
abbrev pub IsText : OwnText → List ℕ → Type 0
IsText Help text = take (length help_title) text ≡ help_title
IsText Version text = text ≡ codes "rundeskd 0.1.0\n"

-- One of the program's own texts was printed, or a part of it; nothing but the sink was called.
pub record PrintsOwn (own : OwnText) (old new : TopSight) (status : ℕ) (given : Given)
    : Type 0 where
  pub shelf : new.shelf ≡ old.shelf
  pub spawners : new.spawners ≡ old.spawners
  pub without : IsWithoutDesk old new status given
  pub text : List ℕ
  pub is : IsText own text
  pub prints : Prints text status old.sink new.sink

-- What the words were answered with: a text of the program's own, or what the top call does.
abbrev pub AnswersWords : Option OwnText → Moments → List (List ℕ) → ℕ → TopSight → TopSight → ℕ
    → Given → Type 0
AnswersWords (Some own) may_be words draw old new status given =
    PrintsOwn own old new status given
AnswersWords None may_be words draw old new status given =
    DeskTop may_be words draw old new status given
