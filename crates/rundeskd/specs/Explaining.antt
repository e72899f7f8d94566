-- What there is to say beside a fault line.
use Rattle.std.specs.Prelude.{ℕ, Bool, nat_eq, List, [], ◌∷◌, Option, Some, None, option_map, bytes_eq, codes, if◌then◌else◌}
use Rattle.std.specs.List.{list_any, starts_with}
use Rattle.rb_command.specs.declared.status.TheConstants.{DONE, NO_FORM, REFUSED}
use Rattle.rb_session.specs.declared.status.TheConstants.{BAD_STORE, STORE_FULL}
use Rattle.rb_tools.specs.Nodes.{is_no_map, file_nodes}
use Rattle.rb_top.specs.Broken.{broken_line, broken_rule_text}
use Rattle.rb_remarks.specs.declared.documents.FileKind.{FileKind}
use Rattle.rb_remarks.specs.declared.documents.FileKind.TheVariants.{Jobs, Nodes, Policy}
use Rattle.rundeskd.specs.declared.explaining.Remark.{Remark}
use Rattle.rundeskd.specs.declared.explaining.Remark.TheVariants.{SeeHelp, BrokenRule, NoMap, RowsBefore, NewStore}

-- the word has the form of an option
abbrev pub is_option : List ℕ → Bool
is_option word = starts_with nat_eq word (codes "--")

-- one of the words has the form of an option
abbrev pub has_option_word : List (List ℕ) → Bool
has_option_word words = list_any is_option words

-- no file is at hand: a word may have been meant as an option
abbrev pub of_names : List (List ℕ) → Option Remark
of_names words = if has_option_word words then Some SeeHelp else None

-- which rule a drill file breaks first
abbrev pub of_drill : List ℕ → Option Remark
of_drill bytes = option_map BrokenRule (broken_line bytes)

-- a document of a resource file is no map of node names
abbrev pub of_nodes : List ℕ → Option Remark
of_nodes bytes = if is_no_map (file_nodes bytes) then Some NoMap else None

-- what is wrong with a file that is checked, by the kind that is asked for
abbrev pub of_check : List (List ℕ) → List ℕ → Option Remark
of_check [] bytes = None
of_check (kind ∷ words) bytes = if bytes_eq kind (codes "nodes") then of_nodes bytes else None

-- what is wrong with the file that was fetched, by the form of the words
abbrev pub of_file : List (List ℕ) → List ℕ → Option Remark
of_file [] bytes = None
of_file (form ∷ words) bytes =
    if bytes_eq form (codes "drill") then of_drill bytes
    else if bytes_eq form (codes "check") then of_check words bytes
    else None

-- what is wrong with a word, or with the file that was fetched
abbrev pub of_refused : List (List ℕ) → Option (List ℕ) → Option Remark
of_refused words None = of_names words
of_refused words (Some bytes) = of_file words bytes

-- what a store that was read, and not opened, leaves to be done
abbrev pub of_store : ℕ → Option Remark
of_store status =
    if nat_eq status BAD_STORE then Some RowsBefore
    else if nat_eq status STORE_FULL then Some NewStore
    else None

-- what explains the status of the words
abbrev pub remark_on : ℕ → List (List ℕ) → Option (List ℕ) → Option Remark
remark_on status words file =
    if nat_eq status NO_FORM then Some SeeHelp
    else if nat_eq status REFUSED then of_refused words file
    else of_store status

-- the line that says it
abbrev pub reason : Remark → List ℕ
reason SeeHelp = codes "see rundeskd --help"
reason (BrokenRule broken) = broken_rule_text broken.rule
reason NoMap = codes "a resource document is a map of node names"
reason RowsBefore = codes "the rows before that one are a log by themselves; see docs/OPERATING.md"
reason NewStore = codes "the log has its greatest size; a new file as STORE begins another one"

-- what the line ends with
abbrev pub ending : Remark → List ℕ
ending SeeHelp = []
ending (BrokenRule broken) =
    if broken.has_return
    then codes "; the line holds a carriage return, as files with CR LF line ends do"
    else []
ending NoMap = []
ending RowsBefore = []
ending NewStore = []

-- ---- the lines that are told of a file that was checked

abbrev pub kind_of : List ℕ → Option FileKind
kind_of word =
    if bytes_eq word (codes "jobs") then Some Jobs
    else if bytes_eq word (codes "nodes") then Some Nodes
    else if bytes_eq word (codes "policy") then Some Policy
    else None

abbrev pub kind_behind : List (List ℕ) → Option FileKind
kind_behind [] = None
kind_behind (kind ∷ words) = kind_of kind

-- what the words ask to check a file as
abbrev pub kind_in : List (List ℕ) → Option FileKind
kind_in [] = None
kind_in (form ∷ words) = if bytes_eq form (codes "check") then kind_behind words else None

-- what there may be notes on where the file was read: jobs alone
abbrev pub noted_kind : Option FileKind → Option FileKind
noted_kind None = None
noted_kind (Some Jobs) = Some Jobs
noted_kind (Some Nodes) = None
noted_kind (Some Policy) = None

-- what a file was checked as, where there may be more to say of it: the lines that rb_remarks gives
-- are told
abbrev pub checked_kind : ℕ → List (List ℕ) → Option FileKind
checked_kind status words =
    if nat_eq status REFUSED then kind_in words
    else if nat_eq status DONE then noted_kind (kind_in words)
    else None
