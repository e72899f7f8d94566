-- What is seen of the bytes that came.
use Rattle.std.specs.Prelude.{◌≡◌, ◌≤◌, ◌<◌, ◌+◌, ℕ, List, ◌++◌, length, drop, Some, None, false}
use Rattle.httparse.specs.Grammar.{RequestHead, HasNoRequest}
use Rattle.httparse.specs.Spans.{IsRequestAt, IsRequestWithin}
use Rattle.httparse.specs.declared.spans.HeaderSpan.{HeaderSpan}
use Rattle.httparse.specs.declared.spans.RequestSpans.{RequestSpans}
use Rattle.rb_wire.specs.Heads.{most_head_bytes, most_fields}
use Rattle.rb_wire.specs.Lengths.{most_body_bytes, body_length, is_coded, request_fault}
use Rattle.rb_wire.specs.Requests.{ComesNext, Breaks}
use Rattle.rb_wire.specs.declared.heard.WireFault.TheVariants.{Cut}
use Rattle.rb_wire.specs.declared.seen.Seen.{Seen}
use Rattle.rb_wire.specs.declared.seen.Seen.TheVariants as seen
use Rattle.rb_wire.specs.declared.seen.Wanted.{Wanted}
use Rattle.rb_wire.specs.declared.seen.Wanted.TheVariants as wanted

-- the longest request
abbrev pub most_request_bytes : ℕ
most_request_bytes = most_head_bytes + most_body_bytes

-- a head within the limits begins the bytes, and its parts stand where the spans say
pub record IsHeadAt
    (bytes : List ℕ) (spans : List HeaderSpan) (parts : RequestSpans) (head : RequestHead)
    : Type 0 where
  pub at : IsRequestAt bytes spans parts head
  pub within : IsRequestWithin bytes spans parts
  pub size : parts.len ≤ most_head_bytes
  pub fields : length head.fields ≤ most_fields

-- a head and its whole body, of this size, stand there
pub record StandsWhole
    (bytes : List ℕ) (spans : List HeaderSpan) (parts : RequestSpans) (size : ℕ) : Type 0 where
  pub head : RequestHead
  pub is_head : IsHeadAt bytes spans parts head
  pub length_is : body_length head ≡ Some size
  pub fault : request_fault head (length (drop parts.len bytes)) ≡ None
  pub fits : parts.len + size ≤ length bytes

-- a head stands there, and its body is cut where fewer bytes come than this
pub record IsCutBelow (bytes : List ℕ) (total : ℕ) : Type 0 where
  pub short : length bytes < total
  pub fits : total ≤ most_request_bytes
  pub cut : (given : ℕ) (more : List ℕ) → length (bytes ++ more) < total
      → ComesNext given (bytes ++ more) (Breaks Cut)

-- these bytes hold no whole request yet
abbrev pub Wants : List ℕ → Wanted → Type 0
Wants bytes wanted.Line = HasNoRequest bytes × (length bytes < most_head_bytes)
Wants bytes (wanted.Bytes total) = IsCutBelow bytes total

-- what was seen is so; a fault is one whatever comes
abbrev pub Sees : List ℕ → List HeaderSpan → Seen → Type 0
Sees bytes spans (seen.Whole parts size) = StandsWhole bytes spans parts size
Sees bytes spans (seen.Broken fault) =
    (given : ℕ) (more : List ℕ) → ComesNext given (bytes ++ more) (Breaks fault)
Sees bytes spans (seen.More wanted) = Wants bytes wanted

-- such a head stands there, and a body of this size belongs to it
pub record HasHeadWith
    (bytes : List ℕ) (spans : List HeaderSpan) (parts : RequestSpans) (size : ℕ) : Type 0 where
  pub head : RequestHead
  pub is_head : IsHeadAt bytes spans parts head
  pub length_is : body_length head ≡ Some size
  pub not_coded : is_coded head ≡ false
  pub not_long : size ≤ most_body_bytes
