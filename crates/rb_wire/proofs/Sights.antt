-- What bytes begin with, whatever comes behind them.
use Rattle.std.proofs.Common.{◌≡◌, ◌∙◌, ◌≤◌, ◌<◌, ◌+◌, refl, arith, ap, sym, subst, ℕ, Bool, true, false, nat_lt, ltb-false, lt-ltb, le-ltb, List, [], ◌∷◌, ◌++◌, append-nil, length, length-append, length-drop, length-take-le, take, drop, codes, IsUtf8, nat_eq, nat_le, ◌||◌, slice_get, slice_range, option_and_then, Option, Some, None, Ok, Err, if◌then◌else◌}
use Rattle.std.specs.List.{list_any}
use Rattle.std.specs.Str.{str_eq_ignore_ascii_case}
use Rattle.std.proofs.lemmas.Bool.Decides.{nat_tests}
use Rattle.std.proofs.lemmas.Str.{IsUtf8-from_ascii}
use Rattle.std.proofs.lemmas.Str.Ascii.{IsAscii-from_all}
use Rattle.std.proofs.lemmas.List.Elements.{All-weaker}
use Rattle.std.proofs.lemmas.List.{length-map, take_at, take-append-le, take-append-drop, drop-drop}
use Rattle.httparse.specs.Grammar.{
  RequestHead,
  ReadsRequest,
  HasNoRequest,
  print_request,
  is_token_byte,
}
use Rattle.httparse.specs.Spans.{
  span_bytes,
  IsRequestAt,
  IsRequestWithin,
  IsSectionWithin,
  IsHeaderWithin,
  AreFieldsAt,
  RequestOverflows,
  name_and_value,
  header_bytes,
}
use Rattle.httparse.specs.declared.spans.HeaderSpan.{HeaderSpan}
use Rattle.httparse.specs.declared.spans.RequestSpans.{RequestSpans}
use Rattle.httparse.proofs.GrammarLemmas.{request_unique, ReadsRequest-append}
use Rattle.rb_wire.proofs.FieldValues.{values_are}
use Rattle.rb_wire.proofs.HeadRows.{too_short, head_is_long}
use Rattle.rb_causes.specs.Outside.{next_call}
use Rattle.rb_wire.specs.Fields.{size_of, size_within, size_in, AreWithin, token_in, closes_in}
use Rattle.rb_wire.specs.declared.heard.Request.{Request}
use Rattle.rb_wire.specs.Heads.{BeginsWithHead, IsFront, most_head_bytes, most_fields, target_path, query_of, token_of, text_if, closes, says_close}
use Rattle.rb_wire.specs.Laws.{is_of_head}
use Rattle.rb_wire.specs.Lengths.{most_body_bytes, is_coded, body_length, length_fault, request_fault}
use Rattle.rb_wire.specs.Requests.{Next, Breaks, Holds, ComesNext, next_unless, body_bytes, request_of, most_requests}
use Rattle.rb_wire.specs.Seeing.{IsHeadAt, StandsWhole, IsCutBelow, HasHeadWith}
use Rattle.rb_wire.specs.declared.heard.WireFault.{WireFault}
use Rattle.rb_wire.specs.declared.heard.WireFault.TheVariants.{
  BadHead,
  TransferEncoding,
  BadLength,
  TooLong,
  Cut,
}

-- ---- bytes that begin with no head

pub bad_head : (given : ℕ) (bytes : List ℕ) → 0 < length bytes → IsFront bytes None
    → ComesNext given bytes (Breaks BadHead)
bad_head given [] some is_front = let never : ⊥ = omega (arith, some) in absurd never
bad_head given (b ∷ bytes) some is_front =
    record { front = None; is_front = is_front; says = refl }

pub no_head : (bytes : List ℕ) → HasNoRequest bytes → IsFront bytes None
no_head bytes none head behind begins = none head behind begins.reads

-- a head that is no longer than the bytes stands in them
pub begins_short : (bytes more head rest : List ℕ) → bytes ++ more ≡ head ++ rest
    → length head ≤ length bytes → bytes ≡ head ++ drop (length head) bytes
begins_short bytes more head rest same fits =
    let n = length head in
    let first : take n bytes ≡ head =
    sym (take-append-le n bytes more fits) ∙ ap (take n) same ∙ take_at head rest n refl in
    sym (take-append-drop n bytes) ∙ ap (λ xs. xs ++ drop n bytes) first

pub no_head_within : (bytes more : List ℕ) → HasNoRequest bytes
    → most_head_bytes ≤ length bytes → IsFront (bytes ++ more) None
no_head_within bytes more none full head behind begins =
    let fits : length (print_request head) ≤ length bytes = omega (arith, full, begins.size) in
    none head (drop (length (print_request head)) bytes)
    (begins.reads.0, begins_short bytes more (print_request head) behind begins.reads.1 fits)

pub full_breaks : (bytes : List ℕ) → HasNoRequest bytes → most_head_bytes ≤ length bytes
    → (given : ℕ) (more : List ℕ) → ComesNext given (bytes ++ more) (Breaks BadHead)
full_breaks bytes none full given more =
    let size = length-append bytes more in
    bad_head given (bytes ++ more) (omega (arith, full, size))
    (no_head_within bytes more none full)

pub overflow_breaks : (bytes : List ℕ) → 0 < length bytes → RequestOverflows 64 bytes
    → (given : ℕ) (more : List ℕ) → ComesNext given (bytes ++ more) (Breaks BadHead)
overflow_breaks bytes some over given more =
    let size = length-append bytes more in
    bad_head given (bytes ++ more) (omega (arith, some, size))
    (λ head behind begins.
    let many = over more head behind begins.reads in
    let few = begins.fields in
    let never : ⊥ = omega (arith, many, few) in never)

pub long_breaks : (bytes rest : List ℕ) (head : RequestHead) → ReadsRequest bytes head rest
    → most_head_bytes < length (print_request head)
    → (given : ℕ) (more : List ℕ) → ComesNext given (bytes ++ more) (Breaks BadHead)
long_breaks bytes rest head reads long given more =
    let whole = ap length reads.1 ∙ length-append (print_request head) rest in
    let size = length-append bytes more in
    bad_head given (bytes ++ more) (omega (arith, long, whole, size))
    (λ other behind begins.
    let same = request_unique (bytes ++ more) other head behind (rest ++ more) begins.reads
    (ReadsRequest-append bytes head rest more reads) in
    let few : length (print_request head) ≤ most_head_bytes =
    subst (λ h. length (print_request h) ≤ most_head_bytes) same.0 begins.size in
    let never : ⊥ = omega (arith, few, long) in never)

-- ---- bytes that begin with a head

pub is_next_at : (given : ℕ) (bytes : List ℕ) (head : RequestHead) (behind : List ℕ) (next : Next)
    → BeginsWithHead bytes head behind
    → next ≡ next_unless (request_fault head (length behind)) given head behind
    → ComesNext given bytes next
is_next_at given [] head behind next begins says =
    absurd (too_short [] (omega arith) head behind begins)
is_next_at given (b ∷ bytes) head behind next begins says =
    record { front = Some (record { head = head; behind = behind }); is_front = begins; says = says }

pub begins_at : (bytes more : List ℕ) (spans : List HeaderSpan) (parts : RequestSpans)
    (head : RequestHead) → IsHeadAt bytes spans parts head
    → BeginsWithHead (bytes ++ more) head (drop parts.len bytes ++ more)
begins_at bytes more spans parts head is_head = record {
  reads = ReadsRequest-append bytes head (drop parts.len bytes) more is_head.at.reads;
  size = subst (λ n. n ≤ most_head_bytes) is_head.at.len is_head.size;
  fields = is_head.fields;
}

size_long : (n came : ℕ) (fault : WireFault) (long : Bool) → nat_lt most_body_bytes n ≡ long
    → size_within n ≡ Err fault
    → (length_fault (Some n) came ≡ Some fault) × (is_of_head fault ≡ true)
size_long n came fault true e is =
    let told : Err TooLong ≡ Err fault = rw e at is in
    let same : TooLong ≡ fault = cc in (rw e (ap Some same), ap is_of_head (sym same))
size_long n came fault false e is =
    let told : Ok n ≡ Err fault = rw e at is in
    let never : ⊥ = cc in absurd never

size_err : (coded : Bool) (len : Option ℕ) (came : ℕ) (fault : WireFault)
    → (if coded then Err TransferEncoding else size_of len) ≡ Err fault
    → ((if coded then Some TransferEncoding else length_fault len came) ≡ Some fault)
    × (is_of_head fault ≡ true)
size_err true len came fault e =
    let same : TransferEncoding ≡ fault = cc in (ap Some same, ap is_of_head (sym same))
size_err false None came fault e =
    let same : BadLength ≡ fault = cc in (ap Some same, ap is_of_head (sym same))
size_err false (Some n) came fault e = size_long n came fault (nat_lt most_body_bytes n) refl e

-- a fault that the fields tell is one whatever comes
pub fields_break : (bytes : List ℕ) (spans : List HeaderSpan) (parts : RequestSpans)
    (head : RequestHead) (fault : WireFault) → IsHeadAt bytes spans parts head
    → (if is_coded head then Err TransferEncoding else size_of (body_length head)) ≡ Err fault
    → (given : ℕ) (more : List ℕ) → ComesNext given (bytes ++ more) (Breaks fault)
fields_break bytes spans parts head fault is_head e given more =
    let told = size_err (is_coded head) (body_length head) (length (drop parts.len bytes ++ more))
    fault e in
    is_next_at given (bytes ++ more) head (drop parts.len bytes ++ more) (Breaks fault)
    (begins_at bytes more spans parts head is_head)
    (ap (λ f. next_unless f given head (drop parts.len bytes ++ more)) (sym told.0))

size_fits : (n size : ℕ) (long : Bool) → nat_lt most_body_bytes n ≡ long
    → size_within n ≡ Ok size → (n ≡ size) × (n ≤ most_body_bytes)
size_fits n size true e is =
    let told : Err TooLong ≡ Ok size = rw e at is in
    let never : ⊥ = cc in absurd never
size_fits n size false e is =
    let told : Ok n ≡ Ok size = rw e at is in
    let same : n ≡ size = cc in (same, ltb-false most_body_bytes n e)

pub size_ok : (coded : Bool) (len : Option ℕ) (size : ℕ)
    → (if coded then Err TransferEncoding else size_of len) ≡ Ok size
    → (coded ≡ false) × (len ≡ Some size) × (size ≤ most_body_bytes)
size_ok true len size e = let never : ⊥ = cc in absurd never
size_ok false None size e = let never : ⊥ = cc in absurd never
size_ok false (Some n) size e =
    let told = size_fits n size (nat_lt most_body_bytes n) refl e in
    (refl, ap Some told.0, subst (λ m. m ≤ most_body_bytes) told.0 told.1)

-- the fault of a head whose length is within the limit
fault_is : (head : RequestHead) (size came : ℕ) → is_coded head ≡ false
    → body_length head ≡ Some size → size ≤ most_body_bytes
    → request_fault head came ≡ (if nat_lt came size then Some Cut else None)
fault_is head size came not_coded len fits =
    let short : nat_lt most_body_bytes size ≡ false = le-ltb most_body_bytes size fits in
    rw (not_coded, len, short) refl

pub cut_below : (bytes : List ℕ) (spans : List HeaderSpan) (parts : RequestSpans) (size : ℕ)
    → HasHeadWith bytes spans parts size → length bytes < parts.len + size
    → IsCutBelow bytes (parts.len + size)
cut_below bytes spans parts size has short =
    let long = has.not_long in
    let head_size = has.is_head.size in
    record {
      short = short;
      fits = omega (arith, long, head_size);
      cut = λ given more fewer.
          let behind = drop parts.len bytes ++ more in
          let within = has.is_head.within.section.len_fits in
          let whole = length-append bytes more in
          let rest = length-append (drop parts.len bytes) more in
          let dropped = length-drop parts.len bytes in
          let lacks : nat_lt (length behind) size ≡ true =
          lt-ltb (length behind) size (omega (arith, within, whole, rest, dropped, fewer)) in
          is_next_at given (bytes ++ more) has.head behind (Breaks Cut)
          (begins_at bytes more spans parts has.head has.is_head)
          (rw (fault_is has.head size (length behind) has.not_coded has.length_is long, lacks) refl);
    }

pub whole_at : (bytes : List ℕ) (spans : List HeaderSpan) (parts : RequestSpans) (size : ℕ)
    → HasHeadWith bytes spans parts size → parts.len + size ≤ length bytes
    → StandsWhole bytes spans parts size
whole_at bytes spans parts size has fits =
    let within = has.is_head.within.section.len_fits in
    let dropped = length-drop parts.len bytes in
    let enough : nat_lt (length (drop parts.len bytes)) size ≡ false =
    le-ltb (length (drop parts.len bytes)) size (omega (arith, within, dropped, fits)) in
    record {
      head = has.head;
      is_head = has.is_head;
      length_is = has.length_is;
      fault = fault_is has.head size (length (drop parts.len bytes)) has.not_coded has.length_is
          has.not_long ∙ rw enough refl;
      fits = fits;
    }

-- the request that stands whole
pub whole_next : (given : ℕ) (bytes : List ℕ) (spans : List HeaderSpan) (parts : RequestSpans)
    (size : ℕ) (whole : StandsWhole bytes spans parts size)
    → ComesNext given bytes (Holds
    (request_of given whole.head (take size (drop parts.len bytes)))
    (drop (parts.len + size) bytes))
whole_next given bytes spans parts size whole =
    let behind = drop parts.len bytes in
    let begins : BeginsWithHead bytes whole.head behind =
    subst (λ xs. BeginsWithHead xs whole.head behind) (append-nil bytes)
    (subst (λ xs. BeginsWithHead (bytes ++ []) whole.head xs) (append-nil behind)
    (begins_at bytes [] spans parts whole.head whole.is_head)) in
    let size_is : body_bytes whole.head ≡ size = rw whole.length_is refl in
    is_next_at given bytes whole.head behind _ begins
    (rw (whole.fault, size_is, drop-drop size parts.len bytes) refl)

-- ---- what the fields tell

pub head_at : (bytes : List ℕ) (spans : List HeaderSpan) (parts : RequestSpans)
    (head : RequestHead) → IsRequestAt bytes spans parts head → IsRequestWithin bytes spans parts
    → length spans ≡ most_fields → parts.len ≤ most_head_bytes → IsHeadAt bytes spans parts head
head_at bytes spans parts head at within room size =
    let told = ap length at.fields in
    let seen = length-map (take parts.headers spans) (header_bytes bytes) in
    let had = length-map head.fields name_and_value in
    let count = length-take-le parts.headers spans within.section.count_fits in
    let few = within.section.count_fits in
    record {
      at = at;
      within = within;
      size = size;
      fields = omega (arith, told, seen, had, count, few, room);
    }

pub size_told : (bytes : List ℕ) (spans : List HeaderSpan) (count : ℕ) (head : RequestHead)
    → AreFieldsAt bytes spans count head.fields
    → size_in bytes (take count spans)
    ≡ (if is_coded head then Err TransferEncoding else size_of (body_length head))
size_told bytes spans count head at =
    rw (
      values_are (codes "transfer-encoding") bytes spans count head at,
      values_are (codes "content-length") bytes spans count head at,
    ) refl

pub has_head : (bytes : List ℕ) (spans : List HeaderSpan) (parts : RequestSpans) (size : ℕ)
    (head : RequestHead) → IsHeadAt bytes spans parts head
    → size_in bytes (take parts.headers spans) ≡ Ok size → HasHeadWith bytes spans parts size
has_head bytes spans parts size head is_head told =
    let parts_are = size_ok (is_coded head) (body_length head) size
    (sym (size_told bytes spans parts.headers head is_head.at.fields) ∙ told) in
    record {
      head = head;
      is_head = is_head;
      length_is = parts_are.1;
      not_coded = parts_are.0;
      not_long = parts_are.2;
    }

pub within_bytes : (bytes : List ℕ) (spans : List HeaderSpan) (len count : ℕ)
    → IsSectionWithin bytes spans len count → AreWithin bytes (take count spans)
within_bytes bytes spans len count within =
    let fits = within.len_fits in
    All-weaker (IsHeaderWithin len) (IsHeaderWithin (length bytes))
    (λ span inside.
    let name_end = inside.0.1 in
    let value_end = inside.1.1 in
    ((inside.0.0, omega (arith, name_end, fits)), (inside.1.0, omega (arith, value_end, fits))))
    (take count spans) within.headers_fit

pub empty_wants : (bytes : List ℕ) → length bytes ≡ 0
    → HasNoRequest bytes × (length bytes < most_head_bytes)
empty_wants bytes empty = (
  λ head rest reads.
      let enough = head_is_long head reads.0 in
      let whole = ap length reads.1 ∙ length-append (print_request head) rest in
      let never : ⊥ = omega (arith, enough, whole, empty) in
      never,
  omega (arith, empty),
)

-- ---- the request

token_is_ascii : (b : ℕ) → is_token_byte b ≡ true → b < 128
unfolding is_token_byte
token_is_ascii b token = grind (arith, nat_tests)

pub method_is_text : (bytes : List ℕ) (spans : List HeaderSpan) (parts : RequestSpans)
    (head : RequestHead) → IsHeadAt bytes spans parts head
    → IsUtf8 (span_bytes bytes parts.method)
method_is_text bytes spans parts head is_head =
    let token = is_head.at.reads.0.method.1 in
    let text : IsUtf8 head.method =
    IsUtf8-from_ascii head.method (IsAscii-from_all head.method
    (All-weaker (λ b. is_token_byte b ≡ true) (λ b. b < 128) token_is_ascii head.method token)) in
    subst IsUtf8 (sym is_head.at.method) text

pub target_is_text : (bytes : List ℕ) (spans : List HeaderSpan) (parts : RequestSpans)
    (head : RequestHead) → IsHeadAt bytes spans parts head
    → IsUtf8 (span_bytes bytes parts.path)
target_is_text bytes spans parts head is_head =
    subst IsUtf8 (sym is_head.at.path) is_head.at.reads.0.target_text

pub request_is : (given : ℕ) (bytes : List ℕ) (spans : List HeaderSpan) (parts : RequestSpans)
    (size : ℕ) (head : RequestHead) (method path query : List ℕ) (token : Option (List ℕ))
    (close : Bool) (body : List ℕ) → IsHeadAt bytes spans parts head
    → method ≡ span_bytes bytes parts.method
    → path ≡ target_path (span_bytes bytes parts.path)
    → query ≡ query_of (span_bytes bytes parts.path)
    → token ≡ token_in bytes (take parts.headers spans)
    → close ≡ (closes_in bytes (take parts.headers spans) parts.version
    || nat_le most_requests (next_call given))
    → body ≡ slice_range bytes parts.len (parts.len + size)
    → ◌≡◌ {A = Request} (record {
      method = method;
      path = path;
      query = query;
      token = token;
      close = close;
      body = body;
    })
    (request_of given head (take size (drop parts.len bytes)))
request_is given bytes spans parts size head method path query token close body is_head m p q t c
    b =
    let at = is_head.at in
    let m' : method ≡ head.method = m ∙ at.method in
    let p' : path ≡ target_path head.target = p ∙ ap target_path at.path in
    let q' : query ≡ query_of head.target = q ∙ ap query_of at.path in
    let t' : token ≡ token_of head =
    t ∙ ap (λ values. option_and_then text_if (slice_get values 0))
    (values_are (codes "x-rundeck-auth-token") bytes spans parts.headers head at.fields) in
    let values = values_are (codes "connection") bytes spans parts.headers head at.fields in
    let c' : close ≡ (closes head || nat_le most_requests (next_call given)) =
    c ∙ ap (λ values. (nat_eq parts.version 0
    || list_any (λ value. str_eq_ignore_ascii_case value (codes "close")) values)
    || nat_le most_requests (next_call given)) values
    ∙ ap (λ minor. (nat_eq minor 0 || says_close head)
    || nat_le most_requests (next_call given)) at.version in
    let b' : body ≡ take size (drop parts.len bytes) =
    b ∙ ap (λ n. take n (drop parts.len bytes)) (omega arith) in
    rw (m', p', q', t', c', b') refl
