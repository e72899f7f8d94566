-- Bytes that were read one after another, and what is heard behind them.
use Rattle.std.proofs.Common.{
  ◌≡◌,
  ◌∙◌,
  ◌≤◌,
  ◌<◌,
  ◌+◌,
  ◌-◌,
  refl,
  arith,
  ap,
  sym,
  subst,
  ℕ,
  zero,
  suc,
  Bool,
  true,
  false,
  ◌||◌,
  nat_le,
  nat_eq,
  leb-true,
  leb-false,
  List,
  [],
  ◌∷◌,
  ◌++◌,
  append_assoc,
  append-nil,
  length,
  length-append,
  length-drop,
  length-take,
  length-take-le,
  take,
  drop,
  slice_range,
  Option,
  Some,
  None,
  option_map,
  IfSome,
  Result,
  Ok,
  Err,
  IfOk,
  OnErr,
}
use Rattle.std.proofs.lemmas.List.{
  take-append-le,
  take-append-drop,
  drop-drop,
  drop-append-le,
  drop-take,
  take_at,
  drop_at,
}
use Rattle.std.proofs.Math.Seq.{take-append-add}
use borrow.Rule.Slice.PartMut.{put_mid, post_of}
use Rattle.rb_causes.specs.declared.trouble.Failed.{Failed}
use Rattle.rb_causes.specs.Callers.{Served, Callers, left_of, left_if_any, after_read, after_fault}
use Rattle.rb_causes.specs.Outside.{next_call}
use Rattle.rb_wire.proofs.Nexts.{next_is_one, whole_stays}
use Rattle.rb_wire.specs.Hearing.{
  Pending,
  pending,
  HoldsNone,
  HoldsOne,
  Hears,
  HearsNext,
  callers_after,
}
use Rattle.rb_wire.specs.Reading.{to_come, HasRead, Gains, ReadsOnce, TellsEnd, has_line_end}
use Rattle.rb_wire.specs.Requests.{ComesNext, Nothing, Breaks, Holds}
use Rattle.rb_wire.specs.declared.heard.Heard.{Heard}
use Rattle.rb_wire.specs.declared.heard.Heard.TheVariants as heard
use Rattle.rb_wire.specs.declared.heard.Request.{Request}
use Rattle.rb_wire.specs.Seeing.{IsCutBelow, StandsWhole}
use Rattle.rb_wire.proofs.Sights.{no_head, begins_short, whole_next}
use Rattle.rb_wire.specs.declared.heard.WireFault.{WireFault}
use Rattle.rb_wire.specs.declared.heard.WireFault.TheVariants.{BadHead, Cut}
use Rattle.httparse.specs.Grammar.{LineEnd, crlf, lf, print_end, print_field, print_section, RequestHead, print_request, ReadsRequest, HasNoRequest}
use Rattle.httparse.specs.declared.spans.HeaderSpan.{HeaderSpan}
use Rattle.httparse.specs.declared.spans.RequestSpans.{RequestSpans}
use Rattle.rb_causes.specs.Signs.{line_feed, carriage_return}
use Rattle.std.specs.List.{list_any, flat_map}
use Rattle.std.proofs.lemmas.List.Folds.{list_any-append}
use Rattle.std.proofs.lemmas.Bool.{or_parts}

-- ---- lists

take_nil : (n : ℕ) → take {A = ℕ} n [] ≡ []
take_nil zero = refl
take_nil (suc n) = refl

no_bytes : (xs : List ℕ) → length xs ≡ 0 → xs ≡ []
no_bytes [] e = refl
no_bytes (x ∷ xs) e = let never : ⊥ = omega (arith, e) in absurd never

-- a range without its first elements
pub drop_range : (xs : List ℕ) (from to size : ℕ)
    → size ≤ length (slice_range xs from to)
    → slice_range xs (from + size) to ≡ drop size (slice_range xs from to)
drop_range xs from to size fits =
    let had = length-take (to - from) (drop from xs) in
    let count : to - from ≡ size + (to - (from + size)) = omega (arith, fits, had) in
    ap (take (to - (from + size))) (sym (drop-drop size from xs))
    ∙ sym (drop-take size (to - (from + size)) (drop from xs))
    ∙ ap (λ n. drop size (take n (drop from xs))) (sym count)

-- a range with what was put behind it
range_more : (xs into : List ℕ) (from to k n : ℕ) → from ≤ to → to ≤ length xs → n ≤ length into
    → slice_range (put_mid to k xs into) from (to + n) ≡ slice_range xs from to ++ take n into
range_more xs into from to k n ordered within fits =
    let front = take to xs in
    let rest = post_of to k xs in
    let front_is = length-take-le to xs within in
    let left = length-drop from front in
    let size : (to + n) - from ≡ length (drop from front) + n =
    omega (arith, ordered, front_is, left) in
    let told : to ≡ from + (to - from) = omega (arith, ordered) in
    ap (take ((to + n) - from)) (drop-append-le from front (into ++ rest)
    (omega (arith, ordered, front_is)))
    ∙ ap (λ m. take m (drop from front ++ (into ++ rest))) size
    ∙ take-append-add (drop from front) (into ++ rest) n
    ∙ ap (λ ys. drop from front ++ ys) (take-append-le n into rest fits)
    ∙ ap (λ m. drop from (take m xs) ++ take n into) told
    ∙ ap (λ ys. ys ++ take n into) (drop-take from (to - from) xs)

range_kept : (xs into : List ℕ) (from to k : ℕ) → from ≤ to → to ≤ length xs
    → slice_range (put_mid to k xs into) from to ≡ slice_range xs from to
range_kept xs into from to k ordered within =
    let same : to ≡ to + 0 = omega arith in
    ap (slice_range (put_mid to k xs into) from) same
    ∙ range_more xs into from to k 0 ordered within (omega arith)
    ∙ append-nil (slice_range xs from to)

-- ---- one read

abbrev less : ℕ → Served → Served
less n caller = record caller { left = drop n caller.left }

got_left : (n : ℕ) (into : List ℕ) (now : Option Served)
    → take n into ≡ take n (left_if_any now)
    → left_if_any now ≡ take n into ++ left_if_any (option_map (less n) now)
got_left n into None same = sym (append-nil (take n into) ∙ same ∙ take_nil n)
got_left n into (Some caller) same =
    sym (take-append-drop n caller.left) ∙ ap (λ xs. xs ++ drop n caller.left) (sym same)

left_none : (n : ℕ) (now : Option Served) → n ≡ 0 → left_if_any now ≡ []
    → left_if_any (option_map (less n) now) ≡ []
left_none n None none end = refl
left_none n (Some caller) none end = rw (none, end) refl

pub read_once : (n : ℕ) (into : List ℕ) (old new : Option Callers) (bytes : List ℕ) (given : ℕ)
    → n ≤ length into
    → IfSome old (λ told. take n into ≡ take n (left_of told))
    → IfSome old (λ told. 0 < length into → n ≡ 0 → left_of told ≡ [])
    → 0 < length into
    → new ≡ option_map (after_read n) old
    → ReadsOnce n old new (pending bytes given) (pending (bytes ++ take n into) given)
read_once n into None new bytes given fits next end some is =
    let size = length-take-le n into fits in
    record {
      got = take n into;
      count = size;
      read = record { input = tt; callers = is; pending = refl };
      end = λ none. rw is refl;
    }
read_once n into (Some callers) new bytes given fits next end some is =
    let size = length-take-le n into fits in
    record {
      got = take n into;
      count = size;
      read = record {
        input = rw is (got_left n into callers.now next);
        callers = rw size is;
        pending = refl;
      };
      end = λ none. rw is (left_none n callers.now none (end some none));
    }

pub read_behind : (r : Result ℕ Failed) (xs into : List ℕ) (from to k : ℕ)
    (old new : Option Callers) → from ≤ to → to ≤ length xs → 0 < length into
    → IfOk r (λ n. n ≤ length into)
    → IfOk r (λ n. IfSome old (λ told. take n into ≡ take n (left_of told)))
    → IfOk r (λ n. IfSome old (λ told. 0 < length into → n ≡ 0 → left_of told ≡ []))
    → IfOk r (λ n. new ≡ option_map (after_read n) old)
    → IfOk r (λ n. (given : ℕ) → ReadsOnce n old new (pending (slice_range xs from to) given)
    (pending (slice_range (put_mid to k xs into) from (to + n)) given))
read_behind (Ok n) xs into from to k old new ordered within some fits next end is =
    λ given.
    subst (λ ys. ReadsOnce n old new (pending (slice_range xs from to) given) (pending ys given))
    (sym (range_more xs into from to k n ordered within fits))
    (read_once n into old new (slice_range xs from to) given fits next end some is)
read_behind (Err e) xs into from to k old new ordered within some fits next end is = tt

pub kept_behind : (r : Result ℕ Failed) (xs into : List ℕ) (from to k : ℕ) → from ≤ to
    → to ≤ length xs
    → OnErr r (slice_range (put_mid to k xs into) from to ≡ slice_range xs from to)
kept_behind (Ok n) xs into from to k ordered within = tt
kept_behind (Err e) xs into from to k ordered within = range_kept xs into from to k ordered within

-- ---- reads in a row

twice_now : (m n : ℕ) (now : Option Served)
    → option_map (less n) (option_map (less m) now) ≡ option_map (less (m + n)) now
twice_now m n None = refl
twice_now m n (Some caller) =
    ap (λ left. Some (record caller { left = left })) (drop-drop n m caller.left)

read_twice : (m n : ℕ) (callers : Callers)
    → after_read n (after_read m callers) ≡ after_read (m + n) callers
read_twice m n callers = ap (λ now. record callers { now = now }) (twice_now m n callers.now)

nothing_now : (now : Option Served) → now ≡ option_map (less 0) now
nothing_now None = refl
nothing_now (Some caller) = refl

nothing_read_of : (callers : Callers) → callers ≡ after_read 0 callers
nothing_read_of callers = ap (λ now. record callers { now = now }) (nothing_now callers.now)

pub nothing_read : (callers : Option Callers) → callers ≡ option_map (after_read 0) callers
nothing_read None = refl
nothing_read (Some callers) = ap Some (nothing_read_of callers)

nothing_got : (callers : Option Callers)
    → IfSome callers (λ told. left_of told ≡ [] ++ to_come callers)
nothing_got None = tt
nothing_got (Some callers) = refl

input_of_two : (got more later : List ℕ) (x : Callers) (c1 : Option Callers)
    → left_of x ≡ got ++ to_come c1 → c1 ≡ Some (after_read (length got) x)
    → IfSome c1 (λ told. left_of told ≡ more ++ later)
    → left_of x ≡ (got ++ more) ++ later
input_of_two got more later x None first is second = let never : ⊥ = cc in absurd never
input_of_two got more later x (Some y) first is second =
    first ∙ ap (λ xs. got ++ xs) second ∙ sym (append_assoc got more later)

inputs : (got more later : List ℕ) (c0 c1 : Option Callers)
    → IfSome c0 (λ told. left_of told ≡ got ++ to_come c1)
    → c1 ≡ option_map (after_read (length got)) c0
    → IfSome c1 (λ told. left_of told ≡ more ++ later)
    → IfSome c0 (λ told. left_of told ≡ (got ++ more) ++ later)
inputs got more later None c1 first is second = tt
inputs got more later (Some x) c1 first is second =
    input_of_two got more later x c1 first is second

after_two : (what : Heard) (m n : ℕ) (x : Callers)
    → callers_after what n (after_read m x) ≡ callers_after what (m + n) x
after_two (heard.Asked r) m n x = read_twice m n x
after_two heard.End m n x = read_twice m n x
after_two (heard.Broken f) m n x = read_twice m n x
after_two heard.LineFault m n x = ap after_fault (read_twice m n x)
after_two heard.NoMemory m n x = read_twice m n x

callers_of_two : (what : Heard) (got more : List ℕ) (c0 c1 c2 : Option Callers)
    → c1 ≡ option_map (after_read (length got)) c0
    → c2 ≡ option_map (callers_after what (length more)) c1
    → c2 ≡ option_map (callers_after what (length (got ++ more))) c0
callers_of_two what got more None c1 c2 first second = second ∙ rw first refl
callers_of_two what got more (Some x) c1 c2 first second =
    second ∙ ap (option_map (callers_after what (length more))) first
    ∙ ap Some (after_two what (length got) (length more) x
    ∙ ap (λ n. callers_after what n x) (sym (length-append got more)))

pending_of_two : (got more : List ℕ) (b0 b1 b2 : Pending)
    → b1 ≡ pending (b0.bytes ++ got) b0.given → b2 ≡ pending (b1.bytes ++ more) b1.given
    → b2 ≡ pending (b0.bytes ++ (got ++ more)) b0.given
pending_of_two got more b0 b1 b2 first second =
    second ∙ ap (λ b. pending (b.bytes ++ more) b.given) first
    ∙ ap (λ xs. pending xs b0.given) (append_assoc b0.bytes got more)

reads_twice : (got more : List ℕ) (c0 c1 c2 : Option Callers) (b0 b1 b2 : Pending)
    → HasRead got c0 c1 b0 b1 → HasRead more c1 c2 b1 b2 → HasRead (got ++ more) c0 c2 b0 b2
reads_twice got more c0 c1 c2 b0 b1 b2 first second = record {
  input = inputs got more (to_come c2) c0 c1 first.input first.callers second.input;
  callers = callers_of_two heard.End got more c0 c1 c2 first.callers second.callers;
  pending = pending_of_two got more b0 b1 b2 first.pending second.pending;
}

same_bytes : (b : Pending) → b ≡ pending (b.bytes ++ []) b.given
same_bytes b = ap (λ xs. pending xs b.given) (sym (append-nil b.bytes))

pub gains_nothing : (callers : Option Callers) (b : Pending) → Gains callers callers b b
gains_nothing callers b = record {
  got = [];
  read = record {
    input = nothing_got callers;
    callers = nothing_read callers;
    pending = same_bytes b;
  };
  ready = λ holds. refl;
}

holds_later : (given : ℕ) (bytes more : List ℕ) → HoldsOne given bytes
    → HoldsOne given (bytes ++ more)
holds_later given bytes more (r, rest, next) =
    (r, rest ++ more, whole_stays given bytes more r rest next)

holds_behind : (got : List ℕ) (b0 b1 : Pending) → b1 ≡ pending (b0.bytes ++ got) b0.given
    → HoldsOne b0.given b0.bytes → HoldsOne b1.given b1.bytes
holds_behind got b0 b1 is one =
    subst (λ b. HoldsOne b.given b.bytes) (sym is) (holds_later b0.given b0.bytes got one)

never_both : (b : Pending) → HoldsNone b.given b.bytes → HoldsOne b.given b.bytes → ⊥
never_both b none (r, rest, next) = none r rest next

pub gains_more : {c0 c1 : Option Callers} (c2 : Option Callers) {b0 b1 : Pending} (b2 : Pending)
    (more : List ℕ) → Gains c0 c1 b0 b1 → HasRead more c1 c2 b1 b2
    → HoldsNone b1.given b1.bytes → Gains c0 c2 b0 b2
gains_more {c0} {c1} c2 {b0} {b1} b2 more gains read none = record {
  got = gains.got ++ more;
  read = reads_twice gains.got more c0 c1 c2 b0 b1 b2 gains.read read;
  ready = λ one. absurd (never_both b1 none (holds_behind gains.got b0 b1 gains.read.pending one));
}

pub gains_both : {c0 c1 c2 : Option Callers} {b0 b1 b2 : Pending} → Gains c0 c1 b0 b1
    → Gains c1 c2 b1 b2 → Gains c0 c2 b0 b2
gains_both {c0} {c1} {c2} {b0} {b1} {b2} first second = record {
  got = first.got ++ second.got;
  read = reads_twice first.got second.got c0 c1 c2 b0 b1 b2 first.read second.read;
  ready = λ one.
      rw (
        first.ready one,
        second.ready (holds_behind first.got b0 b1 first.read.pending one),
      ) refl;
}

-- ---- what is heard

hears_behind : (what : Heard) (got more later : List ℕ) (b0 b1 b2 : Pending)
    → b1 ≡ pending (b0.bytes ++ got) b0.given
    → Hears b1.given (b1.bytes ++ more) later what b2
    → Hears b0.given (b0.bytes ++ (got ++ more)) later what b2
hears_behind what got more later b0 b1 b2 is hears =
    subst (λ xs. Hears b0.given xs later what b2) (append_assoc b0.bytes got more)
    (subst (λ b. Hears b.given (b.bytes ++ more) later what b2) is hears)

pub hears_later : {c0 c1 c2 : Option Callers} {b0 b1 b2 : Pending} {what : Heard}
    → Gains c0 c1 b0 b1 → HearsNext c1 c2 b1 b2 what → HearsNext c0 c2 b0 b2 what
hears_later {c0} {c1} {c2} {b0} {b1} {b2} {what} gains hears = record {
  got = gains.got ++ hears.got;
  to_come = hears.to_come;
  input = inputs gains.got hears.got hears.to_come c0 c1 gains.read.input gains.read.callers
      hears.input;
  callers = callers_of_two what gains.got hears.got c0 c1 c2 gains.read.callers hears.callers;
  hears = hears_behind what gains.got hears.got hears.to_come b0 b1 b2 gains.read.pending
      hears.hears;
  ready = λ one.
      rw (
        gains.ready one,
        hears.ready (holds_behind gains.got b0 b1 gains.read.pending one),
      ) refl;
}

fault_callers : (c1 c2 : Option Callers) → c2 ≡ option_map after_fault c1
    → c2 ≡ option_map (callers_after heard.LineFault 0) c1
fault_callers None c2 is = is
fault_callers (Some x) c2 is = is ∙ ap (λ y. Some (after_fault y)) (nothing_read_of x)

pub hears_fault : (c1 c2 : Option Callers) (b b2 : Pending) → HoldsNone b.given b.bytes
    → c2 ≡ option_map after_fault c1 → b2 ≡ b → HearsNext c1 c2 b b2 heard.LineFault
hears_fault c1 c2 b b2 none failed kept = record {
  got = [];
  to_come = to_come c1;
  input = nothing_got c1;
  callers = fault_callers c1 c2 failed;
  hears = (
    subst (HoldsNone b.given) (sym (append-nil b.bytes)) none,
    kept ∙ same_bytes b,
  );
  ready = λ one. refl;
}

pub hears_broken : (callers : Option Callers) (b : Pending) (fault : WireFault)
    → ((given : ℕ) (more : List ℕ) → ComesNext given (b.bytes ++ more) (Breaks fault))
    → HearsNext callers callers b b (heard.Broken fault)
hears_broken callers b fault breaks = record {
  got = [];
  to_come = to_come callers;
  input = nothing_got callers;
  callers = nothing_read callers;
  hears = subst (λ xs. ComesNext b.given (xs ++ to_come callers) (Breaks fault))
      (sym (append-nil b.bytes)) (breaks b.given (to_come callers));
  ready = λ one. refl;
}

pub hears_asked : (callers : Option Callers) (b b2 : Pending) (r : Request)
    → ComesNext b.given b.bytes (Holds r b2.bytes) → b2.given ≡ next_call b.given
    → HearsNext callers callers b b2 (heard.Asked r)
hears_asked callers b b2 r next given = record {
  got = [];
  to_come = to_come callers;
  input = nothing_got callers;
  callers = nothing_read callers;
  hears = (
    subst (λ xs. ComesNext b.given xs (Holds r b2.bytes)) (sym (append-nil b.bytes)) next,
    given,
  );
  ready = λ one. refl;
}

pub hears_no_memory : (callers : Option Callers) (b b2 : Pending) → HoldsOne b.given b.bytes
    → b2 ≡ b → HearsNext callers callers b b2 heard.NoMemory
hears_no_memory callers b b2 one kept = record {
  got = [];
  to_come = to_come callers;
  input = nothing_got callers;
  callers = nothing_read callers;
  hears = (
    subst (HoldsOne b.given) (sym (append-nil b.bytes)) one,
    kept ∙ same_bytes b,
  );
  ready = λ one. refl;
}

all_of : (bytes got later : List ℕ) → got ≡ [] → later ≡ [] → (bytes ++ got) ++ later ≡ bytes
all_of bytes got later none end =
    rw (none, end) (append-nil (bytes ++ []) ∙ append-nil bytes)

pub hears_end : (what : Heard) {c1 c2 : Option Callers} {b b2 : Pending} → TellsEnd b.bytes what
    → ReadsOnce 0 c1 c2 b b2 → HearsNext c1 c2 b b2 what
hears_end heard.End {c1} {c2} {b} {b2} told read =
    let none = no_bytes read.got read.count in
    record {
      got = read.got;
      to_come = to_come c2;
      input = read.read.input;
      callers = read.read.callers;
      hears = (
        all_of b.bytes read.got (to_come c2) none (read.end refl) ∙ told,
        read.read.pending ∙ ap (λ xs. pending xs b.given)
            (rw none (append-nil b.bytes ∙ told)),
      );
      ready = λ one. none;
    }
hears_end (heard.Broken fault) {c1} {c2} {b} {b2} told read =
    let none = no_bytes read.got read.count in
    record {
      got = read.got;
      to_come = to_come c2;
      input = read.read.input;
      callers = read.read.callers;
      hears = subst (λ xs. ComesNext b.given xs (Breaks fault))
          (sym (all_of b.bytes read.got (to_come c2) none (read.end refl))) (told b.given);
      ready = λ one. none;
    }
hears_end (heard.Asked r) told read = absurd told
hears_end heard.LineFault told read = absurd told
hears_end heard.NoMemory told read = absurd told

-- ---- the end of a head

-- the last byte is LF
abbrev EndsLine : List ℕ → Type 0
EndsLine xs = (before : List ℕ) × (xs ≡ before ++ line_feed ∷ [])

ends_append : (xs ys : List ℕ) → EndsLine ys → EndsLine (xs ++ ys)
ends_append xs ys (before, is) = (
  xs ++ before,
  ap (λ zs. xs ++ zs) is ∙ sym (append_assoc xs before (line_feed ∷ [])),
)

end_ends : (end : LineEnd) → EndsLine (print_end end)
end_ends crlf = (carriage_return ∷ [], refl)
end_ends lf = ([], refl)

head_ends : (h : RequestHead) → EndsLine (print_request h)
unfolding print_request
head_ends h =
    ends_append _ (print_section h.fields h.last)
    (ends_append (flat_map print_field h.fields) _ (end_ends h.last))

or_true : (b : Bool) → (b || true) ≡ true
or_true true = refl
or_true false = refl

-- a head that is longer than the bytes ends behind them
ends_behind : (bytes more before rest : List ℕ)
    → bytes ++ more ≡ (before ++ line_feed ∷ []) ++ rest → length bytes ≤ length before
    → has_line_end more ≡ true
ends_behind bytes more before rest same fits =
    let n = length bytes in
    let whole : bytes ++ more ≡ before ++ (line_feed ∷ rest) =
    same ∙ append_assoc before (line_feed ∷ []) rest in
    let behind : more ≡ drop n before ++ (line_feed ∷ rest) =
    sym (drop_at bytes more n refl) ∙ ap (drop n) whole
    ∙ drop-append-le n before (line_feed ∷ rest) fits in
    rw (behind, list_any-append (λ b. nat_eq b line_feed) (drop n before) (line_feed ∷ rest))
    (or_true (list_any (λ b. nat_eq b line_feed) (drop n before)))

no_head_longer : (bytes more : List ℕ) (h : RequestHead) (rest : List ℕ) (short : Bool)
    → nat_le (length (print_request h)) (length bytes) ≡ short → HasNoRequest bytes
    → has_line_end more ≡ false → ReadsRequest (bytes ++ more) h rest → ⊥
no_head_longer bytes more h rest true e none no_end reads =
    none h (drop (length (print_request h)) bytes) (
      reads.0,
      begins_short bytes more (print_request h) rest reads.1
          (leb-true (length (print_request h)) (length bytes) e),
    )
no_head_longer bytes more h rest false e none no_end reads =
    let long = leb-false (length (print_request h)) (length bytes) e in
    let ends = head_ends h in
    let size = ap length ends.1 ∙ length-append ends.0 (line_feed ∷ []) in
    let has = ends_behind bytes more ends.0 rest (reads.1 ∙ ap (λ xs. xs ++ rest) ends.1)
    (omega (arith, long, size)) in
    let never : ⊥ = cc in never

-- bytes that end no line end no head
no_line_end : (bytes more : List ℕ) → HasNoRequest bytes → has_line_end more ≡ false
    → HasNoRequest (bytes ++ more)
no_line_end bytes more none no_end h rest reads =
    no_head_longer bytes more h rest _ refl none no_end reads

-- ---- bytes that hold no request

pub holds_none : (given : ℕ) (bytes : List ℕ) (fault : WireFault)
    → ComesNext given bytes (Breaks fault) → HoldsNone given bytes
holds_none given bytes fault next r rest holds =
    let same = next_is_one given bytes (Breaks fault) (Holds r rest) next holds in
    let never : ⊥ = cc in never

pub nothing_holds_none : (given : ℕ) (bytes : List ℕ) → ComesNext given bytes Nothing
    → HoldsNone given bytes
nothing_holds_none given bytes next r rest holds =
    let same = next_is_one given bytes Nothing (Holds r rest) next holds in
    let never : ⊥ = cc in never

-- a body that is cut stays cut while too few bytes came
pub cut_now : {c0 c1 : Option Callers} {b0 b1 : Pending} (total : ℕ) → IsCutBelow b0.bytes total
    → Gains c0 c1 b0 b1 → length b1.bytes < total
    → (given : ℕ) → ComesNext given b1.bytes (Breaks Cut)
cut_now {c0} {c1} {b0} {b1} total cut gains fewer given =
    let same : b1.bytes ≡ b0.bytes ++ gains.got = ap (λ b. b.bytes) gains.read.pending in
    subst (λ xs. ComesNext given xs (Breaks Cut)) (sym same)
    (cut.cut given gains.got (subst (λ xs. length xs < total) same fewer))

-- bytes in which no head stands hold no request
pub no_head_holds_none : (given : ℕ) (bytes : List ℕ) → HasNoRequest bytes
    → HoldsNone given bytes
no_head_holds_none given [] none =
    nothing_holds_none given [] (record { front = None; is_front = no_head [] none; says = refl })
no_head_holds_none given (b ∷ bytes) none =
    holds_none given (b ∷ bytes) BadHead
    (record { front = None; is_front = no_head (b ∷ bytes) none; says = refl })

pub whole_holds_one : (given : ℕ) (bytes : List ℕ) (spans : List HeaderSpan)
    (parts : RequestSpans) (size : ℕ) → StandsWhole bytes spans parts size
    → HoldsOne given bytes
whole_holds_one given bytes spans parts size whole =
    (_, _, whole_next given bytes spans parts size whole)

-- no more came than these bytes, in which no head stands, and those behind them end no line
pub no_head_behind : (bytes : List ℕ) (known : ℕ) (long may : Bool)
    → HasNoRequest (take known bytes) → may ≡ (has_line_end (drop known bytes) || long)
    → may ≡ false → HasNoRequest bytes
no_head_behind bytes known long may none told e =
    let no_end = (or_parts (has_line_end (drop known bytes)) long (sym told ∙ e)).0 in
    subst HasNoRequest (take-append-drop known bytes)
    (no_line_end (take known bytes) (drop known bytes) none no_end)

pub none_known : (b1 b2 : Pending) (got : List ℕ) (known : ℕ)
    → b2 ≡ pending (b1.bytes ++ got) b1.given → known ≡ length b1.bytes → HasNoRequest b1.bytes
    → HasNoRequest (take known b2.bytes)
none_known b1 b2 got known is at none =
    let same : take known b2.bytes ≡ b1.bytes =
    rw (is, at) (take_at b1.bytes got (length b1.bytes) refl) in
    subst HasNoRequest (sym same) none

pub longer : (b1 b2 : Pending) (got : List ℕ) → b2 ≡ pending (b1.bytes ++ got) b1.given
    → length b1.bytes ≤ length b2.bytes
longer b1 b2 got is =
    let size : length b2.bytes ≡ length b1.bytes + length got =
    rw is (length-append b1.bytes got) in
    omega (arith, size)

-- a read that gave nothing left the bytes as they were
pub same_at_end : {c1 c2 : Option Callers} {b1 b2 : Pending} → ReadsOnce 0 c1 c2 b1 b2
    → b2.bytes ≡ b1.bytes
same_at_end {c1} {c2} {b1} {b2} read =
    ap (λ b. b.bytes) read.read.pending ∙ ap (λ xs. b1.bytes ++ xs) (no_bytes read.got read.count)
    ∙ append-nil b1.bytes
