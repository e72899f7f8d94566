-- What is said on a line follows the caller's bytes.
use Rattle.std.proofs.Common.{
  ◌≡◌,
  ◌≢◌,
  ◌∙◌,
  ◌||◌,
  ℕ,
  zero,
  suc,
  Bool,
  true,
  false,
  List,
  [],
  ◌∷◌,
  ◌++◌,
  length,
  drop,
  Option,
  Some,
  None,
  option_map,
  IfSome,
  ap,
  sym,
  subst,
  refl,
  append-nil,
  append_assoc,
}
use Rattle.rb_causes.specs.Callers.{Callers, Served, left_of, after_read, after_fault, after_write}
use Rattle.rb_causes.specs.Outside.{next_call}
use Rattle.rb_wire.specs.Hearing.{Pending, HearsNext, callers_after}
use Rattle.rb_wire.specs.Laws.{WholeStays}
use Rattle.rb_wire.specs.Requests.{ComesNext, Holds, Breaks}
use Rattle.rb_wire.specs.declared.heard.Heard.{Heard}
use Rattle.rb_wire.specs.declared.heard.Heard.TheVariants as heard
use Rattle.rb_api.specs.declared.ended.Ended.{Ended}
use Rattle.rb_api.specs.declared.ended.Ended.TheVariants as ended
use Rattle.rb_door.specs.Doors.{FindsHeard, FollowsBytes, GoesOnIfMore, output_of}
use Rattle.rb_causes.specs.declared.trouble.Trouble.{Trouble}
use Rattle.rb_causes.specs.declared.trouble.Trouble.TheVariants as trouble
use Rattle.rb_door.specs.Exchanges.{Exchange, ended_of, ended_by}
use Rattle.rb_door.specs.Guests.{after_talk, is_failed_read}
use Rattle.rb_door.specs.Laws.{TalksFollow}
use Rattle.rb_door.specs.Serving.{LineSight, Converses, Talks, EndsAs}

-- ---- the callers

drop_read : (xs ys : List ℕ) → drop (length xs) (xs ++ ys) ≡ ys
drop_read [] ys = refl
drop_read (x ∷ xs) ys = drop_read xs ys

drop_none : (n : ℕ) → drop {A = ℕ} n [] ≡ []
drop_none zero = refl
drop_none (suc n) = refl

left_read : (n : ℕ) (c : Callers) → left_of (after_read n c) ≡ drop n (left_of c)
left_read n c = by_now c.now where
  by_now : (now : Option Served)
      → left_of (after_read n (record c { now = now })) ≡ drop n (left_of (record c { now = now }))
  by_now None = sym (drop_none n)
  by_now (Some s) = refl

-- what is to come behind what was read
left_behind : (got to_come : List ℕ) (c : Callers) → left_of c ≡ got ++ to_come
    → left_of (after_read (length got) c) ≡ to_come
left_behind got to_come c h =
    left_read (length got) c ∙ ap (drop (length got)) h ∙ drop_read got to_come

-- ---- the line, exchange by exchange

talked_by : (unread : List ℕ) (n : ℕ) (e : Exchange) (es : List Exchange) (c : Callers)
    (now : Option Served) → is_failed_read e.heard ≡ false
    → after_talk unread es (after_write e.written (after_read n (record c { now = now })))
    ≡ after_talk unread (e ∷ es) (record c { now = now })
talked_by unread n e es c None h = refl
talked_by unread n e es c (Some s) h =
    rw (h, append_assoc s.taken e.written (output_of es)) refl

-- one exchange that read so many bytes, and those behind it
talked : (unread : List ℕ) (n : ℕ) (e : Exchange) (es : List Exchange) (o : Option Callers)
    → is_failed_read e.heard ≡ false
    → option_map (after_talk unread es)
    (option_map (after_write e.written) (option_map (after_read n) o))
    ≡ option_map (after_talk unread (e ∷ es)) o
talked unread n e es None h = refl
talked unread n e es (Some c) h = ap Some (talked_by unread n e es c c.now h)

or_true : (b : Bool) → (b || true) ≡ true
or_true true = refl
or_true false = refl

or_false : (b : Bool) → (b || false) ≡ b
or_false true = refl
or_false false = refl

last_by : (got to_come : List ℕ) (e : Exchange) (c : Callers) (now : Option Served)
    → left_of (record c { now = now }) ≡ got ++ to_come → is_failed_read e.heard ≡ false
    → after_write e.written (after_read (length got) (record c { now = now }))
    ≡ after_talk to_come (e ∷ []) (record c { now = now })
last_by got to_come e c None left h = refl
last_by got to_come e c (Some s) left h =
    let unread : drop (length got) s.left ≡ to_come =
    ap (drop (length got)) left ∙ drop_read got to_come in
    rw (unread, h, append-nil e.written, or_false s.failed) refl

-- the last exchange, which read so many bytes; the others are to come
last_line : (got to_come : List ℕ) (e : Exchange) (o : Option Callers)
    → IfSome o (λ c. left_of c ≡ got ++ to_come) → is_failed_read e.heard ≡ false
    → option_map (after_write e.written) (option_map (after_read (length got)) o)
    ≡ option_map (after_talk to_come (e ∷ [])) o
last_line got to_come e None left h = refl
last_line got to_come e (Some c) left h = ap Some (last_by got to_come e c c.now left h)

failed_by : (got to_come : List ℕ) (e : Exchange) (c : Callers) (now : Option Served)
    → left_of (record c { now = now }) ≡ got ++ to_come → is_failed_read e.heard ≡ true
    → after_write e.written (after_fault (after_read (length got) (record c { now = now })))
    ≡ after_talk to_come (e ∷ []) (record c { now = now })
failed_by got to_come e c None left h = refl
failed_by got to_come e c (Some s) left h =
    let unread : drop (length got) s.left ≡ to_come =
    ap (drop (length got)) left ∙ drop_read got to_come in
    rw (unread, h, append-nil e.written, or_true s.failed) refl

failed_line : (got to_come : List ℕ) (e : Exchange) (o : Option Callers)
    → IfSome o (λ c. left_of c ≡ got ++ to_come) → is_failed_read e.heard ≡ true
    → option_map (after_write e.written)
    (option_map (λ c. after_fault (after_read (length got) c)) o)
    ≡ option_map (after_talk to_come (e ∷ [])) o
failed_line got to_come e None left h = refl
failed_line got to_come e (Some c) left h = ap Some (failed_by got to_come e c c.now left h)

-- ---- one exchange

-- what follows one exchange that was not the last
goes_on : (e : Exchange) (es : List Exchange) (On : Type 0) → ended_of e ≡ ended.More → On
    → GoesOnIfMore (ended_of e) es On
goes_on e es On more on = rw more on

-- nothing follows the last
ends_with : (end said : Ended) (On : Type 0) → end ≡ said → said ≢ ended.More
    → GoesOnIfMore end [] On
ends_with ended.More said On e not = absurd (not (sym e))
ends_with ended.Done said On e not = refl
ends_with ended.LineFault said On e not = refl
ends_with ended.NoMemory said On e not = refl

-- what a door was heard, from these bytes on
record Seen (old new : LineSight) (es : List Exchange) : Type 0 where
  input : List ℕ
  unread : List ℕ
  follows : FollowsBytes old.pending.given (old.pending.bytes ++ input) unread es
  came : IfSome old.callers (λ c. left_of c ≡ input)
  line : new.callers ≡ option_map (after_talk unread es) old.callers

read_by : (what : Heard) (n : ℕ) (c : Callers) → is_failed_read what ≡ false
    → callers_after what n c ≡ after_read n c
read_by (heard.Asked r) n c h = refl
read_by heard.End n c h = refl
read_by (heard.Broken f) n c h = refl
read_by heard.LineFault n c h = let never : ⊥ = cc in absurd never
read_by heard.NoMemory n c h = refl

read_only : (what : Heard) (n : ℕ) (o : Option Callers) → is_failed_read what ≡ false
    → option_map (callers_after what n) o ≡ option_map (after_read n) o
read_only what n None h = refl
read_only what n (Some c) h = ap Some (read_by what n c h)

failed_read : (n : ℕ) (o : Option Callers)
    → option_map (callers_after heard.LineFault n) o
    ≡ option_map (λ c. after_fault (after_read n c)) o
failed_read n None = refl
failed_read n (Some c) = refl

nil_behind : (xs ys : List ℕ) → xs ++ ys ≡ [] → ys ≡ []
nil_behind [] ys h = h
nil_behind (x ∷ xs) ys h = let never : ⊥ = cc in absurd never

module _ (stays : WholeStays) (old new : LineSight) (e : Exchange) (said : Ended)
    (c : Converses old new e) (is : ended_of e ≡ said) (last : said ≢ ended.More) where
  abbrev pending_bytes : List ℕ
  pending_bytes = old.pending.bytes

  abbrev OnBehind : List ℕ → List ℕ → Type 0
  OnBehind unread rest =
      GoesOnIfMore (ended_of e) [] (FollowsBytes (next_call old.pending.given) rest unread [])

  on_behind : (unread rest : List ℕ) → OnBehind unread rest
  on_behind unread rest =
      ends_with (ended_of e) said (FollowsBytes (next_call old.pending.given) rest unread []) is last

  -- all bytes that came or are to come
  parted : (got to_come : List ℕ)
      → (pending_bytes ++ got) ++ to_come ≡ pending_bytes ++ (got ++ to_come)
  parted got to_come = append_assoc pending_bytes got to_come

  found_last : (what : Heard)
      (h : HearsNext old.callers c.between old.pending new.pending what)
      → FindsHeard what old.pending.given (pending_bytes ++ (h.got ++ h.to_come)) h.to_come
      (OnBehind h.to_come)
  found_last (heard.Asked r) h = (
    new.pending.bytes ++ h.to_come,
    subst (λ bytes. ComesNext old.pending.given bytes (Holds r (new.pending.bytes ++ h.to_come)))
        (parted h.got h.to_come)
        (stays old.pending.given (pending_bytes ++ h.got) h.to_come r new.pending.bytes h.hears.0),
    on_behind h.to_come (new.pending.bytes ++ h.to_come),
  )
  found_last heard.End h = (
    sym (parted h.got h.to_come) ∙ h.hears.0,
    nil_behind (pending_bytes ++ h.got) h.to_come h.hears.0,
    on_behind h.to_come [],
  )
  found_last (heard.Broken f) h = (
    subst (λ bytes. ComesNext old.pending.given bytes (Breaks f)) (parted h.got h.to_come) h.hears,
    on_behind h.to_come [],
  )
  found_last heard.LineFault h = (
    pending_bytes ++ h.got,
    sym (parted h.got h.to_come),
    h.hears.0,
    on_behind h.to_come [],
  )
  found_last heard.NoMemory h = (
    (
      h.hears.0.0,
      h.hears.0.1 ++ h.to_come,
      subst (λ bytes. ComesNext old.pending.given bytes (Holds h.hears.0.0 (h.hears.0.1
          ++ h.to_come))) (parted h.got h.to_come)
          (stays old.pending.given (pending_bytes ++ h.got) h.to_come h.hears.0.0 h.hears.0.1
          h.hears.0.2),
    ),
    on_behind h.to_come [],
  )

  line_last : (what : Heard) → e.heard ≡ what
      → (h : HearsNext old.callers c.between old.pending new.pending what)
      → new.callers ≡ option_map (after_talk h.to_come (e ∷ [])) old.callers
  line_last heard.LineFault is h =
      c.gives ∙ ap (option_map (after_write e.written)) (h.callers ∙ failed_read (length h.got)
      old.callers) ∙ failed_line h.got h.to_come e old.callers h.input (ap is_failed_read is)
  line_last what is h =
      c.gives ∙ ap (option_map (after_write e.written)) (h.callers ∙ read_only what (length h.got)
      old.callers refl) ∙ last_line h.got h.to_come e old.callers h.input (ap is_failed_read is)

  seen_last : Seen old new (e ∷ [])
  seen_last = record {
    input = c.hears.got ++ c.hears.to_come;
    unread = c.hears.to_come;
    follows = found_last e.heard c.hears;
    came = c.hears.input;
    line = line_last e.heard refl c.hears;
  }

-- ---- one exchange, and those behind it

came_then : (got to_come input : List ℕ) (n : ℕ) (written : List ℕ) (o : Option Callers)
    → n ≡ length got → IfSome o (λ c. left_of c ≡ got ++ to_come)
    → IfSome (option_map (after_write written) (option_map (after_read n) o))
    (λ c. left_of c ≡ input)
    → IfSome o (λ c. left_of c ≡ got ++ input)
came_then got to_come input n written None e h k = tt
came_then got to_come input n written (Some c) e h k =
    let behind : left_of (after_read n c) ≡ to_come =
    rw e (left_behind got to_come c h) in
    let same : left_of (after_write written (after_read n c)) ≡ left_of (after_read n c) =
    written_left written (after_read n c) (after_read n c).now in
    h ∙ ap (λ xs. got ++ xs) (sym behind ∙ sym same ∙ k)
  where
    written_left : (w : List ℕ) (c : Callers) (now : Option Served)
        → left_of (after_write w (record c { now = now })) ≡ left_of (record c { now = now })
    written_left w c None = refl
    written_left w c (Some s) = refl

-- the exchange was a request's
abbrev is_asked : Heard → Bool
is_asked (heard.Asked r) = true
is_asked other = false

ends_unless : (t : Option Trouble) (what : Heard) → is_asked what ≡ false
    → ended_by t what ≡ ended.More → ⊥
ends_unless (Some trouble.Failed) what h more = let never : ⊥ = cc in never
ends_unless (Some trouble.NoMemory) what h more = let never : ⊥ = cc in never
ends_unless None (heard.Asked r) h more = let never : ⊥ = cc in never
ends_unless None heard.End h more = let never : ⊥ = cc in never
ends_unless None (heard.Broken f) h more = let never : ⊥ = cc in never
ends_unless None heard.LineFault h more = let never : ⊥ = cc in never
ends_unless None heard.NoMemory h more = let never : ⊥ = cc in never

module _ (stays : WholeStays) (old mid new : LineSight) (e : Exchange) (es : List Exchange)
    (c : Converses old mid e) (more : ended_of e ≡ ended.More) (rest : Seen mid new es) where
  abbrev got : List ℕ
  got = c.hears.got

  abbrev input : List ℕ
  input = got ++ rest.input

  abbrev Behind : List ℕ → Type 0
  Behind bytes = GoesOnIfMore (ended_of e) es (FollowsBytes (next_call old.pending.given) bytes
      rest.unread es)

  none_more : (what : Heard) → e.heard ≡ what → is_asked what ≡ false → ⊥
  none_more what is h =
      ends_unless e.trouble what h (subst (λ x. ended_by e.trouble x ≡ ended.More) is more)

  -- more may come behind a request alone
  found_then : (what : Heard) → e.heard ≡ what
      → (h : HearsNext old.callers c.between old.pending mid.pending what) → h.got ≡ got
      → FindsHeard what old.pending.given (old.pending.bytes ++ input) rest.unread Behind
  found_then (heard.Asked r) is h same =
      let whole = stays old.pending.given (old.pending.bytes ++ h.got) rest.input r
      mid.pending.bytes h.hears.0 in
      let on : FollowsBytes (next_call old.pending.given) (mid.pending.bytes ++ rest.input)
      rest.unread es =
      subst (λ n. FollowsBytes n (mid.pending.bytes ++ rest.input) rest.unread es) h.hears.1
      rest.follows in (
        mid.pending.bytes ++ rest.input,
        subst (λ bytes. ComesNext old.pending.given bytes (Holds r (mid.pending.bytes
            ++ rest.input))) (append_assoc old.pending.bytes h.got rest.input ∙ ap (λ xs.
            old.pending.bytes ++ (xs ++ rest.input)) same) whole,
        goes_on e es (FollowsBytes (next_call old.pending.given) (mid.pending.bytes ++ rest.input)
            rest.unread es) more on,
      )
  found_then heard.End is h same = absurd (none_more heard.End is refl)
  found_then (heard.Broken f) is h same = absurd (none_more (heard.Broken f) is refl)
  found_then heard.LineFault is h same = absurd (none_more heard.LineFault is refl)
  found_then heard.NoMemory is h same = absurd (none_more heard.NoMemory is refl)

  is_read : (what : Heard) → e.heard ≡ what → is_failed_read e.heard ≡ false
  is_read (heard.Asked r) is = ap is_failed_read is
  is_read heard.End is = absurd (none_more heard.End is refl)
  is_read (heard.Broken f) is = absurd (none_more (heard.Broken f) is refl)
  is_read heard.LineFault is = absurd (none_more heard.LineFault is refl)
  is_read heard.NoMemory is = absurd (none_more heard.NoMemory is refl)

  mid_line : mid.callers
      ≡ option_map (after_write e.written) (option_map (after_read (length got)) old.callers)
  mid_line = c.gives ∙ ap (option_map (after_write e.written)) (c.hears.callers
      ∙ read_only e.heard (length got) old.callers (is_read e.heard refl))

  seen_then : Seen old new (e ∷ es)
  seen_then = record {
    input = input;
    unread = rest.unread;
    follows = found_then e.heard refl c.hears refl;
    came = came_then got c.hears.to_come rest.input (length got) e.written old.callers refl
        c.hears.input (subst (λ o. IfSome o (λ x. left_of x ≡ rest.input)) mid_line rest.came);
    line = rest.line ∙ ap (option_map (after_talk rest.unread es)) mid_line
        ∙ talked rest.unread (length got) e es old.callers (is_read e.heard refl);
  }

-- ---- all of them

seen_all : WholeStays → (old new : LineSight) (es : List Exchange) (said : Ended)
    → Talks old new es → EndsAs said es → Seen old new es
seen_all stays old new [] said talks ends = absurd ends
seen_all stays old new (e ∷ []) said talks ends =
    subst (λ line. Seen old line (e ∷ [])) (sym talks.2)
    (seen_last stays old talks.0 e said talks.1 ends.0 ends.1)
seen_all stays old new (e ∷ f ∷ es) said talks ends =
    seen_then stays old talks.0 new e (f ∷ es) talks.1 ends.0
    (seen_all stays talks.0 new (f ∷ es) said talks.2 ends.1)

pub talks_follow : WholeStays → TalksFollow
talks_follow stays old new es said empty talks ends =
    let seen = seen_all stays old new es said talks ends in record {
      input = seen.input;
      unread = seen.unread;
      follows = subst (λ (p : Pending). FollowsBytes p.given (p.bytes ++ seen.input) seen.unread es)
          empty seen.follows;
      came = seen.came;
      line = seen.line;
    }
