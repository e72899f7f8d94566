-- Parts as they are given, and as they were played.
use Rattle.std.proofs.Common.{◌≡◌, ◌∙◌, ◌+◌, ◌-◌, reverse, ◌<◌, ◌≤◌, ◌⊎◌, ◌||◌, ℕ, zero, suc, Bool, true, false, List, [], ◌∷◌, ◌++◌, length, map, drop, take, get_or, All, Option, Some, unwrap_or, ap, sym, subst, refl, arith, inl, inr}
use Rattle.std.proofs.lemmas.Bool.{false≢true}
use Rattle.std.proofs.lemmas.List.{append_assoc, append-nil, get_or-reverse, length-append, length-reverse, length-drop, length-map, map-append, nil_from_length, take_all}
use Rattle.std.proofs.lemmas.List.Elements.{All-push}
use Rattle.std.specs.List.{list_any}
use Rattle.atomic_table.specs.Seated.{TableId}
use Rattle.rb_board.specs.Boards.{PassValue}
use Rattle.rb_log.specs.Told.{Told}
use Rattle.rb_serve.specs.declared.role.Post.{Post}
use Rattle.rb_serve.specs.declared.role.Post.TheVariants.{Door, Worker}
use Rattle.rb_serve.specs.declared.role.Role.{Role}
use Rattle.rb_serve.specs.declared.door_end.DoorEnd.{DoorEnd}
use Rattle.rb_wire.specs.Hearing.{Pending}
use Rattle.rb_work.specs.declared.pumped.Pumped.TheVariants as pumped
use Rattle.rb_serve.specs.declared.door_end.DoorEnd.TheVariants as end
use Rattle.rb_serve.specs.Roles.{AllPlayed, AreGiven, CanPlay, HasPlayed, IsOf, IsSame, IsTaken, IsWhole, MayClose, MayWork, NoneFell, OneRose, Senses, is_failed, line_in, lines_of, passes_of, spawner_in, spawners_of}

-- ---- lists

pub head_is : {A : Type 0} (x y : A) (xs ys : List A) → x ∷ xs ≡ y ∷ ys → x ≡ y
head_is x y xs ys h = ap (λ l. get_or l 0 x) h

pub tail_is : {A : Type 0} (x y : A) (xs ys : List A) → x ∷ xs ≡ y ∷ ys → xs ≡ ys
tail_is x y xs ys h = ap (λ l. drop 1 l) h

pub some_is : {A : Type 0} (x y : A) → Some x ≡ Some y → x ≡ y
some_is x y h = ap (λ o. unwrap_or o x) h

-- what stands behind so many of a list
pub behind : {A : Type 0} (xs : List A) (n : ℕ) (p : A) (ps : List A) → p ∷ ps ≡ drop n xs
    → (n < length xs) × (get_or xs n p ≡ p) × (ps ≡ drop (suc n) xs)
behind [] zero p ps h = absurd (let n = ap length h in omega (arith, n))
behind [] (suc n) p ps h = absurd (let n = ap length h in omega (arith, n))
behind (x ∷ xs) zero p ps h = (omega arith, sym (head_is p x ps xs h), tail_is p x ps xs h)
behind (x ∷ xs) (suc n) p ps h =
    let more = behind xs n p ps h in
    let low = more.0 in (omega (arith, low), more.1, more.2)

pub counted : {A : Type 0} (old new : List A) (x : A) (n k : ℕ) → new ≡ old ++ x ∷ []
    → length old ≡ n + k → length new ≡ n + (k + 1)
counted old new x n k is h =
    omega (arith, ap length is, length-append old (x ∷ []), h)

-- what each has, each has the other way round
pub all_turned : {A : Type 0} (P : A → Type 0) (xs : List A) → All P xs → All P (reverse xs)
all_turned P xs each k d lt =
    let long = length-reverse xs in
    subst P (sym (get_or-reverse xs k d (omega (arith, lt, long))))
    (each (length xs - 1 - k) d (omega (arith, lt, long)))

-- what a slice wrote over all of a list
pub refilled : {A : Type 0} (n : ℕ) (ws xs : List A) → n ≡ length ws → length xs ≡ length ws
    → take n (ws ++ drop (length ws) xs) ≡ ws
refilled n ws xs is same =
    let none = nil_from_length (drop (length ws) xs) (omega (
      arith,
      length-drop (length ws) xs,
      same,
    )) in
    ap (λ l. take n (ws ++ l)) none
    ∙ (ap (take n) (append-nil ws) ∙ take_all n ws (omega (arith, is)))

-- what goes back
pub back_one : {A : Type 0} (old mid rest all whole new : List A) → new ≡ old ++ mid
    → mid ++ rest ≡ all → old ++ all ≡ whole → new ++ rest ≡ whole
back_one old mid rest all whole new is part h =
    ap (λ l. l ++ rest) is ∙ (append_assoc old mid rest ∙ (ap (λ l. old ++ l) part ∙ h))

pub room_before : {A : Type 0} (old mid rest all : List A) (room : ℕ) → mid ++ rest ≡ all
    → length old + length all ≤ room → length old + length mid ≤ room
room_before old mid rest all room part h =
    omega (arith, ap length part, length-append mid rest, h)

pub room_behind : {A : Type 0} (old mid rest all new : List A) (room : ℕ) → new ≡ old ++ mid
    → mid ++ rest ≡ all → length old + length all ≤ room → length new + length rest ≤ room
room_behind old mid rest all new room is part h =
    omega (
      arith,
      ap length is,
      length-append old mid,
      ap length part,
      length-append mid rest,
      h,
    )

-- each is the same pass
abbrev pub AllSame : List PassValue → List PassValue → Type 0
AllSame [] [] = Unit {0}
AllSame (p ∷ ps) (q ∷ qs) = IsSame p q × AllSame ps qs
AllSame ps qs = ⊥

pub either : (a b : Bool) → (a || b) ≡ true → (a ≡ true) ⊎ (b ≡ true)
either true b h = inl refl
either false b h = inr h

next_either : (A B : Type 0) (b : Type 0) → (b → B) → A ⊎ b → A ⊎ B
next_either A B b f (inl x) = inl x
next_either A B b f (inr y) = inr (f y)

-- ---- lines and spawners

module _ {L S : Type 0} where
  pub line_then : (p : Post L S) (a b : List L) → line_in p (a ++ b) ≡ line_in p a ++ b
  line_then (Door line buffer number e) a b = refl
  line_then (Worker spawner number said) a b = refl

  pub lines_append : (xs ys : List (Role L S)) → lines_of (xs ++ ys) ≡ lines_of xs ++ lines_of ys
  lines_append [] ys = refl
  lines_append (r ∷ xs) ys =
      ap (line_in r.post) (lines_append xs ys) ∙ line_then r.post (lines_of xs) (lines_of ys)

  pub spawner_then : (p : Post L S) (a b : List S) → spawner_in p (a ++ b) ≡ spawner_in p a ++ b
  spawner_then (Door line buffer number e) a b = refl
  spawner_then (Worker spawner number said) a b = refl

  pub spawners_append : (xs ys : List (Role L S))
      → spawners_of (xs ++ ys) ≡ spawners_of xs ++ spawners_of ys
  spawners_append [] ys = refl
  spawners_append (r ∷ xs) ys =
      ap (spawner_in r.post) (spawners_append xs ys)
      ∙ spawner_then r.post (spawners_of xs) (spawners_of ys)

  -- ---- one more part

  passes_more : (news : List (Role L S)) (r : Role L S) (rest : List (Option PassValue))
      → passes_of (news ++ r ∷ []) ++ rest ≡ passes_of news ++ r.pass ∷ rest
  passes_more news r rest =
      ap (λ l. l ++ rest) (map-append (λ (x : Role L S). x.pass) news (r ∷ []))
      ∙ append_assoc (passes_of news) (r.pass ∷ []) rest

  lines_more : (news : List (Role L S)) (r : Role L S) (rest : List L)
      → lines_of (news ++ r ∷ []) ++ rest ≡ lines_of news ++ (line_in r.post [] ++ rest)
  lines_more news r rest =
      ap (λ l. l ++ rest) (lines_append news (r ∷ []))
      ∙ append_assoc (lines_of news) (line_in r.post []) rest

  spawners_more : (news : List (Role L S)) (r : Role L S) (rest : List S)
      → spawners_of (news ++ r ∷ []) ++ rest ≡ spawners_of news ++ (spawner_in r.post [] ++ rest)
  spawners_more news r rest =
      ap (λ l. l ++ rest) (spawners_append news (r ∷ []))
      ∙ append_assoc (spawners_of news) (spawner_in r.post []) rest

  -- a part more is given, with the next pass, and the next line or spawner
  pub one_more : (olds news : List (Role L S)) (all rest : List PassValue) (p : PassValue)
      (post : Post L S) (lines lines' : List L) (spawners spawners' : List S)
      → AreGiven olds news all (p ∷ rest) lines (line_in post [] ++ lines') spawners
      (spawner_in post [] ++ spawners') → CanPlay (record { pass = Some p; post = post })
      → AreGiven olds (news ++ record { pass = Some p; post = post } ∷ []) all rest lines lines'
      spawners spawners'
  one_more olds news all rest p post lines lines' spawners spawners' given can =
      let r : Role L S = record { pass = Some p; post = post } in
      record {
        passes_are = passes_more news r (map Some rest) ∙ given.passes_are;
        lines_are = lines_more news r lines' ∙ given.lines_are;
        spawners_are = spawners_more news r spawners' ∙ given.spawners_are;
        may = All-push CanPlay news r given.may can;
      }

  pub door_more : (olds news : List (Role L S)) (all rest : List PassValue) (p : PassValue)
      (line : L) (buffer : Pending) (number : ℕ) (lines lines' : List L)
      → AreGiven olds news all (p ∷ rest) lines (line ∷ lines') [] [] → MayClose p number
      → AreGiven olds
      (news ++ record { pass = Some p; post = Door line buffer number end.Well } ∷ []) all rest
      lines lines' [] []
  door_more olds news all rest p line buffer number lines lines' given may =
      one_more olds news all rest p (Door line buffer number end.Well) lines lines' [] [] given
      (p, refl, may)

  pub worker_more : (olds news : List (Role L S)) (all rest : List PassValue) (p : PassValue)
      (spawner : S) (number : ℕ) (spawners spawners' : List S)
      → AreGiven olds news all (p ∷ rest) [] [] spawners (spawner ∷ spawners') → MayWork p number
      → AreGiven olds
      (news ++ record { pass = Some p; post = Worker spawner number pumped.Closed } ∷ []) all rest
      [] [] spawners spawners'
  worker_more olds news all rest p spawner number spawners spawners' given may =
      one_more olds news all rest p (Worker spawner number pumped.Closed) [] [] spawners spawners'
      given (p, refl, may)

  -- ---- parts that were played

  module _ (senses : Senses L S) where
    pub all_played : (xs ys : List (Role L S)) → length ys ≡ length xs
        → ((k : ℕ) (d : Role L S) → k < length xs
        → HasPlayed senses (get_or xs k d) (get_or ys k d))
        → AllPlayed senses xs ys
    all_played [] [] len h = tt
    all_played [] (y ∷ ys) len h = absurd (omega (arith, len))
    all_played (x ∷ xs) [] len h = absurd (omega (arith, len))
    all_played (x ∷ xs) (y ∷ ys) len h = (
      h 0 x (omega arith),
      all_played xs ys (omega (arith, len)) (λ k d lt. h (suc k) d (omega (arith, lt))),
    )

    pub played_length : (xs ys : List (Role L S)) → AllPlayed senses xs ys
        → length ys ≡ length xs
    played_length [] [] h = refl
    played_length [] (y ∷ ys) h = absurd h
    played_length (x ∷ xs) [] h = absurd h
    played_length (x ∷ xs) (y ∷ ys) h = ap suc (played_length xs ys h.1)

    pub played_at : (x y a b : Role L S) → a ≡ x → b ≡ y → HasPlayed senses a b
        → HasPlayed senses x y
    played_at x y a b is left h =
        subst (λ (r : Role L S). HasPlayed senses r y) is
        (subst (λ (r : Role L S). HasPlayed senses a r) left h)

    played_nth : (xs ys : List (Role L S)) (k : ℕ) (d : Role L S) → AllPlayed senses xs ys
        → k < length xs → HasPlayed senses (get_or xs k d) (get_or ys k d)
    played_nth [] ys k d h lt = absurd (omega (arith, lt))
    played_nth (x ∷ xs) [] k d h lt = absurd h
    played_nth (x ∷ xs) (y ∷ ys) zero d h lt = h.0
    played_nth (x ∷ xs) (y ∷ ys) (suc k) d h lt = played_nth xs ys k d h.1 (omega (arith, lt))

    -- parts that were played the other way round
    pub played_turned : (xs ys : List (Role L S)) → AllPlayed senses (reverse xs) ys
        → AllPlayed senses xs (reverse ys)
    played_turned xs ys h =
        let long = played_length (reverse xs) ys h in
        let turned = length-reverse xs in
        let back = length-reverse ys in
        all_played xs (reverse ys) (omega (arith, long, turned, back))
        (λ k d lt.
        let j = length xs - 1 - k in
        let from : get_or (reverse xs) j d ≡ get_or xs k d =
        get_or-reverse xs j d (omega (arith, lt))
        ∙ ap (λ i. get_or xs i d) (omega (arith, lt)) in
        let to : get_or ys j d ≡ get_or (reverse ys) k d =
        ap (λ i. get_or ys i d) (omega (arith, long, turned))
        ∙ sym (get_or-reverse ys k d (omega (arith, lt, long, turned))) in
        played_at _ _ _ _ from to (played_nth (reverse xs) ys j d h (omega (arith, lt, turned))))

    lines_by : (p q : Post L S) (f f' : Told) (xs ys : List L) → IsTaken senses f f' p q
        → NoneFell senses.line_faults xs ys
        → NoneFell senses.line_faults (line_in p xs) (line_in q ys)
    lines_by (Door l b n e) (Door l' b' n' e') f f' xs ys t h = (t.2, h)
    lines_by (Door l b n e) (Worker s m said) f f' xs ys t h = absurd t
    lines_by (Worker s m said) (Door l b n e) f f' xs ys t h = absurd t
    lines_by (Worker s m said) (Worker s' m' said') f f' xs ys t h = h

    pub lines_fell : (xs ys : List (Role L S)) → AllPlayed senses xs ys
        → NoneFell senses.line_faults (lines_of xs) (lines_of ys)
    lines_fell [] [] h = tt
    lines_fell [] (y ∷ ys) h = absurd h
    lines_fell (x ∷ xs) [] h = absurd h
    lines_fell (x ∷ xs) (y ∷ ys) h =
        lines_by x.post y.post _ _ (lines_of xs) (lines_of ys) h.0.taken (lines_fell xs ys h.1)

    spawners_by : (p q : Post L S) (f f' : Told) (xs ys : List S)
        → IsTaken senses f f' p q → NoneFell (λ s. (senses.shown s).faults) xs ys
        → NoneFell (λ s. (senses.shown s).faults) (spawner_in p xs) (spawner_in q ys)
    spawners_by (Door l b n e) (Door l' b' n' e') f f' xs ys t h = h
    spawners_by (Door l b n e) (Worker s m said) f f' xs ys t h = absurd t
    spawners_by (Worker s m said) (Door l b n e) f f' xs ys t h = absurd t
    spawners_by (Worker s m said) (Worker s' m' said') f f' xs ys t h = (t.2, h)

    pub spawners_fell : (xs ys : List (Role L S)) → AllPlayed senses xs ys
        → NoneFell (λ s. (senses.shown s).faults) (spawners_of xs) (spawners_of ys)
    spawners_fell [] [] h = tt
    spawners_fell [] (y ∷ ys) h = absurd h
    spawners_fell (x ∷ xs) [] h = absurd h
    spawners_fell (x ∷ xs) (y ∷ ys) h =
        spawners_by x.post y.post _ _ (spawners_of xs) (spawners_of ys) h.0.taken
        (spawners_fell xs ys h.1)

    -- ---- whose count rose

    failed_is : (l : L) (b : _) (n : ℕ) (e : DoorEnd)
        → is_failed {L = L} {S = S} (Door l b n e) ≡ true → e ≡ end.Failed
    failed_is l b n end.Well h = absurd (false≢true h)
    failed_is l b n end.Wanting h = absurd (false≢true h)
    failed_is l b n end.Failed h = refl

    rose_by : (p q : Post L S) (f f' : Told) (xs ys : List L) → IsTaken senses f f' p q
        → (is_failed q ≡ true) ⊎ OneRose senses.line_faults xs ys
        → OneRose senses.line_faults (line_in p xs) (line_in q ys)
    rose_by (Door l b n e) (Door l' b' n' e') f f' xs ys t (inl is) =
        inl (t.3 (failed_is l' b' n' e' is))
    rose_by (Door l b n e) (Door l' b' n' e') f f' xs ys t (inr h) = inr h
    rose_by (Door l b n e) (Worker s m said) f f' xs ys t h = absurd t
    rose_by (Worker s m said) (Door l b n e) f f' xs ys t h = absurd t
    rose_by (Worker s m said) (Worker s' m' said') f f' xs ys t (inl is) = absurd (false≢true is)
    rose_by (Worker s m said) (Worker s' m' said') f f' xs ys t (inr h) = h

    pub one_rose : (xs ys : List (Role L S)) → AllPlayed senses xs ys
        → list_any (λ (r : Role L S). is_failed r.post) ys ≡ true
        → OneRose senses.line_faults (lines_of xs) (lines_of ys)
    one_rose [] [] h is = absurd (false≢true is)
    one_rose [] (y ∷ ys) h is = absurd h
    one_rose (x ∷ xs) [] h is = absurd h
    one_rose (x ∷ xs) (y ∷ ys) h is =
        rose_by x.post y.post _ _ (lines_of xs) (lines_of ys) h.0.taken
        (next_either _ _ _ (one_rose xs ys h.1)
        (either (is_failed y.post) (list_any (λ (r : Role L S). is_failed r.post) ys) is))

    -- ---- whose passes they are

    same_by : (x y : Role L S) (p q : PassValue) → HasPlayed senses x y
        → x.pass ≡ Some p → y.pass ≡ Some q → IsSame p q
    same_by x y p q h was is =
        subst (λ a. IsSame a q) (some_is h.pass p (sym h.had ∙ was))
        (subst (IsSame h.pass) (some_is h.left q (sym h.has ∙ is)) h.same)

    pub passes_same : (xs ys : List (Role L S)) (ps qs : List PassValue)
        → AllPlayed senses xs ys → passes_of xs ≡ map Some ps
        → passes_of ys ≡ map Some qs → AllSame ps qs
    passes_same [] [] [] [] h was is = tt
    passes_same [] [] [] (q ∷ qs) h was is = absurd (let n = ap length is in omega (arith, n))
    passes_same [] [] (p ∷ ps) qs h was is = absurd (let n = ap length was in omega (arith, n))
    passes_same [] (y ∷ ys) ps qs h was is = absurd h
    passes_same (x ∷ xs) [] ps qs h was is = absurd h
    passes_same (x ∷ xs) (y ∷ ys) [] qs h was is =
        absurd (let n = ap length was in omega (arith, n))
    passes_same (x ∷ xs) (y ∷ ys) (p ∷ ps) [] h was is =
        absurd (let n = ap length is in omega (arith, n))
    passes_same (x ∷ xs) (y ∷ ys) (p ∷ ps) (q ∷ qs) h was is = (
      same_by x y p q h.0 (head_is _ _ _ _ was) (head_is _ _ _ _ is),
      passes_same xs ys ps qs h.1 (tail_is _ _ _ _ was) (tail_is _ _ _ _ is),
    )

    -- each has its pass again
    pub all_whole : (xs ys : List (Role L S)) → AllPlayed senses xs ys
        → All IsWhole ys
    all_whole [] [] h k d lt = absurd (omega (arith, lt))
    all_whole [] (y ∷ ys) h k d lt = absurd h
    all_whole (x ∷ xs) [] h k d lt = absurd h
    all_whole (x ∷ xs) (y ∷ ys) h zero d lt = (h.0.left, h.0.has)
    all_whole (x ∷ xs) (y ∷ ys) h (suc k) d lt = all_whole xs ys h.1 k d (omega (arith, lt))

  -- parts with passes of a board are of it
  pub are_of : (id : TableId) (rs : List (Role L S)) (ps : List PassValue)
      → passes_of rs ≡ map Some ps → All (λ (p : PassValue). p.id ≡ id) ps → All (IsOf id) rs
  are_of id [] ps is h k d lt = absurd (omega (arith, lt))
  are_of id (r ∷ rs) [] is h k d lt = absurd (let n = ap length is in omega (arith, n))
  are_of id (r ∷ rs) (p ∷ ps) is h zero d lt = (p, head_is _ _ _ _ is, h 0 p (omega arith))
  are_of id (r ∷ rs) (p ∷ ps) is h (suc k) d lt =
      are_of id rs ps (tail_is _ _ _ _ is) (λ j e low. h (suc j) e (omega (arith, low))) k d
      (omega (arith, lt))

  -- what all parts have, where nothing is left
  pub all_passes : (some all : List (Role L S)) (ps qs rs : List PassValue)
      → passes_of some ++ map Some qs ≡ map Some ps
      → passes_of all ++ map Some rs ≡ passes_of some ++ map Some qs → rs ≡ []
      → passes_of all ≡ map Some ps
  all_passes some all ps qs rs first then_ none =
      sym (append-nil (passes_of all))
      ∙ (ap (λ l. passes_of all ++ map Some l) (sym none) ∙ (then_ ∙ first))

  pub all_lines : (some all : List (Role L S)) (lines rest : List L)
      → lines_of some ++ rest ≡ lines → lines_of all ++ [] ≡ lines_of some ++ [] → rest ≡ []
      → lines_of all ≡ lines
  all_lines some all lines rest first then_ none =
      sym (append-nil (lines_of all))
      ∙ (then_ ∙ (ap (λ l. lines_of some ++ l) (sym none) ∙ first))

  pub all_spawners : (some all : List (Role L S)) (spawners rest : List S)
      → spawners_of some ++ [] ≡ [] → spawners_of all ++ rest ≡ spawners_of some ++ spawners
      → rest ≡ [] → spawners_of all ≡ spawners
  all_spawners some all spawners rest first then_ none =
      sym (append-nil (spawners_of all))
      ∙ (ap (λ l. spawners_of all ++ l) (sym none)
      ∙ (then_ ∙ ap (λ l. l ++ spawners) (sym (append-nil (spawners_of some)) ∙ first)))

pub fell_length : {A : Type 0} (faults : A → ℕ) (xs ys : List A) → NoneFell faults xs ys
    → length ys ≡ length xs
fell_length faults [] [] h = refl
fell_length faults [] (y ∷ ys) h = absurd h
fell_length faults (x ∷ xs) [] h = absurd h
fell_length faults (x ∷ xs) (y ∷ ys) h = ap suc (fell_length faults xs ys h.1)

pub none_fell : {A : Type 0} (faults : A → ℕ) (xs : List A) → NoneFell faults xs xs
none_fell faults [] = tt
none_fell faults (x ∷ xs) = (omega arith, none_fell faults xs)

-- ---- parts with their passes

pub whole_first : {L S : Type 0} (rs : List (Role L S)) (r : Role L S) (rest : List (Role L S))
    → rs ≡ r ∷ rest → All IsWhole rs → IsWhole r
whole_first rs r rest is h = subst (All IsWhole) is h 0 r (omega arith)

pub whole_rest : {L S : Type 0} (rs : List (Role L S)) (r : Role L S) (rest : List (Role L S))
    → rs ≡ r ∷ rest → All IsWhole rs → All IsWhole rest
whole_rest rs r rest is h k d lt = subst (All IsWhole) is h (suc k) d (omega (arith, lt))

some_length : {A : Type 0} (xs : List A) → length (map Some xs) ≡ length xs
some_length xs = length-map xs Some

pub one_longer : {A : Type 0} (old new : List A) (x : Option A)
    → map Some new ≡ map Some old ++ x ∷ [] → length new ≡ length old + 1
one_longer old new x is =
    omega (
      arith,
      ap length is,
      length-append (map Some old) (x ∷ []),
      some_length old,
      some_length new,
    )
