-- Parts as they are given, and as the passes go back.
use Rattle.std.proofs.Common.{◌≡◌, ◌∙◌, ◌+◌, ◌-◌, ◌<◌, ◌≤◌, ◌⊎◌, ℕ, zero, suc, List, [], ◌∷◌, ◌++◌, length, map, filter, nat_eq, get_or, reverse, All, Contains, ap, sym, subst, refl, arith, inl, inr}
use Rattle.std.proofs.lemmas.Bool.{eq-eqb}
use Rattle.std.proofs.lemmas.List.{append_assoc, get_or-map, length-append, length-map, map-append}
use Rattle.std.proofs.lemmas.List.Elements.{All-push, All-set}
use Rattle.atomic_table.specs.Seated.{TableId}
use Rattle.rb_causes.specs.declared.row.Row.{Row}
use Rattle.rb_log.specs.Sums.{numbers_below}
use Rattle.rb_log.proofs.Numbers.{below_at, below_length}
use Rattle.rb_board.specs.Boards.{BoardValue, PassValue, first_passes}
use Rattle.rb_board.specs.History.{desk_rights, door_count}
use Rattle.rb_board.specs.Seats.{first_seen}
use Rattle.rb_board.specs.declared.view.Opening.{Opening}
use Rattle.rb_board.proofs.Lists.{to_filter}
use Rattle.rb_board_tests.proofs.Passes.{plays_still}
use Rattle.rb_board_tests.specs.Kept.{AreCast, AreNew, AreOf, AreReady, HasPlayed, IsPlayed, IsSame, MayPlay, RoleValue, opened_log, pass_of}

-- ---- lists

pub below_contains : (n k : ℕ) → k < n → Contains (numbers_below n) k
below_contains n k lt = (k, omega (arith, lt, below_length n), below_at n k k lt)

there : {A : Type 0} (xs rest : List A) (y d : A) → get_or (xs ++ y ∷ rest) (length xs) d ≡ y
there [] rest y d = refl
there (x ∷ xs) rest y d = there xs rest y d

-- the pass behind so many
abbrev numbered : TableId → Opening → ℕ → PassValue
numbered id o n = record { id = id; seen = first_seen o n }

pub count_new : (id : TableId) (o : Opening) (n : ℕ) → length (first_passes id o n) ≡ n
count_new id o n = length-map (numbers_below n) (numbered id o) ∙ below_length n

module _ (id : TableId) (o : Opening) (n : ℕ) (xs rest : List PassValue) (p : PassValue)
    (h : xs ++ p ∷ rest ≡ first_passes id o n) where
  pub within : length xs < n
  within = omega (arith, ap length h, length-append xs (p ∷ rest), count_new id o n)

  pub pass_is : p ≡ numbered id o (length xs)
  pass_is =
      sym (there xs rest p p)
      ∙ (ap (λ l. get_or l (length xs) p) h
      ∙ (get_or-map (numbered id o) (numbers_below n) (length xs) 0 p
      (omega (arith, within, below_length n))
      ∙ ap (numbered id o) (below_at n (length xs) 0 within)))

-- ---- what a new pass may do

abbrev Works : List Row → ℕ → ℕ → Type 0
Works log number worker =
    Contains (filter (λ w. nat_eq (w + door_count (reverse log)) number)
    (desk_rights log).workers) worker

abbrev Closes : List Row → ℕ → Type 0
Closes log number = Contains (filter (λ d. nat_eq d number) (desk_rights log).doors) number

module _ (id : TableId) (o : Opening) (doors workers : ℕ) (is : o.log ≡ opened_log doors workers)
    (number : ℕ) (h : number < doors + workers) where
  pub plays : MayPlay (record { pass = numbered id o number; place = number; doors = doors })
  plays = record {
    door = λ lt. subst (λ log. Closes log number) (sym is)
        (to_filter (λ d. nat_eq d number) (numbers_below doors) number
        (eq-eqb number number refl) (below_contains doors number lt));
    worker = λ le. subst (λ log. Works log number (number - doors)) (sym is)
        (to_filter (λ w. nat_eq (w + doors) number) (numbers_below workers) (number - doors)
        (eq-eqb (number - doors + doors) number (omega (arith, le)))
        (below_contains workers (number - doors) (omega (arith, le, h))));
  }

-- ---- one more part

module _ (passes rest : List PassValue) (roles : List RoleValue) (p : PassValue)
    (doors place : ℕ) (new : AreNew doors passes) (front : map pass_of roles ++ p ∷ rest ≡ passes)
    (count : length roles ≡ place) (may : All MayPlay roles) where
  abbrev role : RoleValue
  role = record { pass = p; place = place; doors = doors }

  same : map pass_of roles ++ p ∷ rest ≡ first_passes new.0 new.1 (doors + new.2)
  same = front ∙ new.5

  counted : length (map pass_of roles) ≡ place
  counted = length-map roles pass_of ∙ count

  pub in_reach : place < doors + new.2
  in_reach = omega (arith, counted, within new.0 new.1 (doors + new.2) (map pass_of roles) rest p same)

  one_plays : MayPlay role
  one_plays =
      subst (λ q. MayPlay (record { pass = q; place = place; doors = doors }))
      (sym (pass_is new.0 new.1 (doors + new.2) (map pass_of roles) rest p same
      ∙ ap (numbered new.0 new.1) counted))
      (plays new.0 new.1 doors new.2 new.3 place in_reach)

  pub more_play : All MayPlay (roles ++ role ∷ [])
  more_play = All-push MayPlay roles role may one_plays

  pub more_front : map pass_of (roles ++ role ∷ []) ++ rest ≡ passes
  more_front =
      ap (λ l. l ++ rest) (map-append pass_of roles (role ∷ []))
      ∙ (append_assoc (map pass_of roles) (p ∷ []) rest ∙ front)

-- those that have their parts and those that are left are all
pub all_left : (passes : List PassValue) (roles : List RoleValue) (rest : List PassValue)
    → map pass_of roles ++ rest ≡ passes → length roles + length rest ≡ length passes
all_left passes roles rest h =
    ap (λ n. n + length rest) (sym (length-map roles pass_of))
    ∙ (sym (length-append (map pass_of roles) rest) ∙ ap length h)

-- ---- all parts

abbrev id_of : RoleValue → TableId
id_of r = r.pass.id

abbrev number_of : RoleValue → ℕ
number_of r = r.pass.seen.number

map_map : {A B C : Type 0} (f : A → B) (g : B → C) (xs : List A)
    → map (λ x. g (f x)) xs ≡ map g (map f xs)
map_map f g [] = refl
map_map f g (x ∷ xs) = ap (λ l. g (f x) ∷ l) (map_map f g xs)

all_map : {A B : Type 0} (P : B → Type 0) (f : A → B) (xs : List A) → ((x : A) → P (f x))
    → All P (map f xs)
all_map P f [] h k d lt = absurd (omega (arith, lt))
all_map P f (x ∷ xs) h zero d lt = h x
all_map P f (x ∷ xs) h (suc k) d lt = all_map P f xs h k d (omega (arith, lt))

all_under : {A B : Type 0} (P : B → Type 0) (f : A → B) (xs : List A) → All P (map f xs)
    → All (λ x. P (f x)) xs
all_under P f [] h k d lt = absurd (omega (arith, lt))
all_under P f (x ∷ xs) h zero d lt = h zero (f d) (omega arith)
all_under P f (x ∷ xs) h (suc k) d lt =
    all_under P f xs (λ j e l. h (suc j) e (omega (arith, l))) k d (omega (arith, lt))

all_over : {A B : Type 0} (P : B → Type 0) (f : A → B) (xs : List A) → All (λ x. P (f x)) xs
    → All P (map f xs)
all_over P f [] h k d lt = absurd (omega (arith, lt))
all_over P f (x ∷ xs) h zero d lt = h zero x (omega arith)
all_over P f (x ∷ xs) h (suc k) d lt =
    all_over P f xs (λ j e l. h (suc j) e (omega (arith, l))) k d (omega (arith, lt))

numbers_new : (id : TableId) (o : Opening) (ns : List ℕ)
    → map (λ (p : PassValue). p.seen.number) (map (numbered id o) ns) ≡ ns
numbers_new id o [] = refl
numbers_new id o (n ∷ ns) = ap (λ ms. n ∷ ms) (numbers_new id o ns)

-- the passes that a board made, as they are
pub new_ids : (board : BoardValue) (passes : List PassValue) (id : TableId) (o : Opening)
    (count : ℕ) → passes ≡ first_passes id o count → board.id ≡ id
    → All (λ (p : PassValue). p.id ≡ board.id) passes
new_ids board passes id o count new same =
    subst (All (λ (p : PassValue). p.id ≡ board.id)) (sym new)
    (all_map (λ (p : PassValue). p.id ≡ board.id) (numbered id o) (numbers_below count)
    (λ n. sym same))

pub new_numbers : (board : BoardValue) (passes : List PassValue) (id : TableId) (o : Opening)
    (count : ℕ) → passes ≡ first_passes id o count → board.made ≡ count
    → map (λ (p : PassValue). p.seen.number) passes ≡ numbers_below board.made
new_numbers board passes id o count new made =
    ap (map (λ (p : PassValue). p.seen.number)) new
    ∙ (numbers_new id o (numbers_below count) ∙ ap numbers_below (sym made))

-- the passes that a board made have their parts
pub are_ready : (board : BoardValue) (passes : List PassValue) (roles : List RoleValue)
    (id : TableId) (o : Opening) (count : ℕ) → passes ≡ first_passes id o count
    → board.id ≡ id → board.made ≡ count → AreCast passes roles → AreReady board roles
are_ready board passes roles id o count new same made cast = record {
  all = record {
    ids = all_under (λ (p : PassValue). p.id ≡ board.id) pass_of roles
        (new_ids board (map pass_of roles) id o count (cast.0 ∙ new) same);
    numbers =
        map_map pass_of (λ (p : PassValue). p.seen.number) roles
        ∙ new_numbers board (map pass_of roles) id o count (cast.0 ∙ new) made;
  };
  may = cast.1;
}

-- they go back
pub ids_back : (board : BoardValue) (roles : List RoleValue) (passes : List PassValue)
    → passes ≡ map pass_of roles → AreOf board roles → All (λ (p : PassValue). p.id ≡ board.id) passes
ids_back board roles passes is h =
    subst (All (λ (p : PassValue). p.id ≡ board.id)) (sym is)
    (all_over (λ (p : PassValue). p.id ≡ board.id) pass_of roles h.ids)

pub numbers_back : (board : BoardValue) (roles : List RoleValue) (passes : List PassValue)
    → passes ≡ map pass_of roles → AreOf board roles
    → map (λ (p : PassValue). p.seen.number) passes ≡ numbers_below board.made
numbers_back board roles passes is h =
    ap (map (λ (p : PassValue). p.seen.number)) is
    ∙ (sym (map_map pass_of (λ (p : PassValue). p.seen.number) roles) ∙ h.numbers)

-- one more of them goes back
pub one_back : (xs : List PassValue) (p : PassValue) (place doors : ℕ) (roles rest : List RoleValue)
    (all : List PassValue) → roles ≡ record { pass = p; place = place; doors = doors } ∷ rest
    → xs ++ map pass_of roles ≡ all → (xs ++ p ∷ []) ++ map pass_of rest ≡ all
one_back xs p place doors roles rest all is h =
    append_assoc xs (p ∷ []) (map pass_of rest)
    ∙ (ap (λ rs. xs ++ map pass_of rs) (sym is) ∙ h)

-- ---- parts as they are played

map_set_same : {A B : Type 0} (f : A → B) (xs : List A) (k : ℕ) (y d : A)
    → f y ≡ f (get_or xs k d) → map f (Rattle.std.proofs.Common.set xs k y) ≡ map f xs
map_set_same f [] zero y d h = refl
map_set_same f [] (suc k) y d h = refl
map_set_same f (x ∷ xs) zero y d h = ap (λ b. b ∷ map f xs) h
map_set_same f (x ∷ xs) (suc k) y d h = ap (λ l. f x ∷ l) (map_set_same f xs k y d h)

-- the one at this place has played
pub set_ready : (board : BoardValue) (roles : List RoleValue) (place : ℕ) (d new : RoleValue)
    → place < length roles → IsSame (get_or roles place d).pass new.pass → MayPlay new
    → AreReady board roles → AreReady board (Rattle.std.proofs.Common.set roles place new)
set_ready board roles place d new lt same may h = record {
  all = record {
    ids = All-set (λ (r : RoleValue). r.pass.id ≡ board.id) roles place new
        (same.id ∙ h.all.ids place d lt) h.all.ids;
    numbers = map_set_same number_of roles place new d same.number ∙ h.all.numbers;
  };
  may = All-set MayPlay roles place new may h.may;
}

set_out : {A : Type 0} (xs : List A) (k : ℕ) (y : A) → length xs ≤ k
    → Rattle.std.proofs.Common.set xs k y ≡ xs
set_out [] zero y h = refl
set_out [] (suc k) y h = refl
set_out (x ∷ xs) zero y h = absurd (omega (arith, h))
set_out (x ∷ xs) (suc k) y h = ap (λ zs. x ∷ zs) (set_out xs k y (omega (arith, h)))

more : (a b : ℕ) → (a < b) ⊎ (b ≤ a) → (suc a < suc b) ⊎ (suc b ≤ suc a)
more a b (inl h) = inl (omega (arith, h))
more a b (inr h) = inr (omega (arith, h))

in_or_out : (a b : ℕ) → (a < b) ⊎ (b ≤ a)
in_or_out zero zero = inr (omega arith)
in_or_out zero (suc b) = inl (omega arith)
in_or_out (suc a) zero = inr (omega arith)
in_or_out (suc a) (suc b) = more a b (in_or_out a b)

module _ (board : BoardValue) (roles : List RoleValue) (place : ℕ) (old new : RoleValue)
    (read : old ≡ get_or roles place old) (h : HasPlayed old new) (ready : AreReady board roles) where
  set_there : (place < length roles) ⊎ (length roles ≤ place)
      → AreReady board (Rattle.std.proofs.Common.set roles place new)
  set_there (inl lt) =
      set_ready board roles place old new lt
      (subst (λ (r : RoleValue). IsSame r.pass new.pass) read h.kept.same)
      (plays_still old new h.kept h.place h.doors
      (subst MayPlay (sym read) (ready.may place old lt))) ready
  set_there (inr out) = subst (AreReady board) (sym (set_out roles place new out)) ready

  -- the one at this place has asked
  pub set_played : AreReady board (Rattle.std.proofs.Common.set roles place new)
  set_played = set_there (in_or_out place (length roles))

same_map : {A B : Type 0} (f : A → B) (xs ys : List A) → length ys ≡ length xs
    → ((k : ℕ) (d : A) → k < length xs → f (get_or ys k d) ≡ f (get_or xs k d))
    → map f ys ≡ map f xs
same_map f [] [] len h = refl
same_map f [] (y ∷ ys) len h = absurd (omega (arith, len))
same_map f (x ∷ xs) [] len h = absurd (omega (arith, len))
same_map f (x ∷ xs) (y ∷ ys) len h =
    (λ i. h zero x (omega arith) i ∷ same_map f xs ys (omega (arith, len))
    (λ k d lt. h (suc k) d (omega (arith, lt))) i)

-- each has the pass that it had
pub same_parts : (board : BoardValue) (old new : List RoleValue) → length new ≡ length old
    → ((k : ℕ) (d : RoleValue) → k < length old
    → IsSame (get_or old k d).pass (get_or new k d).pass)
    → AreOf board old → AreOf board new
same_parts board old new len h all = record {
  ids = λ k d lt. (h k d (omega (arith, lt, len))).id ∙ all.ids k d (omega (arith, lt, len));
  numbers = same_map number_of old new len (λ k d lt. (h k d lt).number) ∙ all.numbers;
}

pub played : (x y a b : RoleValue) → a ≡ x → b ≡ y → IsPlayed a b → IsSame x.pass y.pass
played x y a b is left h =
    subst (λ (r : RoleValue). IsSame r.pass y.pass) is
    (subst (λ (r : RoleValue). IsSame a.pass r.pass) left h)
