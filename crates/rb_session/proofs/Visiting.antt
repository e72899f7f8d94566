-- Handlings behind handlings, and callers behind callers.
use Rattle.std.proofs.Common.{
  ◌≡◌,
  ◌≢◌,
  ◌∙◌,
  ◌≤◌,
  arith,
  ◌+◌,
  ◌||◌,
  ◌⊎◌,
  inl,
  inr,
  ℕ,
  Bool,
  true,
  false,
  List,
  [],
  ◌∷◌,
  ◌++◌,
  map,
  All,
  Option,
  Some,
  None,
  IfSome,
  option_map,
  ap,
  refl,
  sym,
  subst,
  append_assoc,
  append-nil,
}
use Rattle.std.specs.List.{flat_map, list_any}
use Rattle.std.proofs.lemmas.Grind.{flat_map-append}
use Rattle.std.proofs.lemmas.List.Elements.{All-nil, All-cons, All-append, All-head, All-tail}
use Rattle.rb_causes.specs.Causes.{Rose}
use Rattle.rb_causes.proofs.Written.{rose_since, rose_until}
use Rattle.rb_causes.specs.Callers.{Callers, after_asking, has_waiting}
use Rattle.rb_api.specs.declared.ended.Ended.{Ended}
use Rattle.rb_api.specs.declared.ended.Ended.TheVariants as ended
use Rattle.rb_api.specs.declared.token.Token.{Token}
use Rattle.rb_door.specs.Exchanges.{Exchange, Moments, ended_of}
use Rattle.rb_door.specs.Guests.{AskingFailed, NoneLeft, Parting, TooMany}
use Rattle.rb_door.specs.Serving.{EndsAs}
use Rattle.rb_wire.specs.Hearing.{nothing_pending}
use Rattle.rb_session.specs.Endings.{ends_with}
use Rattle.rb_session.specs.Line.{ServesLine}
use Rattle.rb_session.specs.Statuses.{any_ended, callers_end, is_line_fault, is_wanting}
use Rattle.rb_session.specs.Visits.{AsksCaller, Handles, HandlesAll, Handling, PartsSo, Scene, ServesAll, ServesStay, Stay, stay_exchanges, with_callers}
use Rattle.rb_session.specs.declared.farewell.CallersEnd.{CallersEnd}

abbrev HasMore : Handling → Type 0
HasMore r = ended_of r.exchange ≡ ended.More

ends_behind : (rs : List Handling) (r : Handling) (said : Ended) → All HasMore rs
    → ended_of r.exchange ≡ said → said ≢ ended.More
    → EndsAs said (map (λ r. r.exchange) (rs ++ r ∷ []))
ends_behind [] r said more is last = (is, last)
ends_behind (x ∷ []) r said more is last = (All-head HasMore x [] more, (is, last))
ends_behind (x ∷ y ∷ rs) r said more is last = (
  All-head HasMore x (y ∷ rs) more,
  ends_behind (y ∷ rs) r said (All-tail HasMore x (y ∷ rs) more) is last,
)

module _ (may_be : Moments) (tokens : List Token) (limit : Option ℕ) where
  -- The handlings of a caller so far, behind each of which more might come.
  pub record StaySoFar (old now : Scene) : Type 0 where
    pub handlings : List Handling
    pub more : All HasMore handlings
    pub goes_on : (new : Scene) (rs : List Handling) → HandlesAll may_be tokens limit now new rs
        → HandlesAll may_be tokens limit old new (handlings ++ rs)

  pub stay_begins : (old : Scene) → StaySoFar old old
  stay_begins old =
      record { handlings = []; more = All-nil HasMore; goes_on = λ new rs h. h }

  pub stay_goes_on : (old now new : Scene) (r : Handling) → StaySoFar old now
      → Handles may_be tokens limit now new r → ended_of r.exchange ≡ ended.More
      → StaySoFar old new
  stay_goes_on old now new r so_far next is = record {
    handlings = so_far.handlings ++ r ∷ [];
    more = All-append HasMore so_far.handlings (r ∷ []) so_far.more
        (All-cons HasMore r [] is (All-nil HasMore));
    goes_on = λ end rs h.
        subst (λ xs. HandlesAll may_be tokens limit old end xs)
        (sym (append_assoc so_far.handlings (r ∷ []) rs))
        (so_far.goes_on end (r ∷ rs) (new, next, h));
  }

  pub stay_served : (old now new : Scene) (r : Handling) (said : Ended)
      → old.line.pending ≡ nothing_pending → StaySoFar old now
      → Handles may_be tokens limit now new r → ended_of r.exchange ≡ said
      → said ≢ ended.More → (v : Stay) × ServesStay may_be tokens limit old new v said
  stay_served old now new r said empty so_far next is last = (
    record { handlings = so_far.handlings ++ r ∷ [] },
    record {
      empty = empty;
      handlings = so_far.goes_on new (r ∷ []) (new, next, refl);
      ends = ends_behind so_far.handlings r said so_far.more is last;
    },
  )

  -- ---- the callers

  -- The callers so far, of whom this is told.
  pub record LineSoFar (served : ℕ) (old now : Scene) (told : CallersEnd) : Type 0 where
    pub stays : List Stay
    pub goes_on : (new : Scene) (more : List Stay) (parting : Parting)
        → ServesAll may_be tokens limit served now new more parting
        → ServesAll may_be tokens limit 0 old new (stays ++ more) parting
    pub is_told : told ≡ callers_end stays NoneLeft

  pub line_begins : (old : Scene) → LineSoFar 0 old old
      (record { line_failed = false; line_wanted = false; too_many = false })
  line_begins old =
      record { stays = []; goes_on = λ new more parting h. h; is_told = refl }

-- ---- how the callers ended, and one more

any_in : (is_so : Ended → Bool) (es : List Exchange) (said : Ended) → is_so ended.More ≡ false
    → EndsAs said es → list_any (λ e. is_so (ended_of e)) es ≡ is_so said
any_in is_so [] said silent h = absurd h
any_in is_so (e ∷ []) said silent h = or_false (is_so (ended_of e)) ∙ ap is_so h.0
  where
    or_false : (b : Bool) → (b || false) ≡ b
    or_false true = refl
    or_false false = refl
any_in is_so (e ∷ f ∷ es) said silent h =
    ap (λ b. b || list_any (λ e. is_so (ended_of e)) (f ∷ es)) (ap is_so h.0 ∙ silent)
    ∙ any_in is_so (f ∷ es) said silent h.1

any_then : (is_so : Exchange → Bool) (xs ys : List Exchange)
    → list_any is_so (xs ++ ys) ≡ (list_any is_so xs || list_any is_so ys)
any_then is_so [] ys = refl
any_then is_so (x ∷ xs) ys =
    ap (λ b. is_so x || b) (any_then is_so xs ys) ∙ or_assoc (is_so x) (list_any is_so xs) (list_any is_so ys)
  where
    or_assoc : (a b c : Bool) → (a || (b || c)) ≡ ((a || b) || c)
    or_assoc true b c = refl
    or_assoc false b c = refl

any_more : (is_so : Ended → Bool) (stays : List Stay) (v : Stay) (said : Ended)
    → is_so ended.More ≡ false → EndsAs said (stay_exchanges v)
    → any_ended is_so (stays ++ v ∷ []) ≡ (any_ended is_so stays || is_so said)
any_more is_so stays v said silent h =
    ap (λ es. list_any (λ e. is_so (ended_of e)) es)
    (flat_map-append stay_exchanges stays (v ∷ [])
    ∙ ap (λ es. flat_map stay_exchanges stays ++ es) (append-nil (stay_exchanges v)))
    ∙ any_then (λ e. is_so (ended_of e)) (flat_map stay_exchanges stays) (stay_exchanges v)
    ∙ ap (λ b. any_ended is_so stays || b) (any_in is_so (stay_exchanges v) said silent h)

abbrev ends_from : Bool → Bool → CallersEnd
ends_from failed wanted =
    record { line_failed = failed; line_wanted = wanted; too_many = false }

one_more : (failed wanted : Bool) (said : Ended)
    → ends_with (ends_from failed wanted) said
    ≡ ends_from (failed || is_line_fault said) (wanted || is_wanting said)
one_more true true ended.LineFault = refl
one_more true false ended.LineFault = refl
one_more false true ended.LineFault = refl
one_more false false ended.LineFault = refl
one_more true true ended.NoMemory = refl
one_more true false ended.NoMemory = refl
one_more false true ended.NoMemory = refl
one_more false false ended.NoMemory = refl
one_more true true ended.More = refl
one_more true false ended.More = refl
one_more false true ended.More = refl
one_more false false ended.More = refl
one_more true true ended.Done = refl
one_more true false ended.Done = refl
one_more false true ended.Done = refl
one_more false false ended.Done = refl

told_more : (stays : List Stay) (v : Stay) (said : Ended) (told : CallersEnd)
    → told ≡ callers_end stays NoneLeft → EndsAs said (stay_exchanges v)
    → ends_with told said ≡ callers_end (stays ++ v ∷ []) NoneLeft
told_more stays v said told is h =
    ap (λ t. ends_with t said) is
    ∙ one_more (any_ended is_line_fault stays) (any_ended is_wanting stays) said
    ∙ ap (λ b. ends_from b (any_ended is_wanting stays || is_wanting said))
    (sym (any_more is_line_fault stays v said refl h))
    ∙ ap (λ b. ends_from (any_ended is_line_fault (stays ++ v ∷ [])) b)
    (sym (any_more is_wanting stays v said refl h))

module _ (may_be : Moments) (tokens : List Token) (limit : Option ℕ) where
  pub line_goes_on : (served : ℕ) (old now new : Scene) (told : CallersEnd)
      (asked : Option Callers) (v : Stay) (said : Ended)
      → LineSoFar may_be tokens limit served old now told
      → AsksCaller true now.line.callers asked
      → ServesStay may_be tokens limit (with_callers now asked) new v said
      → LineSoFar may_be tokens limit (served + 1) old new (ends_with told said)
  line_goes_on served old now new told asked v said so_far asks stay = record {
    stays = so_far.stays ++ v ∷ [];
    goes_on = λ end more parting h.
        subst (λ vs. ServesAll may_be tokens limit 0 old end vs parting)
        (sym (append_assoc so_far.stays (v ∷ []) more))
        (so_far.goes_on end (v ∷ more) parting (asked, new, said, asks, stay, h));
    is_told = told_more so_far.stays v said told so_far.is_told stay.ends;
  }

  pub line_ends : (served : ℕ) (old now new : Scene) (told : CallersEnd) (parting : Parting)
      (said : CallersEnd) → LineSoFar may_be tokens limit served old now told
      → PartsSo served now.line.callers new.line.callers parting → new.outside ≡ now.outside
      → ((stays : List Stay) → told ≡ callers_end stays NoneLeft → said ≡ callers_end stays parting)
      → ServesLine may_be tokens limit old new said
  line_ends served old now new told parting said so_far parts same is = record {
    stays = so_far.stays;
    parting = parting;
    served = subst (λ vs. ServesAll may_be tokens limit 0 old new vs parting)
        (append-nil so_far.stays) (so_far.goes_on new [] parting (parts, same));
    is_told = is so_far.stays so_far.is_told;
  }

-- ---- what is told at the end

pub told_failed : (stays : List Stay) (told : CallersEnd) → told ≡ callers_end stays NoneLeft
    → record told { line_failed = true } ≡ callers_end stays AskingFailed
told_failed stays told is = ap (λ (t : CallersEnd). record t { line_failed = true }) is

pub told_too_many : (stays : List Stay) (told : CallersEnd) → told ≡ callers_end stays NoneLeft
    → record told { too_many = true } ≡ callers_end stays TooMany
told_too_many stays told is = ap (λ (t : CallersEnd). record t { too_many = true }) is

-- the line answered so whether it has a caller
pub asks_so : (there : Bool) (old new : Option Callers)
    → IfSome old (λ c. there ≡ has_waiting c) → new ≡ option_map after_asking old
    → AsksCaller there old new
asks_so there None new waits asked = (tt, asked)
asks_so there (Some c) new waits asked = (sym waits, asked)

pub failed_by : (told : CallersEnd) (said : Ended) → (ends_with told said).line_failed ≡ true
    → (told.line_failed ≡ true) ⊎ (said ≡ ended.LineFault)
failed_by told ended.LineFault h = inr refl
failed_by told ended.NoMemory h = inl h
failed_by told ended.More h = inl h
failed_by told ended.Done h = inl h

pub rose_by : (start asking serving end : ℕ) (told : CallersEnd) (said : Ended)
    → start ≤ asking → asking ≤ serving → serving ≤ end
    → (told.line_failed ≡ true → Rose start asking)
    → (said ≡ ended.LineFault → Rose serving end)
    → (told.line_failed ≡ true) ⊎ (said ≡ ended.LineFault) → Rose start end
rose_by start asking serving end told said a b c before now (inl h) =
    rose_until start asking end (before h) (omega (arith, b, c))
rose_by start asking serving end told said a b c before now (inr h) =
    rose_since start serving end (omega (arith, a, b)) (now h)
