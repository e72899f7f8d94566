-- What a door did, over the log that is there at the end.
use Rattle.std.proofs.Common.{◌≡◌, ◌∙◌, ℕ, List, [], ◌∷◌, ◌++◌, All, Option, ap, sym, subst, refl, inl, inr}
use Rattle.std.specs.List.{flat_map}
use Rattle.std.proofs.lemmas.List.Elements.{All-cons, All-nil}
use Rattle.rb_api.specs.declared.token.Token.{Token}
use Rattle.rb_causes.specs.Callers.{Callers}
use Rattle.rb_causes.specs.declared.row.Row.{Row}
use Rattle.rb_door.proofs.Acting.{begins_then}
use Rattle.rb_door.specs.Doors.{AreTrue}
use Rattle.rb_door.specs.Exchanges.{Moments, turns_of}
use Rattle.rb_door.specs.Guests.{AreServed, AskingFailed, Guest, NoneLeft, Parting, TooMany}
use Rattle.rb_door.specs.Laws.{ActsAreTrue, HasFollowed, TalksFollow, TurnsStayTrue}
use Rattle.rb_log.specs.Acted.{Acted}
use Rattle.rb_log.specs.Records.{Record}
use Rattle.rb_log.specs.Told.{IsBeginning, Told}
use Rattle.rb_serve.specs.Doors.{Closes, Conversation, HasConversed, HaveConversed, IsDoor, IsParted, ServesLine, at_start}
use Rattle.rb_serve.specs.declared.door_end.DoorEnd.{DoorEnd}
use Rattle.rb_serve_laws.proofs.Closings.{was_open}
use Rattle.rb_serve_laws.specs.Parts.{AreAskedFor, IsDoorOver, guest_records}
use Rattle.rb_session.proofs.Asking.{enough_any, enough_none, enough_then, inputs_more, line_more, no_inputs, same_callers}
use Rattle.rb_session.specs.Laws.{IsGuestServed}
use Rattle.rb_work.proofs.Records.{acted_begins, acted_room, acted_then}

-- ---- the asking

-- nobody more was asked for
parted : (line line' : Option Callers) (parting : Parting) → IsParted line line' parting
    → AreServed line line' [] parting
parted line line' NoneLeft h =
    record { inputs = no_inputs line; enough = enough_none line h.0; line = h.1 }
parted line line' AskingFailed h =
    record { inputs = no_inputs line; enough = enough_any line; line = h ∙ same_callers line }
parted line line' TooMany h = absurd h

module _ (true_of : ActsAreTrue) (stay : TurnsStayTrue) (log : List Row) (room : ℕ) where
  -- what a clerk was asked is true of the log
  pub true_at : (a b : Told) (rs : List Record) → a.room ≡ room → IsBeginning b.log log
      → Acted a b rs → AreTrue log room rs
  true_at a b rs same more h =
      subst (λ rows. AreTrue rows room rs) (sym more.1)
      (stay b.log more.0 room rs
      (subst (λ n. AreTrue b.log n rs) same (true_of a b rs h).each))

  module _ (follow : TalksFollow) (may_be : Moments) (tokens : List Token) where
    -- the callers of conversations
    record AreGuests (line line' : Option Callers) (parting : Parting) (vs : List Conversation)
        : Type 0 where
      pub guests : List Guest
      pub records : guest_records guests ≡ flat_map (λ v. flat_map turns_of v.exchanges) vs
      pub served : AreServed line line' guests parting
      pub each : All (IsGuestServed may_be tokens log room) guests

    no_guests : (line line' : Option Callers) (parting : Parting) → IsParted line line' parting
        → AreGuests line line' parting []
    no_guests line line' parting h = record {
      guests = [];
      records = refl;
      served = parted line line' parting h;
      each = All-nil (IsGuestServed may_be tokens log room);
    }

    one_guest : (old mid : Told) (line between line' : Option Callers) (parting : Parting)
        (v : Conversation) (vs : List Conversation)
        → HasConversed may_be tokens old mid line between v → old.room ≡ room
        → IsBeginning mid.log log → AreGuests between line' parting vs
        → AreGuests line line' parting (v ∷ vs)
    one_guest old mid line between line' parting v vs h same more others =
        let served = h.served in
        let start = (at_start old h.asked).line in
        let f : HasFollowed start h.left served.exchanges =
        follow start h.left served.exchanges v.said refl served.line served.ends in
        let talk = h.line_is ∙ f.line in
        let g : Guest =
        record { input = f.input; unread = f.unread; exchanges = served.exchanges } in
        let turns = true_at old mid (flat_map turns_of served.exchanges) same more served.clerk in
        record {
          guests = g ∷ others.guests;
          records = ap (λ rs. flat_map turns_of served.exchanges ++ rs) others.records
              ∙ ap (λ es. flat_map turns_of es
              ++ flat_map (λ (w : Conversation). flat_map turns_of w.exchanges) vs) h.exchanges;
          served = record {
            inputs = inputs_more parting served.exchanges f.input f.unread others.guests line
                h.asked between h.asks f.came talk others.served.inputs;
            enough = enough_then parting served.exchanges f.input f.unread others.guests line
                h.asked between h.asks talk others.served.enough;
            line = line_more parting served.exchanges f.input f.unread others.guests line h.asked
                between line' h.asks talk others.served.line;
          };
          each = All-cons (IsGuestServed may_be tokens log room) g others.guests (record {
            door = record {
              follows = f.follows;
              took = refl;
              each = served.each;
              turns = turns;
            };
            said = v.said;
            ends = served.ends;
          }) others.each;
        }

    -- ---- all of them

    talked : (old new : Told) (line line' : Option Callers) (vs : List Conversation)
        → HaveConversed may_be tokens old new line line' vs
        → Acted old new (flat_map (λ v. flat_map turns_of v.exchanges) vs)
    talked old new line line' [] h = h.0
    talked old new line line' (v ∷ vs) h =
        let c = h.2 in
        acted_then (flat_map turns_of v.exchanges)
        (flat_map (λ w. flat_map turns_of w.exchanges) vs) old h.0 new
        (subst (λ es. Acted old h.0 (flat_map turns_of es)) c.exchanges c.served.clerk)
        (talked h.0 new h.1 line' vs h.3)

    all_guests : (old new : Told) (line between line' : Option Callers) (parting : Parting)
        (vs : List Conversation) → HaveConversed may_be tokens old new line between vs
        → IsParted between line' parting → old.room ≡ room → IsBeginning new.log log
        → AreGuests line line' parting vs
    all_guests old new line between line' parting [] h ends same more =
        no_guests line line' parting (subst (λ l. IsParted l line' parting) h.1 ends)
    all_guests old new line between line' parting (v ∷ vs) h ends same more =
        let rest = talked h.0 new h.1 between vs h.3 in
        let c = h.2 in
        one_guest old h.0 line h.1 line' parting v vs c same
        (begins_then h.0.log new.log log
        (acted_begins (flat_map (λ w. flat_map turns_of w.exchanges) vs) h.0 new rest) more)
        (all_guests h.0 new h.1 between line' parting vs h.3 ends
        (acted_room (flat_map turns_of c.served.exchanges) old h.0 c.served.clerk ∙ same) more)

    -- ---- the door

    -- what was asked for the door, and that it is this
    pub record Did (door : ℕ) (old new : Told) (line line' : Option Callers) : Type 0 where
      pub records : List Record
      pub acted : Acted old new records
      pub over : IsDoorOver may_be tokens log room door line line' records

    closed : (door : ℕ) (old served new : Told) (line line' : Option Callers)
        (guests : List Guest) (close : Record) → AreAskedFor line line' guests
        → All (IsGuestServed may_be tokens log room) guests
        → Acted old served (guest_records guests) → Closes may_be door served new close
        → IsBeginning new.log log → Did door old new line line'
    closed door old served new line line' guests close asked each acted h more = record {
      records = guest_records guests ++ close ∷ [];
      acted = acted_then (guest_records guests) (close ∷ []) old served new acted
          (new, h.acts, refl);
      over = record {
        guests = guests;
        asked_for = asked;
        each = each;
        at = h.at;
        moment = h.moment;
        close = close;
        closes = h.asked;
        was_open = was_open log served new close door h.at h.acts h.asked more;
        records_are = refl;
      };
    }

    pub door_over : (door : ℕ) (old new : Told) (line line' : Option Callers) (said : DoorEnd)
        → IsDoor may_be tokens door old new line line' said → old.room ≡ room
        → IsBeginning new.log log → Did door old new line line'
    door_over door old new line line' said h same more = elim h.line_served [
      | inl s ↦ by_guests s (all_guests old h.served line s.between line' s.parting
          s.conversations s.served s.parted same
          (begins_then h.served.log new.log log
          (acted_begins (h.close ∷ []) h.served new (new, h.closes.acts, refl)) more))
      | inr s ↦ closed door old h.served new line line' [] h.close
          (inr (refl, s.callers)) (All-nil (IsGuestServed may_be tokens log room)) s.clerk h.closes
          more
    ]
      where
        by_guests : (s : ServesLine may_be tokens old h.served line line' said)
            → AreGuests line line' s.parting s.conversations → Did door old new line line'
        by_guests s g =
            closed door old h.served new line line' g.guests h.close
            (inl (s.parting, g.served)) g.each
            (subst (λ rs. Acted old h.served rs) (sym g.records)
            (talked old h.served line s.between s.conversations s.served)) h.closes more
