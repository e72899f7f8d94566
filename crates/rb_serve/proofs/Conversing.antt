-- Conversations behind conversations.
use Rattle.std.proofs.Common.{◌≡◌, ◌∙◌, Bool, true, List, [], ◌∷◌, ◌++◌, Option, Some, None, IfSome, option_map, ap, refl, sym, subst}
use Rattle.rb_api.specs.declared.ended.Ended.{Ended}
use Rattle.rb_api.specs.declared.token.Token.{Token}
use Rattle.rb_causes.specs.Callers.{Callers, after_asking, has_waiting}
use Rattle.rb_door.specs.Exchanges.{Moments}
use Rattle.rb_door.specs.Guests.{Parting}
use Rattle.rb_door.specs.Serving.{ServesCaller}
use Rattle.rb_log.specs.Told.{Told}
use Rattle.rb_serve.specs.Doors.{Conversation, HasConversed, HaveConversed, IsParted, ServesLine, ends_after, parted_end}
use Rattle.rb_serve.specs.Ends.{ends_by}
use Rattle.rb_serve.specs.declared.door_end.DoorEnd.{DoorEnd}
use Rattle.rb_serve.specs.declared.door_end.DoorEnd.TheVariants as end
use Rattle.rb_session.specs.Visits.{AsksCaller}
use Rattle.rb_wire.specs.Hearing.{Pending, nothing_pending}

-- the line answered so whether it has a caller
pub asks_so : (there : Bool) (old new : Option Callers)
    → IfSome old (λ c. there ≡ has_waiting c) → new ≡ option_map after_asking old
    → AsksCaller there old new
asks_so there None new waits asked = (tt, asked)
asks_so there (Some c) new waits asked = (sym waits, asked)

ends_more : (before : DoorEnd) (vs : List Conversation) (v : Conversation)
    → ends_after before (vs ++ v ∷ []) ≡ ends_by v.said (ends_after before vs)
ends_more before [] v = refl
ends_more before (w ∷ vs) v = ends_more (ends_by w.said before) vs v

module _ (may_be : Moments) (tokens : List Token) where
  one_more : (old mid new : Told) (line between line' : Option Callers) (vs : List Conversation)
      (v : Conversation) → HaveConversed may_be tokens old mid line between vs
      → HasConversed may_be tokens mid new between line' v
      → HaveConversed may_be tokens old new line line' (vs ++ v ∷ [])
  one_more old mid new line between line' [] v h last = (
    new,
    line',
    subst (λ clerk. HasConversed may_be tokens clerk new line line' v) h.0
        (subst (λ callers. HasConversed may_be tokens mid new callers line' v) h.1 last),
    (refl, refl),
  )
  one_more old mid new line between line' (w ∷ vs) v h last =
      (h.0, h.1, h.2, one_more h.0 mid new h.1 between line' vs v h.3 last)

  -- the conversations so far, which ended so
  pub record SoFar (old now : Told) (line line' : Option Callers) (said : DoorEnd) : Type 0 where
    pub conversations : List Conversation
    pub served : HaveConversed may_be tokens old now line line' conversations
    pub told : said ≡ ends_after end.Well conversations

  pub begins : (old : Told) (line : Option Callers) → SoFar old old line line end.Well
  begins old line = record { conversations = []; served = (refl, refl); told = refl }

  -- a conversation that ended so
  abbrev pub Conversed : Ended → Told → Told → Option Callers → Option Callers → Type 0
  Conversed said old new line line' =
      (v : Conversation) × (v.said ≡ said) × HasConversed may_be tokens old new line line' v

  pub conversed : (old new : Told) (line asked line' : Option Callers) (start left : Pending)
      (said : Ended) → start ≡ nothing_pending → AsksCaller true line asked
      → ServesCaller may_be tokens
      (record { clerk = old; line = record { callers = asked; pending = start } })
      (record { clerk = new; line = record { callers = line'; pending = left } }) said
      → Conversed said old new line line'
  conversed old new line asked line' start left said empty asks served =
      let h = subst (λ b. ServesCaller may_be tokens
      (record { clerk = old; line = record { callers = asked; pending = b } })
      (record { clerk = new; line = record { callers = line'; pending = left } }) said) empty
      served in (
        record { exchanges = h.exchanges; said = said },
        refl,
        record {
          asked = asked;
          left = record { callers = line'; pending = left };
          asks = asks;
          served = h;
          exchanges = refl;
          line_is = refl;
        },
      )

  pub goes_on : (old mid new : Told) (line between line' : Option Callers) (before now : DoorEnd)
      (said : Ended) → SoFar old mid line between before → Conversed said mid new between line'
      → now ≡ ends_by said before → SoFar old new line line' now
  goes_on old mid new line between line' before now said so_far next by =
      let v = next.0 in
      record {
        conversations = so_far.conversations ++ v ∷ [];
        served =
            one_more old mid new line between line' so_far.conversations v so_far.served next.2;
        told = by
            ∙ (ap (λ e. ends_by e before) (sym next.1)
            ∙ (ap (ends_by v.said) so_far.told
            ∙ sym (ends_more end.Well so_far.conversations v)));
      }

  pub ends : (old new : Told) (line between line' : Option Callers) (before said : DoorEnd)
      (parting : Parting) → SoFar old new line between before → IsParted between line' parting
      → said ≡ parted_end parting before → ServesLine may_be tokens old new line line' said
  ends old new line between line' before said parting so_far parted is = record {
    conversations = so_far.conversations;
    parting = parting;
    between = between;
    served = so_far.served;
    parted = parted;
    told = is ∙ ap (parted_end parting) so_far.told;
  }
