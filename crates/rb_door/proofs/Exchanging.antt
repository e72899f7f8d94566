-- One exchange, from what was heard to what was given.
use Rattle.std.proofs.Common.{◌≡◌, ◌∙◌, ◌<◌, ℕ, ℤ, Bool, true, false, List, [], take, Option, Some, None, option_map, option_to_list, Ok, IsTrue, refl, ap, sym, subst, inl, inr, arith, ◌⊎◌, Err}
use Rattle.rb_acl.specs.declared.policy.Caller.{Caller}
use Rattle.rb_causes.specs.Callers.{Callers, after_write}
use Rattle.rb_causes.specs.Moments.{IsMoment}
use Rattle.rb_causes.specs.declared.trouble.Trouble.{Trouble}
use Rattle.rb_causes.specs.declared.trouble.Trouble.TheVariants as failed
use Rattle.rb_log.specs.Acted.{Acted}
use Rattle.rb_log.specs.Legal.{Rights, MayAsk}
use Rattle.rb_log.specs.Records.{Record}
use Rattle.rb_log.specs.Told.{Told, Acts, record_of}
use Rattle.rb_log.specs.declared.answer.Answer.{Answer}
use Rattle.rb_log.specs.declared.answer.Answer.TheVariants as answer
use Rattle.rb_log.specs.declared.call.Call.{Call}
use Rattle.rb_log.specs.declared.call.Call.TheVariants as call
use Rattle.rb_wire.specs.Giving.{GivesPrefix}
use Rattle.rb_wire.specs.Hearing.{HearsNext, Pending}
use Rattle.rb_wire.specs.Requests.{most_requests}
use Rattle.rb_wire.specs.Responses.{is_status, response_text}
use Rattle.rb_wire.specs.declared.heard.Heard.{Heard}
use Rattle.rb_wire.specs.declared.heard.Heard.TheVariants as heard
use Rattle.rb_wire.specs.declared.heard.Request.{Request}
use Rattle.rb_wire.specs.declared.heard.WireFault.{WireFault}
use Rattle.rb_api.specs.Calls.{ComesTo}
use Rattle.rb_reply.specs.Errors.{Reply, lost_reply, memory_reply, printed, wire_reply}
use Rattle.rb_api.specs.Laws.{CallsAreTheCallers, CallsMayBeAsked, IsAskedBy, StatusesAreServed, are_clean}
use Rattle.rb_api.specs.Replies.{refused_reply, reply_bytes, reply_to}
use Rattle.rb_api.specs.declared.request_fault.RequestFault.{RequestFault}
use Rattle.rb_reply.specs.declared.response.Response.{Response as Printed}
use Rattle.rb_api.specs.declared.ended.Ended.{Ended}
use Rattle.rb_api.specs.declared.ended.Ended.TheVariants as ended
use Rattle.rb_api.specs.declared.token.Token.{Token}
use Rattle.rb_wire.proofs.Writes.{took-nil}
use Rattle.rb_door.specs.Answering.{Counter, IsGiven, IsReplyMade, IsRequestMet, ended_given}
use Rattle.rb_door.specs.Exchanges.{Moments, Exchange, IsMet, IsReplyTo, MayReply, ended_by, ended_written, heeded_by}
use Rattle.rb_door.specs.Serving.{DoorSight, ServesNext}
use Rattle.rb_door.specs.Standing.{GoesOn, ends_door}
use Rattle.rb_door.specs.declared.heeded.Heeded.{Heeded}
use Rattle.rb_door.proofs.Counting.{open_is_early}
use Rattle.rb_door.proofs.Goings.{acts_goes_on, goes_on_refl}

-- ---- the writing

pub given_whole : (bytes : List ℕ) (close : Bool) (old new : Option Callers) (said : Ended)
    → new ≡ option_map (after_write bytes) old → said ≡ ended_given None close
    → IsGiven bytes close old new said
given_whole bytes close old new said gives ends = record {
  written = bytes;
  trouble = None;
  is_written = refl;
  gives = gives;
  ends = ends;
}

pub given_part : (bytes : List ℕ) (close : Bool) (old new : Option Callers) (said : Ended)
    (t : Trouble) → GivesPrefix bytes old new → said ≡ ended_given (Some t) close
    → IsGiven bytes close old new said
given_part bytes close old new said t gives ends = record {
  written = take gives.0 bytes;
  trouble = Some t;
  is_written = (gives.0, gives.1, refl);
  gives = gives.2;
  ends = ends;
}

-- ---- the desk call

asked_ends_no_door : (caller : Caller) (at : ℤ) (c : Call) → IsAskedBy caller at c
    → ends_door c ≡ false
asked_ends_no_door caller at (call.CloseDoor door when) h = absurd h
asked_ends_no_door caller at other h = refl

turn_goes_on : CallsAreTheCallers → (may_be : Moments) (tokens : List Token) (r : Request)
    (old new : Told) (turn : Option Record) (reply : Reply)
    → Acted old new (option_to_list turn)
    → IsReplyTo may_be tokens r turn reply → GoesOn old new
turn_goes_on law may_be tokens r old new None reply acted is =
    subst (GoesOn old) (sym acted) (goes_on_refl old)
turn_goes_on law may_be tokens r old new (Some turn) reply acted is =
    let caller = law tokens r is.at turn.call is.asked.0 in
    subst (GoesOn old) (sym acted.2)
    (acts_goes_on old acted.0 turn.call turn.answer
    (asked_ends_no_door caller.0 is.at turn.call caller.2) acted.1.acts)

pub met_goes_on : CallsAreTheCallers → (may_be : Moments) (tokens : List Token) (r : Request)
    (old new : Counter) (said : Ended) → IsRequestMet may_be tokens r old new said
    → GoesOn old.clerk new.clerk
met_goes_on law may_be tokens r old new said met =
    turn_goes_on law may_be tokens r old.clerk new.clerk met.turn met.reply met.acted met.is_reply

-- the call of a request may be made
pub request_may : CallsMayBeAsked → (rights : Rights) (tokens : List Token) (r : Request) (at : ℤ)
    (c : Call) → are_clean tokens ≡ true → IsMoment at
    → ComesTo tokens r at (Ok c) → MayAsk rights c
request_may law rights tokens r at c clean moment comes =
    law rights tokens r at c clean moment comes.0

-- ---- the replies

memory_is_served : IsTrue (is_status memory_reply.status)
memory_is_served = refl

may_is_served : (law : StatusesAreServed) (r : Request) (a : Answer) (reply : Reply)
    → MayReply r a reply → IsTrue (is_status reply.status)
may_is_served law r answer.StoreFault reply is =
    subst (λ x. IsTrue (is_status x.status)) (sym is) refl
may_is_served law r answer.NoMemory reply is =
    subst (λ x. IsTrue (is_status x.status)) (sym is) refl
may_is_served law r a reply (inl is) =
    subst (λ x. IsTrue (is_status x.status)) (sym is) (law.answers r a)
may_is_served law r a reply (inr is) =
    subst (λ x. IsTrue (is_status x.status)) (sym is) refl

pub reply_is_served : StatusesAreServed → (may_be : Moments) (tokens : List Token) (r : Request)
    (turn : Option Record) (reply : Reply) → IsReplyTo may_be tokens r turn reply
    → IsTrue (is_status reply.status)
reply_is_served law may_be tokens r (Some turn) reply is =
    may_is_served law r turn.answer reply is.replied
reply_is_served law may_be tokens r None reply (inl is) =
    subst (λ x. IsTrue (is_status x.status)) (sym is) memory_is_served
reply_is_served law may_be tokens r None reply (inr is) =
    subst (λ x. IsTrue (is_status x.status)) (sym is.replied) (law.faults r is.fault)

-- ---- an exchange

abbrev pub counter : Told → Option Callers → Counter
counter clerk callers = record { clerk = clerk; callers = callers }

abbrev heeds : Bool → Ended → Heeded
heeds asked said = record { asked = asked; ended = said }

asked_told : (r : Request) (said : Ended) (t : Option Trouble) → said ≡ ended_given t r.close
    → heeds true said ≡ heeds true (ended_by t (heard.Asked r))
asked_told r said None h = ap (heeds true) h
asked_told r said (Some t) h = ap (heeds true) h

pub asked_served : (may_be : Moments) (tokens : List Token) (old new : DoorSight)
    (between : Option Callers) (r : Request) (said : Ended)
    → HearsNext old.line.callers between old.line.pending new.line.pending (heard.Asked r)
    → IsRequestMet may_be tokens r (counter old.clerk between)
    (counter new.clerk new.line.callers) said
    → ServesNext may_be tokens old new (heeds true said)
asked_served may_be tokens old new between r said hears met = record {
  exchange = record {
    heard = heard.Asked r;
    turn = met.turn;
    response = Some (record { reply = met.reply; close = r.close });
    written = met.given.written;
    trouble = met.given.trouble;
  };
  is_one = record { met = (met.is_reply, refl); written = met.given.is_written };
  line = record { between = between; hears = hears; gives = met.given.gives };
  clerk = met.acted;
  told = asked_told r said met.given.trouble met.given.ends;
}

last_told : (what : Heard) (asked : Bool) (said : Ended) (t : Option Trouble)
    → ended_written what ≡ ended.Done → said ≡ ended_given t true
    → heeds asked said ≡ heeds asked (ended_by t what)
last_told what asked said None done h = ap (heeds asked) (h ∙ sym done)
last_told what asked said (Some t) done h = ap (heeds asked) h

-- a fault of the bytes, and a request for which there is no memory
pub fault_served : (may_be : Moments) (tokens : List Token) (old new : DoorSight)
    (between : Option Callers) (fault : WireFault) (said : Ended)
    → HearsNext old.line.callers between old.line.pending new.line.pending (heard.Broken fault)
    → new.clerk ≡ old.clerk
    → IsGiven (reply_bytes (wire_reply fault) true) true between new.line.callers said
    → ServesNext may_be tokens old new (heeds false said)
fault_served may_be tokens old new between fault said hears same given = record {
  exchange = record {
    heard = heard.Broken fault;
    turn = None;
    response = Some (record { reply = wire_reply fault; close = true });
    written = given.written;
    trouble = given.trouble;
  };
  is_one = record { met = (refl, refl); written = given.is_written };
  line = record { between = between; hears = hears; gives = given.gives };
  clerk = same;
  told = last_told (heard.Broken fault) false said given.trouble refl given.ends;
}

pub wanting_served : (may_be : Moments) (tokens : List Token) (old new : DoorSight)
    (between : Option Callers) (said : Ended)
    → HearsNext old.line.callers between old.line.pending new.line.pending heard.NoMemory
    → new.clerk ≡ old.clerk
    → IsGiven (reply_bytes memory_reply true) true between new.line.callers said
    → ServesNext may_be tokens old new (heeds true said)
wanting_served may_be tokens old new between said hears same given = record {
  exchange = record {
    heard = heard.NoMemory;
    turn = None;
    response = Some (record { reply = memory_reply; close = true });
    written = given.written;
    trouble = given.trouble;
  };
  is_one = record { met = (refl, refl); written = given.is_written };
  line = record { between = between; hears = hears; gives = given.gives };
  clerk = same;
  told = last_told heard.NoMemory true said given.trouble refl given.ends;
}

-- an exchange in which nothing was to be given
abbrev pub silent : Heard → Exchange
silent what =
    record { heard = what; turn = None; response = None; written = []; trouble = None }

-- where nothing is to be given: at the end of the input, and where a read failed
pub silent_served : (may_be : Moments) (tokens : List Token) (old new : DoorSight) (what : Heard)
    (said : Ended)
    → HearsNext old.line.callers new.line.callers old.line.pending new.line.pending what
    → new.clerk ≡ old.clerk → IsMet may_be tokens what None None
    → heeded_by (silent what) ≡ heeds false said → ServesNext may_be tokens old new (heeds false said)
silent_served may_be tokens old new what said hears same met told = record {
  exchange = silent what;
  is_one = record { met = met; written = refl };
  line = record {
    between = new.line.callers;
    hears = hears;
    gives = took-nil new.line.callers;
  };
  clerk = same;
  told = sym told;
}

-- ---- that more may come

pub more_is_early : (old new : Pending) (old_callers new_callers : Option Callers) (r : Request)
    → HearsNext old_callers new_callers old new (heard.Asked r) → r.close ≡ false
    → (old.given < new.given) × (new.given < most_requests)
more_is_early old new old_callers new_callers r hears stays =
    let early = open_is_early old.given _ r _ hears.hears.0 stays in
    let next = hears.hears.1 in
    (omega (arith, early, next), omega (arith, early, next))

pub more_stays : (close : Bool) (t : Option Trouble) → ended.More ≡ ended_given t close
    → close ≡ false
more_stays true None h = absurd (grind (arith, h))
more_stays false t h = refl
more_stays true (Some failed.Failed) h = absurd (grind (arith, h))
more_stays true (Some failed.NoMemory) h = absurd (grind (arith, h))

-- ---- the reply to an answer

other_may : (r : Request) (a : Answer) (reply : Reply) → (a ≡ answer.StoreFault → ⊥)
    → (a ≡ answer.NoMemory → ⊥) → (reply ≡ reply_to r a) ⊎ (reply ≡ lost_reply)
    → MayReply r a reply
other_may r answer.StoreFault reply no_store no_memory is = absurd (no_store refl)
other_may r answer.NoMemory reply no_store no_memory is = absurd (no_memory refl)
other_may r other reply no_store no_memory is = is

-- one call and its reply
pub reply_made : (may_be : Moments) (tokens : List Token) (r : Request) (old new : Told)
    (given : Printed) (at : ℤ) (c : Call) (a : Answer) (reply : Reply) → may_be at
    → ComesTo tokens r at (Ok c) → Acts old new c a → MayReply r a reply → given ≡ printed reply
    → IsReplyMade may_be tokens r old new given
reply_made may_be tokens r old new given at c a reply moment comes acts may is = record {
  turn = Some (record_of c a acts.before new.log);
  reply = reply;
  acted = (new, record { acts = acts; before = refl; after = refl }, refl);
  is_reply = record { at = at; moment = moment; asked = comes; replied = may };
  is_printed = is;
}

-- no call
refusal_made : (may_be : Moments) (tokens : List Token) (r : Request) (told : Told)
    (given : Printed) (at : ℤ) (fault : RequestFault) → may_be at
    → ComesTo tokens r at (Err fault) → given ≡ printed (refused_reply r fault)
    → IsReplyMade may_be tokens r told told given
refusal_made may_be tokens r told given at fault moment comes is = record {
  turn = None;
  reply = refused_reply r fault;
  acted = refl;
  is_reply = inr (record {
    at = at;
    fault = fault;
    moment = moment;
    asked = comes;
    replied = refl;
  });
  is_printed = is;
}

-- nor memory for one
pub wanting_made : (may_be : Moments) (tokens : List Token) (r : Request) (told : Told)
    (given : Printed) → given ≡ printed memory_reply
    → IsReplyMade may_be tokens r told told given
wanting_made may_be tokens r told given is = record {
  turn = None;
  reply = memory_reply;
  acted = refl;
  is_reply = inl refl;
  is_printed = is;
}

-- the reply was given
pub request_met : (may_be : Moments) (tokens : List Token) (r : Request) (old new : Told)
    (before after : Option Callers) (given : Printed) (said : Ended)
    → (made : IsReplyMade may_be tokens r old new given)
    → IsGiven (response_text given.status given.body r.close) r.close before after said
    → IsRequestMet may_be tokens r (counter old before) (counter new after) said
request_met may_be tokens r old new before after given said made written = record {
  turn = made.turn;
  reply = made.reply;
  acted = made.acted;
  is_reply = made.is_reply;
  given = subst (λ (p : Printed). IsGiven (response_text p.status p.body r.close) r.close before
      after said) made.is_printed written;
}

-- a reply that closes is the last one
pub closed_ends : (t : Option Trouble) → ended.More ≡ ended_given t true → ⊥
closed_ends t h = let stays = more_stays true t h in grind (arith, stays)

-- the refusal of a request, or want of memory for it
pub refusal_told : (may_be : Moments) (tokens : List Token) (r : Request) (told : Told)
    (given : Printed) (at : ℤ) (fault : RequestFault) → may_be at
    → ComesTo tokens r at (Err fault)
    → (given ≡ printed (refused_reply r fault)) ⊎ (given ≡ printed memory_reply)
    → IsReplyMade may_be tokens r told told given
refusal_told may_be tokens r told given at fault moment comes (inl is) =
    refusal_made may_be tokens r told given at fault moment comes is
refusal_told may_be tokens r told given at fault moment comes (inr is) =
    wanting_made may_be tokens r told given is

-- what is printed for another answer
pub other_told : (r : Request) (a : Answer) (given : Printed) → (a ≡ answer.StoreFault → ⊥)
    → (a ≡ answer.NoMemory → ⊥)
    → (given ≡ printed (reply_to r a)) ⊎ (given ≡ printed lost_reply)
    → (reply : Reply) × MayReply r a reply × (given ≡ printed reply)
other_told r a given no_store no_memory (inl is) =
    (reply_to r a, other_may r a (reply_to r a) no_store no_memory (inl refl), is)
other_told r a given no_store no_memory (inr is) =
    (lost_reply, other_may r a lost_reply no_store no_memory (inr refl), is)
