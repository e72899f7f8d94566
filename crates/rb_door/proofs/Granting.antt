-- What is granted is answered 200, or the store failed, or memory was wanting.
use Rattle.std.proofs.Common.{
  ◌≡◌,
  ◌∙◌,
  ℕ,
  ℤ,
  List,
  [],
  All,
  Option,
  Some,
  None,
  option_to_list,
  Err,
  ap,
  sym,
  subst,
  refl,
  inl,
  inr,
}
use Rattle.std.proofs.lemmas.List.Elements.{All-head}
use Rattle.rb_causes.specs.declared.row.Row.{Row}
use Rattle.rb_log.specs.Records.{
  Record,
  IsTrueRecord,
  IsTrueAnswer,
  Follows,
  turn_at,
  without_kept,
}
use Rattle.rb_log.specs.declared.answer.Answer.{Answer}
use Rattle.rb_log.specs.declared.answer.Answer.TheVariants as answer
use Rattle.rb_wire.specs.declared.heard.Heard.TheVariants as heard
use Rattle.rb_wire.specs.declared.heard.Request.{Request}
use Rattle.rb_api.specs.Calls.{ComesTo}
use Rattle.rb_reply.specs.Errors.{Reply, lost_reply, memory_reply}
use Rattle.rb_api.specs.Replies.{reply_to, reply_by}
use Rattle.rb_route.specs.Routes.{Asked, asked_of}
use Rattle.rb_api.specs.declared.request_fault.RequestFault.{RequestFault}
use Rattle.rb_api.specs.declared.token.Token.{Token}
use Rattle.rb_door.specs.Doors.{AreTrue}
use Rattle.rb_door.specs.Exchanges.{Moments, IsMet, IsReplyTo, MayReply}
use Rattle.rb_door.specs.Laws.{GrantedIsGiven, IsGoodStatus, IsGranted}

abbrev status_of : Reply → ℕ
status_of r = r.status

wanted : (reply other : Reply) → reply ≡ other → other.status ≡ 507 → IsGoodStatus reply.status
wanted reply other e h = inr (inr (ap status_of e ∙ h))

lost_by : (o : Option Asked) (a : Answer) → reply_by o a ≡ lost_reply
    → IsGoodStatus (reply_by o a).status
lost_by o a e = wanted (reply_by o a) lost_reply e refl

-- no request's call is answered so
reported_lost : (o : Option Asked) (kept : _) → reply_by o (answer.Reported kept) ≡ lost_reply
reported_lost None kept = refl
reported_lost (Some asked) kept = refl

closed_lost : (o : Option Asked) (kept : _) → reply_by o (answer.DoorClosed kept) ≡ lost_reply
closed_lost None kept = refl
closed_lost (Some asked) kept = refl

module _ (log : List Row) (room : ℕ) (r : Request) (turn : Record) (reply : Reply)
    (granted : IsGranted log room r turn) where
  given : (a : Answer) → turn.answer ≡ a → (h : Follows log room turn)
      → reply ≡ reply_to r a → without_kept a ≡ a → IsGoodStatus reply.status
  given a is h m plain =
      let says : a ≡ (turn_at h.reading log room turn).answer =
      sym plain ∙ subst (λ x. without_kept x ≡ (turn_at h.reading log room turn).answer) is
      h.says in
      inl (ap status_of (m ∙ ap (reply_to r) says) ∙ granted h.reading h.may_read)

  by_answer : (a : Answer) → turn.answer ≡ a → MayReply r a reply → IsTrueAnswer a log room turn
      → IsGoodStatus reply.status
  by_answer answer.StoreFault is m h = inr (inl (ap status_of m))
  by_answer answer.NoMemory is m h = wanted reply memory_reply m refl
  by_answer (answer.Reported kept) is (inl m) h =
      wanted reply lost_reply (m ∙ reported_lost (asked_of r.path) kept) refl
  by_answer (answer.Reported kept) is (inr m) h = wanted reply lost_reply m refl
  by_answer (answer.DoorClosed kept) is (inl m) h =
      wanted reply lost_reply (m ∙ closed_lost (asked_of r.path) kept) refl
  by_answer (answer.DoorClosed kept) is (inr m) h = wanted reply lost_reply m refl
  by_answer other is (inl m) h = given other is h m refl
  by_answer other is (inr m) h = wanted reply lost_reply m refl

by_turn : (may_be : Moments) (tokens : List Token) (log : List Row) (room : ℕ) (r : Request)
    (turn : Option Record) (reply : Reply) → IsReplyTo may_be tokens r turn reply
    → AreTrue log room (option_to_list turn) → All (IsGranted log room r) (option_to_list turn)
    → ((at : ℤ) (fault : RequestFault) → ComesTo tokens r at (Err fault) → ⊥)
    → IsGoodStatus reply.status
by_turn may_be tokens log room r None reply (inl m) h g never = wanted reply memory_reply m refl
by_turn may_be tokens log room r None reply (inr m) h g never =
    absurd (never m.at m.fault m.asked)
by_turn may_be tokens log room r (Some turn) reply m h g never =
    by_answer log room r turn reply (All-head (IsGranted log room r) turn [] g) turn.answer refl
    m.replied (All-head (IsTrueRecord log room) turn [] h.each).answer

pub granted_is_given : (may_be : Moments) → GrantedIsGiven may_be
granted_is_given may_be tokens log room e r response heard_is response_is is turns granted never =
    let met : IsMet may_be tokens (heard.Asked r) e.turn (Some response) =
    subst (λ x. IsMet may_be tokens x e.turn (Some response)) heard_is
    (subst (λ x. IsMet may_be tokens e.heard e.turn x) response_is is.met) in
    by_turn may_be tokens log room r e.turn response.reply met.0 turns granted never
