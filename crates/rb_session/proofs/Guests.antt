-- What the callers of a line get in a course.
use Rattle.std.proofs.Common.{
  ◌≡◌,
  ◌∙◌,
  ◌≤◌,
  ◌+◌,
  ℕ,
  true,
  List,
  [],
  ◌∷◌,
  ◌++◌,
  length,
  map,
  take,
  All,
  Option,
  Some,
  None,
  IfSome,
  option_map,
  option_to_list,
  ap,
  refl,
  sym,
  subst,
  arith,
}
use Rattle.std.specs.List.{flat_map}
use Rattle.std.proofs.lemmas.List.Elements.{All-nil, All-cons, All-append}
use Rattle.std.proofs.lemmas.List.{length-append}
use Rattle.rb_causes.specs.Callers.{Callers}
use Rattle.rb_causes.specs.declared.row.Row.{Row}
use Rattle.rb_api.specs.declared.token.Token.{Token}
use Rattle.rb_api.specs.declared.ended.Ended.{Ended}
use Rattle.rb_door.specs.Doors.{AreInOrder, AreTrue}
use Rattle.rb_door.specs.Exchanges.{IsExchange, Moments, is_request, turns_of}
use Rattle.rb_door.specs.Guests.{AskingFailed, Guest, IsEnough, NoneLeft, Parting, TooMany, after_guests, after_parting}
use Rattle.rb_door.specs.Laws.{ActsAreTrue, HasFollowed, TalksFollow, TurnsStayTrue}
use Rattle.rb_door.specs.Serving.{LineSight, Talks}
use Rattle.rb_door.proofs.Acting.{begins_then, in_order_from}
use Rattle.rb_log.specs.Acted.{Acted}
use Rattle.rb_log.specs.Records.{IsTrueRecord, Record}
use Rattle.rb_log.specs.Told.{IsBeginning, Told}
use Rattle.rb_work.proofs.Records.{acted_begins}
use Rattle.rb_session.specs.Laws.{CoursesServe, IsGuestServed}
use Rattle.rb_session.specs.Visits.{HandlesAll, Handling, PartsSo, Scene, ServesAll, ServesStay, Stay, handling_records, most_callers, pump_records, pumped_if_any, standing, stay_exchanges, stay_records, with_callers}
use Rattle.rb_session.proofs.Asking.{enough_any, enough_none, enough_some, enough_then, inputs_more, line_more, no_inputs, same_callers}
use Rattle.rb_session.proofs.Acting.{acted_behind, acted_handling, acted_handlings, acted_pump, acted_stays}

-- ---- the desk calls of a caller

pub begins_length : (xs ys : List Row) → IsBeginning xs ys → length xs ≤ length ys
begins_length xs ys h =
    let whole : length ys ≡ length xs + length h.0 = ap length h.1 ∙ length-append xs h.0 in
    omega (arith, whole)

module _ (true_of : ActsAreTrue) where
  -- a desk call, or none, and behind it others
  turn_first : (turn : Option Record) (a b : Told) (n : ℕ) (rest : List Record)
      → Acted a b (option_to_list turn) → length b.log ≤ n → AreInOrder n rest
      → AreInOrder (length a.log) (option_to_list turn ++ rest)
  turn_first None a b n rest h le order =
      in_order_from (length a.log) n rest
      (subst (λ (t : Told). length t.log ≤ n) h le) order
  turn_first (Some r) a b n rest h le order =
      let told = (true_of a b (r ∷ []) h).later in
      let last : length b.log ≡ r.after =
      ap (λ (t : Told). length t.log) h.2 ∙ h.1.after in
      (told.0, told.1, in_order_from r.after n rest (subst (λ m. m ≤ n) last le) order)

  module _ (may_be : Moments) (tokens : List Token) (limit : Option ℕ)
      (stays_true : TurnsStayTrue) (log : List Row) (room : ℕ) where
    -- the desk calls behind this place are true of the log, and in order
    record AreTurns (old : Told) (rs : List Record) : Type 0 where
      pub each : All (IsTrueRecord log room) rs
      pub order : AreInOrder (length old.log) rs

    true_at : (a b : Told) (rs : List Record) → a.room ≡ room → IsBeginning b.log log
        → Acted a b rs → All (IsTrueRecord log room) rs
    true_at a b rs same more h =
        let told = (true_of a b rs h).each in
        subst (λ rows. All (IsTrueRecord rows room) rs) (sym more.1)
        (stays_true b.log more.0 room rs
        (subst (λ n. AreTrue b.log n rs) same told)).each

    turns : (old new : Scene) (rs : List Handling) → HandlesAll may_be tokens limit old new rs
        → old.outside.clerk.room ≡ room → IsBeginning new.outside.clerk.log log
        → AreTurns old.outside.clerk (flat_map turns_of (map (λ r. r.exchange) rs))
    turns old new [] h same more =
        record { each = All-nil (IsTrueRecord log room); order = tt }
    turns old new (r ∷ rs) h same more =
        let a = old.outside.clerk in let b = h.1.between in let c = h.0.outside.clerk in
        let acted = acted_handling may_be tokens limit old h.0 r h.1 in
        let told = true_of a c (handling_records r) acted in
        let others = acted_handlings may_be tokens limit h.0 new rs h.2 in
        let behind = begins_then c.log new.outside.clerk.log log
        (acted_begins (flat_map handling_records rs) c new.outside.clerk others) more in
        let between = acted_begins (pumped_if_any r.pump) b c
        (acted_behind may_be (is_request r.exchange.heard) limit
        (standing b old.outside.spawner) h.0.outside r.pump h.1.pump) in
        let rest = turns h.0 new rs h.2 (told.room ∙ same) more in
        record {
          each = All-append (IsTrueRecord log room) (turns_of r.exchange)
              (flat_map turns_of (map (λ r. r.exchange) rs))
              (true_at a b (turns_of r.exchange) same (begins_then b.log c.log log between behind)
              h.1.clerk) rest.each;
          order = turn_first r.exchange.turn a b (length c.log)
              (flat_map turns_of (map (λ r. r.exchange) rs)) h.1.clerk
              (begins_length b.log c.log between) rest.order;
        }

    -- ---- one caller

    talks : (old new : Scene) (rs : List Handling) → HandlesAll may_be tokens limit old new rs
        → Talks old.line new.line (map (λ r. r.exchange) rs)
    talks old new [] h = ap (λ (s : Scene). s.line) h
    talks old new (r ∷ rs) h = (h.0.line, h.1.line, talks h.0 new rs h.2)

    each_is : (old new : Scene) (rs : List Handling) → HandlesAll may_be tokens limit old new rs
        → All (IsExchange may_be tokens) (map (λ r. r.exchange) rs)
    each_is old new [] h = All-nil (IsExchange may_be tokens)
    each_is old new (r ∷ rs) h =
        All-cons (IsExchange may_be tokens) r.exchange (map (λ r. r.exchange) rs) h.1.is_one
        (each_is h.0 new rs h.2)

    module _ (follow : TalksFollow) where
      abbrev followed : (old new : Scene) (v : Stay) (said : Ended)
          → ServesStay may_be tokens limit old new v said
          → HasFollowed old.line new.line (stay_exchanges v)
      followed old new v said h =
          follow old.line new.line (stay_exchanges v) said h.empty
          (talks old new v.handlings h.handlings) h.ends

      abbrev guest_of : (old new : Scene) (v : Stay) (said : Ended)
          → ServesStay may_be tokens limit old new v said → Guest
      guest_of old new v said h =
          let f = followed old new v said h in
          record { input = f.input; unread = f.unread; exchanges = stay_exchanges v }

      guest_served : (old new : Scene) (v : Stay) (said : Ended)
          (h : ServesStay may_be tokens limit old new v said)
          → old.outside.clerk.room ≡ room → IsBeginning new.outside.clerk.log log
          → IsGuestServed may_be tokens log room (guest_of old new v said h)
      guest_served old new v said h same more =
          let f = followed old new v said h in
          let told = turns old new v.handlings h.handlings same more in
          record {
            door = record {
              follows = f.follows;
              took = refl;
              each = each_is old new v.handlings h.handlings;
              turns = record {
                each = told.each;
                order = in_order_from 0 (length old.outside.clerk.log)
                    (flat_map turns_of (stay_exchanges v)) (omega arith) told.order;
              };
            };
            said = said;
            ends = h.ends;
          }

      -- ---- all of them

      -- from here on the callers are served so
      record FromHere (served : ℕ) (old new : Option Callers) (vs : List Stay)
          (parting : Parting) : Type 0 where
        pub guests : List Guest
        pub stays : map (λ g. g.exchanges) guests ≡ map stay_exchanges vs
        pub inputs : IfSome old (λ c. map (λ g. g.input) guests ≡ take (length guests) c.waiting)
        pub enough : IfSome old (λ c. IsEnough parting (length guests) (length c.waiting))
        pub line : new ≡ option_map (λ c. after_parting parting (after_guests guests c)) old
        pub few : served + length guests ≤ most_callers
        pub all : parting ≡ TooMany → served + length guests ≡ most_callers
        pub each : All (IsGuestServed may_be tokens log room) guests

      ended : (served : ℕ) (old new : Option Callers) (parting : Parting)
          → PartsSo served old new parting → FromHere served old new [] parting
      ended served old new NoneLeft h = record {
        guests = [];
        stays = refl;
        inputs = no_inputs old;
        enough = enough_none old h.0.0;
        line = h.0.1;
        few = omega (arith, h.1);
        all = λ e. absurd (grind (arith, e));
        each = All-nil (IsGuestServed may_be tokens log room);
      }
      ended served old new AskingFailed h = record {
        guests = [];
        stays = refl;
        inputs = no_inputs old;
        enough = enough_any old;
        line = h.0 ∙ same_callers old;
        few = omega (arith, h.1);
        all = λ e. absurd (grind (arith, e));
        each = All-nil (IsGuestServed may_be tokens log room);
      }
      ended served old new TooMany h = record {
        guests = [];
        stays = refl;
        inputs = no_inputs old;
        enough = enough_some old h.0.0;
        line = h.0.1;
        few = omega (arith, h.1);
        all = λ e. omega (arith, h.1);
        each = All-nil (IsGuestServed may_be tokens log room);
      }

      all_served : (served : ℕ) (old new : Scene) (vs : List Stay) (parting : Parting)
          → ServesAll may_be tokens limit served old new vs parting
          → old.outside.clerk.room ≡ room → IsBeginning new.outside.clerk.log log
          → FromHere served old.line.callers new.line.callers vs parting
      all_served served old new [] parting h same more =
          ended served old.line.callers new.line.callers parting h.0
      all_served served old new (v ∷ vs) parting h same more =
          let asked = h.0 in let mid = h.1 in let said = h.2 in
          let before = with_callers old asked in
          let f = followed before mid v said h.4 in
          let others = acted_stays may_be tokens limit (served + 1) mid new vs parting h.5 in
          let stayed = true_of old.outside.clerk mid.outside.clerk (stay_records v)
          (acted_handlings may_be tokens limit before mid v.handlings h.4.handlings) in
          let behind = begins_then mid.outside.clerk.log new.outside.clerk.log log
          (acted_begins (flat_map stay_records vs) mid.outside.clerk new.outside.clerk others)
          more in
          let rest = all_served (served + 1) mid new vs parting h.5 (stayed.room ∙ same) more in
          record {
            guests = guest_of before mid v said h.4 ∷ rest.guests;
            stays = ap (λ ess. stay_exchanges v ∷ ess) rest.stays;
            inputs = inputs_more parting (stay_exchanges v) f.input f.unread rest.guests
                old.line.callers asked mid.line.callers h.3 f.came f.line rest.inputs;
            enough = enough_then parting (stay_exchanges v) f.input f.unread rest.guests
                old.line.callers asked mid.line.callers h.3 f.line rest.enough;
            line = line_more parting (stay_exchanges v) f.input f.unread rest.guests
                old.line.callers asked mid.line.callers new.line.callers h.3 f.line rest.line;
            few = omega (arith, rest.few);
            all = λ e. let exact = rest.all e in omega (arith, exact);
            each = All-cons (IsGuestServed may_be tokens log room)
                (guest_of before mid v said h.4) rest.guests
                (guest_served before mid v said h.4 same behind) rest.each;
          }

pub courses_serve : ActsAreTrue → TurnsStayTrue → TalksFollow → (may_be : Moments)
    → CoursesServe may_be
courses_serve true_of stays_true follow may_be tokens limit old new c h =
    let start = old.outside.clerk in let ready = h.ready.outside.clerk in
    let served = h.served.outside.clerk in let end = new.outside.clerk in
    let readied = true_of start ready (pump_records c.first)
    (acted_pump may_be limit old.outside h.ready.outside c.first h.first) in
    let more = begins_then served.log h.closed.log end.log h.close.acts.acts.log
    (acted_begins (pump_records c.last) h.closed end
    (acted_pump may_be None (standing h.closed h.served.outside.spawner) new.outside c.last
    h.last)) in
    let all = all_served true_of may_be tokens limit stays_true end.log start.room follow 0
    h.ready h.served c.stays c.parting h.callers readied.room more in
    let after : h.served.line.callers ≡ new.line.callers =
    sym (ap (λ (l : LineSight). l.callers) h.line_after) in
    record {
      guests = all.guests;
      stays = all.stays;
      served = record {
        inputs = subst (λ o. IfSome o (λ c. map (λ g. g.input) all.guests
            ≡ take (length all.guests) c.waiting)) h.line all.inputs;
        enough = subst (λ o. IfSome o (λ k. IsEnough c.parting (length all.guests)
            (length k.waiting))) h.line all.enough;
        line = sym after ∙ all.line
            ∙ ap (λ o. option_map (λ k. after_parting c.parting (after_guests all.guests k)) o)
            h.line;
      };
      few = omega (arith, all.few);
      all = λ e. let exact = all.all e in omega (arith, exact);
      each = all.each;
    }
