-- What is done by the passes of a board.
use Rattle.std.proofs.Common.{◌≡◌, ◌∙◌, ◌⊎◌, ℕ, List, [], ◌∷◌, ◌++◌, length, nat_eq, Contains, Result, Ok, Err, IfErr, IfOk, OnOk, ap, refl, sym, subst, arith, inl, inr}
use Rattle.std.proofs.lemmas.Bool.{eq-eqb}
use Rattle.rb_board.proofs.Lists.{to_filter}
use Rattle.rb_board.specs.Boards.{HasClosed, PassValue, told_of_pass}
use Rattle.rb_board.specs.History.{IsHistory, own}
use Rattle.rb_board.specs.declared.view.Entry.{Entry}
use Rattle.rb_board.specs.declared.view.Opening.{Opening}
use Rattle.rb_board.specs.declared.view.Seen.{Seen}
use Rattle.rb_causes.specs.declared.row.Row.{Row}
use Rattle.rb_desk.specs.DeskState.{DeskState}
use Rattle.rb_desk.specs.Steps.{Steps, saved_after, told_of}
use Rattle.rb_log.specs.Told.{Acts, Told, record_of}
use Rattle.rb_log.specs.declared.answer.Answer.{Answer}
use Rattle.rb_log.specs.declared.call.Call.TheVariants.{Save}
use Rattle.rb_serve.specs.Served.{ByLast}
use Rattle.rb_session.specs.Statuses.{saving_of}
use Rattle.rb_session.specs.declared.saving.Saving.{Saving}
use Rattle.rb_session_top.specs.Sessions.{IsSaved}

-- ---- results

pub ok_then : {T E : Type 0} (r : Result T E) (A B : Type 0) → (A → B) → OnOk r A → OnOk r B
ok_then (Ok x) A B f h = f h
ok_then (Err e) A B f h = tt

pub ok_each : {T E : Type 0} (r : Result T E) (P Q : T → Type 0) → ((x : T) → P x → Q x)
    → IfOk r P → IfOk r Q
ok_each (Ok x) P Q f h = f x h
ok_each (Err e) P Q f h = tt

pub err_each : {T E : Type 0} (r : Result T E) (P Q : E → Type 0) → ((x : E) → P x → Q x)
    → IfErr r P → IfErr r Q
err_each (Ok x) P Q f h = tt
err_each (Err e) P Q f h = f e h

pub if_ok : {T E : Type 0} (r : Result T E) (P : T → Type 0) (x : T) → r ≡ Ok x → IfOk r P → P x
if_ok r P x is h = subst (λ q. IfOk q P) is h

pub if_err : {T E : Type 0} (r : Result T E) (P : E → Type 0) (e : E) → r ≡ Err e → IfErr r P
    → P e
if_err r P e is h = subst (λ q. IfErr q P) is h

pub on_ok : {T E : Type 0} (r : Result T E) (A : Type 0) (x : T) → r ≡ Ok x → OnOk r A → A
on_ok r A x is h = subst (λ q. OnOk q A) is h

-- the first of two, or of three
pub first_two : (A B C : Type 0) → A ⊎ B → A ⊎ (B ⊎ C)
first_two A B C (inl a) = inl a
first_two A B C (inr b) = inr (inl b)

-- ---- a pass that was lent

pass_is : (a b : PassValue) → a.id ≡ b.id → a.seen ≡ b.seen → a ≡ b
pass_is a b id seen = λ i. record { id = id i; seen = seen i }

-- what a hand did is what its pass did
pub by_last : (Did : Told → Told → Type 0) (others old new : List PassValue)
    (pass left hand hand' : PassValue) → old ≡ others ++ pass ∷ [] → new ≡ others ++ left ∷ []
    → (hand.id ≡ pass.id) × (hand.seen ≡ pass.seen)
    → (left.id ≡ hand'.id) × (left.seen ≡ hand'.seen)
    → Did (told_of_pass hand) (told_of_pass hand') → ByLast old new Did
by_last Did others old new pass left hand hand' was is made back did = record {
  others = others;
  pass = pass;
  left = left;
  was = was;
  is = is;
  did = subst (λ p. Did (told_of_pass p) (told_of_pass left))
      (pass_is hand pass made.0 made.1)
      (subst (λ p. Did (told_of_pass hand) (told_of_pass p))
      (sym (pass_is left hand' back.0 back.1)) did);
}

-- ---- a board without passes

none_past : (past : List Entry) → ((n : ℕ) → own n past ≡ []) → past ≡ []
none_past [] h = refl
none_past (e ∷ past) h =
    let one = to_filter (λ f. nat_eq f.pass e.pass) (e ∷ past) e (eq-eqb e.pass e.pass refl)
    (0, omega arith, refl) in
    let none : Contains [] e = subst (λ es. Contains es e) (h e.pass) one in
    absurd (let lt = none.1 in omega (arith, lt))

log_of : (o : Opening) (past : List Entry) (log : List Row) → past ≡ [] → IsHistory o past log
    → log ≡ o.log
log_of o past log is h = subst (λ p. IsHistory o p log) is h

pub closed_none : {K : Type 0} (faults : K → ℕ) (o : Opening) (seens : List Seen)
    (d : DeskState K) → seens ≡ [] → HasClosed faults o seens d → d.log ≡ o.log
closed_none faults o seens d none h =
    let count = ap length none in
    log_of o h.past d.log (none_past h.past (λ n. h.only n (omega (arith, count)))) h.history

-- ---- the last Save

pub is_saved : {K : Type 0} (faults : K → ℕ) (old new : DeskState K) (a : Answer)
    (said : Saving) → Acts (told_of faults old) (told_of faults new) Save a
    → Steps faults old new Save a → said ≡ saving_of a → IsSaved faults old new said
is_saved faults old new a said acts step told = (
  record_of Save a acts.before new.log,
  record { acts = acts; before = refl; after = refl },
  refl,
  told,
  λ e. step.saved ∙ ap (λ x. saved_after x old.saved (length old.log) (length new.log)) e,
)
