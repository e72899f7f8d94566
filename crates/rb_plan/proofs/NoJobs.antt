-- A job is found exactly where some project holds it.
use Rattle.std.proofs.Common.{◌≡◌, inl, inr, ◌↔◌, ℕ, Bool, true, false, cond, List, [], ◌∷◌, find, bytes_eq, Option, Some, None, option_map, Err, refl, sym, ap, ◌∙◌, subst}
use Rattle.std.specs.List.{Contains}
use Rattle.std.specs.Option.{option_or}
use Rattle.std.proofs.lemmas.Option.{none-some}
use Rattle.std.proofs.lemmas.Bool.{true≢false}
use Rattle.std.proofs.lemmas.Slice.Eq.{bytes_eq-Decides}
use Rattle.rb_acl.specs.declared.policy.Caller.{Caller}
use Rattle.rb_plan.specs.Verdict.{Asked, verdict_of, verdict_on, accepted_of, first_refusal}
use Rattle.rb_plan.specs.Verdict as verdict
use Rattle.rb_plan.specs.Worlds.{Found, job_found, found_in, found_among}
use Rattle.rb_plan.specs.declared.world.World.{World}
use Rattle.rb_plan.specs.declared.world.Project.{Project}
use Rattle.rb_plan.specs.declared.world.HeldJob.{HeldJob}
use Rattle.rb_plan.specs.declared.world.RunAsk.{RunAsk}
use Rattle.rb_plan.specs.declared.refusal.Refusal.TheVariants.{NoJob}
use Rattle.rb_plan.proofs.Accepting.{none_of}
use Rattle.rb_plan.proofs.Holding.{rule_holds, judged_err}
use Rattle.rb_plan.proofs.Refusing.{same_in}
use Rattle.rb_plan.proofs.Served.{Member, member_of, contains_of}

none_find : {A : Type 0} (p : A → Bool) (xs : List A) (x : A) → find p xs ≡ None → Member x xs → p x ≡ true → ⊥
none_find p [] x h m pass = m
none_find p (y ∷ ys) x h m pass = at (p y) refl (λ h m. none_find p ys x h m pass) m
  where
    at : (b : Bool) → p y ≡ b → (find p ys ≡ None → Member x ys → ⊥) → Member x (y ∷ ys) → ⊥
    at true e again m = none-some y (sym (subst (λ t. cond t (Some y) (find p ys) ≡ None) e h))
    at false e again (inl same) = true≢false (sym (subst (λ z. p z ≡ true) same pass) ∙ e)
    at false e again (inr later) = again (subst (λ t. cond t (Some y) (find p ys) ≡ None) e h) later

some_find : {A : Type 0} (p : A → Bool) (xs : List A) (x : A) → find p xs ≡ Some x → Member x xs × (p x ≡ true)
some_find p [] x h = absurd (none-some x h)
some_find p (y ∷ ys) x h = at (p y) refl (some_find p ys x)
  where
    at : (b : Bool) → p y ≡ b → (find p ys ≡ Some x → Member x ys × (p x ≡ true)) → Member x (y ∷ ys) × (p x ≡ true)
    at true e again = let s = sym (same_in y x (subst (λ t. cond t (Some y) (find p ys) ≡ Some x) e h)) in (inl (sym s), subst (λ z. p z ≡ true) s e)
    at false e again = let k = again (subst (λ t. cond t (Some y) (find p ys) ≡ Some x) e h) in (inr k.0, k.1)

map_none_is : {A B : Type 0} (f : A → B) (o : Option A) → option_map f o ≡ None → o ≡ None
map_none_is f None h = refl
map_none_is f (Some x) h = absurd (none-some (f x) (sym h))

none_among : (id : List ℕ) (ps : List Project) (p : Project) (held : HeldJob) → found_among id ps ≡ None → Member p ps → Member held p.jobs → held.id ≡ id → ⊥
none_among id [] p held h m in_p is = m
none_among id (q ∷ ps) p held h (inl same) in_p is =
    none_find (λ x. bytes_eq x.id id) q.jobs held (map_none_is _ _ (none_of (found_in id q) (found_among id ps) h).0) (subst (λ z. Member held z.jobs) same in_p) ((bytes_eq-Decides held.id id).1 is)
none_among id (q ∷ ps) p held h (inr later) in_p is = none_among id ps p held (none_of (found_in id q) (found_among id ps) h).1 later in_p is

-- where none is held, none is found
no_found : (id : List ℕ) (ps : List Project) → ((p : Project) (held : HeldJob) → Member p ps → Member held p.jobs → held.id ≡ id → ⊥) → found_among id ps ≡ None
no_found id [] none = refl
no_found id (q ∷ ps) none = at (find (λ x. bytes_eq x.id id) q.jobs) refl (no_found id ps (λ p held m. none p held (inr m)))
  where
    at : (o : Option HeldJob) → find (λ x. bytes_eq x.id id) q.jobs ≡ o → found_among id ps ≡ None → found_among id (q ∷ ps) ≡ None
    at None e rest = subst (λ o. option_or (option_map (λ held. record { project = q; held = held }) o) (found_among id ps) ≡ None) (sym e) rest
    at (Some x) e rest = let k = some_find (λ x. bytes_eq x.id id) q.jobs x e in absurd (none q x (inl refl) k.0 ((bytes_eq-Decides x.id id).0 k.1))

no_job_of : (world : World) (caller : Caller) (ask : RunAsk) (draw : ℕ) (o : Option Found) → verdict_on world caller ask draw o ≡ Err NoJob → o ≡ None
no_job_of world caller ask draw None h = refl
no_job_of world caller ask draw (Some found) h =
    let a : Asked = record { world = world; caller = caller; ask = ask; draw = draw; found = found } in
    absurd (rule_holds a NoJob (judged_err (accepted_of a) (first_refusal (verdict.rules a)) NoJob h))

pub no_job : (world : World) (caller : Caller) (ask : RunAsk) (draw : ℕ) →
    (verdict_of world caller ask draw ≡ Err NoJob)
    ↔ ((project : Project) (held : HeldJob) → Contains world.projects project → Contains project.jobs held → held.id ≡ ask.job → ⊥)
no_job world caller ask draw = (
  (λ h project held here there is. none_among ask.job world.projects project held (no_job_of world caller ask draw (job_found world ask.job) h)
      (member_of world.projects project here) (member_of project.jobs held there) is),
  (λ none. ap (verdict_on world caller ask draw)
      (no_found ask.job world.projects (λ p held here there is. none p held (contains_of world.projects p here) (contains_of p.jobs held there) is))),
)
