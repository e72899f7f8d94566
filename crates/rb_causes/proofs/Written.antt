-- What was written, one text behind the other.
use Rattle.std.proofs.Common.{◌≡◌, ◌≤◌, ◌<◌, ◌+◌, ◌-◌, ℕ, List, [], ◌++◌, take, drop, length, Option, Some, None, refl, ap, sym, ◌∙◌, subst, inl, inr, arith, append-nil, length-append, Result, Ok, Err, IsErrAnd}
use Rattle.std.proofs.Math.Seq.{take-add, take-append-add}
use Rattle.std.proofs.lemmas.List.{take_rest, take-append-le}
use Rattle.rb_causes.specs.Causes.{Rose}
use Rattle.rb_causes.specs.Outside.{gained}
use Rattle.rb_causes.specs.Sinks.{SinkState, Wrote, StoppedBehind, Cut, Writes, StopsAtFault, IsProperPrefixOf, failed_place}
use Rattle.rb_causes.specs.declared.trouble.Trouble.{Trouble}
use Rattle.rb_causes.specs.declared.trouble.Trouble.TheVariants.{Failed, NoMemory}
use Rattle.rb_causes.proofs.Gains.{gained-gained}

pub gained-nil : {A : Type 0} (told : Option (List A)) → told ≡ gained told []
gained-nil None = refl
gained-nil (Some xs) = ap Some (sym (append-nil xs))

pub gained_twice : {A : Type 0} (a b c : Option (List A)) (xs ys : List A) → b ≡ gained a xs → c ≡ gained b ys → c ≡ gained a (xs ++ ys)
gained_twice a b c xs ys first second = second ∙ ap (λ told. gained told ys) first ∙ gained-gained a xs ys

pub rose_since : (a b c : ℕ) → a ≤ b → Rose b c → Rose a c
rose_since a b c later rose = omega arith

pub rose_until : (a b c : ℕ) → Rose a b → b ≤ c → Rose a c
rose_until a b c rose later = omega arith

pub wrote_nothing : (s : SinkState) → Wrote [] s s
wrote_nothing s = record { taken = gained-nil s.taken; faults = refl; wants = omega arith; at_fault = refl }

pub wrote_then : {xs ys : List ℕ} {s0 s1 s2 : SinkState} → Wrote xs s0 s1 → Wrote ys s1 s2 → Wrote (xs ++ ys) s0 s2
wrote_then {xs} {ys} {s0} {s1} {s2} a b = record {
  taken = gained_twice s0.taken s1.taken s2.taken xs ys a.taken b.taken;
  faults = b.faults ∙ a.faults;
  wants = omega (arith, a.wants, b.wants);
  at_fault = b.at_fault ∙ a.at_fault;
}

pub stopped_then : {xs : List ℕ} (ys : List ℕ) {s0 s1 : SinkState} (s2 : SinkState) (trouble : Trouble) → Wrote xs s0 s1 → StoppedBehind trouble ys s1 s2
    → StoppedBehind trouble (xs ++ ys) s0 s2
stopped_then {xs} ys {s0} {s1} s2 Failed a b = record {
  taken = gained_twice s0.taken s1.taken s2.taken xs ys a.taken b.taken;
  faults = omega (arith, a.faults, b.faults);
  wants = omega (arith, a.wants, b.wants);
  failed = rose_since s0.faults s1.faults s2.faults (omega (arith, a.faults)) b.failed;
  at_fault = b.at_fault ∙ ap (λ place. failed_place place s2.taken) a.at_fault;
}
stopped_then {xs} ys {s0} {s1} s2 NoMemory a b = record {
  taken = gained_twice s0.taken s1.taken s2.taken xs ys a.taken b.taken;
  faults = b.faults ∙ a.faults;
  wants = omega (arith, a.wants, b.wants);
  wanted = rose_since s0.wants s1.wants s2.wants a.wants b.wanted;
  at_fault = b.at_fault ∙ a.at_fault;
}

-- the same of a text that is equal
pub wrote_as : {xs ys : List ℕ} {s s' : SinkState} → xs ≡ ys → Wrote xs s s' → Wrote ys s s'
wrote_as {s = s} {s' = s'} same wrote = subst (λ text. Wrote text s s') same wrote

pub stopped_as : {xs ys : List ℕ} (s s' : SinkState) (trouble : Trouble) → xs ≡ ys → StoppedBehind trouble xs s s' → StoppedBehind trouble ys s s'
stopped_as s s' trouble same stopped = subst (λ text. StoppedBehind trouble text s s') same stopped

-- n more of what is left behind the first `done`
taken_more : (text : List ℕ) (done n : ℕ) → take done text ++ take n (take (length text - done) (drop done text)) ≡ take (done + n) text
taken_more text done n = ap (λ rest. take done text ++ take n rest) (take_rest text done) ∙ sym (take-add done n text)

pub wrote_more : (text : List ℕ) (done n : ℕ) {s0 s1 s2 : SinkState} → Wrote (take done text) s0 s1 → Wrote (take n (take (length text - done) (drop done text))) s1 s2 → Wrote (take (done + n) text) s0 s2
wrote_more text done n before more = wrote_as (taken_more text done n) (wrote_then before more)

-- stopped behind the first `done`, which are not all
pub cut_there : (text : List ℕ) (done : ℕ) {s0 s1 : SinkState} (s2 : SinkState) (trouble : Trouble) → done < length text → Wrote (take done text) s0 s1 → StoppedBehind trouble [] s1 s2 → Cut trouble text s0 s2
cut_there text done {s0 = s0} s2 trouble short before stopped = record {
  prefix = take done text;
  proper = (done, short, refl);
  stopped = stopped_as s0 s2 trouble (append-nil (take done text)) (stopped_then [] s2 trouble before stopped);
}

-- a text of two parts is cut in the second
pub proper_behind : (xs prefix ys : List ℕ) → IsProperPrefixOf prefix ys → IsProperPrefixOf (xs ++ prefix) (xs ++ ys)
proper_behind xs prefix ys (n, short, is) = (length xs + n, omega (arith, short, length-append xs ys), ap (λ p. xs ++ p) is ∙ sym (take-append-add xs ys n))

pub cut_then : {xs ys : List ℕ} {s0 s1 s2 : SinkState} (trouble : Trouble) → Wrote xs s0 s1 → Cut trouble ys s1 s2 → Cut trouble (xs ++ ys) s0 s2
cut_then {xs} {ys} {s2 = s2} trouble wrote cut = record {
  prefix = xs ++ cut.prefix;
  proper = proper_behind xs cut.prefix ys cut.proper;
  stopped = stopped_then cut.prefix s2 trouble wrote cut.stopped;
}

-- a text that is cut in its first part
proper_front : (prefix xs ys : List ℕ) → IsProperPrefixOf prefix xs → IsProperPrefixOf prefix (xs ++ ys)
proper_front prefix xs ys (n, short, is) =
    (n, omega (arith, short, length-append xs ys), is ∙ sym (take-append-le n xs ys (omega (arith, short))))

pub cut_front : {xs : List ℕ} (ys : List ℕ) {s s' : SinkState} {trouble : Trouble} → Cut trouble xs s s' → Cut trouble (xs ++ ys) s s'
cut_front {xs} ys cut = record { prefix = cut.prefix; proper = proper_front cut.prefix xs ys cut.proper; stopped = cut.stopped }

pub cut_as : {xs ys : List ℕ} {s s' : SinkState} (trouble : Trouble) → xs ≡ ys → Cut trouble xs s s' → Cut trouble ys s s'
cut_as {s = s} {s' = s'} trouble same cut = subst (λ text. Cut trouble text s s') same cut

-- an error that was handed on
pub cut_handed : {T : Type 0} {text : List ℕ} {s s' : SinkState} (result : Result T Trouble) (trouble : Trouble) → IsErrAnd result (λ e. e ≡ trouble) → Cut trouble text s s' → Writes text s s' result
cut_handed (Ok x) trouble handed cut = absurd handed
cut_handed {text = text} {s = s} {s' = s'} (Err e) trouble handed cut = subst (λ t. Cut t text s s') (sym handed) cut

-- ---- nothing behind the first failed write

pub stops_wrote : {text : List ℕ} {s s' : SinkState} → Wrote text s s' → StopsAtFault s s'
stops_wrote wrote = record { faults = omega (arith, wrote.faults); wants = wrote.wants; stops = λ none. inl (wrote.at_fault ∙ none) }

pub stops_stopped : (trouble : Trouble) (text : List ℕ) (s s' : SinkState) → StoppedBehind trouble text s s' → StopsAtFault s s'
stops_stopped Failed text s s' stopped = record {
  faults = stopped.faults;
  wants = stopped.wants;
  stops = λ none. inr (stopped.at_fault ∙ ap (λ place. failed_place place s'.taken) none);
}
stops_stopped NoMemory text s s' stopped = record {
  faults = omega (arith, stopped.faults);
  wants = stopped.wants;
  stops = λ none. inl (stopped.at_fault ∙ none);
}

pub stops_then : {text : List ℕ} {s0 s1 s2 : SinkState} → Wrote text s0 s1 → StopsAtFault s1 s2 → StopsAtFault s0 s2
stops_then wrote stops = record {
  faults = omega (arith, wrote.faults, stops.faults);
  wants = omega (arith, wrote.wants, stops.wants);
  stops = λ none. stops.stops (wrote.at_fault ∙ none);
}
