-- Exchanges behind exchanges.
use Rattle.std.proofs.Common.{
  ◌≡◌,
  ◌≢◌,
  ◌∙◌,
  List,
  [],
  ◌∷◌,
  ◌++◌,
  All,
  ap,
  sym,
  subst,
  refl,
  append-nil,
}
use Rattle.std.specs.List.{flat_map}
use Rattle.std.proofs.lemmas.Grind.{flat_map-append}
use Rattle.std.proofs.lemmas.List.Elements.{All-nil, All-cons, All-append, All-head, All-tail}
use Rattle.rb_log.specs.Acted.{Acted}
use Rattle.rb_log.specs.Records.{Record}
use Rattle.rb_log.specs.Told.{Told}
use Rattle.rb_api.specs.declared.ended.Ended.{Ended}
use Rattle.rb_api.specs.declared.ended.Ended.TheVariants as ended
use Rattle.rb_api.specs.declared.token.Token.{Token}
use Rattle.rb_door.specs.Exchanges.{Moments, Exchange, IsExchange, ended_of, turns_of}
use Rattle.rb_door.specs.Laws.{LoopsServe}
use Rattle.rb_door.specs.Serving.{
  DoorSight,
  LineSight,
  EndsAs,
  ServesCaller,
  ServesNext,
  ServesSoFar,
  Talks,
}
use Rattle.rb_door.specs.declared.heeded.Heeded.{Heeded}

acted_then : (xs ys : List Record) (a b c : Told) → Acted a b xs → Acted b c ys
    → Acted a c (xs ++ ys)
acted_then [] ys a b c h k = subst (λ t. Acted t c ys) h k
acted_then (r ∷ xs) ys a b c h k = (h.0, h.1, acted_then xs ys h.0 b c h.2 k)

talks_then : (xs ys : List Exchange) (a b c : LineSight) → Talks a b xs → Talks b c ys
    → Talks a c (xs ++ ys)
talks_then [] ys a b c h k = subst (λ t. Talks t c ys) h k
talks_then (e ∷ xs) ys a b c h k = (h.0, h.1, talks_then xs ys h.0 b c h.2 k)

abbrev IsMore : Exchange → Type 0
IsMore e = ended_of e ≡ ended.More

ends_behind : (es : List Exchange) (e : Exchange) (said : Ended) → All IsMore es
    → ended_of e ≡ said → said ≢ ended.More → EndsAs said (es ++ e ∷ [])
ends_behind [] e said more is last = (is, last)
ends_behind (x ∷ []) e said more is last = (All-head IsMore x [] more, (is, last))
ends_behind (x ∷ y ∷ es) e said more is last = (
  All-head IsMore x (y ∷ es) more,
  ends_behind (y ∷ es) e said (All-tail IsMore x (y ∷ es) more)
      is last,
)

one : {A : Type 0} → (P : A → Type 0) (x : A) → P x → All P (x ∷ [])
one P x h = All-cons P x [] h (All-nil P)

module _ (may_be : Moments) (tokens : List Token) (old mid new : DoorSight) (said : Heeded)
    (so_far : ServesSoFar may_be tokens old mid) (next : ServesNext may_be tokens mid new said)
  where
    abbrev all : List Exchange
    all = so_far.exchanges ++ next.exchange ∷ []

    each_is : All (IsExchange may_be tokens) all
    each_is =
        All-append (IsExchange may_be tokens) so_far.exchanges (next.exchange ∷ []) so_far.each
        (one (IsExchange may_be tokens) next.exchange next.is_one)

    line_is : Talks old.line new.line all
    line_is =
        talks_then so_far.exchanges (next.exchange ∷ []) old.line mid.line new.line so_far.line
        (new.line, next.line, refl)

    turns_are : flat_map turns_of all
        ≡ flat_map turns_of so_far.exchanges ++ turns_of next.exchange
    turns_are =
        flat_map-append turns_of so_far.exchanges (next.exchange ∷ [])
        ∙ ap (λ rs. flat_map turns_of so_far.exchanges ++ rs) (append-nil (turns_of next.exchange))

    clerk_is : Acted old.clerk new.clerk (flat_map turns_of all)
    clerk_is =
        subst (λ rs. Acted old.clerk new.clerk rs) (sym turns_are)
        (acted_then (flat_map turns_of so_far.exchanges) (turns_of next.exchange) old.clerk mid.clerk
        new.clerk so_far.clerk next.clerk)

    ended_is : ended_of next.exchange ≡ said.ended
    ended_is = sym (ap (λ (h : Heeded). h.ended) next.told)

    goes_on : said.ended ≡ ended.More → ServesSoFar may_be tokens old new
    goes_on more = record {
      exchanges = all;
      each = each_is;
      more = All-append IsMore so_far.exchanges (next.exchange ∷ []) so_far.more
          (one IsMore next.exchange (ended_is ∙ more));
      line = line_is;
      clerk = clerk_is;
    }

    ends : said.ended ≢ ended.More → ServesCaller may_be tokens old new said.ended
    ends last = record {
      exchanges = all;
      each = each_is;
      line = line_is;
      clerk = clerk_is;
      ends = ends_behind so_far.exchanges next.exchange said.ended so_far.more ended_is last;
    }

pub loops_serve : (may_be : Moments) → LoopsServe may_be
loops_serve may_be = record {
  begins = λ tokens old. record {
    exchanges = [];
    each = All-nil (IsExchange may_be tokens);
    more = All-nil IsMore;
    line = refl;
    clerk = refl;
  };
  goes_on = λ tokens old mid new said so_far next more.
      goes_on may_be tokens old mid new said so_far next more;
  ends = λ tokens old mid new said so_far next last.
      ends may_be tokens old mid new said so_far next last;
}
