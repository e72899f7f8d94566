-- A legal list goes on to a legal list.
use Rattle.std.proofs.Common.{List, [], ◌∷◌, ◌++◌, append_assoc, append-nil, sym, subst}
use Rattle.rb_marks.specs.Units.{Outline}
use Rattle.rb_marks.specs.First.{MayFollow, LegalAfter, IsLegal}
use Rattle.rb_marks.specs.declared.mark.Mark.{Mark}

after_more : (p : Outline) (hs ms : List Mark) (m : Mark) → LegalAfter p hs ms
    → MayFollow p (hs ++ ms) m → LegalAfter p hs (ms ++ m ∷ [])
after_more p hs [] m l f = (subst (λ x. MayFollow p x m) (append-nil hs) f, tt)
after_more p hs (n ∷ ms) m l f = (
  l.0,
  after_more p (hs ++ n ∷ []) ms m l.1
      (subst (λ x. MayFollow p x m) (sym (append_assoc hs (n ∷ []) ms)) f),
)

pub legal_more : (p : Outline) (hs : List Mark) (m : Mark) → IsLegal p hs → MayFollow p hs m
    → IsLegal p (hs ++ m ∷ [])
legal_more p hs m l f = after_more p [] hs m l f
