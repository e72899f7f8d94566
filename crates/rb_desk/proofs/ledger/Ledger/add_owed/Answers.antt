use Rattle.std.proofs.Common.{◌≡◌, ◌∙◌, ◌++◌, ◌∷◌, [], take, IfSome, sym, subst, arith}
use Rattle.rb_desk.proofs.Keeping.{kept_all, still_kept}
use Rattle.rb_desk.proofs.ledger.Ledger.add_owed.Goals as goal

pub invariant_of-self-2 : goal.invariant_of-self-2
invariant_of-self-2 g c =
    let pushed : c.deref.result.now ≡ c.self.inside.log.items ++ c.args.row ∷ [] =
    c.deref.ensures.value ∙ c.push_reserved.ensures.items in
    record {
      saved = omega (arith, c.len-self-inside.ensures);
      kept =
          subst (λ l. IfSome (g.K.Keeper.rows c.append.new.self)
          (λ held. held ≡ take c.len-self-inside.result l)) c.deref.ensures.value
          (kept_all (g.K.Keeper.rows c.self.inside.keeper) (g.K.Keeper.rows c.append.new.self)
          c.deref.result.now c.self.inside.saved c.len-self-inside.result c.in_ok-append.ensures.ok
          (subst (λ l. IfSome (g.K.Keeper.rows c.self.inside.keeper)
          (λ held. held ≡ take c.self.inside.saved l)) (sym pushed)
          (still_kept (g.K.Keeper.rows c.self.inside.keeper) c.self.inside.saved
          c.self.inside.log.items (c.args.row ∷ []) c.self.invariant.kept c.self.invariant.saved))
          (c.len-self-inside.ensures ∙ sym c.deref.ensures.len));
    }

pub returns-clause-held : goal.returns-clause-held
returns-clause-held g c =
    let pushed : c.deref.result.now ≡ c.self.inside.log.items ++ c.args.row ∷ [] =
    c.deref.ensures.value ∙ c.push_reserved.ensures.items in
    record {
      saved = omega (arith, c.len-self-inside.ensures);
      kept =
          subst (λ l. IfSome (g.K.Keeper.rows c.append.new.self)
          (λ held. held ≡ take c.len-self-inside.result l)) c.deref.ensures.value
          (kept_all (g.K.Keeper.rows c.self.inside.keeper) (g.K.Keeper.rows c.append.new.self)
          c.deref.result.now c.self.inside.saved c.len-self-inside.result c.in_ok-append.ensures.ok
          (subst (λ l. IfSome (g.K.Keeper.rows c.self.inside.keeper)
          (λ held. held ≡ take c.self.inside.saved l)) (sym pushed)
          (still_kept (g.K.Keeper.rows c.self.inside.keeper) c.self.inside.saved
          c.self.inside.log.items (c.args.row ∷ []) c.self.invariant.kept c.self.invariant.saved))
          (c.len-self-inside.ensures ∙ sym c.deref.ensures.len));
    }
