use Rattle.std.proofs.Common.{◌∙◌, ◌⊎◌, arith, inl, inr, refl, sym}
use Rattle.rundeskd.proofs.answering.answer.Goals as goal

-- the statuses of a text are among those of what opens no desk
of_three : {A B C D E F : Type 0} → A ⊎ (E ⊎ F) → A ⊎ (B ⊎ (C ⊎ (D ⊎ (E ⊎ F))))
of_three (inl a) = inl a
of_three (inr (inl e)) = inr (inr (inr (inr (inl e))))
of_three (inr (inr f)) = inr (inr (inr (inr (inr f))))

pub returns-in-Some-clause-answer : goal.returns-in-Some-clause-answer
returns-in-Some-clause-answer g c =
    let printed = c.print_text.ensures in
    rw (sym c.own_text.ensures ∙ c.in-Some.is) (record {
      shelf = refl;
      spawners = refl;
      without = record {
        no_desk = refl;
        lines = refl;
        kept = refl;
        files = refl;
        faults = omega arith;
        out = printed.out;
        statuses = of_three printed.statuses;
      };
      text = c.text_of.result.now;
      is = c.text_of.ensures;
      prints = printed.prints;
    })
