use Rattle.std.proofs.Common.{inl, inr, refl}
use Rattle.rb_text.proofs.Meaning.{refused_of, read_of, too_big_of}
use Rattle.rb_text.proofs.building.compiled.Goals as goal

pub returns-in-Err-Syntax-clause-err : goal.returns-in-Err-Syntax-clause-err
returns-in-Err-Syntax-clause-err c =
    let e = c.in-Err-Syntax in
    inr (inl (
      refl,
      refused_of c.args.form.now e.field-0-0.kind
          (e.ensures.by_grammar e.field-0-0 e.field-0-is) (rw e.field-0-is at e.ensures.kind),
    ))

pub returns-in-Err-CompiledTooBig-clause-err : goal.returns-in-Err-CompiledTooBig-clause-err
returns-in-Err-CompiledTooBig-clause-err c =
    let e = c.in-Err-CompiledTooBig in
    let k = rw e.field-0-is at e.ensures.kind in
    too_big_of c.args.form.now c.args.is_light c.too_big.result c.too_big.ensures
    (read_of c.args.form.now k.0 k.1 k.2)
