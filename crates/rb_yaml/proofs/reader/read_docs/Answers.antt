use Rattle.std.proofs.Common.{◌≡◌, ◌≤◌, ◌^◌, List, Option, Some, None, Result, Err, suc, count_by, take, length, ap, sym, ◌∙◌, subst, arith}
use Rattle.std.specs.Str.Lossy.{utf8_valid_len}
use Rattle.rb_causes.specs.Texts.{is_line_feed}
use Rattle.rb_yaml.specs.declared.fault.YamlErr.{YamlErr}
use Rattle.rb_yaml.specs.declared.fault.YamlErr.TheVariants as errors
use Rattle.rb_yaml.specs.declared.fault.YamlFault.{YamlFault}
use Rattle.rb_yaml.specs.declared.fault.YamlKind.TheVariants as kinds
use Rattle.rb_yaml.specs.Tree.{YamlTree}
use Rattle.rb_yaml.specs.Telling.{yaml_fault, whole_fault, reported, Gives, Fails}
use Rattle.rb_yaml.specs.Documents.{docs_of_text, docs_of}
use Rattle.rb_yaml.specs.DocsView.{docs_view}
use Rattle.rb_yaml.proofs.DocFacts.{bad_line, whole_of_utf8, whole_of_bad, docs_of_utf8, docs_of_bad}
use Rattle.rb_yaml.proofs.reader.read_docs.Goals as goal

pub returns-in-Ok : goal.returns-in-Ok
returns-in-Ok c =
    let bytes = c.args.bytes.now in
    let le : length bytes ≤ 2 ^ 20 = omega arith in
    let text = c.in-Ok.ensures.cases in
    let whole = whole_of_utf8 bytes le text.1 in
    let read = ap (λ xs. reported (docs_of_text xs)) text.0 ∙ sym (docs_of_utf8 bytes whole) in
    record {
      exact = subst (λ (r : Result (List YamlTree) YamlFault). Gives docs_view c.read_text.result r) read
          c.read_text.ensures;
      whole = λ fault e. absurd (no_fault whole e);
    }
  where
    no_fault : {o : Option YamlFault} {fault : YamlFault} → o ≡ None → o ≡ Some fault → ⊥
    no_fault h e = let never = sym h ∙ e in cc

pub returns-in-Err : goal.returns-in-Err
returns-in-Err c =
    let bytes = c.args.bytes.now in
    let le : length bytes ≤ 2 ^ 20 = omega arith in
    let place : c.valid_up_to.result ≡ utf8_valid_len bytes =
    c.valid_up_to.ensures ∙ c.in-Err.ensures.valid_len in
    let line : c.bad_line-line.result ≡ bad_line bytes =
    c.bad_line-line.ensures ∙ ap (λ k. suc (count_by is_line_feed (take k bytes))) place in
    let whole : whole_fault bytes ≡ Some (yaml_fault kinds.NotUtf8 c.bad_line-line.result) =
    whole_of_bad bytes le c.in-Err.ensures.cases.0
    ∙ ap (λ k. Some (yaml_fault kinds.NotUtf8 k)) (sym line) in
    let told = docs_of_bad bytes (yaml_fault kinds.NotUtf8 c.bad_line-line.result) whole in
    record {
      exact = subst (λ (e : YamlErr). Fails e (docs_of bytes)) (sym c.yaml_fault-in-Err.ensures) told;
      whole = λ fault e. ap Err (c.yaml_fault-in-Err.ensures ∙ ap errors.Fault (one (sym whole ∙ e)));
    }
  where
    one : {x y : YamlFault} → Some x ≡ Some y → x ≡ y
    one e = cc
