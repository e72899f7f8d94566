use Rattle.std.proofs.Common.{◌≡◌, ◌∙◌, ◌≤◌, ◌^◌, length, Some, None, sym, arith}
use Rattle.rb_yaml.specs.Telling.{yaml_fault}
use Rattle.rb_yaml.specs.declared.fault.YamlKind.TheVariants as kinds
use Rattle.rb_yaml.proofs.DocFacts.{bad_line, whole_of_utf8, whole_of_bad}
use Rattle.rb_session.proofs.whole_texts.sound_text.Goals as goal

pub returns-in-Ok-clause-sound : goal.returns-in-Ok-clause-sound
returns-in-Ok-clause-sound c =
    let bytes = c.args.bytes.now in
    let le : length bytes ≤ 2 ^ 20 = omega arith in
    whole_of_utf8 bytes le c.in-Ok.ensures.cases.1

pub returns-in-Err-clause-unsound : goal.returns-in-Err-clause-unsound
returns-in-Err-clause-unsound c none =
    let bytes = c.args.bytes.now in
    let le : length bytes ≤ 2 ^ 20 = omega arith in
    let never : Some (yaml_fault kinds.NotUtf8 (bad_line bytes)) ≡ None = sym (whole_of_bad bytes le c.in-Err.ensures.cases.0) ∙ none in
    absurd cc
