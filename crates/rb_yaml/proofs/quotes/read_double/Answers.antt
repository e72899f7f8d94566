use Rattle.std.proofs.Common.{◌≡◌, ◌<◌, [], ◌∷◌, ◌++◌, length, get_or, Some, None, true, false, string_bytes, ◌∙◌, ap, rules, arith}
use Rattle.rb_causes.specs.Signs.{double_quote}
use Rattle.rb_yaml.specs.Rows.{begins}
use Rattle.rb_yaml.specs.Quotes.{double_from, escaped}
use Rattle.rb_yaml.proofs.QuoteFacts.{double_open, double_close, double_cut, double_more, double_spoiled, escaped_small}
use Rattle.rb_yaml.proofs.quotes.read_double.Goals as goal

pub returns-then-is_empty : goal.returns-then-is_empty
returns-then-is_empty c =
    let out : string_bytes c.push_str.new.self ≡ string_bytes c.loop-out.out ++ c.split_run.result.0.now = search rules in
    let none : length c.split_run.result.1.now ≡ 0 = search rules in
    c.quoted_of.ensures
    ∙ double_open (double_from false c.args.text.now) (string_bytes c.loop-out.out) (string_bytes c.push_str.new.self)
    c.loop-out.rest.now c.split_run.result.0.now c.split_run.result.1.now c.loop-out.good c.split_run.ensures.front c.split_run.ensures.rest none out c.loop-out.invariant.same

pub returns-then-begins : goal.returns-then-begins
returns-then-begins c =
    let out : string_bytes c.push_str.new.self ≡ string_bytes c.loop-out.out ++ c.split_run.result.0.now = search rules in
    let quote : begins double_quote c.split_run.result.1.now ≡ true = search rules in
    c.quoted_of-then-begins.ensures
    ∙ double_close (double_from false c.args.text.now) (string_bytes c.loop-out.out) (string_bytes c.push_str.new.self)
    c.loop-out.rest.now c.split_run.result.0.now c.split_run.result.1.now c.behind_first-behind.result.now c.loop-out.good c.split_run.ensures.front c.split_run.ensures.rest out c.behind_first-behind.ensures quote c.loop-out.invariant.same

pub returns-then-is_empty-2 : goal.returns-then-is_empty-2
returns-then-is_empty-2 c =
    let out : string_bytes c.push_str.new.self ≡ string_bytes c.loop-out.out ++ c.split_run.result.0.now = search rules in
    let some : 0 < length c.split_run.result.1.now = search rules in
    let quote : begins double_quote c.split_run.result.1.now ≡ false = search rules in
    let none : length c.behind_first-behind.result.now ≡ 0 = search rules in
    c.quoted_of-then-is_empty-2.ensures
    ∙ double_cut (double_from false c.args.text.now) (string_bytes c.loop-out.out) (string_bytes c.push_str.new.self)
    c.loop-out.rest.now c.split_run.result.0.now c.split_run.result.1.now c.behind_first-behind.result.now c.loop-out.good c.split_run.ensures.front c.split_run.ensures.rest some out c.behind_first-behind.ensures quote none c.loop-out.invariant.same

pub loop-out-preserved-in-Some : goal.loop-out-preserved-in-Some
loop-out-preserved-in-Some c =
    let out : string_bytes c.push_str.new.self ≡ string_bytes c.loop-out.out ++ c.split_run.result.0.now = search rules in
    let some : 0 < length c.split_run.result.1.now = search rules in
    let quote : begins double_quote c.split_run.result.1.now ≡ false = search rules in
    let more : 0 < length c.behind_first-behind.result.now = search rules in
    let known : escaped (get_or c.behind_first-behind.result.now 0 0) ≡ Some c.in-Some.byte = search rules in
    let same : c.from.result ≡ c.in-Some.byte = search rules in
    let small : c.from.result < 128 = omega (arith, same, escaped_small (get_or c.behind_first-behind.result.now 0 0) c.in-Some.byte known) in
    let both : string_bytes c.push.new.self ≡ string_bytes c.push_str.new.self ++ c.in-Some.byte ∷ [] =
    c.in_ok-push-in-Some.ensures.bytes ∙ ap (λ xs. string_bytes c.push_str.new.self ++ xs) (c.push.ensures.ascii small ∙ ap (λ b. b ∷ []) same) in
    record {
      text = search rules;
      same = double_more (double_from false c.args.text.now) (string_bytes c.loop-out.out) (string_bytes c.push_str.new.self) (string_bytes c.push.new.self)
          c.loop-out.rest.now c.split_run.result.0.now c.split_run.result.1.now c.behind_first-behind.result.now c.behind_first-rest.result.now c.loop-out.good c.in-Some.byte
          c.split_run.ensures.front c.split_run.ensures.rest some out c.behind_first-behind.ensures quote more known both c.behind_first-rest.ensures c.loop-out.invariant.same;
    }

pub loop-out-preserved : goal.loop-out-preserved
loop-out-preserved c =
    let out : string_bytes c.push_str.new.self ≡ string_bytes c.loop-out.out ++ c.split_run.result.0.now = search rules in
    let some : 0 < length c.split_run.result.1.now = search rules in
    let quote : begins double_quote c.split_run.result.1.now ≡ false = search rules in
    let more : 0 < length c.behind_first-behind.result.now = search rules in
    let unknown : escaped (get_or c.behind_first-behind.result.now 0 0) ≡ None = search rules in
    record {
      text = search rules;
      same = double_spoiled (double_from false c.args.text.now) (string_bytes c.loop-out.out) (string_bytes c.push_str.new.self)
          c.loop-out.rest.now c.split_run.result.0.now c.split_run.result.1.now c.behind_first-behind.result.now c.loop-out.good c.split_run.ensures.front c.split_run.ensures.rest some out c.behind_first-behind.ensures quote more unknown c.loop-out.invariant.same;
    }
