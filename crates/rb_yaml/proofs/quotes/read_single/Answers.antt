use Rattle.std.proofs.Common.{◌≡◌, ◌<◌, [], ◌∷◌, ◌++◌, length, true, false, string_bytes, ◌∙◌, ap, rules, arith}
use Rattle.rb_causes.specs.Signs.{single_quote}
use Rattle.rb_yaml.specs.Rows.{begins}
use Rattle.rb_yaml.specs.Quotes.{single_from}
use Rattle.rb_yaml.proofs.QuoteFacts.{single_open, single_close, single_more}
use Rattle.rb_yaml.proofs.quotes.read_single.Goals as goal

pub returns-then-is_empty : goal.returns-then-is_empty
returns-then-is_empty c =
    let out : string_bytes c.push_str.new.self ≡ string_bytes c.loop-out.out ++ c.split_run.result.0.now = search rules in
    let none : length c.split_run.result.1.now ≡ 0 = search rules in
    c.quoted_of.ensures
    ∙ single_open (single_from false c.args.text.now) (string_bytes c.loop-out.out) (string_bytes c.push_str.new.self) c.loop-out.rest.now
    c.split_run.result.0.now c.split_run.result.1.now c.split_run.ensures.front c.split_run.ensures.rest none out c.loop-out.invariant.same

pub behind_first-behind-requires : goal.behind_first-behind-requires
behind_first-behind-requires c = c.split_run.ensures.small

pub returns-then-not-begins : goal.returns-then-not-begins
returns-then-not-begins c =
    let out : string_bytes c.push_str.new.self ≡ string_bytes c.loop-out.out ++ c.split_run.result.0.now = search rules in
    let some : 0 < length c.split_run.result.1.now = search rules in
    let quote : begins single_quote c.behind_first-behind.result.now ≡ false = search rules in
    c.quoted_of-then-not-begins.ensures
    ∙ single_close (single_from false c.args.text.now) (string_bytes c.loop-out.out) (string_bytes c.push_str.new.self) c.loop-out.rest.now
    c.split_run.result.0.now c.split_run.result.1.now c.behind_first-behind.result.now c.split_run.ensures.front c.split_run.ensures.rest some out
    c.behind_first-behind.ensures quote c.loop-out.invariant.same

pub loop-out-preserved : goal.loop-out-preserved
loop-out-preserved c =
    let out : string_bytes c.push_str.new.self ≡ string_bytes c.loop-out.out ++ c.split_run.result.0.now = search rules in
    let some : 0 < length c.split_run.result.1.now = search rules in
    let quote : begins single_quote c.behind_first-behind.result.now ≡ true = search rules in
    let both : string_bytes c.push.new.self ≡ string_bytes c.push_str.new.self ++ single_quote ∷ [] =
    c.in_ok-push.ensures.bytes ∙ ap (λ xs. string_bytes c.push_str.new.self ++ xs) (c.push.ensures.ascii (omega arith)) in
    record {
      text = search rules;
      same = single_more (single_from false c.args.text.now) (string_bytes c.loop-out.out) (string_bytes c.push_str.new.self) (string_bytes c.push.new.self) c.loop-out.rest.now
          c.split_run.result.0.now c.split_run.result.1.now c.behind_first-behind.result.now c.behind_first-rest.result.now c.split_run.ensures.front c.split_run.ensures.rest some out
          c.behind_first-behind.ensures quote both c.behind_first-rest.ensures c.loop-out.invariant.same;
    }
