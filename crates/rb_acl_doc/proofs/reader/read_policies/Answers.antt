use Rattle.std.proofs.Common.{◌<◌, ◌+◌, ◌∷◌, ◌++◌, [], drop, ap, sym, ◌∙◌, subst}
use Rattle.std.proofs.lemmas.List.{length-map}
use Rattle.rb_causes.proofs.Lists.{item_at, made_more}
use Rattle.rb_yaml.specs.Tree.{yaml_tree, docs_tree}
use Rattle.rb_yaml.specs.declared.yaml.Doc.{Doc}
use Rattle.rb_acl_doc.specs.Policies.{policy_of, policies_from}
use Rattle.rb_acl_doc.specs.Reading.{AreSound}
use Rattle.rb_acl_doc.proofs.Documents.{sound_more, taken_more, refused_at}
use Rattle.rb_acl_doc.proofs.reader.read_policies.Goals as goal

pub returns-in_err-read_policy-clause-fault : goal.returns-in_err-read_policy-clause-fault
returns-in_err-read_policy-clause-fault c =
    let docs = c.args.docs.now in
    let i = c.loop-index.index in
    let here = item_at (λ (d : Doc). yaml_tree d.root) docs i c.index-docs-index.result
    c.loop-index-test.true
    c.index-docs-index.is in
    refused_at c.from_residual.result (docs_tree docs) (drop (i + 1) (docs_tree docs))
    (yaml_tree c.index-docs-index.result.root) i c.in_err-read_policy.field-0.0
    c.from_residual.ensures.1
    (subst (λ n. i < n) (sym (length-map docs (λ (d : Doc). yaml_tree d.root)))
    c.loop-index-test.true) here c.loop-index.invariant.sound c.in_err-read_policy.ensures.fault

pub loop-index-preserved : goal.loop-index-preserved
loop-index-preserved c =
    let docs = c.args.docs.now in
    let i = c.loop-index.index in
    let view = λ (d : Doc). yaml_tree d.root in
    let here = item_at view docs i c.index-docs-index.result c.loop-index-test.true
    c.index-docs-index.is in
    record {
      value = made_more c.loop-index.policies c.push.new.self
          (policy_of c.args.file.now (i + 1) (yaml_tree c.index-docs-index.result.root) ∷ []) _
          (policies_from c.args.file.now (i + 1 + 1) (drop (i + 1) (docs_tree docs))) _
          (c.in_ok-push.ensures.ok
          ∙ ap (λ p. c.loop-index.policies ++ p ∷ []) c.in_ok-read_policy.ensures.policy)
          (ap (policies_from c.args.file.now (i + 1)) here) c.loop-index.invariant.value;
      sound = subst AreSound
          (sym (taken_more view docs i c.index-docs-index.result c.loop-index-test.true
          c.index-docs-index.is))
          (sound_more _ (yaml_tree c.index-docs-index.result.root) c.loop-index.invariant.sound
          c.in_ok-read_policy.ensures.sound);
    }
