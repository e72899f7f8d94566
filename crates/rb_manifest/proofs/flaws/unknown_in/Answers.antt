use Rattle.std.proofs.Common.{◌∙◌, ◌+◌, Some, not, drop, map, ap, sym}
use Rattle.rb_causes.proofs.Lists.{item_at}
use Rattle.rb_yaml.specs.Tree.{pair_tree}
use Rattle.rb_values.specs.Values.{Entry}
use Rattle.rb_manifest.specs.Forms.{is_known}
use Rattle.rb_manifest.specs.Rules.{form_of}
use Rattle.rb_manifest.specs.declared.manifest_err.ManifestFault.TheVariants.{OutOfProfile}
use Rattle.rb_manifest.proofs.Firsts.{picked_here, picked_on, told_on}
use Rattle.rb_manifest.proofs.flaws.unknown_in.Goals as goal

pub returns-then-not-is_known : goal.returns-then-not-is_known
returns-then-not-is_known c =
    let xs = c.args.entries.now in
    let i = c.loop-entry.entry-index in
    let x = c.entry-item.result in
    let here = item_at pair_tree xs i x c.loop-entry-test.true c.entry-item.is in
    told_on c.out_of_profile.result (Some (OutOfProfile c.key_of.result.now)) _
    (ap (λ k. Some (OutOfProfile k)) c.key_of.ensures
    ∙ picked_here (λ (e : Entry). OutOfProfile e.0)
    (λ (e : Entry). not (is_known (form_of c.args.kind).keys e)) (pair_tree x) _
    (drop (i + 1) (map pair_tree xs)) _ here
    (ap not (sym c.is_known.ensures ∙ c.if-not-is_known.true)) c.loop-entry.invariant)
    c.out_of_profile.ensures

pub loop-entry-preserved : goal.loop-entry-preserved
loop-entry-preserved c =
    let xs = c.args.entries.now in
    let i = c.loop-entry.entry-index in
    let x = c.entry-item.result in
    let here = item_at pair_tree xs i x c.loop-entry-test.true c.entry-item.is in
    picked_on (λ (e : Entry). OutOfProfile e.0)
    (λ (e : Entry). not (is_known (form_of c.args.kind).keys e)) (pair_tree x) _
    (drop (i + 1) (map pair_tree xs)) _ here
    (ap not (sym c.is_known.ensures ∙ c.if-not-is_known.false)) c.loop-entry.invariant
