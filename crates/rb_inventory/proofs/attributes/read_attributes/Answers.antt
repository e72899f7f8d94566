use Rattle.std.proofs.Common.{◌≡◌, ◌+◌, ◌∷◌, [], None, Ok, drop, map, ap, sym, ◌∙◌}
use Rattle.rb_causes.proofs.Lists.{item_at, made_more}
use Rattle.rb_yaml.specs.Tree.{pair_tree}
use Rattle.rb_inventory.specs.Attributes.{attrs_of, first_flaw, attribute_flaw}
use Rattle.rb_inventory.proofs.AttributeFacts.{attrs_split, flaw_here, flaw_on, tags_on, refused}
use Rattle.rb_inventory.proofs.attributes.read_attributes.Goals as goal

pub returns-in-Some : goal.returns-in-Some
returns-in-Some c =
    let es = c.args.entries.now in
    let here = item_at pair_tree es c.loop-entry.entry-index c.entry-item.result c.loop-entry-test.true c.entry-item.is in
    refused c.in-Some.kind (first_flaw (map pair_tree es)) _
    (flaw_here c.in-Some.kind (pair_tree c.entry-item.result) (drop c.loop-entry.entry-index (map pair_tree es)) (drop (c.loop-entry.entry-index + 1) (map pair_tree es)) (map pair_tree es)
    here (sym c.in-Some.is ∙ c.in_ok-kind.ensures.flaw) c.loop-entry.invariant.flaw)

pub loop-entry-preserved : goal.loop-entry-preserved
loop-entry-preserved c =
    let es = c.args.entries.now in
    let e = pair_tree c.entry-item.result in
    let left = drop c.loop-entry.entry-index (map pair_tree es) in
    let rest = drop (c.loop-entry.entry-index + 1) (map pair_tree es) in
    let here = item_at pair_tree es c.loop-entry.entry-index c.entry-item.result c.loop-entry-test.true c.entry-item.is in
    let none : None ≡ attribute_flaw e = sym c.in_default.is ∙ c.in_ok-kind.ensures.flaw in
    record {
      flaw = flaw_on e left rest (map pair_tree es) here none c.loop-entry.invariant.flaw;
      kept = made_more c.loop-entry.attributes.kept c.add.new.attributes.kept (attrs_of (e ∷ [])) (attrs_of left) (attrs_of rest) (attrs_of (map pair_tree es))
          (c.in_ok-kind.ensures.kept (ap Ok c.in_default.is)) (attrs_split e left rest here) c.loop-entry.invariant.kept;
      tags = tags_on e left rest (map pair_tree es) c.loop-entry.attributes.tags c.add.new.attributes.tags here none
          (c.in_ok-kind.ensures.tags (ap Ok c.in_default.is)) c.loop-entry.invariant.tags;
    }
