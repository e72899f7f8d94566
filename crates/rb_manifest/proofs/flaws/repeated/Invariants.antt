use Rattle.std.proofs.Common.{◌≡◌, [], drop, map, take}
use Rattle.rb_causes.specs.SeenTexts.{HasSeen}
use Rattle.rb_manifest.specs.Forms.{repeated}
use Rattle.rb_manifest.specs.declared.manifest_err.ManifestFault.TheVariants.{Twice}
use Rattle.rb_manifest.proofs.Firsts.{first}
use Rattle.rb_manifest.proofs.flaws.repeated.Given as goal

-- those before were seen, and the first that stands there twice is among those that are left
abbrev pub invariant-loop-name : goal.invariant-loop-name
invariant-loop-name l = record {
  seen : HasSeen l.seen (take l.name-index l.names);
  same : first (map Twice (repeated (take l.name-index l.names) (drop l.name-index l.names)))
      ≡ first (map Twice (repeated [] l.names));
}
