-- Listings as the code holds them.
use Rattle.std.specs.Prelude.{option_map}
use Rattle.std.specs.Option.{option_copied}
use Rattle.rb_yaml.specs.Tree.{yaml_tree}
use Rattle.rb_job.specs.declared.listing.Listing.{Listing}
use Rattle.rb_job.specs.Listings.{ListedJob}

abbrev pub listing_view : Listing → ListedJob
listing_view l = (l.place, option_map yaml_tree (option_copied l.value))
