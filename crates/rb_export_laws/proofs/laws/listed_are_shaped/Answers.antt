use Rattle.rb_job.specs.Listings.{listings_of}
use Rattle.rb_export_laws.proofs.ShapedFacts.{listed_shaped}
use Rattle.rb_export_laws.proofs.laws.listed_are_shaped.Goals as goal

pub returns : goal.returns
returns c = λ zones docs. listed_shaped zones (listings_of docs)
