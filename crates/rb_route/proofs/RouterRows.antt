-- What the router finds on written paths.
use Rattle.std.proofs.Common.{refl}
use Rattle.std.specs.Prelude.{◌≡◌, codes, length}
use Rattle.matchit.proofs.OnLiterals.{matchit_on_literals}
use Rattle.rb_route.specs.Router.{router, found_of}
use Rattle.rb_route.specs.Routes.{asked_of}

all_placed : length router ≡ 9
unfolding matchit_on_literals
all_placed = refl

same_run : found_of (codes "/api/34/job/x-1/run") ≡ asked_of (codes "/api/34/job/x-1/run")
unfolding matchit_on_literals
same_run = refl

none_found : found_of (codes "/api/34/job//run") ≡ asked_of (codes "/api/34/job//run")
unfolding matchit_on_literals
none_found = refl

same_policy : found_of (codes "/api/34/system/acl/n") ≡ asked_of (codes "/api/34/system/acl/n")
unfolding matchit_on_literals
same_policy = refl
