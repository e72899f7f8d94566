-- A job that is found in one of the projects that are left.
use Rattle.std.proofs.Common.{◌≡◌, ◌∙◌, ℕ, ◌+◌, ◌<◌, List, ◌∷◌, length, get_or, drop, find, bytes_eq, Option, Some, option_map, ap, sym}
use Rattle.std.specs.Option.{option_or}
use Rattle.std.proofs.lemmas.List.{drop_more}
use Rattle.rb_plan.specs.Worlds.{Found, found_among}
use Rattle.rb_plan.specs.declared.world.HeldJob.{HeldJob}
use Rattle.rb_plan.specs.declared.world.Project.{Project}

pub found_at : (id : List ℕ) (ps : List Project) (i : ℕ) (p : Project) (held : HeldJob)
    (whole : Option Found) → i < length ps → p ≡ get_or ps i p
    → Some held ≡ find (λ h. bytes_eq h.id id) p.jobs → found_among id (drop i ps) ≡ whole
    → Some (record { project = p; held = held }) ≡ whole
found_at id ps i p held whole low is found rest =
    ap (λ o. option_or (option_map (λ h. record { project = p; held = h }) o)
    (found_among id (drop (i + 1) ps))) found
    ∙ ap (found_among id)
    (sym (drop_more ps i p low ∙ ap (λ q. q ∷ drop (i + 1) ps) (sym is)))
    ∙ rest
