-- A route that is found, with the pieces of its path.
use Rattle.std.proofs.Common.{◌≡◌, ◌∙◌, ℕ, suc, ◌<◌, List, [], ◌∷◌, get_or, Option, Some, None, ap, sym}
use Rattle.std.specs.Option.{option_and_then}
use Rattle.matchit.specs.Level.{IsText}
use Rattle.rb_route.specs.Router.{MatchitFinds, asked_in, route_found}
use Rattle.rb_route.specs.Routes.{asked_of, path_pieces}
use Rattle.rb_route.specs.declared.route.Route.{Route}

-- each item of a text is a byte
pub text_of_bytes : (path : List ℕ) → ((k : ℕ) → get_or path k 0 < 256) → IsText path
text_of_bytes [] h = tt
text_of_bytes (b ∷ path) h = (h 0, text_of_bytes path (λ k. h (suc k)))

module _ (law : MatchitFinds) (path : List ℕ) (text : IsText path) where
  pub in_route : (route : Route) (found : Option Route) → found ≡ route_found path
      → found ≡ Some route → asked_in (path_pieces path) route ≡ asked_of path
  in_route route found is some =
      sym (ap (option_and_then (asked_in (path_pieces path))) (sym is ∙ some)) ∙ law path text

  pub in_none : (found : Option Route) → found ≡ route_found path
      → found ≡ None → None ≡ asked_of path
  in_none found is none =
      sym (ap (option_and_then (asked_in (path_pieces path))) (sym is ∙ none)) ∙ law path text
