use Rattle.std.proofs.Common.{◌≡◌, true, false, cond, bytes_eq, is_some, Some, None, string_bytes, ap, sym, ◌∙◌}
use Rattle.std.specs.BTreeMap.{get_by_text}
use Rattle.std.proofs.lemmas.Map.Text.{btree_map_updates_text}
use Rattle.rb_top.proofs.Places.{place_in, place_added, place_stays, none_at}
use Rattle.rb_top.proofs.job_places.JobPlaces.note.Goals as goal

pub returns-then-contains_key : goal.returns-then-contains_key
returns-then-contains_key c ids has last q =
    let known : is_some (get_by_text c.args.self.now.places c.args.id.now) ≡ true =
    ap (λ t. is_some (get_by_text c.args.self.now.places t)) (sym c.as_str.ensures) ∙ sym c.contains_key.ensures ∙ c.if-contains_key.true in
    has q ∙ sym (place_stays ids c.args.id.now q (ap is_some (sym (has c.args.id.now)) ∙ known))

pub returns : goal.returns
returns c ids has last q =
    let unknown : is_some (get_by_text c.args.self.now.places c.args.id.now) ≡ false =
    ap (λ t. is_some (get_by_text c.args.self.now.places t)) (sym c.as_str.ensures) ∙ sym c.contains_key.ensures ∙ c.if-contains_key.false in
    let new : place_in ids c.args.id.now ≡ None = none_at _ (ap is_some (sym (has c.args.id.now)) ∙ unknown) in
    let text : string_bytes c.in_ok-id.id ≡ c.args.id.now = c.in_ok-id.ensures.ok ∙ c.as_str-2.ensures in
    btree_map_updates_text (string_bytes c.in_ok-id.id) c.args.self.now.places c.insert.new.self (Some c.args.place) c.in_ok-_none.ensures.updates q
    ∙ ap (λ t. cond (bytes_eq t q) (Some c.args.place) (get_by_text c.args.self.now.places q)) text
    ∙ ap (λ old. cond (bytes_eq c.args.id.now q) (Some c.args.place) old) (has q)
    ∙ place_added ids c.args.id.now q c.args.place last new
