-- One attribute more.
use Rattle.std.specs.Option.{option_or, option_and_then}
use Rattle.std.proofs.Common.{◌≡◌, ℕ, Bool, true, false, cond, List, [], ◌∷◌, ◌++◌, map, Option, Some, None, option_map, is_some, Err, refl, ap, sym, ◌∙◌}
use Rattle.std.specs.List.{filter, find}
use Rattle.rb_causes.specs.Texts.{is_tags}
use Rattle.rb_causes.specs.Causes.{unless}
use Rattle.rb_inventory.specs.declared.fault.NodeKind.{NodeKind}
use Rattle.rb_inventory.specs.declared.fault.NodeKind.TheVariants.{BadTags}
use Rattle.rb_values.specs.Values.{Entry}
use Rattle.rb_inventory.specs.Tags.{written_tags, entry_tags, tags_under}
use Rattle.rb_inventory.specs.Attributes.{is_kept, entry_prop, attrs_of, tags_flaw, attribute_flaw, first_flaw}

split_by : (b : Bool) (e : Entry) (rest : List Entry) → map entry_prop (cond b (e ∷ rest) rest) ≡ map entry_prop (cond b (e ∷ []) []) ++ map entry_prop rest
split_by true e rest = refl
split_by false e rest = refl

pub attrs_split : (e : Entry) (left rest : List Entry) → left ≡ e ∷ rest → attrs_of left ≡ attrs_of (e ∷ []) ++ attrs_of rest
attrs_split e left rest is = ap attrs_of is ∙ split_by (is_kept e.0) e (filter (λ x. is_kept x.0) rest)

-- the first faulty attribute, and one that is not faulty
pub flaw_here : (kind : NodeKind) (e : Entry) (left rest all : List Entry) → left ≡ e ∷ rest → Some kind ≡ attribute_flaw e → first_flaw left ≡ first_flaw all → Some kind ≡ first_flaw all
flaw_here kind e left rest all is made same = ap (λ o. option_or o (first_flaw rest)) made ∙ sym (ap first_flaw is) ∙ same

pub flaw_on : (e : Entry) (left rest all : List Entry) → left ≡ e ∷ rest → None ≡ attribute_flaw e → first_flaw left ≡ first_flaw all → first_flaw rest ≡ first_flaw all
flaw_on e left rest all is made same = ap (λ o. option_or o (first_flaw rest)) made ∙ sym (ap first_flaw is) ∙ same

-- ---- the tags

first_kept : (old now more : Option (List (List ℕ))) → cond (is_some now) None (Some BadTags) ≡ None → option_or (option_or old now) more ≡ option_or old now
first_kept old None more h = let never : Some BadTags ≡ None = h in cc
first_kept None (Some tags) more h = refl
first_kept (Some first) (Some tags) more h = refl

none_added : (old more : Option (List (List ℕ))) → option_or (option_or old None) more ≡ option_or old more
none_added None more = refl
none_added (Some first) more = refl

tags_by : (b : Bool) (e : Entry) (rest : List Entry) (old : Option (List (List ℕ))) (other : Option NodeKind) → None ≡ cond b (tags_flaw e.1) other
    → option_or (option_or old (cond b (written_tags e.1) None)) (tags_under rest)
    ≡ option_or old (option_and_then written_tags (option_map (λ (x : Entry). x.1) (cond b (Some e) (find (λ x. is_tags x.0) rest))))
tags_by true e rest old other made = first_kept old (written_tags e.1) (tags_under rest) (sym made)
tags_by false e rest old other made = none_added old (tags_under rest)

pub tags_on : (e : Entry) (left rest all : List Entry) (old more : Option (List (List ℕ))) → left ≡ e ∷ rest → None ≡ attribute_flaw e → more ≡ option_or old (entry_tags e)
    → option_or old (tags_under left) ≡ tags_under all → option_or more (tags_under rest) ≡ tags_under all
tags_on e left rest all old more is made added same =
    ap (λ o. option_or o (tags_under rest)) added
    ∙ tags_by (is_tags e.0) e rest old _ made
    ∙ sym (ap (λ es. option_or old (tags_under es)) is) ∙ same

-- ---- all of them

-- the first faulty attribute is told
pub refused : {A : Type 0} (kind : NodeKind) (flaw : Option NodeKind) (value : A) → Some kind ≡ flaw → Err kind ≡ unless flaw value
refused kind flaw value is = ap (λ f. unless f value) is
