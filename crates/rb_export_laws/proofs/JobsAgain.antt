-- Jobs that are read again.
use Rattle.std.proofs.Common.{◌≡◌, ◌∙◌, ℕ, zero, suc, ◌+◌, List, [], ◌∷◌, ◌++◌, map, refl, ap, sym, subst}
use Rattle.std.specs.List.{flat_map, AllByRecursion as Each}
use Rattle.std.proofs.lemmas.List.{map-append}
use Rattle.rb_yaml.specs.Tree.{YamlTree, scalar, seq, mapping}
use Rattle.rb_values.specs.Values.{tree_list, map_entries}
use Rattle.rb_cron.specs.declared.zone.NamedZone.{NamedZone}
use Rattle.rb_job.specs.Fields.{job_of}
use Rattle.rb_job.specs.Jobs.{listed_job}
use Rattle.rb_job.specs.Listings.{items_listed, listings_in, listings_of}
use Rattle.rb_job.specs.declared.job.Job.{Job}
use Rattle.rb_canon_laws.specs.Trees.{lineless, tree_of}
use Rattle.rb_export.specs.Jobs.{onto_part, thousands, job_value, jobs_value, jobs_values}
use Rattle.rb_export_laws.proofs.JobLines.{job_lineless}
use Rattle.rb_export_laws.specs.ReadJobs.{IsReadJob}
use Rattle.rb_export_laws.proofs.JobTrees.{job_read}
use Rattle.rb_export_laws.proofs.Lines.{tree_list_lineless}
use Rattle.rb_export_laws.proofs.Values.{items_read}

-- the jobs that are listed
abbrev jobs_listed : List NamedZone → List YamlTree → List Job
jobs_listed zones docs = map (listed_job zones) (listings_of docs)

abbrev item_job : List NamedZone → YamlTree → Job
item_job zones item = job_of zones (map_entries item)

-- ---- parts of a list are the list

joined_onto : {A : Type 0} (x : A) (parts : List (List A))
    → flat_map (λ part. part) (onto_part x parts) ≡ x ∷ flat_map (λ part. part) parts
joined_onto x [] = refl
joined_onto x (part ∷ parts) = refl

pub parts_joined : {A : Type 0} (room : ℕ) (xs : List A)
    → flat_map (λ part. part) (thousands room xs) ≡ xs
parts_joined room [] = refl
parts_joined zero (x ∷ xs) = ap (λ ys. x ∷ ys) (parts_joined 999 xs)
parts_joined (suc room) (x ∷ xs) =
    joined_onto x (thousands room xs) ∙ ap (λ ys. x ∷ ys) (parts_joined room xs)

-- ---- documents

items_jobs : (zones : List NamedZone) (place : ℕ) (items : List YamlTree)
    → map (listed_job zones) (items_listed place items) ≡ map (item_job zones) items
items_jobs zones place [] = refl
items_jobs zones place (item ∷ items) =
    ap (λ js. item_job zones item ∷ js) (items_jobs zones (place + 1) items)

lineless_jobs : (zones : List NamedZone) (items : List YamlTree)
    → map (item_job zones) (map lineless items) ≡ map (item_job zones) items
lineless_jobs zones [] = refl
lineless_jobs zones (item ∷ items) =
    ap (λ j. j ∷ map (item_job zones) (map lineless items)) (job_lineless zones item)
    ∙ ap (λ js. item_job zones item ∷ js) (lineless_jobs zones items)

-- what a document lists, without its lines and with them
doc_lineless : (zones : List NamedZone) (doc : YamlTree)
    → map (listed_job zones) (listings_in (lineless doc))
    ≡ map (listed_job zones) (listings_in doc)
doc_lineless zones (scalar line text) = refl
doc_lineless zones (seq line items) =
    ap (λ ts. map (listed_job zones) (items_listed 0 ts)) (tree_list_lineless items)
    ∙ items_jobs zones 0 (map lineless (tree_list items))
    ∙ lineless_jobs zones (tree_list items)
    ∙ sym (items_jobs zones 0 (tree_list items))
doc_lineless zones (mapping line entries) = refl

part_jobs : (zones : List NamedZone) (jobs : List Job) → Each IsReadJob jobs
    → map (item_job zones) (map tree_of (map job_value jobs)) ≡ jobs
part_jobs zones [] h = refl
part_jobs zones (job ∷ jobs) h =
    ap (λ j. j ∷ map (item_job zones) (map tree_of (map job_value jobs)))
    (job_read zones job h.0)
    ∙ ap (λ js. job ∷ js) (part_jobs zones jobs h.1)

-- the jobs of the document that a part is written as
doc_jobs : (zones : List NamedZone) (jobs : List Job) → Each IsReadJob jobs
    → map (listed_job zones) (listings_in (tree_of (jobs_value jobs))) ≡ jobs
doc_jobs zones jobs h =
    ap (λ ts. map (listed_job zones) (items_listed 0 ts)) (items_read (map job_value jobs))
    ∙ items_jobs zones 0 (map tree_of (map job_value jobs))
    ∙ part_jobs zones jobs h

-- ---- all documents

each_front : {A : Type 0} (P : A → Type 0) (xs ys : List A) → Each P (xs ++ ys) → Each P xs
each_front P [] ys h = tt
each_front P (x ∷ xs) ys h = (h.0, each_front P xs ys h.1)

each_back : {A : Type 0} (P : A → Type 0) (xs ys : List A) → Each P (xs ++ ys) → Each P ys
each_back P [] ys h = h
each_back P (x ∷ xs) ys h = each_back P xs ys h.1

first_same : {A : Type 0} (x y : A) (xs ys : List A) → x ∷ xs ≡ y ∷ ys → x ≡ y
first_same x y xs ys h = cc

rest_same : {A : Type 0} (x y : A) (xs ys : List A) → x ∷ xs ≡ y ∷ ys → xs ≡ ys
rest_same x y xs ys h = cc

parts_again : (zones : List NamedZone) (parts : List (List Job)) (again : List YamlTree)
    → Each IsReadJob (flat_map (λ part. part) parts)
    → map lineless again ≡ map tree_of (map jobs_value parts)
    → jobs_listed zones again ≡ flat_map (λ part. part) parts
parts_again zones [] [] h shapes = refl
parts_again zones [] (t ∷ ts) h shapes = let never : ⊥ = cc in absurd never
parts_again zones (part ∷ parts) [] h shapes = let never : ⊥ = cc in absurd never
parts_again zones (part ∷ parts) (t ∷ ts) h shapes =
    map-append (listed_job zones) (listings_in t) (listings_of ts)
    ∙ ap (λ js. js ++ jobs_listed zones ts)
    (sym (doc_lineless zones t)
    ∙ ap (λ doc. map (listed_job zones) (listings_in doc)) (first_same _ _ _ _ shapes)
    ∙ doc_jobs zones part (each_front IsReadJob part (flat_map (λ part. part) parts) h))
    ∙ ap (λ js. part ++ js)
    (parts_again zones parts ts
    (each_back IsReadJob part (flat_map (λ part. part) parts) h) (rest_same _ _ _ _ shapes))

-- jobs that were read are listed again in the documents that they are written as
pub jobs_again : (zones : List NamedZone) (jobs : List Job) (again : List YamlTree)
    → Each IsReadJob jobs → map lineless again ≡ map tree_of (jobs_values jobs)
    → jobs_listed zones again ≡ jobs
jobs_again zones jobs again h shapes =
    parts_again zones (thousands 999 jobs) again
    (subst (Each IsReadJob) (sym (parts_joined 999 jobs)) h) shapes
    ∙ parts_joined 999 jobs
