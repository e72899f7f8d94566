-- The keys of each map of policies and of nodes with the form of the value under it, in the order
-- of the format's pages; and the forms of jobs by those of rb_job.
use Rattle.std.specs.Prelude.{ℕ, ◌-◌, ◌^◌, List, [], ◌∷◌, bytes_eq, codes, if◌then◌else◌}
use Rattle.rb_job.specs.Table.{form_of as job_form_of}
use Rattle.rb_job.specs.declared.form.Form.{Form as JobForm}
use Rattle.rb_job.specs.declared.form.Form.TheVariants as jobs
use Rattle.rb_job.specs.declared.form.TextForm.{TextForm as JobTextForm}
use Rattle.rb_job.specs.declared.form.TextForm.TheVariants.{Any, Pattern, Words}
use Rattle.rb_remarks.specs.declared.form.Form.{Form}
use Rattle.rb_remarks.specs.declared.form.Form.TheVariants.{Text, Texts, List as SomeTexts, Map, Maps, Node, Attribute, Passed, Hollow, Blank, Unread}
use Rattle.rb_remarks.specs.declared.form.Part.{Part}
use Rattle.rb_remarks.specs.declared.form.Part.TheVariants as parts
use Rattle.rb_remarks.specs.declared.form.TextForm.{TextForm}
use Rattle.rb_remarks.specs.declared.form.TextForm.TheVariants as texts

-- a key with the form of its value
abbrev pub KeyForm : Type 0
KeyForm = List ℕ × Form

-- the form of the value under a key, or of that under a key that is not listed
abbrev pub form_by : List KeyForm → Form → List ℕ → Form
form_by [] others key = others
form_by (row ∷ rows) others key = if bytes_eq key row.0 then row.1 else form_by rows others key

-- any text
abbrev pub any_text : TextForm
any_text = texts.OfJob Any

abbrev pub policy_keys : List KeyForm
policy_keys =
    (codes "description", Passed)
    ∷ (codes "context", Map parts.Context)
    ∷ (codes "for", Map parts.Grants)
    ∷ (codes "by", Map parts.By)
    ∷ []

abbrev pub context_keys : List KeyForm
context_keys =
    (codes "project", Text texts.Value)
    ∷ (codes "application", Text texts.Value)
    ∷ []

abbrev pub by_keys : List KeyForm
by_keys =
    (codes "username", Texts texts.Value)
    ∷ (codes "group", Texts texts.Value)
    ∷ []

abbrev pub rule_keys : List KeyForm
rule_keys =
    (codes "allow", Texts any_text)
    ∷ (codes "deny", Texts any_text)
    ∷ (codes "match", Map parts.Patterns)
    ∷ (codes "equals", Map parts.Properties)
    ∷ (codes "contains", Map parts.Properties)
    ∷ (codes "subset", Map parts.Properties)
    ∷ []

abbrev pub attribute_keys : List KeyForm
attribute_keys =
    (codes "tags", Texts any_text)
    ∷ (codes "desk-exec", Attribute (texts.OfJob Words))
    ∷ []

-- the form of a text under a key of a job; a script is any text to rb_job, and looked into here
abbrev pub text_from_job : List ℕ → JobTextForm → TextForm
text_from_job key form = if bytes_eq key (codes "script") then texts.Script else texts.OfJob form

-- the form of a value under a key of a job, by the one that it has to rb_job
abbrev pub form_from_job : List ℕ → JobForm → Form
form_from_job key (jobs.Text form) = Text (text_from_job key form)
form_from_job key (jobs.BesideScript form) = Text (texts.OfJob form)
form_from_job key jobs.Texts = SomeTexts
form_from_job key (jobs.Map part) = Map (parts.OfJob part)
form_from_job key (jobs.Maps part least most) = Maps (parts.OfJob part) least most
form_from_job key jobs.Passed = Passed
form_from_job key jobs.EmptyList = Hollow
form_from_job key jobs.Hollow = Hollow
form_from_job key jobs.Blank = Blank
form_from_job key jobs.Refused = Unread

-- the form of the value under a key of a map; the rules of a policy may be any number
abbrev pub form_of : Part → List ℕ → Form
form_of (parts.OfJob part) key = form_from_job key (job_form_of part key)
form_of parts.Policy key = form_by policy_keys Unread key
form_of parts.Context key = form_by context_keys Unread key
form_of parts.Grants key = Maps parts.Rule 0 (2 ^ 64 - 1)
form_of parts.By key = form_by by_keys Unread key
form_of parts.Rule key = form_by rule_keys Unread key
form_of parts.Patterns key = Texts (texts.OfJob Pattern)
form_of parts.Properties key = Texts any_text
form_of parts.Inventory key = Node
form_of parts.Attributes key = form_by attribute_keys (Attribute any_text) key
