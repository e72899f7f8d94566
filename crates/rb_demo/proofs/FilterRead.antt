-- The filter of the demo's jobs is read, and never refused.
use Rattle.std.proofs.Common.{◌≡◌, ◌≢◌, ◌⊎◌, inl, inr, false, codes, refl, arith}
use Rattle.rb_text.specs.Causes.{IsCause}
use Rattle.rb_text.specs.Light.{is_light}
use Rattle.rb_text.specs.Matching.{IsUnread, whole_form}
use Rattle.rb_text.specs.declared.pattern_err.PatternErr.{PatternErr}
use Rattle.rb_text.specs.declared.pattern_err.PatternErr.TheVariants as refusal
use Rattle.rb_text.specs.declared.value.Value.TheVariants.{Pattern}
use Rattle.rb_node.specs.Filters.{IsFirstFaultIn}
use Rattle.rb_node.specs.Values.{IsValueFault}
use Rattle.rb_node.specs.declared.filter_err.FilterErr.{FilterErr}
use Rattle.rb_node.specs.declared.filter_err.FilterErr.TheVariants as filter_refusal
use Rattle.rb_job.specs.TextForms.{filter}
use Rattle.rb_job.specs.Telling.{Passes, IsSo}
use Rattle.rb_job.specs.declared.fault.JobKind.{JobKind}
use Rattle.rb_demo.proofs.Computing.{computing}

is_read : IsUnread (codes ".*") → ⊥
unfolding computing
is_read (inl none) = absurd (cc)
is_read (inr deep) = omega (arith, deep)

is_whole_read : IsUnread (whole_form (codes ".*")) → ⊥
unfolding computing
is_whole_read (inl none) = absurd (cc)
is_whole_read (inr deep) = omega (arith, deep)

pub filter_read : Passes (filter (codes ".*"))
unfolding computing
filter_read = (refl, ((omega arith, is_read, is_whole_read), tt))

not_unread : IsUnread (codes ".*") ⊎ IsUnread (whole_form (codes ".*")) → ⊥
not_unread (inl part) = is_read part
not_unread (inr whole) = is_whole_read whole

is_too_light : is_light (codes ".*") ≡ false → ⊥
is_too_light e = cc

no_cause : (e : PatternErr) → e ≢ refusal.NoMemory → IsCause (codes ".*") e → ⊥
no_cause refusal.BadPattern n c = not_unread c.1
no_cause refusal.TooLong n c = omega (arith, c)
no_cause refusal.TooBig n c = is_too_light c.3
no_cause refusal.NoMemory n c = n refl

-- no fault of its one value but want of memory
no_value_fault : (e : FilterErr) → e ≢ filter_refusal.NoMemory
    → IsValueFault (Pattern (codes ".*")) e → ⊥
no_value_fault filter_refusal.EmptyValue n f = absurd (cc)
no_value_fault (filter_refusal.BadPattern why) n f = no_cause why f.1 f.0
no_value_fault filter_refusal.NoMemory n f = n refl
no_value_fault filter_refusal.TooLong n f = f
no_value_fault (filter_refusal.BadClause at) n f = f

no_first_fault : (e : FilterErr) → e ≢ filter_refusal.NoMemory → IsFirstFaultIn (codes ".*") e → ⊥
unfolding computing
no_first_fault e n (inl (inl value)) = no_value_fault e n value
no_first_fault e n (inl (inr behind)) = n behind.2
no_first_fault e n (inr end) = end.2

pub filter_not_refused : (told : JobKind) → IsSo (filter (codes ".*")) told → ⊥
filter_not_refused told h = no_first_fault h.0 h.2.cause (h.2.fault (omega arith))
