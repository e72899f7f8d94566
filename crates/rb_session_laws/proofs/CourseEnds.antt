-- How a course that was run ends a session.
use Rattle.std.proofs.Common.{◌≡◌, ◌⊎◌, inl, inr, ℕ, Bool, true, false, not, ◌||◌, Option, Some, None, refl}
use Rattle.std.proofs.lemmas.Bool.{not-false, or_parts, true≢false, false≢true}
use Rattle.std.specs.Prelude.{if◌then◌else◌}
use Rattle.rb_command.specs.Lines.{memory_line}
use Rattle.rb_door.specs.Guests.{AskingFailed, NoneLeft, Parting, TooMany}
use Rattle.rb_log.specs.declared.answer.Answer.{Answer}
use Rattle.rb_log.specs.declared.answer.Answer.TheVariants as answer
use Rattle.rb_session.specs.Courses.{Course}
use Rattle.rb_session.specs.Lines.{Stop, callers_line, line_line, stop_with, store_line}
use Rattle.rb_session.specs.Statuses.{any_ended, asking_failed, course_end, is_line_fault, is_over, is_saved, is_store_fault, is_unsaved, is_wanting, one_too_many, saving_of}
use Rattle.rb_work.specs.declared.pumped.Pumped.{Pumped}
use Rattle.rb_work.specs.declared.pumped.Pumped.TheVariants as pumped

-- the status that is told of an end
abbrev pub status_of : Option Stop → ℕ
status_of None = 0
status_of (Some stop) = stop.status

-- ---- what a status says of a chain of causes

abbrev chain : Bool → Bool → Bool → Bool → Option Stop
chain line store wanting many =
    if line then Some (stop_with 5 line_line)
    else if store then Some (stop_with 6 store_line)
    else if wanting then Some (stop_with 7 memory_line)
    else if many then Some (stop_with 11 callers_line)
    else None

data Link (line store wanting many : Bool) (n : ℕ) : Type 0 where
  fault : (n ≡ 5) ⊎ (n ≡ 6) ⊎ (n ≡ 7) → Link line store wanting many n
  one_more : n ≡ 11 → many ≡ true → Link line store wanting many n
  well : n ≡ 0 → line ≡ false → wanting ≡ false → many ≡ false
      → Link line store wanting many n

link : (line store wanting many : Bool) (n : ℕ) → n ≡ status_of (chain line store wanting many)
    → Link line store wanting many n
link true store wanting many n h = fault (inl h)
link false true wanting many n h = fault (inr (inl h))
link false false true many n h = fault (inr (inr h))
link false false false true n h = one_more h refl
link false false false false n h = well h refl refl refl

-- ---- what the causes are

is_too_many : (p : Parting) → one_too_many p ≡ true → p ≡ TooMany
is_too_many NoneLeft h = absurd (false≢true h)
is_too_many AskingFailed h = absurd (false≢true h)
is_too_many TooMany h = refl

none_left : (p : Parting) → asking_failed p ≡ false → one_too_many p ≡ false → p ≡ NoneLeft
none_left NoneLeft asked many = refl
none_left AskingFailed asked many = absurd (true≢false asked)
none_left TooMany asked many = absurd (true≢false many)

closed : (said : Pumped) → is_over said ≡ true → said ≡ pumped.Closed
closed pumped.Closed h = refl
closed other h = absurd (false≢true h)

pub saved_is : (a : Answer) → is_saved (saving_of a) ≡ true → a ≡ answer.Saved
saved_is answer.Saved h = refl
saved_is other h = absurd (false≢true h)

-- how a course ended
pub data CourseEnd (c : Course) (a : Answer) (n : ℕ) : Type 0 where
  failed : (n ≡ 5) ⊎ (n ≡ 6) ⊎ (n ≡ 7) → CourseEnd c a n
  too_many : n ≡ 11 → c.parting ≡ TooMany → CourseEnd c a n
  ended_well : n ≡ 0 → c.parting ≡ NoneLeft → any_ended is_line_fault c.stays ≡ false
      → any_ended is_wanting c.stays ≡ false → c.last.said ≡ pumped.Closed → a ≡ answer.Saved
      → CourseEnd c a n

module _ (c : Course) (a : Answer) (n : ℕ) where
  abbrev line : Bool
  line = asking_failed c.parting || any_ended is_line_fault c.stays

  abbrev store : Bool
  store = is_store_fault c.last.said || is_unsaved (saving_of a)

  abbrev unended : Bool
  unended = not (is_over c.last.said) || not (is_saved (saving_of a))

  abbrev wanting : Bool
  wanting = any_ended is_wanting c.stays || unended

  all_well : n ≡ 0 → line ≡ false → wanting ≡ false → one_too_many c.parting ≡ false
      → CourseEnd c a n
  all_well zero_told no_fault none_wanting few =
      let asked = or_parts (asking_failed c.parting) (any_ended is_line_fault c.stays) no_fault in
      let replied = or_parts (any_ended is_wanting c.stays) unended none_wanting in
      let over = or_parts (not (is_over c.last.said)) (not (is_saved (saving_of a))) replied.1 in
      ended_well zero_told (none_left c.parting asked.0 few) asked.1 replied.0
      (closed c.last.said (not-false (is_over c.last.said) over.0))
      (saved_is a (not-false (is_saved (saving_of a)) over.1))

  of_link : Link line store wanting (one_too_many c.parting) n → CourseEnd c a n
  of_link (fault h) = failed h
  of_link (one_more told many) = too_many told (is_too_many c.parting many)
  of_link (well told no_fault none_wanting few) = all_well told no_fault none_wanting few

  pub course_ends : n ≡ status_of (course_end c a) → CourseEnd c a n
  course_ends h = of_link (link line store wanting (one_too_many c.parting) n h)
