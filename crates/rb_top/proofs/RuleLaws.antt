-- The rule that is told of a file is one that it breaks.
use Rattle.std.proofs.Common.{◌≡◌, ◌+◌, ◌^◌, inl, inr, ℕ, Bool, true, false, not, ◌&&◌, cond, nat_lt, bytes_eq, codes, length, List, [], ◌∷◌, Option, Some, None, is_some, ap, sym, subst, refl, arith}
use Rattle.std.specs.List.{list_all, list_any, slice_split, onto_first}
use Rattle.std.specs.Str.{is_utf8}
use Rattle.std.proofs.lemmas.Bool.Decides.{nat_tests}
use Rattle.rb_causes.specs.Texts.{is_blank, is_line_feed, differ, has_text, is_empty}
use Rattle.rb_top.specs.Broken.{broken, broken_after, broken_or, first_word_rule, found_rule, has_return, line_rule, place_rule, words_rule}
use Rattle.rb_top.specs.Lines.{read_line}
use Rattle.rb_top.specs.Reading.{empty_script, has_steps, job_at, may_come, with_line}
use Rattle.rb_top.specs.Rules.{BreaksAlone, BreaksAt, BreaksBehind, BreaksRead, IsBroken, RulesAreBroken}
use Rattle.rb_top.specs.declared.broken.Broken.{Broken}
use Rattle.rb_top.specs.declared.broken.BrokenRule.{BrokenRule}
use Rattle.rb_top.specs.declared.broken.BrokenRule.TheVariants as rule
use Rattle.rb_top.specs.declared.script.DrillJob.{DrillJob}
use Rattle.rb_top.specs.declared.script.DrillLine.{DrillLine}
use Rattle.rb_top.specs.declared.script.DrillLine.TheVariants.{Skip, Node, Access, Job, Step, Run}
use Rattle.rb_top.specs.declared.script.Script.{Script}

never_told : {A : Type 0} (x : A) → ◌≡◌ {A = Option A} None (Some x) → ⊥
never_told x h = cc

true_is_false : true ≡ false → ⊥
true_is_false h = cc

-- ---- a line by itself

word_known : (bytes word : List ℕ) (words : List (List ℕ))
    → slice_split is_blank bytes ≡ word ∷ words → list_any is_empty (word ∷ words) ≡ false
    → (a b c d e f : Bool) → bytes_eq word (codes "node") ≡ a → bytes_eq word (codes "allow") ≡ b
    → bytes_eq word (codes "deny") ≡ c → bytes_eq word (codes "job") ≡ d
    → bytes_eq word (codes "step") ≡ e → bytes_eq word (codes "run") ≡ f
    → BreaksAlone bytes (cond a rule.WrongForm (cond b rule.WrongForm (cond c rule.WrongForm
    (cond d rule.WrongForm (cond e rule.WrongForm (cond f rule.WrongForm rule.UnknownWord))))))
word_known bytes word words parts filled true b c d e f ia ib ic id ie is =
    record { word = word; words = words; parts = parts; filled = filled; first = rw ia refl }
word_known bytes word words parts filled false true c d e f ia ib ic id ie is =
    record { word = word; words = words; parts = parts; filled = filled; first = rw (ia, ib) refl }
word_known bytes word words parts filled false false true d e f ia ib ic id ie is = record {
  word = word;
  words = words;
  parts = parts;
  filled = filled;
  first = rw (ia, ib, ic) refl;
}
word_known bytes word words parts filled false false false true e f ia ib ic id ie is = record {
  word = word;
  words = words;
  parts = parts;
  filled = filled;
  first = rw (ia, ib, ic, id) refl;
}
word_known bytes word words parts filled false false false false true f ia ib ic id ie is = record {
  word = word;
  words = words;
  parts = parts;
  filled = filled;
  first = rw (ia, ib, ic, id, ie) refl;
}
word_known bytes word words parts filled false false false false false true ia ib ic id ie is =
    record {
      word = word;
      words = words;
      parts = parts;
      filled = filled;
      first = rw (ia, ib, ic, id, ie, is) refl;
    }
word_known bytes word words parts filled false false false false false false ia ib ic id ie is =
    record {
      word = word;
      words = words;
      parts = parts;
      filled = filled;
      first = rw (ia, ib, ic, id, ie, is) refl;
    }

-- a text has one part at least
parts_left : (p : ℕ → Bool) (xs : List ℕ) → slice_split p xs ≡ [] → ⊥
parts_left p [] h = cc
parts_left p (x ∷ xs) h = by_case (p x) (slice_split p xs) h
  where
    by_case : (b : Bool) (rest : List (List ℕ))
        → cond b ([] ∷ rest) (onto_first x rest) ≡ [] → ⊥
    by_case true rest h = cc
    by_case false [] h = cc
    by_case false (part ∷ parts) h = cc

first_known : (bytes : List ℕ) (words : List (List ℕ)) → slice_split is_blank bytes ≡ words
    → list_any is_empty words ≡ false → BreaksAlone bytes (first_word_rule words)
first_known bytes [] parts filled = absurd (parts_left is_blank bytes parts)
first_known bytes (word ∷ words) parts filled =
    word_known bytes word words parts filled _ _ _ _ _ _ refl refl refl refl refl refl

words_known : (bytes : List ℕ) (empty : Bool)
    → list_any is_empty (slice_split is_blank bytes) ≡ empty
    → BreaksAlone bytes (cond empty rule.Blanks (first_word_rule (slice_split is_blank bytes)))
words_known bytes true is = is
words_known bytes false is = first_known bytes (slice_split is_blank bytes) refl is

line_known : (bytes : List ℕ) (text : Bool) → is_utf8 bytes ≡ text
    → BreaksAlone bytes (cond text (words_rule (slice_split is_blank bytes)) rule.NotUtf8)
line_known bytes true is = words_known bytes (list_any is_empty (slice_split is_blank bytes)) refl
line_known bytes false is = is

breaks_alone : (bytes : List ℕ) → BreaksAlone bytes (line_rule bytes)
breaks_alone bytes = line_known bytes (is_utf8 bytes) refl

-- ---- a line behind others

not_false : (b : Bool) → not b ≡ false → b ≡ true
not_false true h = refl
not_false false h = absurd (true_is_false h)

job_breaks : (s : Script) (id : List ℕ) (nodes : List (List ℕ)) (held apart known : Bool)
    → is_some (job_at s.jobs id) ≡ held → differ nodes ≡ apart
    → list_all (has_text s.nodes) nodes ≡ known → (not held && apart && known) ≡ false
    → BreaksBehind s (Job id nodes)
    (cond held rule.JobTwice (cond apart rule.UnknownNode rule.NodeTwiceInJob))
job_breaks s id nodes true apart known is_held is_apart is_known h = is_held
job_breaks s id nodes false true true is_held is_apart is_known h = absurd (true_is_false h)
job_breaks s id nodes false true false is_held is_apart is_known h = is_known
job_breaks s id nodes false false known is_held is_apart is_known h = is_apart

run_breaks : (s : Script) (user job : List ℕ) (found : Option DrillJob)
    → job_at s.jobs job ≡ found → has_steps found ≡ false
    → BreaksBehind s (Run (record { user = user; job = job })) (found_rule found)
run_breaks s user job None is h = is
run_breaks s user job (Some j) is h = (j, is, grind (arith, nat_tests, h))

breaks_behind : (s : Script) (line : DrillLine) → may_come s line ≡ false
    → BreaksBehind s line (place_rule s line)
breaks_behind s Skip h = absurd (true_is_false h)
breaks_behind s (Node name) h = not_false (has_text s.nodes name) h
breaks_behind s (Access a) h = h
breaks_behind s (Job id nodes) h = job_breaks s id nodes _ _ _ refl refl refl h
breaks_behind s (Step words) h = grind (arith, nat_tests, h)
breaks_behind s (Run r) h = run_breaks s r.user r.job (job_at s.jobs r.job) refl h

-- ---- the first of a file

here : (s : Script) (n : ℕ) (bytes : List ℕ) (lines : List (List ℕ)) (b : Broken)
    (broken_rule : BrokenRule) → broken bytes broken_rule ≡ Some b
    → BreaksRead s bytes (read_line bytes) broken_rule → BreaksAt s n (bytes ∷ lines) b
here s n bytes lines b broken_rule told breaks =
    let same : ◌≡◌ {A = Broken} (record {
      rule = broken_rule;
      has_return = has_return bytes;
    }) b = cc in record {
      above = [];
      line = bytes;
      behind = lines;
      there = refl;
      script = s;
      read = refl;
      breaks = subst (λ (x : Broken). BreaksRead s bytes (read_line bytes) x.rule) same breaks;
      return = sym (ap (λ (x : Broken). x.has_return) same);
    }

behind : (s : Script) (n : ℕ) (bytes : List ℕ) (line : DrillLine) (lines : List (List ℕ))
    (b : Broken) → read_line bytes ≡ Some line → may_come s line ≡ true
    → BreaksAt (with_line s line) (n + 1) lines b → BreaksAt s n (bytes ∷ lines) b
behind s n bytes line lines b is may rest = record {
  above = bytes ∷ rest.above;
  line = rest.line;
  behind = rest.behind;
  there = ap (λ ls. bytes ∷ ls) rest.there;
  script = rest.script;
  read = rw (is, may) rest.read;
  breaks = rest.breaks;
  return = rest.return;
}

at_line : (s : Script) (n : ℕ) (bytes : List ℕ) (lines : List (List ℕ)) (b : Broken)
    (line : DrillLine) (may : Bool) → may_come s line ≡ may → read_line bytes ≡ Some line
    → cond may (broken_after (with_line s line) lines) (broken bytes (place_rule s line)) ≡ Some b
    → (broken_after (with_line s line) lines ≡ Some b → BreaksAt (with_line s line) (n + 1) lines b)
    → BreaksAt s n (bytes ∷ lines) b
at_line s n bytes lines b line true may is told later =
    behind s n bytes line lines b is may (later told)
at_line s n bytes lines b line false may is told later =
    here s n bytes lines b (place_rule s line) told
    (subst (λ found. BreaksRead s bytes found (place_rule s line)) (sym is)
    (breaks_behind s line may))

at_found : (s : Script) (n : ℕ) (bytes : List ℕ) (lines : List (List ℕ)) (b : Broken)
    (found : Option DrillLine) → read_line bytes ≡ found
    → broken_or s bytes found (λ line. broken_after (with_line s line) lines) ≡ Some b
    → ((line : DrillLine) → broken_after (with_line s line) lines ≡ Some b
    → BreaksAt (with_line s line) (n + 1) lines b)
    → BreaksAt s n (bytes ∷ lines) b
at_found s n bytes lines b None is told later =
    here s n bytes lines b (line_rule bytes) told
    (subst (λ found. BreaksRead s bytes found (line_rule bytes)) (sym is) (breaks_alone bytes))
at_found s n bytes lines b (Some line) is told later =
    at_line s n bytes lines b line (may_come s line) refl is told (later line)

breaks_at : (s : Script) (n : ℕ) (lines : List (List ℕ)) (b : Broken)
    → broken_after s lines ≡ Some b → BreaksAt s n lines b
breaks_at s n [] b told = absurd (never_told b told)
breaks_at s n (bytes ∷ lines) b told =
    at_found s n bytes lines b (read_line bytes) refl told
    (λ line. breaks_at (with_line s line) (n + 1) lines b)

pub rules_are_broken : RulesAreBroken
rules_are_broken bytes b = by_size (nat_lt (2 ^ 20) (length bytes)) refl
  where
    by_size : (large : Bool) → nat_lt (2 ^ 20) (length bytes) ≡ large
        → cond large (Some (record { rule = rule.TooLarge; has_return = false }))
        (broken_after empty_script (slice_split is_line_feed bytes)) ≡ Some b
        → IsBroken bytes b
    by_size true is told =
        let same : ◌≡◌ {A = Broken} (record { rule = rule.TooLarge; has_return = false }) b = cc in
        inl (sym (ap (λ (x : Broken). x.rule) same), grind (arith, nat_tests, is))
    by_size false is told = inr (breaks_at empty_script 1 (slice_split is_line_feed bytes) b told)
