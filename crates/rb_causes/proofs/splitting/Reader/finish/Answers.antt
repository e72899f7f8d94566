use Rattle.std.proofs.Common.{◌≡◌, ◌∙◌, [], List, Ok, Err, ap, sym, subst, length}
use Rattle.rb_causes.specs.Words.{at_end, IsOpenBehind}
use Rattle.rb_causes.specs.WordsLeft.{left}
use Rattle.rb_causes.specs.declared.letter.Letter.{Letter}
use Rattle.rb_causes.specs.declared.splitting.WordPlace.{WordPlace}
use Rattle.rb_causes.specs.declared.splitting.SplitErr.{SplitErr}
use Rattle.rb_causes.specs.declared.splitting.SplitErr.TheVariants.{OpenQuote}
use Rattle.rb_causes.proofs.Reading.{end_bare, end_open}
use Rattle.rb_causes.proofs.splitting.Reader.finish.Goals as goal

open_at : (words : List (List Letter)) (word : List Letter) (place : WordPlace) (e : SplitErr) → at_end place ≡ Err 0 → e ≡ OpenQuote (length words) →
    IsOpenBehind (left words word place []) e
open_at words word place e at is = subst (λ x. IsOpenBehind (left words word place []) x) (sym is) (end_open words word place at)

pub returns-in-Single-clause-quote : goal.returns-in-Single-clause-quote
returns-in-Single-clause-quote c = open_at c.args.self.words.items c.args.self.word.items c.args.self.place _ (ap at_end c.in-Single.is) (rw c.as_slice.ensures.value at c.open_behind.ensures)

pub returns-in-Double-clause-quote : goal.returns-in-Double-clause-quote
returns-in-Double-clause-quote c = open_at c.args.self.words.items c.args.self.word.items c.args.self.place _ (ap at_end c.in-Double.is) (rw c.as_slice-in-Double.ensures.value at c.open_behind-in-Double.ensures)

pub returns-in-Escape-clause-quote : goal.returns-in-Escape-clause-quote
returns-in-Escape-clause-quote c = open_at c.args.self.words.items c.args.self.word.items c.args.self.place _ (ap at_end c.in-Escape.is) (rw c.as_slice-in-Escape.ensures.value at c.open_behind-in-Escape.ensures)

pub returns-in_ok-with_word-in-Bare-clause-words : goal.returns-in_ok-with_word-in-Bare-clause-words
returns-in_ok-with_word-in-Bare-clause-words c =
    ap (λ place. left c.args.self.words.items c.args.self.word.items place []) c.in-Bare.is
    ∙ end_bare c.args.self.words.items c.args.self.word.items ∙ ap Ok (sym c.in_ok-with_word-in-Bare.ensures)
