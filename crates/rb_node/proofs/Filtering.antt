-- What a text gives as a filter, step by step.
use Rattle.std.proofs.Common.{◌≡◌, ◌≤◌, ◌+◌, ℕ, Bool, true, false, cond, nat_le, List, length, map, Some, None, Result, Ok, Err, chars, IfErr, refl, sym, ap, subst, ◌∙◌, inl, inr, arith}
use Rattle.std.specs.Str.{IsUtf8}
use Rattle.std.specs.Result.{IsErrAnd}
use Rattle.std.proofs.lemmas.Bool.{le-leb}
use Rattle.rb_causes.specs.declared.letter.Letter.{Letter}
use Rattle.rb_node.specs.declared.drafting.Drafts.{Drafts}
use Rattle.rb_node.specs.declared.clause.FilterClause.{FilterClause}
use Rattle.rb_node.specs.declared.filter_err.FilterErr.{FilterErr}
use Rattle.rb_node.specs.declared.filter_err.FilterErr.TheVariants.{BadClause, EmptyValue, TooLong, NoMemory}
use Rattle.rb_causes.specs.Words.{Split, words_in, IsOpenBehind}
use Rattle.rb_causes.specs.declared.splitting.SplitErr.{SplitErr}
use Rattle.rb_causes.specs.declared.splitting.SplitErr.TheVariants.{OpenQuote}
use Rattle.rb_causes.specs.declared.splitting.SplitErr.TheVariants as split
use Rattle.rb_causes.proofs.Sizes.{words_few, before_few, chars_fewer}
use Rattle.rb_node.specs.Drafts.{drafts_of}
use Rattle.rb_node.specs.Values.{clause_of, drafted_values, are_filled, AreRead}
use Rattle.rb_node.specs.Filters.{of_end, of_drafts, of_words, filter_of, split_fault, IsCounted, FailsAtWord, IsFaultOfDrafts, IsFaultOfWords, AreReadIn}
use Rattle.rb_node.proofs.Stopping.{stops_memory}

-- want of memory
pub memory_fault : (w : Split) → IsFaultOfWords w NoMemory
memory_fault (Ok ws) = inl (stops_memory (drafted_values (drafts_of ws).drafts))
memory_fault (Err before) = inr refl

-- a quote that is not closed
pub open_fault : (w : Split) (e : SplitErr) → IsOpenBehind w e → IsFaultOfWords w (split_fault e)
open_fault w (OpenQuote before) h =
    subst (λ x. IsFaultOfWords x (BadClause (before + 1))) (sym h) (inl refl)
open_fault w split.NoMemory h = memory_fault w

-- few words stand before it
pub open_counted : (text : List ℕ) (e : SplitErr) → IsUtf8 text → length text ≤ 1024
    → IsOpenBehind (words_in (chars text)) e → IsCounted e
open_counted text (OpenQuote before) u short h =
    omega (arith, before_few (chars text) before h, chars_fewer text u, short)
open_counted text split.NoMemory u short h = tt

pub words_counted : (text : List ℕ) (ws : List (List Letter)) → IsUtf8 text → length text ≤ 1024
    → words_in (chars text) ≡ Ok ws → length ws ≤ 1025
words_counted text ws u short e =
    omega (arith, words_few (chars text) ws e, chars_fewer text u, short)

-- words that are read
pub words_read : (w : Split) (ws : List (List Letter)) (cs : List FilterClause) → w ≡ Ok ws
    → of_drafts (drafts_of ws) ≡ Ok cs → of_words w ≡ Ok cs
words_read w ws cs e h = ap of_words e ∙ h

pub words_are_read : (w : Split) (ws : List (List Letter)) → w ≡ Ok ws
    → AreRead (drafted_values (drafts_of ws).drafts) → AreReadIn w
words_are_read w ws is r = subst AreReadIn (sym is) r

pub words_fault : (w : Split) (ws : List (List Letter)) (e : FilterErr) → w ≡ Ok ws
    → IsFaultOfDrafts (drafts_of ws) e → IsFaultOfWords w e
words_fault w ws e is h = subst (λ x. IsFaultOfWords x e) (sym is) h

-- drafts that are read, or end with a word that is none
pub drafts_read : (d : Drafts) (cs : List FilterClause) → are_filled (drafted_values d.drafts) ≡ true → cs
    ≡ map clause_of d.drafts → d.bad ≡ None → of_drafts d ≡ Ok cs
drafts_read d cs filled is none =
    ap (λ b. cond b (of_end d.drafts d.bad) (Err EmptyValue)) filled ∙ ap (of_end d.drafts) none
    ∙ ap Ok (sym is)

pub drafts_end : (d : Drafts) (at : ℕ) → are_filled (drafted_values d.drafts) ≡ true
    → AreRead (drafted_values d.drafts) → d.bad ≡ Some at → IsFaultOfDrafts d (BadClause at)
drafts_end d at filled read is =
    inr (filled, read, subst (λ b. FailsAtWord b (BadClause at)) (sym is) refl)

-- the whole text
filter_by : (b : Bool) (w : Split) (cs : List FilterClause) → b ≡ true → of_words w ≡ Ok cs
    → cond b (of_words w) (Err TooLong) ≡ Ok cs
filter_by true w cs h e = e
filter_by false w cs h e = let never : false ≡ true = h in cc

pub filter_read : (text : List ℕ) (cs : List FilterClause) → length text ≤ 1024
    → of_words (words_in (chars text)) ≡ Ok cs → filter_of text ≡ Ok cs
filter_read text cs short e = filter_by (nat_le (length text) 1024) (words_in (chars text)) cs
    (le-leb (length text) 1024 short) e

-- want of memory behind the words
pub wanting_text : {T : Type 0} (r : Result T FilterErr) (text : List ℕ)
    → IsErrAnd r (λ e. e ≡ NoMemory) →
    IfErr r (λ e. length text ≤ 1024 → IsFaultOfWords (words_in (chars text)) e)
wanting_text (Ok x) text h = tt
wanting_text (Err e) text h = λ _. subst (IsFaultOfWords (words_in (chars text))) (sym h)
    (memory_fault (words_in (chars text)))
