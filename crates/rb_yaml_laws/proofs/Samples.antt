-- Texts with their documents, each shown by the cases of the relation alone, with no reader. That
-- each is UTF-8 is taken for granted.
use Rattle.std.proofs.Common.{◌≡◌, ◌≢◌, inl, inr, ℕ, true, List, [], ◌∷◌, ◌++◌, codes, refl, arith}
use Rattle.std.specs.Str.{is_utf8}
use Rattle.std.proofs.lemmas.Bool.{eqb-false}
use Rattle.rb_yaml.specs.Signs.{ends_sign}
use Rattle.rb_yaml.specs.Tree.{YamlTree, scalar, seq, mapping, no_tree, tree, no_entry, entry}
use Rattle.rb_yaml.specs.Documents.{levels}
use Rattle.rb_yaml_laws.specs.Quotes.{Single}
use Rattle.rb_yaml_laws.specs.Plain.{PlainOver}
use Rattle.rb_yaml_laws.specs.Literal.{Ended, Literal}
use Rattle.rb_yaml_laws.specs.InFlow.{FlowScalar, IsFlowItem, InFlow}
use Rattle.rb_yaml_laws.specs.Keys.{IsFirstColon, Key}
use Rattle.rb_yaml_laws.specs.Says.{Says, Alone}
use Rattle.rb_yaml_laws.specs.Nodes.{Node, Collection, Items, Item, MapEntries, Value, depth, HasApartKeys}
use Rattle.rb_yaml_laws.specs.Docs.{Parted, Bodies, Docs}
use Rattle.rb_yaml_laws.proofs.SaysFacts.{row}
use Rattle.rb_yaml_laws.proofs.DocFacts.{refused_has_none}
use Rattle.rb_yaml.specs.declared.fault.YamlKind.TheVariants as kinds

abbrev HoldsText : List ℕ → List YamlTree → Type 0
HoldsText text docs = is_utf8 text ≡ true → Docs text docs

apart : (a b : ℕ) → a ≢ b → a ∷ [] ≢ b ∷ []
apart a b n e = n (cc)

no_hash : (front : List ℕ) (blank : ℕ) (behind : List ℕ) → [] ≡ front ++ blank ∷ 35 ∷ behind → ⊥
no_hash [] blank behind e = cc
no_hash (c ∷ front) blank behind e = cc

-- the colon behind a key of one byte is the first
behind_one : (behind : List ℕ) → ends_sign behind ≡ true → IsFirstColon [] behind
behind_one behind h = record {
  ends = h;
  no_comment = λ k. no_hash k.front k.blank k.behind k.is;
  first = λ before after e k. omega arith;
}

-- one key with a plain text
pub one_entry : HoldsText (codes "a: b") (mapping 1 (entry (codes "a") (scalar 1 (codes "b")) no_entry) ∷ [])
unfolding depth
one_entry u = record {
  short = omega arith;
  encoded = u;
  lines = record {
    no_control = (refl, tt);
    bodies = (row 1 0 (codes "a: b") ∷ []) ∷ [];
    parted = Parted.last (refl, tt);
    held = Bodies.document [] (row 1 0 (codes "a: b")) [] tt refl refl
        (Node.collection (Collection.block_map
        (MapEntries.keyed (row 1 0 (codes "a: b")) [] [] (refl, refl, refl) refl (Key.plain 97 [] refl refl (behind_one _ refl) (inr (refl, refl))) tt
        (Value.behind_key refl tt (Alone.one (Says.plain_over (refl, refl, refl) refl (PlainOver.ends tt)))) MapEntries.no_more)
        (tt, tt)))
        (omega arith) Bodies.no_body;
  };
}

its : Single (codes "it''s'") (codes "it's") []
its = Single.other (eqb-false 105 39 refl) (Single.other (eqb-false 116 39 refl) (Single.quote (Single.other (eqb-false 115 39 refl) (Single.closing refl))))

two_words : InFlow 93 (codes "p, q]") (([], codes "p") ∷ ([], codes "q") ∷ []) []
two_words =
    InFlow.more (IsFlowItem.in_sequence (FlowScalar.plain (refl, refl, refl, refl, refl, refl) refl refl (inr (refl, refl)))) refl
    (InFlow.last (IsFlowItem.in_sequence (FlowScalar.plain (refl, refl, refl, refl, refl, refl) refl refl (inr (refl, refl)))) refl)

-- a sequence at its key's own column: a quoted text with a quote in it, and a flow
pub sequence_of_two : HoldsText (codes "k:\n- 'it''s'\n- [p, q]\n")
    (mapping 1 (entry (codes "k") (seq 2 (tree (scalar 2 (codes "it's")) (tree (seq 3 (tree (scalar 3 (codes "p")) (tree (scalar 3 (codes "q")) no_tree))) no_tree))) no_entry) ∷ [])
unfolding depth
sequence_of_two u =
    let key = row 1 0 (codes "k:") in
    let quote = row 2 0 (codes "- 'it''s'") in
    let flow = row 3 0 (codes "- [p, q]") in
    let last = row 4 0 [] in
    record {
      short = omega arith;
      encoded = u;
      lines = record {
        no_control = (refl, (refl, (refl, (refl, tt))));
        bodies = (key ∷ quote ∷ flow ∷ last ∷ []) ∷ [];
        parted = Parted.last (refl, (refl, (refl, (refl, tt))));
        held = Bodies.document [] key (quote ∷ flow ∷ last ∷ []) tt refl refl
            (Node.collection (Collection.block_map
            (MapEntries.keyed key (quote ∷ flow ∷ last ∷ []) [] (refl, refl, refl) refl (Key.plain 107 [] refl refl (behind_one _ refl) (inr (refl, refl))) (inr refl, (inr refl, (inl (inl refl), tt)))
            (Value.at_column [] quote (flow ∷ last ∷ []) refl tt refl
            (Node.collection (Collection.block_sequence
            (Items.item quote [] (flow ∷ last ∷ []) (refl, refl, refl) refl tt (Item.alone_behind refl (refl, λ o first front behind e c. absurd (cc)) (Alone.one (Says.single its refl tt)))
            (Items.item flow (last ∷ []) [] (refl, refl, refl) refl (inl refl, tt) (Item.alone_behind refl (refl, λ o first front behind e c. absurd (cc)) (Alone.flow_sequence two_words refl (refl, tt)))
            Items.no_item)))))
            MapEntries.no_more)
            (tt, tt)))
            (omega arith) Bodies.no_body;
      };
    }

-- a plain text over rows, with a blank row in it and a comment behind it, and a literal without its
-- last line feed
pub texts_over_rows : HoldsText (codes "a: one\n  two\n\n  three # c\nb: |-\n  x\n\n")
    (mapping 1 (entry (codes "a") (scalar 1 (codes "one two\nthree")) (entry (codes "b") (scalar 5 (codes "x")) no_entry)) ∷ [])
unfolding depth
texts_over_rows u =
    let one = row 1 0 (codes "a: one") in
    let two = row 2 2 (codes "two") in
    let gap = row 3 0 [] in
    let three = row 4 2 (codes "three # c") in
    let bar = row 5 0 (codes "b: |-") in
    let line = row 6 2 (codes "x") in
    let blank = row 7 0 [] in
    let last = row 8 0 [] in
    record {
      short = omega arith;
      encoded = u;
      lines = record {
        no_control = (refl, (refl, (refl, (refl, (refl, (refl, (refl, (refl, tt))))))));
        bodies = (one ∷ two ∷ gap ∷ three ∷ bar ∷ line ∷ blank ∷ last ∷ []) ∷ [];
        parted = Parted.last (refl, (refl, (refl, (refl, (refl, (refl, (refl, (refl, tt))))))));
        held = Bodies.document [] one (two ∷ gap ∷ three ∷ bar ∷ line ∷ blank ∷ last ∷ []) tt refl refl
            (Node.collection (Collection.block_map
            (MapEntries.keyed one (two ∷ gap ∷ three ∷ []) (bar ∷ line ∷ blank ∷ last ∷ []) (refl, refl, refl) refl (Key.plain 97 [] refl refl (behind_one _ refl) (inr (refl, refl)))
            (inl (inr (omega arith)), (inl (inl refl), (inl (inr (omega arith)), tt)))
            (Value.behind_key refl (inr (omega arith), (inl refl, (inr (omega arith), tt)))
            (Alone.one (Says.plain_over (refl, refl, refl) refl
            (PlainOver.more [] two (gap ∷ three ∷ []) tt (refl, refl, refl) refl (PlainOver.last (gap ∷ []) three [] (refl, tt) (refl, refl, refl) refl tt)))))
            (MapEntries.keyed bar (line ∷ blank ∷ last ∷ []) [] (refl, refl, refl) refl (Key.plain 98 [] refl refl (behind_one _ refl) (inr (refl, refl)))
            (inl (inr (omega arith)), (inl (inl refl), (inl (inl refl), tt)))
            (Value.behind_key refl (inr (omega arith), (inl refl, (inl refl, tt)))
            (Alone.one (Says.stripped refl (Literal.lines [] line (blank ∷ last ∷ []) [] tt refl (omega arith) (inl refl, (inl refl, tt)) tt tt (Ended.text [] 120 (10 ∷ 10 ∷ 10 ∷ []) (eqb-false 120 10 refl) (refl, (refl, (refl, tt))))))))
            MapEntries.no_more))
            ((apart 97 98 (eqb-false 97 98 refl), tt), (tt, tt))))
            (omega arith) Bodies.no_body;
      };
    }

-- ---- texts that hold no documents, whatever these are: the reader refuses them, so the relation
-- has none

pub no_key_twice : (docs : List YamlTree) → Docs (codes "a: 1\na: 2") docs → ⊥
unfolding levels
no_key_twice docs d = refused_has_none (codes "a: 1\na: 2") (record { kind = kinds.DuplicateKey; line = 2 }) docs (rw d.encoded refl) d

pub no_tab_before : (docs : List YamlTree) → Docs (codes "a:\n\tb: c") docs → ⊥
unfolding levels
no_tab_before docs d = refused_has_none (codes "a:\n\tb: c") (record { kind = kinds.Tab; line = 2 }) docs (rw d.encoded refl) d

pub no_key_in_a_value : (docs : List YamlTree) → Docs (codes "a: b: c") docs → ⊥
unfolding levels
no_key_in_a_value docs d = refused_has_none (codes "a: b: c") (record { kind = kinds.Form; line = 1 }) docs (rw d.encoded refl) d

-- ---- a value that no document has: a map in a sequence has a key twice

pub key_twice_within : HasApartKeys (mapping 1 (entry (codes "k") (seq 2 (tree (mapping 2 (entry (codes "a") (scalar 2 []) (entry (codes "a") (scalar 3 []) no_entry))) no_tree)) no_entry)) → ⊥
unfolding HasApartKeys
key_twice_within h = h.1.0.0.0.0.0 refl

-- one that a document may have: the same key in two maps, one within the other
pub key_again_within : HasApartKeys (mapping 1 (entry (codes "a") (seq 2 (tree (mapping 2 (entry (codes "a") (scalar 2 []) no_entry)) no_tree)) no_entry))
unfolding HasApartKeys
key_again_within = ((tt, tt), ((((tt, tt), (tt, tt)), tt), tt))
