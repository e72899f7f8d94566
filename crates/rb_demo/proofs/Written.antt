-- The nodes' text is written line by line.
use Rattle.std.proofs.Common.{◌≡◌, ◌<◌, ◌+◌, ◌-◌, ℕ, suc, List, [], ◌∷◌, ◌++◌, map, sym, ap, ◌∙◌, append_assoc, add-one, arith}
use Rattle.rb_causes.specs.Signs.{line_feed}
use Rattle.rb_causes.specs.Numbers.{numbers_from}
use Rattle.rb_orch.specs.Drawing.{next_draw}
use Rattle.rb_demo.specs.Numbers.{draw_at}
use Rattle.rb_demo.specs.Texts.{lines, demo_node_line}

-- the draw of the next node
pub next_drawn : (before old new : ℕ) → old ≡ draw_at before → new ≡ next_draw old → new ≡ draw_at (before + 1)
next_drawn before old new o n = rw (add-one before) (n ∙ ap next_draw o)

-- the lines of the nodes behind so many, of all these
abbrev pub left_to_write : ℕ → ℕ → List ℕ
left_to_write nodes before = lines (map demo_node_line (numbers_from (before + 1) (nodes - before)))

next_line : (nodes before : ℕ) → before < nodes → left_to_write nodes before ≡ demo_node_line (before + 1) ++ line_feed ∷ left_to_write nodes (before + 1)
next_line nodes before less =
    let count : nodes - before ≡ suc (nodes - (before + 1)) = omega arith in
    ap (λ n. lines (map demo_node_line (numbers_from (before + 1) n))) count

pub line_written : (nodes before : ℕ) (old new whole : List ℕ) → before < nodes → new ≡ old ++ (demo_node_line (before + 1) ++ line_feed ∷ []) →
    old ++ left_to_write nodes before ≡ whole → new ++ left_to_write nodes (before + 1) ≡ whole
line_written nodes before old new whole less n w =
    ap (λ text. text ++ left_to_write nodes (before + 1)) n
    ∙ append_assoc old (demo_node_line (before + 1) ++ line_feed ∷ []) (left_to_write nodes (before + 1))
    ∙ ap (λ text. old ++ text) (append_assoc (demo_node_line (before + 1)) (line_feed ∷ []) (left_to_write nodes (before + 1)) ∙ sym (next_line nodes before less))
    ∙ w
