-- Texts that are written piece by piece.
use Rattle.std.proofs.Common.{◌≡◌, ◌∙◌, ℕ, List, ◌++◌, sym, append_assoc}

pub three : (s a b c : List ℕ) → s ≡ a ++ (b ++ c) → s ≡ a ++ b ++ c
three s a b c h = h ∙ sym (append_assoc a b c)

pub four : (s a b c d : List ℕ) → s ≡ a ++ (b ++ (c ++ d)) → s ≡ a ++ b ++ c ++ d
four s a b c d h = three s (a ++ b) c d (three s a b (c ++ d) h)

pub five : (s a b c d e : List ℕ) → s ≡ a ++ (b ++ (c ++ (d ++ e)))
    → s ≡ a ++ b ++ c ++ d ++ e
five s a b c d e h = four s (a ++ b) c d e (three s a b (c ++ (d ++ e)) h)
