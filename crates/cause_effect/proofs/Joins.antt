-- Pieces that are added to a text one by one are added as one.
use Rattle.std.proofs.Common.{◌≡◌, ℕ, List, ◌++◌, ap, ◌∙◌, append_assoc}

pub joined2 : (o a b t : List ℕ) → t ≡ o ++ a → t ++ b ≡ o ++ (a ++ b)
joined2 o a b t h = ap (λ x. x ++ b) h ∙ append_assoc o a b

pub joined3 : (o a b c t u : List ℕ) → t ≡ o ++ a → u ≡ t ++ b → u ++ c ≡ o ++ (a ++ (b ++ c))
joined3 o a b c t u h k = joined2 t b c u k ∙ joined2 o a (b ++ c) t h

pub joined5 : (o a b c d e t u v w : List ℕ) → t ≡ o ++ a → u ≡ t ++ b → v ≡ u ++ c → w ≡ v ++ d → w ++ e ≡ o ++ (a ++ (b ++ (c ++ (d ++ e))))
joined5 o a b c d e t u v w h k l m = joined3 u c d e v w l m ∙ joined3 o a b (c ++ (d ++ e)) t u h k
