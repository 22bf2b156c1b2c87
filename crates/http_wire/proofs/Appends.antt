-- Lists put one behind another.
use Rattle.std.proofs.Common.{◌≡◌, ℕ, List, ◌++◌, ap, ◌∙◌, append_assoc}

-- one, then four, then three
pub pushed : (d a b c e f g h o p q r : List ℕ) → p ≡ o ++ d → q ≡ p ++ (a ++ (b ++ (c ++ e))) → r ≡ q ++ (f ++ (g ++ h)) → r ≡ o ++ (d ++ (a ++ (b ++ (c ++ (e ++ (f ++ (g ++ h)))))))
pushed d a b c e f g h o p q r first second third =
    third ∙ ap (λ s. s ++ (f ++ (g ++ h))) (second ∙ ap (λ s. s ++ (a ++ (b ++ (c ++ e)))) first) ∙ simp append_assoc
