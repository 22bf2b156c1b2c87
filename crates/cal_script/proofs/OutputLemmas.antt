-- The frame of a reply, as it is put together.
use Rattle.std.proofs.Common.{◌≡◌, ℕ, List, [], ◌∷◌, ◌++◌, length, codes, decimal, refl, ap, ◌∙◌, append_assoc}
use Rattle.std.specs.Fmt.{digits}
use Rattle.cal_model.specs.Transcripts.ScriptFrames.{reply_frame}

pub reply_frame-parts : (connection : ℕ) (octets head : List ℕ) → head ≡ codes "reply " ++ (decimal connection ++ (codes " " ++ (decimal (length octets) ++ codes "\n")))
    → (head ++ octets) ++ 10 ∷ [] ≡ reply_frame connection octets
unfolding reply_frame digits
reply_frame-parts connection octets head e = ap (λ xs. (xs ++ octets) ++ 10 ∷ []) e ∙ simp append_assoc refl
