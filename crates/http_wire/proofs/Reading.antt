-- Steps one after the other.
use Rattle.std.proofs.Common.{◌≡◌, ℕ, ◌+◌, ◌≤◌, List, [], ◌++◌, length, drop, length-drop, sym, ap, ◌∙◌, arith, append-nil}
use Rattle.std.proofs.lemmas.List.{drop-drop}
use Rattle.cal_model.specs.Streams.Chunks.{unfinished}
use Rattle.http_wire.specs.declared.part.Part.{Part}
use Rattle.http_wire.specs.BodyParts.{reads, GoesOn}

pub need_before : (p q r : Part) (b c d octets : List ℕ) (done n : ℕ) → done ≤ length octets → GoesOn p b octets q c (drop done octets)
    → (n ≤ length (drop done octets)) × (reads q c (drop done octets) ≡ unfinished) × GoesOn q c (drop done octets) r d (drop n (drop done octets))
    → (done + n ≤ length octets) × (reads p b octets ≡ unfinished) × GoesOn p b octets r d (drop (done + n) octets)
need_before p q r b c d octets done n within goes step = (
  omega (arith, step.0, length-drop done octets, within),
  ap (reads p b) (sym (append-nil octets)) ∙ goes [] ∙ ap (reads q c) (append-nil (drop done octets)) ∙ step.1,
  λ more. goes more ∙ step.2 more ∙ ap (λ l. reads r d (l ++ more)) (drop-drop n done octets),
)
