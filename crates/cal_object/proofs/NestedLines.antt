-- Lines that are nested, one after another from the front, each with the components that are open before it.
use Rattle.std.proofs.Common.{◌≡◌, ℕ, ◌+◌, suc, List, [], ◌∷◌, ◌++◌, length, refl, sym, ◌∙◌, subst, append_assoc, add-one}
use Rattle.std.specs.Prelude.{Some, None, slice_get}
use Rattle.cal_base.specs.declared.line.Line.{Line}
use Rattle.cal_base.specs.Lines.ComponentTrees.{nesting_fault}
use Rattle.cal_base.specs.Lines.Nesting.{Opening, fault_of_next, open_behind, fault_from}
use Rattle.cal_base.proofs.Lines.NestingSteps.{kind_of}
use Rattle.cal_base.proofs.Lines.FaultsFromFront.{AreOpen, open_on, slice_get_seam, so_many_on, nesting_fault-from_front}
use Rattle.cal_model.proofs.Objects.ServedDates.{neither_found}

-- the line of a number, before which these components are open, and which has no fault of nesting
pub record Stands (lines : List Line) (number : ℕ) (open_ones : List Opening) (line : Line) : Type 0 where
  pub here : slice_get lines number ≡ Some line
  pub are : AreOpen lines number open_ones
  pub sound : fault_of_next number open_ones line ≡ None

-- each of the lines from a number on stands so
abbrev pub AreNested : List Line → ℕ → List Opening → List Line → Type 0
AreNested lines number open_ones [] = Unit {0}
AreNested lines number open_ones (line ∷ rest) = Stands lines number open_ones line × AreNested lines (number + 1) (open_behind number open_ones line) rest

nested_from : (rest front lines : List Line) (number : ℕ) (open_ones : List Opening) → lines ≡ front ++ rest → number ≡ length front → AreOpen lines number open_ones →
    fault_from number open_ones rest ≡ None → AreNested lines number open_ones rest
nested_from [] front lines number open_ones all so_many are none = tt
nested_from (line ∷ rest) front lines number open_ones all so_many are none =
    let parts = neither_found (fault_of_next number open_ones line) (fault_from (suc number) (open_behind number open_ones line) rest) none in
    let here : slice_get lines number ≡ Some line = rw (all, so_many) (slice_get_seam front rest line) in
    let next = nested_from rest (front ++ line ∷ []) lines (suc number) (open_behind number open_ones line) (all ∙ sym (append_assoc front (line ∷ []) rest)) (so_many_on front line number so_many)
    (open_on lines number open_ones line are here parts.0 (kind_of line)) parts.1 in
    (record { here = here; are = are; sound = parts.0 }, subst (λ n. AreNested lines n (open_behind number open_ones line) rest) (sym (add-one number)) next)

pub nested : (lines : List Line) → nesting_fault lines ≡ None → AreNested lines 0 [] lines
nested lines none = nested_from lines [] lines 0 [] refl refl refl (sym (nesting_fault-from_front lines) ∙ none)
