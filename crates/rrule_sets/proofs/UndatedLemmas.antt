-- The rows of components without a start, one after the other, are those of the object.
use Rattle.std.proofs.Common.{◌≡◌, ℕ, ◌+◌, List, [], ◌∷◌, ◌++◌, length, map, refl, sym, ap, ◌∙◌, arith, inl, inr}
use Rattle.std.specs.Prelude.{filter, is_none}
use Rattle.std.proofs.lemmas.Bool.{cases_Bool}
use Rattle.std.proofs.lemmas.List.{append-nil}
use Rattle.cal_model.specs.declared.object.Component.{Component}
use Rattle.cal_model.specs.declared.row.Row.{Row}
use Rattle.cal_model.specs.Instances.Rows.{Numbered, numbered_from, own_start, undated_row}
use Rattle.rrule_sets.specs.UndatedRows.{undated_rows_from}

pub undated_rows-from : (number : ℕ) (cs : List Component) → undated_rows_from number cs ≡ map undated_row (filter (λ (n : Numbered). is_none (own_start n.component)) (numbered_from number cs))
undated_rows-from number [] = refl
undated_rows-from number (c ∷ cs) = elim (cases_Bool (is_none (own_start c))) [
  | inl w ↦ rw w (ap (λ rows. undated_row (record { number = number; component = c }) ∷ rows) (undated_rows-from (number + 1) cs))
  | inr w ↦ rw w (undated_rows-from (number + 1) cs)
]

-- no component is left
pub undated_done : (rows : List Row) (number : ℕ) (left components : List Component) → length left ≡ 0 → rows ++ undated_rows_from number left ≡ undated_rows_from 0 components →
    rows ≡ map undated_row (filter (λ (n : Numbered). is_none (own_start n.component)) (numbered_from 0 components))
undated_done rows number [] components none e = sym (append-nil rows) ∙ (e ∙ undated_rows-from 0 components)
undated_done rows number (c ∷ cs) components none e = absurd (omega (arith, none))
