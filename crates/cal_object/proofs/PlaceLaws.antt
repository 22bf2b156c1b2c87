-- The places of lines by their numbers.
use Rattle.std.proofs.Common.{◌≡◌, ℕ, ◌+◌, List, [], ◌∷◌, ◌++◌, map, length, arith, refl, sym, ap, ◌∙◌, append_assoc, length-append, Bool, inl, inr}
use Rattle.std.proofs.Math.Seq.{get_or-append_seam}
use Rattle.std.specs.Prelude.{filter, find, get_or, slice_get, Some, None, option_map, unwrap_or}
use Rattle.std.specs.List.{enumerate_from}
use Rattle.std.proofs.lemmas.Bool.{cases_Bool}
use Rattle.std.proofs.lemmas.Option.{slice_get-get_or, slice_get-map, get_or_from_slice_get, unwrap_or-slice_get}
use Rattle.cal_base.specs.declared.line.Line.{Line}
use Rattle.cal_base.specs.Lines.ContentLines.{Placed}
use Rattle.cal_model.specs.Objects.LineValues.{lines_in, has_own_fault, own_fault}
use Rattle.cal_model.specs.Objects.CalendarChildren.{begins_child, child_places}
use Rattle.cal_model.specs.Objects.ObjectReading.{place_at}
use Rattle.cal_object.specs.Scan.{own_number, child_numbers}

place_seam : (front rest : List Placed) (at : Placed) → place_at (front ++ at ∷ rest) (length front) ≡ at.place
place_seam front rest at =
    ap (λ found. elim found as (λ _. ℕ) [ None ↦ 0 | Some one ↦ one.place ])
    (slice_get-get_or (front ++ at ∷ rest) (length front) at (grind (arith, length-append)) ∙ ap Some (get_or-append_seam front at rest at))

module _ (all : List Placed) (test : ℕ → Line → Bool) where
  here : (front rest : List Placed) (at : Placed) (number : ℕ) → all ≡ front ++ at ∷ rest → number ≡ length front → at.place ≡ place_at all number
  here front rest at number whole count = rw (whole, count) (sym (place_seam front rest at))

  more : (front rest : List Placed) (at : Placed) → all ≡ front ++ at ∷ rest → all ≡ (front ++ at ∷ []) ++ rest
  more front rest at whole = whole ∙ sym (append_assoc front (at ∷ []) rest)

  one_on : (front : List Placed) (at : Placed) (number : ℕ) → number ≡ length front → number + 1 ≡ length (front ++ at ∷ [])
  one_on front at number count = grind (arith, length-append)

  places_from : (front rest : List Placed) (number : ℕ) → all ≡ front ++ rest → number ≡ length front →
      map (λ (found : ℕ × Placed). found.1.place) (filter (λ (found : ℕ × Placed). test found.0 found.1.line) (enumerate_from number rest))
      ≡ map (place_at all) (map (λ (found : ℕ × Line). found.0) (filter (λ (found : ℕ × Line). test found.0 found.1) (enumerate_from number (lines_in rest))))
  places_from front [] number whole count = refl
  places_from front (at ∷ rest) number whole count =
      let others = places_from (front ++ at ∷ []) rest (number + 1) (more front rest at whole) (one_on front at number count) in
      elim (cases_Bool (test number at.line)) [
        | inl w ↦ rw w (ap (λ place. place ∷ map (λ (found : ℕ × Placed). found.1.place) (filter (λ (found : ℕ × Placed). test found.0 found.1.line) (enumerate_from (number + 1) rest))) (here front rest at number whole count)
            ∙ ap (λ places. place_at all number ∷ places) others)
        | inr w ↦ rw w others
      ]

  first_from : (front rest : List Placed) (number : ℕ) → all ≡ front ++ rest → number ≡ length front →
      option_map (λ (found : ℕ × Placed). found.1.place) (find (λ (found : ℕ × Placed). test found.0 found.1.line) (enumerate_from number rest))
      ≡ option_map (place_at all) (option_map (λ (found : ℕ × Line). found.0) (find (λ (found : ℕ × Line). test found.0 found.1) (enumerate_from number (lines_in rest))))
  first_from front [] number whole count = refl
  first_from front (at ∷ rest) number whole count =
      let others = first_from (front ++ at ∷ []) rest (number + 1) (more front rest at whole) (one_on front at number count) in
      elim (cases_Bool (test number at.line)) [
        | inl w ↦ rw w (ap Some (here front rest at number whole count))
        | inr w ↦ rw w others
      ]

-- the first line that cannot stand, and the lines at which children begin, stand at the places of their numbers
pub own_fault-number : (placed : List Placed) → own_fault placed ≡ option_map (place_at placed) (own_number (lines_in placed))
own_fault-number placed = first_from placed (has_own_fault (lines_in placed)) [] placed 0 refl refl

pub child_places-numbers : (placed : List Placed) → child_places placed ≡ map (place_at placed) (child_numbers (lines_in placed))
child_places-numbers placed = places_from placed (begins_child (lines_in placed)) [] placed 0 refl refl

-- the place of a child
pub child_place : (placed : List Placed) (number line : ℕ) → Some line ≡ slice_get (child_numbers (lines_in placed)) number → place_at placed line ≡ get_or (child_places placed) number 0
child_place placed number line there =
    let numbers = child_numbers (lines_in placed) in
    sym (ap (λ places. get_or places number 0) (child_places-numbers placed)
    ∙ get_or_from_slice_get (map (place_at placed) numbers) number (place_at placed line) 0 (slice_get-map (place_at placed) numbers number ∙ ap (option_map (place_at placed)) (sym there)))

pub no_child_place : (placed : List Placed) (number : ℕ) → None ≡ slice_get (child_numbers (lines_in placed)) number → 0 ≡ get_or (child_places placed) number 0
no_child_place placed number none =
    let numbers = child_numbers (lines_in placed) in
    sym (ap (λ places. get_or places number 0) (child_places-numbers placed)
    ∙ sym (unwrap_or-slice_get (map (place_at placed) numbers) number 0)
    ∙ ap (λ found. unwrap_or found 0) (slice_get-map (place_at placed) numbers number ∙ ap (option_map (place_at placed)) (sym none)))
