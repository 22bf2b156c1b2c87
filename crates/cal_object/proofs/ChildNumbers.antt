-- The count from the front finds the lines at which the components within the outermost one begin.
use Rattle.std.proofs.Common.{◌≡◌, ℕ, ◌+◌, ◌-◌, Bool, true, false, List, [], ◌∷◌, ◌++◌, map, length, take, refl, sym, ap, ap₂, ◌∙◌, append_assoc, length-append, arith}
use Rattle.std.specs.Prelude.{filter, count_by, cond, ◌&&◌, ◌==◌, if◌then◌else◌}
use Rattle.std.specs.List.{enumerate_from}
use Rattle.std.proofs.Math.Seq.{take-append_seam}
use Rattle.std.proofs.lemmas.List.Sums.{sum_by-append}
use Rattle.cal_base.specs.declared.line.Line.{Line}
use Rattle.cal_base.specs.Lines.ComponentTrees.{is_begin, is_end, depth}
use Rattle.cal_model.specs.Objects.CalendarChildren.{begins_child}
use Rattle.cal_object.specs.Scan.{child_numbers}
use Rattle.cal_object.specs.Children.{counted, begins_here, children_from}

added : (b : Bool) (count so_many : ℕ) → count ≡ so_many → counted count b ≡ so_many + (0 + cond b 1 0)
added true count so_many is = omega (arith, is)
added false count so_many is = omega (arith, is)

-- one more line behind
count_more : (test : Line → Bool) (front : List Line) (line : Line) (count : ℕ) → count ≡ count_by test front → counted count (test line) ≡ count_by test (front ++ line ∷ [])
count_more test front line count is =
    added (test line) count (count_by test front) is ∙ sym (sum_by-append (λ (one : Line). cond (test one) 1 0) front (line ∷ []))

numbers_of : (b : Bool) (number : ℕ) (line : Line) (found : List (ℕ × Line)) (rest : List ℕ) → map (λ (one : ℕ × Line). one.0) found ≡ rest →
    map (λ (one : ℕ × Line). one.0) (if b then (number, line) ∷ found else found) ≡ (if b then number ∷ [] else []) ++ rest
numbers_of true number line found rest same = ap (λ numbers. number ∷ numbers) same
numbers_of false number line found rest same = same

depth_is : (front rest lines : List Line) (number begins ends : ℕ) → lines ≡ front ++ rest → number ≡ length front → begins ≡ count_by is_begin front → ends ≡ count_by is_end front →
    depth lines number ≡ begins - ends
depth_is front rest lines number begins ends all so_many more fewer =
    let before : take number lines ≡ front = rw (all, so_many) (take-append_seam front rest) in
    ap₂ (λ a b. a - b) (ap (count_by is_begin) before ∙ sym more) (ap (count_by is_end) before ∙ sym fewer)

children_on : (rest front lines : List Line) (number begins ends : ℕ) → lines ≡ front ++ rest → number ≡ length front → begins ≡ count_by is_begin front → ends ≡ count_by is_end front →
    map (λ (found : ℕ × Line). found.0) (filter (λ (found : ℕ × Line). begins_child lines found.0 found.1) (enumerate_from number rest)) ≡ children_from number begins ends rest
children_on [] front lines number begins ends all so_many more fewer = refl
children_on (line ∷ rest) front lines number begins ends all so_many more fewer =
    let same : begins_child lines number line ≡ begins_here begins ends line = ap (λ n. is_begin line && (n == 1)) (depth_is front (line ∷ rest) lines number begins ends all so_many more fewer) in
    let on = children_on rest (front ++ line ∷ []) lines (number + 1) (counted begins (is_begin line)) (counted ends (is_end line)) (all ∙ sym (append_assoc front (line ∷ []) rest))
    (ap (λ n. n + 1) so_many ∙ sym (length-append front (line ∷ []))) (count_more is_begin front line begins more) (count_more is_end front line ends fewer) in
    numbers_of (begins_child lines number line) number line (filter (λ (found : ℕ × Line). begins_child lines found.0 found.1) (enumerate_from (number + 1) rest))
    (children_from (number + 1) (counted begins (is_begin line)) (counted ends (is_end line)) rest) on
    ∙ ap (λ b. (if b then number ∷ [] else []) ++ children_from (number + 1) (counted begins (is_begin line)) (counted ends (is_end line)) rest) same

pub child_numbers-from_front : (lines : List Line) → child_numbers lines ≡ children_from 0 0 0 lines
child_numbers-from_front lines = children_on lines [] lines 0 0 0 refl refl refl refl
