-- What one line does to the open components, by its kind.
use Rattle.std.proofs.Common.{◌≡◌, ℕ, Bool, true, false, not, List, [], ◌∷◌, length, Option, Some, None, refl, ap, ◌∙◌, inl, inr, ◌<◌, arith}
use Rattle.std.specs.Prelude.{nat_lt, nat_le, if◌then◌else◌, codes, ◌&&◌, ◌||◌, ◌==◌}
use Rattle.std.specs.Str.{bytes_eq}
use Rattle.std.proofs.lemmas.Slice.Eq.{bytes_eq-Decides}
use Rattle.std.proofs.lemmas.Bool.{cases_Bool, lt-ltb, ne_eqb}
use Rattle.cal_base.specs.declared.line.Line.{Line}
use Rattle.cal_base.specs.Lines.ComponentTrees.{is_begin, is_end, component_name, NestingFault, wrong_end, too_deep, Level, nothing_more, with_line, with_begin, with_before}
use Rattle.cal_base.specs.Lines.Nesting.{Opening, fault_of_next, open_behind, innermost_name, without_innermost}

-- a line is a BEGIN, an END or neither
pub data Kind (line : Line) : Type 0 where
  begins : is_begin line ≡ true → is_end line ≡ false → Kind line
  ends : is_begin line ≡ false → is_end line ≡ true → Kind line
  neither : is_begin line ≡ false → is_end line ≡ false → Kind line

pub kind_of : (line : Line) → Kind line
kind_of line =
    elim (cases_Bool (is_begin line)) [
      | inl begin ↦ begins begin (ap (λ name. bytes_eq name (codes "END")) ((bytes_eq-Decides line.name (codes "BEGIN")).0 begin))
      | inr no_begin ↦ elim (cases_Bool (is_end line)) [ inl end ↦ ends no_begin end | inr no_end ↦ neither no_begin no_end ]
    ]

-- The components that are open behind a line

pub open_behind_begin : (number : ℕ) (open_ones : List Opening) (line : Line) → is_begin line ≡ true → open_behind number open_ones line ≡ record { line = number; name = component_name line } ∷ open_ones
open_behind_begin number open_ones line begin = ap (λ b. if b then record { line = number; name = component_name line } ∷ open_ones else (if is_end line then without_innermost open_ones else open_ones)) begin

pub open_behind_end : (number : ℕ) (open_ones : List Opening) (line : Line) → is_begin line ≡ false → is_end line ≡ true → open_behind number open_ones line ≡ without_innermost open_ones
open_behind_end number open_ones line no_begin end =
    ap (λ b. if b then record { line = number; name = component_name line } ∷ open_ones else (if is_end line then without_innermost open_ones else open_ones)) no_begin
    ∙ ap (λ b. if b then without_innermost open_ones else open_ones) end

pub open_behind_own : (number : ℕ) (open_ones : List Opening) (line : Line) → is_begin line ≡ false → is_end line ≡ false → open_behind number open_ones line ≡ open_ones
open_behind_own number open_ones line no_begin no_end =
    ap (λ b. if b then record { line = number; name = component_name line } ∷ open_ones else (if is_end line then without_innermost open_ones else open_ones)) no_begin
    ∙ ap (λ b. if b then without_innermost open_ones else open_ones) no_end

-- The fault of a line

-- the fault by its tests: nothing is open, lines came before, the line is a BEGIN, an END, its name is another, four are open
abbrev fault_by : ℕ → Bool → Bool → Bool → Bool → Bool → Bool → Option NestingFault
fault_by number outside later begin end same deep =
    if (outside && (later || not begin)) || (end && not same) then Some (wrong_end number) else (if begin && deep then Some (too_deep number) else None)

fault_known : (outside begin end : Bool) (number : ℕ) (open_ones : List Opening) (line : Line) → (length open_ones == 0) ≡ outside → is_begin line ≡ begin → is_end line ≡ end
    → fault_of_next number open_ones line ≡ fault_by number outside (nat_lt 0 number) begin end (bytes_eq (component_name line) (innermost_name open_ones)) (nat_le 4 (length open_ones))
fault_known outside begin end number open_ones line known_outside known_begin known_end =
    let later = nat_lt 0 number in
    let same = bytes_eq (component_name line) (innermost_name open_ones) in
    let deep = nat_le 4 (length open_ones) in
    ap (λ b. fault_by number b later (is_begin line) (is_end line) same deep) known_outside
    ∙ (ap (λ b. fault_by number outside later b (is_end line) same deep) known_begin
    ∙ ap (λ b. fault_by number outside later begin b same deep) known_end)

pub fault_of_first : (line : Line) → is_begin line ≡ true → is_end line ≡ false → fault_of_next 0 [] line ≡ None
fault_of_first line begin no_end = fault_known true true false 0 [] line refl begin no_end

pub fault_of_stray : (number : ℕ) (line : Line) → is_begin line ≡ false → fault_of_next number [] line ≡ Some (wrong_end number)
fault_of_stray number line no_begin =
    fault_known true false (is_end line) number [] line refl no_begin refl
    ∙ elim (nat_lt 0 number) as (λ b. fault_by number true b false (is_end line) (bytes_eq (component_name line) []) (nat_le 4 0) ≡ Some (wrong_end number)) [ true ↦ refl | false ↦ refl ]

pub fault_of_later : (number : ℕ) (line : Line) → 0 < number → fault_of_next number [] line ≡ Some (wrong_end number)
fault_of_later number line later =
    ap (λ b. fault_by number true b (is_begin line) (is_end line) (bytes_eq (component_name line) []) (nat_le 4 0)) (lt-ltb 0 number later)

inside : (opening : Opening) (around : List Opening) → (length (opening ∷ around) == 0) ≡ false
inside opening around = ne_eqb (length (opening ∷ around)) 0 (λ none. absurd (omega (arith, none)))

pub fault_of_begin : (number : ℕ) (opening : Opening) (around : List Opening) (line : Line) → is_begin line ≡ true → is_end line ≡ false
    → fault_of_next number (opening ∷ around) line ≡ (if nat_le 4 (length (opening ∷ around)) then Some (too_deep number) else None)
fault_of_begin number opening around line begin no_end = fault_known false true false number (opening ∷ around) line (inside opening around) begin no_end

pub fault_of_end : (number : ℕ) (opening : Opening) (around : List Opening) (line : Line) → is_begin line ≡ false → is_end line ≡ true
    → fault_of_next number (opening ∷ around) line ≡ (if not (bytes_eq (component_name line) opening.name) then Some (wrong_end number) else None)
fault_of_end number opening around line no_begin end = fault_known false false true number (opening ∷ around) line (inside opening around) no_begin end

pub fault_of_own : (number : ℕ) (opening : Opening) (around : List Opening) (line : Line) → is_begin line ≡ false → is_end line ≡ false → fault_of_next number (opening ∷ around) line ≡ None
fault_of_own number opening around line no_begin no_end = fault_known false false false number (opening ∷ around) line (inside opening around) no_begin no_end

-- The levels before one line more

pub before_begin : (line : Line) (levels : List Level) → is_begin line ≡ true → with_before line levels ≡ with_begin (component_name line) levels
before_begin line levels begin = ap (λ b. if b then with_begin (component_name line) levels else (if is_end line then nothing_more ∷ levels else with_line line levels)) begin

pub before_end : (line : Line) (levels : List Level) → is_begin line ≡ false → is_end line ≡ true → with_before line levels ≡ nothing_more ∷ levels
before_end line levels no_begin end =
    ap (λ b. if b then with_begin (component_name line) levels else (if is_end line then nothing_more ∷ levels else with_line line levels)) no_begin
    ∙ ap (λ b. if b then nothing_more ∷ levels else with_line line levels) end

pub before_own : (line : Line) (levels : List Level) → is_begin line ≡ false → is_end line ≡ false → with_before line levels ≡ with_line line levels
before_own line levels no_begin no_end =
    ap (λ b. if b then with_begin (component_name line) levels else (if is_end line then nothing_more ∷ levels else with_line line levels)) no_begin
    ∙ ap (λ b. if b then nothing_more ∷ levels else with_line line levels) no_end
