-- The lines at which the components within the outermost one begin, as a count from the front finds them.
use Rattle.std.specs.Prelude.{ℕ, ◌+◌, ◌-◌, Bool, ◌&&◌, ◌==◌, if◌then◌else◌, List, [], ◌∷◌, ◌++◌}
use Rattle.cal_base.specs.declared.line.Line.{Line}
use Rattle.cal_base.specs.Lines.ComponentTrees.{is_begin, is_end}

-- one more where a test holds
abbrev pub counted : ℕ → Bool → ℕ
counted count test = if test then count + 1 else count

-- a BEGIN behind one more BEGIN than ENDs
abbrev pub begins_here : ℕ → ℕ → Line → Bool
begins_here begins ends line = is_begin line && (begins - ends == 1)

abbrev pub child_at : ℕ → ℕ → ℕ → Line → List ℕ
child_at number begins ends line = if begins_here begins ends line then number ∷ [] else []

-- the numbers of such lines, among lines that begin at a number, behind so many BEGINs and ENDs
abbrev pub children_from : ℕ → ℕ → ℕ → List Line → List ℕ
children_from number begins ends [] = []
children_from number begins ends (line ∷ lines) =
    child_at number begins ends line ++ children_from (number + 1) (counted begins (is_begin line)) (counted ends (is_end line)) lines
