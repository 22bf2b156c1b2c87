-- The first line that cannot stand, as a walk from the front finds it: it keeps, of each open component, which properties have come.
use Rattle.std.specs.Prelude.{ℕ, ◌+◌, Bool, false, not, ◌&&◌, ◌||◌, if◌then◌else◌, List, [], ◌∷◌, Option, Some, None}
use Rattle.cal_base.specs.declared.line.Line.{Line}
use Rattle.cal_base.specs.Lines.ComponentTrees.{is_begin, is_end}
use Rattle.cal_object.specs.declared.property.Property.{Property}
use Rattle.cal_object.specs.declared.seen_names.SeenNames.{SeenNames}
use Rattle.cal_object.specs.Properties.{property_named, test_of, is_repeatable}
use Rattle.cal_object.specs.Seen.{none_seen, has_seen, seen_with}

-- the open components without the innermost
abbrev pub without_first : {X : Type 0} → List X → List X
without_first [] = []
without_first (x ∷ xs) = xs

-- a property has come in the innermost open component
abbrev pub has_come : List SeenNames → Property → Bool
has_come [] property = false
has_come (seen ∷ around) property = has_seen seen property

-- a line of a property cannot stand
abbrev pub fails_as : List SeenNames → Line → Property → Bool
fails_as open_ones line property = not (test_of property line) || (not (is_repeatable property) && has_come open_ones property)

abbrev pub property_of : Line → Option Property
property_of line = property_named line.name

abbrev pub fails : List SeenNames → Line → Bool
fails open_ones line = elim (property_of line) [ None ↦ false | Some property ↦ fails_as open_ones line property ]

-- what has come in the innermost open component behind a line of a property
abbrev pub come_with : List SeenNames → Option Property → List SeenNames
come_with [] property = []
come_with (seen ∷ around) None = seen ∷ around
come_with (seen ∷ around) (Some property) = seen_with seen property ∷ around

-- what has come in the components that are open behind a line
abbrev pub come_behind : List SeenNames → Line → List SeenNames
come_behind open_ones line =
    if is_begin line then none_seen ∷ open_ones
    else (if is_end line then without_first open_ones else come_with open_ones (property_of line))

-- the number of the first line that fails, among lines that begin at a number
abbrev pub fails_from : ℕ → List SeenNames → List Line → Option ℕ
fails_from number open_ones [] = None
fails_from number open_ones (line ∷ lines) =
    if fails open_ones line then Some number else fails_from (number + 1) (come_behind open_ones line) lines
