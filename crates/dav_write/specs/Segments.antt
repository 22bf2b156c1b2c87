-- What stands between the slashes of a target, as far as a path has it, and the path of some names.
use Rattle.std.specs.Prelude.{◌≡◌, ℕ, ◌<◌, Bool, List, [], ◌∷◌, length, if◌then◌else◌, Option, None}
use Rattle.std.specs.List.{list_any}
use Rattle.cal_model.specs.declared.path.Path.{Path}
use Rattle.cal_model.specs.Words.Lists.{is_empty}
use Rattle.cal_model.specs.Paths.TargetPaths.{path_of_names}
use Rattle.dav_write.specs.declared.targets.Segments.{Segments}
use Rattle.dav_write.specs.declared.targets.Segments.TheVariants.{One, Two, Three, Four, More}

-- these are the segments, or there are more than four
abbrev pub AreSegments : List (List ℕ) → Segments → Type 0
AreSegments texts (One first) = texts ≡ first.now ∷ []
AreSegments texts (Two first second) = texts ≡ first.now ∷ second.now ∷ []
AreSegments texts (Three first second third) = texts ≡ first.now ∷ second.now ∷ third.now ∷ []
AreSegments texts (Four first second third fourth) = texts ≡ first.now ∷ second.now ∷ third.now ∷ fourth.now ∷ []
AreSegments texts More = 4 < length texts

-- the path of some names, none of which is empty
abbrev pub named_path : Bool → List (List ℕ) → Option Path
named_path ends names = if list_any is_empty names then None else path_of_names ends names
