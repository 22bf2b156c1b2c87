-- The members of a group, marked by their numbers, and the marks that names make.
use Rattle.std.specs.Prelude.{ℕ, Bool, true, false, List, [], ◌∷◌, map, filter, replicate, slice_set, slice_index_or, Option, Some, None, if◌then◌else◌}
use Rattle.std.specs.List.{enumerate_from}
use Rattle.cal_model.specs.Users.UsersFile.{Group, Users, number_of}

-- the numbers that are marked, in order
abbrev pub marked : List Bool → List ℕ
marked marks = map (λ (mark : ℕ × Bool). mark.0) (filter (λ (mark : ℕ × Bool). mark.1) (enumerate_from 0 marks))

-- a group of a name, whose members are marked
abbrev pub marked_group : List ℕ → List Bool → Group
marked_group name marks = record { name = name; members = marked marks }

-- of as many users as there may be, none is marked
abbrev pub no_marks : List Bool
no_marks = replicate 32 false

-- with a user's mark; none where nobody has the name, or the user is marked already
abbrev pub with_mark : List Bool → Option ℕ → Option (List Bool)
with_mark marks None = None
with_mark marks (Some who) = if slice_index_or marks who false then None else Some (slice_set marks who true)

-- with the marks of some names, each of another user
abbrev pub with_marks : Users → List (List ℕ) → List Bool → Option (List Bool)
with_marks users [] marks = Some marks
with_marks users (name ∷ names) marks = elim (with_mark marks (number_of users name)) [
  | None ↦ None
  | Some more ↦ with_marks users names more
]
