-- A piece that is written tears its own range at most, so a file as it reads is one of the images that a crash may leave.
-- Given: a piece, or the past of a disk in memory.
use Rattle.std.proofs.Common.{◌≡◌, inl, inr, ℕ, ◌+◌, ◌-◌, ◌<◌, ◌≤◌, ◌⊎◌, List, [], ◌∷◌, ◌++◌, length, take, drop, replicate, slice_get, get_or, fold, Some, refl, sym, ◌∙◌, ap, arith, length-append, length-drop}
use Rattle.std.proofs.lemmas.List.{length-replicate, get_or-take, get_or-drop, get_or_append_left, get_or-append_right, length-take-le}
use Rattle.std.proofs.lemmas.Option.{slice_get-get_or}
use Rattle.cal_keeper.specs.declared.memory_disk.Done.{Done}
use Rattle.cal_keeper.specs.declared.memory_disk.Done.TheVariants.{Wrote, Synced}
use Rattle.cal_keeper.specs.declared.memory_disk.Step.{Step}
use Rattle.cal_keeper.specs.Disks.CrashModel.{Past, found, reading, with_piece, IsTorn, IsPossible}
use Rattle.cal_keeper.specs.Disks.MemoryDisks.{after, past_of, DiskState}

-- other octets stay where a piece is written
module _ (place : ℕ) (octet : ℕ) (more xs : List ℕ) where
  abbrev filled : List ℕ
  filled = xs ++ replicate (place - length xs) 0

  abbrev behind : List ℕ
  behind = drop (place + length (octet ∷ more)) xs

  zeros : length {A = ℕ} (replicate (place - length xs) 0) ≡ place - length xs
  zeros = length-replicate {A = ℕ} (place - length xs) 0

  long : place ≤ length filled
  long = omega (arith, zeros, length-append xs (replicate {A = ℕ} (place - length xs) 0))

  front_size : length (take place filled) ≡ place
  front_size = length-take-le place filled long

  size : length ((take place filled ++ (octet ∷ more)) ++ behind) ≡ place + length (octet ∷ more) + (length xs - (place + length (octet ∷ more)))
  size = omega (arith, length-append (take place filled ++ (octet ∷ more)) behind, length-append (take place filled) (octet ∷ more), front_size, length-drop (place + length (octet ∷ more)) xs)

  in_front : (at : ℕ) → at < length xs → at < place → get_or ((take place filled ++ (octet ∷ more)) ++ behind) at 0 ≡ get_or xs at 0
  in_front at within before =
      get_or_append_left (take place filled ++ (octet ∷ more)) behind 0 at (omega (arith, length-append (take place filled) (octet ∷ more), front_size))
      ∙ get_or_append_left (take place filled) (octet ∷ more) 0 at (omega (arith, front_size))
      ∙ get_or-take place filled at 0 before
      ∙ get_or_append_left xs (replicate (place - length xs) 0) 0 at within

  at_back : (at : ℕ) → at < length xs → place + length (octet ∷ more) ≤ at → get_or ((take place filled ++ (octet ∷ more)) ++ behind) at 0 ≡ get_or xs at 0
  at_back at within after =
      let joined : length (take place filled ++ (octet ∷ more)) ≡ place + length (octet ∷ more) = omega (arith, length-append (take place filled) (octet ∷ more), front_size) in
      let sum : place + length (octet ∷ more) + (at - (place + length (octet ∷ more))) ≡ at = omega arith in
      get_or-append_right (take place filled ++ (octet ∷ more)) behind (place + length (octet ∷ more)) at 0 joined after
      ∙ get_or-drop (place + length (octet ∷ more)) xs (at - (place + length (octet ∷ more))) 0
      ∙ ap (λ (i : ℕ). get_or xs i 0) sum

  others_stay : (at : ℕ) → at < length xs → (at < place) ⊎ (place + length (octet ∷ more) ≤ at) → slice_get ((take place filled ++ (octet ∷ more)) ++ behind) at ≡ slice_get xs at
  others_stay at within where_ =
      slice_get-get_or ((take place filled ++ (octet ∷ more)) ++ behind) at 0 (omega (arith, size))
      ∙ ap (λ (n : ℕ). Some n) (same where_)
      ∙ sym (slice_get-get_or xs at 0 within)
    where
      same : (at < place) ⊎ (place + length (octet ∷ more) ≤ at) → get_or ((take place filled ++ (octet ∷ more)) ++ behind) at 0 ≡ get_or xs at 0
      same (inl before) = in_front at within before
      same (inr after) = at_back at within after

pub piece_is_torn : (place : ℕ) (piece xs : List ℕ) → IsTorn place (length piece) xs (with_piece place piece xs)
piece_is_torn place [] xs = record { stays = λ at within side. refl }
piece_is_torn place (octet ∷ more) xs = record { stays = others_stay place octet more xs }

-- What a disk in memory tells is possible

pub possible_after : (past : Past) (done : Done) → IsPossible past → IsPossible (after past done)
possible_after past (Wrote place piece) possible = (reading past, possible, piece_is_torn place piece (reading past))
possible_after past Synced possible = refl

possible_fold : (past : Past) (steps : List Step) → IsPossible past → IsPossible (fold (λ before (step : Step). after before step.done) past steps)
possible_fold past [] possible = possible
possible_fold past (step ∷ steps) possible = possible_fold (after past step.done) steps (possible_after past step.done possible)

pub possible_told : (disk : DiskState) → IsPossible (past_of disk.first disk.steps)
possible_told disk = possible_fold (found disk.first) disk.steps refl
