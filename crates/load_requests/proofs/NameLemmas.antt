-- Names, one after another.
use Rattle.std.proofs.Common.{◌≡◌, ℕ, zero, suc, ◌+◌, ◌<◌, List, [], ◌∷◌, length, map, refl, ap, ◌∙◌, arith}
use Rattle.std.specs.Prelude.{slice_get, unwrap_or}
use Rattle.std.specs.List.{range_with_len}
use Rattle.cal_model.specs.Load.LoadRequests.{load_user}
use Rattle.cal_model.specs.Load.LoadSummary.{load_users}
use Rattle.cal_model.specs.State.ServerState.{Directory, user_name}

-- as many texts as numbers, each by its number
listed : (f : ℕ → List ℕ) (from n : ℕ) (names : List (List ℕ)) → length names ≡ n → ((k : ℕ) → k < n → unwrap_or (slice_get names k) [] ≡ f (from + k)) → names ≡ map f (range_with_len from n)
listed f from zero [] long each = refl
listed f from zero (name ∷ names) long each = absurd (omega arith)
listed f from (suc n) [] long each = absurd (omega arith)
listed f from (suc n) (name ∷ names) long each =
    let first : name ≡ f from = each 0 (omega arith) ∙ ap f (omega arith) in
    let rest : names ≡ map f (range_with_len (from + 1) n) = listed f (from + 1) n names (omega arith) (λ k less. each (suc k) (omega arith) ∙ ap f (omega arith)) in
    λ i. first i ∷ rest i

-- no list but one is empty
empty : {X : Type 0} (xs : List X) → length xs ≡ 0 → xs ≡ []
empty [] none = refl
empty (x ∷ xs) none = absurd (omega arith)

-- the users of each session's name, and no group, are those of `load`
pub named : (directory : Directory) (sessions : ℕ) → length directory.names ≡ sessions → length directory.groups ≡ 0 → ((k : ℕ) → k < sessions → user_name directory k ≡ load_user k) → directory ≡ load_users sessions
named directory sessions long none each =
    let names = listed load_user 0 sessions directory.names long (λ k less. each k less ∙ ap load_user (omega arith)) in
    let groups = empty directory.groups none in
    λ i. record { names = names i; groups = groups i }
