-- The first place of an octet, and what the definition of lines has of it.
use Rattle.std.proofs.Common.{◌≡◌, ℕ, suc, ◌+◌, Bool, true, false, cond, ◌==◌, nat_lt, List, [], ◌∷◌, length, Option, Some, None, refl, sym, ap, ◌∙◌, arith, ⊎_elim}
use Rattle.std.specs.Prelude.{option_map}
use Rattle.std.specs.List.{position, position_or_len}
use Rattle.std.proofs.lemmas.Bool.Decides.{nat_tests}
use Rattle.cal_model.specs.Streams.Chunks.{line_size}
use Rattle.cal_model.proofs.Streams.StreamFronts.{bool_cases}
use Rattle.cal_model.proofs.Streams.ChunkFronts.{line_size_here, line_size_later}

pub position_here : (p : ℕ → Bool) (x : ℕ) (xs : List ℕ) → p x ≡ true → position p (x ∷ xs) ≡ Some 0
position_here p x xs h =
    let some : nat_lt 0 (length (x ∷ xs)) ≡ true = Prim.grind (arith, nat_tests) in
    rw (h, some) refl

pub position_later : (p : ℕ → Bool) (x : ℕ) (xs : List ℕ) → p x ≡ false → position p (x ∷ xs) ≡ option_map suc (position p xs)
position_later p x xs h = rw h (by (nat_lt (position_or_len p xs) (length xs)) refl)
  where
    by : (b : Bool) → nat_lt (position_or_len p xs) (length xs) ≡ b → cond (nat_lt (1 + position_or_len p xs) (length (x ∷ xs))) (Some (1 + position_or_len p xs)) None ≡ option_map suc (cond b (Some (position_or_len p xs)) None)
    by true e =
        let next : nat_lt (1 + position_or_len p xs) (length (x ∷ xs)) ≡ true = Prim.grind (arith, nat_tests, e) in
        rw next (ap Some (omega arith))
    by false e =
        let next : nat_lt (1 + position_or_len p xs) (length (x ∷ xs)) ≡ false = Prim.grind (arith, nat_tests, e) in
        rw next refl

pub line_size_at : (o : List ℕ) → line_size o ≡ option_map (λ n. n + 1) (position (λ octet. octet == 10) o)
unfolding line_size
line_size_at [] = refl
line_size_at (x ∷ o) =
    ⊎_elim
    (λ here. line_size_here x o here ∙ ap (option_map (λ n. n + 1)) (sym (position_here (λ octet. octet == 10) x o here)))
    (λ later. line_size_later x o later ∙ ap (option_map suc) (line_size_at o) ∙ twice (position (λ octet. octet == 10) o) ∙ ap (option_map (λ n. n + 1)) (sym (position_later (λ octet. octet == 10) x o later)))
    (bool_cases (x == 10))
  where
    twice : (p : Option ℕ) → option_map suc (option_map (λ n. n + 1) p) ≡ option_map (λ n. n + 1) (option_map suc p)
    twice None = refl
    twice (Some n) = ap Some (omega arith)
