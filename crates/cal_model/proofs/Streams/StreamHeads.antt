-- A head in front stays whatever follows: its size, its octets, and its end within the octets.
use Rattle.std.proofs.Common.{◌≡◌, ℕ, ◌+◌, ◌-◌, ◌≤◌, ◌==◌, ◌&&◌, List, [], ◌∷◌, ◌++◌, length, Option, Some, None, refl, sym, ap, ◌∙◌, arith, ⊎_elim, length-append}
use Rattle.std.specs.Prelude.{option_map}
use Rattle.std.proofs.lemmas.Option.{same_Some}
use Rattle.cal_base.specs.Texts.Octets.{line_feed, carriage_return}
use Rattle.cal_model.specs.Streams.Heads.{head_end, without_empty_lines, head_size}
use Rattle.cal_model.proofs.Streams.StreamFronts.{bool_cases, none_some, head_end_nil, head_end_short, head_end-append, head_end-within, without_empty_lines-append, skips_lf, skips_crlf, skips_none}

-- a number that an option is mapped to
pub mapped : (f : ℕ → ℕ) (o : Option ℕ) (n : ℕ) → option_map f o ≡ Some n → (m : ℕ) × (o ≡ Some m) × (n ≡ f m)
mapped f None n e = none_some n e
mapped f (Some m) n e = (m, refl, sym (same_Some _ _ e))

-- what stands behind the empty lines is no longer than all
pub without_empty_lines-within : (xs : List ℕ) → length (without_empty_lines xs) ≤ length xs
unfolding without_empty_lines
without_empty_lines-within [] = omega arith
without_empty_lines-within (x ∷ []) = ⊎_elim (λ yes. rw yes (omega arith)) (λ no. rw no (omega arith)) (bool_cases (x == line_feed))
without_empty_lines-within (x ∷ y ∷ xs) =
    ⊎_elim
    (λ yes. let h = without_empty_lines-within (y ∷ xs) in let s = ap length (skips_lf x y xs yes) in omega arith)
    (λ no. ⊎_elim
    (λ yes. let h = without_empty_lines-within xs in let s = ap length (skips_crlf x y xs no yes) in omega arith)
    (λ other. let s = ap length (skips_none x y xs no other) in omega arith)
    (bool_cases ((x == carriage_return) && (y == line_feed))))
    (bool_cases (x == line_feed))

-- where a head ends there are two octets of it
pub two_octets : (xs : List ℕ) (n : ℕ) → head_end xs ≡ Some n → (b : ℕ) × (c : ℕ) × (more : List ℕ) × (xs ≡ b ∷ c ∷ more)
two_octets [] n e = none_some n (sym head_end_nil ∙ e)
two_octets (x ∷ []) n e = none_some n (sym (head_end_short x) ∙ e)
two_octets (b ∷ c ∷ more) n e = (b, c, more, refl)

-- the size of a head is within the octets
pub head_size-within : (xs : List ℕ) (n : ℕ) → head_size xs ≡ Some n → n ≤ length xs
head_size-within xs n e =
    let m = mapped (λ k. (length xs - length (without_empty_lines xs)) + k) (head_end (without_empty_lines xs)) n e in
    let w = head_end-within (without_empty_lines xs) m.0 m.1 in
    let v = without_empty_lines-within xs in
    let s = m.2 in
    omega arith

-- and stays
pub head_size-append : (xs ys : List ℕ) (n : ℕ) → head_size xs ≡ Some n → head_size (xs ++ ys) ≡ Some n
head_size-append xs ys n e =
    let m = mapped (λ k. (length xs - length (without_empty_lines xs)) + k) (head_end (without_empty_lines xs)) n e in
    let two = two_octets (without_empty_lines xs) m.0 m.1 in
    let begun : without_empty_lines (xs ++ ys) ≡ without_empty_lines xs ++ ys =
    without_empty_lines-append xs ys two.0 two.1 two.2 two.3 ∙ ap (λ l. l ++ ys) (sym two.3) in
    let end : head_end (without_empty_lines xs ++ ys) ≡ Some m.0 = head_end-append (without_empty_lines xs) ys m.0 m.1 in
    let s = m.2 in
    let a = length-append xs ys in
    let b = length-append (without_empty_lines xs) ys in
    let number : (length (xs ++ ys) - length (without_empty_lines xs ++ ys)) + m.0 ≡ n = omega arith in
    rw begun (rw end (ap Some number))
