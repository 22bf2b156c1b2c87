-- What stands in the place of a gate: one record, or a closed gate, and not both.
use Rattle.std.proofs.Common.{◌≡◌, ℕ, ◌<◌, ◌^◌, List, ◌++◌, length, take, drop, get_or, refl, sym, ◌∙◌, ap, arith}
use Rattle.std.specs.Int.{w32, to_be_bytes, from_be_bytes}
use Rattle.std.proofs.lemmas.Nat.{from_be_bytes-to_be_bytes_4}
use Rattle.std.proofs.lemmas.List.{take_at}
use Rattle.cal_keeper.specs.Files.RecordForm.{open_record, HasRecord, HasClosedGate}

-- two records in one place have the same length, and then the same octets
same_size : (a b x y : List ℕ) → length a < 2 ^ 32 → length b < 2 ^ 32 → open_record a ++ x ≡ open_record b ++ y → length a ≡ length b
same_size a b x y small_a small_b same =
    let sizes : to_be_bytes w32 (length a) ≡ to_be_bytes w32 (length b) = ap (λ (xs : List ℕ). take 4 (drop 1 xs)) same in
    sym (from_be_bytes-to_be_bytes_4 (length a) small_a) ∙ ap (from_be_bytes w32) sizes ∙ from_be_bytes-to_be_bytes_4 (length b) small_b

pub one_record : (octets a b : List ℕ) → HasRecord a octets → HasRecord b octets → a ≡ b
one_record octets a b has_a has_b =
    let same : open_record a ++ has_a.1 ≡ open_record b ++ has_b.1 = sym has_a.2 ∙ has_b.2 in
    let size = same_size a b has_a.1 has_b.1 (omega (arith, has_a.0.1)) (omega (arith, has_b.0.1)) same in
    let rests : a ++ has_a.1 ≡ b ++ has_b.1 = ap (λ (xs : List ℕ). drop 5 xs) same in
    sym (take_at a has_a.1 (length a) refl) ∙ ap (take (length a)) rests ∙ take_at b has_b.1 (length a) (sym size)

pub record_or_gate : (octets payload : List ℕ) → HasRecord payload octets → HasClosedGate octets → ⊥
record_or_gate octets payload has gate = gate.2 (ap (λ (xs : List ℕ). get_or xs 0 0) (sym gate.3 ∙ has.2))
