-- The rule holds at the start.
use Rattle.std.proofs.Common.{◌≡◌, ℕ, zero, suc, ◌%◌, ◌^◌, ◌<◌, inl, arith, refl, sym, ap, subst, ◌∙◌, [], ◌∷◌, length, true, false, Some, ltb}
use Rattle.std.proofs.Math.Nat.{mod-eq_of_lt}
use Rattle.std.proofs.lemmas.Option.{same_Some}
use Rattle.std.proofs.lemmas.Bool.{le-ltb}
use Rattle.std.specs.List.{AllByRecursion}
use mathlib.Core.Option.{some, some-injective, some-ne-none}
use lib.ListN.{get_elem?}
use Rattle.atomic_table.specs.Table.{opening}
use Rattle.turn_lock.specs.declared.view.View.{View}
use Rattle.turn_lock.specs.Numbers.{times, Has, as_one}
use Rattle.turn_lock.specs.Rule.{Meanings, IsKept, IsQueue, Fits, newcomer}
use Rattle.turn_lock.proofs.Views.{not_both}
use Rattle.turn_lock.proofs.Numbering.{one_more}
use Rattle.turn_lock.proofs.Histories.{all_as, seen_all}
use Rattle.turn_lock.proofs.Queue.{queue_longer}
use Rattle.turn_lock.proofs.Steps.Parts.{Fitting}

module _ {B E D : Type 0} (M : Meanings B E D) where
  empty_queue : IsQueue {E = E} {D = D} 0 0 []
  empty_queue = record { tickets = refl; between = λ i t v e. absurd (some-ne-none v (sym e)); apart = λ i j t v w e. absurd (some-ne-none v (sym e)); first = λ i v e. absurd (some-ne-none v (sym e)) }

  -- at the start
  pub opening_kept : (d : B) (n : ℕ) → n ≡ length (M.journal d) → n < 2 ^ 64 → M.given d ≡ 1 → AllByRecursion (λ e. M.author e ≡ 0) (M.journal d) → M.lawful (M.base d) (M.journal d) ≡ true
      → IsKept M (opening (0 ∷ 0 ∷ n ∷ []) (Some d ∷ []) (newcomer (M.journal d) (M.base d)))
  opening_kept d n e h one zeros lawful = record {
    served = 0;
    drawn = 0;
    journal = M.journal d;
    base = M.base d;
    next = 1;
    words = ap (λ m. 0 ∷ 0 ∷ m ∷ []) (sym (ap (λ m. m % 2 ^ 64) (sym e) ∙ mod-eq_of_lt h));
    queue = queue_longer 0 0 [] v empty_queue refl refl;
    numbers = record {
      few = omega arith;
      bound = omega arith;
      once = λ m. let more = one_more m 0 in let none : as_one (ltb m 0) ≡ 0 = ap as_one (le-ltb m 0 (omega arith)) in omega (arith, more, none);
      parent = λ m a b. absurd (omega (arith, a, b));
      kin_below = λ i m x a b. absurd (no_kin i m x a b);
    };
    each = only;
    authors = all_as (λ (x : E). M.author x ≡ 0) (λ (x : E). M.author x < 1) (M.journal d) (λ x p. omega (arith, p)) zeros;
    lawful = lawful;
    value = inl (d, record { homes = refl; journal_is = refl; base_is = refl; next_is = one; nobody = nobody });
  }
    where
      v : View E D
      v = newcomer (M.journal d) (M.base d)

      at_first : (i : ℕ) (x : View E D) → get_elem? (v ∷ []) i ≡ some x → v ≡ x
      at_first zero x a = some-injective v x a
      at_first (suc i) x a = absurd (some-ne-none x (sym a))

      no_kin : (i m : ℕ) (x : View E D) → get_elem? (v ∷ []) i ≡ some x → Has x.kin m → ⊥
      no_kin i m x a b = let none : times m x.kin ≡ 0 = ap (λ (u : View E D). times m u.kin) (sym (at_first i x a)) in omega (arith, none, b)

      fits : Fits M.author (M.journal d) (M.base d) v
      fits = record { base_is = λ b p. same_Some (M.base d) b p; seen = seen_all M.author (0 ∷ []) (M.journal d); heard = tt; out = λ o. absurd (not_both false o refl) }

      only : Fitting M (M.journal d) (M.base d) (v ∷ [])
      only i x a = subst (Fits M.author (M.journal d) (M.base d)) (at_first i x a) fits

      nobody : (i : ℕ) (x : View E D) → get_elem? (v ∷ []) i ≡ some x → x.out ≡ false
      nobody i x a = ap (λ (u : View E D). u.out) (sym (at_first i x a))
