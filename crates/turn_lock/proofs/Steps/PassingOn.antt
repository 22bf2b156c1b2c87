-- Bringing the value home and passing the turn on keeps the rule.
use Rattle.std.proofs.Common.{◌≡◌, ℕ, ◌+◌, ◌%◌, ◌^◌, inl, ⊎_elim, refl, sym, ap, subst, ◌∙◌, List, [], ◌∷◌, length, set, true, false, Option, Some, None, slice_index}
use Rattle.std.proofs.Math.Nat.{mod-add-mod}
use mathlib.Core.Option.{some, none}
use lib.ListN.{get_elem?}
use Rattle.atomic_table.specs.Table.{step, gives, Allows, stepped}
use Rattle.atomic_table.proofs.Lists.{at_set}
use Rattle.turn_lock.specs.declared.view.View.{View}
use Rattle.turn_lock.specs.Rule.{LockState, Meanings, IsKept, Fits}
use Rattle.turn_lock.specs.Plays.{Passed}
use Rattle.turn_lock.proofs.Views.{not_both, not_true}
use Rattle.turn_lock.proofs.Numbering.{numbers_set}
use Rattle.turn_lock.proofs.Queue.{queue_passed, alone}
use Rattle.turn_lock.proofs.Steps.Parts.{each_set, away_of, Away}

module _ {B E D : Type 0} (M : Meanings B E D) where
  -- the view of a seat that passed on
  abbrev home_with : View E D → View E D
  home_with v = record v { ticket = None; out = false }

  passed_kept : (s : LockState B E D) (id : ℕ) (v : View E D) (d : B) (k : IsKept M s) → v.out ≡ true → get_elem? s.views id ≡ some v → v.seen ≡ M.journal d → M.given d ≡ v.next → v.base ≡ Some (M.base d)
      → IsKept M (stepped s 1 ((slice_index s.words 1 + 1) % 2 ^ 64) id ((0, Some d) ∷ []) (home_with v) gives)
  passed_kept s id v d k has_it at whole known based = record {
    served = k.served + 1;
    drawn = k.drawn;
    journal = k.journal;
    base = k.base;
    next = k.next;
    words = ap (λ (ws : List ℕ). set ws 1 ((slice_index ws 1 + 1) % 2 ^ 64)) k.words ∙ ap (λ n. k.drawn % 2 ^ 64 ∷ n ∷ length k.journal % 2 ^ 64 ∷ []) (mod-add-mod k.served (2 ^ 64) 1);
    queue = queue_passed k.served k.drawn s.views id v w k.queue at away.turn refl refl;
    numbers = numbers_set k.next s.views id v w k.numbers at refl refl;
    each = each_set M k.journal k.base s.views id w k.each fits;
    authors = k.authors;
    lawful = k.lawful;
    value = inl (d, record { homes = ap (λ hs. set hs 0 (some (Some d))) away.homes; journal_is = sym whole ∙ away.all_seen; base_is = sym ((k.each id v at).base_is (M.base d) based); next_is = known ∙ away.next_is; nobody = nobody });
  }
    where
      w : View E D
      w = home_with v

      away : Away M s v k
      away = away_of M s id v k has_it at

      fits : Fits M.author k.journal k.base w
      fits = let f = k.each id v at in record { base_is = f.base_is; seen = f.seen; heard = f.heard; out = λ o. absurd (not_both false o refl) }

      nobody : (i : ℕ) (x : View E D) → get_elem? (set s.views id w) i ≡ some x → x.out ≡ false
      nobody i x e = ⊎_elim
          (λ m. ap (λ (u : View E D). u.out) (sym m.1))
          (λ m. not_true x.out (λ o. alone k.served k.drawn s.views id v k.queue at away.turn i x m.0 m.1 (k.queue.first i x m.1 o)))
          (at_set s.views id i w x e)

  -- what `fetch_add` on the second word asks
  pub pass_allowed : (slots id : ℕ) (v : View E D) (c : List (ℕ × Option B)) (d : B) → v.out ≡ true → c ≡ (0, Some d) ∷ [] → v.seen ≡ M.journal d → M.given d ≡ v.next → v.base ≡ Some (M.base d)
      → Allows (IsKept M) slots id (v, c) 1 (λ n. (n + 1) % 2 ^ 64) (Passed (step slots 1 1 0 none) (v, c))
  pass_allowed slots id v c d has_it holds whole known based =
      subst (λ l. Allows (IsKept M) slots id (v, l) 1 (λ n. (n + 1) % 2 ^ 64) (Passed (step slots 1 1 0 none) (v, l))) (sym holds)
      (λ s k len at lt. (home_with v, gives, tt, passed_kept s id v d k has_it at whole known based, refl))
