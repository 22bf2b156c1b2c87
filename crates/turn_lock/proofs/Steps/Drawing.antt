-- Drawing a ticket keeps the rule.
use Rattle.std.proofs.Common.{◌≡◌, ℕ, ◌+◌, ◌%◌, ◌^◌, refl, ap, ◌∙◌, List, [], ◌∷◌, length, set, false, Option, Some, None, slice_index}
use Rattle.std.proofs.Math.Nat.{mod-add-mod}
use mathlib.Core.Option.{some, none}
use lib.ListN.{get_elem?}
use Rattle.atomic_table.specs.Table.{step, keeps, Allows, stepped}
use Rattle.turn_lock.specs.declared.view.View.{View}
use Rattle.turn_lock.specs.Rule.{LockState, Meanings, IsKept, Fits}
use Rattle.turn_lock.specs.Plays.{Drew}
use Rattle.turn_lock.proofs.Numbering.{numbers_set}
use Rattle.turn_lock.proofs.Queue.{queue_drawn}
use Rattle.turn_lock.proofs.Steps.Parts.{each_set, value_set}

module _ {B E D : Type 0} (M : Meanings B E D) where
  -- the view of a seat that drew
  abbrev with_ticket : View E D → ℕ → View E D
  with_ticket v t = record v { ticket = Some t }

  drawn_kept : (s : LockState B E D) (id : ℕ) (v : View E D) (c : List (ℕ × Option B)) (k : IsKept M s) → v.ticket ≡ None → v.out ≡ false → get_elem? s.views id ≡ some v
      → IsKept M (stepped s 0 ((slice_index s.words 0 + 1) % 2 ^ 64) id c (with_ticket v k.drawn) keeps)
  drawn_kept s id v c k none_yet not_out at = record {
    served = k.served;
    drawn = k.drawn + 1;
    journal = k.journal;
    base = k.base;
    next = k.next;
    words = ap (λ (ws : List ℕ). set ws 0 ((slice_index ws 0 + 1) % 2 ^ 64)) k.words ∙ ap (λ n. n ∷ k.served % 2 ^ 64 ∷ length k.journal % 2 ^ 64 ∷ []) (mod-add-mod k.drawn (2 ^ 64) 1);
    queue = queue_drawn k.served k.drawn s.views id v w k.queue at none_yet refl not_out;
    numbers = numbers_set k.next s.views id v w k.numbers at refl refl;
    each = each_set M k.journal k.base s.views id w k.each fits;
    authors = k.authors;
    lawful = k.lawful;
    value = value_set M s (stepped s 0 ((slice_index s.words 0 + 1) % 2 ^ 64) id c w keeps) k.journal k.base k.next id v w refl refl at not_out not_out k.value;
  }
    where
      w : View E D
      w = with_ticket v k.drawn

      fits : Fits M.author k.journal k.base w
      fits = let f = k.each id v at in record { base_is = f.base_is; seen = f.seen; heard = f.heard; out = f.out }

  -- what `fetch_add` on the first word asks
  pub draw_allowed : (slots id : ℕ) (v : View E D) (c : List (ℕ × Option B)) → v.ticket ≡ None → v.out ≡ false
      → Allows (IsKept M) slots id (v, c) 0 (λ n. (n + 1) % 2 ^ 64) (Drew (step slots 0 1 0 none) (v, c))
  draw_allowed slots id v c none_yet not_out s k len at lt =
      (with_ticket v k.drawn, keeps, tt, drawn_kept s id v c k none_yet not_out at, (k.drawn, refl, ap (λ ws. slice_index ws 0) k.words))
