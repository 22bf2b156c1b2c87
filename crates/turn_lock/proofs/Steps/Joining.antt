-- Joining a seat into another keeps the rule.
use Rattle.std.proofs.Common.{◌≡◌, ℕ, refl, sym, ◌∙◌, [], set, false, None}
use Rattle.std.proofs.lemmas.Option.{none-some}
use mathlib.Core.Option.{some}
use lib.ListN.{get_elem?}
use Rattle.atomic_table.specs.Table.{Joins}
use Rattle.atomic_table.proofs.Lists.{set_else}
use Rattle.turn_lock.specs.declared.view.View.{View}
use Rattle.turn_lock.specs.Numbers.{times}
use Rattle.turn_lock.specs.Rule.{LockState, Meanings, IsKept, Fits}
use Rattle.turn_lock.specs.Plays.{joined_view, spent_view}
use Rattle.turn_lock.proofs.Views.{not_both}
use Rattle.turn_lock.proofs.Numbering.{has_left, has_right, numbers_join}
use Rattle.turn_lock.proofs.Histories.{joined}
use Rattle.turn_lock.proofs.Queue.{queue_set}
use Rattle.turn_lock.proofs.Steps.Parts.{each_set, value_set, all_true}

module _ {B E D : Type 0} (M : Meanings B E D) where
  joined_kept : (s : LockState B E D) (id other : ℕ) (v w : View E D) (k : IsKept M s) → v.ticket ≡ None → v.out ≡ false → w.ticket ≡ None → w.out ≡ false
      → get_elem? s.views id ≡ some v → (other ≡ id → ⊥) → get_elem? (set s.views id (joined_view v w)) other ≡ some w
      → IsKept M (record { words = s.words; homes = s.homes; views = set (set s.views id (joined_view v w)) other spent_view })
  joined_kept s id other v w k v_none v_in w_none w_in at apart at_other = record {
    served = k.served;
    drawn = k.drawn;
    journal = k.journal;
    base = k.base;
    next = k.next;
    words = k.words;
    queue = queue_set k.served k.drawn (set s.views id (joined_view v w)) other w spent_view (queue_set k.served k.drawn s.views id v (joined_view v w) k.queue at refl (λ o. absurd (not_both v.out o v_in))) at_other (sym w_none) (λ o. absurd (not_both false o refl));
    numbers = numbers_join k.next s.views id other v w k.numbers at apart w_at;
    each = each_set M k.journal k.base (set s.views id (joined_view v w)) other spent_view (each_set M k.journal k.base s.views id (joined_view v w) k.each fits_both) fits_spent;
    authors = k.authors;
    lawful = k.lawful;
    value = value_set M middle (record { words = s.words; homes = s.homes; views = set (set s.views id (joined_view v w)) other spent_view }) k.journal k.base k.next other w spent_view refl refl at_other w_in refl
        (value_set M s middle k.journal k.base k.next id v (joined_view v w) refl refl at v_in v_in k.value);
  }
    where
      middle : LockState B E D
      middle = record { words = s.words; homes = s.homes; views = set s.views id (joined_view v w) }

      w_at : get_elem? s.views other ≡ some w
      w_at = sym (set_else s.views id other (joined_view v w) apart) ∙ at_other

      fits_both : Fits M.author k.journal k.base (joined_view v w)
      fits_both =
          let f = k.each id v at in
          let g = k.each other w w_at in
          record {
            base_is = f.base_is;
            seen = (joined M.author v.held w.held v.seen w.seen k.journal f.seen g.seen).0;
            heard = ((f.seen, (λ n h. has_left v.held w.held n h), f.base_is), ((g.seen, (λ n h. has_right v.held w.held n h), g.base_is), tt));
            out = λ o. absurd (not_both v.out o v_in);
          }

      fits_spent : Fits M.author k.journal k.base spent_view
      fits_spent = record { base_is = λ b p. absurd (none-some b p); seen = (k.journal, refl, all_true (λ (e : E). times (M.author e) [] ≡ 0) k.journal (λ e. refl)); heard = tt; out = λ o. absurd (not_both false o refl) }

  -- what `join_seat` asks
  pub join_allowed : (id other : ℕ) (v w : View E D) → v.ticket ≡ None → v.out ≡ false → w.ticket ≡ None → w.out ≡ false
      → Joins (IsKept M) id v other w (joined_view v w) spent_view
  join_allowed id other v w v_none v_in w_none w_in s k at apart at_other = joined_kept s id other v w k v_none v_in w_none w_in at apart at_other
