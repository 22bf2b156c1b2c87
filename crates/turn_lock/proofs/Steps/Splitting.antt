-- Splitting a seat off keeps the rule.
use Rattle.std.proofs.Common.{◌≡◌, ℕ, ◌+◌, ◌^◌, ◌<◌, inr, ⊎_elim, arith, refl, sym, ap, subst, [], ◌∷◌, ◌++◌, set, true, false}
use mathlib.Core.Option.{some}
use lib.ListN.{get_elem?}
use Rattle.atomic_table.specs.Table.{Splits}
use Rattle.atomic_table.proofs.Lists.{set_here, at_snoc, at_longer}
use Rattle.turn_lock.specs.declared.view.View.{View}
use Rattle.turn_lock.specs.Journals.{IsFollowedByOthers}
use Rattle.turn_lock.specs.Rule.{LockState, Meanings, IsKept, Fits}
use Rattle.turn_lock.specs.Plays.{parent_view, child_view}
use Rattle.turn_lock.proofs.Views.{below, not_both}
use Rattle.turn_lock.proofs.Numbering.{numbers_split}
use Rattle.turn_lock.proofs.Histories.{all_as, seen_all}
use Rattle.turn_lock.proofs.Queue.{queue_set, queue_longer}
use Rattle.turn_lock.proofs.Steps.Parts.{each_set, away_of, Away}

module _ {B E D : Type 0} (M : Meanings B E D) where
  split_kept : (s : LockState B E D) (id : ℕ) (v : View E D) (k : IsKept M s) → v.out ≡ true → v.next + 1 < 2 ^ 63 → get_elem? s.views id ≡ some v
      → IsKept M (record { words = s.words; homes = s.homes; views = set s.views id (parent_view v) ++ child_view v ∷ [] })
  split_kept s id v k has_it room at = record {
    served = k.served;
    drawn = k.drawn;
    journal = k.journal;
    base = k.base;
    next = k.next + 1;
    words = k.words;
    queue = queue_longer k.served k.drawn (set s.views id (parent_view v)) (child_view v) (queue_set k.served k.drawn s.views id v (parent_view v) k.queue at refl (λ o. away.turn)) refl refl;
    numbers =
        let holder = ((k.each id v at).out has_it) in
        let bound : k.next + 1 < 2 ^ 63 = let e = away.next_is in omega (arith, room, e) in
        numbers_split k.next s.views id v holder.1 k.numbers at holder.2 away.next_is bound;
    each = λ j x e. ⊎_elim (λ m. each_set M k.journal k.base s.views id (parent_view v) k.each fits_left j x m) (λ m. subst (Fits M.author k.journal k.base) m fits_right) (at_snoc (set s.views id (parent_view v)) (child_view v) x j e);
    authors = all_as (λ (e : E). M.author e < k.next) (λ (e : E). M.author e < k.next + 1) k.journal (λ e h. omega (arith, h)) k.authors;
    lawful = k.lawful;
    value = inr (id, parent_view v, record { homes = away.homes; at = at_longer (set s.views id (parent_view v)) (child_view v ∷ []) id (parent_view v) (set_here s.views id (parent_view v) (below s.views id v at)); has_it = has_it; all_seen = away.all_seen; next_is = ap (λ n. n + 1) away.next_is });
  }
    where
      away : Away M s v k
      away = away_of M s id v k has_it at

      fits_left : Fits M.author k.journal k.base (parent_view v)
      fits_left = let f = k.each id v at in record { base_is = f.base_is; seen = f.seen; heard = f.heard; out = f.out }

      fits_right : Fits M.author k.journal k.base (child_view v)
      fits_right = record {
        base_is = (k.each id v at).base_is;
        seen = subst (λ l. IsFollowedByOthers M.author (v.next ∷ []) l k.journal) (sym away.all_seen) (seen_all M.author (v.next ∷ []) k.journal);
        heard = tt;
        out = λ o. absurd (not_both false o refl);
      }

  -- what `split_seat` asks
  pub split_allowed : (id : ℕ) (v : View E D) → v.out ≡ true → v.next + 1 < 2 ^ 63 → Splits (IsKept M) id v (parent_view v) (child_view v)
  split_allowed id v has_it room s k at = split_kept s id v k has_it room at
