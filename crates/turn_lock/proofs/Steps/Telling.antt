-- A seat that was joined into learns what the rule says of what it heard.
use Rattle.std.proofs.Common.{◌≡◌, ℕ, refl, ap, subst, List, [], set, false, Option, Some, slice_index}
use Rattle.std.specs.List.{AllByRecursion}
use mathlib.Core.Option.{some, none}
use lib.ListN.{get_elem?}
use Rattle.atomic_table.specs.Table.{step, keeps, Allows, stepped}
use Rattle.turn_lock.specs.declared.view.View.{View}
use Rattle.turn_lock.specs.Numbers.{Has}
use Rattle.turn_lock.specs.Journals.{IsFollowedByOthers}
use Rattle.turn_lock.specs.Rule.{LockState, Meanings, IsKept, Fits}
use Rattle.turn_lock.specs.Plays.{Told}
use Rattle.turn_lock.proofs.Views.{not_both}
use Rattle.turn_lock.proofs.Numbering.{at_most_once, numbers_set}
use Rattle.turn_lock.proofs.Histories.{all_first, all_as}
use Rattle.turn_lock.proofs.Queue.{queue_set}
use Rattle.turn_lock.proofs.Steps.Parts.{each_set, value_set, Heard, holds_authors}

module _ {B E D : Type 0} (M : Meanings B E D) where
  -- the view of a seat that was told
  abbrev told_with : View E D → View E D
  told_with v = record v { heard = [] }

  told_kept : (s : LockState B E D) (id : ℕ) (v : View E D) (c : List (ℕ × Option B)) (k : IsKept M s) → v.out ≡ false → get_elem? s.views id ≡ some v
      → IsKept M (stepped s 0 (slice_index s.words 0) id c (told_with v) keeps)
  told_kept s id v c k not_out at = record {
    served = k.served;
    drawn = k.drawn;
    journal = k.journal;
    base = k.base;
    next = k.next;
    words = ap (λ (ws : List ℕ). set ws 0 (slice_index ws 0)) k.words;
    queue = queue_set k.served k.drawn s.views id v w k.queue at refl (λ o. absurd (not_both v.out o not_out));
    numbers = numbers_set k.next s.views id v w k.numbers at refl refl;
    each = each_set M k.journal k.base s.views id w k.each fits;
    authors = k.authors;
    lawful = k.lawful;
    value = value_set M s (stepped s 0 (slice_index s.words 0) id c w keeps) k.journal k.base k.next id v w refl refl at not_out not_out k.value;
  }
    where
      w : View E D
      w = told_with v

      fits : Fits M.author k.journal k.base w
      fits = let f = k.each id v at in record { base_is = f.base_is; seen = f.seen; heard = tt; out = λ o. absurd (not_both v.out o not_out) }

  -- what a load of the first word asks, by which a seat is told
  pub tell_allowed : (slots id : ℕ) (v : View E D) (c : List (ℕ × Option B)) → v.out ≡ false
      → Allows (IsKept M) slots id (v, c) 0 (λ n. n) (Told M.author (step slots 0 0 0 none) (v, c))
  tell_allowed slots id v c not_out s k len at lt =
      let f = k.each id v at in (
        told_with v,
        keeps,
        tt,
        told_kept s id v c k not_out at,
        record {
          journal = k.journal;
          base = k.base;
          heard = all_as (Heard M k.journal k.base v.held) (λ p. IsFollowedByOthers M.author p.0 p.1 k.journal × ((b : D) → p.2 ≡ Some b → k.base ≡ b)) v.heard (λ p h. (h.0, h.2)) f.heard;
          seen = f.seen;
          once = λ n. at_most_once k.next s.views k.numbers id v at n;
          whole = λ all. all_first (λ (e : E). Has v.held (M.author e)) v.seen f.seen.0 (subst (AllByRecursion (λ e. Has v.held (M.author e))) f.seen.1 (holds_authors M s id v k at all));
          me_is = refl;
        },
      )
