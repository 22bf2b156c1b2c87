-- Looking at the ticket that is served keeps the rule, and serves a seat whose ticket it is.
use Rattle.std.proofs.Common.{◌≡◌, ℕ, ◌+◌, ◌%◌, ◌^◌, ◌<◌, inr, ⊎_elim, arith, refl, sym, ap, subst, ◌∙◌, List, [], ◌∷◌, ◌++◌, length, set, Bool, true, false, Option, Some, slice_index, eqb}
use Rattle.std.proofs.lemmas.List.Sums.{count_by-le-length}
use Rattle.std.proofs.lemmas.Option.{same_Some}
use Rattle.std.proofs.lemmas.Bool.{eqb-true}
use Rattle.std.specs.Prelude.{MatchBool}
use Rattle.std.specs.List.{AllByRecursion}
use mathlib.Core.Option.{some, none}
use lib.ListN.{get_elem?}
use Rattle.atomic_table.specs.Table.{Me, Act, step, keeps, takes, Allows, stepped, Valid, carried_after}
use Rattle.atomic_table.proofs.Lists.{set_here, set_again, one_turn}
use Rattle.turn_lock.specs.declared.view.View.{View}
use Rattle.turn_lock.specs.Numbers.{Has}
use Rattle.turn_lock.specs.Journals.{IsFollowedByOthers}
use Rattle.turn_lock.specs.Rule.{LockState, Meanings, IsKept, Fits, IsAtHome, has_ticket}
use Rattle.turn_lock.specs.Plays.{Looked, IsServed}
use Rattle.turn_lock.proofs.Views.{below, same_item, not_both}
use Rattle.turn_lock.proofs.Numbering.{has_either, below_next, numbers_set}
use Rattle.turn_lock.proofs.Histories.{seen_all}
use Rattle.turn_lock.proofs.Queue.{queue_set}
use Rattle.turn_lock.proofs.Steps.Parts.{each_set}

module _ {B E D : Type 0} (M : Meanings B E D) where
  -- the view of a seat that is served
  abbrev served_with : View E D → B → View E D
  served_with v d = record v { out = true; seen = M.journal d; looks = v.looks ++ length (M.journal d) ∷ []; next = M.given d }

  served_kept : (s : LockState B E D) (id : ℕ) (v : View E D) (c : List (ℕ × Option B)) (k : IsKept M s) → v.ticket ≡ Some k.served → v.heard ≡ [] → (n : ℕ) → Has v.held n → get_elem? s.views id ≡ some v → (d : B) → IsAtHome M s k.journal k.base k.next d
      → IsKept M (stepped s 1 (slice_index s.words 1) id c (served_with v d) (takes 0 (Some d)))
  served_kept s id v c k turn nothing n holds at d h = record {
    served = k.served;
    drawn = k.drawn;
    journal = k.journal;
    base = k.base;
    next = k.next;
    words = ap (λ (ws : List ℕ). set ws 1 (slice_index ws 1)) k.words;
    queue = queue_set k.served k.drawn s.views id v w k.queue at refl (λ o. turn);
    numbers = numbers_set k.next s.views id v w k.numbers at refl refl;
    each = each_set M k.journal k.base s.views id w k.each fits;
    authors = k.authors;
    lawful = k.lawful;
    value = inr (id, w, record { homes = ap (λ hs. set hs 0 none) h.homes; at = set_here s.views id w (below s.views id v at); has_it = refl; all_seen = h.journal_is; next_is = h.next_is });
  }
    where
      w : View E D
      w = served_with v d

      fits : Fits M.author k.journal k.base w
      fits = let f = k.each id v at in record {
        base_is = f.base_is;
        seen = subst (λ l. IsFollowedByOthers M.author v.held l k.journal) (sym h.journal_is) (seen_all M.author v.held k.journal);
        heard = f.heard;
        out = λ o. (nothing, n, holds);
      }

  -- the words are written as they were, and a view stays
  stays : (s : LockState B E D) (id : ℕ) (v : View E D) (c : List (ℕ × Option B)) (k : IsKept M s) → get_elem? s.views id ≡ some v → IsKept M (stepped s 1 (slice_index s.words 1) id c v keeps)
  stays s id v c k at =
      let same_words : set s.words 1 (slice_index s.words 1) ≡ s.words = ap (λ (ws : List ℕ). set ws 1 (slice_index ws 1)) k.words ∙ sym k.words in
      let same_views : set s.views id v ≡ s.views = set_again s.views id v at in
      let same : stepped s 1 (slice_index s.words 1) id c v keeps ≡ s = λ i. record { words = same_words i; homes = s.homes; views = same_views i } in
      subst (IsKept M) (sym same) k

  -- the ticket whose number is found is the one that is served
  turn_is : (s : LockState B E D) (id : ℕ) (v : View E D) (t : ℕ) (k : IsKept M s) → get_elem? s.views id ≡ some v → v.ticket ≡ Some t → slice_index s.words 1 ≡ t % 2 ^ 64 → t ≡ k.served
  turn_is s id v t k at has found =
      let g = k.queue.between id t v at has in
      let low = g.0 in
      let high = g.1 in
      let many = count_by-le-length has_ticket s.views in
      let few = k.numbers.few in
      let bound = k.numbers.bound in
      let sum = k.queue.tickets in
      let near : t < k.served + 2 ^ 64 = omega (arith, high, many, few, bound, sum) in
      sym (one_turn k.served t (2 ^ 64) low near (sym (ap (λ ws. slice_index ws 1) k.words) ∙ found))

  -- where a waiting view's ticket is served, the value is at home
  at_home : (s : LockState B E D) (id : ℕ) (v : View E D) (k : IsKept M s) → get_elem? s.views id ≡ some v → v.ticket ≡ Some k.served → v.out ≡ false → (d : B) × IsAtHome M s k.journal k.base k.next d
  at_home s id v k at turn not_out = ⊎_elim (λ h. h)
      (λ o.
      let same = k.queue.apart o.0 id k.served o.1 v o.2.at at (k.queue.first o.0 o.1 o.2.at o.2.has_it) turn in
      absurd (not_both v.out (ap (λ (u : View E D). u.out) (sym (same_item s.views o.0 id o.1 v same o.2.at at)) ∙ o.2.has_it) not_out))
      k.value

  -- what a load of the second word asks
  pub look_allowed : (slots id : ℕ) (v : View E D) (c : List (ℕ × Option B)) (t : ℕ) → v.ticket ≡ Some t → v.out ≡ false → v.heard ≡ [] → (n : ℕ) → Has v.held n
      → Allows (IsKept M) slots id (v, c) 1 (λ n. n) (Looked M (step slots 1 0 0 none) (v, c))
  look_allowed slots id v c t has not_out nothing n holds s k len at lt = by_test (eqb (slice_index s.words 1) (t % 2 ^ 64)) refl
    where
      Goal : Type 0
      Goal = (w : View E D) × (a : Act (Option B)) × Valid s.homes c a × IsKept M (stepped s 1 (slice_index s.words 1) id c w a) × Looked M (step slots 1 0 0 none) (v, c) (slice_index s.words 1) (w, carried_after c a)

      told : (b : Bool) (after : Me (Option B) (View E D)) → eqb (slice_index s.words 1) (t % 2 ^ 64) ≡ b → MatchBool b (IsServed M (v, c) after) (after ≡ (v, c)) → Looked M (step slots 1 0 0 none) (v, c) (slice_index s.words 1) after
      told b after e m u p =
          let same : t ≡ u = same_Some t u (sym has ∙ p) in
          subst (λ n. MatchBool (eqb (slice_index s.words 1) (n % 2 ^ 64)) (IsServed M (v, c) after) (after ≡ (v, c))) same (subst (λ x. MatchBool x (IsServed M (v, c) after) (after ≡ (v, c))) (sym e) m)

      taken : (d : B) → IsAtHome M s k.journal k.base k.next d → v.ticket ≡ Some k.served → eqb (slice_index s.words 1) (t % 2 ^ 64) ≡ true → Goal
      taken d h turn e =
          let f = k.each id v at in (
            served_with v d,
            takes 0 (Some d),
            ap (λ hs. get_elem? hs 0) h.homes,
            served_kept s id v c k turn nothing n holds at d h,
            told true (served_with v d, (0, Some d) ∷ c) e (record {
              value = d;
              me_is = refl;
              longer = (f.seen.0, h.journal_is ∙ f.seen.1, f.seen.2);
              base_is = λ b p. h.base_is ∙ f.base_is b p;
              known_below = λ m g. subst (λ x. m < x) (sym h.next_is) (has_either v.held v.kin m (λ a. below_next k.next s.views k.numbers id m v at a) (λ a. k.numbers.kin_below id m v at a) g);
              authors_below = subst (AllByRecursion (λ e. M.author e < M.given d)) (sym h.journal_is) (subst (λ x. AllByRecursion (λ e. M.author e < x) k.journal) (sym h.next_is) k.authors);
            }),
          )

      by_test : (b : Bool) → eqb (slice_index s.words 1) (t % 2 ^ 64) ≡ b → Goal
      by_test true e =
          let turn : v.ticket ≡ Some k.served = has ∙ ap Some (turn_is s id v t k at has (eqb-true (slice_index s.words 1) (t % 2 ^ 64) e)) in
          let home = at_home s id v k at turn not_out in
          taken home.0 home.1 turn e
      by_test false e = (v, keeps, tt, stays s id v c k at, told false (v, c) e refl)
