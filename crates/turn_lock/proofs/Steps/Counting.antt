-- Counting an entry keeps the rule.
use Rattle.std.proofs.Common.{◌≡◌, ℕ, ◌+◌, ◌%◌, ◌^◌, ◌<◌, ◌≢◌, inr, ⊎_elim, arith, refl, sym, ap, subst, ◌∙◌, List, [], ◌∷◌, ◌++◌, length, take, set, true, Option, Some, slice_index}
use Rattle.std.proofs.Math.Nat.{mod-add-mod}
use Rattle.std.proofs.lemmas.List.{length-append}
use Rattle.std.proofs.Math.Seq.{take-append_seam}
use Rattle.std.proofs.lemmas.Option.{same_Some}
use Rattle.std.specs.List.{AllByRecursion}
use mathlib.Core.Option.{some, none}
use mathlib.Core.Logic.{dite}
use native.Mathlib.Decide.{dec_le}
use lib.ListN.{get_elem?}
use Rattle.atomic_table.specs.Table.{Me, step, keeps, Allows, stepped}
use Rattle.atomic_table.proofs.Lists.{at_set, set_here}
use Rattle.turn_lock.specs.declared.view.View.{View}
use Rattle.turn_lock.specs.Numbers.{times, Has}
use Rattle.turn_lock.specs.Journals.{IsFollowedByOthers}
use Rattle.turn_lock.specs.Rule.{LockState, Meanings, IsKept, Fits}
use Rattle.turn_lock.specs.Plays.{Counted}
use Rattle.turn_lock.proofs.Views.{below}
use Rattle.turn_lock.proofs.Numbering.{below_next, elsewhere, numbers_set}
use Rattle.turn_lock.proofs.Histories.{all_both, all_as, seen_all, seen_more}
use Rattle.turn_lock.proofs.Queue.{queue_set}
use Rattle.turn_lock.proofs.Steps.Parts.{away_of, Away, Heard, held_slot}

module _ {B E D : Type 0} (M : Meanings B E D) where
  -- the view of a seat that counted
  abbrev counted_with : View E D → List E → View E D
  counted_with v more = record v { seen = more }

  counted_kept : (s : LockState B E D) (id : ℕ) (v : View E D) (c : List (ℕ × Option B)) (k : IsKept M s) (e : E) → v.out ≡ true → get_elem? s.views id ≡ some v → Has v.held (M.author e) → M.lawful k.base (k.journal ++ e ∷ []) ≡ true
      → IsKept M (stepped s 2 ((slice_index s.words 2 + 1) % 2 ^ 64) id c (counted_with v (v.seen ++ e ∷ [])) keeps)
  counted_kept s id v c k e has_it at own lawful = record {
    served = k.served;
    drawn = k.drawn;
    journal = k.journal ++ e ∷ [];
    base = k.base;
    next = k.next;
    words = ap (λ (ws : List ℕ). set ws 2 ((slice_index ws 2 + 1) % 2 ^ 64)) k.words ∙ ap (λ n. k.drawn % 2 ^ 64 ∷ k.served % 2 ^ 64 ∷ n ∷ []) (mod-add-mod (length k.journal) (2 ^ 64) 1 ∙ ap (λ n. n % 2 ^ 64) (sym (length-append k.journal (e ∷ []))));
    queue = queue_set k.served k.drawn s.views id v w k.queue at refl (λ o. away.turn);
    numbers = numbers_set k.next s.views id v w k.numbers at refl refl;
    each = λ j x a. ⊎_elim (λ m. subst (Fits M.author (k.journal ++ e ∷ []) k.base) m.1 fits) (λ m. other j x m.0 m.1) (at_set s.views id j w x a);
    authors = all_both (λ (x : E). M.author x < k.next) k.journal (e ∷ []) k.authors (below_next k.next s.views k.numbers id (M.author e) v at own, tt);
    lawful = lawful;
    value = inr (id, w, record { homes = away.homes; at = set_here s.views id w (below s.views id v at); has_it = has_it; all_seen = ap (λ (l : List E). l ++ e ∷ []) away.all_seen; next_is = away.next_is });
  }
    where
      w : View E D
      w = counted_with v (v.seen ++ e ∷ [])

      away : Away M s v k
      away = away_of M s id v k has_it at

      fits : Fits M.author (k.journal ++ e ∷ []) k.base w
      fits = let f = k.each id v at in record {
        base_is = f.base_is;
        seen = subst (λ l. IsFollowedByOthers M.author v.held (v.seen ++ e ∷ []) (l ++ e ∷ [])) away.all_seen (seen_all M.author v.held (v.seen ++ e ∷ []));
        heard = subst (AllByRecursion (Heard M (k.journal ++ e ∷ []) k.base v.held)) (sym (f.out has_it).0) tt;
        out = f.out;
      }

      other : (j : ℕ) (x : View E D) → j ≢ id → get_elem? s.views j ≡ some x → Fits M.author (k.journal ++ e ∷ []) k.base x
      other j x apart a =
          let f = k.each j x a in
          let lacks : times (M.author e) x.held ≡ 0 = elsewhere k.next s.views k.numbers id j (M.author e) v x at a apart own in
          let lacks_too : (ns : List ℕ) → ((n : ℕ) → Has ns n → Has x.held n) → times (M.author e) ns ≡ 0 =
          λ ns within. dite (dec_le 1 (times (M.author e) ns)) (λ h. let g = within (M.author e) (omega (arith, h)) in absurd (omega (arith, g, lacks))) (λ h. omega (arith, h)) in
          record {
            base_is = f.base_is;
            seen = seen_more M.author x.held x.seen k.journal e lacks f.seen;
            heard = all_as (Heard M k.journal k.base x.held) (Heard M (k.journal ++ e ∷ []) k.base x.held) x.heard (λ p h. (seen_more M.author p.0 p.1 k.journal e (lacks_too p.0 h.1) h.0, h.1, h.2)) f.heard;
            out = f.out;
          }

  -- what `fetch_add` on the third word asks
  pub count_allowed : ((b : D) (xs ys : List E) → M.lawful b (xs ++ ys) ≡ true → M.lawful b xs ≡ true) → (slots id : ℕ) (v : View E D) (c : List (ℕ × Option B)) (d : B) (e : E) (rest : List E) (b : D)
      → v.out ≡ true → c ≡ (0, Some d) ∷ [] → M.journal d ≡ (v.seen ++ e ∷ []) ++ rest → Has v.held (M.author e) → v.base ≡ Some b → M.lawful b (M.journal d) ≡ true
      → Allows (IsKept M) slots id (v, c) 2 (λ n. (n + 1) % 2 ^ 64) (Counted M (step slots 2 1 0 none) (v, c))
  count_allowed law slots id v c d e rest b has_it holds is own based lawful s k len at lt =
      (counted_with v (v.seen ++ e ∷ []), keeps, tt, counted_kept s id v c k e has_it at own still, told)
    where
      still : M.lawful k.base (k.journal ++ e ∷ []) ≡ true
      still =
          let before : M.lawful b (v.seen ++ e ∷ []) ≡ true = law b (v.seen ++ e ∷ []) rest (subst (λ l. M.lawful b l ≡ true) is lawful) in
          let there : M.lawful b (k.journal ++ e ∷ []) ≡ true = subst (λ l. M.lawful b (l ++ e ∷ []) ≡ true) (away_of M s id v k has_it at).all_seen before in
          subst (λ x. M.lawful x (k.journal ++ e ∷ []) ≡ true) (sym ((k.each id v at).base_is b based)) there

      told : (x : B) → c ≡ (0, Some x) ∷ [] → ◌≡◌ {A = Me (Option B) (View E D)} (counted_with v (v.seen ++ e ∷ []), c) (counted_with v (take (length v.seen + 1) (M.journal x)), c)
      told x p =
          let same : d ≡ x = same_Some d x (ap held_slot (sym holds ∙ p)) in
          let cut : take (length v.seen + 1) (M.journal d) ≡ v.seen ++ e ∷ [] =
          ap (take (length v.seen + 1)) is ∙ (ap (λ n. take n ((v.seen ++ e ∷ []) ++ rest)) (sym (length-append v.seen (e ∷ []))) ∙ take-append_seam (v.seen ++ e ∷ []) rest) in
          let all : v.seen ++ e ∷ [] ≡ take (length v.seen + 1) (M.journal x) = sym cut ∙ ap (λ y. take (length v.seen + 1) (M.journal y)) same in
          λ i. (counted_with v (all i), c)
