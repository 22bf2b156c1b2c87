-- What a whole pass finds in the slot at the end.
use Rattle.std.proofs.Common.{◌≡◌, ℕ, ⊎_elim, arith, refl, sym, ap, subst, ◌∙◌, List, [], ◌∷◌, ◌++◌, false, Option, Some}
use Rattle.std.proofs.lemmas.List.{append-nil}
use Rattle.std.specs.List.{AllByRecursion}
use mathlib.Core.Option.{some, some-injective}
use lib.ListN.{get_elem?}
use Rattle.turn_lock.specs.declared.view.View.{View}
use Rattle.turn_lock.specs.Numbers.{times, Has}
use Rattle.turn_lock.specs.Rule.{LockState, Meanings, IsKept, Fits, IsOut}
use Rattle.turn_lock.specs.Plays.{HoldsAll}
use Rattle.turn_lock.proofs.Views.{same_item, not_both}
use Rattle.turn_lock.proofs.Numbering.{below_next, one_place, holds_each}
use Rattle.turn_lock.proofs.Histories.{all_second}
use Rattle.turn_lock.proofs.Steps.Parts.{holds_authors}

module _ {B E D : Type 0} (M : Meanings B E D) where
  -- where a whole pass holds no turn, the value is at home, and the pass has seen its journal
  pub whole_home : (s : LockState B E D) (id : ℕ) (v : View E D) → IsKept M s → get_elem? s.views id ≡ some v → v.out ≡ false → HoldsAll v.held v.kin → (d : B) × (s.homes ≡ some (Some d) ∷ []) × (M.journal d ≡ v.seen) × ((b : D) → v.base ≡ Some b → M.base d ≡ b)
  whole_home s id v k at not_out all = ⊎_elim (λ h. (h.0, h.1.homes, h.1.journal_is ∙ all_seen, λ b p. h.1.base_is ∙ f.base_is b p)) (λ o. absurd (nobody o.0 o.1 o.2)) k.value
    where
      f : Fits M.author k.journal k.base v
      f = k.each id v at

      no_rest : (rest : List E) → AllByRecursion (λ e. times (M.author e) v.held ≡ 0) rest → AllByRecursion (λ e. Has v.held (M.author e)) rest → rest ≡ []
      no_rest [] a b = refl
      no_rest (e ∷ es) a b = let p = a.0 in let q = b.0 in absurd (omega (arith, p, q))

      all_seen : k.journal ≡ v.seen
      all_seen =
          let held : AllByRecursion (λ e. Has v.held (M.author e)) (v.seen ++ f.seen.0) = subst (AllByRecursion (λ e. Has v.held (M.author e))) f.seen.1 (holds_authors M s id v k at all) in
          f.seen.1 ∙ (ap (λ l. v.seen ++ l) (no_rest f.seen.0 f.seen.2 (all_second (λ (e : E). Has v.held (M.author e)) v.seen f.seen.0 held)) ∙ append-nil v.seen)

      nobody : (i : ℕ) (x : View E D) → IsOut M s k.journal k.next i x → ⊥
      nobody i x o =
          let holder = (k.each i x o.at).out o.has_it in
          let mine : Has v.held holder.1 = holds_each k.next s.views k.numbers id v at all holder.1 (below_next k.next s.views k.numbers i holder.1 x o.at holder.2) in
          let same = one_place k.next s.views k.numbers i id holder.1 x v o.at at holder.2 mine in
          not_both v.out (ap (λ (u : View E D). u.out) (sym (same_item s.views i id x v same o.at at)) ∙ o.has_it) not_out

  -- what a whole pass finds in the slot at the end
  pub last_value : (s : LockState B E D) (id : ℕ) (v : View E D) (xs : List (Option B)) (r : Option B) → IsKept M s → get_elem? s.views id ≡ some v → v.out ≡ false → HoldsAll v.held v.kin
      → ((k : ℕ) (y : Option B) → get_elem? s.homes k ≡ some (some y) → get_elem? xs k ≡ some y) → get_elem? xs 0 ≡ some r
      → (d : B) × (r ≡ Some d) × (M.journal d ≡ v.seen) × ((b : D) → v.base ≡ Some b → M.base d ≡ b)
  last_value s id v xs r k at not_out all there taken =
      let home = whole_home s id v k at not_out all in
      (home.0, some-injective r (Some home.0) (sym taken ∙ there 0 (Some home.0) (ap (λ hs. get_elem? hs 0) home.1)), home.2, home.3)
