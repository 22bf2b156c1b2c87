-- What the steps share: views that a step leaves as they are, and where the value is.
use Rattle.std.proofs.Common.{◌≡◌, ℕ, ◌<◌, ◌≢◌, ◌⊎◌, inl, inr, ⊎_elim, sym, ap, subst, ◌∙◌, List, [], ◌∷◌, set, true, false, Option, Some, None}
use Rattle.std.specs.List.{AllByRecursion}
use mathlib.Core.Option.{some, none}
use lib.ListN.{get_elem?}
use Rattle.atomic_table.proofs.Lists.{at_set, set_else}
use Rattle.turn_lock.specs.declared.view.View.{View}
use Rattle.turn_lock.specs.Numbers.{Has}
use Rattle.turn_lock.specs.Journals.{IsFollowedByOthers}
use Rattle.turn_lock.specs.Rule.{LockState, Meanings, IsKept, Fits, IsAtHome, IsOut}
use Rattle.turn_lock.specs.Plays.{HoldsAll}
use Rattle.turn_lock.proofs.Views.{same_item, not_both}
use Rattle.turn_lock.proofs.Numbering.{holds_each}
use Rattle.turn_lock.proofs.Histories.{all_as}

module _ {B : Type 0} where
  -- what a seat took last
  abbrev pub held_slot : List (ℕ × Option B) → Option B
  held_slot [] = None
  held_slot (x ∷ xs) = x.1

pub all_true : {X : Type 0} (P : X → Type 0) (xs : List X) → ((x : X) → P x) → AllByRecursion P xs
all_true P [] f = tt
all_true P (x ∷ xs) f = (f x, all_true P xs f)

module _ {B E D : Type 0} (M : Meanings B E D) where
  abbrev pub Heard : List E → D → List ℕ → List ℕ × List E × Option D → Type 0
  Heard journal base held p = IsFollowedByOthers M.author p.0 p.1 journal × ((n : ℕ) → Has p.0 n → Has held n) × ((b : D) → p.2 ≡ Some b → base ≡ b)

  abbrev pub Fitting : List E → D → List (View E D) → Type 0
  Fitting journal base views = (i : ℕ) (v : View E D) → get_elem? views i ≡ some v → Fits M.author journal base v

  abbrev pub IsSomewhere : LockState B E D → List E → D → ℕ → Type 0
  IsSomewhere s journal base next = ((value : B) × IsAtHome M s journal base next value) ⊎ ((i : ℕ) × (v : View E D) × IsOut M s journal next i v)

  pub each_set : (journal : List E) (base : D) (views : List (View E D)) (id : ℕ) (w : View E D) → Fitting journal base views → Fits M.author journal base w → Fitting journal base (set views id w)
  each_set journal base views id w each fits i x e = ⊎_elim (λ m. subst (Fits M.author journal base) m.1 fits) (λ m. each i x m.1) (at_set views id i w x e)

  -- a step of a seat that hasn't the value out leaves it where it is
  pub value_set : (s s' : LockState B E D) (journal : List E) (base : D) (next id : ℕ) (v w : View E D) → s'.homes ≡ s.homes → s'.views ≡ set s.views id w → get_elem? s.views id ≡ some v → v.out ≡ false → w.out ≡ false → IsSomewhere s journal base next → IsSomewhere s' journal base next
  value_set s s' journal base next id v w hs vs at not_out still h = ⊎_elim (λ a. inl (a.0, home a.0 a.1)) (λ o. inr (o.0, o.1, out o.0 o.1 o.2)) h
    where
      home : (value : B) → IsAtHome M s journal base next value → IsAtHome M s' journal base next value
      home value a = record {
        homes = hs ∙ a.homes;
        journal_is = a.journal_is;
        base_is = a.base_is;
        next_is = a.next_is;
        nobody = λ i x e. ⊎_elim (λ m. ap (λ (u : View E D). u.out) (sym m.1) ∙ still) (λ m. a.nobody i x m.1) (at_set s.views id i w x (ap (λ l. get_elem? l i) (sym vs) ∙ e));
      }

      out : (i : ℕ) (x : View E D) → IsOut M s journal next i x → IsOut M s' journal next i x
      out i x o =
          let apart : i ≢ id = λ e. not_both v.out (ap (λ (u : View E D). u.out) (sym (same_item s.views i id x v e o.at at)) ∙ o.has_it) not_out in
          record { homes = hs ∙ o.homes; at = ap (λ l. get_elem? l i) vs ∙ (set_else s.views id i w apart ∙ o.at); has_it = o.has_it; all_seen = o.all_seen; next_is = o.next_is }

  -- what a view that has the value out knows
  pub record Away (s : LockState B E D) (v : View E D) (k : IsKept M s) : Type 0 where
    pub turn : v.ticket ≡ Some k.served
    pub homes : s.homes ≡ none ∷ []
    pub all_seen : v.seen ≡ k.journal
    pub next_is : v.next ≡ k.next

  pub away_of : (s : LockState B E D) (id : ℕ) (v : View E D) (k : IsKept M s) → v.out ≡ true → get_elem? s.views id ≡ some v → Away s v k
  away_of s id v k has_it at = record { turn = turn; homes = away.2.homes; all_seen = ap (λ (u : View E D). u.seen) (sym same) ∙ away.2.all_seen; next_is = ap (λ (u : View E D). u.next) (sym same) ∙ away.2.next_is }
    where
      turn : v.ticket ≡ Some k.served
      turn = k.queue.first id v at has_it

      away : (i : ℕ) × (x : View E D) × IsOut M s k.journal k.next i x
      away = ⊎_elim (λ h. absurd (not_both v.out has_it (h.1.nobody id v at))) (λ o. o) k.value

      here : away.0 ≡ id
      here = k.queue.apart away.0 id k.served away.1 v away.2.at at (k.queue.first away.0 away.1 away.2.at away.2.has_it) turn

      same : away.1 ≡ v
      same = same_item s.views away.0 id away.1 v here away.2.at at

  -- a whole view holds the number of each entry of the journal
  pub holds_authors : (s : LockState B E D) (id : ℕ) (v : View E D) (k : IsKept M s) → get_elem? s.views id ≡ some v → HoldsAll v.held v.kin → AllByRecursion (λ e. Has v.held (M.author e)) k.journal
  holds_authors s id v k at all = all_as (λ (e : E). M.author e < k.next) (λ (e : E). Has v.held (M.author e)) k.journal (λ e lt. holds_each k.next s.views k.numbers id v at all (M.author e) lt) k.authors
