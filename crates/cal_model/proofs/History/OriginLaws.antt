-- The origins that a store keeps are those of the journal's live objects, whatever entry comes next.
use Rattle.std.proofs.Common.{◌≡◌, ℕ, ◌<◌, ◌≤◌, Bool, true, false, List, [], ◌∷◌, ◌++◌, length, Option, Some, None, refl, sym, ap, ◌∙◌, subst, arith, ◌⊎◌, inl, inr}
use Rattle.std.specs.Prelude.{bytes_eq, slice_get, option_and_then, if◌then◌else◌}
use Rattle.std.proofs.lemmas.Bool.{cases_lt, false≢true, eqb-true, eq-eqb, and_parts, and_from}
use Rattle.std.proofs.lemmas.List.{length-append}
use Rattle.std.proofs.lemmas.Option.{slice_get_within}
use Rattle.std.proofs.lemmas.Slice.Eq.{bytes_eq-Decides}
use Rattle.cal_model.specs.State.Changes.{Change, put, delete_object, delete_calendar, make, patch, acl}
use Rattle.cal_model.specs.History.Journal.{Entry}
use Rattle.cal_model.specs.History.LiveObjects.{Placed, placed_by, placed_at, ends, is_ended, kept_unless, live_at}
use Rattle.cal_model.specs.History.Origins.{Origins, place, origin_of, origins_after, AreLive}
use Rattle.cal_model.proofs.History.LiveObjectLaws.{live_at-push, live_at-last}
use Rattle.cal_model.proofs.History.ReplayLaws.{some≢none}
use Rattle.cal_model.specs.History.HistoryLaws.{OriginsFollow}

-- what a change ends is said by the place alone
ends-place : (change : Change) (placed : Placed) → ends (place placed.home placed.calendar placed.object) change ≡ ends placed change
ends-place (put home calendar object octets) placed = refl
ends-place (delete_object home calendar object) placed = refl
ends-place (delete_calendar home calendar) placed = refl
ends-place (make home calendar sets size) placed = refl
ends-place (patch home calendar sets size) placed = refl
ends-place (acl home calendar grants size) placed = refl

-- what is kept passes the test and was there
kept-some : (test : Placed → Bool) (o : Option Placed) (placed : Placed) → kept_unless test o ≡ Some placed → (o ≡ Some placed) × (test placed ≡ false)
kept-some test None placed e = absurd (some≢none placed (sym e))
kept-some test (Some x) placed e = one (test x) refl e where
  one : (b : Bool) → test x ≡ b → elim b [ true ↦ None | false ↦ Some x ] ≡ Some placed → (Some x ≡ Some placed) × (test placed ≡ false)
  one true t e = absurd (some≢none placed (sym e))
  one false t e = (e, subst (λ (o : Option Placed). tested o ≡ false) e t) where
    tested : Option Placed → Bool
    tested None = false
    tested (Some y) = test y

-- a live object is one of an entry
pub live_within : (journal : List Entry) (n : ℕ) (placed : Placed) → live_at journal n ≡ Some placed → n < length journal
live_within journal n placed e = found (slice_get journal n) refl (kept-some (is_ended journal n) (placed_at journal n) placed e).0 where
  found : (o : Option Entry) → slice_get journal n ≡ o → option_and_then (λ (entry : Entry). placed_by entry.change) (slice_get journal n) ≡ Some placed → n < length journal
  found None s e = absurd (some≢none placed (sym e ∙ ap (option_and_then (λ (entry : Entry). placed_by entry.change)) s))
  found (Some entry) s e = slice_get_within journal n entry s

same_octets : (name : List ℕ) → bytes_eq name name ≡ true
same_octets name = (bytes_eq-Decides name name).1 refl

if-false : {X : Type 0} (test : Bool) (x y : X) → test ≡ false → (if test then x else y) ≡ y
if-false true x y e = absurd (false≢true (sym e))
if-false false x y e = refl

if-true : {X : Type 0} (test : Bool) (x y : X) → test ≡ true → (if test then x else y) ≡ x
if-true true x y e = refl
if-true false x y e = absurd (false≢true e)

-- what an entry makes has its origin
made : (change : Change) (n : ℕ) (origins : Origins) (placed : Placed) → placed_by change ≡ Some placed → origins_after change n origins placed.home placed.calendar placed.object ≡ Some n
made (put home calendar object octets) n origins placed e =
    subst (λ (o : Option Placed). origin_at o ≡ Some n) e
    (if-true _ _ _ (and_from _ _ (and_from _ _ (eq-eqb home home refl) (same_octets calendar)) (same_octets object))) where
      origin_at : Option Placed → Option ℕ
      origin_at None = None
      origin_at (Some p) = origins_after (put home calendar object octets) n origins p.home p.calendar p.object
made (delete_object home calendar object) n origins placed e = absurd (some≢none placed (sym e))
made (delete_calendar home calendar) n origins placed e = absurd (some≢none placed (sym e))
made (make home calendar sets size) n origins placed e = absurd (some≢none placed (sym e))
made (patch home calendar sets size) n origins placed e = absurd (some≢none placed (sym e))
made (acl home calendar grants size) n origins placed e = absurd (some≢none placed (sym e))

-- what a change makes at a place that it ends is what was put there
remade : (change : Change) (n m : ℕ) (home : ℕ) (calendar object : List ℕ) → ends (place home calendar object) change ≡ true → origin_of change n ≡ Some m
    → (n ≡ m) × ((octets : List ℕ) × (placed_by change ≡ Some (record { home = home; calendar = calendar; object = object; octets = octets })))
remade (put home' calendar' object' octets) n m home calendar object ended e =
    let outer = and_parts _ _ ended in
    let inner = and_parts _ _ outer.0 in
    let same_home : home ≡ home' = eqb-true home home' inner.0 in
    let same_calendar = (bytes_eq-Decides calendar calendar').0 inner.1 in
    let same_object = (bytes_eq-Decides object object').0 outer.1 in
    (ap (number n) e, (octets, λ i. Some (record { home = sym same_home i; calendar = sym same_calendar i; object = sym same_object i; octets = octets }))) where
      number : ℕ → Option ℕ → ℕ
      number other None = other
      number other (Some k) = k
remade (delete_object home' calendar' object') n m home calendar object ended e = absurd (some≢none m (sym e))
remade (delete_calendar home' calendar') n m home calendar object ended e = absurd (some≢none m (sym e))
remade (make home' calendar' sets size) n m home calendar object ended e = absurd (some≢none m (sym e))
remade (patch home' calendar' sets size) n m home calendar object ended e = absurd (some≢none m (sym e))
remade (acl home' calendar' grants size) n m home calendar object ended e = absurd (some≢none m (sym e))

kept-false : (test : Placed → Bool) (placed : Placed) → test placed ≡ false → kept_unless test (Some placed) ≡ Some placed
kept-false test placed e = rw (e, kept_unless) refl

-- One more entry: the origins that a store has after its change are again those of the journal.
pub AreLive-push : (journal : List Entry) (entry : Entry) (origins : Origins) → AreLive journal origins → AreLive (journal ++ entry ∷ []) (origins_after entry.change (length journal) origins)
AreLive-push journal entry origins known = record {
  live = λ n placed e. at_place n placed e (nat_place n (length journal));
  known = λ home calendar object n e. by_end home calendar object n (ends (place home calendar object) entry.change) refl e;
} where
  behind : (n m : ℕ) → (m < n) ⊎ (n ≤ m) → m ≤ n → (n ≡ m) ⊎ (m < n)
  behind n m (inl past) least = inr past
  behind n m (inr most) least = inl (omega (arith, most, least))

  place_of : (n m : ℕ) → (n < m) ⊎ (m ≤ n) → (n < m) ⊎ ((n ≡ m) ⊎ (m < n))
  place_of n m (inl before) = inl before
  place_of n m (inr least) = inr (behind n m (cases_lt m n) least)

  nat_place : (n m : ℕ) → (n < m) ⊎ ((n ≡ m) ⊎ (m < n))
  nat_place n m = place_of n m (cases_lt n m)

  at_place : (n : ℕ) (placed : Placed) → live_at (journal ++ entry ∷ []) n ≡ Some placed → (n < length journal) ⊎ ((n ≡ length journal) ⊎ (length journal < n))
      → origins_after entry.change (length journal) origins placed.home placed.calendar placed.object ≡ Some n
  at_place n placed e (inl before) =
      let kept = kept-some (λ p. ends p entry.change) (live_at journal n) placed (sym (live_at-push journal entry n before) ∙ e) in
      if-false _ _ _ (ends-place entry.change placed ∙ kept.1) ∙ known.live n placed kept.0
  at_place n placed e (inr (inl last)) =
      made entry.change (length journal) origins placed (sym (live_at-last journal entry) ∙ ap (live_at (journal ++ entry ∷ [])) (sym last) ∙ e) ∙ ap Some (sym last)
  at_place n placed e (inr (inr past)) = absurd (omega (arith, past, live_within (journal ++ entry ∷ []) n placed e, length-append journal (entry ∷ [])))

  by_end : (home : ℕ) (calendar object : List ℕ) (n : ℕ) (ended : Bool) → ends (place home calendar object) entry.change ≡ ended
      → origins_after entry.change (length journal) origins home calendar object ≡ Some n
      → (octets : List ℕ) × (live_at (journal ++ entry ∷ []) n ≡ Some (record { home = home; calendar = calendar; object = object; octets = octets }))
  by_end home calendar object n true t e =
      let again = remade entry.change (length journal) n home calendar object t (sym (if-true _ _ _ t) ∙ e) in
      (again.1.0, ap (live_at (journal ++ entry ∷ [])) (sym again.0) ∙ live_at-last journal entry ∙ again.1.1)
  by_end home calendar object n false t e =
      let old = known.known home calendar object n (sym (if-false _ _ _ t) ∙ e) in
      let placed : Placed = record { home = home; calendar = calendar; object = object; octets = old.0 } in (
        old.0,
        live_at-push journal entry n (live_within journal n placed old.1) ∙ ap (kept_unless (λ p. ends p entry.change)) old.1
            ∙ kept-false (λ p. ends p entry.change) placed (sym (ends-place entry.change placed) ∙ t),
      )

pub origins_follow : OriginsFollow
origins_follow = AreLive-push
