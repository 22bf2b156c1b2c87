-- Onsets in their order make a table of a zone.
use Rattle.std.proofs.Common.{◌≡◌, ℕ, zero, suc, ◌+◌, ◌<◌, List, [], ◌∷◌, ◌++◌, length, get_or, sym, subst, arith}
use Rattle.std.specs.Prelude.{All, AllPairs, ◌<ℤ◌, pos}
use Rattle.std.proofs.lemmas.Int.{ints}
use Rattle.std.proofs.lemmas.List.Quantifiers.{all_pairs_push}
use Rattle.std.proofs.lemmas.List.Elements.{All-nil, All-cons, All-append, All-weaker}
use Rattle.cal_model.specs.declared.zone.Onset.{Onset}
use Rattle.cal_model.specs.declared.zone.ZoneTable.{ZoneTable}
use Rattle.cal_model.specs.TimeZones.TableBounds.{IsRising, IsOffset, IsTable}

rises : (a b : Onset) → a.at.0 <ℤ b.at.0 → (i j : ℕ) (d : Onset) → i < j → j < length (a ∷ b ∷ []) → (get_or (a ∷ b ∷ []) i d).at.0 <ℤ (get_or (a ∷ b ∷ []) j d).at.0
rises a b h zero zero d below within = absurd (omega (arith, below))
rises a b h zero (suc zero) d below within = h
rises a b h zero (suc (suc j)) d below within = absurd (omega (arith, within))
rises a b h (suc i) j d below within = absurd (omega (arith, below, within))

abbrev offset_is : Onset → Type 0
offset_is o = IsOffset o.offset

pub IsTable-two : (table : ZoneTable) (a b : Onset) → table.onsets ≡ a ∷ b ∷ [] → a.at.0 <ℤ b.at.0 → IsOffset table.before → IsOffset a.offset → IsOffset b.offset → IsTable table
IsTable-two table a b two order before first second = record {
  rising = subst IsRising (sym two) (record { each = rises a b order });
  before = before;
  offsets = subst (All offset_is) (sym two) (All-cons offset_is a (b ∷ []) first (All-cons offset_is b [] second (All-nil offset_is)));
}

-- onsets in their order that lie before a second, with offsets of less than a day
pub record RisesBelow (onsets : List Onset) (n : ℕ) : Type 0 where
  pub rising : AllPairs (λ (a b : Onset). a.at.0 <ℤ b.at.0) onsets
  pub past : All (λ (o : Onset). o.at.0 <ℤ pos n) onsets
  pub offsets : All offset_is onsets

pub RisesBelow-none : (onsets : List Onset) → onsets ≡ [] → RisesBelow onsets 0
RisesBelow-none onsets none = subst (λ (xs : List Onset). RisesBelow xs 0) (sym none) (record {
  rising = λ i j d lt below. absurd (omega (arith, below));
  past = All-nil (λ (o : Onset). o.at.0 <ℤ pos 0);
  offsets = All-nil offset_is;
})

-- one more at that second
pub RisesBelow-push : (onsets more : List Onset) (n : ℕ) (o : Onset) → RisesBelow onsets n → o.at.0 ≡ pos n → IsOffset o.offset → more ≡ onsets ++ o ∷ [] → RisesBelow more (n + 1)
RisesBelow-push onsets more n o h at offset same = subst (λ (xs : List Onset). RisesBelow xs (n + 1)) (sym same) (record {
  rising = all_pairs_push (λ (a b : Onset). a.at.0 <ℤ b.at.0) onsets o h.rising (λ k d lt. let below = h.past k d lt in omega (arith, ints, below, at));
  past = All-append (λ (x : Onset). x.at.0 <ℤ pos (n + 1)) onsets (o ∷ []) (All-weaker (λ (x : Onset). x.at.0 <ℤ pos n) (λ (x : Onset). x.at.0 <ℤ pos (n + 1)) (λ x lt. omega (arith, ints, lt)) onsets h.past) (All-cons (λ (x : Onset). x.at.0 <ℤ pos (n + 1)) o [] (omega (arith, ints, at)) (All-nil (λ (x : Onset). x.at.0 <ℤ pos (n + 1))));
  offsets = All-append offset_is onsets (o ∷ []) h.offsets (All-cons offset_is o [] offset (All-nil offset_is));
})

pub IsTable-rising : (table : ZoneTable) (n : ℕ) → RisesBelow table.onsets n → IsOffset table.before → IsTable table
IsTable-rising table n h before = record { rising = record { each = h.rising }; before = before; offsets = h.offsets }
