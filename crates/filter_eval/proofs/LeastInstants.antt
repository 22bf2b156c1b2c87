-- The least instant of some digits, offset by offset; and the onset at which a gap ends, among those still to come.
use Rattle.std.proofs.Common.{◌≡◌, Bool, true, false, cond, List, [], ◌∷◌, map, length, refl, sym, ap, ◌∙◌, arith, ℤ, pos, ◌-ℤ◌, ◌+ℤ◌, Option, Some, None, inl, inr}
use Rattle.std.specs.Prelude.{filter, int_lt, unwrap_or}
use Rattle.std.proofs.lemmas.Int.{ints}
use Rattle.std.proofs.lemmas.Bool.{cases_Bool}
use Rattle.cal_model.specs.declared.zone.Onset.{Onset}
use Rattle.cal_model.specs.declared.zone.ZoneTable.{ZoneTable}
use Rattle.cal_model.specs.TimeZones.Zones.{instant_of, instants_of, least_or_after_gap, after_gap, onsets_past, offset_at, local_at}
use Rattle.cal_model.specs.Words.Integers.{least_of, same_int}
use Rattle.filter_eval.specs.Instants.{least_there, lesser}

abbrev less : ℤ → ℤ → ℤ
less x z = cond (int_lt x z) x z

less_assoc : (x y z : ℤ) → less x (less y z) ≡ less (less x y) z
less_assoc x y z = elim (cases_Bool (int_lt x y)) [
  | inl xy ↦ elim (cases_Bool (int_lt y z)) [
    | inl yz ↦ (let xz : int_lt x z ≡ true = grind (arith, ints) in rw (xy, yz, xz) (rw xy refl))
    | inr yz ↦ rw (xy, yz) refl
  ]
  | inr xy ↦ elim (cases_Bool (int_lt y z)) [
    | inl yz ↦ rw (xy, yz) (rw xy refl)
    | inr yz ↦ (let xz : int_lt x z ≡ false = grind (arith, ints) in rw (xy, yz, xz) refl)
  ]
]

least_of-less : (x z : ℤ) (xs : List ℤ) → least_of (less x z) xs ≡ less (least_of x xs) z
least_of-less x z [] = refl
least_of-less x z (y ∷ ys) = ap (λ t. least_of t ys) (less_assoc y x z) ∙ least_of-less (less y x) z ys

one_more : (u : ℤ) (us : List ℤ) → least_there (u ∷ us) ≡ lesser (Some u) (least_there us)
one_more u [] = refl
one_more u (v ∷ us) = ap Some (least_of-less v u us)

perhaps_more : (b : Bool) (u : ℤ) (us : List ℤ) → least_there (cond b (u ∷ us) us) ≡ lesser (cond b (Some u) None) (least_there us)
perhaps_more true u us = one_more u us
perhaps_more false u us = refl

lesser_assoc : (a b c : Option ℤ) → lesser (lesser a b) c ≡ lesser a (lesser b c)
lesser_assoc None b c = refl
lesser_assoc (Some x) None c = refl
lesser_assoc (Some x) (Some y) None = refl
lesser_assoc (Some x) (Some y) (Some z) = ap Some (less_assoc z y x)

-- the instants that some offsets make
abbrev pub made_by : ZoneTable → ℤ → List ℤ → List ℤ
made_by table l offsets = filter (λ u. same_int (local_at table u) l) (map (λ o. l -ℤ o) offsets)

abbrev pub offsets_of : List Onset → List ℤ
offsets_of onsets = map (λ (o : Onset). o.offset) onsets

-- the instant that one offset makes, if it has those digits
abbrev pub made_by_one : ZoneTable → ℤ → ℤ → Option ℤ
made_by_one table l offset = cond (same_int (local_at table (l -ℤ offset)) l) (Some (l -ℤ offset)) None

pub least_begun : (table : ZoneTable) (l : ℤ) (least : Option ℤ) → least ≡ made_by_one table l table.before
    → lesser least (least_there (made_by table l (offsets_of table.onsets))) ≡ least_there (instants_of table l)
least_begun table l least is =
    ap (λ o. lesser o (least_there (made_by table l (offsets_of table.onsets)))) is
    ∙ sym (perhaps_more (same_int (local_at table (l -ℤ table.before)) l) (l -ℤ table.before) (made_by table l (offsets_of table.onsets)))

pub least_goes_on : (table : ZoneTable) (l : ℤ) (least next : Option ℤ) (one : Onset) (others : List Onset) (all : Option ℤ)
    → lesser least (least_there (made_by table l (offsets_of (one ∷ others)))) ≡ all → next ≡ made_by_one table l one.offset
    → lesser (lesser least next) (least_there (made_by table l (offsets_of others))) ≡ all
least_goes_on table l least next one others all before is =
    lesser_assoc least next (least_there (made_by table l (offsets_of others)))
    ∙ ap (λ o. lesser least (lesser o (least_there (made_by table l (offsets_of others))))) is
    ∙ ap (lesser least) (sym (perhaps_more (same_int (local_at table (l -ℤ one.offset)) l) (l -ℤ one.offset) (made_by table l (offsets_of others))))
    ∙ before

lesser_none : (least : Option ℤ) → lesser least None ≡ least
lesser_none None = refl
lesser_none (Some x) = refl

pub least_done : (table : ZoneTable) (l : ℤ) (least all : Option ℤ) (rest : List Onset) → length rest ≡ 0 → lesser least (least_there (made_by table l (offsets_of rest))) ≡ all → least ≡ all
least_done table l least all [] none is = sym (lesser_none least) ∙ is
least_done table l least all (one ∷ rest) none is = absurd (omega arith)

least_found : (table : ZoneTable) (l : ℤ) (us : List ℤ) → least_or_after_gap table l us ≡ unwrap_or (least_there us) (after_gap table l (onsets_past table l))
least_found table l [] = refl
least_found table l (u ∷ us) = refl

-- an instant is the least that has the digits, if some has, and else that after the gap
pub instant_of-least : (table : ZoneTable) (l : ℤ) → instant_of table l ≡ unwrap_or (least_there (instants_of table l)) (after_gap table l (onsets_past table l))
unfolding instant_of
instant_of-least table l = least_found table l (instants_of table l)

-- the gap that ends at the first onset which leads past the digits
pub gap_found : (table : ZoneTable) (l : ℤ) (one : Onset) (others past : List Onset) → int_lt l (one.at.0 +ℤ one.offset) ≡ true →
    filter (λ (o : Onset). int_lt l (o.at.0 +ℤ o.offset)) (one ∷ others) ≡ past → l -ℤ offset_at table (one.at.0 -ℤ pos 1) ≡ after_gap table l past
gap_found table l one others past leads is =
    ap (after_gap table l)
    (ap (λ (b : Bool). cond b (one ∷ filter (λ (o : Onset). int_lt l (o.at.0 +ℤ o.offset)) others) (filter (λ (o : Onset). int_lt l (o.at.0 +ℤ o.offset)) others)) (sym leads) ∙ is)

pub found_least : (table : ZoneTable) (l u : ℤ) → Some u ≡ least_there (instants_of table l) → u ≡ instant_of table l
found_least table l u is = ap (λ (o : Option ℤ). unwrap_or o (after_gap table l (onsets_past table l))) is ∙ sym (instant_of-least table l)

pub none_least : (table : ZoneTable) (l : ℤ) → None ≡ least_there (instants_of table l) → after_gap table l (onsets_past table l) ≡ instant_of table l
none_least table l is = ap (λ (o : Option ℤ). unwrap_or o (after_gap table l (onsets_past table l))) is ∙ sym (instant_of-least table l)
