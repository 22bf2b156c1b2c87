-- When two onsets are the same.
use Rattle.std.proofs.Common.{◌≡◌, ◌&&◌, ap, ap₂, Decides}
use Rattle.std.specs.Ordering.{int_eq}
use Rattle.std.proofs.lemmas.Bool.Decides.{Decides-and, Decides-like, Decides-int_eq}
use Rattle.cal_model.specs.declared.zone.Onset.{Onset}

pub same_onset : (a b : Onset) → Decides (int_eq a.at.0 b.at.0 && int_eq a.offset b.offset) (a ≡ b)
same_onset a b =
    Decides-like (int_eq a.at.0 b.at.0 && int_eq a.offset b.offset)
    (λ same. ap₂ (λ at offset. record { at = record { 0 = at }; offset = offset }) same.0 same.1)
    (λ same. (ap (λ (o : Onset). o.at.0) same, ap (λ (o : Onset). o.offset) same))
    (Decides-and _ _ (Decides-int_eq a.at.0 b.at.0) (Decides-int_eq a.offset b.offset))
