-- Names are compared alike from either side.
use Rattle.std.proofs.Common.{◌≡◌, ℕ, true, false, List, refl, sym, ◌∙◌, inl, inr, None}
use Rattle.std.specs.Prelude.{codes}
use Rattle.std.specs.Str.{bytes_eq}
use Rattle.std.proofs.lemmas.Bool.{cases_Bool}
use Rattle.std.proofs.lemmas.Slice.Eq.{bytes_eq-Decides}
use Rattle.cal_model.specs.Objects.ComponentLines.{kind_named}

same_text : (one other : List ℕ) → bytes_eq one other ≡ true → one ≡ other
same_text one other same = (bytes_eq-Decides one other).0 same

text_same : (one other : List ℕ) → one ≡ other → bytes_eq one other ≡ true
text_same one other same = (bytes_eq-Decides one other).1 same

pub bytes_eq_sym : (one other : List ℕ) → bytes_eq one other ≡ bytes_eq other one
bytes_eq_sym one other = elim (cases_Bool (bytes_eq one other)) [
  | inl same ↦ same ∙ sym (text_same other one (sym (same_text one other same)))
  | inr apart ↦ elim (cases_Bool (bytes_eq other one)) [
    | inl same ↦ text_same one other (sym (same_text other one same)) ∙ sym same
    | inr other_apart ↦ apart ∙ sym other_apart
  ]
]

-- a name that is none of the four is of no kind
pub kind_named-none : (name : List ℕ) → bytes_eq name (codes "VEVENT") ≡ false → bytes_eq name (codes "VTODO") ≡ false → bytes_eq name (codes "VJOURNAL") ≡ false →
    bytes_eq name (codes "VFREEBUSY") ≡ false → None ≡ kind_named name
kind_named-none name event todo journal busy =
    rw (bytes_eq_sym (codes "VEVENT") name ∙ event, bytes_eq_sym (codes "VTODO") name ∙ todo, bytes_eq_sym (codes "VJOURNAL") name ∙ journal, bytes_eq_sym (codes "VFREEBUSY") name ∙ busy) refl
