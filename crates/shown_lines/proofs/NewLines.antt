-- New lines: what stands before their colon, and their texts.
use Rattle.std.proofs.Common.{◌≡◌, ℕ, Bool, true, false, List, [], ◌∷◌, ◌++◌, refl, sym, append_assoc, ℤ}
use Rattle.std.specs.Prelude.{if◌then◌else◌, codes}
use Rattle.cal_base.specs.Texts.Octets.{colon}
use Rattle.cal_base.specs.Lines.ContentLines.{is_name}
use Rattle.cal_model.specs.declared.row.RowKind.{RowKind}
use Rattle.cal_model.specs.declared.row.RowKind.TheVariants.{Instant, Floating, Date, Undated}
use Rattle.cal_model.specs.Selections.RowLines.{is_date_kind, value_text, new_line}
use Rattle.shown_lines.specs.Heads.{IsHead}
use Rattle.shown_lines.proofs.LineHeads.{head-name, head-date}

abbrev pub HeadOf : List ℕ → Type 0
HeadOf text = (head : List ℕ) × (text ≡ head ++ colon ∷ []) × IsHead head

-- the text of a new line up to its colon, with the colon
abbrev pub new_front : List ℕ → Bool → List ℕ
new_front name dated = name ++ (if dated then codes ";VALUE=DATE:" else codes ":")

pub new-head : (name : List ℕ) (dated : Bool) → is_name name ≡ true → HeadOf (new_front name dated)
new-head name true is = (name ++ codes ";VALUE=DATE", sym (append_assoc name (codes ";VALUE=DATE") (colon ∷ [])), head-date name is)
new-head name false is = (name, refl, head-name name is)

pub new_line-raw : (name : List ℕ) (kind : RowKind) (seconds : ℤ) → (new_line name kind seconds).raw ≡ new_front name (is_date_kind kind) ++ value_text kind seconds
new_line-raw name Date seconds = sym (append_assoc name (codes ";VALUE=DATE:") (value_text Date seconds))
new_line-raw name Instant seconds = sym (append_assoc name (codes ":") (value_text Instant seconds))
new_line-raw name Floating seconds = sym (append_assoc name (codes ":") (value_text Floating seconds))
new_line-raw name Undated seconds = sym (append_assoc name (codes ":") (value_text Undated seconds))

pub new_line-value : (name : List ℕ) (kind : RowKind) (seconds : ℤ) → (new_line name kind seconds).value ≡ value_text kind seconds
new_line-value name Date seconds = refl
new_line-value name Instant seconds = refl
new_line-value name Floating seconds = refl
new_line-value name Undated seconds = refl
