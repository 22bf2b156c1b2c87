-- Lines that an instance gets.
use Rattle.std.proofs.Common.{◌≡◌, ℕ, Bool, true, false, List, [], ◌∷◌, ◌++◌, refl, sym, ap, ◌∙◌, append-nil, append_assoc, inl, inr, arith, w64, to_z, of_z, ℤ}
use Rattle.std.specs.Prelude.{flat_map, if◌then◌else◌, codes}
use Rattle.std.proofs.lemmas.Bool.{cases_Bool, cond-false}
use Rattle.cal_model.proofs.Words.IntegerLemmas.{same_int-true}
use Rattle.std.proofs.lemmas.Int.{ints, to_z-of_z}
use Rattle.cal_moment.specs.Calendar.{IsCalendarMoment}
use Rattle.cal_base.specs.declared.line.Line.{Line}
use Rattle.cal_model.specs.declared.object.Component.{Component}
use Rattle.cal_model.specs.declared.object.Kind.{Kind}
use Rattle.cal_model.specs.declared.object.Kind.TheVariants.{Event, Todo, Journal, FreeBusy}
use Rattle.cal_model.specs.declared.row.Row.{Row}
use Rattle.cal_model.specs.Words.Integers.{same_int}
use Rattle.cal_model.specs.Selections.Expansion.{end_line, end_name}
use Rattle.expand_limit.specs.declared.instance.Instance.{Instance}
use Rattle.expand_limit.specs.InstanceLines.{lines_after_start_by}
use Rattle.overlap_rules.specs.Bounds.{IsNear}
use Rattle.cal_model.specs.declared.row.RowKind.{RowKind}
use Rattle.cal_model.specs.declared.row.RowKind.TheVariants.{Instant, Floating, Date, Undated}
use Rattle.cal_model.specs.Selections.RowLines.{new_line}

pub new_line-name : (name : List ℕ) (kind : RowKind) (seconds : ℤ) → (new_line name kind seconds).name ≡ name
new_line-name name Date seconds = refl
new_line-name name Instant seconds = refl
new_line-name name Floating seconds = refl
new_line-name name Undated seconds = refl

-- what stands behind the start of an instance
abbrev behind_by : Instance → Bool → Bool → List Line
behind_by instance id end =
    if id then new_line (codes "RECURRENCE-ID") instance.row.now.id_kind instance.row.now.id ∷ (if end then end_line instance.component.now instance.row.now ∷ [] else []) else []

pub behind-id : (text : Line → List ℕ) (out : List ℕ) (instance : Instance) → instance.shows_id ≡ true → instance.shows_end ≡ false
    → out ++ text (new_line (codes "RECURRENCE-ID") instance.row.now.id_kind instance.row.now.id) ≡ out ++ flat_map text (lines_after_start_by instance)
behind-id text out instance id end =
    let line = new_line (codes "RECURRENCE-ID") instance.row.now.id_kind instance.row.now.id in
    ap (λ those. out ++ those) (sym (ap (λ b. flat_map text (behind_by instance b instance.shows_end)) id ∙ ap (λ b. flat_map text (behind_by instance true b)) end ∙ append-nil (text line)))

pub behind-both : (text : Line → List ℕ) (out : List ℕ) (instance : Instance) → instance.shows_id ≡ true → instance.shows_end ≡ true
    → (out ++ text (new_line (codes "RECURRENCE-ID") instance.row.now.id_kind instance.row.now.id)) ++ text (end_line instance.component.now instance.row.now) ≡ out ++ flat_map text (lines_after_start_by instance)
behind-both text out instance id end =
    let line = new_line (codes "RECURRENCE-ID") instance.row.now.id_kind instance.row.now.id in
    let last = end_line instance.component.now instance.row.now in
    append_assoc out (text line) (text last)
    ∙ ap (λ those. out ++ those) (sym (ap (λ b. flat_map text (behind_by instance b instance.shows_end)) id ∙ ap (λ b. flat_map text (behind_by instance true b)) end ∙ ap (λ those. text line ++ those) (append-nil (text last))))

differ : (a b : ℤ) → (a ≡ b → ⊥) → same_int a b ≡ false
differ a b apart = elim (cases_Bool (same_int a b)) [ inl same ↦ absurd (apart (same_int-true a b same)) | inr other ↦ other ]

end_line_apart : (c : Component) (row : Row) → (row.end ≡ row.start → ⊥) → end_line c row ≡ new_line (end_name c.kind) row.kind row.end
end_line_apart c row apart = cond-false (same_int row.end row.start) _ _ (differ row.end row.start apart)

-- the end of a to-do, and of another component, that does not end where it starts
pub end_line-todo : (c : Component) (row : Row) → (row.end ≡ row.start → ⊥) → c.kind ≡ Todo → end_line c row ≡ new_line (codes "DUE") row.kind row.end
end_line-todo c row apart is = end_line_apart c row apart ∙ ap (λ k. new_line (end_name k) row.kind row.end) is

other_name : (kind : Kind) → (kind ≡ Todo → ⊥) → end_name kind ≡ codes "DTEND"
other_name Todo other = absurd (other refl)
other_name Event other = refl
other_name Journal other = refl
other_name FreeBusy other = refl

pub end_line-other : (c : Component) (row : Row) → (row.end ≡ row.start → ⊥) → (c.kind ≡ Todo → ⊥) → end_line c row ≡ new_line (codes "DTEND") row.kind row.end
end_line-other c row apart other = end_line_apart c row apart ∙ ap (λ name. new_line name row.kind row.end) (other_name c.kind other)

-- a moment of the calendar fits 64 bits
pub whole-moment : (z : ℤ) → IsCalendarMoment z → to_z w64 (of_z w64 z) ≡ z
whole-moment z near = to_z-of_z w64 z (record { sfits = (let first = near.0 in let last = near.1 in grind (arith, ints, first, last)) })

-- two moments that are the same in 64 bits are the same
pub apart-moments : (a b : ℤ) → IsCalendarMoment a → IsCalendarMoment b → (of_z w64 a ≡ of_z w64 b → ⊥) → a ≡ b → ⊥
apart-moments a b first second apart same = apart (ap (of_z w64) same)

-- so does one that lies near
pub whole-near : (z : ℤ) → IsNear z → to_z w64 (of_z w64 z) ≡ z
whole-near z near = to_z-of_z w64 z (record { sfits = (let first = near.0 in let last = near.1 in grind (arith, ints, first, last)) })
