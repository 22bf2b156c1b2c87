-- The lines of free times: one line more behind others, the last of them, and the text of none.
use Rattle.std.proofs.Common.{◌≡◌, ℕ, ◌==◌, false, true, List, [], ◌∷◌, ◌++◌, suc, length, refl, ap, sym, ◌∙◌, arith, append_assoc, append-nil}
use Rattle.std.specs.Prelude.{codes, flat_map}
use Rattle.std.proofs.lemmas.Bool.{eqb-true}
use Rattle.cal_model.specs.declared.row.Range.{Range}
use Rattle.cal_model.specs.Busy.FreeBusyText.{utc_text}
use Rattle.slot_times.specs.SlotTimes.{time_line, times_text}

-- a line that is written part by part
pub line_joined : (old a b x y new : List ℕ) (time : Range) → a ≡ old ++ codes "free " → b ≡ a ++ utc_text time.start.0 → x ≡ b ++ codes " " → y ≡ x ++ utc_text time.end.0
    → new ≡ y ++ codes "\n" → new ≡ old ++ time_line time
line_joined old a b x y new time first second third fourth last =
    last ∙ ap (λ (xs : List ℕ). xs ++ codes "\n") (fourth ∙ ap (λ (xs : List ℕ). xs ++ utc_text time.end.0) (third ∙ ap (λ (xs : List ℕ). xs ++ codes " ") (second ∙ ap (λ (xs : List ℕ). xs ++ utc_text time.start.0) first)))
    ∙ append_assoc (((old ++ codes "free ") ++ utc_text time.start.0) ++ codes " ") (utc_text time.end.0) (codes "\n")
    ∙ append_assoc ((old ++ codes "free ") ++ utc_text time.start.0) (codes " ") (utc_text time.end.0 ++ codes "\n")
    ∙ append_assoc (old ++ codes "free ") (utc_text time.start.0) (codes " " ++ (utc_text time.end.0 ++ codes "\n"))
    ∙ append_assoc old (codes "free ") (utc_text time.start.0 ++ (codes " " ++ (utc_text time.end.0 ++ codes "\n")))

pub line_next : (text new all : List ℕ) (time : Range) (rest : List Range) → new ≡ text ++ time_line time → text ++ flat_map time_line (time ∷ rest) ≡ all → new ++ flat_map time_line rest ≡ all
line_next text new all time rest is so_far = ap (λ (ys : List ℕ). ys ++ flat_map time_line rest) is ∙ append_assoc text (time_line time) (flat_map time_line rest) ∙ so_far

pub lines_end : (text : List ℕ) (rest : List Range) (all : List ℕ) → rest ≡ [] → text ++ flat_map time_line rest ≡ all → text ≡ all
lines_end text rest all none made = sym (append-nil text) ∙ ap (λ (times : List Range). text ++ flat_map time_line times) (sym none) ∙ made

pub none_text : (times : List Range) → (length times == 0) ≡ true → codes "none\n" ≡ times_text times
none_text [] none = refl
none_text (time ∷ times) none = absurd (omega (arith, eqb-true (suc (length times)) 0 none))

pub some_text : (times : List Range) → (length times == 0) ≡ false → flat_map time_line times ≡ times_text times
some_text [] some = absurd cc
some_text (time ∷ times) some = refl
