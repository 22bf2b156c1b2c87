-- What is put behind lines: a moment, a row, and one row more, as at a step of the loop that writes them.
use Rattle.std.proofs.Common.{◌≡◌, ℕ, Bool, true, false, cond, List, [], ◌∷◌, ◌++◌, take, refl, sym, ap, ◌∙◌, append_assoc, ℤ}
use Rattle.std.specs.Prelude.{codes, filter, flat_map}
use Rattle.cal_moment.specs.Calendar.{moment_of_seconds}
use Rattle.cal_moment.specs.Texts.{written_local}
use Rattle.cal_model.specs.declared.row.RowKind.{RowKind}
use Rattle.cal_model.specs.declared.row.RowKind.TheVariants.{Floating, Instant}
use Rattle.ics_tool.specs.RowTexts.{moment_text}

-- Moments: the text in UTC, or its front

abbrev utc_text : ℤ → List ℕ
utc_text seconds = written_local (moment_of_seconds seconds) ++ codes "Z"

pub instant_put : (kind : RowKind) (seconds : ℤ) (out new text : List ℕ) → kind ≡ Instant → text ≡ utc_text seconds → new ≡ out ++ text → new ≡ out ++ moment_text kind seconds
instant_put kind seconds out new text is spelled e = e ∙ ap (λ xs. out ++ xs) spelled ∙ ap (λ k. out ++ moment_text k seconds) (sym is)

pub floating_put : (kind : RowKind) (seconds : ℤ) (out new text : List ℕ) → kind ≡ Floating → text ≡ utc_text seconds → new ≡ out ++ take 15 text → new ≡ out ++ moment_text kind seconds
floating_put kind seconds out new text is spelled e = e ∙ ap (λ xs. out ++ take 15 xs) spelled ∙ ap (λ k. out ++ moment_text k seconds) (sym is)

-- Rows: three words with a space behind each, a number and the end of the line

pub row_put : (out one two three four new a b c d space end : List ℕ) → one ≡ out ++ (a ++ space) → two ≡ one ++ (b ++ space) → three ≡ two ++ (c ++ space) → four ≡ three ++ d → new ≡ four ++ end
    → new ≡ out ++ (a ++ (space ++ (b ++ (space ++ (c ++ (space ++ (d ++ end)))))))
row_put out one two three four new a b c d space end first second third fourth fifth =
    let flat : ((((out ++ (a ++ space)) ++ (b ++ space)) ++ (c ++ space)) ++ d) ++ end ≡ out ++ (a ++ (space ++ (b ++ (space ++ (c ++ (space ++ (d ++ end))))))) = simp append_assoc in
    fifth
    ∙ ap (λ xs. xs ++ end) (fourth ∙ ap (λ xs. xs ++ d) (third ∙ ap (λ xs. xs ++ (c ++ space)) (second ∙ ap (λ xs. xs ++ (b ++ space)) first)))
    ∙ flat

-- One row more

-- what a row gives, where the test passes, and then the rows that are left
pub put_if_next : {X Y : Type 0} (f : X → List Y) (p : X → Bool) (out new all : List Y) (x : X) (xs : List X) → new ≡ out ++ cond (p x) (f x) []
    → out ++ flat_map f (filter p (x ∷ xs)) ≡ all → new ++ flat_map f (filter p xs) ≡ all
put_if_next f p out new all x xs e so_far =
    ap (λ ys. ys ++ flat_map f (filter p xs)) e
    ∙ append_assoc out (cond (p x) (f x) []) (flat_map f (filter p xs))
    ∙ ap (λ ys. out ++ ys) (joined (p x))
    ∙ so_far
  where
    joined : (b : Bool) → cond b (f x) [] ++ flat_map f (filter p xs) ≡ flat_map f (cond b (x ∷ filter p xs) (filter p xs))
    joined true = refl
    joined false = refl
