-- The lines of an answer to a query for busy times, put one behind another.
use Rattle.std.proofs.Common.{◌≡◌, ℕ, ◌<◌, List, [], ◌∷◌, ◌++◌, map, length, refl, sym, ap, ◌∙◌, append_assoc, arith, ℤ, length-append}
use Rattle.std.specs.Prelude.{codes}
use Rattle.cal_model.specs.declared.row.Range.{Range}
use Rattle.cal_model.specs.Busy.FreeBusyText.{class_name, free_busy_text, head_lines, run_line, utc_text}
use Rattle.cal_model.specs.Words.TextLines.{ended, lines_text}
use Rattle.freebusy.specs.declared.busy.Run.{Run}
use Rattle.freebusy.specs.Times.{time_of_run}
use Rattle.dav_reports.specs.FreeBusyLines.{run_lines}

lines-append : (xs ys : List (List ℕ)) → lines_text (xs ++ ys) ≡ lines_text xs ++ lines_text ys
lines-append [] ys = refl
lines-append (x ∷ xs) ys =
    ap (λ t. x ++ (codes "\r\n" ++ t)) (lines-append xs ys)
    ∙ ap (λ t. x ++ t) (sym (append_assoc (codes "\r\n") (lines_text xs) (lines_text ys)))
    ∙ sym (append_assoc x (codes "\r\n" ++ lines_text xs) (lines_text ys))

-- a run more
pub run_next : (out new all : List ℕ) (run : Run) (runs : List Run) → new ≡ out ++ ended (run_line (time_of_run run)) → out ++ run_lines (run ∷ runs) ≡ all → new ++ run_lines runs ≡ all
run_next out new all run runs e so_far =
    ap (λ t. t ++ run_lines runs) e
    ∙ append_assoc out (ended (run_line (time_of_run run))) (run_lines runs)
    ∙ ap (λ t. out ++ t) (append_assoc (run_line (time_of_run run)) (codes "\r\n") (run_lines runs))
    ∙ so_far

-- the lines before the runs
pub head_joined : (out one two three : List ℕ) (moment : ℤ) (range : Range)
    → one ≡ out ++ ended (codes "BEGIN:VCALENDAR\r\nVERSION:2.0\r\nPRODID:-//caldav_server//EN\r\nBEGIN:VFREEBUSY\r\nUID:free-busy\r\nDTSTAMP:" ++ utc_text moment)
    → two ≡ one ++ ended (codes "DTSTART:" ++ utc_text range.start.0) → three ≡ two ++ ended (codes "DTEND:" ++ utc_text range.end.0)
    → three ≡ out ++ lines_text (head_lines moment range)
head_joined out one two three moment range a b c = c ∙ ap (λ t. t ++ ended (codes "DTEND:" ++ utc_text range.end.0)) (b ∙ ap (λ t. t ++ ended (codes "DTSTART:" ++ utc_text range.start.0)) a) ∙ simp append_assoc

-- the whole text
pub text_joined : (head whole all : List ℕ) (moment : ℤ) (range : Range) (runs : List Run) → head ≡ [] ++ lines_text (head_lines moment range) → whole ≡ head ++ run_lines runs
    → all ≡ whole ++ codes "END:VFREEBUSY\r\nEND:VCALENDAR\r\n" → all ≡ free_busy_text moment range (map time_of_run runs)
text_joined head whole all moment range runs a b c =
    let lines = map run_line (map time_of_run runs) in
    let end = codes "END:VFREEBUSY" ∷ codes "END:VCALENDAR" ∷ [] in
    c ∙ ap (λ t. t ++ lines_text end) (b ∙ ap (λ t. t ++ run_lines runs) a)
    ∙ append_assoc (lines_text (head_lines moment range)) (lines_text lines) (lines_text end)
    ∙ ap (λ t. lines_text (head_lines moment range) ++ t) (sym (lines-append lines end))
    ∙ sym (lines-append (head_lines moment range) (lines ++ end))

-- the line of a run
pub run_joined : (out name one two three : List ℕ) (run : Run) → name ≡ codes "FREEBUSY;FBTYPE=" ++ (class_name run.class ++ codes ":") → one ≡ out ++ name → two ≡ one ++ utc_text run.start.0
    → three ≡ two ++ ended (codes "/" ++ utc_text run.end.0) → three ≡ out ++ ended (run_line (time_of_run run))
run_joined out name one two three run n a b c =
    c ∙ ap (λ t. t ++ ended (codes "/" ++ utc_text run.end.0)) (b ∙ ap (λ t. t ++ utc_text run.start.0) (a ∙ ap (λ t. out ++ t) n)) ∙ simp append_assoc

-- a front of the text that is too long
pub front_long : (limit : ℕ) (head : List ℕ) (moment : ℤ) (range : Range) (runs : List Run) → head ≡ [] ++ lines_text (head_lines moment range) → limit < length (head ++ run_lines runs)
    → limit < length (free_busy_text moment range (map time_of_run runs))
front_long limit head moment range runs e long =
    let end = codes "END:VFREEBUSY\r\nEND:VCALENDAR\r\n" in
    let whole = text_joined head (head ++ run_lines runs) ((head ++ run_lines runs) ++ end) moment range runs e refl refl in
    let size = ap length whole in
    let parts = length-append (head ++ run_lines runs) end in
    omega (arith, size, parts, long)
