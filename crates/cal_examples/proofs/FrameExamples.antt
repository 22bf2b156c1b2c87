-- Frames and what is none, by their texts.
use Rattle.std.proofs.Common.{arith, ◌≡◌, ◌≢◌, ◌<◌, ℕ, zero, suc, drop, length-append, List, [], ◌∷◌, ◌++◌, length, codes, refl, sym, ap, ◌∙◌}
use Rattle.std.specs.Fmt.{digits}
use Rattle.std.specs.Fmt.{decimal}
use Rattle.std.specs.Prelude.{slice_index, slice_index_or}
use Rattle.std.specs.Str.Parse.{digits_value}
use Rattle.std.proofs.lemmas.Fmt.{decimal_is_IsNumeral}
use Rattle.cal_model.specs.Transcripts.ScriptFrames.{Frame, bytes, worker, WorkerStep, claim, expand, publish, abandon, frame_text, frames_text, reply_frame, AreInBounds, IsFrame, IsCutInto}
use Rattle.cal_model.proofs.Transcripts.FrameCuts.{bytes_before, worker_before, frame_text-bytes, frame_text-worker}
use Rattle.cal_model.proofs.Words.EndLemmas.{ends_at, is_high, number_is_high, number_ends}

pub one_octet : frame_text (bytes 15 1_741_600_000 (codes "x")) ≡ codes "bytes 15 1741600000 1\nx\n"
unfolding frame_text digits
one_octet = refl

-- a payload may be empty, and may hold what looks like a frame
pub no_octet : frame_text (bytes 0 0 []) ≡ codes "bytes 0 0 0\n\n"
unfolding frame_text digits
no_octet = refl

pub frame_within : frame_text (bytes 0 0 (codes "bytes 0 0 0\n\n")) ≡ codes "bytes 0 0 13\nbytes 0 0 0\n\n\n"
unfolding frame_text digits
frame_within = refl

-- a step of a worker names its slot
pub a_step : frame_text (worker publish 63) ≡ codes "publish 63\n"
unfolding frame_text digits
a_step = refl

pub answer : reply_frame 3 (codes "HTTP") ≡ codes "reply 3 4\nHTTP\n"
unfolding reply_frame digits
answer = refl

-- an empty input has no frame and no rest
pub empty_input : IsCutInto [] [] []
empty_input = record { bounds = λ k d l. absurd (omega arith); spelled = refl; ended = λ frame more h e. not_empty frame more e }
  where
    not_empty : (frame : Frame) (more : List ℕ) → [] ≡ frame_text frame ++ more → ⊥
    not_empty (bytes k t p) more e = omega (arith, ap length (e ∙ frame_text-bytes k t p more))
    not_empty (worker claim slot) more e = omega (arith, ap length (e ∙ frame_text-worker claim slot more))
    not_empty (worker expand slot) more e = omega (arith, ap length (e ∙ frame_text-worker expand slot more))
    not_empty (worker publish slot) more e = omega (arith, ap length (e ∙ frame_text-worker publish slot more))
    not_empty (worker abandon slot) more e = omega (arith, ap length (e ∙ frame_text-worker abandon slot more))

-- no step of a worker begins a text whose first letter is that of `bytes`
no_step : (text more : List ℕ) (step : WorkerStep) (slot : ℕ) → slice_index text 0 ≡ 98 → text ≢ frame_text (worker step slot) ++ more
no_step text more claim slot first e = omega (arith, sym first ∙ ap (λ t. slice_index t 0) (e ∙ frame_text-worker claim slot more))
no_step text more expand slot first e = omega (arith, sym first ∙ ap (λ t. slice_index t 0) (e ∙ frame_text-worker expand slot more))
no_step text more publish slot first e = omega (arith, sym first ∙ ap (λ t. slice_index t 0) (e ∙ frame_text-worker publish slot more))
no_step text more abandon slot first e = omega (arith, sym first ∙ ap (λ t. slice_index t 0) (e ∙ frame_text-worker abandon slot more))

-- no frame begins a text
abbrev BeginsNone : List ℕ → Type 0
BeginsNone text = (frame : Frame) (more : List ℕ) → IsFrame frame → text ≢ frame_text frame ++ more

-- No frame begins these texts: a number has no leading zero
leading_zero_in : (k t : ℕ) (p more : List ℕ) → AreInBounds k t p → codes "bytes 0 01 0\n\n" ≢ bytes_before k t p more
unfolding digits
leading_zero_in k t p more h e =
    let c = number_ends 32 refl 0 k (omega arith) (omega (arith, h.connection_to)) (codes "01 0\n\n") _ (ap (drop 6) e) in
    let numeral = decimal_is_IsNumeral t (omega (arith, h.moment_to)) in
    let m = ends_at is_high 32 refl (codes "01") (decimal t) (codes "0\n\n") _ refl (number_is_high t) c.1 in
    let one : 1 ≡ t = ap (digits_value 10) m.0 ∙ numeral.1 in
    omega (arith, ap length (m.0 ∙ ap decimal (sym one)))

pub leading_zero : BeginsNone (codes "bytes 0 01 0\n\n")
leading_zero (bytes k t p) more h e = leading_zero_in k t p more h (e ∙ frame_text-bytes k t p more)
leading_zero (worker step slot) more h e = no_step (codes "bytes 0 01 0\n\n") more step slot refl e

-- there are sixteen connections
another_connection_in : (k t : ℕ) (p more : List ℕ) → AreInBounds k t p → codes "bytes 16 0 0\n\n" ≢ bytes_before k t p more
unfolding digits
another_connection_in k t p more h e =
    let c = number_ends 32 refl 16 k (omega arith) (omega (arith, h.connection_to)) (codes "0 0\n\n") _ (ap (drop 6) e) in
    omega (arith, c.0, h.connection_to)

pub another_connection : BeginsNone (codes "bytes 16 0 0\n\n")
another_connection (bytes k t p) more h e = another_connection_in k t p more h (e ∙ frame_text-bytes k t p more)
another_connection (worker step slot) more h e = no_step (codes "bytes 16 0 0\n\n") more step slot refl e

-- and a payload is whole, with its line feed
cut_payload_in : (k t : ℕ) (p more : List ℕ) → AreInBounds k t p → codes "bytes 0 5 2\nx\n" ≢ bytes_before k t p more
unfolding digits
cut_payload_in k t p more h e =
    let c = number_ends 32 refl 0 k (omega arith) (omega (arith, h.connection_to)) (codes "5 2\nx\n") _ (ap (drop 6) e) in
    let m = number_ends 32 refl 5 t (omega arith) (omega (arith, h.moment_to)) (codes "2\nx\n") _ c.1 in
    let l = number_ends 10 refl 2 (length p) (omega arith) (omega (arith, h.payload_to)) (codes "x\n") _ m.1 in
    omega (arith, l.0, ap length l.1, length-append p (10 ∷ more))

pub cut_payload : BeginsNone (codes "bytes 0 5 2\nx\n")
cut_payload (bytes k t p) more h e = cut_payload_in k t p more h (e ∙ frame_text-bytes k t p more)
cut_payload (worker step slot) more h e = no_step (codes "bytes 0 5 2\nx\n") more step slot refl e

-- so the frames of this input are one, and a bad one stands at the place 13
pub one_and_bad : IsCutInto (codes "bytes 0 0 0\n\nbytes 0 01 0\n\n") (bytes 0 0 [] ∷ []) (codes "bytes 0 01 0\n\n")
unfolding frame_text digits
one_and_bad = record { bounds = λ k d l. only k d l; spelled = refl; ended = leading_zero }
  where
    only : (k : ℕ) (d : Frame) → k < 1 → IsFrame (slice_index_or (bytes 0 0 [] ∷ []) k d)
    only zero d l = record { connection_to = omega arith; moment_to = omega arith; payload_to = omega arith }
    only (suc k) d l = absurd (omega arith)

pub place_of_bad : length (frames_text (bytes 0 0 [] ∷ [])) ≡ 13
unfolding frame_text digits
place_of_bad = refl
