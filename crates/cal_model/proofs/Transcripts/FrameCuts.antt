-- An input has one cut into frames: a frame ends where its text says, so no frame begins another one.
use Rattle.std.proofs.Common.{◌≡◌, ◌≢◌, ℕ, suc, All, List, [], ◌∷◌, ◌++◌, length, drop, codes, refl, sym, ap, ap₂, ◌∙◌, arith, append_assoc}
use Rattle.std.specs.Prelude.{slice_index}
use Rattle.std.specs.Fmt.{decimal}
use Rattle.cal_model.proofs.Words.EndLemmas.{tails, fronts, number_ends}
use Rattle.cal_model.specs.Transcripts.FrameLaws.{CutsAgree}
use Rattle.cal_model.specs.Transcripts.ScriptFrames.{WorkerStep, claim, expand, publish, abandon, Frame, bytes, worker, step_word, frame_text, frames_text, AreInBounds, IsFrame}

-- a frame before more octets, each part before the rest
abbrev pub bytes_before : ℕ → ℕ → List ℕ → List ℕ → List ℕ
bytes_before connection moment payload more =
    codes "bytes " ++ (decimal connection ++ (32 ∷ (decimal moment ++ (32 ∷ (decimal (length payload) ++ (10 ∷ (payload ++ (10 ∷ more))))))))

pub frame_text-bytes : (connection moment : ℕ) (payload more : List ℕ) → frame_text (bytes connection moment payload) ++ more ≡ bytes_before connection moment payload more
unfolding frame_text
frame_text-bytes connection moment payload more = simp (append_assoc) refl

abbrev pub worker_before : WorkerStep → ℕ → List ℕ → List ℕ
worker_before step slot more = step_word step ++ (32 ∷ (decimal slot ++ (10 ∷ more)))

pub frame_text-worker : (step : WorkerStep) (slot : ℕ) (more : List ℕ) → frame_text (worker step slot) ++ more ≡ worker_before step slot more
unfolding frame_text
frame_text-worker step slot more = simp (append_assoc) refl

-- octets of a connection

parts_unique : (connection moment : ℕ) (payload more : List ℕ) (connection' moment' : ℕ) (payload' more' : List ℕ)
    → AreInBounds connection moment payload → AreInBounds connection' moment' payload'
    → bytes_before connection moment payload more ≡ bytes_before connection' moment' payload' more'
    → (bytes connection moment payload ≡ bytes connection' moment' payload') × (more ≡ more')
parts_unique connection moment payload more connection' moment' payload' more' h h' e =
    let c = number_ends 32 refl connection connection' (omega (arith, h.connection_to)) (omega (arith, h'.connection_to)) _ _ (ap (drop 6) e) in
    let m = number_ends 32 refl moment moment' (omega (arith, h.moment_to)) (omega (arith, h'.moment_to)) _ _ c.1 in
    let l = number_ends 10 refl (length payload) (length payload') (omega (arith, h.payload_to)) (omega (arith, h'.payload_to)) _ _ m.1 in
    let p = fronts payload payload' _ _ l.0 l.1 in
    (ap (λ x. bytes x moment payload) c.0 ∙ (ap (λ x. bytes connection' x payload) m.0 ∙ ap (λ x. bytes connection' moment' x) p.0), tails p.1)

-- steps of a worker: the first octet tells the step

step_octet : WorkerStep → ℕ
step_octet claim = 99
step_octet expand = 101
step_octet publish = 112
step_octet abandon = 97

first_octet : (step : WorkerStep) (slot : ℕ) (more : List ℕ) → slice_index (worker_before step slot more) 0 ≡ step_octet step
unfolding step_octet
first_octet claim slot more = refl
first_octet expand slot more = refl
first_octet publish slot more = refl
first_octet abandon slot more = refl

same_step : (step other : WorkerStep) → step_octet step ≡ step_octet other → step ≡ other
unfolding step_octet
same_step claim claim e = refl
same_step claim expand e = absurd (omega (arith, e))
same_step claim publish e = absurd (omega (arith, e))
same_step claim abandon e = absurd (omega (arith, e))
same_step expand claim e = absurd (omega (arith, e))
same_step expand expand e = refl
same_step expand publish e = absurd (omega (arith, e))
same_step expand abandon e = absurd (omega (arith, e))
same_step publish claim e = absurd (omega (arith, e))
same_step publish expand e = absurd (omega (arith, e))
same_step publish publish e = refl
same_step publish abandon e = absurd (omega (arith, e))
same_step abandon claim e = absurd (omega (arith, e))
same_step abandon expand e = absurd (omega (arith, e))
same_step abandon publish e = absurd (omega (arith, e))
same_step abandon abandon e = refl

no_bytes : (step : WorkerStep) → 98 ≡ step_octet step → ⊥
unfolding step_octet
no_bytes claim e = omega (arith, e)
no_bytes expand e = omega (arith, e)
no_bytes publish e = omega (arith, e)
no_bytes abandon e = omega (arith, e)

slot_unique : (step : WorkerStep) (slot slot' : ℕ) (more more' : List ℕ) → IsFrame (worker step slot) → IsFrame (worker step slot')
    → worker_before step slot more ≡ worker_before step slot' more' → (slot ≡ slot') × (more ≡ more')
slot_unique claim slot slot' more more' h h' e = number_ends 10 refl slot slot' (omega (arith, h)) (omega (arith, h')) _ _ (ap (drop 6) e)
slot_unique expand slot slot' more more' h h' e = number_ends 10 refl slot slot' (omega (arith, h)) (omega (arith, h')) _ _ (ap (drop 7) e)
slot_unique publish slot slot' more more' h h' e = number_ends 10 refl slot slot' (omega (arith, h)) (omega (arith, h')) _ _ (ap (drop 8) e)
slot_unique abandon slot slot' more more' h h' e = number_ends 10 refl slot slot' (omega (arith, h)) (omega (arith, h')) _ _ (ap (drop 8) e)

worker_unique : (step step' : WorkerStep) (slot slot' : ℕ) (more more' : List ℕ) → IsFrame (worker step slot) → IsFrame (worker step' slot')
    → worker_before step slot more ≡ worker_before step' slot' more' → (worker step slot ≡ worker step' slot') × (more ≡ more')
worker_unique step step' slot slot' more more' h h' e =
    let same = same_step step step' (sym (first_octet step slot more) ∙ (ap (λ octets. slice_index octets 0) e ∙ first_octet step' slot' more')) in
    let found = slot_unique step slot slot' more more' h h' (e ∙ ap (λ s. worker_before s slot' more') (sym same)) in
    (ap (worker step) found.0 ∙ ap (λ s. worker s slot') same, found.1)

-- Where a text begins with two frames, they are one.
pub frame_text-unique : (frame other : Frame) (more rest : List ℕ) → IsFrame frame → IsFrame other
    → frame_text frame ++ more ≡ frame_text other ++ rest → (frame ≡ other) × (more ≡ rest)
frame_text-unique (bytes k t p) (bytes k' t' p') more rest h h' e =
    parts_unique k t p more k' t' p' rest h h' (sym (frame_text-bytes k t p more) ∙ (e ∙ frame_text-bytes k' t' p' rest))
frame_text-unique (bytes k t p) (worker s j) more rest h h' e =
    absurd (no_bytes s (ap (λ octets. slice_index octets 0) (sym (frame_text-bytes k t p more) ∙ (e ∙ frame_text-worker s j rest)) ∙ first_octet s j rest))
frame_text-unique (worker s j) (bytes k t p) more rest h h' e =
    absurd (no_bytes s (ap (λ octets. slice_index octets 0) (sym (frame_text-bytes k t p rest) ∙ (sym e ∙ frame_text-worker s j more)) ∙ first_octet s j more))
frame_text-unique (worker s j) (worker s' j') more rest h h' e =
    worker_unique s s' j j' more rest h h' (sym (frame_text-worker s j more) ∙ (e ∙ frame_text-worker s' j' rest))

-- no frame begins the text
abbrev pub BeginsNone : List ℕ → Type 0
BeginsNone rest = (frame : Frame) (more : List ℕ) → IsFrame frame → rest ≢ frame_text frame ++ more

split_unique : (frames others : List Frame) (rest left : List ℕ) → All IsFrame frames → All IsFrame others → BeginsNone rest → BeginsNone left
    → frames_text frames ++ rest ≡ frames_text others ++ left → (frames ≡ others) × (rest ≡ left)
split_unique [] [] rest left h h' n n' e = (refl, e)
split_unique [] (g ∷ others) rest left h h' n n' e =
    absurd (n g (frames_text others ++ left) (h' 0 g (omega arith)) (e ∙ append_assoc (frame_text g) (frames_text others) left))
split_unique (f ∷ frames) [] rest left h h' n n' e =
    absurd (n' f (frames_text frames ++ rest) (h 0 f (omega arith)) (sym e ∙ append_assoc (frame_text f) (frames_text frames) rest))
split_unique (f ∷ frames) (g ∷ others) rest left h h' n n' e =
    let first = frame_text-unique f g (frames_text frames ++ rest) (frames_text others ++ left) (h 0 f (omega arith)) (h' 0 g (omega arith))
    (sym (append_assoc (frame_text f) (frames_text frames) rest) ∙ (e ∙ append_assoc (frame_text g) (frames_text others) left)) in
    let more = split_unique frames others rest left (λ k d l. h (suc k) d (omega arith)) (λ k d l. h' (suc k) d (omega arith)) n n' first.1 in
    (ap₂ (λ x xs. x ∷ xs) first.0 more.0, more.1)

-- An input has one cut.
pub cuts_agree : CutsAgree
cuts_agree input frames others rest left cut other =
    split_unique frames others rest left cut.bounds other.bounds cut.ended other.ended (sym cut.spelled ∙ other.spelled)
