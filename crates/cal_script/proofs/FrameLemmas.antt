-- A whole frame behind its line, and when none stands at the front.
use Rattle.std.proofs.Common.{◌≡◌, ◌≢◌, ℕ, ◌+◌, ◌<◌, ◌≤◌, List, [], ◌∷◌, ◌++◌, length, take, drop, slice_index, refl, sym, ap, subst, ◌∙◌, arith, append_assoc, add-one, suc, length-append, length-take, inl, inr}
use Rattle.std.proofs.lemmas.List.{append-nil, take-append-drop}
use Rattle.std.proofs.Math.ListN.{get_or-append}
use Rattle.std.proofs.Math.Seq.{drop-cons, get_or-append_seam}
use Rattle.std.specs.Fmt.{decimal}
use Rattle.cal_model.specs.Transcripts.ScriptFrames.{WorkerStep, claim, expand, publish, abandon, step_word, Frame, bytes, worker, frame_text, IsFrame}
use Rattle.cal_model.proofs.Transcripts.FrameCuts.{frame_text-bytes, frame_text-worker}
use Rattle.cal_script.specs.declared.head.Action.{Action}
use Rattle.cal_script.specs.declared.head.Action.TheVariants.{Claim, Expand, Publish, Abandon}
use Rattle.cal_script.specs.declared.head.Coming.{Coming}
use Rattle.cal_script.specs.declared.head.Head.{Head}
use Rattle.cal_script.specs.declared.head.Head.TheVariants.{Bytes, Worker}
use Rattle.cal_script.specs.FrameHeads.{Lacks, step_of, coming_numbers, head_line, InBounds, IsHead, IsNoHead, longest_line, IsFrameStart}
use Rattle.cal_script.specs.FirstFrames.{BeginsNoFrame, NeverBeginsFrame, IsFrameThen}
use Rattle.cal_script.proofs.HeadLemmas.{first_place, no_place, length-head_line, head_line_lacks_feed, bytes_line_of}

-- The head of a frame

action_for : WorkerStep → Action
action_for claim = Claim
action_for expand = Expand
action_for publish = Publish
action_for abandon = Abandon

step_of-action : (step : WorkerStep) → step_of (action_for step) ≡ step
unfolding action_for
step_of-action claim = refl
step_of-action expand = refl
step_of-action publish = refl
step_of-action abandon = refl

abbrev head_for : Frame → Head
head_for (bytes connection moment payload) = Bytes (record { connection = connection; moment = moment; size = length payload })
head_for (worker step slot) = Worker (action_for step) slot

-- what stands behind its line
abbrev behind_line : Frame → List ℕ → List ℕ
behind_line (bytes connection moment payload) more = payload ++ (10 ∷ more)
behind_line (worker step slot) more = more

bounds_for : (frame : Frame) → IsFrame frame → InBounds (head_for frame)
bounds_for (bytes connection moment payload) h = record { connection_to = h.connection_to; moment_to = h.moment_to; size_to = h.payload_to }
bounds_for (worker step slot) h = h

-- a frame before more octets: its line, and what follows
bytes_front : (connection moment : ℕ) (payload more : List ℕ)
    → frame_text (bytes connection moment payload) ++ more ≡ head_line (head_for (bytes connection moment payload)) ++ (10 ∷ (payload ++ (10 ∷ more)))
unfolding coming_numbers
bytes_front connection moment payload more = frame_text-bytes connection moment payload more ∙ simp append_assoc refl

frame_front : (frame : Frame) (more : List ℕ) → frame_text frame ++ more ≡ head_line (head_for frame) ++ (10 ∷ behind_line frame more)
frame_front (bytes connection moment payload) more = bytes_front connection moment payload more
frame_front (worker step slot) more =
    frame_text-worker step slot more
    ∙ (ap (λ s. step_word s ++ (32 ∷ (decimal slot ++ (10 ∷ more)))) (sym (step_of-action step))
    ∙ sym (append_assoc (step_word (step_of (action_for step))) (32 ∷ decimal slot) (10 ∷ more)))

-- Where no frame begins

-- octets without a line feed are no whole frame
pub no_frame_without_feed : (octets : List ℕ) → Lacks 10 octets → BeginsNoFrame octets
no_frame_without_feed octets h frame more bounds e =
    no_place 10 (head_line (head_for frame)) (behind_line frame more) (subst (Lacks 10) (e ∙ frame_front frame more) h)

-- and where they are longer than a line, none begins with them
pub never_frame_without_feed : (octets : List ℕ) → Lacks 10 octets → longest_line < length octets → NeverBeginsFrame octets
never_frame_without_feed octets h long more frame behind bounds e =
    let line : List ℕ = head_line (head_for frame) in
    let short : length line ≤ longest_line = length-head_line (head_for frame) (bounds_for frame bounds) in
    h (length line) 0 (omega arith)
    (sym (get_or-append octets more 0 (length line) (omega arith))
    ∙ (ap (λ xs. slice_index xs (length line)) (e ∙ frame_front frame behind) ∙ get_or-append_seam line 10 (behind_line frame behind) 0))

-- octets cut at their first line feed
pub record IsCutAtFeed (octets line rest : List ℕ) : Type 0 where
  pub cut : Lacks 10 line × (octets ≡ line ++ (10 ∷ rest))

-- the line before the feed is that of the frame, before more octets
line_of : (octets line rest more : List ℕ) (frame : Frame) (behind : List ℕ) → IsCutAtFeed octets line rest → IsFrame frame → octets ++ more ≡ frame_text frame ++ behind
    → (line ≡ head_line (head_for frame)) × (rest ++ more ≡ behind_line frame behind)
line_of octets line rest more frame behind c bounds e =
    let spelled : line ++ (10 ∷ (rest ++ more)) ≡ head_line (head_for frame) ++ (10 ∷ behind_line frame behind) =
    sym (append_assoc line (10 ∷ rest) more) ∙ (ap (λ xs. xs ++ more) (sym c.cut.1) ∙ (e ∙ frame_front frame behind)) in
    first_place 10 line (head_line (head_for frame)) (rest ++ more) (behind_line frame behind) c.cut.0 (head_line_lacks_feed (head_for frame) (bounds_for frame bounds)) spelled

-- a line that is none of a frame
pub never_frame_by_line : (octets line rest : List ℕ) → IsCutAtFeed octets line rest → IsNoHead line → NeverBeginsFrame octets
never_frame_by_line octets line rest c none more frame behind bounds e =
    none (head_for frame) (record { spelled = (line_of octets line rest more frame behind c bounds e).0; bounds = bounds_for frame bounds })

-- what stands behind the line of octets that come: so many octets, and a line feed
payload_for : (frame : Frame) (behind : List ℕ) (other : Coming) → head_for frame ≡ Bytes other → (payload : List ℕ) × (length payload ≡ other.size) × (behind_line frame behind ≡ payload ++ (10 ∷ behind))
payload_for (bytes connection moment payload) behind other e = (payload, cc, refl)
payload_for (worker step slot) behind other e = absurd (cc)

payload_of : (octets line rest more : List ℕ) (coming : Coming) (frame : Frame) (behind : List ℕ) → IsCutAtFeed octets line rest → IsHead line (Bytes coming) → IsFrame frame
    → octets ++ more ≡ frame_text frame ++ behind → (payload : List ℕ) × (length payload ≡ coming.size) × (rest ++ more ≡ payload ++ (10 ∷ behind))
payload_of octets line rest more coming frame behind c head bounds e =
    let front = line_of octets line rest more frame behind c bounds e in
    let same = bytes_line_of coming (head_for frame) head.bounds (bounds_for frame bounds) (sym head.spelled ∙ front.0) in
    let found = payload_for frame behind same.0 same.1 in
    (found.0, found.1 ∙ same.2, front.1 ∙ found.2)

-- fewer octets behind the line than the payload and its line feed have
pub no_frame_cut : (octets line rest : List ℕ) (coming : Coming) → IsCutAtFeed octets line rest → IsHead line (Bytes coming) → length rest ≤ coming.size → BeginsNoFrame octets
no_frame_cut octets line rest coming c head short frame behind bounds e =
    let front = payload_of octets line rest [] coming frame behind c head bounds (append-nil octets ∙ e) in
    omega (arith, length-append front.0 (10 ∷ behind), ap length (sym (append-nil rest) ∙ front.2), front.1, short)

-- the start of a frame is no whole one
pub no_frame_yet : (octets : List ℕ) → IsFrameStart octets → BeginsNoFrame octets
no_frame_yet octets (inl begun) = no_frame_without_feed octets begun.lacks
no_frame_yet octets (inr begun) =
    let lacks : Lacks 10 begun.line = subst (Lacks 10) (sym begun.head.spelled) (head_line_lacks_feed (Bytes begun.coming) begun.head.bounds) in
    no_frame_cut octets begun.line begun.rest begun.coming (record { cut = (lacks, begun.spelled) }) begun.head begun.short

-- another octet than the line feed behind the payload
pub never_frame_by_end : (octets line rest : List ℕ) (coming : Coming) → IsCutAtFeed octets line rest → IsHead line (Bytes coming) → coming.size < length rest
    → slice_index rest coming.size ≢ 10 → NeverBeginsFrame octets
never_frame_by_end octets line rest coming c head long other more frame behind bounds e =
    let front = payload_of octets line rest more coming frame behind c head bounds e in
    other (sym (get_or-append rest more 0 coming.size long)
    ∙ (ap (λ xs. slice_index xs coming.size) front.2
    ∙ (ap (λ n. slice_index (front.0 ++ (10 ∷ behind)) n) (sym front.1) ∙ get_or-append_seam front.0 10 behind 0)))

-- Whole frames

pub whole_bytes : (octets line rest : List ℕ) (coming : Coming) → IsCutAtFeed octets line rest → IsHead line (Bytes coming) → coming.size < length rest
    → slice_index rest coming.size ≡ 10 → IsFrameThen octets (bytes coming.connection coming.moment (take coming.size rest)) (drop (coming.size + 1) rest)
whole_bytes octets line rest coming c head long feed =
    let payload : List ℕ = take coming.size rest in
    let size_is : length payload ≡ coming.size = omega (arith, length-take coming.size rest) in
    let behind : drop coming.size rest ≡ 10 ∷ drop (coming.size + 1) rest = rw (add-one) (drop-cons rest coming.size 0 long ∙ ap (λ x. x ∷ drop (suc coming.size) rest) feed) in
    let cut_rest : rest ≡ payload ++ (10 ∷ drop (coming.size + 1) rest) = sym (take-append-drop coming.size rest) ∙ ap (λ xs. payload ++ xs) behind in
    record {
      bounds = record { connection_to = head.bounds.connection_to; moment_to = head.bounds.moment_to; payload_to = omega (arith, size_is, head.bounds.size_to) };
      spelled = c.cut.1 ∙ (ap (λ xs. xs ++ (10 ∷ rest)) head.spelled
          ∙ (ap (λ (n : ℕ). head_line (Bytes (record { connection = coming.connection; moment = coming.moment; size = n })) ++ (10 ∷ rest)) (sym size_is)
          ∙ (ap (λ xs. head_line (Bytes (record { connection = coming.connection; moment = coming.moment; size = length payload })) ++ (10 ∷ xs)) cut_rest
          ∙ sym (bytes_front coming.connection coming.moment payload (drop (coming.size + 1) rest)))));
    }

pub whole_worker : (octets line rest : List ℕ) (action : Action) (slot : ℕ) → IsCutAtFeed octets line rest → IsHead line (Worker action slot) → IsFrameThen octets (worker (step_of action) slot) rest
whole_worker octets line rest action slot c head = record {
  bounds = head.bounds;
  spelled = c.cut.1 ∙ (ap (λ xs. xs ++ (10 ∷ rest)) head.spelled
      ∙ (append_assoc (step_word (step_of action)) (32 ∷ decimal slot) (10 ∷ rest) ∙ sym (frame_text-worker (step_of action) slot rest)));
}
