-- Where nothing but empty lines stands.
use Rattle.std.proofs.Common.{◌≡◌, ℕ, ◌<◌, false, cond, ◌==◌, List, [], ◌∷◌, length, take, drop, Result, Ok, Err, refl, sym, ap, ◌∙◌, arith, ⊎_elim, append-nil}
use Rattle.std.specs.Prelude.{nat_le}
use Rattle.std.proofs.lemmas.Bool.Decides.{nat_tests}
use Rattle.httparse.specs.Grammar.{RequestHead}
use Rattle.cal_model.specs.Words.Lists.{is_empty}
use Rattle.cal_model.specs.declared.wire.WireFault.{WireFault}
use Rattle.cal_model.specs.Streams.WireLimits.{head_limit}
use Rattle.cal_model.specs.Streams.Heads.{head_end, without_empty_lines, head_size}
use Rattle.cal_model.specs.Streams.HeadFields.{read_head, Framing, sized, chunked, framing_of}
use Rattle.cal_model.specs.Streams.Chunks.{Chunked, whole, unfinished, faulty, chunked_body}
use Rattle.cal_model.specs.Streams.StreamRequests.{idle, cut, with_length, with_chunks, with_body, with_head, at_head, front}
use Rattle.cal_model.proofs.Streams.StreamFronts.{bool_cases, option_cases, head_end_nil}
use Rattle.cal_model.proofs.Streams.ChunkFronts.{le_cases}
use Rattle.http_wire.specs.HeadSearch.{Skipped}
use Rattle.http_wire.proofs.HeadPlaces.{size_none}
use Rattle.http_wire.proofs.Beginning.{front_some, front_none, at_fits}

pub skipped_now : (o : List ℕ) (begun : ℕ) → Skipped o begun → without_empty_lines o ≡ without_empty_lines (drop begun o)
skipped_now o begun skipped = ap without_empty_lines (sym (append-nil o)) ∙ skipped [] ∙ ap without_empty_lines (append-nil (drop begun o))

pub idle_if : (o : List ℕ) → length o < head_limit → length (without_empty_lines o) ≡ 0 → front o ≡ idle
idle_if o short none =
    let nothing = no_octets (without_empty_lines o) none in
    let no : nat_le head_limit (length o) ≡ false = Prim.grind (arith, nat_tests, short) in
    front_none o (size_none o (ap head_end nothing ∙ head_end_nil)) ∙ rw no (rw nothing refl)
  where
    no_octets : (l : List ℕ) → length l ≡ 0 → l ≡ []
    no_octets [] e = refl
    no_octets (x ∷ l) e = absurd (omega (arith, e))

chunks_not_idle : {A : Type 0} (head : RequestHead) (c : Chunked) → with_chunks head c ≡ idle → A
chunks_not_idle head (whole body rest) e = cc
chunks_not_idle head unfinished e = cc
chunks_not_idle head (faulty why) e = cc

length_not_idle : {A : Type 0} (head : RequestHead) (n : ℕ) (o : List ℕ) → with_length head n o ≡ idle → A
length_not_idle head n o e = ⊎_elim (λ yes. let h = rw yes at e in cc) (λ no. let h = rw no at e in cc) (bool_cases (nat_le n (length o)))

body_not_idle : {A : Type 0} (head : RequestHead) (f : Framing) (o : List ℕ) → framing_of head ≡ f → with_body head o ≡ idle → A
body_not_idle head (sized n) o is e = length_not_idle head n o (sym (rw (is, with_body) refl) ∙ e)
body_not_idle head chunked o is e = chunks_not_idle head (chunked_body o) (sym (rw (is, with_body) refl) ∙ e)

head_not_idle : {A : Type 0} (r : Result RequestHead WireFault) (o : List ℕ) → with_head r o ≡ idle → A
head_not_idle (Err why) o e = cc
head_not_idle (Ok head) o e = body_not_idle head (framing_of head) o refl e

pub idle_then : (o : List ℕ) → front o ≡ idle → (length o < head_limit) × (length (without_empty_lines o) ≡ 0)
idle_then o e =
    ⊎_elim
    (λ none. let h = sym (front_none o none) ∙ e in ⊎_elim
    (λ long. let k = rw long.0 at h in cc)
    (λ short. (short.1, empty_of (without_empty_lines o) (rw short.0 at h)))
    (le_cases head_limit (length o)))
    (λ some. let h = sym (front_some o some.0 some.1) ∙ e in ⊎_elim
    (λ fits. head_not_idle (read_head (without_empty_lines (take some.0 o))) (drop some.0 o) (sym (at_fits some.0 o fits.1) ∙ h))
    (λ over. let k = rw (over.0, at_head) at h in cc)
    (le_cases some.0 head_limit))
    (option_cases (head_size o))
  where
    empty_of : (l : List ℕ) → cond (is_empty l) idle cut ≡ idle → length l ≡ 0
    empty_of [] h = refl
    empty_of (x ∷ l) h =
        let no : (length (x ∷ l) == 0) ≡ false = Prim.grind (arith, nat_tests) in
        let k = rw no at h in
        cc
