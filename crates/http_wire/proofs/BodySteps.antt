-- The steps of reading a body.
use Rattle.std.proofs.Common.{◌≡◌, ℕ, zero, suc, ◌+◌, ◌-◌, ◌≤◌, ◌<◌, true, false, ◌==◌, ◌&&◌, List, [], ◌∷◌, ◌++◌, length, take, drop, refl, sym, ap, ◌∙◌, arith, ⊎_elim, append_assoc, length-append}
use Rattle.std.specs.Prelude.{nat_le}
use Rattle.std.proofs.lemmas.Bool.Decides.{nat_tests}
use Rattle.std.proofs.lemmas.List.{drop_all, take-append-drop}
use Rattle.cal_base.specs.Texts.Octets.{line_feed, carriage_return}
use Rattle.cal_model.specs.Streams.Chunks.{Chunked, whole, unfinished, faulty, with_front, behind_data, chunks_behind}
use Rattle.cal_model.proofs.Streams.StreamFronts.{bool_cases}
use Rattle.cal_model.proofs.Streams.ChunkFronts.{le_cases}
use Rattle.http_wire.specs.BodyParts.{sized_reads, data_reads}

pub with_front_twice : (a b : List ℕ) (c : Chunked) → with_front a (with_front b c) ≡ with_front (a ++ b) c
with_front_twice a b (whole body rest) = ap (λ l. whole l rest) (sym (append_assoc a b body))
with_front_twice a b unfinished = refl
with_front_twice a b (faulty why) = refl

pub take_past : (xs ys : List ℕ) (n : ℕ) → length xs ≤ n → take n (xs ++ ys) ≡ xs ++ take (n - length xs) ys
take_past [] ys n h = ap (λ k. take k ys) (omega arith)
take_past (x ∷ xs) ys zero h = absurd (omega arith)
take_past (x ∷ xs) ys (suc n) h = ap (λ l. x ∷ l) (take_past xs ys n (omega arith) ∙ ap (λ k. xs ++ take k ys) (omega arith))

pub drop_past : (xs ys : List ℕ) (n : ℕ) → length xs ≤ n → drop n (xs ++ ys) ≡ drop (n - length xs) ys
drop_past [] ys n h = ap (λ k. drop k ys) (omega arith)
drop_past (x ∷ xs) ys zero h = absurd (omega arith)
drop_past (x ∷ xs) ys (suc n) h = drop_past xs ys n (omega arith) ∙ ap (λ k. drop k ys) (omega arith)

-- A body of a stated length

pub sized_more : (xs ys : List ℕ) (left : ℕ) → length xs ≤ left → sized_reads left (xs ++ ys) ≡ with_front xs (sized_reads (left - length xs) ys)
sized_more xs ys left h =
    let a = length-append xs ys in
    ⊎_elim
    (λ fits.
    let all : nat_le left (length (xs ++ ys)) ≡ true = Prim.grind (arith, nat_tests, fits.1) in
    rw (all, fits.0, take_past xs ys left h, drop_past xs ys left h) refl)
    (λ less.
    let all : nat_le left (length (xs ++ ys)) ≡ false = Prim.grind (arith, nat_tests, less.1) in
    rw (all, less.0) refl)
    (le_cases (left - length xs) (length ys))

pub sized_goes_on : (left : ℕ) (body octets more : List ℕ) → length octets < left → with_front body (sized_reads left (octets ++ more)) ≡ with_front (body ++ octets) (sized_reads (left - length octets) (drop (length octets) octets ++ more))
sized_goes_on left body octets more h =
    ap (with_front body) (sized_more octets more left (omega (arith, h)))
    ∙ with_front_twice body octets _
    ∙ ap (λ l. with_front (body ++ octets) (sized_reads (left - length octets) (l ++ more))) (sym (drop_all (length octets) octets (omega arith)))

pub sized_cut : (left : ℕ) (octets : List ℕ) → length octets < left → sized_reads left octets ≡ unfinished
sized_cut left octets h =
    let fails : nat_le left (length octets) ≡ false = Prim.grind (arith, nat_tests, h) in
    rw fails refl

-- The octets of a chunk

pub behind_front : (a d : List ℕ) (c : Chunked) → behind_data d (with_front a c) ≡ with_front a (behind_data d c)
behind_front a [] c = refl
behind_front a (x ∷ []) c = ⊎_elim (λ yes. rw yes refl) (λ no. rw no refl) (bool_cases (x == carriage_return))
behind_front a (x ∷ y ∷ d) c = ⊎_elim (λ yes. rw yes refl) (λ no. rw no refl) (bool_cases ((x == carriage_return) && (y == line_feed)))

pub data_more : (xs ys : List ℕ) (left total : ℕ) → length xs ≤ left → data_reads left total (xs ++ ys) ≡ with_front xs (data_reads (left - length xs) total ys)
data_more xs ys left total h =
    let two : (left + 2) - length xs ≡ (left - length xs) + 2 = omega (arith, h) in
    let next = chunks_behind (drop ((left - length xs) + 2) ys) 0 total in
    rw (drop_past xs ys left h, take_past xs ys left h, drop_past xs ys (left + 2) (omega (arith, h)), two)
    (ap (behind_data (drop (left - length xs) ys)) (sym (with_front_twice xs (take (left - length xs) ys) next))
    ∙ behind_front xs (drop (left - length xs) ys) (with_front (take (left - length xs) ys) next))

-- some octets of a chunk are taken
pub data_goes_on : (left n : ℕ) (body octets more : List ℕ) → n ≤ left → n ≤ length octets
    → with_front body (data_reads left (length body + left) (octets ++ more)) ≡ with_front (body ++ take n octets) (data_reads (left - n) (length (body ++ take n octets) + (left - n)) (drop n octets ++ more))
data_goes_on left n body octets more few within =
    let taken : length (take n octets) ≡ n = length_taken in
    let total : length (body ++ take n octets) + (left - n) ≡ length body + left = omega (arith, length-append body (take n octets), taken, few) in
    let cut : octets ++ more ≡ take n octets ++ (drop n octets ++ more) = ap (λ l. l ++ more) (sym (take-append-drop n octets)) ∙ append_assoc (take n octets) (drop n octets) more in
    let less : left - length (take n octets) ≡ left - n = ap (λ k. left - k) taken in
    ap (λ l. with_front body (data_reads left (length body + left) l)) cut
    ∙ ap (with_front body) (data_more (take n octets) (drop n octets ++ more) left (length body + left) (omega (arith, taken, few)))
    ∙ with_front_twice body (take n octets) (data_reads (left - length (take n octets)) (length body + left) (drop n octets ++ more))
    ∙ rw (less, total) refl
  where
    length_taken : length (take n octets) ≡ n
    length_taken = omega (arith, within, Rattle.std.proofs.Common.length-take n octets)
