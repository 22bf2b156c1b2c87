-- The steps in a trailer.
use Rattle.std.proofs.Common.{◌≡◌, ℕ, suc, ◌+◌, ◌-◌, ◌≤◌, ◌<◌, Bool, true, false, cond, ◌==◌, List, [], ◌∷◌, ◌++◌, length, drop, length-drop, Option, Some, None, refl, sym, ap, ◌∙◌, arith, ⊎_elim, append_assoc, append-nil}
use Rattle.std.specs.Prelude.{option_map, nat_le}
use Rattle.std.proofs.lemmas.Bool.Decides.{nat_tests}
use Rattle.std.proofs.lemmas.Option.{same_Some}
use Rattle.std.proofs.lemmas.List.{drop-drop, drop-append-le}
use Rattle.cal_model.specs.declared.wire.WireFault.TheVariants.{BadChunk}
use Rattle.cal_model.specs.Streams.WireLimits.{head_limit}
use Rattle.cal_model.specs.Streams.Heads.{empty_line, head_end}
use Rattle.cal_model.specs.Streams.Chunks.{Chunked, whole, unfinished, faulty, with_front}
use Rattle.cal_model.proofs.Streams.StreamFronts.{bool_cases, option_cases, none_some, head_end-append, head_end_found, head_end_later}
use Rattle.cal_model.proofs.Streams.ChunkFronts.{le_cases, head_end-sooner}
use Rattle.cal_model.proofs.Streams.ChunkSteps.{head_end-resume}
use Rattle.http_wire.specs.BodyParts.{trailer_reads, closing}
use Rattle.http_wire.proofs.LineSteps.{trailer_some, trailer_open, trailer_never}

pub trailer_found : (seen n : ℕ) (body o more : List ℕ) → head_end o ≡ Some n → n ≤ length o → seen + n ≤ head_limit + 1 → with_front body (trailer_reads seen (o ++ more)) ≡ whole body (drop n o ++ more)
trailer_found seen n body o more h within few =
    let fits : nat_le (seen + n) (head_limit + 1) ≡ true = Prim.grind (arith, nat_tests, few) in
    ap (with_front body) (trailer_some seen n (o ++ more) (head_end-append o more n h) ∙ ap (λ b. cond b (whole [] (drop n (o ++ more))) (faulty BadChunk)) fits)
    ∙ ap (λ l. whole l (drop n (o ++ more))) (append-nil body) ∙ ap (whole body) (drop-append-le n o more within)

fails : (seen n : ℕ) (a b : Chunked) → head_limit + 1 < seen + n → cond (nat_le (seen + n) (head_limit + 1)) a b ≡ b
fails seen n a b over =
    let no : nat_le (seen + n) (head_limit + 1) ≡ false = Prim.grind (arith, nat_tests, over) in
    ap (λ t. cond t a b) no

pub trailer_late : (seen n : ℕ) (o more : List ℕ) → head_end o ≡ Some n → head_limit + 1 < seen + n → trailer_reads seen (o ++ more) ≡ faulty BadChunk
trailer_late seen n o more h over = trailer_some seen n (o ++ more) (head_end-append o more n h) ∙ fails seen n _ _ over

pub trailer_cut : (seen m : ℕ) (o : List ℕ) → head_end o ≡ None → head_end (o ++ 10 ∷ 10 ∷ []) ≡ Some m → seen + m ≤ head_limit + 1 → trailer_reads seen o ≡ unfinished
trailer_cut seen m o h k few =
    let fits : nat_le (seen + m) (head_limit + 1) ≡ true = Prim.grind (arith, nat_tests, few) in
    trailer_open seen m o h k ∙ ap (λ b. cond b unfinished (faulty BadChunk)) fits

later_end : (o more : List ℕ) (m k : ℕ) → head_end (o ++ 10 ∷ 10 ∷ []) ≡ Some m → head_end (o ++ more) ≡ Some k → m ≤ k
later_end o more m k h e =
    let sooner = head_end-sooner o more k e in
    let same = same_Some _ _ (sym h ∙ sooner.1) in
    omega (arith, same, sooner.2)

pub trailer_over : (seen m : ℕ) (o more : List ℕ) → head_end (o ++ 10 ∷ 10 ∷ []) ≡ Some m → head_limit + 1 < seen + m → trailer_reads seen (o ++ more) ≡ faulty BadChunk
trailer_over seen m o more h over =
    ⊎_elim
    (λ none. ⊎_elim
    (λ never. trailer_never seen (o ++ more) none never)
    (λ some.
    let le = later_end o (more ++ 10 ∷ 10 ∷ []) m some.0 h (ap head_end (sym (append_assoc o more (10 ∷ 10 ∷ []))) ∙ some.1) in
    trailer_open seen some.0 (o ++ more) none some.1 ∙ fails seen some.0 _ _ (omega (arith, le, over)))
    (option_cases (head_end ((o ++ more) ++ 10 ∷ 10 ∷ []))))
    (λ some.
    let le = later_end o more m some.0 h some.1 in
    trailer_some seen some.0 (o ++ more) some.1 ∙ fails seen some.0 _ _ (omega (arith, le, over)))
    (option_cases (head_end (o ++ more)))

pub trailer_goes_on : (seen done : ℕ) (o more : List ℕ) → head_end o ≡ None → done + 2 ≤ length o → trailer_reads seen (o ++ more) ≡ trailer_reads (seen + done) (drop done o ++ more)
trailer_goes_on seen done o more h long =
    let here = head_end-resume done o more long h in
    let there : head_end ((o ++ more) ++ 10 ∷ 10 ∷ []) ≡ option_map (λ n. done + n) (head_end ((drop done o ++ more) ++ 10 ∷ 10 ∷ [])) =
    ap head_end (append_assoc o more (10 ∷ 10 ∷ [])) ∙ head_end-resume done o (more ++ 10 ∷ 10 ∷ []) long h ∙ ap (λ l. option_map (λ n. done + n) (head_end l)) (sym (append_assoc (drop done o) more (10 ∷ 10 ∷ []))) in
    ⊎_elim
    (λ none. ⊎_elim
    (λ never. trailer_never seen (o ++ more) (here ∙ ap (option_map (λ n. done + n)) none) (there ∙ ap (option_map (λ n. done + n)) never) ∙ sym (trailer_never (seen + done) (drop done o ++ more) none never))
    (λ some.
    let sum : seen + (done + some.0) ≡ (seen + done) + some.0 = omega arith in
    trailer_open seen (done + some.0) (o ++ more) (here ∙ ap (option_map (λ n. done + n)) none) (there ∙ ap (option_map (λ n. done + n)) some.1)
    ∙ ap (λ s. cond (nat_le s (head_limit + 1)) unfinished (faulty BadChunk)) sum
    ∙ sym (trailer_open (seen + done) some.0 (drop done o ++ more) none some.1))
    (option_cases (head_end ((drop done o ++ more) ++ 10 ∷ 10 ∷ []))))
    (λ some.
    let sum : seen + (done + some.0) ≡ (seen + done) + some.0 = omega arith in
    let rest : drop (done + some.0) (o ++ more) ≡ drop some.0 (drop done o ++ more) = sym (drop-drop some.0 done (o ++ more)) ∙ ap (drop some.0) (drop-append-le done o more (omega (arith, long))) in
    trailer_some seen (done + some.0) (o ++ more) (here ∙ ap (option_map (λ n. done + n)) some.1)
    ∙ ap (λ s. cond (nat_le s (head_limit + 1)) (whole [] (drop (done + some.0) (o ++ more))) (faulty BadChunk)) sum
    ∙ ap (λ l. cond (nat_le ((seen + done) + some.0) (head_limit + 1)) (whole [] l) (faulty BadChunk)) rest
    ∙ sym (trailer_some (seen + done) some.0 (drop done o ++ more) some.1))
    (option_cases (head_end (drop done o ++ more)))

-- The last two octets decide where two line feeds end the trailer

found_at : (b : ℕ) (xs : List ℕ) (n : ℕ) → (b == 10) ≡ true → empty_line xs ≡ Some n → head_end (b ∷ xs) ≡ Some (suc n)
found_at b xs n lf e = head_end_found b xs (suc n) (rw (lf, e) refl)

later_at : (b : ℕ) (xs : List ℕ) (n : ℕ) → (b == 10) ≡ false → head_end xs ≡ Some n → head_end (b ∷ xs) ≡ Some (suc n)
later_at b xs n other e = head_end_later b xs (rw other refl) ∙ ap (option_map suc) e

two_feeds : head_end (10 ∷ 10 ∷ []) ≡ Some 2
two_feeds = found_at 10 (10 ∷ []) 1 refl refl

pub closing_is : (t : List ℕ) → length t ≤ 2 → head_end t ≡ None → head_end (t ++ 10 ∷ 10 ∷ []) ≡ Some (length t + closing t)
closing_is [] short none = two_feeds
closing_is (b ∷ []) short none =
    ⊎_elim (λ yes. rw yes (found_at b (10 ∷ 10 ∷ []) 1 yes refl)) (λ no. rw no (later_at b (10 ∷ 10 ∷ []) 2 no two_feeds)) (bool_cases (b == 10))
closing_is (b ∷ c ∷ []) short none = by (c == 10) (b == 10) (c == 13) refl refl refl
  where
    by : (feed first cr : Bool) → (c == 10) ≡ feed → (b == 10) ≡ first → (c == 13) ≡ cr → head_end (b ∷ c ∷ 10 ∷ 10 ∷ []) ≡ Some (2 + closing (b ∷ c ∷ []))
    by true true cr x y z = none_some 2 (sym none ∙ found_at b (c ∷ []) 1 y (rw x refl))
    by true false cr x y z = rw x (later_at b (c ∷ 10 ∷ 10 ∷ []) 2 y (found_at c (10 ∷ 10 ∷ []) 1 x refl))
    by false true true x y z = rw (x, y, z) (found_at b (c ∷ 10 ∷ 10 ∷ []) 2 y (rw (x, z) refl))
    by false true false x y z = rw (x, y, z) (head_end_later b (c ∷ 10 ∷ 10 ∷ []) (rw (y, x, z) refl) ∙ ap (option_map suc) (later_at c (10 ∷ 10 ∷ []) 2 x two_feeds))
    by false false cr x y z = rw (x, y) (later_at b (c ∷ 10 ∷ 10 ∷ []) 3 y (later_at c (10 ∷ 10 ∷ []) 2 x two_feeds))
closing_is (b ∷ c ∷ d ∷ t) short none = absurd (omega (arith, short))

-- all of it: where two line feeds end the octets, by their last two
pub closes : (o : List ℕ) (done : ℕ) → head_end o ≡ None → (done ≡ 0) × (length o ≤ 2) → head_end (o ++ 10 ∷ 10 ∷ []) ≡ Some (done + (length (drop done o) + closing (drop done o)))
closes o done none short =
    let sum : length o + closing o ≡ 0 + (length o + closing o) = omega arith in
    rw short.0 (closing_is o short.1 none ∙ ap Some sum)

pub closes_behind : (o : List ℕ) (done : ℕ) → head_end o ≡ None → done + 2 ≡ length o → head_end (o ++ 10 ∷ 10 ∷ []) ≡ Some (done + (length (drop done o) + closing (drop done o)))
closes_behind o done none all =
    let l = length-drop done o in
    let open_tail : head_end (drop done o) ≡ None = below (head_end (drop done o)) (sym (ap (λ x. option_map (λ n. done + n) (head_end x)) (append-nil (drop done o))) ∙ sym (head_end-resume done o [] (omega (arith, all)) none) ∙ ap head_end (append-nil o) ∙ none) in
    head_end-resume done o (10 ∷ 10 ∷ []) (omega (arith, all)) none ∙ ap (option_map (λ n. done + n)) (closing_is (drop done o) (omega (arith, all, l)) open_tail)
  where
    below : (x : Option ℕ) → option_map (λ n. done + n) x ≡ None → x ≡ None
    below None e = refl
    below (Some n) e = none_some (done + n) (sym e)

pub closes_all : (o : List ℕ) → head_end o ≡ None → head_end (o ++ 10 ∷ 10 ∷ []) ≡ Some ((length o - 2) + (length (drop (length o - 2) o) + closing (drop (length o - 2) o)))
closes_all o none =
    ⊎_elim
    (λ short. closes o (length o - 2) none (omega (arith, short.1), short.1))
    (λ long. closes_behind o (length o - 2) none (omega (arith, long.1)))
    (le_cases (length o) 2)

pub goes_on_all : (seen : ℕ) (o more : List ℕ) → head_end o ≡ None → trailer_reads seen (o ++ more) ≡ trailer_reads (seen + (length o - 2)) (drop (length o - 2) o ++ more)
goes_on_all seen o more none =
    ⊎_elim
    (λ short.
    let zero_done : length o - 2 ≡ 0 = omega (arith, short.1) in
    let same : seen ≡ seen + (length o - 2) = omega (arith, short.1) in
    ap (λ s. trailer_reads s (o ++ more)) same ∙ ap (λ k. trailer_reads (seen + (length o - 2)) (drop k o ++ more)) (sym zero_done))
    (λ long. trailer_goes_on seen (length o - 2) o more none (omega (arith, long.1)))
    (le_cases (length o) 1)
