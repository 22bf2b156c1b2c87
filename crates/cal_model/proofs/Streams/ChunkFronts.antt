-- A body in chunks stays whatever follows it, and so does its first fault.
use Rattle.std.proofs.Common.{◌≡◌, ℕ, zero, suc, ◌+◌, ◌-◌, ◌≤◌, ◌<◌, Bool, true, false, cond, not, ◌==◌, ◌&&◌, ◌||◌, List, [], ◌∷◌, ◌++◌, length, take, drop, Some, None, refl, sym, ap, subst, ◌∙◌, arith, ◌⊎◌, inl, inr, ⊎_elim, append_assoc}
use Rattle.std.specs.Prelude.{option_map, nat_lt, nat_le}
use Rattle.std.proofs.lemmas.Option.{same_Some}
use Rattle.std.proofs.lemmas.Bool.{false≢true}
use Rattle.std.proofs.lemmas.Bool.Decides.{nat_tests}
use Rattle.std.proofs.lemmas.List.{take-append-le, drop-append-le, length-drop, drop_all}
use Rattle.cal_base.specs.Texts.Octets.{line_feed, carriage_return}
use Rattle.cal_model.specs.declared.wire.WireFault.TheVariants.{BadChunk}
use Rattle.cal_model.specs.Streams.WireLimits.{head_limit, body_limit}
use Rattle.cal_model.specs.Streams.Heads.{empty_line, ends_here, head_end}
use Rattle.cal_model.specs.Streams.Chunks.{begins_chunk_line, has_front, line_size, first_line_text, is_broken, chunk_size, trailer_size, begins_trailer, Chunked, whole, unfinished, faulty, with_front, behind_last, behind_data, behind_line, at_size, at_line, at_chunk, chunks_behind}
use Rattle.cal_model.specs.Streams.WireLimits.{chunk_line_limit}
use Rattle.cal_model.proofs.Streams.StreamFronts.{bool_cases, option_cases, none_some, suc_some, empty_line-append, head_end_nil, head_end_short, head_end_found, head_end_later, head_end-append, head_end-within}

-- Lines

pub line_size_here : (b : ℕ) (xs : List ℕ) → (b == line_feed) ≡ true → line_size (b ∷ xs) ≡ Some 1
unfolding line_size
line_size_here b xs h = rw (h, line_size) refl

pub line_size_later : (b : ℕ) (xs : List ℕ) → (b == line_feed) ≡ false → line_size (b ∷ xs) ≡ option_map suc (line_size xs)
unfolding line_size
line_size_later b xs h = rw (h, line_size) refl

pub line_text_here : (b : ℕ) (xs : List ℕ) → (b == line_feed) ≡ true → first_line_text (b ∷ xs) ≡ []
unfolding first_line_text
line_text_here b xs h = rw (h, first_line_text) refl

pub line_text_later : (b : ℕ) (xs : List ℕ) → (b == line_feed) ≡ false → first_line_text (b ∷ xs) ≡ b ∷ first_line_text xs
unfolding first_line_text
line_text_later b xs h = rw (h, first_line_text) refl

-- a whole line stays
pub line_size-append : (xs ys : List ℕ) (n : ℕ) → line_size xs ≡ Some n → (line_size (xs ++ ys) ≡ Some n) × (first_line_text (xs ++ ys) ≡ first_line_text xs) × (n ≤ length xs)
unfolding line_size
line_size-append [] ys n e = none_some n e
line_size-append (b ∷ xs) ys n e =
    ⊎_elim
    (λ yes.
    let one = same_Some _ _ (sym (line_size_here b xs yes) ∙ e) in
    (line_size_here b (xs ++ ys) yes ∙ ap Some one, line_text_here b (xs ++ ys) yes ∙ sym (line_text_here b xs yes), omega arith))
    (λ no.
    let some = suc_some (line_size xs) n (sym (line_size_later b xs no) ∙ e) in
    let ih = line_size-append xs ys some.0 some.1 in
    let bound = ih.2 in
    let m = some.2 in (
      line_size_later b (xs ++ ys) no ∙ ap (option_map suc) ih.0 ∙ ap Some (sym m),
      line_text_later b (xs ++ ys) no ∙ ap (λ l. b ∷ l) ih.1 ∙ sym (line_text_later b xs no),
      omega arith,
    ))
    (bool_cases (b == line_feed))

-- the text of a line that goes on begins with what there was of it
line_text-append : (xs ys : List ℕ) → (zs : List ℕ) × (first_line_text (xs ++ ys) ≡ first_line_text xs ++ zs)
unfolding first_line_text
line_text-append [] ys = (first_line_text ys, refl)
line_text-append (b ∷ xs) ys =
    ⊎_elim
    (λ yes. ([], line_text_here b (xs ++ ys) yes ∙ ap (λ l. l ++ []) (sym (line_text_here b xs yes))))
    (λ no.
    let ih = line_text-append xs ys in
    (ih.0, line_text_later b (xs ++ ys) no ∙ ap (λ l. b ∷ l) ih.1 ∙ ap (λ l. l ++ ih.0) (sym (line_text_later b xs no))))
    (bool_cases (b == line_feed))

pub or_true : (a b : Bool) → (a || b) ≡ true → (a ≡ true) ⊎ (b ≡ true)
or_true true b e = inl refl
or_true false b e = inr e

pub left_or : (a b : Bool) → a ≡ true → (a || b) ≡ true
left_or a b e = rw e refl

pub right_or : (a b : Bool) → b ≡ true → (a || b) ≡ true
right_or true b e = refl
right_or false b e = e

pub here_front : (test : List ℕ → Bool) (done xs : List ℕ) → test done ≡ true → has_front test done xs ≡ true
here_front test done [] h = h
here_front test done (x ∷ xs) h = left_or (test done) _ h

pub has_front-append : (test : List ℕ → Bool) (done xs ys : List ℕ) → has_front test done xs ≡ true → has_front test done (xs ++ ys) ≡ true
has_front-append test done [] ys h = here_front test done ys h
has_front-append test done (x ∷ xs) ys h =
    ⊎_elim (λ now. left_or (test done) _ now) (λ later. right_or (test done) _ (has_front-append test (done ++ x ∷ []) xs ys later)) (or_true (test done) _ h)

-- the first octets of a longer list begin with those of a shorter one
pub take-longer : (n : ℕ) (xs ys : List ℕ) → (zs : List ℕ) × (take n (xs ++ ys) ≡ take n xs ++ zs)
take-longer zero xs ys = ([], refl)
take-longer (suc n) [] ys = (take (suc n) ys, refl)
take-longer (suc n) (x ∷ xs) ys = let ih = take-longer n xs ys in (ih.0, ap (λ l. x ∷ l) ih.1)

-- a broken line stays broken
is_broken-append : (xs ys : List ℕ) → is_broken (first_line_text xs) ≡ true → is_broken (first_line_text (xs ++ ys)) ≡ true
unfolding is_broken
is_broken-append xs ys h =
    let longer = line_text-append xs ys in
    let cut = take-longer chunk_line_limit (first_line_text xs) longer.0 in
    rw longer.1 (rw cut.1 (has_front-append (λ front. not (begins_chunk_line front)) [] (take chunk_line_limit (first_line_text xs)) cut.0 h))

-- Trailers

trailer_found : (xs : List ℕ) (k : ℕ) → empty_line xs ≡ Some k → trailer_size xs ≡ Some k
trailer_found xs k h = rw (h, trailer_size) refl

trailer_later : (xs : List ℕ) → empty_line xs ≡ None → trailer_size xs ≡ head_end xs
trailer_later xs h = rw (h, trailer_size) refl

no_empty_line : (xs ys : List ℕ) (m : ℕ) → head_end xs ≡ Some m → empty_line xs ≡ None → empty_line (xs ++ ys) ≡ None
no_empty_line [] ys m e none = none_some m (sym head_end_nil ∙ e)
no_empty_line (x ∷ []) ys m e none = none_some m (sym (head_end_short x) ∙ e)
no_empty_line (x ∷ y ∷ more) ys m e none = none

-- a whole trailer stays
pub trailer_size-append : (xs ys : List ℕ) (n : ℕ) → trailer_size xs ≡ Some n → trailer_size (xs ++ ys) ≡ Some n
trailer_size-append xs ys n e =
    ⊎_elim
    (λ none.
    let h = sym (trailer_later xs none) ∙ e in
    trailer_later (xs ++ ys) (no_empty_line xs ys n h none) ∙ head_end-append xs ys n h)
    (λ found. trailer_found (xs ++ ys) found.0 (empty_line-append xs ys found.0 found.1) ∙ (sym (trailer_found xs found.0 found.1) ∙ e))
    (option_cases (empty_line xs))

-- it is found as the head behind a line feed
pub trailer_as_head : (xs : List ℕ) → head_end (10 ∷ xs) ≡ option_map suc (trailer_size xs)
trailer_as_head xs =
    ⊎_elim
    (λ none. head_end_later 10 xs (rw none refl) ∙ ap (option_map suc) (sym (trailer_later xs none)))
    (λ found. head_end_found 10 xs (suc found.0) (rw found.1 refl) ∙ ap (option_map suc) (sym (trailer_found xs found.0 found.1)))
    (option_cases (empty_line xs))

and_left : (a b : Bool) → (a && b) ≡ true → a ≡ true
and_left true b e = refl
and_left false b e = e

-- an empty line has one octet or two
pub empty_line-least : (xs : List ℕ) (k : ℕ) → empty_line xs ≡ Some k → 1 ≤ k
empty_line-least [] k h = none_some k h
empty_line-least (y ∷ []) k h =
    ⊎_elim (λ yes. let s = same_Some _ _ (rw yes at h) in omega arith) (λ no. none_some k (rw no at h)) (bool_cases (y == line_feed))
empty_line-least (y ∷ z ∷ ys) k h =
    ⊎_elim
    (λ yes. let s = same_Some _ _ (rw yes at h) in omega arith)
    (λ no.
    let h' = rw no at h in
    ⊎_elim (λ yes. let s = same_Some _ _ (rw yes at h') in omega arith) (λ other. none_some k (rw other at h')) (bool_cases ((y == carriage_return) && (z == line_feed))))
    (bool_cases (y == line_feed))

empty_line-most : (xs : List ℕ) (k : ℕ) → empty_line xs ≡ Some k → k ≤ 2
empty_line-most [] k h = none_some k h
empty_line-most (y ∷ []) k h =
    ⊎_elim (λ yes. let s = same_Some _ _ (rw yes at h) in omega arith) (λ no. none_some k (rw no at h)) (bool_cases (y == line_feed))
empty_line-most (y ∷ z ∷ ys) k h =
    ⊎_elim
    (λ yes. let s = same_Some _ _ (rw yes at h) in omega arith)
    (λ no.
    let h' = rw no at h in
    ⊎_elim (λ yes. let s = same_Some _ _ (rw yes at h') in omega arith) (λ other. none_some k (rw other at h')) (bool_cases ((y == carriage_return) && (z == line_feed))))
    (bool_cases (y == line_feed))

ends_least : (c : ℕ) (ys : List ℕ) (k : ℕ) → ends_here c ys ≡ Some k → 2 ≤ k
ends_least c ys k h =
    ⊎_elim
    (λ yes.
    let some = suc_some (empty_line ys) k (rw yes at h) in
    let w = empty_line-least ys some.0 some.1 in
    let m = some.2 in
    omega arith)
    (λ no. none_some k (rw no at h))
    (bool_cases (c == line_feed))

ends_most : (c : ℕ) (ys : List ℕ) (k : ℕ) → ends_here c ys ≡ Some k → k ≤ 3
ends_most c ys k h =
    ⊎_elim
    (λ yes.
    let some = suc_some (empty_line ys) k (rw yes at h) in
    let w = empty_line-most ys some.0 some.1 in
    let m = some.2 in
    omega arith)
    (λ no. none_some k (rw no at h))
    (bool_cases (c == line_feed))

-- a head has two octets at least
pub head_end-least : (xs : List ℕ) (n : ℕ) → head_end xs ≡ Some n → 2 ≤ n
head_end-least [] n e = none_some n (sym head_end_nil ∙ e)
head_end-least (b ∷ xs) n e =
    ⊎_elim
    (λ none.
    let some = suc_some (head_end xs) n (sym (head_end_later b xs none) ∙ e) in
    let ih = head_end-least xs some.0 some.1 in
    let m = some.2 in
    omega arith)
    (λ found.
    let same = same_Some _ _ (sym (head_end_found b xs found.0 found.1) ∙ e) in
    let k = ends_least b xs found.0 found.1 in
    omega arith)
    (option_cases (ends_here b xs))

-- an empty line within some octets stands there too where two line feeds follow in place of the others, and no later
empty_line-sooner : (t u : List ℕ) (k : ℕ) → empty_line (t ++ u) ≡ Some k → (m : ℕ) × (empty_line (t ++ 10 ∷ 10 ∷ []) ≡ Some m) × (m ≤ k)
empty_line-sooner [] u k e = (1, refl, empty_line-least u k e)
empty_line-sooner (x ∷ []) [] k e =
    ⊎_elim (λ yes. (1, rw yes refl, empty_line-least (x ∷ []) k e)) (λ no. none_some k (rw no at e)) (bool_cases (x == line_feed))
empty_line-sooner (x ∷ []) (y ∷ u) k e =
    ⊎_elim
    (λ yes. (1, rw yes refl, empty_line-least (x ∷ y ∷ u) k e))
    (λ no.
    let h = rw no at e in
    ⊎_elim
    (λ both.
    let two = same_Some _ _ (rw both at h) in
    let cr = and_left (x == carriage_return) (y == line_feed) both in
    (2, rw (no, cr) refl, omega arith))
    (λ other. none_some k (rw other at h))
    (bool_cases ((x == carriage_return) && (y == line_feed))))
    (bool_cases (x == line_feed))
empty_line-sooner (x ∷ y ∷ t) u k e = (k, e, omega arith)

-- so does the end of a head
pub head_end-sooner : (t u : List ℕ) (n : ℕ) → head_end (t ++ u) ≡ Some n → (m : ℕ) × (head_end (t ++ 10 ∷ 10 ∷ []) ≡ Some m) × (m ≤ n)
head_end-sooner [] u n e = (2, head_end_found 10 (10 ∷ []) 2 refl, head_end-least u n e)
head_end-sooner (b ∷ t) u n e =
    ⊎_elim
    (λ none.
    let some = suc_some (head_end (t ++ u)) n (sym (head_end_later b (t ++ u) none) ∙ e) in
    let ih = head_end-sooner t u some.0 some.1 in
    let least = head_end-least (t ++ u) some.0 some.1 in
    let bound = ih.2 in
    let m = some.2 in
    ⊎_elim
    (λ later. (suc ih.0, head_end_later b (t ++ 10 ∷ 10 ∷ []) later ∙ ap (option_map suc) ih.1, omega arith))
    (λ found.
    let most = ends_most b (t ++ 10 ∷ 10 ∷ []) found.0 found.1 in
    (found.0, head_end_found b (t ++ 10 ∷ 10 ∷ []) found.0 found.1, omega arith))
    (option_cases (ends_here b (t ++ 10 ∷ 10 ∷ []))))
    (λ found.
    let same = same_Some _ _ (sym (head_end_found b (t ++ u) found.0 found.1) ∙ e) in
    ⊎_elim
    (λ yes.
    let some = suc_some (empty_line (t ++ u)) found.0 (rw yes at found.1) in
    let sooner = empty_line-sooner t u some.0 some.1 in
    let bound = sooner.2 in
    let m = some.2 in
    (suc sooner.0, head_end_found b (t ++ 10 ∷ 10 ∷ []) (suc sooner.0) (rw yes (rw sooner.1 refl)), omega arith))
    (λ no. none_some found.0 (rw no at found.1))
    (bool_cases (b == line_feed)))
    (option_cases (ends_here b (t ++ u)))

-- and that of a trailer
trailer_size-sooner : (t u : List ℕ) (n : ℕ) → trailer_size (t ++ u) ≡ Some n → (m : ℕ) × (trailer_size (t ++ 10 ∷ 10 ∷ []) ≡ Some m) × (m ≤ n)
trailer_size-sooner t u n e =
    let sooner = head_end-sooner (10 ∷ t) u (suc n) (trailer_as_head (t ++ u) ∙ ap (option_map suc) e) in
    let some = suc_some (trailer_size (t ++ 10 ∷ 10 ∷ [])) sooner.0 (sym (trailer_as_head (t ++ 10 ∷ 10 ∷ [])) ∙ sooner.1) in
    let bound = sooner.2 in
    let m = some.2 in
    (some.0, some.1, omega arith)

-- Bodies

-- what is so stays so whatever follows
abbrev pub Stays : Chunked → List ℕ → Chunked → Type 0
Stays (whole body rest) ys later = later ≡ whole body (rest ++ ys)
Stays unfinished ys later = Unit {0}
Stays (faulty why) ys later = later ≡ faulty why

pub le_cases : (n m : ℕ) → ((nat_le n m ≡ true) × (n ≤ m)) ⊎ ((nat_le n m ≡ false) × (m < n))
le_cases n m = ⊎_elim (λ yes. inl (yes, Prim.grind (arith, nat_tests))) (λ no. inr (no, Prim.grind (arith, nat_tests))) (bool_cases (nat_le n m))

pub trailer_ends : (octets : List ℕ) (n : ℕ) → trailer_size octets ≡ Some n → behind_last octets ≡ cond (nat_le n head_limit) (whole [] (drop n octets)) (faulty BadChunk)
trailer_ends octets n h = rw (h, behind_last) refl

pub trailer_goes_on : (octets : List ℕ) → trailer_size octets ≡ None → behind_last octets ≡ cond (begins_trailer octets) unfinished (faulty BadChunk)
trailer_goes_on octets h = rw (h, behind_last) refl

pub begins_within : (octets : List ℕ) (n : ℕ) → trailer_size (octets ++ 10 ∷ 10 ∷ []) ≡ Some n → begins_trailer octets ≡ nat_le n head_limit
begins_within octets n h = rw (h, begins_trailer) refl

pub trailer_size-within : (xs : List ℕ) (n : ℕ) → trailer_size xs ≡ Some n → n ≤ length xs
trailer_size-within xs n e =
    let w = head_end-within (10 ∷ xs) (suc n) (trailer_as_head xs ∙ ap (option_map suc) e) in
    omega arith

-- what is so of a value is so of an equal one
as_is : (c d : Chunked) (ys : List ℕ) (later : Chunked) → c ≡ d → Stays d ys later → Stays c ys later
as_is c d ys later same h = subst (λ x. Stays x ys later) (sym same) h

last_whole : (octets ys : List ℕ) (n : ℕ) → trailer_size octets ≡ Some n → Stays (behind_last octets) ys (behind_last (octets ++ ys))
last_whole octets ys n found =
    let later = trailer_ends (octets ++ ys) n (trailer_size-append octets ys n found) in
    ⊎_elim
    (λ yes.
    as_is (behind_last octets) (whole [] (drop n octets)) ys (behind_last (octets ++ ys))
    (trailer_ends octets n found ∙ ap (λ b. cond b (whole [] (drop n octets)) (faulty BadChunk)) yes)
    (later ∙ ap (λ b. cond b (whole [] (drop n (octets ++ ys))) (faulty BadChunk)) yes ∙ ap (whole []) (drop-append-le n octets ys (trailer_size-within octets n found))))
    (λ no.
    as_is (behind_last octets) (faulty BadChunk) ys (behind_last (octets ++ ys))
    (trailer_ends octets n found ∙ ap (λ b. cond b (whole [] (drop n octets)) (faulty BadChunk)) no)
    (later ∙ ap (λ b. cond b (whole [] (drop n (octets ++ ys))) (faulty BadChunk)) no))
    (bool_cases (nat_le n head_limit))

-- where no trailer can begin so, none does however it goes on
none_ends : (octets ys : List ℕ) (n : ℕ) → begins_trailer octets ≡ false → trailer_size (octets ++ ys) ≡ Some n → nat_le n head_limit ≡ false
none_ends octets ys n never found =
    let sooner = trailer_size-sooner octets ys n found in
    let short : nat_le sooner.0 head_limit ≡ false = sym (begins_within octets sooner.0 sooner.1) ∙ never in
    let bound = sooner.2 in
    ⊎_elim
    (λ within. ⊎_elim (λ fits. absurd (false≢true (sym short ∙ fits.0))) (λ over. absurd (omega (arith, within.1, over.1, bound))) (le_cases sooner.0 head_limit))
    (λ over. over.0)
    (le_cases n head_limit)

pub begins_none : (octets : List ℕ) → trailer_size (octets ++ 10 ∷ 10 ∷ []) ≡ None → begins_trailer octets ≡ false
begins_none octets h = rw (h, begins_trailer) refl

none_begins : (octets ys : List ℕ) → begins_trailer octets ≡ false → begins_trailer (octets ++ ys) ≡ false
none_begins octets ys never =
    ⊎_elim
    (λ none. begins_none (octets ++ ys) none)
    (λ found.
    let there : trailer_size (octets ++ (ys ++ 10 ∷ 10 ∷ [])) ≡ Some found.0 = ap trailer_size (sym (append_assoc octets ys (10 ∷ 10 ∷ []))) ∙ found.1 in
    begins_within (octets ++ ys) found.0 found.1 ∙ none_ends octets (ys ++ 10 ∷ 10 ∷ []) found.0 never there)
    (option_cases (trailer_size ((octets ++ ys) ++ 10 ∷ 10 ∷ [])))

last_cut : (octets ys : List ℕ) → trailer_size octets ≡ None → Stays (behind_last octets) ys (behind_last (octets ++ ys))
last_cut octets ys none =
    ⊎_elim
    (λ begins. as_is (behind_last octets) unfinished ys (behind_last (octets ++ ys)) (trailer_goes_on octets none ∙ ap (λ b. cond b unfinished (faulty BadChunk)) begins) tt)
    (λ no.
    as_is (behind_last octets) (faulty BadChunk) ys (behind_last (octets ++ ys))
    (trailer_goes_on octets none ∙ ap (λ b. cond b unfinished (faulty BadChunk)) no)
    (⊎_elim
    (λ still. trailer_goes_on (octets ++ ys) still ∙ ap (λ b. cond b unfinished (faulty BadChunk)) (none_begins octets ys no))
    (λ found. trailer_ends (octets ++ ys) found.0 found.1 ∙ ap (λ b. cond b (whole [] (drop found.0 (octets ++ ys))) (faulty BadChunk)) (none_ends octets ys found.0 no found.1))
    (option_cases (trailer_size (octets ++ ys)))))
    (bool_cases (begins_trailer octets))

behind_last-stays : (octets ys : List ℕ) → Stays (behind_last octets) ys (behind_last (octets ++ ys))
behind_last-stays octets ys =
    ⊎_elim (λ none. last_cut octets ys none) (λ found. last_whole octets ys found.0 found.1) (option_cases (trailer_size octets))

with_front-stays : (front : List ℕ) (c later : Chunked) (ys : List ℕ) → Stays c ys later → Stays (with_front front c) ys (with_front front later)
with_front-stays front (whole body rest) later ys h = ap (with_front front) h
with_front-stays front unfinished later ys h = tt
with_front-stays front (faulty why) later ys h = ap (with_front front) h

-- behind a chunk's octets
data_stays : (behind ys : List ℕ) (c later : Chunked) → 0 < length behind → Stays c ys later → Stays (behind_data behind c) ys (behind_data (behind ++ ys) later)
data_stays [] ys c later some h = absurd (omega arith)
data_stays (b ∷ []) ys c later some h =
    ⊎_elim
    (λ yes. as_is (behind_data (b ∷ []) c) unfinished ys (behind_data (b ∷ ys) later) (rw yes refl) tt)
    (λ no. as_is (behind_data (b ∷ []) c) (faulty BadChunk) ys (behind_data (b ∷ ys) later) (rw no refl) (one_more b ys later no))
    (bool_cases (b == carriage_return))
  where
    one_more : (b : ℕ) (ys : List ℕ) (later : Chunked) → (b == carriage_return) ≡ false → behind_data (b ∷ ys) later ≡ faulty BadChunk
    one_more b [] later other = rw other refl
    one_more b (y ∷ ys) later other = rw other refl
data_stays (b ∷ d ∷ more) ys c later some h =
    ⊎_elim
    (λ yes. as_is (behind_data (b ∷ d ∷ more) c) c ys (behind_data (b ∷ d ∷ more ++ ys) later) (rw yes refl) (rw yes h))
    (λ no. as_is (behind_data (b ∷ d ∷ more) c) (faulty BadChunk) ys (behind_data (b ∷ d ∷ more ++ ys) later) (rw no refl) (rw no refl))
    (bool_cases ((b == carriage_return) && (d == line_feed)))

no_data : (behind ys : List ℕ) (c later : Chunked) → length behind ≡ 0 → Stays (behind_data behind c) ys later
no_data [] ys c later e = tt
no_data (b ∷ behind) ys c later e = absurd (omega arith)

behind_line-stays : (size : ℕ) (octets ys : List ℕ) (c later : Chunked) → Stays c ys later → Stays (behind_line size octets c) ys (behind_line size (octets ++ ys) later)
behind_line-stays size octets ys c later h =
    ⊎_elim
    (λ short.
    let bound = short.1 in
    no_data (drop size octets) ys (with_front (take size octets) c) (behind_line size (octets ++ ys) later) (ap length (drop_all size octets bound)))
    (λ long.
    let bound = long.1 in
    let size_of = length-drop size octets in
    subst (λ x. Stays (behind_line size octets c) ys (behind_data x (with_front (take size (octets ++ ys)) later)))
    (sym (drop-append-le size octets ys (omega arith)))
    (subst (λ x. Stays (behind_line size octets c) ys (behind_data (drop size octets ++ ys) (with_front x later)))
    (sym (take-append-le size octets ys (omega arith)))
    (data_stays (drop size octets) ys (with_front (take size octets) c) (with_front (take size octets) later) (omega arith) (with_front-stays (take size octets) c later ys h))))
    (le_cases (length octets) size)

at_size-stays : (before size : ℕ) (octets ys : List ℕ) (following later : ℕ → Chunked) → ((n : ℕ) → Stays (following n) ys (later n)) → Stays (at_size before size octets following) ys (at_size before size (octets ++ ys) later)
at_size-stays before size octets ys following later h =
    ⊎_elim
    (λ over. rw over refl)
    (λ within. rw within (⊎_elim
    (λ last. rw last (behind_last-stays octets ys))
    (λ chunk. rw chunk (behind_line-stays size octets ys (following (before + size)) (later (before + size)) (h (before + size))))
    (bool_cases (size == 0))))
    (bool_cases (nat_lt body_limit (before + size)))

both_are : (c d : Chunked) (ys : List ℕ) (later then : Chunked) → c ≡ d → later ≡ then → Stays d ys then → Stays c ys later
both_are c d ys later then e f h = as_is c d ys later e (subst (λ x. Stays d ys x) (sym f) h)

pub at_line_none : (before n : ℕ) (octets : List ℕ) (following : ℕ → ℕ → Chunked) → chunk_size (take n octets) ≡ None → at_line before n octets following ≡ faulty BadChunk
at_line_none before n octets following h = rw (h, at_line) refl

pub at_line_some : (before n size : ℕ) (octets : List ℕ) (following : ℕ → ℕ → Chunked) → chunk_size (take n octets) ≡ Some size → at_line before n octets following ≡ at_size before size (drop n octets) (following (n + size + 2))
at_line_some before n size octets following h = rw (h, at_line) refl

at_line-stays : (before n : ℕ) (octets ys : List ℕ) (following later : ℕ → ℕ → Chunked) → n ≤ length octets → ((k m : ℕ) → Stays (following k m) ys (later k m)) → Stays (at_line before n octets following) ys (at_line before n (octets ++ ys) later)
at_line-stays before n octets ys following later within h =
    let same : chunk_size (take n (octets ++ ys)) ≡ chunk_size (take n octets) = ap chunk_size (take-append-le n octets ys within) in
    ⊎_elim
    (λ none. both_are (at_line before n octets following) (faulty BadChunk) ys (at_line before n (octets ++ ys) later) (faulty BadChunk)
    (at_line_none before n octets following none) (at_line_none before n (octets ++ ys) later (same ∙ none)) refl)
    (λ found. both_are (at_line before n octets following) (at_size before found.0 (drop n octets) (following (n + found.0 + 2))) ys
    (at_line before n (octets ++ ys) later) (at_size before found.0 (drop n octets ++ ys) (later (n + found.0 + 2)))
    (at_line_some before n found.0 octets following found.1)
    (at_line_some before n found.0 (octets ++ ys) later (same ∙ found.1) ∙ ap (λ x. at_size before found.0 x (later (n + found.0 + 2))) (drop-append-le n octets ys within))
    (at_size-stays before found.0 (drop n octets) ys (following (n + found.0 + 2)) (later (n + found.0 + 2)) (h (n + found.0 + 2))))
    (option_cases (chunk_size (take n octets)))

pub at_chunk_broken : (before : ℕ) (octets : List ℕ) (following : ℕ → ℕ → Chunked) → is_broken (first_line_text octets) ≡ true → at_chunk before octets following ≡ faulty BadChunk
at_chunk_broken before octets following h = rw (h, at_chunk) refl

pub at_chunk_none : (before : ℕ) (octets : List ℕ) (following : ℕ → ℕ → Chunked) → is_broken (first_line_text octets) ≡ false → line_size octets ≡ None → at_chunk before octets following ≡ unfinished
at_chunk_none before octets following h k = rw (h, k, at_chunk) refl

pub at_chunk_some : (before n : ℕ) (octets : List ℕ) (following : ℕ → ℕ → Chunked) → is_broken (first_line_text octets) ≡ false → line_size octets ≡ Some n → at_chunk before octets following ≡ at_line before n octets following
at_chunk_some before n octets following h k = rw (h, k, at_chunk) refl

at_chunk-stays : (before : ℕ) (octets ys : List ℕ) (following later : ℕ → ℕ → Chunked) → ((k m : ℕ) → Stays (following k m) ys (later k m)) → Stays (at_chunk before octets following) ys (at_chunk before (octets ++ ys) later)
at_chunk-stays before octets ys following later h =
    ⊎_elim
    (λ broken. both_are (at_chunk before octets following) (faulty BadChunk) ys (at_chunk before (octets ++ ys) later) (faulty BadChunk)
    (at_chunk_broken before octets following broken) (at_chunk_broken before (octets ++ ys) later (is_broken-append octets ys broken)) refl)
    (λ sound. ⊎_elim
    (λ none. as_is (at_chunk before octets following) unfinished ys (at_chunk before (octets ++ ys) later) (at_chunk_none before octets following sound none) tt)
    (λ found.
    let line = line_size-append octets ys found.0 found.1 in
    both_are (at_chunk before octets following) (at_line before found.0 octets following) ys (at_chunk before (octets ++ ys) later) (at_line before found.0 (octets ++ ys) later)
    (at_chunk_some before found.0 octets following sound found.1)
    (at_chunk_some before found.0 (octets ++ ys) later (ap is_broken line.1 ∙ sound) line.0)
    (at_line-stays before found.0 octets ys following later line.2 h))
    (option_cases (line_size octets)))
    (bool_cases (is_broken (first_line_text octets)))

-- A body in chunks and its first fault stay.
pub chunks_behind-stays : (octets ys : List ℕ) (skipped before : ℕ) → Stays (chunks_behind octets skipped before) ys (chunks_behind (octets ++ ys) skipped before)
unfolding chunks_behind
chunks_behind-stays [] ys skipped before = tt
chunks_behind-stays (b ∷ octets) ys zero before =
    at_chunk-stays before (b ∷ octets) ys (λ n. chunks_behind octets (n - 1)) (λ n. chunks_behind (octets ++ ys) (n - 1)) (λ n. chunks_behind-stays octets ys (n - 1))
chunks_behind-stays (b ∷ octets) ys (suc skipped) before = chunks_behind-stays octets ys skipped before
