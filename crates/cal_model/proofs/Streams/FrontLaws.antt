-- What stands at the front of some octets stays whatever follows, and takes some of them.
use Rattle.std.proofs.Common.{◌≡◌, ℕ, suc, ◌+◌, ◌-◌, ◌≤◌, Bool, true, false, cond, ◌==◌, ◌&&◌, List, [], ◌∷◌, ◌++◌, length, take, drop, Some, None, Result, Ok, Err, refl, sym, ap, subst, ◌∙◌, arith, ⊎_elim, length-append}
use Rattle.std.specs.Prelude.{option_map, nat_le}
use Rattle.std.proofs.lemmas.Option.{same_Some}
use Rattle.std.proofs.lemmas.List.{take-append-le, drop-append-le}
use Rattle.httparse.specs.Grammar.{RequestHead}
use Rattle.cal_base.specs.Texts.Octets.{line_feed, carriage_return}
use Rattle.cal_model.specs.Words.Lists.{is_empty}
use Rattle.cal_model.specs.declared.wire.WireFault.{WireFault}
use Rattle.cal_model.specs.declared.wire.WireFault.TheVariants.{HeadTooLong}
use Rattle.cal_model.specs.Streams.WireLimits.{head_limit}
use Rattle.cal_model.specs.Streams.Heads.{empty_line, ends_here, head_end, without_empty_lines, head_size}
use Rattle.cal_model.specs.Streams.HeadFields.{read_head, Framing, sized, chunked, framing_of, wire_request}
use Rattle.cal_model.specs.Streams.Chunks.{Chunked, whole, unfinished, faulty, chunked_body}
use Rattle.cal_model.specs.Streams.StreamRequests.{Front, request, fault, idle, cut, with_length, with_chunks, with_body, with_head, without_head, at_head, front}
use Rattle.cal_model.specs.Streams.StreamLaws.{RequestsStay, FaultsStay}
use Rattle.cal_model.proofs.Streams.StreamFronts.{bool_cases, option_cases, none_some, suc_some, head_end_found, head_end_later, ends_here-append, without_empty_lines-append, skips_lf, skips_crlf, skips_none}
use Rattle.cal_model.proofs.Streams.StreamHeads.{mapped, without_empty_lines-within, head_size-within, head_size-append}
use Rattle.cal_model.proofs.Streams.ChunkFronts.{empty_line-least, head_end-least, le_cases, Stays, chunks_behind-stays}

-- An end within the first octets is found in them

empty_line-front : (xs ys : List ℕ) (k : ℕ) → empty_line (xs ++ ys) ≡ Some k → k ≤ length xs → empty_line xs ≡ Some k
empty_line-front [] ys k e within = let least = empty_line-least ys k e in absurd (omega arith)
empty_line-front (x ∷ []) [] k e within = e
empty_line-front (x ∷ []) (y ∷ ys) k e within =
    ⊎_elim
    (λ yes. rw yes (rw yes at e))
    (λ other.
    let h = rw other at e in
    ⊎_elim (λ both. let two = same_Some _ _ (rw both at h) in absurd (omega arith)) (λ neither. none_some k (rw neither at h)) (bool_cases ((x == carriage_return) && (y == line_feed))))
    (bool_cases (x == line_feed))
empty_line-front (x ∷ y ∷ xs) ys k e within = e

ends_here-front : (b : ℕ) (xs ys : List ℕ) (k : ℕ) → ends_here b (xs ++ ys) ≡ Some k → k ≤ suc (length xs) → ends_here b xs ≡ Some k
ends_here-front b xs ys k e within =
    ⊎_elim
    (λ yes.
    let some = suc_some (empty_line (xs ++ ys)) k (rw yes at e) in
    let m = some.2 in
    rw yes (rw (empty_line-front xs ys some.0 some.1 (omega arith)) (ap Some (sym m))))
    (λ other. none_some k (rw other at e))
    (bool_cases (b == line_feed))

pub head_end-front : (xs ys : List ℕ) (n : ℕ) → head_end (xs ++ ys) ≡ Some n → n ≤ length xs → head_end xs ≡ Some n
head_end-front [] ys n e within = let least = head_end-least ys n e in absurd (omega arith)
head_end-front (b ∷ xs) ys n e within =
    ⊎_elim
    (λ none.
    let some = suc_some (head_end (xs ++ ys)) n (sym (head_end_later b (xs ++ ys) none) ∙ e) in
    let m = some.2 in
    let ih = head_end-front xs ys some.0 some.1 (omega arith) in
    ⊎_elim
    (λ still. head_end_later b xs still ∙ ap (option_map suc) ih ∙ ap Some (sym m))
    (λ found. none_some found.0 (sym none ∙ ends_here-append b xs ys found.0 found.1))
    (option_cases (ends_here b xs)))
    (λ found.
    let same = same_Some _ _ (sym (head_end_found b (xs ++ ys) found.0 found.1) ∙ e) in
    head_end_found b xs found.0 (ends_here-front b xs ys found.0 found.1 (omega arith)) ∙ ap Some same)
    (option_cases (ends_here b (xs ++ ys)))

-- where less than two octets stand behind the empty lines, at most one of them is there when more follow
few_left : (xs ys : List ℕ) → length (without_empty_lines xs) ≤ 1 → length (without_empty_lines (xs ++ ys)) ≤ suc (length ys)
few_left [] ys few = let h = without_empty_lines-within ys in omega arith
few_left (x ∷ []) ys few = without_empty_lines-within (x ∷ ys)
few_left (x ∷ y ∷ xs) ys few =
    ⊎_elim
    (λ yes.
    let same = ap length (skips_lf x y xs yes) in
    subst (λ l. length l ≤ suc (length ys)) (sym (skips_lf x y (xs ++ ys) yes)) (few_left (y ∷ xs) ys (omega arith)))
    (λ other. ⊎_elim
    (λ both.
    let same = ap length (skips_crlf x y xs other both) in
    subst (λ l. length l ≤ suc (length ys)) (sym (skips_crlf x y (xs ++ ys) other both)) (few_left xs ys (omega arith)))
    (λ neither. let same = ap length (skips_none x y xs other neither) in absurd (omega arith))
    (bool_cases ((x == carriage_return) && (y == line_feed))))
    (bool_cases (x == line_feed))

two_there : (xs : List ℕ) → 2 ≤ length xs → (b : ℕ) × (c : ℕ) × (more : List ℕ) × (xs ≡ b ∷ c ∷ more)
two_there [] many = absurd (omega arith)
two_there (x ∷ []) many = absurd (omega arith)
two_there (b ∷ c ∷ more) many = (b, c, more, refl)

head_size-front : (xs ys : List ℕ) (n : ℕ) → head_size (xs ++ ys) ≡ Some n → n ≤ length xs → head_size xs ≡ Some n
head_size-front xs ys n e within =
    let m = mapped (λ k. (length (xs ++ ys) - length (without_empty_lines (xs ++ ys))) + k) (head_end (without_empty_lines (xs ++ ys))) n e in
    let least = head_end-least (without_empty_lines (xs ++ ys)) m.0 m.1 in
    let s = m.2 in
    let a = length-append xs ys in
    ⊎_elim
    (λ few. let left = few_left xs ys few.1 in absurd (omega arith))
    (λ many.
    let two = two_there (without_empty_lines xs) (omega (arith, many.1)) in
    let begun : without_empty_lines (xs ++ ys) ≡ without_empty_lines xs ++ ys =
    without_empty_lines-append xs ys two.0 two.1 two.2 two.3 ∙ ap (λ l. l ++ ys) (sym two.3) in
    let b = ap length begun ∙ length-append (without_empty_lines xs) ys in
    let w = without_empty_lines-within xs in
    let end : head_end (without_empty_lines xs) ≡ Some m.0 =
    head_end-front (without_empty_lines xs) ys m.0 (ap head_end (sym begun) ∙ m.1) (omega arith) in
    let number : (length xs - length (without_empty_lines xs)) + m.0 ≡ n = omega arith in
    rw end (ap Some number))
    (le_cases (length (without_empty_lines xs)) 1)

-- What stands at the front

abbrev pub FrontStays : Front → List ℕ → Front → Type 0
FrontStays (request first rest) ys later = later ≡ request first (rest ++ ys)
FrontStays (fault why) ys later = later ≡ fault why
FrontStays idle ys later = Unit {0}
FrontStays cut ys later = Unit {0}

fronts_are : (c d : Front) (ys : List ℕ) (later then : Front) → c ≡ d → later ≡ then → FrontStays d ys then → FrontStays c ys later
fronts_are c d ys later then e f h = subst (λ x. FrontStays x ys later) (sym e) (subst (λ x. FrontStays d ys x) (sym f) h)

with_length-stays : (head : RequestHead) (size : ℕ) (octets ys : List ℕ) → FrontStays (with_length head size octets) ys (with_length head size (octets ++ ys))
with_length-stays head size octets ys =
    let a = length-append octets ys in
    ⊎_elim
    (λ fits.
    let bound = fits.1 in
    ⊎_elim
    (λ still. fronts_are (with_length head size octets) (request (wire_request head (take size octets)) (drop size octets)) ys
    (with_length head size (octets ++ ys)) (request (wire_request head (take size (octets ++ ys))) (drop size (octets ++ ys)))
    (ap (λ b. cond b (request (wire_request head (take size octets)) (drop size octets)) cut) fits.0)
    (ap (λ b. cond b (request (wire_request head (take size (octets ++ ys))) (drop size (octets ++ ys))) cut) still.0)
    (ap (λ body. request (wire_request head body) (drop size (octets ++ ys))) (take-append-le size octets ys bound)
    ∙ ap (request (wire_request head (take size octets))) (drop-append-le size octets ys bound)))
    (λ over. let far = over.1 in absurd (omega arith))
    (le_cases size (length (octets ++ ys))))
    (λ short. fronts_are (with_length head size octets) cut ys (with_length head size (octets ++ ys)) (with_length head size (octets ++ ys))
    (ap (λ b. cond b (request (wire_request head (take size octets)) (drop size octets)) cut) short.0) refl tt)
    (le_cases size (length octets))

with_chunks-stays : (head : RequestHead) (c later : Chunked) (ys : List ℕ) → Stays c ys later → FrontStays (with_chunks head c) ys (with_chunks head later)
with_chunks-stays head (whole body rest) later ys h = ap (with_chunks head) h
with_chunks-stays head unfinished later ys h = tt
with_chunks-stays head (faulty why) later ys h = ap (with_chunks head) h

pub framed : (head : RequestHead) (framing : Framing) (octets : List ℕ) → framing_of head ≡ framing → with_body head octets ≡ elim framing [ sized size ↦ with_length head size octets | chunked ↦ with_chunks head (chunked_body octets) ]
framed head framing octets h = rw (h, with_body) refl

with_body-stays : (head : RequestHead) (framing : Framing) (octets ys : List ℕ) → framing_of head ≡ framing → FrontStays (with_body head octets) ys (with_body head (octets ++ ys))
with_body-stays head (sized size) octets ys h =
    fronts_are (with_body head octets) (with_length head size octets) ys (with_body head (octets ++ ys)) (with_length head size (octets ++ ys))
    (framed head (sized size) octets h) (framed head (sized size) (octets ++ ys) h) (with_length-stays head size octets ys)
with_body-stays head chunked octets ys h =
    fronts_are (with_body head octets) (with_chunks head (chunked_body octets)) ys (with_body head (octets ++ ys)) (with_chunks head (chunked_body (octets ++ ys)))
    (framed head chunked octets h) (framed head chunked (octets ++ ys) h) (with_chunks-stays head (chunked_body octets) (chunked_body (octets ++ ys)) ys (chunks_behind-stays octets ys 0 0))

with_head-stays : (read : Result RequestHead WireFault) (octets ys : List ℕ) → FrontStays (with_head read octets) ys (with_head read (octets ++ ys))
with_head-stays (Err why) octets ys = refl
with_head-stays (Ok head) octets ys = with_body-stays head (framing_of head) octets ys refl

pub headed : (size : ℕ) (octets : List ℕ) → nat_le size head_limit ≡ true → at_head size octets ≡ with_head (read_head (without_empty_lines (take size octets))) (drop size octets)
headed size octets h = rw (h, at_head) refl

pub over_long : (size : ℕ) (octets : List ℕ) → nat_le size head_limit ≡ false → at_head size octets ≡ fault HeadTooLong
over_long size octets h = rw (h, at_head) refl

at_head-stays : (size : ℕ) (octets ys : List ℕ) → size ≤ length octets → FrontStays (at_head size octets) ys (at_head size (octets ++ ys))
at_head-stays size octets ys within =
    ⊎_elim
    (λ fits. fronts_are (at_head size octets) (with_head (read_head (without_empty_lines (take size octets))) (drop size octets)) ys
    (at_head size (octets ++ ys)) (with_head (read_head (without_empty_lines (take size octets))) (drop size octets ++ ys))
    (headed size octets fits)
    (headed size (octets ++ ys) fits
    ∙ ap (λ x. with_head (read_head (without_empty_lines x)) (drop size (octets ++ ys))) (take-append-le size octets ys within)
    ∙ ap (with_head (read_head (without_empty_lines (take size octets)))) (drop-append-le size octets ys within))
    (with_head-stays (read_head (without_empty_lines (take size octets))) (drop size octets) ys))
    (λ over. fronts_are (at_head size octets) (fault HeadTooLong) ys (at_head size (octets ++ ys)) (fault HeadTooLong) (over_long size octets over) (over_long size (octets ++ ys) over) refl)
    (bool_cases (nat_le size head_limit))

pub front_found : (octets : List ℕ) (size : ℕ) → head_size octets ≡ Some size → front octets ≡ at_head size octets
unfolding front
front_found octets size h = rw (h, front) refl

pub front_open : (octets : List ℕ) → head_size octets ≡ None → front octets ≡ without_head octets
unfolding front
front_open octets h = rw (h, front) refl

pub full : (octets : List ℕ) → nat_le head_limit (length octets) ≡ true → without_head octets ≡ fault HeadTooLong
full octets h = rw (h, without_head) refl

pub not_full : (octets : List ℕ) → nat_le head_limit (length octets) ≡ false → without_head octets ≡ cond (is_empty (without_empty_lines octets)) idle cut
not_full octets h = rw (h, without_head) refl

not_full-stays : (octets ys : List ℕ) (b : Bool) (later : Front) → FrontStays (cond b idle cut) ys later
not_full-stays octets ys true later = tt
not_full-stays octets ys false later = tt

-- a head that is too long stays so
still_too_long : (octets ys : List ℕ) → head_size octets ≡ None → head_limit ≤ length octets → front (octets ++ ys) ≡ fault HeadTooLong
still_too_long octets ys none many =
    let a = length-append octets ys in
    ⊎_elim
    (λ still. front_open (octets ++ ys) still ∙ full (octets ++ ys) (reaches (omega arith)))
    (λ found. front_found (octets ++ ys) found.0 found.1 ∙ over_long found.0 (octets ++ ys) (exceeds found.0 found.1))
    (option_cases (head_size (octets ++ ys)))
  where
    reaches : {m : ℕ} → head_limit ≤ m → nat_le head_limit m ≡ true
    reaches {m} h = ⊎_elim (λ fits. fits.0) (λ over. let far = over.1 in absurd (omega arith)) (le_cases head_limit m)

    exceeds : (n : ℕ) → head_size (octets ++ ys) ≡ Some n → nat_le n head_limit ≡ false
    exceeds n e =
        ⊎_elim (λ fits. let bound = fits.1 in none_some n (sym none ∙ head_size-front octets ys n e (omega arith))) (λ over. over.0) (le_cases n head_limit)

pub front-stays : (octets ys : List ℕ) → FrontStays (front octets) ys (front (octets ++ ys))
front-stays octets ys =
    ⊎_elim
    (λ none. ⊎_elim
    (λ many. fronts_are (front octets) (fault HeadTooLong) ys (front (octets ++ ys)) (fault HeadTooLong) (front_open octets none ∙ full octets many.0) (still_too_long octets ys none many.1) refl)
    (λ few. fronts_are (front octets) (cond (is_empty (without_empty_lines octets)) idle cut) ys (front (octets ++ ys)) (front (octets ++ ys)) (front_open octets none ∙ not_full octets few.0) refl
    (not_full-stays octets ys (is_empty (without_empty_lines octets)) (front (octets ++ ys))))
    (le_cases head_limit (length octets)))
    (λ found. fronts_are (front octets) (at_head found.0 octets) ys (front (octets ++ ys)) (at_head found.0 (octets ++ ys))
    (front_found octets found.0 found.1) (front_found (octets ++ ys) found.0 (head_size-append octets ys found.0 found.1))
    (at_head-stays found.0 octets ys (head_size-within octets found.0 found.1)))
    (option_cases (head_size octets))

pub requests_stay : RequestsStay
requests_stay octets ys first rest e = subst (λ x. FrontStays x ys (front (octets ++ ys))) e (front-stays octets ys)

pub faults_stay : FaultsStay
faults_stay octets ys why e = subst (λ x. FrontStays x ys (front (octets ++ ys))) e (front-stays octets ys)
