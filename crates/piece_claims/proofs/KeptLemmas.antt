-- What is open after one object was found out anew, and what of others a change leaves as it was.
use Rattle.std.proofs.Common.{◌≡◌, ◌≢◌, ℕ, ◌+◌, ◌<◌, ◌≤◌, Bool, true, false, ◌&&◌, ◌||◌, ◌==◌, if◌then◌else◌, List, [], ◌∷◌, ◌++◌, length, length-append, filter, set, take, length-take, replicate, zero, suc, to_z, of_z, w32, FitsSigned, negsuc, ◌≤ℤ◌, ◌^◌, rules, refl, sym, ap, ◌∙◌, subst, inl, inr, arith}
use Rattle.std.specs.Prelude.{ℤ, pos, not, ◌+ℤ◌}
use Rattle.std.specs.List.{list_any}
use Rattle.std.specs.Ordering.{int_eq}
use Rattle.std.proofs.lemmas.Int.{to_z-of_z, ints}
use Rattle.std.proofs.lemmas.Bool.Decides.{Decides-eqb}
use Rattle.std.proofs.lemmas.List.{get_or-set_same, get_or-set_other, length-set, map-append}
use Rattle.std.proofs.lemmas.List.Sums.{length-filter, count_by-le-length}
use Rattle.cal_model.specs.History.Claims.{Pair, pair_of, same_pair, without_claim}
use Rattle.cal_model.specs.declared.piece.Piece.{Piece}
use Rattle.cal_model.specs.Pieces.PieceLists.{is_other_piece}
use Rattle.number_set.specs.Sets.{has}
use Rattle.number_set.proofs.TreeLemmas.{same_or_not, cases_le}
use Rattle.piece_claims.specs.Boards.{is_open_if, pair_at}
use Rattle.piece_claims.specs.Kept.{IsKept, first_of as first_window_of}
use Rattle.piece_claims.specs.Out.{pairs_out, is_pair}
use Rattle.piece_claims.proofs.OutLemmas.{without_out}
use Rattle.piece_claims.proofs.PairLemmas.{KeepsOtherPairs, claim_pairs, end_pairs, far_pair, refreshed_at}
use Rattle.piece_claims.specs.Lanes.{AreLanes, AreSameLanes, AreSwept, AreOpen, AreAsWide, IsRefreshed, IsRefreshedAt, lane_at}

abbrev pub KeepsOthers : ℕ → List Bool → List Piece → List Pair → List Bool → List Piece → List Pair → Type 0
KeepsOthers origin live pieces out live' pieces' out' =
    (n : ℕ) (w : ℤ) → n ≢ origin → is_open_if (has live' n) pieces' out' (pair_at n w) ≡ is_open_if (has live n) pieces out (pair_at n w)

pub refreshed : (lanes new : List (List Bool)) (from : ℤ) (live live' : List Bool) (pieces pieces' : List Piece) (out out' : List Pair) (origin : ℕ) → AreLanes lanes (origin + 1) → AreOpen lanes from live pieces out → IsRefreshed lanes new from origin (λ window. is_open_if (has live' origin) pieces' out' (pair_at origin window)) → KeepsOthers origin live pieces out live' pieces' out' → AreOpen new from live' pieces' out'
refreshed lanes new from live live' pieces pieces' out out' origin wide open_was fresh others k n small =
    ap (λ flags. has flags n) (fresh.lanes k small)
    ∙ elim (same_or_not n origin) [
      | inl same ↦
          subst (λ (m : ℕ). has (set (lane_at lanes k) origin (is_open_if (has live' origin) pieces' out' (pair_at origin (from +ℤ pos k)))) m ≡ is_open_if (has live' m) pieces' out' (pair_at m (from +ℤ pos k))) (sym same)
          (get_or-set_same (lane_at lanes k) origin _ false (let room = wide.wide k small in omega arith))
      | inr far ↦ get_or-set_other (lane_at lanes k) origin n _ false far ∙ open_was k n small ∙ sym (others n (from +ℤ pos k) far)
    ]

-- an entry's flag
pub flag_others : (origin : ℕ) (live : List Bool) (v : Bool) (pieces : List Piece) (out : List Pair) → KeepsOthers origin live pieces out (set live origin v) pieces out
flag_others origin live v pieces out n w far =
    ap (λ b. is_open_if b pieces out (pair_at n w)) (get_or-set_other live origin n v false far)

-- the pieces of an object that is gone

any_others : (n o : ℕ) (w : ℤ) (pieces : List Piece) → n ≢ o → list_any (λ piece. same_pair (pair_of piece) (pair_at n w)) (filter (is_other_piece o) pieces) ≡ list_any (λ piece. same_pair (pair_of piece) (pair_at n w)) pieces
any_others n o w [] far = refl
any_others n o w (x ∷ pieces) far = by_test (x.origin == o) refl (any_others n o w pieces far)
  where
    by_test : (b : Bool) → (x.origin == o) ≡ b → list_any (λ piece. same_pair (pair_of piece) (pair_at n w)) (filter (is_other_piece o) pieces) ≡ list_any (λ piece. same_pair (pair_of piece) (pair_at n w)) pieces → list_any (λ piece. same_pair (pair_of piece) (pair_at n w)) (if not b then x ∷ filter (is_other_piece o) pieces else filter (is_other_piece o) pieces) ≡ (same_pair (pair_of x) (pair_at n w) || list_any (λ piece. same_pair (pair_of piece) (pair_at n w)) pieces)
    by_test false is rest = ap (λ b. same_pair (pair_of x) (pair_at n w) || b) rest
    by_test true is rest = rest ∙ ap (λ b. b || list_any (λ piece. same_pair (pair_of piece) (pair_at n w)) pieces) (sym (far_pair x.origin n x.window w (λ e. far (sym e ∙ (Decides-eqb x.origin o).0 is))))

pub drop_others : (origin : ℕ) (live : List Bool) (pieces : List Piece) (out : List Pair) → KeepsOthers origin live pieces out (set live origin false) (filter (is_other_piece origin) pieces) out
drop_others origin live pieces out n w far =
    flag_others origin live false (filter (is_other_piece origin) pieces) out n w far
    ∙ ap (λ b. has live n && not b && not (list_any (same_pair (pair_at n w)) out)) (any_others n origin w pieces far)

length-filter-le : (p : ℕ × ℤ → Bool) (xs : List (ℕ × ℤ)) → length (filter p xs) ≤ length xs
length-filter-le p xs = omega (arith, length-filter p xs, count_by-le-length p xs)

pub entry_if_live : (live : List Bool) (entries n : ℕ) → ((m : ℕ) → entries ≤ m → has live m ≡ false) → has live n ≡ true → n < entries
entry_if_live live entries n unknown alive =
    elim (cases_le entries n) [
      | inr below ↦ below
      | inl above ↦ absurd (let none = unknown n above in let both : true ≡ false = sym alive ∙ none in cc)
    ]

-- What is kept after an object was found out anew

module _ (pieces pieces' : List Piece) (out out' : List (ℕ × ℤ)) (cap cap' : ℕ) (latest first : ℤ) (live live' : List Bool) (entries limit : ℕ) (lanes lanes' : List (List Bool)) (origin : ℕ) (k : IsKept pieces out cap latest first live entries limit lanes) where
  pub kept : origin < entries → IsRefreshed lanes lanes' first origin (λ window. is_open_if (has live' origin) pieces' (pairs_out out') (pair_at origin window)) → KeepsOthers origin live pieces (pairs_out out) live' pieces' (pairs_out out') → length live ≡ length live' → ((n : ℕ) → entries ≤ n → has live' n ≡ false) → length out' ≤ 64 → 64 ≤ cap' → IsKept pieces' out' cap' latest first live' entries limit lanes'
  kept known fresh others same unknown claims claims_fit =
      record {
        lanes_wide = record { count = fresh.count ∙ k.lanes_wide.count; wide = λ j small. (let room = k.lanes_wide.wide j small in omega (arith, ap length (fresh.lanes j small), length-set (lane_at lanes j) origin (is_open_if (has live' origin) pieces' (pairs_out out') (pair_at origin (first +ℤ pos j))))) };
        live_wide = (let room = k.live_wide in omega arith);
        fits = k.fits;
        unknown = unknown;
        claims = claims;
        claims_fit = claims_fit;
        horizon = k.horizon;
        low = k.low;
        high = k.high;
        are_open = refreshed lanes lanes' first live live' pieces pieces' (pairs_out out) (pairs_out out') origin room_enough k.are_open fresh others;
      }
    where
      room_enough : AreLanes lanes (origin + 1)
      room_enough = record { count = k.lanes_wide.count; wide = λ j small. (let room = k.lanes_wide.wide j small in let fits = k.fits in omega arith) }

-- What is kept after one pair of an object was found out anew

-- the sets have as much room as before
pub as_wide_at : (lanes new : List (List Bool)) (from : ℤ) (origin : ℕ) (window : ℤ) (flag : Bool) → IsRefreshedAt lanes new from origin window flag → AreAsWide lanes new
as_wide_at lanes new from origin window flag fresh =
    record { count = fresh.count; sizes = λ k small. ap length (fresh.lanes k small) ∙ by_test (int_eq window (from +ℤ pos k)) (lane_at lanes k) }
  where
    by_test : (b : Bool) (flags : List Bool) → length (if b then set flags origin flag else flags) ≡ length flags
    by_test true flags = length-set flags origin flag
    by_test false flags = refl

pub kept_pair : (pieces pieces' : List Piece) (out out' : List (ℕ × ℤ)) (cap cap' : ℕ) (latest first : ℤ) (live : List Bool) (entries limit : ℕ) (lanes lanes' : List (List Bool)) (origin : ℕ) (window : ℤ) → IsKept pieces out cap latest first live entries limit lanes → origin < entries → IsRefreshedAt lanes lanes' first origin window (is_open_if (has live origin) pieces' (pairs_out out') (pair_at origin window)) → KeepsOtherPairs origin window live pieces (pairs_out out) pieces' (pairs_out out') → length out' ≤ 64 → 64 ≤ cap' → IsKept pieces' out' cap' latest first live entries limit lanes'
kept_pair pieces pieces' out out' cap cap' latest first live entries limit lanes lanes' origin window k known fresh others claims claims_fit =
    record {
      lanes_wide = record { count = fresh.count ∙ k.lanes_wide.count; wide = λ j small. (let room = k.lanes_wide.wide j small in let size = (as_wide_at lanes lanes' first origin window (is_open_if (has live origin) pieces' (pairs_out out') (pair_at origin window)) fresh).sizes j small in omega (arith, room, size)) };
      live_wide = k.live_wide;
      fits = k.fits;
      unknown = k.unknown;
      claims = claims;
      claims_fit = claims_fit;
      horizon = k.horizon;
      low = k.low;
      high = k.high;
      are_open = refreshed_at lanes lanes' first live pieces pieces' (pairs_out out) (pairs_out out') origin window (record { count = k.lanes_wide.count; wide = λ j small. (let room = k.lanes_wide.wide j small in let fits = k.fits in omega arith) }) k.are_open fresh others;
    }

-- a claim of an entry's object ends
pub kept_end : (pieces : List Piece) (out out' : List (ℕ × ℤ)) (cap cap' : ℕ) (latest first : ℤ) (live : List Bool) (entries limit : ℕ) (lanes lanes' : List (List Bool)) (origin : ℕ) (window : ℤ) → IsKept pieces out cap latest first live entries limit lanes → origin < entries → out' ≡ filter (λ p. not (is_pair origin window p)) out → cap' ≡ cap → IsRefreshedAt lanes lanes' first origin window (is_open_if (has live origin) pieces (pairs_out out') (pair_at origin window)) → IsKept pieces out' cap' latest first live entries limit lanes'
kept_end pieces out out' cap cap' latest first live entries limit lanes lanes' origin window k known is same_room fresh =
    kept_pair pieces pieces out out' cap cap' latest first live entries limit lanes lanes' origin window k known fresh
    (λ n w far. ap (λ o. is_open_if (has live n) pieces o (pair_at n w)) (ap pairs_out is ∙ without_out origin window out) ∙ end_pairs origin window live pieces (pairs_out out) n w far)
    (let e = ap length is in let less = length-filter-le (λ p. not (is_pair origin window p)) out in let claims = k.claims in omega arith) (let fit = k.claims_fit in omega arith)

-- a claim of what is no object ends
pub kept_end_unknown : (pieces : List Piece) (out out' : List (ℕ × ℤ)) (cap cap' : ℕ) (latest first : ℤ) (live : List Bool) (entries limit : ℕ) (lanes : List (List Bool)) (origin : ℕ) (window : ℤ) → IsKept pieces out cap latest first live entries limit lanes → entries ≤ origin → out' ≡ filter (λ p. not (is_pair origin window p)) out → cap' ≡ cap → IsKept pieces out' cap' latest first live entries limit lanes
kept_end_unknown pieces out out' cap cap' latest first live entries limit lanes origin window k unknown is same_room =
    record {
      lanes_wide = k.lanes_wide;
      live_wide = k.live_wide;
      fits = k.fits;
      unknown = k.unknown;
      claims = (let e = ap length is in let less = length-filter-le (λ p. not (is_pair origin window p)) out in let claims = k.claims in omega arith);
      claims_fit = (let fit = k.claims_fit in omega arith);
      horizon = k.horizon;
      low = k.low;
      high = k.high;
      are_open = λ j n small. k.are_open j n small ∙ sym (others n (first +ℤ pos j));
    }
  where
    others : (n : ℕ) (w : ℤ) → is_open_if (has live n) pieces (pairs_out out') (pair_at n w) ≡ is_open_if (has live n) pieces (pairs_out out) (pair_at n w)
    others n w =
        ap (λ o. is_open_if (has live n) pieces o (pair_at n w)) (ap pairs_out is ∙ without_out origin window out)
        ∙ elim (same_or_not n origin) [
          | inr far ↦ end_pairs origin window live pieces (pairs_out out) n w (far_pair n origin w window far)
          | inl same ↦ (let dead : has live n ≡ false = k.unknown n (omega arith) in
              ap (λ b. is_open_if b pieces (without_claim (pair_at origin window) (pairs_out out)) (pair_at n w)) dead ∙ sym (ap (λ b. is_open_if b pieces (pairs_out out) (pair_at n w)) dead))
        ]

-- an object is gone
pub kept_ended : (pieces pieces' : List Piece) (out : List (ℕ × ℤ)) (cap : ℕ) (latest first : ℤ) (live live' : List Bool) (entries limit : ℕ) (lanes lanes' : List (List Bool)) (origin : ℕ) → IsKept pieces out cap latest first live entries limit lanes → origin < entries → pieces' ≡ filter (is_other_piece origin) pieces → live' ≡ set live origin false → IsRefreshed lanes lanes' first origin (λ z. is_open_if false pieces' (pairs_out out) (pair_at origin z)) → IsKept pieces' out cap latest first live' entries limit lanes'
kept_ended pieces pieces' out cap latest first live live' entries limit lanes lanes' origin k known is gone fresh =
    kept pieces pieces' out out cap cap latest first live live' entries limit lanes lanes' origin k known
    (subst (λ b. IsRefreshed lanes lanes' first origin (λ z. is_open_if b pieces' (pairs_out out) (pair_at origin z))) (sym dead) fresh)
    (λ n w far. ap (λ l. is_open_if (has l n) pieces' (pairs_out out) (pair_at n w)) gone ∙ ap (λ ps. is_open_if (has (set live origin false) n) ps (pairs_out out) (pair_at n w)) is ∙ drop_others origin live pieces (pairs_out out) n w far)
    (sym (ap length gone ∙ length-set live origin false))
    (λ n past. ap (λ l. has l n) gone ∙ get_or-set_other live origin n false false (omega arith) ∙ k.unknown n past) k.claims k.claims_fit
  where
    dead : has live' origin ≡ false
    dead = ap (λ l. has l origin) gone ∙ get_or-set_same live origin false false (let room = k.live_wide in let fits = k.fits in omega arith)

-- an entry is known where its flag is shown

pub known_below : (entries : ℕ) (live shown : List Bool) (n : ℕ) → take entries live ≡ shown → n < length shown → n < entries
known_below entries live shown n same below = omega (arith, ap length same, length-take entries live)

pub unknown_above : (entries : ℕ) (live shown : List Bool) (n : ℕ) → entries ≤ length live → take entries live ≡ shown → length shown ≤ n → entries ≤ n
unknown_above entries live shown n wide same above = omega (arith, ap length same, length-take entries live)

-- the first window as the program passes it

first_fits : (z : ℤ) → negsuc (2 ^ 30) ≤ℤ z → z ≤ℤ pos (2 ^ 30) → FitsSigned w32 z
first_fits z low high = first_of (search rules, omega (arith, ints))

pub first_passed : (z : ℤ) → negsuc (2 ^ 30) ≤ℤ z → z ≤ℤ pos (2 ^ 30) → to_z w32 (of_z w32 z) ≡ z
first_passed z low high = to_z-of_z w32 z (first_fits z low high)

-- more room changes nothing

pub has_grown : (flags : List Bool) (k n : ℕ) → has (flags ++ replicate k false) n ≡ has flags n
has_grown [] zero n = refl
has_grown [] (suc k) zero = refl
has_grown [] (suc k) (suc n) = has_grown [] k n ∙ refl
has_grown (x ∷ flags) k zero = refl
has_grown (x ∷ flags) k (suc n) = has_grown flags k n

pub kept_grown : (pieces : List Piece) (out : List (ℕ × ℤ)) (cap : ℕ) (latest first : ℤ) (live live' : List Bool) (entries limit limit' k : ℕ) (lanes lanes' : List (List Bool)) → IsKept pieces out cap latest first live entries limit lanes → live' ≡ live ++ replicate k false → AreSameLanes lanes lanes' → AreLanes lanes' limit' → limit' ≤ length live' → entries ≤ limit' → IsKept pieces out cap latest first live' entries limit' lanes'
kept_grown pieces out cap latest first live live' entries limit limit' k lanes lanes' was grown same wide live_wide fits =
    record {
      lanes_wide = wide;
      live_wide = live_wide;
      fits = fits;
      unknown = λ n past. live_same n ∙ was.unknown n past;
      claims = was.claims;
      claims_fit = was.claims_fit;
      horizon = was.horizon;
      low = was.low;
      high = was.high;
      are_open = λ j n small. same.members j n ∙ was.are_open j n small ∙ ap (λ b. is_open_if b pieces (pairs_out out) (pair_at n (first +ℤ pos j))) (sym (live_same n));
    }
  where
    live_same : (n : ℕ) → has live' n ≡ has live n
    live_same n = ap (λ l. has l n) grown ∙ has_grown live k n

pub wide_after : (lanes lanes' : List (List Bool)) (limit : ℕ) → AreLanes lanes limit → AreSameLanes lanes lanes' → AreLanes lanes' limit
wide_after lanes lanes' limit wide same =
    record { count = same.count ∙ wide.count; wide = λ k small. (let a = wide.wide k small in let b = same.wider k in omega arith) }

-- one object more

-- the horizon has moved
pub kept_moved : (pieces : List Piece) (out : List (ℕ × ℤ)) (cap : ℕ) (latest first latest' first' : ℤ) (live : List Bool) (entries limit : ℕ) (lanes lanes' : List (List Bool)) → IsKept pieces out cap latest first live entries limit lanes → AreSwept lanes lanes' first' live pieces (pairs_out out) entries → first' ≡ first_window_of latest' → negsuc (2 ^ 30) ≤ℤ first' → first' ≤ℤ pos (2 ^ 30) → IsKept pieces out cap latest' first' live entries limit lanes'
kept_moved pieces out cap latest first latest' first' live entries limit lanes lanes' was swept horizon low high =
    record {
      lanes_wide = record { count = swept.count ∙ was.lanes_wide.count; wide = λ k small. (let room = was.lanes_wide.wide k small in let size = swept.sizes k small in omega arith) };
      live_wide = was.live_wide;
      fits = was.fits;
      unknown = was.unknown;
      claims = was.claims;
      claims_fit = was.claims_fit;
      horizon = horizon;
      low = low;
      high = high;
      are_open = λ k n small. elim (cases_le entries n) [
        | inr below ↦ swept.swept k n small below
        | inl above ↦ swept.beyond k n small above ∙ was.are_open k n small
            ∙ ap (λ b. is_open_if b pieces (pairs_out out) (pair_at n (first +ℤ pos k))) (was.unknown n above)
            ∙ sym (ap (λ b. is_open_if b pieces (pairs_out out) (pair_at n (first' +ℤ pos k))) (was.unknown n above))
      ];
    }

-- one entry more
pub kept_added : (pieces : List Piece) (out : List (ℕ × ℤ)) (cap : ℕ) (latest first : ℤ) (live live' : List Bool) (entries limit : ℕ) (lanes lanes' : List (List Bool)) (v : Bool) → IsKept pieces out cap latest first live entries limit lanes → entries < limit → live' ≡ set live entries v → IsRefreshed lanes lanes' first entries (λ z. is_open_if v pieces (pairs_out out) (pair_at entries z)) → IsKept pieces out cap latest first live' (entries + 1) limit lanes'
kept_added pieces out cap latest first live live' entries limit lanes lanes' v k room is fresh =
    record {
      lanes_wide = record { count = fresh.count ∙ k.lanes_wide.count; wide = λ j small. (let wide = k.lanes_wide.wide j small in omega (arith, ap length (fresh.lanes j small), length-set (lane_at lanes j) entries (is_open_if v pieces (pairs_out out) (pair_at entries (first +ℤ pos j))))) };
      live_wide = (let wide = k.live_wide in omega (arith, ap length is, length-set live entries v));
      fits = omega arith;
      unknown = λ n past. ap (λ l. has l n) is ∙ get_or-set_other live entries n v false (omega arith) ∙ k.unknown n (omega arith);
      claims = k.claims;
      claims_fit = k.claims_fit;
      horizon = k.horizon;
      low = k.low;
      high = k.high;
      are_open = refreshed lanes lanes' first live live' pieces pieces (pairs_out out) (pairs_out out) entries (record { count = k.lanes_wide.count; wide = λ j small. (let wide = k.lanes_wide.wide j small in omega arith) }) k.are_open
          (subst (λ b. IsRefreshed lanes lanes' first entries (λ z. is_open_if b pieces (pairs_out out) (pair_at entries z))) (sym now) fresh)
          (λ n w far. ap (λ l. is_open_if (has l n) pieces (pairs_out out) (pair_at n w)) is ∙ flag_others entries live v pieces (pairs_out out) n w far);
    }
  where
    now : has live' entries ≡ v
    now = ap (λ l. has l entries) is ∙ get_or-set_same live entries v false (let wide = k.live_wide in omega arith)

-- a pair of a live object is out
pub kept_claimed : (pieces : List Piece) (out out' : List (ℕ × ℤ)) (cap cap' : ℕ) (latest first : ℤ) (live : List Bool) (entries limit : ℕ) (lanes lanes' : List (List Bool)) (origin : ℕ) (window : ℤ) → IsKept pieces out cap latest first live entries limit lanes → has live origin ≡ true → length out < 64 → out' ≡ out ++ (origin, window) ∷ [] → cap' ≡ cap → IsRefreshedAt lanes lanes' first origin window (is_open_if true pieces (pairs_out out') (pair_at origin window)) → IsKept pieces out' cap' latest first live entries limit lanes'
kept_claimed pieces out out' cap cap' latest first live entries limit lanes lanes' origin window k alive few is same_room fresh =
    kept_pair pieces pieces out out' cap cap' latest first live entries limit lanes lanes' origin window k (entry_if_live live entries origin k.unknown alive)
    (subst (λ b. IsRefreshedAt lanes lanes' first origin window (is_open_if b pieces (pairs_out out') (pair_at origin window))) (sym alive) fresh)
    (λ n w far. ap (λ o. is_open_if (has live n) pieces o (pair_at n w)) (ap pairs_out is ∙ map-append (λ (p : ℕ × ℤ). pair_at p.0 p.1) out ((origin, window) ∷ [])) ∙ claim_pairs origin window live pieces (pairs_out out) n w far)
    (omega (arith, ap length is, length-append out ((origin, window) ∷ []))) (let fit = k.claims_fit in omega arith)

-- the greatest moment is another, in the same window
pub kept_at : (pieces : List Piece) (out : List (ℕ × ℤ)) (cap : ℕ) (latest latest' first : ℤ) (live : List Bool) (entries limit : ℕ) (lanes : List (List Bool)) → IsKept pieces out cap latest first live entries limit lanes → first ≡ first_window_of latest' → IsKept pieces out cap latest' first live entries limit lanes
kept_at pieces out cap latest latest' first live entries limit lanes k horizon =
    record {
      lanes_wide = k.lanes_wide;
      live_wide = k.live_wide;
      fits = k.fits;
      unknown = k.unknown;
      claims = k.claims;
      claims_fit = k.claims_fit;
      horizon = horizon;
      low = k.low;
      high = k.high;
      are_open = k.are_open;
    }

-- other pieces, with other sets that are as wide
pub kept_aged : (pieces pieces' : List Piece) (out : List (ℕ × ℤ)) (cap : ℕ) (latest first : ℤ) (live : List Bool) (entries limit : ℕ) (lanes lanes' : List (List Bool)) → IsKept pieces out cap latest first live entries limit lanes → AreAsWide lanes lanes' → AreOpen lanes' first live pieces' (pairs_out out) → IsKept pieces' out cap latest first live entries limit lanes'
kept_aged pieces pieces' out cap latest first live entries limit lanes lanes' k same open_now =
    record {
      lanes_wide = record { count = same.count ∙ k.lanes_wide.count; wide = λ j small. (let wide = k.lanes_wide.wide j small in let size = same.sizes j small in omega arith) };
      live_wide = k.live_wide;
      fits = k.fits;
      unknown = k.unknown;
      claims = k.claims;
      claims_fit = k.claims_fit;
      horizon = k.horizon;
      low = k.low;
      high = k.high;
      are_open = open_now;
    }

-- the sets have room for each live object
pub wide_of_live : (pieces : List Piece) (out : List (ℕ × ℤ)) (cap : ℕ) (latest first : ℤ) (live : List Bool) (entries limit : ℕ) (lanes : List (List Bool)) → IsKept pieces out cap latest first live entries limit lanes → (n : ℕ) → has live n ≡ true → AreLanes lanes (n + 1)
wide_of_live pieces out cap latest first live entries limit lanes k n alive =
    (let known = entry_if_live live entries n k.unknown alive in
    record { count = k.lanes_wide.count; wide = λ j small. (let wide = k.lanes_wide.wide j small in let fits = k.fits in omega arith) })
