-- What is kept when the newest piece comes and the oldest goes.
use Rattle.std.proofs.Common.{◌≡◌, ℕ, ◌+◌, ◌-◌, ◌<◌, ◌≤◌, Bool, true, false, ◌&&◌, ◌||◌, ◌==◌, if◌then◌else◌, List, [], ◌∷◌, ◌++◌, length, length-append, filter, set, replicate, None, refl, sym, ap, ◌∙◌, subst, inl, inr, arith}
use Rattle.std.specs.Prelude.{ℤ, pos, not, nat_le, ◌+ℤ◌, is_some, OnOk, Result, Ok, Err}
use Rattle.std.specs.List.{list_any, AllByRecursion}
use Rattle.std.proofs.lemmas.Bool.Decides.{Decides-eqb, nat_tests}
use Rattle.std.proofs.lemmas.List.{get_or-set_other}
use Rattle.cal_model.specs.History.Claims.{Pair, pair_of, same_pair}
use Rattle.cal_model.specs.declared.piece.Piece.{Piece}
use Rattle.cal_model.specs.Pieces.KeptPieces.{KeptPieces}
use Rattle.cal_model.specs.Pieces.PieceLists.{is_other_piece, rows_at, rows_in, newest_within}
use Rattle.cal_model.proofs.Pieces.PieceListLaws.{apart_pairs_filter, apart_within, apart_snoc}
use Rattle.cal_model.proofs.Pieces.FoundPieces.{All-newest_within, All-snoc}
use Rattle.number_set.specs.Sets.{has}
use Rattle.number_set.proofs.TreeLemmas.{cases_le}
use Rattle.piece_claims.specs.Boards.{is_open_if, gone_for, pair_at, rows_limit}
use Rattle.piece_claims.specs.Counts.{count_at, size_at, sizes_to, AreCounts, HasMoreIn, HasMoreOf}
use Rattle.piece_claims.specs.Kept.{IsStored, AreOfLive}
use Rattle.piece_claims.specs.Lanes.{AreLanes, AreAsWide, AreOpen, IsRefreshedAt}
use Rattle.piece_claims.proofs.KeptLemmas.{has_grown}
use Rattle.piece_claims.proofs.PairLemmas.{KeepsOtherPairs, refreshed_at, same_pair-flip}
use Rattle.piece_claims.proofs.CountLemmas.{sizes_all, window_le, without_object, window_snoc}

-- Pairs of other objects

pub head_pairs : (live : List Bool) (p : Piece) (ps : List Piece) (out : List Pair) → KeepsOtherPairs p.origin p.window live (p ∷ ps) out ps out
head_pairs live p ps out n w far =
    sym (ap (λ b. has live n && not (b || list_any (λ piece. same_pair (pair_of piece) (pair_at n w)) ps) && not (list_any (same_pair (pair_at n w)) out)) (same_pair-flip (pair_of p) (pair_at n w) ∙ far))

any_snoc : (q : Piece → Bool) (ps : List Piece) (p : Piece) → q p ≡ false → list_any q (ps ++ p ∷ []) ≡ list_any q ps
any_snoc q [] p none = ap (λ b. b || false) none
any_snoc q (x ∷ ps) p none = ap (λ b. q x || b) (any_snoc q ps p none)

pub snoc_pairs : (live : List Bool) (p : Piece) (ps : List Piece) (out : List Pair) → KeepsOtherPairs p.origin p.window live ps out (ps ++ p ∷ []) out
snoc_pairs live p ps out n w far =
    ap (λ b. has live n && not b && not (list_any (same_pair (pair_at n w)) out))
    (any_snoc (λ piece. same_pair (pair_of piece) (pair_at n w)) ps p (same_pair-flip (pair_of p) (pair_at n w) ∙ far))

-- Counts

pub counted_snoc : (counts counts' : List ℕ) (from : ℤ) (p : Piece) (ps : List Piece) → AreCounts counts from ps → HasMoreIn counts counts' from p.window (length p.rows) → AreCounts counts' from (ps ++ p ∷ [])
counted_snoc counts counts' from p ps was more k below = (let a = was k below in let b = more k below in let c = window_snoc (from +ℤ pos k) ps p in omega (arith, a, b, c))

-- Room in the sets

pub as_wide_both : (a b c : List (List Bool)) → AreAsWide a b → AreAsWide b c → AreAsWide a c
as_wide_both a b c one two = record { count = two.count ∙ one.count; sizes = λ k small. two.sizes k small ∙ one.sizes k small }

-- Pieces within their limit

pub newest_fits : (room : ℕ) (ps : List Piece) → rows_in (newest_within room ps) ≤ room
newest_fits room [] = omega arith
newest_fits room (p ∷ ps) = by_test (nat_le (rows_in (p ∷ ps)) room) refl (newest_fits room ps)
  where
    by_test : (b : Bool) → nat_le (rows_in (p ∷ ps)) room ≡ b → rows_in (newest_within room ps) ≤ room → rows_in (if b then p ∷ ps else newest_within room ps) ≤ room
    by_test true is rest = grind (arith, nat_tests)
    by_test false is rest = rest

fewer_rows : (q : Piece → Bool) (ps : List Piece) → rows_in (filter q ps) ≤ rows_in ps
fewer_rows q [] = omega arith
fewer_rows q (p ∷ ps) = by_test (q p) (fewer_rows q ps)
  where
    by_test : (b : Bool) → rows_in (filter q ps) ≤ rows_in ps → rows_in (if b then p ∷ filter q ps else filter q ps) ≤ length p.rows + rows_in ps
    by_test true rest = omega arith
    by_test false rest = omega arith

-- Pieces of live entries

live_as : (live live' : List Bool) (ps : List Piece) → ((n : ℕ) → has live n ≡ true → has live' n ≡ true) → AreOfLive live ps → AreOfLive live' ps
live_as live live' [] same all = tt
live_as live live' (p ∷ ps) same all = (same p.origin all.0, live_as live live' ps same all.1)

pub live_set : (live : List Bool) (n : ℕ) (v : Bool) (ps : List Piece) → has live n ≡ false → AreOfLive live ps → AreOfLive (set live n v) ps
live_set live n v ps none all =
    live_as live (set live n v) ps (λ m is. get_or-set_other live n m v false (λ e. (let both : true ≡ false = sym is ∙ ap (λ j. has live j) e ∙ none in cc)) ∙ is) all

live_without : (live : List Bool) (n : ℕ) (ps : List Piece) → AreOfLive live ps → AreOfLive (set live n false) (filter (is_other_piece n) ps)
live_without live n [] all = tt
live_without live n (p ∷ ps) all = by_test (p.origin == n) refl (live_without live n ps all.1)
  where
    by_test : (b : Bool) → (p.origin == n) ≡ b → AreOfLive (set live n false) (filter (is_other_piece n) ps) → AreOfLive (set live n false) (if not b then p ∷ filter (is_other_piece n) ps else filter (is_other_piece n) ps)
    by_test true is rest = rest
    by_test false is rest = (get_or-set_other live n p.origin false false (λ e. (let same : (p.origin == n) ≡ true = (Decides-eqb p.origin n).1 e in let both : true ≡ false = sym same ∙ is in cc)) ∙ all.0, rest)

pub known_live : (live : List Bool) (entries : ℕ) (ps : List Piece) → ((n : ℕ) → entries ≤ n → has live n ≡ false) → AreOfLive live ps → AllByRecursion (λ (p : Piece). p.origin < entries) ps
known_live live entries [] unknown all = tt
known_live live entries (p ∷ ps) unknown all =
    (elim (cases_le entries p.origin) [ inr below ↦ below | inl above ↦ absurd (let none = unknown p.origin above in let both : true ≡ false = sym all.0 ∙ none in cc) ], known_live live entries ps unknown all.1)

-- What is stored after each change

pub stored_set : (index : KeptPieces) (first : ℤ) (live : List Bool) (counts : List ℕ) (n : ℕ) (v : Bool) → IsStored index first live counts → has live n ≡ false → IsStored index first (set live n v) counts
stored_set index first live counts n v s none =
    record { room = s.room; within = s.within; apart = s.apart; of_live = live_set live n v index.pieces none s.of_live; counted = s.counted }

pub stored_grown : (index : KeptPieces) (first : ℤ) (live live' : List Bool) (counts : List ℕ) (k : ℕ) → IsStored index first live counts → live' ≡ live ++ replicate k false → IsStored index first live' counts
stored_grown index first live live' counts k s grown =
    record { room = s.room; within = s.within; apart = s.apart; of_live = live_as live live' index.pieces (λ n is. ap (λ l. has l n) grown ∙ has_grown live k n ∙ is) s.of_live; counted = s.counted }

pub stored_ended : (index index' : KeptPieces) (first : ℤ) (live live' : List Bool) (counts counts' : List ℕ) (n : ℕ) → IsStored index first live counts → index' ≡ record index { pieces = filter (is_other_piece n) index.pieces } → live' ≡ set live n false → HasMoreOf counts' counts first n index.pieces → IsStored index' first live' counts'
stored_ended index index' first live live' counts counts' n s gone dead less =
    subst (λ (i : KeptPieces). IsStored i first live' counts') (sym gone)
    (subst (λ (l : List Bool). IsStored (record index { pieces = filter (is_other_piece n) index.pieces }) first l counts') (sym dead)
    record {
      room = s.room;
      within = (let a = fewer_rows (is_other_piece n) index.pieces in let b = s.within in omega (arith, a, b));
      apart = apart_pairs_filter (is_other_piece n) index.pieces s.apart;
      of_live = live_without live n index.pieces s.of_live;
      counted = λ k below. (let a = s.counted k below in let b = less k below in let c = without_object n (first +ℤ pos k) index.pieces s.apart in omega (arith, a, b, c));
    })

pub stored_moved : (index : KeptPieces) (first first' : ℤ) (live : List Bool) (entries : ℕ) (counts counts' : List ℕ) → IsStored index first live counts → ((n : ℕ) → entries ≤ n → has live n ≡ false) → ((k : ℕ) → k < 13 → count_at counts' k ≡ sizes_to entries (first' +ℤ pos k) index.pieces) → IsStored index first' live counts'
stored_moved index first first' live entries counts counts' s unknown counted =
    record { room = s.room; within = s.within; apart = s.apart; of_live = s.of_live; counted = λ k below. counted k below ∙ sizes_all entries (first' +ℤ pos k) index.pieces s.apart (known_live live entries index.pieces unknown s.of_live) }

pub stored_kept : (index index' : KeptPieces) (first : ℤ) (live : List Bool) (counts counts' : List ℕ) (p : Piece) → IsStored index first live counts → has live p.origin ≡ true → rows_at p.origin p.window index.pieces ≡ None → index' ≡ record index { pieces = newest_within rows_limit (index.pieces ++ p ∷ []) } → AreCounts counts' first index'.pieces → IsStored index' first live counts'
stored_kept index index' first live counts counts' p s live_is none is counted =
    subst (λ (i : KeptPieces). IsStored i first live counts') (sym is)
    record {
      room = s.room;
      within = newest_fits rows_limit (index.pieces ++ p ∷ []);
      apart = apart_within rows_limit (index.pieces ++ p ∷ []) (apart_snoc p index.pieces s.apart none);
      of_live = All-newest_within (λ (q : Piece). has live q.origin ≡ true) rows_limit (index.pieces ++ p ∷ []) (All-snoc (λ (q : Piece). has live q.origin ≡ true) index.pieces p s.of_live live_is);
      counted = subst (λ (i : KeptPieces). AreCounts counts' first i.pieces) is counted;
    }

-- What is open after the oldest piece went, and after a newest came

pub open_without : (lanes new : List (List Bool)) (from : ℤ) (live : List Bool) (p : Piece) (old ps : List Piece) (out : List Pair) (alive : Bool) → old ≡ p ∷ ps → ((n : ℕ) → has live n ≡ true → AreLanes lanes (n + 1)) → AreOfLive live old → AreOpen lanes from live old out → alive ≡ has live p.origin → IsRefreshedAt lanes new from p.origin p.window (is_open_if alive ps out (pair_at p.origin p.window)) → AreOpen new from live ps out
open_without lanes new from live p old ps out alive was wide all open_was alive_is fresh =
    refreshed_at lanes new from live (p ∷ ps) ps out out p.origin p.window
    (wide p.origin (subst (AreOfLive live) was all).0)
    (subst (λ (qs : List Piece). AreOpen lanes from live qs out) was open_was)
    (subst (λ (b : Bool). IsRefreshedAt lanes new from p.origin p.window (is_open_if b ps out (pair_at p.origin p.window))) alive_is fresh)
    (head_pairs live p ps out)

pub open_with : (lanes new : List (List Bool)) (from : ℤ) (live : List Bool) (p : Piece) (ps : List Piece) (out : List Pair) → has live p.origin ≡ true → AreLanes lanes (p.origin + 1) → AreOpen lanes from live ps out → IsRefreshedAt lanes new from p.origin p.window (is_open_if true (ps ++ p ∷ []) out (pair_at p.origin p.window)) → AreOpen new from live (ps ++ p ∷ []) out
open_with lanes new from live p ps out alive wide open_was fresh =
    refreshed_at lanes new from live ps (ps ++ p ∷ []) out out p.origin p.window wide open_was
    (subst (λ (b : Bool). IsRefreshedAt lanes new from p.origin p.window (is_open_if b (ps ++ p ∷ []) out (pair_at p.origin p.window))) (sym alive) fresh)
    (snoc_pairs live p ps out)

pub size_within : (index : KeptPieces) (first : ℤ) (live : List Bool) (counts : List ℕ) (n : ℕ) → IsStored index first live counts → (k : ℕ) → k < 13 → size_at n (first +ℤ pos k) index.pieces ≤ count_at counts k
size_within index first live counts n s k below = (let a = s.counted k below in let b = without_object n (first +ℤ pos k) index.pieces s.apart in omega (arith, a, b))

pub count_within : (index : KeptPieces) (first : ℤ) (live : List Bool) (counts : List ℕ) → IsStored index first live counts → (k : ℕ) → k < 13 → count_at counts k ≤ rows_limit
count_within index first live counts s k below = (let a = s.counted k below in let b = window_le (first +ℤ pos k) index.pieces in let c = s.within in omega (arith, a, b, c))

-- How many go

shorter : (room : ℕ) (ps : List Piece) → length (newest_within room ps) ≤ length ps
shorter room [] = omega arith
shorter room (p ∷ ps) = by_test (nat_le (rows_in (p ∷ ps)) room) (shorter room ps)
  where
    by_test : (b : Bool) → length (newest_within room ps) ≤ length ps → length (if b then p ∷ ps else newest_within room ps) ≤ length (p ∷ ps)
    by_test true rest = omega arith
    by_test false rest = omega arith

pub steps_are : (p : Piece) (ps new : List Piece) (before after : ℕ) → rows_at p.origin p.window ps ≡ None → new ≡ newest_within (rows_limit - length p.rows) ps ++ p ∷ [] → after + length new ≡ before + length ps + 1 → after ≡ before + gone_for p ps
steps_are p ps new before after none is cost =
    (let fewer = shorter (rows_limit - length p.rows) ps in let size = ap length is in
    omega (arith, cost, fewer, size, length-append (newest_within (rows_limit - length p.rows) ps) (p ∷ []), gone))
  where
    gone : gone_for p ps ≡ length ps - length (newest_within (rows_limit - length p.rows) ps)
    gone = ap (λ r. if is_some r then 0 else length ps - length (newest_within (rows_limit - length p.rows) ps)) none

pub on_ok_both : {T E : Type 0} (P Q : Type 0) (r : Result T E) → OnOk r P → OnOk r Q → OnOk r (P × Q)
on_ok_both P Q (Ok x) p q = (p, q)
on_ok_both P Q (Err e) p q = tt
