-- The search for the end of a head.
use Rattle.std.proofs.Common.{◌≡◌, ℕ, suc, ◌+◌, ◌-◌, ◌≤◌, true, ◌==◌, ◌&&◌, List, [], ◌∷◌, ◌++◌, length, take, drop, length-drop, Some, None, refl, sym, ap, ◌∙◌, arith, ⊎_elim, append-nil}
use Rattle.std.specs.Prelude.{option_map}
use Rattle.std.proofs.lemmas.List.{drop-drop}
use Rattle.cal_base.specs.Texts.Octets.{line_feed, carriage_return}
use Rattle.cal_model.specs.Streams.Heads.{head_end, without_empty_lines, head_size}
use Rattle.cal_model.proofs.Streams.StreamFronts.{bool_cases, none_some, head_end_nil, head_end_short, skips_lf, skips_crlf, skips_none}
use Rattle.cal_model.proofs.Streams.StreamHeads.{without_empty_lines-within}
use Rattle.cal_model.proofs.Streams.ChunkFronts.{head_end-least}
use Rattle.cal_model.proofs.Streams.ChunkSteps.{head_end-resume}
use Rattle.http_wire.specs.HeadSearch.{Skipped, Looked}

-- Empty lines in front

skip_feed : (x : ℕ) (xs : List ℕ) → (x == line_feed) ≡ true → without_empty_lines (x ∷ xs) ≡ without_empty_lines xs
unfolding without_empty_lines
skip_feed x [] h = rw h refl
skip_feed x (y ∷ xs) h = skips_lf x y xs h

-- what follows is skipped behind what was skipped
pub skip_more : (xs more : List ℕ) → without_empty_lines (xs ++ more) ≡ without_empty_lines (without_empty_lines xs ++ more)
unfolding without_empty_lines
skip_more [] more = refl
skip_more (x ∷ []) more =
    ⊎_elim (λ yes. rw yes (skip_feed x more yes)) (λ no. rw no refl) (bool_cases (x == line_feed))
skip_more (x ∷ y ∷ xs) more =
    ⊎_elim
    (λ yes. skips_lf x y (xs ++ more) yes ∙ skip_more (y ∷ xs) more ∙ ap (λ l. without_empty_lines (l ++ more)) (sym (skips_lf x y xs yes)))
    (λ no. ⊎_elim
    (λ both. skips_crlf x y (xs ++ more) no both ∙ skip_more xs more ∙ ap (λ l. without_empty_lines (l ++ more)) (sym (skips_crlf x y xs no both)))
    (λ other. ap (λ l. without_empty_lines (l ++ more)) (sym (skips_none x y xs no other)))
    (bool_cases ((x == carriage_return) && (y == line_feed))))
    (bool_cases (x == line_feed))

-- and is the end of the octets
pub skip_end : (xs : List ℕ) → without_empty_lines xs ≡ drop (length xs - length (without_empty_lines xs)) xs
unfolding without_empty_lines
skip_end [] = refl
skip_end (x ∷ []) = ⊎_elim (λ yes. rw yes refl) (λ no. rw no refl) (bool_cases (x == line_feed))
skip_end (x ∷ y ∷ xs) =
    ⊎_elim
    (λ yes.
    let w = without_empty_lines-within (y ∷ xs) in
    let e = skips_lf x y xs yes in
    let n : length (x ∷ y ∷ xs) - length (without_empty_lines (x ∷ y ∷ xs)) ≡ suc (length (y ∷ xs) - length (without_empty_lines (y ∷ xs))) = omega (arith, ap length e, w) in
    e ∙ skip_end (y ∷ xs) ∙ ap (λ k. drop k (x ∷ y ∷ xs)) (sym n))
    (λ no. ⊎_elim
    (λ both.
    let w = without_empty_lines-within xs in
    let e = skips_crlf x y xs no both in
    let n : length (x ∷ y ∷ xs) - length (without_empty_lines (x ∷ y ∷ xs)) ≡ suc (suc (length xs - length (without_empty_lines xs))) = omega (arith, ap length e, w) in
    e ∙ skip_end xs ∙ ap (λ k. drop k (x ∷ y ∷ xs)) (sym n))
    (λ other.
    let e = skips_none x y xs no other in
    let n : length (x ∷ y ∷ xs) - length (without_empty_lines (x ∷ y ∷ xs)) ≡ 0 = omega (arith, ap length e) in
    e ∙ ap (λ k. drop k (x ∷ y ∷ xs)) (sym n))
    (bool_cases ((x == carriage_return) && (y == line_feed))))
    (bool_cases (x == line_feed))

two_first : (k : ℕ) (y : ℕ) (xs : List ℕ) → 1 ≤ k → take k (y ∷ xs) ≡ y ∷ take (k - 1) xs
two_first k y xs some =
    let s : k ≡ suc (k - 1) = omega (arith, some) in
    ap (λ n. take n (y ∷ xs)) s

-- the empty lines of the octets up to the end of a head are those of all
pub head_block : (xs : List ℕ) (m : ℕ) → head_end (without_empty_lines xs) ≡ Some m → without_empty_lines (take ((length xs - length (without_empty_lines xs)) + m) xs) ≡ take m (without_empty_lines xs)
unfolding without_empty_lines
head_block [] m e = none_some m (sym head_end_nil ∙ e)
head_block (x ∷ []) m e =
    ⊎_elim (λ yes. none_some m (sym head_end_nil ∙ (rw yes at e))) (λ no. none_some m (sym (head_end_short x) ∙ (rw no at e))) (bool_cases (x == line_feed))
head_block (x ∷ y ∷ xs) m e =
    let least = head_end-least (without_empty_lines (x ∷ y ∷ xs)) m e in
    ⊎_elim
    (λ yes.
    let w = without_empty_lines-within (y ∷ xs) in
    let s = skips_lf x y xs yes in
    let k = (length (y ∷ xs) - length (without_empty_lines (y ∷ xs))) + m in
    let n : (length (x ∷ y ∷ xs) - length (without_empty_lines (x ∷ y ∷ xs))) + m ≡ suc k = omega (arith, ap length s, w) in
    let first = two_first k y xs (omega (arith, least)) in
    ap (λ j. without_empty_lines (take j (x ∷ y ∷ xs))) n
    ∙ ap (λ l. without_empty_lines (x ∷ l)) first
    ∙ skips_lf x y (take (k - 1) xs) yes
    ∙ ap without_empty_lines (sym first)
    ∙ head_block (y ∷ xs) m (ap head_end (sym s) ∙ e)
    ∙ ap (take m) (sym s))
    (λ no. ⊎_elim
    (λ both.
    let w = without_empty_lines-within xs in
    let s = skips_crlf x y xs no both in
    let k = (length xs - length (without_empty_lines xs)) + m in
    let n : (length (x ∷ y ∷ xs) - length (without_empty_lines (x ∷ y ∷ xs))) + m ≡ suc (suc k) = omega (arith, ap length s, w) in
    ap (λ j. without_empty_lines (take j (x ∷ y ∷ xs))) n
    ∙ skips_crlf x y (take k xs) no both
    ∙ head_block xs m (ap head_end (sym s) ∙ e)
    ∙ ap (take m) (sym s))
    (λ other.
    let s = skips_none x y xs no other in
    let n : (length (x ∷ y ∷ xs) - length (without_empty_lines (x ∷ y ∷ xs))) + m ≡ suc (suc (m - 2)) = omega (arith, ap length s, least) in
    let all : m ≡ suc (suc (m - 2)) = omega (arith, least) in
    ap (λ j. without_empty_lines (take j (x ∷ y ∷ xs))) n
    ∙ skips_none x y (take (m - 2) xs) no other
    ∙ ap (λ j. take j (x ∷ y ∷ xs)) (sym all)
    ∙ ap (take m) (sym s))
    (bool_cases ((x == carriage_return) && (y == line_feed))))
    (bool_cases (x == line_feed))

-- The search

-- where it begins: behind the empty lines that are there
pub begins_at : (unread : List ℕ) (begun : ℕ) → begun ≤ length unread → Skipped unread begun
    → (without_empty_lines unread ≡ without_empty_lines (drop begun unread)) × (without_empty_lines (drop begun unread) ≡ drop (length unread - length (without_empty_lines (drop begun unread))) unread)
begins_at unread begun within skipped =
    let w = without_empty_lines-within (drop begun unread) in
    let l = length-drop begun unread in (
      ap without_empty_lines (sym (append-nil unread)) ∙ skipped [] ∙ ap without_empty_lines (append-nil (drop begun unread)),
      skip_end (drop begun unread) ∙ drop-drop (length (drop begun unread) - length (without_empty_lines (drop begun unread))) begun unread
          ∙ ap (λ k. drop k unread) (omega (arith, w, l, within)),
    )

pub skipped_to : (unread : List ℕ) (begun begins : ℕ) → Skipped unread begun → drop begins unread ≡ without_empty_lines (drop begun unread) → Skipped unread begins
skipped_to unread begun begins skipped is = λ more. skipped more ∙ skip_more (drop begun unread) more ∙ ap (λ l. without_empty_lines (l ++ more)) (sym is)

-- no end: two octets before the end the search goes on
pub looked_on : (unread : List ℕ) (begun last : ℕ) → begun ≤ last → last + 2 ≤ length unread → head_end (drop begun unread) ≡ None → Looked unread begun last
looked_on unread begun last order long none = λ more.
    let l = length-drop begun unread in
    head_end-resume (last - begun) (drop begun unread) more (omega (arith, l, order, long)) none
    ∙ ap (λ xs. option_map (λ n. (last - begun) + n) (head_end (xs ++ more))) (drop-drop (last - begun) begun unread ∙ ap (λ k. drop k unread) (omega (arith, order)))

pub looked_now : (unread : List ℕ) (begun from : ℕ) → Looked unread begun from → head_end (drop begun unread) ≡ option_map (λ n. (from - begun) + n) (head_end (drop from unread))
looked_now unread begun from looked =
    ap head_end (sym (append-nil (drop begun unread))) ∙ looked [] ∙ ap (λ l. option_map (λ n. (from - begun) + n) (head_end l)) (append-nil (drop from unread))

pub size_none : (unread : List ℕ) → head_end (without_empty_lines unread) ≡ None → head_size unread ≡ None
size_none unread none = rw none refl

pub size_some : (unread : List ℕ) (m : ℕ) → head_end (without_empty_lines unread) ≡ Some m → head_size unread ≡ Some ((length unread - length (without_empty_lines unread)) + m)
size_some unread m some = rw some refl

-- a head ends
pub ends_at : (unread : List ℕ) (begins from n : ℕ) → begins ≤ from → from ≤ length unread → without_empty_lines unread ≡ drop begins unread → Looked unread begins from → head_end (drop from unread) ≡ Some n
    → (head_size unread ≡ Some (from + n)) × (without_empty_lines (take (from + n) unread) ≡ take ((from + n) - begins) (drop begins unread))
ends_at unread begins from n order within is looked found =
    let m = (from - begins) + n in
    let end : head_end (without_empty_lines unread) ≡ Some m = ap head_end is ∙ looked_now unread begins from looked ∙ ap (option_map (λ n. (from - begins) + n)) found in
    let l = ap length is ∙ length-drop begins unread in
    let place : (length unread - length (without_empty_lines unread)) + m ≡ from + n = omega (arith, l, order, within) in
    let rest : m ≡ (from + n) - begins = omega (arith, order) in (
      size_some unread m end ∙ ap Some place,
      ap (λ k. without_empty_lines (take k unread)) (sym place) ∙ head_block unread m end ∙ ap (take m) is ∙ ap (λ k. take k (drop begins unread)) rest,
    )

-- none ends
pub open_at : (unread : List ℕ) (begins from : ℕ) → without_empty_lines unread ≡ drop begins unread → Looked unread begins from → head_end (drop from unread) ≡ None
    → (head_size unread ≡ None) × (head_end (drop begins unread) ≡ None)
open_at unread begins from is looked none =
    let end : head_end (drop begins unread) ≡ None = looked_now unread begins from looked ∙ ap (option_map (λ n. (from - begins) + n)) none in
    (size_none unread (ap head_end is ∙ end), end)
