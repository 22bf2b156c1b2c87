-- Where lines and heads end, read one octet after the other.
use Rattle.std.proofs.Common.{◌≡◌, ℕ, suc, ◌+◌, ◌-◌, ◌≤◌, ◌<◌, ◌==◌, ◌&&◌, List, [], ◌∷◌, length, drop, Option, Some, None, refl, sym, ap, ◌∙◌, arith, ⊎_elim}
use Rattle.std.specs.Prelude.{option_map, slice_index}
use Rattle.std.proofs.lemmas.Option.{same_Some}
use Rattle.cal_base.specs.Texts.Octets.{line_feed, carriage_return}
use Rattle.cal_model.specs.Streams.Heads.{empty_line, ends_here, head_end, without_empty_lines}
use Rattle.cal_model.proofs.Streams.StreamFronts.{bool_cases, none_some, head_end_found, head_end_later, head_end_nil, skips_lf, skips_crlf, skips_none}

-- behind an empty line
pub skip_one : (xs : List ℕ) (n : ℕ) → empty_line xs ≡ Some n → without_empty_lines xs ≡ without_empty_lines (drop n xs)
unfolding without_empty_lines
skip_one [] n e = none_some n e
skip_one (b ∷ []) n e =
    ⊎_elim (λ yes. let s = same_Some _ _ (rw yes at e) in rw (yes, ← s) refl) (λ no. none_some n (rw no at e)) (bool_cases (b == line_feed))
skip_one (b ∷ c ∷ more) n e =
    ⊎_elim
    (λ yes. let s = same_Some _ _ (rw yes at e) in skips_lf b c more yes ∙ ap (λ k. without_empty_lines (drop k (b ∷ c ∷ more))) s)
    (λ no.
    let h = rw no at e in
    ⊎_elim
    (λ both. let s = same_Some _ _ (rw both at h) in skips_crlf b c more no both ∙ ap (λ k. without_empty_lines (drop k (b ∷ c ∷ more))) s)
    (λ neither. none_some n (rw neither at h))
    (bool_cases ((b == carriage_return) && (c == line_feed))))
    (bool_cases (b == line_feed))

-- where none stands in front
pub skip_none : (xs : List ℕ) → empty_line xs ≡ None → without_empty_lines xs ≡ xs
unfolding without_empty_lines
skip_none [] e = refl
skip_none (b ∷ []) e = ⊎_elim (λ yes. none_some 1 (sym (rw yes at e))) (λ no. rw no refl) (bool_cases (b == line_feed))
skip_none (b ∷ c ∷ more) e =
    ⊎_elim
    (λ yes. none_some 1 (sym (rw yes at e)))
    (λ no.
    let h = rw no at e in
    ⊎_elim (λ both. none_some 2 (sym (rw both at h))) (λ neither. skips_none b c more no neither) (bool_cases ((b == carriage_return) && (c == line_feed))))
    (bool_cases (b == line_feed))

-- the invariant of the search: where `rest` is left of `octets`
abbrev pub Left : List ℕ → List ℕ → Type 0
Left octets rest = head_end octets ≡ option_map (λ n. (length octets - length rest) + n) (head_end rest)

mapped_suc : (k l : ℕ) (o : Option ℕ) → suc k ≡ l → option_map (λ n. k + n) (option_map suc o) ≡ option_map (λ n. l + n) o
mapped_suc k l None e = refl
mapped_suc k l (Some n) e = ap Some (omega (arith, e))

pub left_next : (octets rest : List ℕ) → 0 < length rest → length rest ≤ length octets → Left octets rest → ends_here (slice_index rest 0) (drop 1 rest) ≡ None → Left octets (drop 1 rest)
left_next octets [] some within left none = absurd (omega arith)
left_next octets (b ∷ more) some within left none =
    left ∙ ap (option_map (λ n. (length octets - length (b ∷ more)) + n)) (head_end_later b more none) ∙ mapped_suc (length octets - length (b ∷ more)) (length octets - length more) (head_end more) (omega arith)

pub left_found : (octets rest : List ℕ) (n : ℕ) → 0 < length rest → Left octets rest → ends_here (slice_index rest 0) (drop 1 rest) ≡ Some n → Some ((length octets - length rest) + n) ≡ head_end octets
left_found octets [] n some left found = absurd (omega arith)
left_found octets (b ∷ more) n some left found =
    sym (left ∙ ap (option_map (λ n. (length octets - length (b ∷ more)) + n)) (head_end_found b more n found))

pub left_nothing : (octets rest : List ℕ) → length rest ≡ 0 → Left octets rest → None ≡ head_end octets
left_nothing octets [] none left = sym (left ∙ ap (option_map (λ n. (length octets - 0) + n)) head_end_nil)
left_nothing octets (b ∷ more) none left = absurd (omega (arith, none))

-- behind the empty lines no other stands
pub without_empty_lines-twice : (xs : List ℕ) → without_empty_lines (without_empty_lines xs) ≡ without_empty_lines xs
unfolding without_empty_lines
without_empty_lines-twice [] = refl
without_empty_lines-twice (b ∷ []) = ⊎_elim (λ feed. rw feed refl) (λ other. rw other (rw other refl)) (bool_cases (b == line_feed))
without_empty_lines-twice (b ∷ c ∷ xs) =
    ⊎_elim
    (λ feed. ap without_empty_lines (skips_lf b c xs feed) ∙ without_empty_lines-twice (c ∷ xs) ∙ sym (skips_lf b c xs feed))
    (λ other.
    ⊎_elim
    (λ both. ap without_empty_lines (skips_crlf b c xs other both) ∙ without_empty_lines-twice xs ∙ sym (skips_crlf b c xs other both))
    (λ none. ap without_empty_lines (skips_none b c xs other none))
    (bool_cases ((b == carriage_return) && (c == line_feed))))
    (bool_cases (b == line_feed))
