-- BYSETPOS within one period: by place in its list.
use Rattle.std.proofs.Common.{◌≡◌, ℕ, ◌+◌, ◌<◌, List, [], ◌∷◌, ◌++◌, length, get_or, take, refl, sym, ap, ◌∙◌, arith, Bool, true, false}
use Rattle.std.specs.Prelude.{All, AllPairs, filter, cond, if◌then◌else◌}
use Rattle.std.proofs.Common.{map, drop, append_assoc}
use Rattle.std.proofs.lemmas.List.{get_or-map, length-map, drop_more}
use Rattle.cal_moment.specs.declared.stamp.Local.{Local}
use Rattle.std.proofs.lemmas.List.Elements.{filter_more}
use Rattle.cal_model.specs.declared.rule.Rule.{Rule}
use Rattle.cal_model.specs.Words.Lists.{is_empty}
use Rattle.cal_model.specs.Words.Integers.{some_names_place}
use Rattle.cal_model.specs.Values.LocalTimes.{moment_of_local}
use Rattle.cal_model.specs.Recurrence.Passing.{period_number}
use Rattle.cal_model.specs.Recurrence.RecurrenceSet.{at_places, same_period, place_in_period, size_of_period}
use Rattle.cal_model.proofs.Recurrence.Periods.{place_within, all_same}
use Rattle.cal_model.proofs.Recurrence.RecurrenceSetLemmas.{Rises}

-- the test of BYSETPOS over a list
abbrev pub is_picked : Rule → List ℕ → ℕ → Bool
is_picked rule found m = some_names_place rule.by_set_pos (place_in_period rule found m) (size_of_period rule found m)

module _ (rule : Rule) (found : List ℕ) (n : ℕ) (rises : Rises found) (one : All (λ m. period_number rule.freq rule.week_start m ≡ n) found) where
  with_member : (i d : ℕ) → i < length found → All (λ k. same_period rule (get_or found i d) k ≡ true) found
  with_member i d lt j e below =
      let a = one i d lt in let b = one j e below in
      let same : period_number rule.freq rule.week_start (get_or found i d) ≡ period_number rule.freq rule.week_start (get_or found j e) = a ∙ sym b in
      rw same (grind arith)

  -- the place of a member is its index and one, and its period's size is the length
  pub is_picked-at : (i d : ℕ) → i < length found → is_picked rule found (get_or found i d) ≡ some_names_place rule.by_set_pos (i + 1) (length found)
  is_picked-at i d lt =
      let all = with_member i d lt in
      let place = place_within rule found i d lt (λ j l e a b. rises j l e a b) all in
      let size = all_same rule (get_or found i d) found all in
      rw (place, size) refl

  -- one member more
  pub picked_more : (i d : ℕ) → i < length found → filter (is_picked rule found) (take (i + 1) found) ≡ filter (is_picked rule found) (take i found) ++ cond (some_names_place rule.by_set_pos (i + 1) (length found)) (get_or found i d ∷ []) []
  picked_more i d lt = filter_more (is_picked rule found) found i d lt ∙ ap (λ b. filter (is_picked rule found) (take i found) ++ cond b (get_or found i d ∷ []) []) (is_picked-at i d lt)

pub picked_all : (rule : Rule) (found : List ℕ) → is_empty rule.by_set_pos ≡ false → filter (is_picked rule found) found ≡ at_places rule found
picked_all rule found some = rw some refl

-- The moment at a place.

pub moment_at : (ls : List Local) (k : ℕ) (d : Local) (e : ℕ) → k < length ls → get_or (map moment_of_local ls) k e ≡ moment_of_local (get_or ls k d)
moment_at ls k d e below = get_or-map moment_of_local ls k d e below

pub moments_length : (ls : List Local) → length (map moment_of_local ls) ≡ length ls
moments_length ls = length-map ls moment_of_local

pub drop_moment : (ls : List Local) (k : ℕ) (m : Local) → k < length ls → m ≡ get_or ls k m → drop k (map moment_of_local ls) ≡ moment_of_local m ∷ drop (k + 1) (map moment_of_local ls)
drop_moment ls k m below at =
    drop_more (map moment_of_local ls) k 0 (rw (moments_length ls) below) ∙ ap (λ x. x ∷ drop (k + 1) (map moment_of_local ls)) (moment_at ls k m 0 below ∙ ap moment_of_local (sym at))

assoc : (xs ys zs : List ℕ) → (xs ++ ys) ++ zs ≡ xs ++ (ys ++ zs)
assoc xs ys zs = rw append_assoc refl

-- BYSETPOS, one place more
pub picked_step : (rule : Rule) (found : List Local) (before after start : List ℕ) (k : ℕ) (m : Local) (test : Bool) →
    AllPairs (λ x y. x < y) (map moment_of_local found) → ((n : ℕ) × All (λ m. period_number rule.freq rule.week_start m ≡ n) (map moment_of_local found)) → k < length found → m ≡ get_or found k m →
    test ≡ some_names_place rule.by_set_pos (k + 1) (length found) →
    before ≡ start ++ filter (is_picked rule (map moment_of_local found)) (take k (map moment_of_local found)) → after ≡ before ++ (if test then moment_of_local m ∷ [] else []) →
    after ≡ start ++ filter (is_picked rule (map moment_of_local found)) (take (k + 1) (map moment_of_local found))
picked_step rule found before after start k m test rises one below at says so_far grown =
    let ms = map moment_of_local found in
    let more = picked_more rule (map moment_of_local found) one.0 rises one.1 k 0 (rw (moments_length found) below) in
    let item : get_or (map moment_of_local found) k 0 ≡ moment_of_local m = moment_at found k m 0 below ∙ ap moment_of_local (sym at) in
    let said : some_names_place rule.by_set_pos (k + 1) (length (map moment_of_local found)) ≡ test = ap (λ n. some_names_place rule.by_set_pos (k + 1) n) (moments_length found) ∙ sym says in
    grown ∙ (ap (λ xs. xs ++ (if test then moment_of_local m ∷ [] else [])) so_far ∙ (assoc start (filter (is_picked rule (map moment_of_local found)) (take k (map moment_of_local found))) (if test then moment_of_local m ∷ [] else []) ∙ ap (λ xs. start ++ xs) (sym (more ∙ (ap (λ b. filter (is_picked rule (map moment_of_local found)) (take k (map moment_of_local found)) ++ cond b (get_or (map moment_of_local found) k 0 ∷ []) []) said ∙ ap (λ x. filter (is_picked rule (map moment_of_local found)) (take k (map moment_of_local found)) ++ cond test (x ∷ []) []) item)))))
