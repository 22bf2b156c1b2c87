-- The way down a tree of flags to its first leaf that is set.
use Rattle.std.proofs.Common.{◌≡◌, ◌≢◌, ℕ, suc, zero, ◌+◌, ◌/◌, ◌<◌, ◌≤◌, Bool, true, false, ◌||◌, if◌then◌else◌, List, length, drop, refl, sym, ap, ◌∙◌, subst, inl, inr, arith, lit≤, lit<}
use Rattle.std.proofs.lemmas.List.{get_or-drop}
use Rattle.number_set.specs.Sets.{has}
use Rattle.number_set.specs.Trees.{doubled, AreSums, IsTree}
use Rattle.number_set.proofs.TreeLemmas.{has_within, same_or_not}

-- the node that is so many levels above one
abbrev pub up : ℕ → ℕ → ℕ
up zero p = p
up (suc n) p = up n (p / 2)

up-half : (n p : ℕ) → up n (p / 2) ≡ up n p / 2
up-half zero p = refl
up-half (suc n) p = up-half n (p / 2)

pub one_at_least : (n : ℕ) → 1 ≤ doubled n
one_at_least zero = lit≤ tt
one_at_least (suc n) = let rest = one_at_least n in omega arith

pub height_below : (n : ℕ) → n < doubled n
height_below zero = lit< tt
height_below (suc n) = let rest = height_below n in let one = one_at_least n in omega arith

pub low_up : (h p : ℕ) → doubled h ≤ p → 1 ≤ up h p
low_up zero p low = low
low_up (suc h) p low = low_up h (p / 2) (omega arith)

high_up : (h p : ℕ) → p < doubled h + doubled h → up h p < 2
high_up zero p high = high
high_up (suc h) p high = high_up h (p / 2) (omega arith)

left_or_right : (q : ℕ) (nodes : List Bool) → has nodes q ≡ true → (has nodes (q / 2 + q / 2) || has nodes (q / 2 + q / 2 + 1)) ≡ true
left_or_right q nodes is =
    elim (same_or_not q (q / 2 + q / 2)) [
      | inl even ↦ ap (λ b. b || has nodes (q / 2 + q / 2 + 1)) (ap (has nodes) (sym even) ∙ is)
      | inr odd ↦ (let e : q / 2 + q / 2 + 1 ≡ q = omega arith in second (has nodes (q / 2 + q / 2)) (has nodes (q / 2 + q / 2 + 1)) (ap (has nodes) e ∙ is))
    ]
  where
    second : (a b : Bool) → b ≡ true → (a || b) ≡ true
    second true b is = refl
    second false b is = is

-- what is above a set node is set
above : (nodes : List Bool) (n p : ℕ) → AreSums nodes → has nodes p ≡ true → 1 ≤ up n p → has nodes (up n p) ≡ true
above nodes zero p sums is low = is
above nodes (suc n) p sums is low =
    let e = up-half n p in
    let q_set = above nodes n p sums is (omega arith) in
    let within = has_within nodes (up n p) q_set in
    let here : has nodes (up n p / 2) ≡ true = sums (up n p / 2) (omega arith) (omega arith) ∙ left_or_right (up n p) nodes q_set in
    ap (has nodes) e ∙ here

pub record IsOnTheWay (nodes : List Bool) (height at left : ℕ) : Type 0 where
  pub depth : ℕ
  pub level : depth + left ≡ height
  pub low : doubled depth ≤ at
  pub high : at < doubled depth + doubled depth
  pub is_set : has nodes at ≡ true
  pub before : (p : ℕ) → has nodes p ≡ true → doubled height ≤ p → at ≤ up left p

pub start : (nodes : List Bool) (height : ℕ) → has nodes 1 ≡ true → IsOnTheWay nodes height 1 height
start nodes height is =
    record { depth = 0; level = omega arith; low = lit≤ tt; high = lit< tt; is_set = is; before = λ p set low. low_up height p low }

-- a node that is on the way has children where there are levels left
pub has_children : (height depth left : ℕ) → depth + suc left ≡ height → doubled depth + doubled depth ≤ doubled height
has_children height depth left level = subst (λ n. doubled depth + doubled depth ≤ doubled n) (let e : suc (depth + left) ≡ height = omega arith in e) (grows depth left)
  where
    grows : (depth left : ℕ) → doubled (suc depth) ≤ doubled (suc (depth + left))
    grows depth zero = subst (λ n. doubled (suc depth) ≤ doubled (suc n)) (let e : depth ≡ depth + 0 = omega arith in e) (omega arith)
    grows depth (suc left) = subst (λ n. doubled (suc depth) ≤ doubled (suc n)) (let e : suc (depth + left) ≡ depth + suc left = omega arith in e) (let rest = grows depth left in omega arith)

pub one_down : (nodes : List Bool) (height at left next : ℕ) → length nodes ≡ doubled height + doubled height → AreSums nodes → IsOnTheWay nodes height at (suc left) → next ≡ (if has nodes (at + at) then at + at else at + at + 1) → IsOnTheWay nodes height next left
one_down nodes height at left next size sums i is = by_test (has nodes (at + at)) refl is
  where
    sum : has nodes at ≡ (has nodes (at + at) || has nodes (at + at + 1))
    sum = (let low = i.low in let high = i.high in let room = has_children height i.depth left i.level in sums at (let one = at_least_one i.depth in omega arith) (omega arith))
      where
        at_least_one : (n : ℕ) → 1 ≤ doubled n
        at_least_one zero = lit≤ tt
        at_least_one (suc n) = let rest = at_least_one n in omega arith

    higher : (p : ℕ) → has nodes p ≡ true → doubled height ≤ p → at + at ≤ up left p
    higher p set low = let b = i.before p set low in let e = up-half left p in omega arith

    by_test : (b : Bool) → has nodes (at + at) ≡ b → next ≡ (if b then at + at else at + at + 1) → IsOnTheWay nodes height next left
    by_test true left_set is' =
        let low = i.low in
        let high = i.high in
        let level = i.level in
        record {
          depth = suc i.depth;
          level = omega arith;
          low = omega arith;
          high = omega arith;
          is_set = ap (has nodes) is' ∙ left_set;
          before = λ p set low'. (let h = higher p set low' in omega arith);
        }
    by_test false left_unset is' =
        let low = i.low in
        let high = i.high in
        let level = i.level in
        record {
          depth = suc i.depth;
          level = omega arith;
          low = omega arith;
          high = omega arith;
          is_set = ap (has nodes) is' ∙ sym (sym i.is_set ∙ sum ∙ ap (λ b. b || has nodes (at + at + 1)) left_unset);
          before = λ p set low'. (
              let h = higher p set low' in
              let not_left : up left p ≢ at + at = λ e. (let f = sym left_unset ∙ ap (has nodes) (sym e) ∙ above nodes left p sums set (let one = low_up height p low' in let l = i.low in far_up p set low') in cc) in
              omega arith);
        }
      where
        far_up : (p : ℕ) → has nodes p ≡ true → doubled height ≤ p → 1 ≤ up left p
        far_up p set low' = let h = higher p set low' in let b = at_one in omega arith
          where
            at_one : 1 ≤ at
            at_one = let low = i.low in let one = at_least i.depth in omega arith
              where
                at_least : (n : ℕ) → 1 ≤ doubled n
                at_least zero = lit≤ tt
                at_least (suc n) = let rest = at_least n in omega arith

-- where the root is not set, no leaf is
pub none_set : (nodes : List Bool) (height : ℕ) → length nodes ≡ doubled height + doubled height → AreSums nodes → has nodes 1 ≡ false → (p : ℕ) → doubled height ≤ p → has nodes p ≡ true → ⊥
none_set nodes height size sums root p low set =
    let within = has_within nodes p set in
    let one = low_up height p low in
    let two = high_up height p (omega arith) in
    let top : up height p ≡ 1 = omega arith in
    let f = sym root ∙ ap (has nodes) (sym top) ∙ above nodes height p sums set one in
    cc

unset_or : (b : Bool) → (b ≡ true → ⊥) → b ≡ false
unset_or true no_true = absurd (no_true refl)
unset_or false _ = refl

pub no_leaf : (nodes : List Bool) (width height : ℕ) → IsTree nodes width height → has nodes 1 ≡ false → (n : ℕ) → has (drop width nodes) n ≡ false
no_leaf nodes width height tree root n =
    get_or-drop width nodes n false
    ∙ unset_or (has nodes (width + n)) (λ is. none_set nodes height (let power = tree.power in let size = tree.size in omega arith) tree.sums root (width + n) (let power = tree.power in omega arith) is)
