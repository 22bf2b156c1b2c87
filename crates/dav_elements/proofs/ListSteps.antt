-- One item more of those that a loop has gone over, and all of them: what is found in items is found piece by piece.
use Rattle.std.proofs.Common.{◌≡◌, ℕ, ◌+◌, ◌<◌, Bool, true, false, ◌||◌, List, [], ◌∷◌, ◌++◌, length, take, drop, get_or, Some, None, refl, sym, ap, ◌∙◌, arith}
use Rattle.std.specs.Prelude.{filter, find, flat_map}
use Rattle.std.specs.List.{list_any}
use Rattle.std.specs.Option.{option_or}
use Rattle.std.proofs.lemmas.Bool.{or_left, or_parts, ne_eqb, cond-true, cond-false}
use Rattle.std.proofs.lemmas.Grind.{flat_map-append}
use Rattle.std.proofs.lemmas.List.{take_more, drop_more, length-append, append-nil, append_assoc, take-append-drop}
use Rattle.std.proofs.lemmas.List.Elements.{filter-append}
use Rattle.std.proofs.lemmas.List.Folds.{list_any-append, find-append}
use Rattle.cal_model.specs.Words.Lists.{is_empty}

-- what is found up to an item, in it, and up to the next
pub record More {Y : Type 0} (before piece after : List Y) : Type 0 where
  pub is : after ≡ before ++ piece

-- what is found up to an item, in it, behind it, and in all
pub record Split {Y : Type 0} (before piece rest all : List Y) : Type 0 where
  pub is : all ≡ (before ++ piece) ++ rest

pub flat_more : {X Y : Type 0} (found : X → List Y) (items : List X) (i : ℕ) (item : X) → i < length items → item ≡ get_or items i item
    → More (flat_map found (take i items)) (found item) (flat_map found (take (i + 1) items))
flat_more found items i item within here = record {
  is =
      ap (flat_map found) (take_more items i item within ∙ ap (λ y. take i items ++ y ∷ []) (sym here))
      ∙ flat_map-append found (take i items) (item ∷ [])
      ∙ ap (λ ys. flat_map found (take i items) ++ ys) (append-nil (found item));
}

pub flat_split : {X Y : Type 0} (found : X → List Y) (items : List X) (i : ℕ) (item : X) → i < length items → item ≡ get_or items i item
    → Split (flat_map found (take i items)) (found item) (flat_map found (drop (i + 1) items)) (flat_map found items)
flat_split found items i item within here = record {
  is =
      ap (flat_map found) (sym (take-append-drop (i + 1) items))
      ∙ flat_map-append found (take (i + 1) items) (drop (i + 1) items)
      ∙ ap (λ ys. ys ++ flat_map found (drop (i + 1) items)) (flat_more found items i item within here).is;
}

-- of what is found, what passes a test

pub kept_more : {Y : Type 0} (keep : Y → Bool) {before piece after : List Y} → More before piece after → More (filter keep before) (filter keep piece) (filter keep after)
kept_more keep {before} {piece} {after} more = record { is = ap (filter keep) more.is ∙ filter-append keep before piece }

pub kept_split : {Y : Type 0} (keep : Y → Bool) {before piece rest all : List Y} → Split before piece rest all → Split (filter keep before) (filter keep piece) (filter keep rest) (filter keep all)
kept_split keep {before} {piece} {rest} {all} split = record {
  is = ap (filter keep) split.is ∙ filter-append keep (before ++ piece) rest ∙ ap (λ ys. ys ++ filter keep rest) (filter-append keep before piece);
}

pub nothing_more : {Y : Type 0} {before piece after : List Y} → More before piece after → [] ≡ piece → before ≡ after
nothing_more {Y} {before} {piece} {after} more found = sym (append-nil before) ∙ ap (λ ys. before ++ ys) found ∙ sym more.is

-- Whether one passes

pub any_found : {Y : Type 0} (test : Y → Bool) {before piece rest all : List Y} (one : Y) → Split before piece rest all → (one ∷ []) ≡ piece → test one ≡ true → list_any test all ≡ true
any_found test {before} {piece} {rest} {all} one split found passes =
    ap (list_any test) (split.is ∙ append_assoc before piece rest ∙ ap (λ ys. before ++ (ys ++ rest)) (sym found))
    ∙ list_any-append test before (one ∷ rest)
    ∙ at_last (list_any test before) (test one || list_any test rest) (or_left (test one) (list_any test rest) passes)
  where
    at_last : (s t : Bool) → t ≡ true → (s || t) ≡ true
    at_last true t e = refl
    at_last false t e = e

pub fails_piece : {Y : Type 0} (test : Y → Bool) {before piece rest all : List Y} → Split before piece rest all → list_any test all ≡ false → list_any test piece ≡ false
fails_piece test {before} {piece} {rest} {all} split none =
    let outer = or_parts (list_any test (before ++ piece)) (list_any test rest) (sym (list_any-append test (before ++ piece) rest) ∙ ap (list_any test) (sym split.is) ∙ none) in
    (or_parts (list_any test before) (list_any test piece) (sym (list_any-append test before piece) ∙ outer.0)).1

-- The first

pub first_found : {Y : Type 0} {before piece rest all : List Y} (one : Y) → Split before piece rest all → (one ∷ []) ≡ piece → before ≡ [] → (one ∷ []) ≡ take 1 all
first_found {Y} {before} {piece} {rest} {all} one split found none =
    sym (ap (take 1) (split.is ∙ ap (λ ys. (ys ++ piece) ++ rest) none ∙ ap (λ ys. ys ++ rest) (sym found)))

-- something is found where one item has something
pub found_some : {Y : Type 0} {before piece rest all : List Y} (one : Y) → Split before piece rest all → (one ∷ []) ≡ piece → is_empty all ≡ false
found_some {Y} {before} {piece} {rest} {all} one split found =
    ne_eqb (length all) 0 (λ e. omega (
      arith,
      e,
      ap length split.is,
      length-append (before ++ piece) rest,
      length-append before piece,
      ap length found,
    ))

-- Looking for the first that passes

pub find_found : {X : Type 0} (test : X → Bool) (items : List X) (i : ℕ) (item : X) → i < length items → item ≡ get_or items i item → find test (take i items) ≡ None → test item ≡ true → find test items ≡ Some item
find_found test items i item within here none passes =
    let behind = drop (i + 1) items in
    ap (find test) (sym (take-append-drop i items) ∙ ap (λ xs. take i items ++ xs) (drop_more items i item within ∙ ap (λ x. x ∷ behind) (sym here)))
    ∙ find-append test (take i items) (item ∷ behind)
    ∙ ap (λ found. option_or found (find test (item ∷ behind))) none
    ∙ cond-true (test item) (Some item) (find test behind) passes

pub find_more : {X : Type 0} (test : X → Bool) (items : List X) (i : ℕ) (item : X) → i < length items → item ≡ get_or items i item → find test (take i items) ≡ None → test item ≡ false → find test (take (i + 1) items) ≡ None
find_more test items i item within here none fails =
    ap (find test) (take_more items i item within ∙ ap (λ x. take i items ++ x ∷ []) (sym here))
    ∙ find-append test (take i items) (item ∷ [])
    ∙ ap (λ found. option_or found (find test (item ∷ []))) none
    ∙ cond-false (test item) (Some item) None fails
