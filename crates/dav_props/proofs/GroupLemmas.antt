-- The hrefs of those users and groups, by their numbers, that pass a test.
use Rattle.std.proofs.Common.{◌≡◌, ℕ, zero, suc, ◌+◌, Bool, true, false, cond, List, [], ◌∷◌, ◌++◌, map, length, take, refl, sym, ap, ◌∙◌, append-nil, append_assoc, arith}
use Rattle.std.specs.Prelude.{◌||◌, filter, flat_map, option_to_list, slice_get}
use Rattle.std.specs.List.{list_any, enumerate_from, range_with_len}
use Rattle.std.proofs.Math.Seq.{take-append_seam}
use Rattle.std.proofs.lemmas.Grind.{flat_map-append}
use Rattle.std.proofs.lemmas.List.Elements.{filter-append}
use Rattle.cal_model.specs.declared.path.Path.TheVariants.{Principal}
use Rattle.cal_model.specs.Properties.PropertyValues.{members_of, memberships_of}
use Rattle.cal_model.specs.Replies.ReplyElements.{href_element}
use Rattle.cal_model.specs.State.ServerState.{Directory, has_member, is_member, groups_of, group_name, user_name}
use Rattle.cal_model.specs.Users.UsersFile.{Group}

abbrev href_of : (ℕ → List ℕ) → ℕ → List ℕ
href_of name number = href_element (Principal (name number))

-- the hrefs of those numbers below one that pass a test
abbrev pub hrefs_below : (ℕ → Bool) → (ℕ → List ℕ) → ℕ → List ℕ
hrefs_below test name n = flat_map (href_of name) (filter test (range_with_len 0 n))

range_more : (a n : ℕ) → range_with_len a (suc n) ≡ range_with_len a n ++ (a + n) ∷ []
range_more a zero = ap (λ k. k ∷ []) (let same : a ≡ a + 0 = omega arith in same)
range_more a (suc n) = ap (λ rest. a ∷ rest) (range_more (a + 1) n ∙ ap (λ k. range_with_len (a + 1) n ++ k ∷ []) (let same : a + 1 + n ≡ a + suc n = omega arith in same))

hrefs_more : (test : ℕ → Bool) (name : ℕ → List ℕ) (n : ℕ) → hrefs_below test name (n + 1) ≡ hrefs_below test name n ++ cond (test n) (href_of name n) []
hrefs_more test name n =
    ap (λ numbers. flat_map (href_of name) (filter test numbers)) more
    ∙ ap (flat_map (href_of name)) (filter-append test (range_with_len 0 n) (n ∷ []))
    ∙ flat_map-append (href_of name) (filter test (range_with_len 0 n)) (filter test (n ∷ []))
    ∙ ap (λ rest. hrefs_below test name n ++ rest) (one (test n))
  where
    more : range_with_len 0 (n + 1) ≡ range_with_len 0 n ++ n ∷ []
    more =
        ap (range_with_len 0) (let same : n + 1 ≡ suc n = omega arith in same)
        ∙ (range_more 0 n ∙ ap (λ k. range_with_len 0 n ++ k ∷ []) (let same : 0 + n ≡ n = omega arith in same))

    one : (wanted : Bool) → flat_map (href_of name) (cond wanted (n ∷ []) []) ≡ cond wanted (href_of name n) []
    one true = append-nil (href_of name n)
    one false = refl

-- one more was looked at, and written where it passes
pub one_more : (test : ℕ → Bool) (name : ℕ → List ℕ) (n : ℕ) (old out new shown : List ℕ) (wanted : Bool) → out ≡ old ++ hrefs_below test name n
    → new ≡ out ++ cond wanted (href_element (Principal shown)) [] → wanted ≡ test n → shown ≡ name n → new ≡ old ++ hrefs_below test name (n + 1)
one_more test name n old out new shown wanted so_far written is same =
    written
    ∙ (λ i. so_far i ++ cond (is i) (href_element (Principal (same i))) [])
    ∙ append_assoc old (hrefs_below test name n) (cond (test n) (href_of name n) [])
    ∙ ap (λ more. old ++ more) (sym (hrefs_more test name n))

pub front_kept : (old new more : List ℕ) → new ≡ old ++ more → take (length old) new ≡ old
front_kept old new more is = ap (take (length old)) is ∙ take-append_seam old more

-- all were looked at
pub all_members : (directory : Directory) (group n : ℕ) (old out : List ℕ) → n ≡ length directory.names → out ≡ old ++ hrefs_below (is_member directory group) (user_name directory) n
    → out ≡ old ++ members_of directory group
all_members directory group n old out all so_far = so_far ∙ ap (λ k. old ++ hrefs_below (is_member directory group) (user_name directory) k) all

-- The groups of a user

or_false : (test : Bool) → (test || false) ≡ test
or_false true = refl
or_false false = refl

numbers_of : (test : ℕ → Bool) (own : Group → Bool) (from : ℕ) (groups : List Group) → ((n : ℕ) → test (from + n) ≡ list_any own (option_to_list (slice_get groups n)))
    → filter test (range_with_len from (length groups)) ≡ map (λ (group : ℕ × Group). group.0) (filter (λ (group : ℕ × Group). own group.1) (enumerate_from from groups))
numbers_of test own from [] same = refl
numbers_of test own from (group ∷ groups) same =
    by (test from) (own group) (ap test (let at : from ≡ from + 0 = omega arith in at) ∙ same 0 ∙ or_false (own group))
    (numbers_of test own (from + 1) groups (λ n. ap test (let at : from + 1 + n ≡ from + suc n = omega arith in at) ∙ same (suc n)))
  where
    rest : List ℕ
    rest = range_with_len (from + 1) (length groups)

    others : List (ℕ × Group)
    others = filter (λ (other : ℕ × Group). own other.1) (enumerate_from (from + 1) groups)

    by : (here passes : Bool) → here ≡ passes → filter test rest ≡ map (λ (other : ℕ × Group). other.0) others
        → cond here (from ∷ filter test rest) (filter test rest) ≡ map (λ (other : ℕ × Group). other.0) (cond passes ((from, group) ∷ others) others)
    by here true is later = λ i. cond (is i) (from ∷ later i) (later i)
    by here false is later = λ i. cond (is i) (from ∷ later i) (later i)

groups_are : (directory : Directory) (user : ℕ) → filter (λ group. is_member directory group user) (range_with_len 0 (length directory.groups)) ≡ groups_of directory user
groups_are directory user =
    numbers_of (λ group. is_member directory group user) (has_member user) 0 directory.groups
    (λ n. ap (λ group. is_member directory group user) (let at : 0 + n ≡ n = omega arith in at))

memberships_are : (directory : Directory) (user : ℕ) → hrefs_below (λ group. is_member directory group user) (group_name directory) (length directory.groups) ≡ memberships_of directory user
memberships_are directory user = ap (flat_map (href_of (group_name directory))) (groups_are directory user)

pub all_groups : (directory : Directory) (user n : ℕ) (old out : List ℕ) → n ≡ length directory.groups
    → out ≡ old ++ hrefs_below (λ group. is_member directory group user) (group_name directory) n → out ≡ old ++ memberships_of directory user
all_groups directory user n old out all so_far =
    so_far ∙ ap (λ more. old ++ more) (ap (hrefs_below (λ group. is_member directory group user) (group_name directory)) all ∙ memberships_are directory user)
