-- What a target names is a path, so a path that a target names is read back from its written form.
use Rattle.std.proofs.Common.{◌≡◌, ℕ, zero, suc, ◌-◌, ◌<◌, Bool, true, false, cond, not, ◌==◌, ◌&&◌, ◌||◌, List, [], ◌∷◌, ◌++◌, map, length, take, drop, Option, Some, None, IsTrue, All, refl, sym, ap, subst, arith, ◌⊎◌, inl, inr, ⊎_elim}
use Rattle.std.specs.Prelude.{codes, slice_index}
use Rattle.std.specs.List.{list_any}
use Rattle.std.specs.Str.{bytes_eq}
use Rattle.std.proofs.lemmas.Option.{same_Some}
use Rattle.std.proofs.lemmas.Bool.{false≢true}
use Rattle.std.proofs.lemmas.List.Elements.{All-head, All-tail, All-nil, All-cons}
use Rattle.base64.specs.GeneralPurpose.{IsBytes}
use Rattle.percent_encoding.specs.Percent.{percent_decode}
use Rattle.percent_encoding.proofs.PercentLemmas.{IsByte, All-percent_decode}
use Rattle.cal_base.specs.Lines.ContentLines.{pieces, onto_first}
use Rattle.cal_model.specs.Words.Lists.{is_empty, last_or_else}
use Rattle.cal_model.specs.declared.path.Path.{Path}
use Rattle.cal_model.specs.declared.path.Path.TheVariants.{Root, Principal, Home, Calendar, Object}
use Rattle.cal_model.specs.Words.Cuts.{cut_at}
use Rattle.cal_model.specs.Paths.TargetPaths.{is_resource_name, path_of_names, path_of_segments, path_of_text, without_query, without_host, target_path, is_path, slash}
use Rattle.cal_model.specs.Paths.TargetPathLaws.{HasOctets, TargetsNamePaths, PathsAreReadBack}
use Rattle.cal_model.proofs.Streams.StreamFronts.{bool_cases, none_some}
use Rattle.cal_model.proofs.Streams.HeadLaws.{both, piece_here, piece_later, cut_is}
use Rattle.cal_model.proofs.Paths.PathLaws.{hrefs_are_read_back}

-- Names with octets

pub Some-names : List (List ℕ) → Type 0
Some-names [] = Unit {0}
Some-names (name ∷ names) = (is_empty name ≡ false) × Some-names names

or_none : (a b : Bool) → (a || b) ≡ false → (a ≡ false) × (b ≡ false)
or_none true b e = absurd (false≢true (sym e))
or_none false b e = (refl, e)

pub all_some : (names : List (List ℕ)) → list_any is_empty names ≡ false → Some-names names
unfolding Some-names
all_some [] e = tt
all_some (name ∷ names) e = let each = or_none (is_empty name) (list_any is_empty names) e in (each.0, all_some names each.1)

-- what a choice gives
if_some : {X : Type 0} (b : Bool) (x : X) (o : Option X) (y : X) → cond b (Some x) o ≡ Some y → ((b ≡ true) × (x ≡ y)) ⊎ ((b ≡ false) × (o ≡ Some y))
if_some true x o y e = inl (refl, same_Some _ _ e)
if_some false x o y e = inr (refl, e)

-- the octets of a path's names
abbrev Names : (List ℕ → Type 0) → Path → Type 0
Names P Root = Unit {0}
Names P (Principal user) = P user
Names P (Home user) = P user
Names P (Calendar user calendar) = P user × P calendar
Names P (Object user calendar object) = P user × P calendar × P object

pub named : (P : List ℕ → Type 0) (ends : Bool) (names : List (List ℕ)) (path : Path) → Some-names names → All P names → path_of_names ends names ≡ Some path → (is_path path ≡ true) × Names P path
unfolding Some-names
named P ends [] path some all e = subst (λ p. (is_path p ≡ true) × Names P p) (same_Some _ _ e) (refl, tt)
named P ends (kind ∷ []) path some all e = none_some path e
named P ends (kind ∷ user ∷ []) path some all e =
    let octets = All-head P user [] (All-tail P kind (user ∷ []) all) in
    let there : not (is_empty user) ≡ true = ap not some.1.0 in
    ⊎_elim
    (λ first. subst (λ p. (is_path p ≡ true) × Names P p) first.1 (there, octets))
    (λ later. ⊎_elim
    (λ second. subst (λ p. (is_path p ≡ true) × Names P p) second.1 (there, octets))
    (λ neither. none_some path neither.1)
    (if_some (bytes_eq kind (codes "calendars")) (Home user) None path later.1))
    (if_some (bytes_eq kind (codes "principals")) (Principal user) (cond (bytes_eq kind (codes "calendars")) (Some (Home user)) None) path e)
named P ends (kind ∷ user ∷ calendar ∷ []) path some all e =
    let rest = All-tail P kind (user ∷ calendar ∷ []) all in
    let octets : P user × P calendar = (All-head P user (calendar ∷ []) rest, All-head P calendar [] (All-tail P user (calendar ∷ []) rest)) in
    ⊎_elim
    (λ first.
    let each = both (bytes_eq kind (codes "calendars")) (is_resource_name calendar) first.0 in
    subst (λ p. (is_path p ≡ true) × Names P p) first.1 (two_true (not (is_empty user)) (is_resource_name calendar) (ap not some.1.0) each.1, (octets.0, octets.1)))
    (λ none. none_some path none.1)
    (if_some (bytes_eq kind (codes "calendars") && is_resource_name calendar) (Calendar user calendar) None path e)
  where
    two_true : (a b : Bool) → a ≡ true → b ≡ true → (a && b) ≡ true
    two_true a b h k = rw (h, k) refl
named P ends (kind ∷ user ∷ calendar ∷ object ∷ []) path some all e =
    let rest = All-tail P kind (user ∷ calendar ∷ object ∷ []) all in
    let more = All-tail P user (calendar ∷ object ∷ []) rest in
    ⊎_elim
    (λ first.
    let outer = both (bytes_eq kind (codes "calendars") && is_resource_name calendar && is_resource_name object) (not ends) first.0 in
    let inner = both (bytes_eq kind (codes "calendars") && is_resource_name calendar) (is_resource_name object) outer.0 in
    let each = both (bytes_eq kind (codes "calendars")) (is_resource_name calendar) inner.0 in
    subst (λ p. (is_path p ≡ true) × Names P p) first.1
    (three_true (not (is_empty user)) (is_resource_name calendar) (is_resource_name object) (ap not some.1.0) each.1 inner.1, (All-head P user (calendar ∷ object ∷ []) rest, All-head P calendar (object ∷ []) more, All-head P object [] (All-tail P calendar (object ∷ []) more))))
    (λ none. none_some path none.1)
    (if_some (bytes_eq kind (codes "calendars") && is_resource_name calendar && is_resource_name object && not ends) (Object user calendar object) None path e)
  where
    three_true : (a b c : Bool) → a ≡ true → b ≡ true → c ≡ true → (a && b && c) ≡ true
    three_true a b c h k l = rw (h, k, l) refl
named P ends (kind ∷ user ∷ calendar ∷ object ∷ fifth ∷ names) path some all e = none_some path e

-- Octets

list_bytes : (text : List ℕ) → All IsByte text → IsBytes text
list_bytes [] all = λ i. omega arith
list_bytes (c ∷ text) all = λ i. at (list_bytes text (All-tail IsByte c text all)) i
  where
    at : IsBytes text → (i : ℕ) → slice_index (c ∷ text) i < 256
    at more zero = All-head IsByte c text all
    at more (suc i) = more i

bytes_all : (text : List ℕ) → IsBytes text → All IsByte text
bytes_all [] h = All-nil IsByte
bytes_all (c ∷ text) h = All-cons IsByte c text (h 0) (bytes_all text (λ i. h (suc i)))

-- the pieces of octets are of octets
onto_bytes : (c : ℕ) (ps : List (List ℕ)) → IsByte c → All (All IsByte) ps → All (All IsByte) (onto_first c ps)
onto_bytes c [] b all = All-cons (All IsByte) (c ∷ []) [] (All-cons IsByte c [] b (All-nil IsByte)) (All-nil (All IsByte))
onto_bytes c (p ∷ ps) b all = All-cons (All IsByte) (c ∷ p) ps (All-cons IsByte c p b (All-head (All IsByte) p ps all)) (All-tail (All IsByte) p ps all)

pieces_bytes : (s : ℕ) (text : List ℕ) → All IsByte text → All (All IsByte) (pieces s text)
pieces_bytes s [] all = All-cons (All IsByte) [] [] (All-nil IsByte) (All-nil (All IsByte))
pieces_bytes s (c ∷ text) all =
    let more = pieces_bytes s text (All-tail IsByte c text all) in
    ⊎_elim
    (λ same. subst (All (All IsByte)) (sym (piece_here s c text same)) (All-cons (All IsByte) [] (pieces s text) (All-nil IsByte) more))
    (λ apart. subst (All (All IsByte)) (sym (piece_later s c text apart)) (onto_bytes c (pieces s text) (All-head IsByte c text all) more))
    (bool_cases (c == s))

take_all_of : {X : Type 0} (P : X → Type 0) (n : ℕ) (xs : List X) → All P xs → All P (take n xs)
take_all_of P zero xs all = All-nil P
take_all_of P (suc n) [] all = All-nil P
take_all_of P (suc n) (x ∷ xs) all = All-cons P x (take n xs) (All-head P x xs all) (take_all_of P n xs (All-tail P x xs all))

drop_all_of : {X : Type 0} (P : X → Type 0) (n : ℕ) (xs : List X) → All P xs → All P (drop n xs)
drop_all_of P zero xs all = all
drop_all_of P (suc n) [] all = All-nil P
drop_all_of P (suc n) (x ∷ xs) all = drop_all_of P n xs (All-tail P x xs all)

decoded_all : (ps : List (List ℕ)) → All (All IsByte) ps → All (All IsByte) (map percent_decode ps)
decoded_all [] all = All-nil (All IsByte)
decoded_all (p ∷ ps) all =
    All-cons (All IsByte) (percent_decode p) (map percent_decode ps) (All-percent_decode p (All-head (All IsByte) p ps all)) (decoded_all ps (All-tail (All IsByte) p ps all))

cond_all : {X : Type 0} (P : X → Type 0) (b : Bool) (xs ys : List X) → All P xs → All P ys → All P (cond b xs ys)
cond_all P true xs ys h k = h
cond_all P false xs ys h k = k

front_all : {X : Type 0} (P : X → Type 0) (a b : List X) → All P (a ++ b) → All P a
front_all P [] b all = All-nil P
front_all P (x ∷ a) b all = All-cons P x a (All-head P x (a ++ b) all) (front_all P a b (All-tail P x (a ++ b) all))

-- Targets

Is-path : Path → Type 0
Is-path path = (is_path path ≡ true) × Names (All IsByte) path

of_segments : (segments : List (List ℕ)) (path : Path) → All (All IsByte) segments → path_of_segments segments ≡ Some path → Is-path path
unfolding Is-path
of_segments segments path all e = by (list_any is_empty names) refl e
  where
    ends : Bool
    ends = is_empty (last_or_else [] segments)

    names : List (List ℕ)
    names = map percent_decode (cond ends (take (length segments - 1) segments) segments)

    octets : All (All IsByte) names
    octets = decoded_all (cond ends (take (length segments - 1) segments) segments) (cond_all (All IsByte) ends (take (length segments - 1) segments) segments (take_all_of (All IsByte) (length segments - 1) segments all) all)

    by : (b : Bool) → list_any is_empty names ≡ b → cond b None (path_of_names ends names) ≡ Some path → Is-path path
    by true h k = none_some path k
    by false h k = named (All IsByte) ends names path (all_some names h) octets k

of_text : (text : List ℕ) (path : Path) → All IsByte text → path_of_text text ≡ Some path → Is-path path
unfolding Is-path
of_text [] path all e = subst Is-path (same_Some _ _ e) (refl, tt)
of_text (c ∷ text) path all e = by (c == slash) e
  where
    by : (b : Bool) → cond b (path_of_segments (pieces slash text)) None ≡ Some path → Is-path path
    by true k = of_segments (pieces slash text) path (pieces_bytes slash text (All-tail IsByte c text all)) k
    by false k = none_some path k

without_query_bytes : (text : List ℕ) → All IsByte text → All IsByte (without_query text)
without_query_bytes text all = by (cut_at 63 text) (λ p h. cut_is 63 text p h)
  where
    by : (o : Option (List ℕ × List ℕ)) → ((p : List ℕ × List ℕ) → o ≡ Some p → text ≡ p.0 ++ 63 ∷ p.1) → All IsByte (elim o [ None ↦ text | Some parts ↦ parts.0 ])
    by None h = all
    by (Some p) h = front_all IsByte p.0 (63 ∷ p.1) (subst (All IsByte) (h p refl) all)

without_host_bytes : (text : List ℕ) → All IsByte text → All IsByte (without_host text)
without_host_bytes text all = cond_all IsByte _ (drop _ text) text (drop_all_of IsByte _ text all) all

of_target : (target : List ℕ) (path : Path) → IsBytes target → target_path target ≡ Some path → Is-path path
unfolding target_path
of_target target path octets e =
    of_text (without_host (without_query target)) path (without_host_bytes (without_query target) (without_query_bytes target (bytes_all target octets))) e

has_octets : (path : Path) → Names (All IsByte) path → HasOctets path
has_octets Root h = tt
has_octets (Principal user) h = list_bytes user h
has_octets (Home user) h = list_bytes user h
has_octets (Calendar user calendar) h = (list_bytes user h.0, list_bytes calendar h.1)
has_octets (Object user calendar object) h = (list_bytes user h.0, list_bytes calendar h.1, list_bytes object h.2)

true_is : (b : Bool) → b ≡ true → IsTrue b
true_is b h = rw h refl

pub targets_name_paths : TargetsNamePaths
unfolding Is-path
targets_name_paths target path octets e = true_is (is_path path) (of_target target path octets e).0

pub paths_are_read_back : PathsAreReadBack
unfolding Is-path
paths_are_read_back target path octets e =
    let is = of_target target path octets e in
    hrefs_are_read_back path (has_octets path is.1) (true_is (is_path path) is.0)
