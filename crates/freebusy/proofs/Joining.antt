-- Times that come by their starts, joined where they meet: the stretches that they cover, of which each ends before the next one starts.
use Rattle.std.proofs.Common.{◌≡◌, ℕ, zero, suc, ◌+◌, Bool, true, false, cond, ◌&&◌, ◌||◌, List, [], ◌∷◌, ◌++◌, map, refl, sym, ap, ◌∙◌, nat_lt, arith, get_or, subst, append_assoc}
use Rattle.std.specs.Bool.{⊤}
use Rattle.std.specs.Prelude.{ℤ, ◌<ℤ◌, ◌≤ℤ◌, int_le, int_lt, All}
use Rattle.std.specs.List.{count_by, list_any}
use Rattle.std.specs.List.Sorted.{IsSorted, IsSortedByKey}
use Rattle.std.specs.Ordering.{int_cmp, is_lt}
use Rattle.std.proofs.lemmas.Int.{ints}
use Rattle.std.proofs.lemmas.List.Elements.{All-head, All-tail}
use Rattle.std.proofs.lemmas.List.Sums.{sum_by-cons}
use Rattle.freebusy.specs.declared.ends.Ends.{Ends}
use Rattle.freebusy.specs.declared.ends.Span.{Span}
use Rattle.freebusy.specs.Ends.{AreEndsOf, AreInOrder, HasSecond, count_until, covers_at, is_open, lengthened}
use Rattle.freebusy.proofs.Partitions.{le_of}

-- a stretch before times
abbrev pub join : Span → List Span → List Span
join span [] = span ∷ []
join span (next ∷ rest) = cond (int_le next.start span.end) (join (lengthened span next) rest) (span ∷ join next rest)

abbrev pub joined : List Span → List Span
joined [] = []
joined (span ∷ rest) = join span rest

abbrev pub starts_of : List Span → List ℤ
starts_of = map (λ (span : Span). span.start)

abbrev pub ends_of : List Span → List ℤ
ends_of = map (λ (span : Span). span.end)

-- What times in order are, from the first to the last

-- each covers a second, and starts no earlier than the one in front of it; the first no earlier than a moment
abbrev Follow : ℤ → List Span → Type 0
Follow least [] = ⊤
Follow least (span ∷ rest) = (least ≤ℤ span.start) × (span.start <ℤ span.end) × Follow span.start rest

Follow-sooner : (spans : List Span) (sooner least : ℤ) → sooner ≤ℤ least → Follow least spans → Follow sooner spans
Follow-sooner [] sooner least before follow = tt
Follow-sooner (span ∷ rest) sooner least before follow = (omega (arith, ints, before, follow.0), follow.1, follow.2)

rising_tail : (span : Span) (rest : List Span) → IsSortedByKey (λ (s : Span). s.start) int_cmp (span ∷ rest) → IsSortedByKey (λ (s : Span). s.start) int_cmp rest
rising_tail span rest rising k d low high =
    let place : suc k + 1 ≡ suc (k + 1) = omega arith in
    subst (λ (m : ℕ). is_lt (int_cmp (get_or (span ∷ rest) m d).start (get_or rest k d).start) ≡ false) place (rising (suc k) d (omega arith) (omega (arith, high)))

Follow-order : (span : Span) (rest : List Span) → IsSortedByKey (λ (s : Span). s.start) int_cmp (span ∷ rest) → All HasSecond rest → Follow span.start rest
Follow-order span [] rising each = tt
Follow-order span (next ∷ rest) rising each = (
  le_of span.start next.start (rising 0 span (omega arith) (omega arith)),
  (All-head HasSecond next rest each).before,
  Follow-order next rest (rising_tail span (next ∷ rest) rising) (All-tail HasSecond next rest each),
)

-- What is covered

or_assoc : (b c d : Bool) → ((b || c) || d) ≡ (b || (c || d))
or_assoc true c d = refl
or_assoc false c d = refl

covers_longer : (s e n m t : ℤ) → s ≤ℤ n → int_le n e ≡ true → int_lt e m ≡ true → (int_le s t && int_lt t m) ≡ ((int_le s t && int_lt t e) || (int_le n t && int_lt t m))
covers_longer s e n m t first meets longer = grind (arith, ints)

covers_same : (s e n m t : ℤ) → s ≤ℤ n → int_le n e ≡ true → int_lt e m ≡ false → (int_le s t && int_lt t e) ≡ ((int_le s t && int_lt t e) || (int_le n t && int_lt t m))
covers_same s e n m t first meets shorter = grind (arith, ints)

covers_either : (s e n m t : ℤ) (longer : Bool) → s ≤ℤ n → int_le n e ≡ true → int_lt e m ≡ longer
    → (int_le s t && int_lt t (cond longer m e)) ≡ ((int_le s t && int_lt t e) || (int_le n t && int_lt t m))
covers_either s e n m t true first meets is = covers_longer s e n m t first meets is
covers_either s e n m t false first meets is = covers_same s e n m t first meets is

covers_by : (rest : List Span) (span next : Span) (t : ℤ) (meets : Bool) → int_le next.start span.end ≡ meets → span.start ≤ℤ next.start
    → list_any (covers_at t) (join (lengthened span next) rest) ≡ (covers_at t (lengthened span next) || list_any (covers_at t) rest)
    → list_any (covers_at t) (join next rest) ≡ (covers_at t next || list_any (covers_at t) rest)
    → list_any (covers_at t) (cond meets (join (lengthened span next) rest) (span ∷ join next rest)) ≡ (covers_at t span || (covers_at t next || list_any (covers_at t) rest))
covers_by rest span next t true is first longer apart =
    longer
    ∙ ap (λ (b : Bool). b || list_any (covers_at t) rest) (covers_either span.start span.end next.start next.end t (int_lt span.end next.end) first is refl)
    ∙ or_assoc (covers_at t span) (covers_at t next) (list_any (covers_at t) rest)
covers_by rest span next t false is first longer apart = ap (λ (b : Bool). covers_at t span || b) apart

covers_joined : (rest : List Span) (span : Span) (t : ℤ) → Follow span.start rest → list_any (covers_at t) (join span rest) ≡ (covers_at t span || list_any (covers_at t) rest)
covers_joined [] span t follow = refl
covers_joined (next ∷ rest) span t follow =
    covers_by rest span next t (int_le next.start span.end) refl follow.0
    (covers_joined rest (lengthened span next) t (Follow-sooner rest span.start next.start follow.0 follow.2))
    (covers_joined rest next t follow.2)

-- Each stretch ends before the next one starts

abbrev Behind : ℤ → List Span → Type 0
Behind end [] = ⊤
Behind end (span ∷ rest) = end <ℤ span.start

abbrev Apart : List Span → Type 0
Apart [] = ⊤
Apart (span ∷ rest) = (span.start <ℤ span.end) × Behind span.end rest × Apart rest

behind_by : (rest : List Span) (span next : Span) (end : ℤ) (meets : Bool) → end <ℤ span.start → Behind end (join (lengthened span next) rest)
    → Behind end (cond meets (join (lengthened span next) rest) (span ∷ join next rest))
behind_by rest span next end true before longer = longer
behind_by rest span next end false before longer = before

behind_joined : (rest : List Span) (span : Span) (end : ℤ) → end <ℤ span.start → Behind end (join span rest)
behind_joined [] span end before = before
behind_joined (next ∷ rest) span end before = behind_by rest span next end (int_le next.start span.end) before (behind_joined rest (lengthened span next) end before)

past : (n e : ℤ) → int_le n e ≡ false → e <ℤ n
past n e is = grind (arith, ints)

longer_lasts : (s e m : ℤ) (longer : Bool) → int_lt e m ≡ longer → s <ℤ e → s <ℤ cond longer m e
longer_lasts s e m true is lasts = grind (arith, ints)
longer_lasts s e m false is lasts = lasts

apart_by : (rest : List Span) (span next : Span) (meets : Bool) → int_le next.start span.end ≡ meets → span.start <ℤ span.end → Apart (join (lengthened span next) rest) → Apart (join next rest)
    → Apart (cond meets (join (lengthened span next) rest) (span ∷ join next rest))
apart_by rest span next true is lasts longer apart = longer
apart_by rest span next false is lasts longer apart = (lasts, behind_joined rest next span.end (past next.start span.end is), apart)

apart_joined : (rest : List Span) (span : Span) → span.start <ℤ span.end → Follow span.start rest → Apart (join span rest)
apart_joined [] span lasts follow = (lasts, tt, tt)
apart_joined (next ∷ rest) span lasts follow =
    apart_by rest span next (int_le next.start span.end) refl lasts
    (apart_joined rest (lengthened span next) (longer_lasts span.start span.end next.end (int_lt span.end next.end) refl lasts) (Follow-sooner rest span.start next.start follow.0 follow.2))
    (apart_joined rest next follow.1 follow.2)

-- So starts and ends rise

no_less : (x y : ℤ) → x <ℤ y → is_lt (int_cmp y x) ≡ false
no_less x y less = grind (arith, ints)

rising_more : (x y : ℤ) (rest : List ℤ) → x <ℤ y → IsSorted int_cmp (y ∷ rest) → IsSorted int_cmp (x ∷ y ∷ rest)
rising_more x y rest less rising zero d low high = no_less x y less
rising_more x y rest less rising (suc k) d low high =
    let place : suc (k + 1) ≡ suc k + 1 = omega arith in
    subst (λ (m : ℕ). is_lt (int_cmp (get_or (x ∷ y ∷ rest) m d) (get_or (y ∷ rest) k d)) ≡ false) place (rising k d (omega arith) (omega (arith, high)))

rising_one : (x : ℤ) → IsSorted int_cmp (x ∷ [])
rising_one x k d low high = absurd (omega (arith, high))

rising_starts : (spans : List Span) → Apart spans → IsSorted int_cmp (starts_of spans)
rising_starts [] apart = λ k d low high. absurd (omega (arith, high))
rising_starts (span ∷ []) apart = rising_one span.start
rising_starts (span ∷ next ∷ rest) apart = rising_more span.start next.start (starts_of rest) (omega (arith, ints, apart.0, apart.1)) (rising_starts (next ∷ rest) apart.2)

rising_ends : (spans : List Span) → Apart spans → IsSorted int_cmp (ends_of spans)
rising_ends [] apart = λ k d low high. absurd (omega (arith, high))
rising_ends (span ∷ []) apart = rising_one span.end
rising_ends (span ∷ next ∷ rest) apart = rising_more span.end next.end (ends_of rest) (omega (arith, ints, apart.1, apart.2.0)) (rising_ends (next ∷ rest) apart.2)

-- Of times that each cover some second, those that have started and not ended cover a moment

-- one time that covers something has started, or it has ended, or it goes on
one_time : (s e t : ℤ) → s <ℤ e → cond (int_le s t) 1 0 ≡ cond (int_le e t) 1 0 + cond (int_le s t && int_lt t e) 1 0
one_time s e t less = grind (arith, ints)

counts : (spans : List Span) (t : ℤ) → Apart spans → count_until (starts_of spans) t ≡ count_until (ends_of spans) t + count_by (covers_at t) spans
counts [] t apart = refl
counts (span ∷ rest) t apart =
    let one = one_time span.start span.end t apart.0 in
    let started = sum_by-cons (λ (x : ℤ). cond (int_le x t) 1 0) span.start (starts_of rest) in
    let ended = sum_by-cons (λ (x : ℤ). cond (int_le x t) 1 0) span.end (ends_of rest) in
    let covered = sum_by-cons (λ (s : Span). cond (covers_at t s) 1 0) span rest in
    omega (arith, one, started, ended, covered, counts rest t apart.2)

some_more : (a b n : ℕ) → b ≡ a + n → nat_lt a b ≡ nat_lt 0 n
some_more a b n is = grind arith

one_more : (b more : Bool) (n : ℕ) → nat_lt 0 n ≡ more → nat_lt 0 (cond b 1 0 + n) ≡ (b || more)
one_more true more n is = grind arith
one_more false more n is = some_more 0 (0 + n) n refl ∙ is

any_count : (test : Span → Bool) (spans : List Span) → nat_lt 0 (count_by test spans) ≡ list_any test spans
any_count test [] = refl
any_count test (span ∷ rest) =
    ap (nat_lt 0) (sum_by-cons (λ (s : Span). cond (test s) 1 0) span rest) ∙ one_more (test span) (list_any test rest) (count_by test rest) (any_count test rest)

open_apart : (spans : List Span) (found : Ends) (t : ℤ) → Apart spans → found.starts ≡ starts_of spans → found.ends ≡ ends_of spans → is_open found t ≡ list_any (covers_at t) spans
open_apart spans found t apart starts_are ends_are =
    ap (λ (xs : List ℤ). nat_lt (count_until found.ends t) (count_until xs t)) starts_are
    ∙ ap (λ (xs : List ℤ). nat_lt (count_until xs t) (count_until (starts_of spans) t)) ends_are
    ∙ some_more (count_until (ends_of spans) t) (count_until (starts_of spans) t) (count_by (covers_at t) spans) (counts spans t apart)
    ∙ any_count (covers_at t) spans

ends_of_apart : (spans times : List Span) (found : Ends) → Apart spans → ((t : ℤ) → list_any (covers_at t) spans ≡ list_any (covers_at t) times) → found.starts ≡ starts_of spans → found.ends ≡ ends_of spans
    → AreEndsOf times found
ends_of_apart spans times found apart covered starts_are ends_are = record {
  rising = record { starts = rw starts_are (rising_starts spans apart); ends = rw ends_are (rising_ends spans apart) };
  covered = λ t. open_apart spans found t apart starts_are ends_are ∙ covered t;
}

ends_of_joined : (spans : List Span) (found : Ends) → AreInOrder spans → found.starts ≡ starts_of (joined spans) → found.ends ≡ ends_of (joined spans) → AreEndsOf spans found
ends_of_joined [] found order starts_are ends_are = ends_of_apart [] [] found tt (λ t. refl) starts_are ends_are
ends_of_joined (span ∷ rest) found order starts_are ends_are =
    let follow = Follow-order span rest order.rising (All-tail HasSecond span rest order.each) in
    ends_of_apart (join span rest) (span ∷ rest) found
    (apart_joined rest span (All-head HasSecond span rest order.each).before follow)
    (λ t. covers_joined rest span t follow) starts_are ends_are

-- The stretches that were found, and those that are still to come

pub record AreJoining (found : Ends) (span : Span) (rest spans : List Span) : Type 0 where
  pub starts : found.starts ++ starts_of (join span rest) ≡ starts_of (joined spans)
  pub ends : found.ends ++ ends_of (join span rest) ≡ ends_of (joined spans)

is_past : (n e : ℤ) → e <ℤ n → int_le n e ≡ false
is_past n e less = grind (arith, ints)

join_past : (span next : Span) (behind rest : List Span) → rest ≡ next ∷ behind → span.end <ℤ next.start → span ∷ join next behind ≡ join span rest
join_past span next behind rest is past =
    sym (ap (join span) is ∙ ap (λ (meets : Bool). cond meets (join (lengthened span next) behind) (span ∷ join next behind)) (is_past next.start span.end past))

-- where the next time starts behind a stretch
pub AreJoining-past : (found longer : Ends) (span next : Span) (behind rest spans : List Span) → rest ≡ next ∷ behind → span.end <ℤ next.start → longer.starts ≡ found.starts ++ span.start ∷ []
    → longer.ends ≡ found.ends ++ span.end ∷ [] → AreJoining found span rest spans → AreJoining longer next behind spans
AreJoining-past found longer span next behind rest spans is past starts_are ends_are so_far = record {
  starts = ap (λ (xs : List ℤ). xs ++ starts_of (join next behind)) starts_are ∙ append_assoc found.starts (span.start ∷ []) (starts_of (join next behind))
      ∙ ap (λ (ss : List Span). found.starts ++ starts_of ss) (join_past span next behind rest is past) ∙ so_far.starts;
  ends = ap (λ (xs : List ℤ). xs ++ ends_of (join next behind)) ends_are ∙ append_assoc found.ends (span.end ∷ []) (ends_of (join next behind))
      ∙ ap (λ (ss : List Span). found.ends ++ ends_of ss) (join_past span next behind rest is past) ∙ so_far.ends;
}

-- where no time is left
pub AreJoining-end : (found whole : Ends) (span : Span) (rest spans : List Span) → rest ≡ [] → AreInOrder spans → whole.starts ≡ found.starts ++ span.start ∷ [] → whole.ends ≡ found.ends ++ span.end ∷ []
    → AreJoining found span rest spans → AreEndsOf spans whole
AreJoining-end found whole span rest spans none order starts_are ends_are so_far =
    ends_of_joined spans whole order
    (starts_are ∙ sym (ap (λ (ss : List Span). found.starts ++ starts_of (join span ss)) none) ∙ so_far.starts)
    (ends_are ∙ sym (ap (λ (ss : List Span). found.ends ++ ends_of (join span ss)) none) ∙ so_far.ends)
