-- The runs of a range are right, and no other list is.
use Rattle.std.proofs.Common.{◌≡◌, ◌≢◌, ℕ, zero, suc, Bool, true, false, cond, ◌&&◌, List, [], ◌∷◌, Option, Some, None, refl, sym, ap, ◌∙◌, ◌⊎◌, inl, inr, ⊎_elim, arith}
use Rattle.std.specs.Prelude.{ℤ, pos, negsuc, ◌+ℤ◌, ◌-ℤ◌, ◌≤ℤ◌, ◌<ℤ◌, int_lt, nat_abs, All, AllPairs}
use Rattle.std.proofs.lemmas.Int.{ints, by_lt_z}
use Rattle.std.proofs.lemmas.Bool.{false≢true, and_parts, and_from}
use Rattle.std.specs.Option.{is_some}
use Rattle.std.proofs.lemmas.List.Elements.{All-head, All-tail, All-cons, All-nil}
use Rattle.std.proofs.lemmas.List.Kept.{AllPairs-cons}
use Rattle.cal_model.proofs.Words.IntegerLemmas.{same_int-self, same_int-true}
use Rattle.cal_model.proofs.Instances.RisingLists.{AllPairs-tail}
use Rattle.cal_model.specs.declared.object.Class.{Class}
use Rattle.cal_model.specs.declared.object.Class.TheVariants.{Busy, Unavailable, Tentative}
use Rattle.cal_model.specs.declared.row.Range.{Range}
use Rattle.cal_model.specs.Busy.BusyTimes.{BusyTime}
use Rattle.cal_model.specs.Words.Integers.{same_int}
use Rattle.cal_model.specs.Busy.BusyRuns.{covers, greater, class_at, runs, runs_of_classes, runs_from, with_second, with_class, one_second, same_class, size, AreRuns}

covers_within : (t : ℤ) (r : BusyTime) → r.start ≤ℤ t → t <ℤ r.end → covers t r ≡ true
covers_within t r a b = grind (arith, ints)

covers_before : (t : ℤ) (r : BusyTime) → t <ℤ r.start → covers t r ≡ false
covers_before t r a = grind (arith, ints)

covers_after : (t : ℤ) (r : BusyTime) → r.end ≤ℤ t → covers t r ≡ false
covers_after t r a = grind (arith, ints)

class_yes : (t : ℤ) (r : BusyTime) (rs : List BusyTime) → covers t r ≡ true → class_at (r ∷ rs) t ≡ Some (greater r.class (class_at rs t))
class_yes t r rs h = rw h refl

class_no : (t : ℤ) (r : BusyTime) (rs : List BusyTime) → covers t r ≡ false → class_at (r ∷ rs) t ≡ class_at rs t
class_no t r rs h = rw h refl

greater_none : (c : Class) → greater c None ≡ c
greater_none Busy = refl
greater_none Unavailable = refl
greater_none Tentative = refl

-- runs in order between two moments, none of which goes on in the next
abbrev pub Apart : BusyTime → List BusyTime → Type 0
Apart r [] = Unit {0}
Apart r (s ∷ rs) = r.end ≡ s.start → r.class ≢ s.class

abbrev pub Chain : ℤ → ℤ → List BusyTime → Type 0
Chain a b [] = Unit {0}
Chain a b (r ∷ rs) = (a ≤ℤ r.start) × (r.start <ℤ r.end) × (r.end ≤ℤ b) × Apart r rs × Chain r.end b rs

none_before : (a b t : ℤ) (rs : List BusyTime) → Chain a b rs → t <ℤ a → class_at rs t ≡ None
none_before a b t [] c l = refl
none_before a b t (r ∷ rs) c l = class_no t r rs (covers_before t r (omega (arith, ints, l, c.0))) ∙ none_before r.end b t rs c.4 (omega (arith, ints, l, c.0, c.1))

class_first : (a b : ℤ) (r : BusyTime) (rs : List BusyTime) → Chain a b (r ∷ rs) → (t : ℤ) → r.start ≤ℤ t → t <ℤ r.end → class_at (r ∷ rs) t ≡ Some r.class
class_first a b r rs c t l m = class_yes t r rs (covers_within t r l m) ∙ ap (λ o. Some (greater r.class o)) (none_before r.end b t rs c.4 m) ∙ ap (λ x. Some x) (greater_none r.class)

class_later : (r : BusyTime) (rs : List BusyTime) (t : ℤ) → r.end ≤ℤ t → class_at (r ∷ rs) t ≡ class_at rs t
class_later r rs t l = class_no t r rs (covers_after t r l)

class_early : (a b : ℤ) (rs : List BusyTime) → Chain a b rs → (r : BusyTime) (rest : List BusyTime) → rs ≡ r ∷ rest → (t : ℤ) → t <ℤ r.start → class_at rs t ≡ None
class_early a b rs c r rest e t l = rw e (class_no t r rest (covers_before t r l) ∙ none_before r.end b t rest (rw e at c).4 (omega (arith, ints, l, (rw e at c).1)))

-- No other list

none≢some : (c : Class) → None ≡ Some c → ⊥
none≢some c e = false≢true (ap (λ (o : Option Class). is_some o) e)

class_or : Class → Option Class → Class
class_or d None = d
class_or d (Some c) = c

same_some : (c d : Class) → Some c ≡ Some d → c ≡ d
unfolding class_or
same_some c d e = ap (class_or c) e

-- two lists give each second of a range the same class
abbrev pub SameClasses : ℤ → ℤ → List BusyTime → List BusyTime → Type 0
SameClasses a b xs ys = (t : ℤ) → a ≤ℤ t → t <ℤ b → class_at xs t ≡ class_at ys t

same_back : (a b : ℤ) (xs ys : List BusyTime) → SameClasses a b xs ys → SameClasses a b ys xs
same_back a b xs ys s t l m = sym (s t l m)

start_le : (a b : ℤ) (x y : BusyTime) (xs ys : List BusyTime) → Chain a b (x ∷ xs) → Chain a b (y ∷ ys) → SameClasses a b (x ∷ xs) (y ∷ ys) → y.start ≤ℤ x.start
start_le a b x y xs ys c d s = by_lt_z x.start y.start
    (λ l. absurd (none≢some x.class (sym (class_early a b (y ∷ ys) d y ys refl x.start l) ∙ sym (s x.start c.0 (omega (arith, ints, c.1, c.2))) ∙ class_first a b x xs c x.start (omega (arith, ints)) c.1)))
    (λ l. l)

-- the list behind a run has its class at its end: that cannot be
goes_on : (b : ℤ) (x : BusyTime) (xs : List BusyTime) → Apart x xs → Chain x.end b xs → class_at xs x.end ≡ Some x.class → ⊥
goes_on b x [] p c e = none≢some x.class e
goes_on b x (s ∷ ss) p c e = by_lt_z x.end s.start
    (λ l. none≢some x.class (sym (class_early x.end b (s ∷ ss) c s ss refl x.end l) ∙ e))
    (λ l. p (omega (arith, ints, l, c.0)) (same_some x.class s.class (sym e ∙ class_first x.end b s ss c x.end l (omega (arith, ints, c.0, c.1)))))

same_first : (a b : ℤ) (x y : BusyTime) (xs ys : List BusyTime) → Chain a b (x ∷ xs) → Chain a b (y ∷ ys) → SameClasses a b (x ∷ xs) (y ∷ ys) → x.start ≡ y.start → x.class ≡ y.class
same_first a b x y xs ys c d s e = same_some x.class y.class (sym (class_first a b x xs c x.start (omega (arith, ints)) c.1)
    ∙ s x.start c.0 (omega (arith, ints, c.1, c.2)) ∙ class_first a b y ys d x.start (omega (arith, ints, e)) (omega (arith, ints, e, d.1)))

end_le : (a b : ℤ) (x y : BusyTime) (xs ys : List BusyTime) → Chain a b (x ∷ xs) → Chain a b (y ∷ ys) → SameClasses a b (x ∷ xs) (y ∷ ys) → x.start ≡ y.start → y.end ≤ℤ x.end
end_le a b x y xs ys c d s e = by_lt_z x.end y.end
    (λ l. absurd (goes_on b x xs c.3 c.4 (sym (class_later x xs x.end (omega (arith, ints)))
    ∙ s x.end (omega (arith, ints, c.0, c.1)) (omega (arith, ints, l, d.2))
    ∙ class_first a b y ys d x.end (omega (arith, ints, e, c.1)) l
    ∙ ap (λ k. Some k) (sym (same_first a b x y xs ys c d s e)))))
    (λ l. l)

chain_same : (xs ys : List BusyTime) (a b : ℤ) → Chain a b xs → Chain a b ys → SameClasses a b xs ys → xs ≡ ys
chain_same [] [] a b c d s = refl
chain_same [] (y ∷ ys) a b c d s = absurd (none≢some y.class (s y.start d.0 (omega (arith, ints, d.1, d.2)) ∙ class_first a b y ys d y.start (omega (arith, ints)) d.1))
chain_same (x ∷ xs) [] a b c d s = absurd (none≢some x.class (sym (s x.start c.0 (omega (arith, ints, c.1, c.2))) ∙ class_first a b x xs c x.start (omega (arith, ints)) c.1))
chain_same (x ∷ xs) (y ∷ ys) a b c d s =
    let back = same_back a b (x ∷ xs) (y ∷ ys) s in
    let start : x.start ≡ y.start = omega (arith, ints, start_le a b x y xs ys c d s, start_le a b y x ys xs d c back) in
    let end : x.end ≡ y.end = omega (arith, ints, end_le a b x y xs ys c d s start, end_le a b y x ys xs d c back (sym start)) in
    let class = same_first a b x y xs ys c d s start in
    let first : x ≡ y = λ i. record { class = class i; start = start i; end = end i } in
    let rest : xs ≡ ys = chain_same xs ys x.end b c.4 (rw end d.4) (λ t l m. sym (class_later x xs t l) ∙ s t (omega (arith, ints, l, c.0, c.1)) m ∙ class_later y ys t (omega (arith, ints, l, end))) in
    ap (λ z. z ∷ xs) first ∙ ap (λ zs. y ∷ zs) rest

-- The runs are such a list

chain_weaker : (a a' b : ℤ) (rs : List BusyTime) → a' ≤ℤ a → Chain a b rs → Chain a' b rs
chain_weaker a a' b [] l c = tt
chain_weaker a a' b (r ∷ rs) l c = (omega (arith, ints, l, c.0), c.1, c.2, c.3, c.4)

same_class-true : (c d : Class) → same_class c d ≡ true → c ≡ d
same_class-true Busy Busy e = refl
same_class-true Busy Unavailable e = absurd (false≢true e)
same_class-true Busy Tentative e = absurd (false≢true e)
same_class-true Unavailable Busy e = absurd (false≢true e)
same_class-true Unavailable Unavailable e = refl
same_class-true Unavailable Tentative e = absurd (false≢true e)
same_class-true Tentative Busy e = absurd (false≢true e)
same_class-true Tentative Unavailable e = absurd (false≢true e)
same_class-true Tentative Tentative e = refl

same_class-refl : (c : Class) → same_class c c ≡ true
same_class-refl Busy = refl
same_class-refl Unavailable = refl
same_class-refl Tentative = refl

-- what is asked of a second t of a class before some runs
pub record IsBefore (t b : ℤ) (o : Option Class) (rs found : List BusyTime) : Type 0 where
  pub chain : Chain t b found
  pub here : class_at found t ≡ o
  pub later : (u : ℤ) → (t +ℤ pos 1) ≤ℤ u → class_at found u ≡ class_at rs u

alone_before : (t b : ℤ) (c : Class) (rs : List BusyTime) → Apart (one_second t c) rs → (t +ℤ pos 1) ≤ℤ b → Chain (t +ℤ pos 1) b rs → IsBefore t b (Some c) rs (one_second t c ∷ rs)
alone_before t b c rs p l d =
    let chain : Chain t b (one_second t c ∷ rs) = (omega (arith, ints), omega (arith, ints), l, p, d) in
    record {
      chain = chain;
      here = class_first t b (one_second t c) rs chain t (omega (arith, ints)) (omega (arith, ints));
      later = λ u m. class_later (one_second t c) rs u m;
    }

longer : ℤ → BusyTime → BusyTime
longer t r = record r { start = t }

longer_before : (t b : ℤ) (r : BusyTime) (rs : List BusyTime) → r.start ≡ t +ℤ pos 1 → Chain (t +ℤ pos 1) b (r ∷ rs) → IsBefore t b (Some r.class) (r ∷ rs) (longer t r ∷ rs)
unfolding longer
longer_before t b r rs e d =
    let chain : Chain t b (longer t r ∷ rs) = (omega (arith, ints), omega (arith, ints, d.1, e), d.2, apart rs d.3, d.4) in
    record {
      chain = chain;
      here = class_first t b (longer t r) rs chain t (omega (arith, ints)) (omega (arith, ints, d.1, e));
      later = λ u m. by_lt_z u r.end
          (λ l. class_first t b (longer t r) rs chain u (omega (arith, ints, m)) l ∙ sym (class_first (t +ℤ pos 1) b r rs d u (omega (arith, ints, m, e)) l))
          (λ l. class_later (longer t r) rs u l ∙ sym (class_later r rs u l));
    }
  where
    apart : (ss : List BusyTime) → Apart r ss → Apart (record r { start = t }) ss
    apart [] p = tt
    apart (s ∷ ss) p = p

by_test : (t b : ℤ) (c : Class) (r : BusyTime) (rs : List BusyTime) → (t +ℤ pos 1) ≤ℤ b → Chain (t +ℤ pos 1) b (r ∷ rs) → (test : Bool) → test ≡ (same_class c r.class && same_int r.start (t +ℤ pos 1))
    → IsBefore t b (Some c) (r ∷ rs) (cond test (longer t r ∷ rs) (one_second t c ∷ r ∷ rs))
by_test t b c r rs l d true e =
    let both = and_parts (same_class c r.class) (same_int r.start (t +ℤ pos 1)) (sym e) in
    rw (same_class-true c r.class both.0) (longer_before t b r rs (same_int-true r.start (t +ℤ pos 1) both.1) d)
by_test t b c r rs l d false e =
    alone_before t b c (r ∷ rs)
    (λ p q. false≢true (e ∙ and_from (same_class c r.class) (same_int r.start (t +ℤ pos 1)) (rw q (same_class-refl r.class)) (rw p (same_int-self r.start)))) l d

with_class_before : (t b : ℤ) (c : Class) (rs : List BusyTime) → (t +ℤ pos 1) ≤ℤ b → Chain (t +ℤ pos 1) b rs → IsBefore t b (Some c) rs (with_class t c rs)
unfolding longer
with_class_before t b c [] l d = alone_before t b c [] tt l d
with_class_before t b c (r ∷ rs) l d = by_test t b c r rs l d (same_class c r.class && same_int r.start (t +ℤ pos 1)) refl

with_second_before : (t b : ℤ) (o : Option Class) (rs : List BusyTime) → (t +ℤ pos 1) ≤ℤ b → Chain (t +ℤ pos 1) b rs → IsBefore t b o rs (with_second t o rs)
with_second_before t b None rs l d = record {
  chain = chain_weaker (t +ℤ pos 1) t b rs (omega (arith, ints)) d;
  here = none_before (t +ℤ pos 1) b t rs d (omega (arith, ints));
  later = λ u m. refl;
}
with_second_before t b (Some c) rs l d = with_class_before t b c rs l d

runs_from_chain : (times : List BusyTime) (n : ℕ) (t b : ℤ) → b ≡ t +ℤ pos n → Chain t b (runs_from (class_at times) t n) × SameClasses t b (runs_from (class_at times) t n) times
runs_from_chain times zero t b e = (tt, λ u l m. absurd (omega (arith, ints, l, m, e)))
runs_from_chain times (suc n) t b e =
    let before = runs_from_chain times n (t +ℤ pos 1) b (omega (arith, ints, e)) in
    let is = with_second_before t b (class_at times t) (runs_from (class_at times) (t +ℤ pos 1) n) (omega (arith, ints, e)) before.0 in (
      is.chain,
      λ u l m. by_lt_z t u
          (λ k. is.later u (omega (arith, ints, k)) ∙ before.1 u (omega (arith, ints, k)) m)
          (λ k. let same : u ≡ t = omega (arith, ints, k, l) in rw same is.here),
    )

-- Between the two forms

abbrev pub IsWithin : ℤ → ℤ → BusyTime → Type 0
IsWithin a b run = (a ≤ℤ run.start) × (run.start <ℤ run.end) × (run.end ≤ℤ b)

abbrev pub ComesBefore : BusyTime → BusyTime → Type 0
ComesBefore run later = run.end ≤ℤ later.start

abbrev pub EndsFor : BusyTime → BusyTime → Type 0
EndsFor run later = run.end ≡ later.start → run.class ≢ later.class

All-of_pairs : (R : BusyTime → BusyTime → Type 0) (x : BusyTime) (xs : List BusyTime) → AllPairs R (x ∷ xs) → All (R x) xs
All-of_pairs R x xs p = λ k d l. p 0 (suc k) d (omega arith) (omega (arith, l))

apart_from : (x : BusyTime) (xs : List BusyTime) → All (EndsFor x) xs → Apart x xs
apart_from x [] p = tt
apart_from x (s ∷ ss) p = All-head (EndsFor x) s ss p

-- two facts of each as one
All-both : (P Q R : BusyTime → Type 0) → ((x : BusyTime) → P x → Q x → R x) → (xs : List BusyTime) → All P xs → All Q xs → All R xs
All-both P Q R f [] p q = All-nil R
All-both P Q R f (x ∷ xs) p q = All-cons R x xs (f x (All-head P x xs p) (All-head Q x xs q)) (All-both P Q R f xs (All-tail P x xs p) (All-tail Q x xs q))

within_later : (a b : ℤ) (x y : BusyTime) → IsWithin a b y → ComesBefore x y → IsWithin x.end b y
within_later a b x y w o = (o, w.1, w.2)

chain_from : (a b : ℤ) (xs : List BusyTime) → All (IsWithin a b) xs → AllPairs ComesBefore xs → AllPairs EndsFor xs → Chain a b xs
chain_from a b [] w o l = tt
chain_from a b (x ∷ xs) w o l =
    let first = All-head (IsWithin a b) x xs w in (
      first.0,
      first.1,
      first.2,
      apart_from x xs (All-of_pairs EndsFor x xs l),
      chain_from x.end b xs (All-both (IsWithin a b) (ComesBefore x) (IsWithin x.end b) (within_later a b x) xs (All-tail (IsWithin a b) x xs w) (All-of_pairs ComesBefore x xs o))
          (AllPairs-tail ComesBefore x xs o) (AllPairs-tail EndsFor x xs l),
    )

chain_within : (a a' b : ℤ) (xs : List BusyTime) → a' ≤ℤ a → Chain a b xs → All (IsWithin a' b) xs
chain_within a a' b [] l c = All-nil (IsWithin a' b)
chain_within a a' b (x ∷ xs) l c =
    All-cons (IsWithin a' b) x xs (omega (arith, ints, l, c.0), c.1, c.2) (chain_within x.end a' b xs (omega (arith, ints, l, c.0, c.1)) c.4)

chain_before : (a b : ℤ) (x : BusyTime) (xs : List BusyTime) → x.end ≤ℤ a → Chain a b xs → All (ComesBefore x) xs
chain_before a b x [] l c = All-nil (ComesBefore x)
chain_before a b x (s ∷ ss) l c = All-cons (ComesBefore x) s ss (omega (arith, ints, l, c.0)) (chain_before s.end b x ss (omega (arith, ints, l, c.0, c.1)) c.4)

chain_order : (a b : ℤ) (xs : List BusyTime) → Chain a b xs → AllPairs ComesBefore xs
chain_order a b [] c = λ i j d l m. absurd (omega (arith, m))
chain_order a b (x ∷ xs) c = AllPairs-cons ComesBefore x xs (chain_before x.end b x xs (omega (arith, ints)) c.4) (chain_order x.end b xs c.4)

-- behind a gap
ends_past : (a b : ℤ) (x : BusyTime) (xs : List BusyTime) → x.end <ℤ a → Chain a b xs → All (EndsFor x) xs
ends_past a b x [] l c = All-nil (EndsFor x)
ends_past a b x (s ∷ ss) l c = All-cons (EndsFor x) s ss (λ e. absurd (omega (arith, ints, l, c.0, e))) (ends_past s.end b x ss (omega (arith, ints, l, c.0, c.1)) c.4)

chain_ends : (b : ℤ) (x : BusyTime) (xs : List BusyTime) → Apart x xs → Chain x.end b xs → All (EndsFor x) xs
chain_ends b x [] p c = All-nil (EndsFor x)
chain_ends b x (s ∷ ss) p c = All-cons (EndsFor x) s ss p (ends_past s.end b x ss (omega (arith, ints, c.0, c.1)) c.4)

chain_longest : (a b : ℤ) (xs : List BusyTime) → Chain a b xs → AllPairs EndsFor xs
chain_longest a b [] c = λ i j d l m. absurd (omega (arith, m))
chain_longest a b (x ∷ xs) c = AllPairs-cons EndsFor x xs (chain_ends b x xs c.3 c.4) (chain_longest x.end b xs c.4)

-- The laws

pub AreRuns-chain : (times : List BusyTime) (range : Range) (found : List BusyTime) → Chain range.start.0 range.end.0 found → SameClasses range.start.0 range.end.0 found times → AreRuns times range found
AreRuns-chain times range found c s = record {
  within = chain_within range.start.0 range.start.0 range.end.0 found (omega (arith, ints)) c;
  in_order = chain_order range.start.0 range.end.0 found c;
  longest = chain_longest range.start.0 range.end.0 found c;
  classes = s;
}

pos-nat_abs : (z : ℤ) → pos 0 ≤ℤ z → pos (nat_abs z) ≡ z
pos-nat_abs (pos n) l = refl
pos-nat_abs (negsuc n) l = absurd (omega (arith, ints, l))

-- the seconds of a range, as far as there are any
size_cases : (a b : ℤ) (test : Bool) → int_lt a b ≡ test → (b ≡ a +ℤ pos (cond test (nat_abs (b -ℤ a)) 0)) ⊎ ((b ≤ℤ a) × (cond test (nat_abs (b -ℤ a)) 0 ≡ 0))
size_cases a b true e = inl (omega (arith, ints, pos-nat_abs (b -ℤ a) (grind (arith, ints, e))))
size_cases a b false e = inr (grind (arith, ints, e), refl)

-- the runs of a range are right
pub AreRuns-runs : (times : List BusyTime) (range : Range) → AreRuns times range (runs times range)
AreRuns-runs times range = ⊎_elim
    (λ e. let both = runs_from_chain times (size range) range.start.0 range.end.0 e in AreRuns-chain times range (runs times range) both.0 both.1)
    (λ none. rw none.1 (AreRuns-chain times range [] tt (λ t l m. absurd (omega (arith, ints, l, m, none.0)))))
    (size_cases range.start.0 range.end.0 (int_lt range.start.0 range.end.0) refl)

-- no two lists of a range are right
pub AreRuns-same : (times : List BusyTime) (range : Range) (xs ys : List BusyTime) → AreRuns times range xs → AreRuns times range ys → xs ≡ ys
AreRuns-same times range xs ys f g =
    chain_same xs ys range.start.0 range.end.0
    (chain_from range.start.0 range.end.0 xs f.within f.in_order f.longest)
    (chain_from range.start.0 range.end.0 ys g.within g.in_order g.longest)
    (λ t l m. f.classes t l m ∙ sym (g.classes t l m))

-- what is right is the runs
pub runs-AreRuns : (times : List BusyTime) (range : Range) (found : List BusyTime) → AreRuns times range found → found ≡ runs times range
runs-AreRuns times range found f = AreRuns-same times range found (runs times range) f (AreRuns-runs times range)

-- Runs depend on the class of each second alone.
runs_from-same : (class other : ℤ → Option Class) (n : ℕ) (t : ℤ) → ((u : ℤ) → t ≤ℤ u → u <ℤ (t +ℤ pos n) → class u ≡ other u) → runs_from class t n ≡ runs_from other t n
runs_from-same class other zero t same = refl
runs_from-same class other (suc n) t same =
    ap (λ c. with_second t c (runs_from class (t +ℤ pos 1) n)) (same t (omega (arith, ints)) (omega (arith, ints)))
    ∙ ap (with_second t (other t)) (runs_from-same class other n (t +ℤ pos 1) (λ u from to. same u (omega (arith, ints, from)) (omega (arith, ints, to))))

-- a second that is one of those of a range lies before its end
before_end : (a b u : ℤ) (test : Bool) → int_lt a b ≡ test → a ≤ℤ u → u <ℤ (a +ℤ pos (cond test (nat_abs (b -ℤ a)) 0)) → u <ℤ b
before_end a b u true e from to = omega (arith, ints, pos-nat_abs (b -ℤ a) (grind (arith, ints, e)), from, to)
before_end a b u false e from to = absurd (omega (arith, ints, from, to))

pub runs_of_classes-same : (class other : ℤ → Option Class) (range : Range) → ((t : ℤ) → range.start.0 ≤ℤ t → t <ℤ range.end.0 → class t ≡ other t)
    → runs_of_classes class range ≡ runs_of_classes other range
runs_of_classes-same class other range same =
    runs_from-same class other (size range) range.start.0
    (λ u from to. same u from (before_end range.start.0 range.end.0 u (int_lt range.start.0 range.end.0) refl from to))

-- Two lists of times that give each second of a range the same class have the same runs.
pub runs-same_classes : (xs ys : List BusyTime) (range : Range) → SameClasses range.start.0 range.end.0 xs ys → runs xs range ≡ runs ys range
runs-same_classes xs ys range same = runs_of_classes-same (class_at xs) (class_at ys) range same
