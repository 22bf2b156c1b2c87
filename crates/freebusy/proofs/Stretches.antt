-- A stretch of one class before the runs of the seconds behind it gives the runs from its start on.
use Rattle.std.proofs.Common.{◌≡◌, ℕ, zero, suc, ◌+◌, Bool, true, false, cond, ◌&&◌, List, [], ◌∷◌, Option, Some, None, refl, sym, ap, ◌∙◌, ◌⊎◌, ⊎_elim, arith}
use Rattle.std.specs.Prelude.{ℤ, pos, negsuc, ◌+ℤ◌, ◌-ℤ◌, ◌≤ℤ◌, ◌<ℤ◌, int_lt, nat_abs}
use Rattle.std.proofs.lemmas.Int.{ints, by_lt_z}
use Rattle.std.proofs.lemmas.Bool.{and_parts, and_from}
use Rattle.cal_model.proofs.Words.IntegerLemmas.{same_int-self}
use Rattle.cal_model.specs.declared.object.Class.{Class}
use Rattle.cal_model.specs.declared.object.Class.TheVariants.{Busy, Unavailable, Tentative}
use Rattle.cal_model.specs.Busy.BusyTimes.{BusyTime}
use Rattle.cal_model.specs.Busy.BusyRuns.{runs_from, with_second, with_class, one_second, same_class}
use Rattle.cal_model.specs.Words.Integers.{same_int}
use Rattle.freebusy.specs.Sweep.{with_run, with_stretch}

pub cond_true : {X : Type 0} (test : Bool) (x y : X) → test ≡ true → cond test x y ≡ x
cond_true test x y is = rw is refl

pub cond_false : {X : Type 0} (test : Bool) (x y : X) → test ≡ false → cond test x y ≡ y
cond_false test x y is = rw is refl

same_class-self : (c : Class) → same_class c c ≡ true
same_class-self Busy = refl
same_class-self Unavailable = refl
same_class-self Tentative = refl

abbrev stretch : Class → ℤ → ℤ → BusyTime
stretch class from to = record { class = class; start = from; end = to }

-- a second before others is a stretch of one second
with_class-one : (t : ℤ) (c : Class) (rs : List BusyTime) → with_class t c rs ≡ with_run (stretch c t (t +ℤ pos 1)) rs
with_class-one t c [] = refl
with_class-one t c (r ∷ rs) = refl

-- a second of the same class before a run
lengthens : (t : ℤ) (c : Class) (r : BusyTime) (rs : List BusyTime) → same_class c r.class ≡ true → with_class t c (record r { start = t +ℤ pos 1 } ∷ rs) ≡ record r { start = t } ∷ rs
lengthens t c r rs same =
    cond_true (same_class c r.class && same_int (t +ℤ pos 1) (t +ℤ pos 1)) (record r { start = t } ∷ rs) (one_second t c ∷ record r { start = t +ℤ pos 1 } ∷ rs)
    (and_from (same_class c r.class) (same_int (t +ℤ pos 1) (t +ℤ pos 1)) same (same_int-self (t +ℤ pos 1)))

by_test : (t u : ℤ) (c : Class) (r : BusyTime) (rs : List BusyTime) (test : Bool) → (same_class c r.class && same_int r.start u) ≡ test
    → with_class t c (cond test (record r { start = t +ℤ pos 1 } ∷ rs) (stretch c (t +ℤ pos 1) u ∷ r ∷ rs)) ≡ cond test (record r { start = t } ∷ rs) (stretch c t u ∷ r ∷ rs)
by_test t u c r rs true is = lengthens t c r rs (and_parts (same_class c r.class) (same_int r.start u) is).0
by_test t u c r rs false is = lengthens t c (stretch c t u) (r ∷ rs) (same_class-self c)

-- a second before a stretch of its class lengthens it
with_class-run : (t u : ℤ) (c : Class) (rs : List BusyTime) → with_class t c (with_run (stretch c (t +ℤ pos 1) u) rs) ≡ with_run (stretch c t u) rs
with_class-run t u c [] = lengthens t c (stretch c t u) [] (same_class-self c)
with_class-run t u c (r ∷ rs) = by_test t u c r rs (same_class c r.class && same_int r.start u) refl

runs_from-none : (f : ℤ → Option Class) (n k m : ℕ) (p q : ℤ) → k ≡ n + m → q ≡ p +ℤ pos n → ((t : ℤ) → p ≤ℤ t → t <ℤ q → f t ≡ None) → runs_from f p k ≡ runs_from f q m
runs_from-none f zero k m p q long far none =
    let same : k ≡ m = omega arith in
    let here : p ≡ q = omega (arith, ints) in
    ap (runs_from f p) same ∙ ap (λ (z : ℤ). runs_from f z m) here
runs_from-none f (suc n) zero m p q long far none = absurd (omega arith)
runs_from-none f (suc n) (suc k) m p q long far none =
    ap (λ (o : Option Class). with_second p o (runs_from f (p +ℤ pos 1) k)) (none p (omega (arith, ints)) (omega (arith, ints)))
    ∙ runs_from-none f n k m (p +ℤ pos 1) q (omega arith) (omega (arith, ints)) (λ t low high. none t (omega (arith, ints)) high)

runs_from-some : (f : ℤ → Option Class) (c : Class) (n k m : ℕ) (p q : ℤ) → k ≡ suc n + m → q ≡ p +ℤ pos (suc n) → ((t : ℤ) → p ≤ℤ t → t <ℤ q → f t ≡ Some c)
    → runs_from f p k ≡ with_run (stretch c p q) (runs_from f q m)
runs_from-some f c n zero m p q long far some = absurd (omega arith)
runs_from-some f c zero (suc k) m p q long far some =
    let same : k ≡ m = omega arith in
    let next : p +ℤ pos 1 ≡ q = omega (arith, ints) in
    ap (λ (o : Option Class). with_second p o (runs_from f (p +ℤ pos 1) k)) (some p (omega (arith, ints)) (omega (arith, ints)))
    ∙ with_class-one p c (runs_from f (p +ℤ pos 1) k)
    ∙ ap (λ (j : ℕ). with_run (stretch c p (p +ℤ pos 1)) (runs_from f (p +ℤ pos 1) j)) same
    ∙ ap (λ (z : ℤ). with_run (stretch c p z) (runs_from f z m)) next
runs_from-some f c (suc n) (suc k) m p q long far some =
    ap (λ (o : Option Class). with_second p o (runs_from f (p +ℤ pos 1) k)) (some p (omega (arith, ints)) (omega (arith, ints)))
    ∙ ap (with_class p c) (runs_from-some f c n k m (p +ℤ pos 1) q (omega arith) (omega (arith, ints)) (λ t low high. some t (omega (arith, ints)) high))
    ∙ with_class-run p q c (runs_from f q m)

-- the seconds from one moment up to another
abbrev pub seconds_between : ℤ → ℤ → ℕ
seconds_between a b = cond (int_lt a b) (nat_abs (b -ℤ a)) 0

abbrev pub runs_between : (ℤ → Option Class) → ℤ → ℤ → List BusyTime
runs_between f a b = runs_from f a (seconds_between a b)

pos-nat_abs : (z : ℤ) → pos 0 ≤ℤ z → pos (nat_abs z) ≡ z
pos-nat_abs (pos n) low = refl
pos-nat_abs (negsuc n) low = absurd (omega (arith, ints))

seconds-none : (a b : ℤ) → b ≤ℤ a → seconds_between a b ≡ 0
seconds-none a b low = cond_false (int_lt a b) (nat_abs (b -ℤ a)) 0 (grind (arith, ints))

seconds-some : (a b : ℤ) → a <ℤ b → pos (seconds_between a b) ≡ b -ℤ a
seconds-some a b less =
    ap (λ (n : ℕ). pos n) (cond_true (int_lt a b) (nat_abs (b -ℤ a)) 0 (grind (arith, ints)))
    ∙ pos-nat_abs (b -ℤ a) (omega (arith, ints))

pub seconds-is : (a b : ℤ) → a ≤ℤ b → pos (seconds_between a b) ≡ b -ℤ a
seconds-is a b low = by_lt_z a b
    (λ less. seconds-some a b less)
    (λ more. ap (λ (n : ℕ). pos n) (seconds-none a b more) ∙ omega (arith, ints))

-- a stretch of no second
pub no_stretch : (f : ℤ → Option Class) (from to high : ℤ) → to ≤ℤ from → to ≤ℤ high → (from ≤ℤ to) ⊎ (to ≡ high) → runs_between f to high ≡ runs_between f from high
no_stretch f from to high none below edge = ⊎_elim
    (λ low. let same : to ≡ from = omega (arith, ints) in ap (λ (z : ℤ). runs_between f z high) same)
    (λ last.
    let behind : seconds_between to high ≡ 0 = seconds-none to high (omega (arith, ints)) in
    let before : seconds_between from high ≡ 0 = seconds-none from high (omega (arith, ints)) in
    ap (runs_from f to) behind ∙ sym (ap (runs_from f from) before))
    edge

pub runs_between-none : (f : ℤ → Option Class) (a : ℤ) → [] ≡ runs_between f a a
runs_between-none f a = sym (ap (runs_from f a) (seconds-none a a (omega (arith, ints))))

suc_of : (n : ℕ) → pos 0 <ℤ pos n → (k : ℕ) × (n ≡ suc k)
suc_of zero more = absurd (omega (arith, ints))
suc_of (suc k) more = (k, refl)

some_stretch : (f : ℤ → Option Class) (c : Class) (from to high : ℤ) → from <ℤ to → to ≤ℤ high → ((t : ℤ) → from ≤ℤ t → t <ℤ to → f t ≡ Some c)
    → with_run (stretch c from to) (runs_between f to high) ≡ runs_between f from high
some_stretch f c from to high less below some =
    let first = seconds-is from to (omega (arith, ints)) in
    let rest = seconds-is to high below in
    let whole = seconds-is from high (omega (arith, ints)) in
    let size = suc_of (seconds_between from to) (omega (arith, ints, first)) in
    sym (runs_from-some f c size.0 (seconds_between from high) (seconds_between to high) from to
    (omega (arith, ints, first, rest, whole, size.1)) (omega (arith, ints, first, size.1)) some)

free_stretch : (f : ℤ → Option Class) (from to high : ℤ) → from <ℤ to → to ≤ℤ high → ((t : ℤ) → from ≤ℤ t → t <ℤ to → f t ≡ None)
    → runs_between f to high ≡ runs_between f from high
free_stretch f from to high less below none =
    let first = seconds-is from to (omega (arith, ints)) in
    let rest = seconds-is to high below in
    let whole = seconds-is from high (omega (arith, ints)) in
    sym (runs_from-none f (seconds_between from to) (seconds_between from high) (seconds_between to high) from to
    (omega (arith, ints, first, rest, whole)) (omega (arith, ints, first)) none)

by_class : (f : ℤ → Option Class) (from to high : ℤ) (o : Option Class) → to ≤ℤ high → (from ≤ℤ to) ⊎ (to ≡ high) → ((t : ℤ) → from ≤ℤ t → t <ℤ to → f t ≡ o)
    → with_stretch o from to (runs_between f to high) ≡ runs_between f from high
by_class f from to high None below edge steady = by_lt_z from to
    (λ less. free_stretch f from to high less below steady)
    (λ none. no_stretch f from to high none below edge)
by_class f from to high (Some c) below edge steady = by_lt_z from to
    (λ less. cond_true (int_lt from to) (with_run (stretch c from to) (runs_between f to high)) (runs_between f to high) (grind (arith, ints))
    ∙ some_stretch f c from to high less below steady)
    (λ none. cond_false (int_lt from to) (with_run (stretch c from to) (runs_between f to high)) (runs_between f to high) (grind (arith, ints))
    ∙ no_stretch f from to high none below edge)

pub with_stretch-runs : (f : ℤ → Option Class) (from to high : ℤ) → to ≤ℤ high → (from ≤ℤ to) ⊎ (to ≡ high) → ((t : ℤ) → from ≤ℤ t → t <ℤ to → f t ≡ f from)
    → with_stretch (f from) from to (runs_between f to high) ≡ runs_between f from high
with_stretch-runs f from to high below edge steady = by_class f from to high (f from) below edge steady
