-- Fronts of the values in rules: numbers, days and lists of them go on with one of the ends of a value.
use Rattle.std.proofs.Common.{◌≡◌, ℕ, zero, suc, ◌≤◌, Bool, true, false, ◌&&◌, nat_le, if◌then◌else◌, List, [], ◌∷◌, ◌++◌, map, Option, Some, None, option_map, option_and_then, ℤ, pos, refl, sym, ap, ap₂, subst, ◌∙◌, arith, ◌⊎◌, inl, inr}
use Rattle.std.specs.Prelude.{nat_abs, min}
use Rattle.std.proofs.lemmas.Bool.{le-leb, leb-true, and_parts}
use Rattle.std.proofs.lemmas.Option.{none-some}
use Rattle.cal_base.specs.Lines.ContentLines.{every}
use Rattle.cal_moment.specs.Texts.{signed}
use Rattle.cal_model.specs.Values.ValueTexts.{integer_of}
use Rattle.cal_model.specs.Values.RuleTexts.{if_between, number_of, if_place, place_number, second_number, list_of}
use Rattle.cal_model.specs.Values.RuleTrial.{value_ends}
use Rattle.cal_model.proofs.Values.BadValueLaws.{joined, first_piece, pieces-append, pieces-lacks}
use Rattle.cal_model.proofs.Values.CutLemmas.{option_map_some, and_then_some, if_some, Lacks}
use Rattle.cal_model.proofs.Values.NumberFronts.{IsDigitEnd, Nearer, integer_front, abs-signed}
use Rattle.cal_model.proofs.Values.NumberFronts.IsDigitEnd.{nothing, a_zero, a_one}
use Rattle.cal_model.proofs.Values.NumberFronts.Nearer.{same, one, less}

-- one of some texts
abbrev pub IsAmong : List ℕ → List (List ℕ) → Type 0
IsAmong text [] = ⊥
IsAmong text (other ∷ others) = (text ≡ other) ⊎ IsAmong text others

-- what holds of all of them holds of it
abbrev pub HoldsOfAll : (List ℕ → Type 0) → List (List ℕ) → Type 0
HoldsOfAll P [] = Unit {0}
HoldsOfAll P (text ∷ texts) = P text × HoldsOfAll P texts

pub among : (P : List ℕ → Type 0) (text : List ℕ) (texts : List (List ℕ)) → HoldsOfAll P texts → IsAmong text texts → P text
among P text [] all is = absurd is
among P text (other ∷ others) all is =
    elim is [ inl e ↦ subst P (sym e) all.0 | inr more ↦ among P text others all.1 more ]

-- A front of a value that goes on with such an end. The value that it becomes is below the one that it began.
pub record ItemFront {X : Type 0} (read : List ℕ → Option X) (Below : X → X → Type 0) (text : List ℕ) (x : X) : Type 0 where
  pub end : List ℕ
  pub is_end : IsAmong end value_ends
  pub value : X
  pub reads : read (text ++ end) ≡ Some value
  pub below : Below value x

abbrev pub HasFronts : {X : Type 0} → (List ℕ → Option X) → (X → X → Type 0) → Type 0
HasFronts {X} read Below = (text h : List ℕ) (x : X) → read (text ++ h) ≡ Some x → ItemFront read Below text x

abbrev pub Anything : {X : Type 0} → X → X → Type 0
Anything {X} y x = Unit {0}

digit_end : (end : List ℕ) (n : ℕ) → IsDigitEnd end n → IsAmong end value_ends
digit_end end n (nothing e) = inl e
digit_end end n (a_zero e none) = inr (inl e)
digit_end end n (a_one e) = inr (inr (inl e))

-- no end has a comma or a semicolon
no_commas : HoldsOfAll (Lacks 44) value_ends
no_commas = grind arith

pub no_semicolons : HoldsOfAll (Lacks 59) value_ends
no_semicolons = grind arith

-- Lists

pub every-cons : {X : Type 0} → (o : Option X) (os : List (Option X)) (xs : List X) → every (o ∷ os) ≡ Some xs → (x : X) × (more : List X) × (o ≡ Some x) × (every os ≡ Some more) × (x ∷ more ≡ xs)
every-cons None os xs e = absurd (none-some xs e)
every-cons (Some x) os xs e = let rest = option_map_some (λ more. x ∷ more) (every os) xs e in (x, rest.0, refl, rest.1, rest.2)

-- the values of a list's front: the same before the last, and the last below the one that it began
pub record ListBelow {X : Type 0} (Below : X → X → Type 0) (ys xs : List X) : Type 0 where
  pub before : List X
  pub last : X
  pub began : X
  pub more : List X
  pub these : ys ≡ before ++ (last ∷ [])
  pub those : xs ≡ before ++ (began ∷ more)
  pub below : Below last began

-- joined pieces with an end
record PiecesFront {X : Type 0} (read : List ℕ → Option X) (Below : X → X → Type 0) (ps : List (List ℕ)) (xs : List X) : Type 0 where
  end : List ℕ
  is_end : IsAmong end value_ends
  values : List X
  reads : every (map read (joined ps (end ∷ []))) ≡ Some values
  below : ListBelow Below values xs

module _ {X : Type 0} (read : List ℕ → Option X) (Below : X → X → Type 0) (fronts : HasFronts read Below) where
  pieces_front : (p : List ℕ) (ps : List (List ℕ)) (q : List ℕ) (qs : List (List ℕ)) (xs : List X) → every (map read (joined (p ∷ ps) (q ∷ qs))) ≡ Some xs → PiecesFront read Below (p ∷ ps) xs
  unfolding joined
  pieces_front p [] q qs xs e =
      let first = every-cons (read (p ++ q)) (map read qs) xs e in
      let front = fronts p q first.0 first.2 in
      record {
        end = front.end;
        is_end = front.is_end;
        values = front.value ∷ [];
        reads = ap (λ o. every (o ∷ [])) front.reads;
        below = record { before = []; last = front.value; began = first.0; more = first.1; these = refl; those = sym first.4; below = front.below };
      }
  pieces_front p (next ∷ ps) q qs xs e =
      let first = every-cons (read p) (map read (joined (next ∷ ps) (q ∷ qs))) xs e in
      let rest = pieces_front next ps q qs first.1 first.3 in
      record {
        end = rest.end;
        is_end = rest.is_end;
        values = first.0 ∷ rest.values;
        reads = ap (λ o. every (o ∷ map read (joined (next ∷ ps) (rest.end ∷ [])))) first.2 ∙ ap (option_map (λ more. first.0 ∷ more)) rest.reads;
        below = record {
          before = first.0 ∷ rest.below.before;
          last = rest.below.last;
          began = rest.below.began;
          more = rest.below.more;
          these = ap (λ xs. first.0 ∷ xs) rest.below.these;
          those = sym first.4 ∙ ap (λ xs. first.0 ∷ xs) rest.below.those;
          below = rest.below.below;
        };
      }

  -- A list goes on where its last item does.
  pub list_fronts : HasFronts (list_of read) (ListBelow Below)
  list_fronts text h xs e =
      let a = first_piece 44 text in
      let b = first_piece 44 h in
      let whole = sym (ap (λ ps. every (map read ps)) (pieces-append 44 text h ∙ ap₂ joined a.2 b.2)) ∙ e in
      let front = pieces_front a.0 a.1 b.0 b.1 xs whole in
      let split = pieces-append 44 text front.end ∙ ap₂ joined a.2 (pieces-lacks 44 front.end (among (Lacks 44) front.end value_ends no_commas front.is_end)) in
      record { end = front.end; is_end = front.is_end; value = front.values; reads = ap (λ ps. every (map read ps)) split ∙ front.reads; below = front.below }

-- Numbers

-- a test of integers that takes 1, and with a number the nearer ones of its sign
pub record IsNarrow {X : Type 0} (keep : ℤ → Option X) : Type 0 where
  pub takes_one : (x : X) × (keep (pos 1) ≡ Some x)
  pub takes_less : (negative : Bool) (m n : ℕ) (x : X) → 1 ≤ m → m ≤ n → keep (signed negative n) ≡ Some x → (y : X) × (keep (signed negative m) ≡ Some y)

pub kept : {X : Type 0} → (keep : ℤ → Option X) → IsNarrow keep → (number z : ℤ) (x : X) → Nearer number z → keep z ≡ Some x → (y : X) × (keep number ≡ Some y)
kept {X} keep narrow number z x (same e) is = (x, ap keep e ∙ is)
kept {X} keep narrow number z x (one e) is = (narrow.takes_one.0, ap keep e ∙ narrow.takes_one.1)
kept {X} keep narrow number z x (less negative m n some most a b) is =
    let less = narrow.takes_less negative m n x some most (sym (ap keep b) ∙ is) in (less.0, ap keep a ∙ less.1)

integer_fronts : {X : Type 0} → (keep : ℤ → Option X) → IsNarrow keep → HasFronts (λ text. option_and_then keep (integer_of text)) Anything
integer_fronts {X} keep narrow text h x e =
    let z = and_then_some keep (integer_of (text ++ h)) x e in
    let front = integer_front text h z.0 z.1 in
    let y = kept keep narrow front.number z.0 x front.near z.2 in
    record { end = front.end; is_end = digit_end front.end (nat_abs z.0) front.is_end; value = y.0; reads = ap (option_and_then keep) front.reads ∙ y.1; below = tt }

abbrev bounded : ℕ → ℕ → ℕ → Option ℕ
bounded low high n = if nat_le low n && nat_le n high then Some n else None

between-one : (low high n : ℕ) → low ≤ n → n ≤ high → if_between low high (pos n) ≡ Some n
between-one low high n some most = ap (λ b. if b then Some n else None) (λ i. le-leb low n some i && le-leb n high most i)

between_less : (low high : ℕ) (negative : Bool) (m n x : ℕ) → low ≤ 1 → 1 ≤ m → m ≤ n → if_between low high (signed negative n) ≡ Some x → (y : ℕ) × (if_between low high (signed negative m) ≡ Some y)
between_less low high false m n x bound some most e =
    let test = if_some (nat_le low n && nat_le n high) (Some n) x e in
    let parts = and_parts (nat_le low n) (nat_le n high) test.0 in
    (m, between-one low high m (omega (arith, bound, some)) (omega (arith, most, leb-true n high parts.1)))
between_less low high true m zero x bound some most e = absurd (omega (arith, some, most))
between_less low high true m (suc n) x bound some most e = absurd (none-some x e)

pub number_fronts : (low high : ℕ) → low ≤ 1 → 1 ≤ high → HasFronts (number_of low high) Anything
number_fronts low high some most =
    integer_fronts (if_between low high) (record { takes_one = (1, between-one low high 1 some most); takes_less = λ negative m n x positive le e. between_less low high negative m n x some positive le e })

place_less : (limit : ℕ) (negative : Bool) (m n : ℕ) (x : ℤ) → 1 ≤ m → m ≤ n → if_place limit (signed negative n) ≡ Some x → (y : ℤ) × (if_place limit (signed negative m) ≡ Some y)
place_less limit negative m n x some most e =
    let z = signed negative n in
    let size = abs-signed negative n in
    let test = if_some (nat_le 1 (nat_abs z) && nat_le (nat_abs z) limit) (Some z) x e in
    let parts = and_parts (nat_le 1 (nat_abs z)) (nat_le (nat_abs z) limit) test.0 in
    let high = leb-true (nat_abs z) limit parts.1 in
    (signed negative m, ap (λ k. if nat_le 1 k && nat_le k limit then Some (signed negative m) else None) (abs-signed negative m) ∙ ap (λ b. if b then Some (signed negative m) else None) (λ i. le-leb 1 m some i && le-leb m limit (omega (arith, most, high, size)) i))

pub place_is_narrow : (limit : ℕ) → 1 ≤ limit → IsNarrow (if_place limit)
place_is_narrow limit positive = record {
  takes_one = (pos 1, ap (λ b. if b then Some (pos 1) else None) (le-leb 1 limit positive));
  takes_less = λ negative m n x some most e. place_less limit negative m n x some most e;
}

pub place_fronts : (limit : ℕ) → 1 ≤ limit → HasFronts (place_number limit) Anything
place_fronts limit positive = integer_fronts (if_place limit) (place_is_narrow limit positive)

pub second_fronts : HasFronts second_number Anything
second_fronts text h x e =
    let n = option_map_some (λ n. min n 59) (number_of 0 60 (text ++ h)) x e in
    let front = number_fronts 0 60 (omega arith) (omega arith) text h n.0 n.1 in
    record { end = front.end; is_end = front.is_end; value = min front.value 59; reads = ap (option_map (λ n. min n 59)) front.reads; below = tt }
