-- Runs of calls, one behind the other.
use Rattle.std.proofs.Common.{◌≡◌, inl, inr, ⊎_elim, ℕ, ◌+◌, ◌<◌, ◌≤◌, Bool, true, false, List, ◌++◌, length, get_or, slice_get, Option, Some, None, refl, sym, ◌∙◌, ap, subst, arith}
use Rattle.std.proofs.lemmas.Bool.{false≢true}
use Rattle.std.proofs.lemmas.Option.{slice_get_within, slice_get-get_or}
use Rattle.cal_keeper.specs.Disks.CrashModel.{Past, reading, with_piece}
use Rattle.cal_keeper.specs.Steps.WriteRuns.{IsSpared, Spares, Puts}
use Rattle.cal_keeper.proofs.Pieces.{pieces_join, length_within}

-- where there is the octet that another list has, there is one
pub is_there : (xs ys : List ℕ) (i : ℕ) → i < length xs → slice_get ys i ≡ slice_get xs i → i < length ys
is_there xs ys i less same = slice_get_within ys i (get_or xs i 0) (same ∙ slice_get-get_or xs i 0 less)

-- what is spared is there
spared_within : (place : ℕ) (old new : List ℕ) → IsSpared place old new → (at : ℕ) → at < length old → at < place → at < length new
spared_within place old new spared at within before = is_there old new at within (spared.stays at within before)

spared_then : (place : ℕ) (old mid new : List ℕ) → IsSpared place old mid → IsSpared place mid new → IsSpared place old new
spared_then place old mid new first second = record {
  stays = λ at within before. second.stays at (spared_within place old mid first at within before) before ∙ first.stays at within before;
}

pub spares_then : (place : ℕ) (old mid new : Past) → Spares place old mid → Spares place mid new → Spares place old new
spares_then place old mid new first second = record {
  later = omega (arith, first.later, second.later);
  now = λ image left. let a = second.now image left in let b = first.now a.0 a.1 in (b.0, b.1, spared_then place b.0 a.0 image b.2 a.2);
  since = λ start image le left. ⊎_elim
      (λ was. first.since start image le was)
      (λ came. let b = first.now came.0 came.1 in inr (b.0, b.1, spared_then place b.0 came.0 image b.2 came.2))
      (second.since start image (omega (arith, le, first.later)) left);
}

pub spares_less : (place further : ℕ) (old new : Past) → place ≤ further → Spares further old new → Spares place old new
spares_less place further old new le spares = record {
  later = spares.later;
  now = λ image left. let a = spares.now image left in (a.0, a.1, less a.0 image a.2);
  since = λ start image early left. ⊎_elim (λ was. inl was) (λ came. inr (came.0, came.1, less came.0 image came.2)) (spares.since start image early left);
}
  where
    less : (xs ys : List ℕ) → IsSpared further xs ys → IsSpared place xs ys
    less xs ys spared = record { stays = λ at within before. spared.stays at within (omega arith) }

-- two runs, one behind the other, put both texts
pub puts_then : (place : ℕ) (a b : List ℕ) (ok : Bool) (old mid new : Option Past) → Puts place a true old mid → Puts (place + length a) b ok mid new → Puts place (a ++ b) ok old new
puts_then place a b ok None mid new first second = subst (λ (m : Option Past). Puts (place + length a) b ok m new) first second
puts_then place a b ok (Some past) mid new first second =
    let second = subst (λ (m : Option Past). Puts (place + length a) b ok m new) first.1 second in (
      second.0,
      second.1,
      record {
        spares = spares_then place past first.0 second.0 first.2.spares (spares_less place (place + length a) first.0 second.0 (omega arith) second.2.spares);
        stands = λ went within.
            let here = first.2.stands refl within in
            let long : place + length a ≤ length (reading first.0) = subst (λ (xs : List ℕ). place + length a ≤ length xs) (sym here) (length_within place a (reading past) within) in
            second.2.stands went long ∙ ap (λ (xs : List ℕ). with_piece (place + length a) b xs) here ∙ pieces_join place a b (reading past) within;
      },
    )

-- the same, where the second begins at a place that is told
pub puts_on : (place next : ℕ) (a b all : List ℕ) (ok : Bool) (old mid new : Option Past) → next ≡ place + length a → all ≡ a ++ b → Puts place a true old mid → Puts next b ok mid new → Puts place all ok old new
puts_on place next a b all ok old mid new place_is all_is first second =
    subst (λ (xs : List ℕ). Puts place xs ok old new) (sym all_is) (puts_then place a b ok old mid new first (subst (λ (n : ℕ). Puts n b ok mid new) place_is second))

-- a run that was cut off behind others
pub puts_cut : (place next : ℕ) (a b all : List ℕ) (ok then_ok : Bool) (old mid new : Option Past) → place ≤ next → Puts place a ok old mid → Puts next b then_ok mid new → Puts place all false old new
puts_cut place next a b all ok then_ok None mid new behind first second = subst (λ (m : Option Past). Puts next b then_ok m new) first second
puts_cut place next a b all ok then_ok (Some past) mid new behind first second =
    let second = subst (λ (m : Option Past). Puts next b then_ok m new) first.1 second in (
      second.0,
      second.1,
      record {
        spares = spares_then place past first.0 second.0 first.2.spares (spares_less place next first.0 second.0 behind second.2.spares);
        stands = λ ok. absurd (false≢true ok);
      },
    )
