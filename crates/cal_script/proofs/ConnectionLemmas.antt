-- What the requests of a connection complete, one after the other, and what closes it.
use Rattle.std.proofs.Common.{◌≡◌, ℕ, ◌+◌, ◌-◌, ◌≤◌, Bool, true, false, ◌||◌, ◌&&◌, not, List, [], ◌∷◌, ◌++◌, length, take, map, refl, ap, subst, ◌∙◌, arith, append_assoc, length-append, zero-add, ◌⊎◌, inl, inr}
use Rattle.std.proofs.lemmas.List.{append-nil}
use Rattle.std.specs.Prelude.{if◌then◌else◌, nat_le, nat_lt}
use Rattle.std.proofs.lemmas.List.Folds.{list_any-append}
use Rattle.std.proofs.lemmas.Bool.{leb-true, leb-false, le-ltb, or_parts}
use Rattle.std.specs.List.{enumerate_from, list_any}
use Rattle.cal_model.specs.declared.wire.WireRequest.{WireRequest}
use Rattle.cal_model.specs.Streams.StreamRequests.{Ending, up_to_close, closes_after}
use Rattle.cal_model.specs.Streams.WireLimits.{request_limit}
use Rattle.cal_model.specs.Transcripts.ConnectionAnswers.{Completed, whole, is_open, fault_in, answered}
use Rattle.http_wire.proofs.ServedRequests.{served_closed, served_front, served_open, still_open}
use Rattle.cal_script.specs.Readings.{numbered}

-- Lists of requests

-- what is completed goes on with its numbers
numbers_go_on : (n : ℕ) (xs ys : List WireRequest)
    → map (λ (entry : ℕ × WireRequest). whole entry.0 entry.1) (enumerate_from n (xs ++ ys))
    ≡ map (λ (entry : ℕ × WireRequest). whole entry.0 entry.1) (enumerate_from n xs) ++ map (λ (entry : ℕ × WireRequest). whole entry.0 entry.1) (enumerate_from (n + length xs) ys)
numbers_go_on n [] ys = ap (λ m. map (λ (entry : ℕ × WireRequest). whole entry.0 entry.1) (enumerate_from m ys)) (omega arith)
numbers_go_on n (x ∷ xs) ys =
    ap (λ rest. whole n x ∷ rest) (numbers_go_on (n + 1) xs ys
    ∙ ap (λ m. map (λ (entry : ℕ × WireRequest). whole entry.0 entry.1) (enumerate_from (n + 1) xs) ++ map (λ (entry : ℕ × WireRequest). whole entry.0 entry.1) (enumerate_from m ys)) (omega arith))

from_zero : (requests later : List WireRequest) → numbered (requests ++ later) ≡ numbered requests ++ map (λ (entry : ℕ × WireRequest). whole entry.0 entry.1) (enumerate_from (length requests) later)
from_zero requests later =
    numbers_go_on 0 requests later ∙ ap (λ m. numbered requests ++ map (λ (entry : ℕ × WireRequest). whole entry.0 entry.1) (enumerate_from m later)) (zero-add (length requests))

pub numbered-push : (requests : List WireRequest) (wire : WireRequest) → numbered (requests ++ wire ∷ []) ≡ numbered requests ++ whole (length requests) wire ∷ []
numbered-push requests wire = from_zero requests (wire ∷ [])

-- What is completed

abbrev behind : List WireRequest → Ending → List Completed
behind requests ending = if is_open requests then fault_in ending else []

pub answered_open : (requests : List WireRequest) (ending : Ending) → is_open requests ≡ true → answered requests ending ≡ numbered requests ++ fault_in ending
answered_open requests ending e =
    ap (λ xs. numbered xs ++ behind requests ending) (served_open requests e) ∙ ap (λ b. numbered requests ++ (if b then fault_in ending else [])) e

-- what more requests behind those complete comes behind
pub answered_front : (requests later : List WireRequest) (ending : Ending) → is_open requests ≡ true → (more : List Completed) × (answered (requests ++ later) ending ≡ numbered requests ++ more)
answered_front requests later ending e =
    let served_later : List WireRequest = up_to_close (take (request_limit - length requests) later) in
    let more : List Completed = map (λ (entry : ℕ × WireRequest). whole entry.0 entry.1) (enumerate_from (length requests) served_later) in (
      more ++ behind (requests ++ later) ending,
      ap (λ xs. numbered xs ++ behind (requests ++ later) ending) (served_front requests later e)
          ∙ ap (λ xs. xs ++ behind (requests ++ later) ending) (from_zero requests served_later)
          ∙ append_assoc (numbered requests) more (behind (requests ++ later) ending),
    )

closes_why : (before : ℕ) (wire : WireRequest) → closes_after before wire ≡ true → (wire.close ≡ true) ⊎ (request_limit ≤ before + 1)
closes_why before wire e = by_close wire.close refl where
  by_close : (c : Bool) → wire.close ≡ c → (wire.close ≡ true) ⊎ (request_limit ≤ before + 1)
  by_close true is = inl is
  by_close false is = inr (leb-true _ _ (subst (λ b. (b || nat_le request_limit (before + 1)) ≡ true) is e))

or_right : (a : Bool) → (a || true) ≡ true
or_right true = refl
or_right false = refl

and_right : (a : Bool) → (a && false) ≡ false
and_right true = refl
and_right false = refl

closed_behind : (requests later : List WireRequest) (wire : WireRequest) → (wire.close ≡ true) ⊎ (request_limit ≤ length requests + 1) → is_open (requests ++ wire ∷ later) ≡ false
closed_behind requests later wire (inl asks) =
    let any : list_any (λ (w : WireRequest). w.close) (requests ++ wire ∷ later) ≡ true =
    list_any-append (λ (w : WireRequest). w.close) requests (wire ∷ later) ∙ ap (λ b. list_any (λ (w : WireRequest). w.close) requests || (b || list_any (λ (w : WireRequest). w.close) later)) asks ∙ or_right (list_any (λ (w : WireRequest). w.close) requests) in
    ap (λ b. not b && nat_lt (length (requests ++ wire ∷ later)) request_limit) any
closed_behind requests later wire (inr last) =
    let long : request_limit ≤ length (requests ++ wire ∷ later) = omega (arith, length-append requests (wire ∷ later)) in
    ap (λ b. not (list_any (λ (w : WireRequest). w.close) (requests ++ wire ∷ later)) && b) (le-ltb _ _ long) ∙ and_right _

pub answered_closed : (requests later : List WireRequest) (wire : WireRequest) (ending : Ending) → is_open requests ≡ true → closes_after (length requests) wire ≡ true
    → answered (requests ++ wire ∷ later) ending ≡ numbered (requests ++ wire ∷ [])
answered_closed requests later wire ending e closes =
    let why = closes_why (length requests) wire closes in
    ap (λ xs. numbered xs ++ behind (requests ++ wire ∷ later) ending) (served_closed requests later wire e why)
    ∙ ap (λ b. numbered (requests ++ wire ∷ []) ++ (if b then fault_in ending else [])) (closed_behind requests later wire why)
    ∙ append-nil (numbered (requests ++ wire ∷ []))

-- a request that does not close leaves the connection open
pub open_behind : (requests : List WireRequest) (wire : WireRequest) → is_open requests ≡ true → closes_after (length requests) wire ≡ false → is_open (requests ++ wire ∷ []) ≡ true
open_behind requests wire e goes_on =
    let why = or_parts wire.close (nat_le request_limit (length requests + 1)) goes_on in
    still_open requests wire e why.0 (leb-false _ _ why.1)
