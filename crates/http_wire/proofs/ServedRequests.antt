-- Which requests of a connection are served, where those in front leave it open.
use Rattle.std.proofs.Common.{◌≡◌, ℕ, zero, suc, ◌+◌, ◌-◌, ◌<◌, ◌≤◌, Bool, true, false, ◌||◌, ◌&&◌, not, List, [], ◌∷◌, ◌++◌, length, take, refl, sym, ap, ◌∙◌, arith, length-append, ◌⊎◌, inl, inr}
use Rattle.std.proofs.lemmas.List.{append-nil}
use Rattle.std.specs.Prelude.{if◌then◌else◌, nat_lt}
use Rattle.std.proofs.lemmas.List.Folds.{list_any-append}
use Rattle.std.proofs.Math.Seq.{take-nil}
use Rattle.std.proofs.lemmas.Bool.{ltb-true, lt-ltb, or_parts, and_parts, not-true}
use Rattle.std.specs.List.{list_any}
use Rattle.cal_model.specs.declared.wire.WireRequest.{WireRequest}
use Rattle.cal_model.specs.Streams.StreamRequests.{up_to_close, served}
use Rattle.cal_model.specs.Streams.WireLimits.{request_limit}
use Rattle.cal_model.specs.Transcripts.ConnectionAnswers.{is_open}

-- requests that do not close stand in front of those that are looked at
open_front : (requests later : List WireRequest) → list_any (λ (wire : WireRequest). wire.close) requests ≡ false → up_to_close (requests ++ later) ≡ requests ++ up_to_close later
open_front [] later e = refl
open_front (x ∷ xs) later e =
    let both = or_parts x.close (list_any (λ (wire : WireRequest). wire.close) xs) e in
    ap (λ b. if b then x ∷ [] else x ∷ up_to_close (xs ++ later)) both.0 ∙ ap (λ rest. x ∷ rest) (open_front xs later both.1)

within : (n : ℕ) (requests later : List WireRequest) → length requests ≤ n → take n (requests ++ later) ≡ requests ++ take (n - length requests) later
within n [] later h = ap (λ m. take m later) (omega arith)
within zero (x ∷ xs) later h = absurd (omega (arith, h))
within (suc n) (x ∷ xs) later h = ap (λ rest. x ∷ rest) (within n xs later (omega (arith, h))) ∙ ap (λ m. x ∷ (xs ++ take m later)) (omega arith)

-- an open connection: no request asks to close, and there are few
pub open_parts : (requests : List WireRequest) → is_open requests ≡ true → (list_any (λ (wire : WireRequest). wire.close) requests ≡ false) × (length requests < request_limit)
open_parts requests e =
    let both = and_parts (not (list_any (λ (wire : WireRequest). wire.close) requests)) (nat_lt (length requests) request_limit) e in
    (not-true _ both.0, ltb-true _ _ both.1)

-- those that are served begin with them
pub served_front : (requests later : List WireRequest) → is_open requests ≡ true → served (requests ++ later) ≡ requests ++ up_to_close (take (request_limit - length requests) later)
served_front requests later e =
    let parts = open_parts requests e in
    ap up_to_close (within request_limit requests later (omega (arith, parts.1))) ∙ open_front requests _ parts.0

pub served_open : (requests : List WireRequest) → is_open requests ≡ true → served requests ≡ requests
served_open requests e =
    ap served (sym (append-nil requests)) ∙ served_front requests [] e ∙ ap (λ rest. requests ++ up_to_close rest) (take-nil (request_limit - length requests)) ∙ append-nil requests

-- a request behind which nothing is served
served_last : (k : ℕ) (wire : WireRequest) (later : List WireRequest) → (wire.close ≡ true) ⊎ (k ≡ 0) → up_to_close (take (suc k) (wire ∷ later)) ≡ wire ∷ []
served_last k wire later (inl asks) = ap (λ b. if b then wire ∷ [] else wire ∷ up_to_close (take k later)) asks
served_last k wire later (inr last) = by_close wire.close refl where
  by_close : (c : Bool) → wire.close ≡ c → up_to_close (take (suc k) (wire ∷ later)) ≡ wire ∷ []
  by_close true is = ap (λ b. if b then wire ∷ [] else wire ∷ up_to_close (take k later)) is
  by_close false is = ap (λ b. if b then wire ∷ [] else wire ∷ up_to_close (take k later)) is ∙ ap (λ n. wire ∷ up_to_close (take n later)) last

-- behind open requests one that closes, or is the last of as many as are answered, is the last
pub served_closed : (requests later : List WireRequest) (wire : WireRequest) → is_open requests ≡ true → (wire.close ≡ true) ⊎ (request_limit ≤ length requests + 1) → served (requests ++ wire ∷ later) ≡ requests ++ wire ∷ []
served_closed requests later wire e why =
    let parts = open_parts requests e in
    let k : ℕ = request_limit - length requests - 1 in
    let room : request_limit - length requests ≡ suc k = omega (arith, parts.1) in
    let last : (wire.close ≡ true) ⊎ (k ≡ 0) = elim why [ inl asks ↦ inl asks | inr full ↦ inr (omega (arith, parts.1, full)) ] in
    served_front requests (wire ∷ later) e ∙ ap (λ n. requests ++ up_to_close (take n (wire ∷ later))) room ∙ ap (λ xs. requests ++ xs) (served_last k wire later last)

-- a request that does not close leaves the connection open
pub still_open : (requests : List WireRequest) (wire : WireRequest) → is_open requests ≡ true → wire.close ≡ false → length requests + 1 < request_limit → is_open (requests ++ wire ∷ []) ≡ true
still_open requests wire e stays few =
    let parts = open_parts requests e in
    let fewer : length (requests ++ wire ∷ []) < request_limit = omega (arith, length-append requests (wire ∷ []), few) in
    let none : list_any (λ (w : WireRequest). w.close) (requests ++ wire ∷ []) ≡ false =
    list_any-append (λ (w : WireRequest). w.close) requests (wire ∷ []) ∙ (ap (λ b. b || (wire.close || false)) parts.0 ∙ ap (λ b. b || false) stays) in
    ap (λ b. not b && nat_lt (length (requests ++ wire ∷ [])) request_limit) none ∙ lt-ltb _ _ fewer
