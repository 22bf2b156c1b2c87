-- How many requests a session has: fewer than a connection may have.
use Rattle.std.proofs.Common.{◌≡◌, ℕ, zero, suc, ◌+◌, ◌*◌, ◌/◌, ◌%◌, ◌<◌, ◌≤◌, true, false, List, [], ◌∷◌, ◌++◌, length, refl, ap, ◌∙◌, arith, length-append, inl, inr, ◌⊎◌}
use Rattle.std.specs.Prelude.{◌==◌, ◌≢◌, flat_map}
use Rattle.std.specs.List.{range_with_len}
use Rattle.std.proofs.lemmas.Bool.Decides.{eqb_tells}
use Rattle.std.proofs.lemmas.Grind.{flat_map-append}
use Rattle.std.proofs.lemmas.List.{append-nil}
use Rattle.cal_model.specs.declared.request.Request.{Request}
use Rattle.cal_model.specs.Load.LoadRequests.{put_of, asked_after, requests_of}
use Rattle.cal_model.specs.Streams.WireLimits.{request_limit}
use Rattle.caldav_server.proofs.LoadSums.{range-more}

after-count : (session n : ℕ) → length (asked_after session n) + (2 * (n / 10)) ≡ 2 * ((n + 1) / 10)
after-count session n = by (eqb_tells ((n + 1) % 10) 0) where
  by : ((((n + 1) % 10 == 0) ≡ true) × ((n + 1) % 10 ≡ 0)) ⊎ ((((n + 1) % 10 == 0) ≡ false) × ((n + 1) % 10 ≢ 0)) → length (asked_after session n) + (2 * (n / 10)) ≡ 2 * ((n + 1) / 10)
  by (inl tenth) = let two : length (asked_after session n) ≡ 2 = rw tenth.0 refl in omega (arith, two, tenth.1)
  by (inr other) = let none : length (asked_after session n) ≡ 0 = rw other.0 refl in omega (arith, none, other.1)

-- the requests of the first puts
first : ℕ → ℕ → ℕ → List Request
first puts session many = flat_map (λ k. put_of puts session k ∷ asked_after session k) (range_with_len 0 many)

counted : (puts session many : ℕ) → length (first puts session many) ≡ many + 2 * (many / 10)
unfolding first
counted puts session zero = refl
counted puts session (suc many) =
    let of = λ (k : ℕ). put_of puts session k ∷ asked_after session k in
    let more : first puts session (suc many) ≡ first puts session many ++ (put_of puts session many ∷ asked_after session many) =
    ap (flat_map of) (range-more 0 many) ∙ flat_map-append of (range_with_len 0 many) ((0 + many) ∷ []) ∙ ap (λ rest. first puts session many ++ rest) (append-nil (of (0 + many)) ∙ ap of (omega arith)) in
    let long = ap length more ∙ length-append (first puts session many) (put_of puts session many ∷ asked_after session many) in
    let before = counted puts session many in
    let after = after-count session many in
    omega (arith, long, before, after)

pub few-requests : (puts session : ℕ) → puts ≤ 800 → length (requests_of puts session) < request_limit
unfolding first
few-requests puts session few = let count = counted puts session puts in omega (arith, count, few)
