-- One more session is added.
use Rattle.std.proofs.Common.{◌≡◌, ℕ, zero, suc, ◌+◌, cond, List, [], ◌∷◌, ◌++◌, length, refl, sym, ap, ◌∙◌, arith, length-append}
use Rattle.std.specs.Prelude.{flat_map, count_by}
use Rattle.std.specs.List.{range_with_len}
use Rattle.std.proofs.lemmas.Grind.{flat_map-append}
use Rattle.std.proofs.lemmas.List.{append-nil}
use Rattle.std.proofs.lemmas.List.Sums.{sum_by-append}
use Rattle.cal_model.specs.declared.reply.Reply.{Reply}
use Rattle.cal_model.specs.Load.LoadSummary.{replies_of, is_accepted, all_octets}
use Rattle.caldav_server.specs.LoadTallies.{given, IsTally}

pub range-more : (a n : ℕ) → range_with_len a (suc n) ≡ range_with_len a n ++ (a + n) ∷ []
range-more a zero = ap (λ k. k ∷ []) (omega arith)
range-more a (suc n) = ap (λ rest. a ∷ rest) (range-more (a + 1) n ∙ ap (λ k. range_with_len (a + 1) n ++ k ∷ []) (omega arith))

given-more : (puts sessions added : ℕ) → given puts sessions (suc added) ≡ given puts sessions added ++ replies_of puts sessions added
given-more puts sessions added =
    ap (flat_map (replies_of puts sessions)) (range-more 0 added)
    ∙ flat_map-append (replies_of puts sessions) (range_with_len 0 added) ((0 + added) ∷ [])
    ∙ ap (λ more. given puts sessions added ++ more) (append-nil (replies_of puts sessions (0 + added)) ∙ ap (replies_of puts sessions) (omega arith))

pub tally-none : (puts sessions : ℕ) → IsTally puts sessions 0 0 0 0 []
tally-none puts sessions = record { requests_is = refl; accepted_is = refl; octets_is = refl; written_is = refl }

-- one more session, by what it did
pub tally-more : (puts sessions added requests accepted octets : ℕ) (written : List ℕ) (replies : List Reply) (its_requests its_accepted : ℕ) (its_written : List ℕ)
    → IsTally puts sessions added requests accepted octets written → replies ≡ replies_of puts sessions added
    → its_requests ≡ length replies → its_accepted ≡ count_by is_accepted replies → its_written ≡ all_octets replies
    → IsTally puts sessions (added + 1) (requests + its_requests) (accepted + its_accepted) (length (written ++ its_written)) (written ++ its_written)
tally-more puts sessions added requests accepted octets written replies its_requests its_accepted its_written before are requests_are accepted_are written_are =
    let one : added + 1 ≡ suc added = omega arith in
    let more : given puts sessions (added + 1) ≡ given puts sessions added ++ replies =
    ap (λ n. given puts sessions n) one ∙ given-more puts sessions added ∙ ap (λ r. given puts sessions added ++ r) (sym are) in
    let lengths = ap length more ∙ length-append (given puts sessions added) replies in
    let counts = ap (count_by is_accepted) more ∙ sum_by-append (λ (reply : Reply). cond (is_accepted reply) 1 0) (given puts sessions added) replies in
    let texts : all_octets (given puts sessions (added + 1)) ≡ all_octets (given puts sessions added) ++ all_octets replies = ap all_octets more ∙ flat_map-append _ (given puts sessions added) replies in
    record {
      requests_is = (λ i. before.requests_is i + requests_are i) ∙ sym lengths;
      accepted_is = (λ i. before.accepted_is i + accepted_are i) ∙ sym counts;
      octets_is = refl;
      written_is = (λ i. before.written_is i ++ written_are i) ∙ sym texts;
    }
