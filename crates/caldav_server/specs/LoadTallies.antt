-- What sessions of `load` did together, added up one after another.
-- Given: how many events each session puts, how many sessions there are, and how many of them were added.
use Rattle.std.specs.Prelude.{◌≡◌, ℕ, List, ◌++◌, length, flat_map, count_by, codes, decimal}
use Rattle.std.specs.List.{range_with_len}
use Rattle.cal_model.specs.declared.reply.Reply.{Reply}
use Rattle.cal_model.specs.Load.LoadSummary.{replies_of, is_accepted, all_octets}

-- the replies of the first sessions
abbrev pub given : ℕ → ℕ → ℕ → List Reply
given puts sessions added = flat_map (replies_of puts sessions) (range_with_len 0 added)

pub record IsTally (puts sessions added requests accepted octets : ℕ) (written : List ℕ) : Type 0 where
  pub requests_is : requests ≡ length (given puts sessions added)
  pub accepted_is : accepted ≡ count_by is_accepted (given puts sessions added)
  pub octets_is : octets ≡ length written
  pub written_is : written ≡ all_octets (given puts sessions added)

-- the five lines, of what they tell
abbrev pub five_lines : ℕ → ℕ → ℕ → ℕ → List ℕ → List ℕ
five_lines sessions requests accepted octets digest =
    codes "sessions " ++ (decimal sessions ++ (codes "\nrequests " ++ (decimal requests ++ (codes "\naccepted " ++ (decimal accepted
    ++ (codes "\noctets " ++ (decimal octets ++ (codes "\nsha256 " ++ (digest ++ codes "\n")))))))))
