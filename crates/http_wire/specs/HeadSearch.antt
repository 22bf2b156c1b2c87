-- Where the search for the end of a head stands.
use Rattle.std.specs.Prelude.{◌≡◌, ℕ, ◌+◌, ◌-◌, ◌≤◌, List, ◌++◌, length, take, drop, Some, None, option_map}
use Rattle.cal_model.specs.Streams.Heads.{head_end, without_empty_lines, head_size}
use Rattle.http_wire.specs.declared.head_search.Found.{Found}
use Rattle.http_wire.specs.declared.head_search.Found.TheVariants.{Ends, Open}

-- whatever follows, the empty lines in front reach so far at least
abbrev pub Skipped : List ℕ → ℕ → Type 0
Skipped unread begun = (more : List ℕ) → without_empty_lines (unread ++ more) ≡ without_empty_lines (drop begun unread ++ more)

-- whatever follows, the end of a head that begins there is found from here on
abbrev pub Looked : List ℕ → ℕ → ℕ → Type 0
Looked unread begun from = (more : List ℕ) → head_end (drop begun unread ++ more) ≡ option_map (λ n. (from - begun) + n) (head_end (drop from unread ++ more))

-- what a search finds
abbrev pub Finds : Found → List ℕ → Type 0
Finds (Ends begun end) unread =
    (begun ≤ end) × (end ≤ length unread) × (head_size unread ≡ Some end) × (without_empty_lines (take end unread) ≡ take (end - begun) (drop begun unread))
Finds (Open begun from) unread =
    (begun ≤ from) × (from ≤ length unread) × Skipped unread begun × Looked unread begun from × (head_size unread ≡ None) × (without_empty_lines unread ≡ drop begun unread)
