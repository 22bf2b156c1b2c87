-- A journal leaves a home as one's own entries alone would leave it.
use Rattle.std.proofs.Common.{◌≡◌, ◌≢◌, ℕ, Bool, true, false, cond, List, [], ◌∷◌, ◌∙◌}
use Rattle.std.specs.Prelude.{filter}
use Rattle.std.specs.List.{AllByRecursion}
use Rattle.cal_model.specs.History.Journal.{Entry, asked, replay_from}
use Rattle.cal_model.specs.Serving.EventReplies.{state_after}
use Rattle.cal_model.specs.State.ServerState.{Directory, ServerState, home_at}
use Rattle.home_laws.specs.Homes.{IsAbout, IsOwnOrApart, HomesFollowTheirEntries}
use Rattle.home_laws.proofs.OutcomeLemmas.{homes_are_apart}

-- an entry that is known to be own or another's
abbrev IsSo : Directory → ℕ → Entry → Bool → Type 0
IsSo directory home entry true = IsAbout directory (asked directory entry).request home
IsSo directory home entry false = (other : ℕ) × (home ≢ other) × IsAbout directory (asked directory entry).request other

module _ (directory : Directory) (home : ℕ) (is_own : Entry → Bool) where
  -- one entry, own or another's
  one-entry : (a b : ServerState) (entry : Entry) (own : Bool) (rest behind : List Entry)
      → IsSo directory home entry own
      → home_at a home ≡ home_at b home
      → ((a' b' : ServerState) → home_at a' home ≡ home_at b' home → home_at (replay_from directory a' rest) home ≡ home_at (replay_from directory b' behind) home)
      → home_at (replay_from directory (state_after directory a (asked directory entry)) rest) home ≡ home_at (replay_from directory b (cond own (entry ∷ behind) behind)) home
  one-entry a b entry true rest behind mine same more =
      more (state_after directory a (asked directory entry)) (state_after directory b (asked directory entry)) (homes_are_apart.after directory a b (asked directory entry) home mine same)
  one-entry a b entry false rest behind theirs same more =
      more (state_after directory a (asked directory entry)) b (homes_are_apart.others directory a (asked directory entry) theirs.0 home theirs.2 theirs.1 ∙ same)

  followed : (a b : ServerState) (journal : List Entry) → AllByRecursion (IsOwnOrApart directory home is_own) journal → home_at a home ≡ home_at b home
      → home_at (replay_from directory a journal) home ≡ home_at (replay_from directory b (filter is_own journal)) home
  followed a b [] all same = same
  followed a b (entry ∷ journal) all same =
      one-entry a b entry (is_own entry) journal (filter is_own journal) all.0 same (λ a' b' same'. followed a' b' journal all.1 same')

pub homes_follow_their_entries : HomesFollowTheirEntries
homes_follow_their_entries directory a b home is_own journal all same = followed directory home is_own a b journal all same
