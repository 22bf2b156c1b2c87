-- Where a script stands behind its frames, and that it goes on from there: what one more frame prints stands behind what was printed.
-- Given: the users, where the script stands, and its frames so far. Scripts are this project's own.
use Rattle.std.specs.Prelude.{◌≡◌, ℕ, List, [], ◌∷◌, ◌++◌}
use Rattle.cal_model.specs.Transcripts.ScriptFrames.{Frame}
use Rattle.cal_model.specs.Transcripts.Transcript.{Standing, Turn, Follows}
use Rattle.cal_model.specs.Users.UsersFile.{Users}

-- the output follows from the frames, and leaves the script there
abbrev pub Leads : Users → Standing → List Frame → List ℕ → Standing → Type 0
Leads users standing [] output after = (output ≡ []) × (after ≡ standing)
Leads users standing (frame ∷ frames) output after =
    (printed : List ℕ) × (rest : List ℕ) × (next : Standing)
    × (output ≡ printed ++ rest) × Turn users standing frame printed next × Leads users next frames rest after

-- it follows then, and one more frame goes on from where the script stands
pub record ScriptsGoOn : Type 0 where
  pub follows : (users : Users) (standing after : Standing) (frames : List Frame) (output : List ℕ) → Leads users standing frames output after → Follows users standing frames output
  pub one_more : (users : Users) (standing after next : Standing) (frames : List Frame) (frame : Frame) (output printed : List ℕ)
      → Leads users standing frames output after → Turn users after frame printed next → Leads users standing (frames ++ frame ∷ []) (output ++ printed) next
