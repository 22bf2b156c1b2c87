-- The names in a path that is found are short.
use Rattle.std.proofs.Common.{◌≡◌, ℕ, ◌≤◌, refl, Bool, true, false, ◌&&◌, List, [], length, Option, Some, None, sym, subst, ◌∙◌, inl, inr}
use Rattle.std.specs.Prelude.{IsSome, IsTrue, bytes_eq, is_some}
use Rattle.std.proofs.lemmas.Bool.{false≢true, leb-true}
use Rattle.std.proofs.lemmas.List.Elements.{All-get_or}
use Rattle.std.proofs.lemmas.List.Quantifiers.{position-Some}
use Rattle.std.proofs.lemmas.Slice.Eq.{bytes_eq-Decides}
use Rattle.std.proofs.Math.ListN.{get_or}
use Rattle.cal_model.specs.declared.path.Path.{Path}
use Rattle.cal_model.specs.declared.path.Path.TheVariants.{Root, Principal, Home, Calendar, Object}
use Rattle.cal_model.specs.Paths.TargetPaths.{is_path, is_resource_name}
use Rattle.cal_model.specs.State.ServerState.{Directory, user_number, group_number}
use Rattle.cal_model.specs.Users.UsersFile.{Group}
use Rattle.dav_write.specs.ShortPaths.{HasShortNames}
use Rattle.request_checks.specs.declared.scenes.Scene.{Scene}
use Rattle.request_checks.specs.Scenes.{IsFoundAt}
use Rattle.request_checks.specs.Sightings.{AreShort, names_group, user_seen}

and_first : (a b : Bool) → (a && b) ≡ true → a ≡ true
and_first true b e = refl
and_first false b e = e

and_last : (a b : Bool) → (a && b) ≡ true → b ≡ true
and_last true b e = e
and_last false b e = absurd (false≢true e)

short_name : (name : List ℕ) → is_resource_name name ≡ true → length name ≤ 200
short_name name e = leb-true (length name) 200 (and_last _ _ (and_first _ _ (and_first _ _ (and_first _ _ (and_first _ _ e)))))

-- a user's name, where users' names are
short_user : (directory : Directory) (name : List ℕ) (user : Option ℕ) → AreShort directory → user ≡ user_number directory name → IsSome user → length name ≤ 200
short_user directory name None short e there = absurd (false≢true there)
short_user directory name (Some number) short e there =
    let at = position-Some (bytes_eq name) directory.names number [] (sym e) in
    let same : name ≡ get_or directory.names number [] = (bytes_eq-Decides name (get_or directory.names number [])).0 at.1 in
    subst (λ (n : List ℕ). length n ≤ 200) (sym same) (All-get_or (λ (n : List ℕ). length n ≤ 200) directory.names number [] at.0 short.0)

-- and a group's
short_group : (directory : Directory) (name : List ℕ) → AreShort directory → is_some (group_number directory name) ≡ true → length name ≤ 200
short_group directory name short there = by (group_number directory name) refl there where
  by : (o : Option ℕ) → group_number directory name ≡ o → is_some o ≡ true → length name ≤ 200
  by None none there = absurd (false≢true there)
  by (Some number) is there =
      let nobody : Group = record { name = []; members = [] } in
      let at = position-Some (λ (group : Group). bytes_eq name group.name) directory.groups number nobody is in
      let same : name ≡ (get_or directory.groups number nobody).name = (bytes_eq-Decides name (get_or directory.groups number nobody).name).0 at.1 in
      subst (λ (n : List ℕ). length n ≤ 200) (sym same) (All-get_or (λ (group : Group). length group.name ≤ 200) directory.groups number nobody at.0 short.1)

pub short_names : (directory : Directory) (shown : Scene) (path : Path) → AreShort directory → shown.user ≡ user_seen directory path → (shown.home ≡ true → IsSome shown.user)
    → shown.group ≡ names_group directory path → IsTrue (is_path path) → IsFoundAt shown path → HasShortNames path
short_names directory shown Root short known seen group is there = tt
short_names directory shown (Principal name) short known seen group is (inl user) = short_user directory name shown.user short known user
short_names directory shown (Principal name) short known seen group is (inr there) = short_group directory name short (sym group ∙ there)
short_names directory shown (Home name) short known seen group is there = short_user directory name shown.user short known (seen there)
short_names directory shown (Calendar name within) short known seen group is there = (short_user directory name shown.user short known (seen there), short_name within (and_last _ _ is))
short_names directory shown (Object name within object) short known seen group is there =
    (short_user directory name shown.user short known (seen there), short_name within (and_last _ _ (and_first _ _ is)), short_name object (and_last _ _ is))
