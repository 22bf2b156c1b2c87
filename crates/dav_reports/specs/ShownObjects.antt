-- An object as the caller of a report sees it (RFC 4791, 7.8 and 9.6).
use Rattle.std.specs.Prelude.{◌≡◌, ℕ, true, List, [], ◌∷◌, Some}
use Rattle.cal_model.specs.declared.path.Path.{Path}
use Rattle.cal_model.specs.Access.Privileges.{has_all, read}
use Rattle.cal_model.specs.Serving.SeenResources.{resources_seen}
use Rattle.cal_model.specs.Sight.Resources.{Resource, Asker, held_of, is_object, object}
use Rattle.cal_model.specs.State.ServerState.{Directory, ServerState}

-- who asks, where a report shows something of each object
abbrev pub asker_of : Directory → ℕ → (List ℕ → List ℕ) → Asker
asker_of directory who shown = record { directory = directory; who = who; shown = Some shown }

abbrev pub octets_of : Resource → List ℕ
octets_of (object owner within name sight octets) = octets
octets_of other = []

-- At a path there is an object that may be read, and a text is what is shown of its octets.
pub record IsShown (directory : Directory) (state : ServerState) (who : ℕ) (path : Path) (text : List ℕ) (shown : List ℕ → List ℕ) (resource : Resource) : Type 0 where
  pub there : resources_seen directory state who path ≡ resource ∷ []
  pub is_object : is_object resource ≡ true
  pub may_read : has_all (held_of resource) read ≡ true
  pub is_text : shown (octets_of resource) ≡ text
