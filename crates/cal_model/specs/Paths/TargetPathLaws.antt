-- The laws of paths: what a target names is a path, and the written form of a path names that path.
use Rattle.std.specs.Prelude.{◌≡◌, ℕ, List, Some, IsTrue}
use Rattle.base64.specs.GeneralPurpose.{IsBytes}
use Rattle.cal_model.specs.declared.path.Path.{Path}
use Rattle.cal_model.specs.declared.path.Path.TheVariants.{Root, Principal, Home, Calendar, Object}
use Rattle.cal_model.specs.Replies.Hrefs.{href}
use Rattle.cal_model.specs.Paths.TargetPaths.{target_path, is_path}

-- its names are of octets
abbrev pub HasOctets : Path → Type 0
HasOctets Root = Unit {0}
HasOctets (Principal user) = IsBytes user
HasOctets (Home user) = IsBytes user
HasOctets (Calendar user calendar) = IsBytes user × IsBytes calendar
HasOctets (Object user calendar object) = IsBytes user × IsBytes calendar × IsBytes object

abbrev pub HrefsAreReadBack : Type 0
HrefsAreReadBack = (path : Path) → HasOctets path → IsTrue (is_path path) → target_path (href path) ≡ Some path

abbrev pub TargetsNamePaths : Type 0
TargetsNamePaths = (target : List ℕ) (path : Path) → IsBytes target → target_path target ≡ Some path → IsTrue (is_path path)

-- so a path that octets name is read back from its written form
abbrev pub PathsAreReadBack : Type 0
PathsAreReadBack = (target : List ℕ) (path : Path) → IsBytes target → target_path target ≡ Some path → target_path (href path) ≡ Some path
