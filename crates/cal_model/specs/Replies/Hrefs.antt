-- Paths as this server writes them (RFC 3986, 2.1 and 3.3). What a request's target names is `Paths.TargetPaths`.
use Rattle.std.specs.Prelude.{ℕ, Bool, ◌&&◌, ◌||◌, ◌==◌, nat_le, if◌then◌else◌, List, [], ◌∷◌, ◌++◌, flat_map, codes}
use Rattle.percent_encoding.specs.Percent.{percent_encode_byte}
use Rattle.cal_model.specs.declared.path.Path.{Path}
use Rattle.cal_model.specs.declared.path.Path.TheVariants.{Root, Principal, Home, Calendar, Object}

-- the octets that stand for themselves: A-Z a-z 0-9 - . _ ~ @
abbrev pub is_kept : ℕ → Bool
is_kept octet =
    (nat_le 65 octet && nat_le octet 90) || (nat_le 97 octet && nat_le octet 122) || (nat_le 48 octet && nat_le octet 57)
    || (octet == 45) || (octet == 46) || (octet == 95) || (octet == 126) || (octet == 64)

-- a name: each other octet is `%` and its two upper-case hexadecimal digits
unfoldable pub segment : List ℕ → List ℕ
segment name = flat_map (λ octet. if is_kept octet then octet ∷ [] else percent_encode_byte octet) name

-- a path; that of a collection ends with a slash
abbrev pub href : Path → List ℕ
href Root = codes "/"
href (Principal user) = codes "/principals/" ++ (segment user ++ codes "/")
href (Home user) = codes "/calendars/" ++ (segment user ++ codes "/")
href (Calendar user calendar) = codes "/calendars/" ++ (segment user ++ (codes "/" ++ (segment calendar ++ codes "/")))
href (Object user calendar object) =
    codes "/calendars/" ++ (segment user ++ (codes "/" ++ (segment calendar ++ (codes "/" ++ segment object))))
