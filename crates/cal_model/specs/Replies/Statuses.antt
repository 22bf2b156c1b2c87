-- The statuses that this server answers and their reason phrases (RFC 9110, 15; RFC 4918, 11; RFC 6585, 5).
use Rattle.std.specs.Prelude.{ℕ, ◌==◌, List, [], ◌∷◌, ◌++◌, codes, decimal, unwrap_or}
use Rattle.std.specs.Map.{lookup}

abbrev pub reasons : List (ℕ × List ℕ)
reasons =
    (200, codes "OK")
    ∷ (201, codes "Created")
    ∷ (204, codes "No Content")
    ∷ (207, codes "Multi-Status")
    ∷ (304, codes "Not Modified")
    ∷ (400, codes "Bad Request")
    ∷ (401, codes "Unauthorized")
    ∷ (403, codes "Forbidden")
    ∷ (404, codes "Not Found")
    ∷ (405, codes "Method Not Allowed")
    ∷ (412, codes "Precondition Failed")
    ∷ (413, codes "Content Too Large")
    ∷ (415, codes "Unsupported Media Type")
    ∷ (424, codes "Failed Dependency")
    ∷ (431, codes "Request Header Fields Too Large")
    ∷ (501, codes "Not Implemented")
    ∷ (503, codes "Service Unavailable")
    ∷ (505, codes "HTTP Version Not Supported")
    ∷ (507, codes "Insufficient Storage")
    ∷ []

-- the reason phrase of a status; another status has none
unfoldable pub reason : ℕ → List ℕ
reason status = unwrap_or (lookup (λ known. known == status) reasons) []

-- `HTTP/1.1 200 OK`: the status line of a reply (RFC 9112, 4) and the content of `D:status` (RFC 4918, 14.28)
abbrev pub status_line : ℕ → List ℕ
status_line status = codes "HTTP/1.1 " ++ (decimal status ++ (codes " " ++ reason status))
