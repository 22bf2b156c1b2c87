-- The spellings of requests, one behind the other.
use Rattle.std.proofs.Common.{List, [], ◌∷◌, ◌++◌, ℕ, refl, sym, subst}
use Rattle.cal_model.specs.declared.wire.WireRequest.{WireRequest}
use Rattle.cal_model.specs.Streams.StreamRequests.{Spells, Begins}

pub spells_more : (stream rest behind : List ℕ) (requests : List WireRequest) (wire : WireRequest) → Spells stream requests rest → Begins rest wire behind → Spells stream (requests ++ wire ∷ []) behind
spells_more stream rest behind [] wire s b = (behind, subst (λ octets. Begins octets wire behind) (sym s) b, refl)
spells_more stream rest behind (first ∷ more) wire s b = (s.0, s.1, spells_more s.0 rest behind more wire s.2 b)

pub spells_on : (stream rest end : List ℕ) (requests later : List WireRequest) → Spells stream requests rest → Spells rest later end → Spells stream (requests ++ later) end
spells_on stream rest end [] later s t = subst (λ octets. Spells octets later end) (sym s) t
spells_on stream rest end (first ∷ more) later s t = (s.0, s.1, spells_on s.0 rest end more later s.2 t)
