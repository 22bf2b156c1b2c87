-- The requests of a stream of octets (RFC 9112): heads, bodies in chunks, and what stands at the front of some octets.
-- Given: the octets of a connection so far. Gives: the requests as they stand there, one after the other, and what is left. What a request asks for is chapter Requests.
-- Read HeadFields for the faults of a head and StreamRequests for the whole. What a body in chunks is stands in ChunkGrammar; Chunks reads it from the front, and is proved to read just that. HeadGrammar says the same of heads, and StreamLaws that each stream has exactly one reading, which stays whatever follows.
pub mod WireLimits
pub mod Heads
pub mod HeadFields
pub mod HeadGrammar
pub mod Chunks
pub mod ChunkGrammar
pub mod StreamRequests
pub mod StreamLaws
