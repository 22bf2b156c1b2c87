-- What of a list of pieces stays when one is added or an object's are dropped, and what is found then.
pub mod PieceListLaws
pub mod FoundPieces
