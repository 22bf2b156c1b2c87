mod PieceExamples
pub mod PlainListLaws
pub mod UsersAloneLaws
