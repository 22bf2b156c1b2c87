-- Laws of the module `reads`: from what no shared row refuses to the reply of the definitions.
pub mod AskedContents
pub mod OwnRows
pub mod OwnAnswers
pub mod ReportPlaces
pub mod RefusalRooms
pub mod SameReplies
pub mod HeldCosts
