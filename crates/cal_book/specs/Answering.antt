-- What a request that only reads is answered once no shared row refuses it (OwnReplies), what it costs (ReadingCost), and that it costs nothing where the rows that it needs are held (HeldReadings).
pub mod OwnReplies
pub mod ReadingCost
pub mod HeldReadings
