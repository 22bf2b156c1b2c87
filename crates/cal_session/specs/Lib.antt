-- What a session promises. Read first Turns: what one answered request is, and what a list of them is, by the journal at the end. Then Connections: which requests of the octets that were taken are answered, and what is written. SessionStates: what stands round a session, and what is known at one time. Sessions puts all together, and says of each way in which a session ends when it comes.
-- What a kept book promises stands in KeptBooks, which says what its file has, and Loading, which says how it comes from a file.
-- The others are for the functions: AskedTurns has one turn of the lock, UnderWay a session that goes on, KeptSteps an entry that is kept, and LoadSteps a file that is read.
pub mod Turns
pub mod Connections
pub mod SessionStates
pub mod Sessions
pub mod KeptBooks
pub mod Loading
pub mod AskedTurns
pub mod UnderWay
pub mod WrittenReplies
pub mod KeptSteps
pub mod LoadSteps
