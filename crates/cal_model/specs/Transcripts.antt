-- What a script of frames prints, on sixteen connections with workers beside them. Scripts and frames are this project's own and stand in no standard.
-- Given: the users and the octets of a script. Transcript is the answer. Read before it: ScriptFrames (which octets are which frames), ConnectionAnswers (what the octets of a connection complete). ConnectionLaws says that this stays whatever follows, FrameLaws that an input has one cut into frames, TranscriptLaws that a script goes on from where its frames leave it.
pub mod ScriptFrames
pub mod FrameLaws
pub mod ConnectionAnswers
pub mod ConnectionLaws
pub mod Transcript
pub mod TranscriptLaws
