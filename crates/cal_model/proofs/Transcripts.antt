-- Laws of frames, connections and scripts: an input has one cut into frames; what a stream completes is one list, and stays; a script goes on from where its frames leave it. For the crate of scripts and the sessions.
pub mod ConnectionAnswerLaws
pub mod FrameCuts
pub mod GrowingScripts
