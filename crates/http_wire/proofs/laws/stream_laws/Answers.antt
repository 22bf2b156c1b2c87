use Rattle.cal_model.proofs.Streams.HeadLaws.{heads_are_the_grammar}
use Rattle.cal_model.proofs.Streams.ChunkLines.{lines_are_the_grammar}
use Rattle.http_wire.proofs.laws.stream_laws.Goals as goal

pub returns-clause-heads : goal.returns-clause-heads
returns-clause-heads c = heads_are_the_grammar

pub returns-clause-lines : goal.returns-clause-lines
returns-clause-lines c = lines_are_the_grammar
