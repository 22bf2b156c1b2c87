-- The canonical text of an element that can stand in a body is read back as that element; so is that of each element that was read.
use Rattle.dav_write.specs.Readable.{WritingReads, ReadingGives, RoundTrip}
use Rattle.dav_write.proofs.ReadBack.Bodies.{writing_reads}
use Rattle.dav_write.proofs.ReadBack.TextSteps.{text_step}
use Rattle.dav_write.proofs.ReadBack.ElementTags.{tag_step, root_step}
use Rattle.dav_write.proofs.ReadBack.Given.{reading_gives}
use Rattle.dav_write.proofs.ReadBack.Saids.{said_given}
use Rattle.dav_write.proofs.ReadBack.TagFacts.{tag_given}
use Rattle.dav_write.proofs.ReadBack.TagParts.{tag_parts}

pub canonical_read_back : WritingReads
canonical_read_back = writing_reads text_step tag_step root_step

pub given_can_stand : ReadingGives
given_can_stand = reading_gives (tag_given tag_parts) said_given

pub round_trip : RoundTrip
round_trip octets element small body = canonical_read_back element (given_can_stand octets element small body)
