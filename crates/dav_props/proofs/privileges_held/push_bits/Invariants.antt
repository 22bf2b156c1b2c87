use Rattle.std.proofs.Common.{◌≡◌, ◌++◌, drop, length, take}
use Rattle.dav_props.specs.Contents.{bit_pieces}
use Rattle.dav_props.proofs.privileges_held.push_bits.Given as goal

-- with the elements of the bits to come, the buffer will hold those of all
abbrev pub invariant-bits : goal.invariant-bits
invariant-bits l = record {
  text : l.out ++ bit_pieces l.set (drop l.bit-index l.bits) ≡ l.initial.out ++ bit_pieces l.set l.bits;
  front : take (length l.initial.out) l.out ≡ l.initial.out;
}
