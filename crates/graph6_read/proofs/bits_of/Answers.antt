-- `graph6_read::bits_of` meets its contract: what is behind the size is unpacked, and there is room for it.
use Rattle.slices.proofs.PartSum.{rest}
use Rattle.graph6.specs.Format.{size_length}
use Rattle.graph6.proofs.Text.{framed-facts}
use Rattle.graph6_read.proofs.Bodies.{body_room}
use Rattle.graph6_read.proofs.bits_of.Goals as goal

pub unpack-requires : goal.unpack-requires
unpack-requires c =
    let f = framed-facts c.args.text.now c.requires in
    rw (c.size_length-head.ensures.0, rest c.args.text.now (size_length c.args.text.now)) (body_room c.args.text.now f)

pub returns : goal.returns
returns c =
    let f = framed-facts c.args.text.now c.requires in
    rw (c.size_length-head.ensures.0, rest c.args.text.now (size_length c.args.text.now)) at c.unpack.ensures
