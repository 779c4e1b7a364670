-- `graph6_read::read_framed` meets its contract: each check decides as the definition has it.
use mathlib.Core.Path.{refl, ap}
use borrow.Author.Tests.{le-leb, lt-leb}
use Rattle.answer.specs.declared.ReadAnswer.TheVariants.{Refused}
use Rattle.graph6.proofs.Text.{framed-facts}
use Rattle.graph6_read.proofs.Bodies.{bits_length, bits_few, bits_list, padding_same, rows_list}
use Rattle.graph6_read.proofs.read_framed.Goals as goal

pub returns-then-not-zero_behind : goal.returns-then-not-zero_behind
returns-then-not-zero_behind c =
    let t = c.args.text.now in
    let padded = rw (c.size_of-n.ensures.0, c.bits_of-bits.ensures, padding_same t (framed-facts t c.requires)) at c.zero_behind.ensures in
    record {
      value = rw ((rw padded at c.if-not-zero_behind.true)) (ap Refused c.refuse.ensures);
      output_after = rw ((rw padded at c.if-not-zero_behind.true)) (refl);
    }

pub list_length-length-requires : goal.list_length-length-requires
list_length-length-requires c =
    let t = c.args.text.now in
    let f = framed-facts t c.requires in
    rw (c.size_of-n.ensures.0, c.bits_of-bits.ensures) (f.few, bits_length t f, bits_few t f)

pub returns-then-output-length : goal.returns-then-output-length
returns-then-output-length c =
    let t = c.args.text.now in
    let f = framed-facts t c.requires in
    let padded = rw (c.size_of-n.ensures.0, c.bits_of-bits.ensures, padding_same t f) at c.zero_behind.ensures in
    let size = rw (c.size_of-n.ensures.0, c.bits_of-bits.ensures, bits_list t f) at c.list_length-length.ensures in
    record {
      value = rw ((rw padded at c.if-not-zero_behind.false), lt-leb _ _ (rw size at c.if-output-length.true)) (ap Refused c.refuse-then-output-length.ensures);
      output_after = rw ((rw padded at c.if-not-zero_behind.false), lt-leb _ _ (rw size at c.if-output-length.true)) (refl);
    }

pub put_rows-requires : goal.put_rows-requires
put_rows-requires c =
    let t = c.args.text.now in
    let f = framed-facts t c.requires in
    let size = rw (c.size_of-n.ensures.0, c.bits_of-bits.ensures, bits_list t f) at c.list_length-length.ensures in
    rw (c.size_of-n.ensures.0, c.bits_of-bits.ensures, rows_list t f) (f.few, rw size at c.if-output-length.false)

pub returns : goal.returns
returns c =
    let t = c.args.text.now in
    let f = framed-facts t c.requires in
    let padded = rw (c.size_of-n.ensures.0, c.bits_of-bits.ensures, padding_same t f) at c.zero_behind.ensures in
    let size = rw (c.size_of-n.ensures.0, c.bits_of-bits.ensures, bits_list t f) at c.list_length-length.ensures in
    record {
      value = rw ((rw padded at c.if-not-zero_behind.false), le-leb _ _ (rw size at c.if-output-length.false), c.size_of-n.ensures.0, size) (refl);
      output_after = rw ((rw padded at c.if-not-zero_behind.false), le-leb _ _ (rw size at c.if-output-length.false)) (rw (c.size_of-n.ensures.0, c.bits_of-bits.ensures, rows_list t f) at c.put_rows.ensures);
    }
